-- What a step sends that handles a value, in bytes. Assumes nothing.
use Prim.Native.Nat.{ℕ, zero, suc, ◌-◌, ◌≤◌}
use mathlib.Core.Path.{◌≡◌, refl, sym, ap, ◌∙◌}
use mathlib.Core.Bool.{Bool, true, false}
use mathlib.Core.List.{List, [], ◌++◌, append_assoc, append-nil}
use native.Mathlib.Omega.{arith}
use lib.Dec.{leb}
use lib.ListN.{get_or, replicate}
use borrow.Author.Tests.{leb-true, lt-ltb, le-ltb}
use Rattle.octets.specs.Answer.{returned}
use Rattle.octets.specs.Test.{pick, both}
use Rattle.octets.proofs.Test.{both_left, true-false}
use Rattle.view.specs.Size.{nodes}
use Rattle.view.specs.View.{no_view, view_bytes}
use Rattle.view.specs.declared.Report.{Report}
use Rattle.wire.specs.Codec.{decode, view_part}
use Rattle.wire.specs.Layout.{encode, allowed, is_tag}
use Rattle.wire.specs.declared.Message.TheVariants.{Value}
use Rattle.wire.proofs.RoundTrip.{read_only}
use Rattle.table.specs.Table.{tag_of, cells, cell, heard_of}
use Rattle.record.specs.Record.{blank}
use Rattle.record.specs.Usable.{is_open}
use Rattle.record.specs.declared.Node.{Node}
use Rattle.record.specs.declared.Wait.{Wait}
use Rattle.record.specs.declared.Wait.TheVariants.{Idle, Reading, Writing, Comparing, Borrowing}
use Rattle.step.specs.declared.Outbox.{Outbox}
use Rattle.step.specs.declared.Sent.{Sent}
use Rattle.step.specs.declared.Sent.TheVariants.{Nothing, One}
use Rattle.step.specs.declared.Step.{Step}
use Rattle.step.specs.Claims.{MustWait}
use Rattle.step.specs.Move.{move_on, message_step}
use Rattle.step.specs.React.{is_new, received, react}
use Rattle.step.specs.Stale.{stale_message}
use Rattle.step.specs.Step.{listed}
use Rattle.step.proofs.Exclusive.{handler-first}
use Rattle.step.proofs.Waits.{waits-still}
use Rattle.calls.specs.Bytes.{run, out_bytes}
use Rattle.emit.proofs.Runs.{run_none, run-one, run-append}
use Rattle.calls_bytes.specs.Forward.{operation_bytes, sent_on}

-- the bytes of an outbox are those of the handler's messages, then those of the open operation's
out-bytes : (n : ℕ) (o : Outbox)
    → out_bytes n o ≡ run (view_bytes n o.view) (listed o.handler) ++ operation_bytes n o
out-bytes n o =
    let v = view_bytes n o.view in
    ap (run v) (append_assoc (listed o.handler) (listed o.reading) (listed o.comparing))
    ∙ run-append v (listed o.handler) (listed o.reading ++ listed o.comparing)

-- a value has the same bytes whatever view is beside it
value-bytes : (t w : ℕ) (p : Report) (u v : List ℕ) → encode (Value t w p) u ≡ encode (Value t w p) v
unfolding encode
value-bytes t w p u v = refl

-- the handler sends the value where it is new, in the bytes that it was received in
handled : (v b : List ℕ) (t w : ℕ) (p : Report) (e : encode (Value t w p) v ≡ b) (new : Bool)
    → run v (listed (pick new (One (Value t w p)) Nothing)) ≡ pick new b []
handled v b t w p e true = run-one v (Value t w p) ∙ e
handled v b t w p e false = run_none v

value-handler : (c : Node) (s t w : ℕ) (p : Report)
    → (message_step c.f c s (Value t w p) no_view).outbox.handler ≡ pick (is_new c w t) (One (Value t w p)) Nothing
unfolding message_step react
value-handler c s t w p = handler-first c.f (react c s (Value t w p) no_view)

pub step-sends : (c : Node) (s : ℕ) (b : List ℕ) (t w : ℕ) (p : Report) → decode c.n b ≡ returned (Value t w p)
    → out_bytes c.n (message_step c.f c s (Value t w p) no_view).outbox ≡ sent_on c s b t w p
step-sends c s b t w p d =
    let o = (message_step c.f c s (Value t w p) no_view).outbox in
    let v = view_bytes c.n o.view in
    let e = value-bytes t w p v (view_part c.n b) ∙ sym (read_only c.n b (Value t w p) d).bytes in
    out-bytes c.n o
    ∙ ap (λ (z : Sent). run v (listed z) ++ operation_bytes c.n o) (value-handler c s t w p)
    ∙ ap (λ (z : List ℕ). z ++ operation_bytes c.n o) (handled v b t w p e (is_new c w t))

-- ---- where no operation is open

closed-waits : (f : ℕ) (c : Node) (w : Wait) → is_open w ≡ false → MustWait f c w
closed-waits f c Idle h = tt
closed-waits f c (Reading o a m) h = true-false true refl h
closed-waits f c (Writing k i r a) h = true-false true refl h
closed-waits f c (Comparing k i r) h = true-false true refl h
closed-waits f c (Borrowing k r) h = true-false true refl h

module _ (c : Node) (s t w : ℕ) (p : Report) (h : is_open c.wait ≡ false) where
  -- it does not move on
  pub rests : message_step c.f c s (Value t w p) no_view ≡ react c s (Value t w p) no_view
  unfolding message_step move_on react received
  rests =
      let d = react c s (Value t w p) no_view in
      let q = waits-still c.f d c.wait (closed-waits c.f d.node c.wait h) in
      rw (q.0, q.1, q.2, q.3) refl

  -- and sends nothing
  pub alone : (b : List ℕ) → sent_on c s b t w p ≡ pick (is_new c w t) b []
  unfolding react
  alone b =
      ap (λ (z : Step). pick (is_new c w t) b [] ++ operation_bytes c.n z.outbox) rests
      ∙ ap (λ (z : List ℕ). pick (is_new c w t) b [] ++ z) (run_none (view_bytes c.n no_view))
      ∙ append-nil (pick (is_new c w t) b [])

-- ---- at a fresh record

-- no tag in a table of zeros
no-tag : (k i : ℕ) → get_or {A = ℕ} (replicate k 0) i 0 ≡ 0
no-tag zero i = refl
no-tag (suc k) zero = refl
no-tag (suc k) (suc i) = no-tag k i

module _ (n f own s t w : ℕ) (p : Report) (good : allowed n (Value t w p) [] ≡ true) where
  low : 1 ≤ t
  unfolding allowed
  low =
      leb-true 1 t
      (both_left (leb 1 t) (is_tag t) (both_left (both (leb 1 t) (is_tag t)) (both (leb 1 w) (leb w n)) good))

  last_none : tag_of no_view w ≡ 0
  last_none = no-tag nodes (w - 1)

  pub new : is_new (blank n f own) w t ≡ true
  new = rw last_none (lt-ltb 0 t low)

  pub timely : stale_message (blank n f own) s (Value t w p) ≡ false
  timely =
      let h : heard_of (replicate cells 0) s w ≡ 0 = no-tag cells (cell s w) in
      rw (last_none, h, le-ltb t 0 (omega arith), lt-ltb 0 t low) refl
