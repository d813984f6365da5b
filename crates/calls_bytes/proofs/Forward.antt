-- What is forwarded is the value message received: the claims of specs/Forward. Assumes nothing.
use Prim.Native.Nat.{ℕ, ◌≤◌}
use mathlib.Core.Path.{◌≡◌, refl, sym, ap, ◌∙◌, subst}
use mathlib.Core.Bool.{Bool, true}
use mathlib.Core.List.{List, []}
use native.Mathlib.Omega.{arith}
use lib.Dec.{leb, ltb}
use lib.ListN.{length, take, length-replicate}
use borrow.Author.Tests.{le-leb, le-ltb, eq-eqb}
use Rattle.octets.specs.Answer.{Answer, returned, refused}
use Rattle.octets.specs.Bytes.{part}
use Rattle.octets.specs.Test.{pick, both}
use Rattle.octets.proofs.Put.{part_same}
use Rattle.octets.proofs.Test.{both_true}
use Rattle.view.specs.Report.{no_report}
use Rattle.view.specs.Size.{nodes}
use Rattle.view.specs.View.{no_view}
use Rattle.view.specs.declared.Report.{Report}
use Rattle.wire.specs.Codec.{decode, view_part}
use Rattle.wire.specs.Layout.{encode, allowed}
use Rattle.wire.specs.declared.Message.{Message}
use Rattle.wire.specs.declared.Message.TheVariants.{Value}
use Rattle.wire.proofs.RoundTrip.{read_back}
use Rattle.table.specs.Table.{cells}
use Rattle.record.specs.Record.{blank}
use Rattle.record.specs.Usable.{sizes_within, usable}
use Rattle.record.specs.declared.Node.{Node}
use Rattle.record.proofs.Fresh.{fresh-usable}
use Rattle.record.proofs.Parts.{parts}
use Rattle.step.specs.declared.Ending.{Ending}
use Rattle.step.specs.declared.Ending.TheVariants.{None}
use Rattle.step.specs.declared.Step.{Step}
use Rattle.step.specs.Move.{message_step}
use Rattle.step.specs.React.{is_new, react}
use Rattle.step.specs.Stale.{stale_message}
use Rattle.step.specs.Told.{nothing}
use Rattle.step.proofs.Numbers.{on-pick}
use Rattle.step.proofs.Theorems.{message-n}
use Rattle.calls.specs.Bytes.{out_bytes}
use Rattle.calls.specs.CallResult.{CallResult}
use Rattle.calls.specs.Entry as N
use Rattle.calls.proofs.Refusals.{message-read, taken-goes}
use Rattle.region.specs.Record.{record_size, record_of, record_bytes, codes_known}
use Rattle.region.proofs.Back.{Sized, SizedNode, record-back, record-known}
use Rattle.region.proofs.Saved.{length-record_bytes}
use Rattle.calls_bytes.specs.Entry.{LentResult, fits, in_bytes, at_record, fresh, message}
use Rattle.calls_bytes.specs.Forward as claim
use Rattle.calls_bytes.specs.Forward.{sent_on}
use Rattle.calls_bytes.proofs.Cases.{at-known}
use Rattle.calls_bytes.proofs.Handled.{step-sends, rests, alone, new, timely}
use Rattle.calls_bytes.proofs.Values.{no_other, own-only}

never : {X : Type 0} {x : Ending} {k : ℕ} → ◌≡◌ {A = Answer Ending} (refused k) (returned x) → X
never h = absurd (let z : ◌≡◌ {A = ℕ} 0 1 = cc in omega arith)

-- ---- the calls

module _ (sent : List ℕ) where
  -- where a call is accepted, this is what it sends
  abbrev Sends : CallResult → Type 0
  Sends e = (x : Ending) → e.ending ≡ returned x → take e.length e.out ≡ sent

  abbrev SendsIn : LentResult → Type 0
  SendsIn e = (x : Ending) → e.ending ≡ returned x → take e.length e.out ≡ sent

  let-out-sends : (s : Step) (out : List ℕ) → out_bytes s.node.n s.outbox ≡ sent → Sends (N.let_out s out)
  unfolding N.let_out part
  let-out-sends s out h x e =
      let z = out_bytes s.node.n s.outbox in part_same out 0 z (length z) (omega arith) refl ∙ h

  at-sends : (r out : List ℕ) (call : Node → CallResult) → Sends (call (record_of r)) → SendsIn (at_record r out call)
  unfolding at_record in_bytes
  at-sends r out call h =
      on-pick SendsIn (fits N.least_output r (length out)) _ _
      (λ e. on-pick SendsIn (codes_known r) _ _ (λ e. h) (λ e x q. never q))
      (λ e x q. never q)

message-sends : (c : Node) (s : ℕ) (b out : List ℕ) (t w : ℕ) (p : Report) → decode c.n b ≡ returned (Value t w p)
    → Sends (sent_on c s b t w p) (N.message c s b out)
unfolding N.message N.taken
message-sends c s b out t w p d =
    let m = Value t w p in
    let S = Sends (sent_on c s b t w p) in
    let step = message_step c.f c s m no_view in
    on-pick S (ltb (length out) N.least_output) _ _ (λ e x q. never q) (λ e.
    on-pick S (usable c) _ _ (λ e.
    on-pick S (both (leb 1 s) (leb s c.n)) _ _ (λ e.
    subst (λ (a : Answer Message). S (N.taken c s (view_part c.n b) out a)) (sym d)
    (on-pick S (stale_message c s m) _ _ (λ e x q. never q) (λ e.
    let-out-sends (sent_on c s b t w p) step out
    (ap (λ (n : ℕ). out_bytes n step.outbox) (message-n c.f c s m no_view) ∙ step-sends c s b t w p d))))
    (λ e x q. never q))
    (λ e x q. never q))

message-in : (r : List ℕ) (s : ℕ) (b out : List ℕ) (t w : ℕ) (p : Report) (x : Ending)
    → (message r s b out).ending ≡ returned x → decode (record_of r).n b ≡ returned (Value t w p)
    → take (message r s b out).length (message r s b out).out ≡ sent_on (record_of r) s b t w p
message-in r s b out t w p x e d =
    at-sends (sent_on (record_of r) s b t w p) r out (λ c. N.message c s b out)
    (message-sends (record_of r) s b out t w p d) x e

-- ---- a value at a fresh record

none-sized : Sized no_view
none-sized = record { tags = length-replicate {A = ℕ} nodes 0; reports = length-replicate nodes no_report }

module _ (n f own s t w : ℕ) (p : Report) (r out : List ℕ) (sizes : sizes_within n f own ≡ true)
    (sender : both (leb 1 s) (leb s n) ≡ true) (good : allowed n (Value t w p) [] ≡ true)
    (long : length r ≡ record_size)
    (room : N.least_output ≤ length out) where
  abbrev c : Node
  c = blank n f own

  abbrev m : Message
  m = Value t w p

  abbrev b : List ℕ
  b = encode m []

  abbrev made : List ℕ
  made = (fresh n f own r).bytes

  c-usable : usable c ≡ true
  c-usable = fresh-usable n f own sizes

  c-sized : SizedNode c
  c-sized =
      record {
        heard = length-replicate {A = ℕ} cells 0;
        last = none-sized;
        atmax = none-sized;
        atround = none-sized;
        keptview = none-sized;
      }

  fresh-is : fresh n f own r
      ≡ record { answer = nothing; ending = returned None; bytes = record_bytes c; length = 0; out = [] }
  unfolding fresh N.fresh in_bytes
  fresh-is = rw (sizes, eq-eqb (length r) record_size long) refl

  made-is : made ≡ record_bytes c
  made-is = ap (λ (z : LentResult). z.bytes) fresh-is

  made-record : record_of made ≡ c
  made-record = ap record_of made-is ∙ record-back c c-sized

  read : decode n b ≡ returned m
  read =
      let h = parts c c-usable in
      read_back n m [] (both_true (le-leb 1 n h.n-low) (le-leb n nodes h.n-high)) good

  goes : message made s b out ≡ in_bytes made (N.let_out (message_step f c s m no_view) out)
  goes =
      at-known made out (λ (d : Node). N.message d s b out)
      (both_true (eq-eqb (length made) record_size (ap (λ (z : List ℕ). length z) made-is
      ∙ length-record_bytes c c-sized.heard)) (le-leb N.least_output (length out) room))
      (ap codes_known made-is ∙ record-known c c-sized)
      ∙ ap (λ (d : Node). in_bytes made (N.message d s b out)) made-record
      ∙ ap (in_bytes made)
      (message-read c s b out (le-ltb (length out) N.least_output room) c-usable sender m read
      ∙ taken-goes c s (view_part n b) out m (timely n f own s t w p good))

  pub at-fresh : ((message made s b out).ending ≡ returned None) × (is_new (record_of made) w t ≡ true)
      × (take (message made s b out).length (message made s b out).out ≡ b)
  unfolding in_bytes N.let_out react
  at-fresh =
      let e : (message made s b out).ending ≡ returned None =
      ap (λ (z : LentResult). z.ending) goes ∙ ap (λ (z : Step). returned z.ending) (rests c s t w p refl) in (
        e,
        ap (λ (z : Node). is_new z w t) made-record ∙ new n f own s t w p good,
        message-in made s b out t w p None e (ap (λ (z : Node). decode z.n b) made-record ∙ read)
            ∙ ap (λ (z : Node). sent_on z s b t w p) made-record ∙ alone c s t w p refl b
            ∙ ap (λ (z : Bool). pick z b []) (new n f own s t w p good),
      )

pub forwards : claim.Forwards
forwards = record {
  by_value = λ c s b out x t w p e d. message-sends c s b out t w p d x e;
  on-bytes = λ r s b out x t w p. message-in r s b out t w p x;
  alone = λ c s b t w p h. alone c s t w p h b;
  no_other = no_other;
  own-only = own-only;
  at-fresh = at-fresh;
}
