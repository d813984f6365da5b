-- Which values a step sends: its handler the one that it handles, the open operation the node's own. Assumes nothing.
use Prim.Native.Nat.{ℕ, max}
use mathlib.Core.Path.{◌≡◌, refl}
use mathlib.Core.List.{List, [], ◌∷◌, ◌++◌}
use lib.Dec.{leb, ltb, eqb}
use Rattle.view.specs.Size.{limit}
use Rattle.view.specs.declared.Report.{Report}
use Rattle.view.specs.declared.View.{View}
use Rattle.wire.specs.declared.Message.{Message}
use Rattle.wire.specs.declared.Message.TheVariants.{Read, ReadAnswer, Write, WriteAnswer, Echo, Value, Good}
use Rattle.table.specs.Quorum.{members_in, is_quorum}
use Rattle.record.specs.declared.Node.{Node}
use Rattle.record.specs.declared.Operation.TheVariants.{Update, Scan}
use Rattle.record.specs.declared.Wait.{Wait}
use Rattle.record.specs.declared.Wait.TheVariants.{Idle, Reading, Writing, Comparing, Borrowing}
use Rattle.step.specs.declared.Sent.{Sent}
use Rattle.step.specs.declared.Step.{Step}
use Rattle.step.specs.Move.{agreement, opened, after_read, read_pass, write_pass, after_good, after_failed}
use Rattle.step.specs.Move.{compare_pass}
use Rattle.step.specs.Move.{borrow_pass, reads, writes, compares, move_on, message_step}
use Rattle.step.specs.React.{is_new, raised, received, keep, react}
use Rattle.step.specs.Step.{listed}
use Rattle.step.proofs.Numbers.{on-pick}

-- the values of a list are such
module _ (Such : (t w : ℕ) → Report → Type 0) where
  abbrev SuchValue : Message → Type 0
  SuchValue (Value t w p) = Such t w p
  SuchValue (Read q) = Unit {0}
  SuchValue (ReadAnswer q t) = Unit {0}
  SuchValue (Write q t) = Unit {0}
  SuchValue (WriteAnswer q t) = Unit {0}
  SuchValue (Echo t) = Unit {0}
  SuchValue (Good t) = Unit {0}

  abbrev Values : List Message → Type 0
  Values [] = Unit {0}
  Values (m ∷ ms) = SuchValue m × Values ms

  value_in : (before : List Message) (t w : ℕ) (p : Report) (later : List Message)
      → Values (before ++ Value t w p ∷ later) → Such t w p
  value_in [] t w p later h = h.0
  value_in (m ∷ ms) t w p later h = value_in ms t w p later h.1

  values-both : (xs ys : List Message) → Values xs → Values ys → Values (xs ++ ys)
  values-both [] ys h k = k
  values-both (m ∷ xs) ys h k = (h.0, values-both xs ys h.1 k)

-- ---- the handlers

abbrev Handled : Message → Sent → Type 0
Handled m x = Values (λ t w p. m ≡ Value t w p) (listed x)

handler-values : (c : Node) (s : ℕ) (m : Message) (v : View) → Handled m (react c s m v).outbox.handler
unfolding react
handler-values c s (Read q) v = (tt, tt)
handler-values c s (ReadAnswer q t) v = tt
handler-values c s (Write q t) v =
    on-pick (Handled (Write q t)) (ltb c.maxtag t) _ _ (λ e. (tt, (tt, tt))) (λ e. (tt, tt))
handler-values c s (WriteAnswer q t) v = tt
handler-values c s (Echo t) v = on-pick (Handled (Echo t)) (ltb c.maxtag t) _ _ (λ e. (tt, tt)) (λ e. tt)
handler-values c s (Value t w p) v =
    on-pick (Handled (Value t w p)) (is_new c w t) _ _ (λ e. (refl, tt)) (λ e. tt)
handler-values c s (Good t) v = tt

pub no_other : (c : Node) (s : ℕ) (m : Message) (v : View) (t w : ℕ) (p : Report) (before later : List Message)
    → listed (react c s m v).outbox.handler ≡ before ++ Value t w p ∷ later → m ≡ Value t w p
no_other c s m v t w p before later e =
    value_in (λ t w p. m ≡ Value t w p) before t w p later (rw e at (handler-values c s m v))

-- ---- the passes

module _ (own : ℕ) where
  abbrev Own : (t w : ℕ) → Report → Type 0
  Own t w p = w ≡ own

  -- a step of this node that has sent no other's value
  record OwnOnly (s : Step) : Type 0 where
    same : s.node.own ≡ own
    reading : Values Own (listed s.outbox.reading)
    comparing : Values Own (listed s.outbox.comparing)

  module _ (f : ℕ) (s : Step) (h : OwnOnly s) where
    read-own : (w : Wait) → OwnOnly (read_pass f s s.node w)
    unfolding read_pass after_read opened
    read-own (Reading (Update p) a m) =
        on-pick OwnOnly (is_quorum s.node.n f (members_in s.node.n a)) _ _
        (λ e. on-pick OwnOnly (eqb (max m s.node.maxtag) limit) _ _
        (λ e. record { same = h.same; reading = h.reading; comparing = h.comparing })
        (λ e. record { same = h.same; reading = (h.same, (tt, tt)); comparing = h.comparing }))
        (λ e. h)
    read-own (Reading Scan a m) =
        on-pick OwnOnly (is_quorum s.node.n f (members_in s.node.n a)) _ _
        (λ e. record { same = h.same; reading = (tt, tt); comparing = h.comparing }) (λ e. h)
    read-own Idle = h
    read-own (Writing kd i r a) = h
    read-own (Comparing kd i r) = h
    read-own (Borrowing kd r) = h

    write-own : (w : Wait) → OwnOnly (write_pass f s s.node w)
    unfolding write_pass
    write-own (Writing kd i r a) =
        on-pick OwnOnly (is_quorum s.node.n f (members_in s.node.n a)) _ _
        (λ e. record { same = h.same; reading = h.reading; comparing = h.comparing }) (λ e. h)
    write-own Idle = h
    write-own (Reading o a m) = h
    write-own (Comparing kd i r) = h
    write-own (Borrowing kd r) = h

    compare-own : (w : Wait) → OwnOnly (compare_pass f s s.node w)
    unfolding compare_pass after_good after_failed opened
    compare-own (Comparing kd i r) =
        on-pick OwnOnly (agreement f s.node) _ _
        (λ e. on-pick OwnOnly (leb s.node.maxtag r) _ _
        (λ e. on-pick OwnOnly (eqb i 0) _ _
        (λ e. record { same = h.same; reading = h.reading; comparing = (tt, (tt, tt)) })
        (λ e. record { same = h.same; reading = h.reading; comparing = (tt, tt) }))
        (λ e. on-pick OwnOnly (ltb i 3) _ _
        (λ e. record { same = h.same; reading = h.reading; comparing = (tt, tt) })
        (λ e. record { same = h.same; reading = h.reading; comparing = tt })))
        (λ e. h)
    compare-own Idle = h
    compare-own (Reading o a m) = h
    compare-own (Writing kd i r a) = h
    compare-own (Borrowing kd r) = h

    borrow-own : (w : Wait) → OwnOnly (borrow_pass s s.node w)
    unfolding borrow_pass
    borrow-own (Borrowing kd r) =
        on-pick OwnOnly (leb r s.node.kept) _ _
        (λ e. record { same = h.same; reading = h.reading; comparing = h.comparing }) (λ e. h)
    borrow-own Idle = h
    borrow-own (Reading o a m) = h
    borrow-own (Writing kd i r a) = h
    borrow-own (Comparing kd i r) = h

  move-own : (f : ℕ) (s : Step) → OwnOnly s → OwnOnly (move_on f s)
  unfolding move_on
  move-own f s h =
      let a = reads f s in
      let b = writes f a in
      let d = compares f b in
      borrow-own f d (compare-own f b (write-own f a (read-own f s h s.node.wait) a.node.wait) b.node.wait)
      d.node.wait

-- a handler leaves the own number, and the operation has sent nothing yet
react-own : (c : Node) (s : ℕ) (m : Message) (v : View) → OwnOnly c.own (react c s m v)
unfolding react raised received keep
react-own c s (Read q) v = record { same = refl; reading = tt; comparing = tt }
react-own c s (ReadAnswer q t) v = record { same = refl; reading = tt; comparing = tt }
react-own c s (Write q t) v = record { same = refl; reading = tt; comparing = tt }
react-own c s (WriteAnswer q t) v = record { same = refl; reading = tt; comparing = tt }
react-own c s (Echo t) v = record { same = refl; reading = tt; comparing = tt }
react-own c s (Value t w p) v = record { same = refl; reading = tt; comparing = tt }
react-own c s (Good t) v = record { same = refl; reading = tt; comparing = tt }

pub own-only : (f : ℕ) (c : Node) (s : ℕ) (m : Message) (v : View) (t w : ℕ) (p : Report)
    (before later : List Message)
    → listed (message_step f c s m v).outbox.reading ++ listed (message_step f c s m v).outbox.comparing
    ≡ before ++ Value t w p ∷ later
    → w ≡ c.own
unfolding message_step
own-only f c s m v t w p before later e =
    let o = (move_on f (react c s m v)).outbox in
    let h = move-own c.own f (react c s m v) (react-own c s m v) in
    let all = values-both (Own c.own) (listed o.reading) (listed o.comparing) h.reading h.comparing in
    value_in (Own c.own) before t w p later (rw e at all)
