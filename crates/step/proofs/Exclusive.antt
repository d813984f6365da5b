-- Of the read pass and the compare pass only one sends in a step. Assumes nothing.
use mathlib.Core.Path.{◌≡◌, refl, ap, ◌∙◌}
use mathlib.Core.Logic.{◌⊎◌, inl, inr, ⊎_elim}
use Prim.Native.Nat.{ℕ, ◌<◌, max}
use lib.Dec.{leb, ltb, eqb}
use Rattle.view.specs.Size.{limit}
use Rattle.table.specs.Quorum.{members_in, is_quorum}
use Rattle.record.specs.declared.Operation.TheVariants.{Update, Scan}
use Rattle.record.specs.declared.Wait.{Wait}
use Rattle.record.specs.declared.Wait.TheVariants.{Idle, Reading, Writing, Comparing, Borrowing}
use Rattle.step.specs.declared.Sent.TheVariants.{Nothing}
use Rattle.step.specs.declared.Step.{Step}
use Rattle.step.specs.Claims.{MustWait}
use Rattle.step.specs.Move.{agreement}
use Rattle.step.specs.Move.{opened, after_read, read_pass, write_pass, after_good, after_failed, compare_pass}
use Rattle.step.specs.Move.{borrow_pass, reads, writes, compares, borrows, move_on}
use Rattle.step.proofs.Numbers.{on-pick}
use Rattle.step.proofs.Waits.{no-quorum, waits-still}
use Rattle.step.proofs.Lawful.{One-empty}

-- what a pass leaves of the outbox
module _ (f : ℕ) (s : Step) where
  write-outbox : (w : Wait) → (write_pass f s s.node w).outbox ≡ s.outbox
  unfolding write_pass
  write-outbox (Writing kd i r a) =
      on-pick (λ (x : Step). x.outbox ≡ s.outbox) (is_quorum s.node.n f (members_in s.node.n a)) _ _ (λ e. refl)
      (λ e. refl)
  write-outbox Idle = refl
  write-outbox (Reading o a m) = refl
  write-outbox (Comparing kd i r) = refl
  write-outbox (Borrowing kd r) = refl

  -- agreement leaves what stands before its own messages
  abbrev Same-front : Step → Type 0
  Same-front x = (x.outbox.handler ≡ s.outbox.handler) × (x.outbox.reading ≡ s.outbox.reading)

  compare-front : (w : Wait) → Same-front (compare_pass f s s.node w)
  unfolding compare_pass after_good after_failed
  compare-front (Comparing kd i r) =
      on-pick Same-front (agreement f s.node) _ _
      (λ e. on-pick Same-front (leb s.node.maxtag r) _ _
      (λ e. on-pick Same-front (eqb i 0) _ _ (λ e. (refl, refl)) (λ e. (refl, refl)))
      (λ e. on-pick Same-front (ltb i 3) _ _ (λ e. (refl, refl)) (λ e. (refl, refl))))
      (λ e. (refl, refl))
  compare-front Idle = (refl, refl)
  compare-front (Reading o a m) = (refl, refl)
  compare-front (Writing kd i r a) = (refl, refl)
  compare-front (Borrowing kd r) = (refl, refl)

  borrow-outbox : (w : Wait) → (borrow_pass s s.node w).outbox ≡ s.outbox
  unfolding borrow_pass
  borrow-outbox (Borrowing kd r) =
      on-pick (λ (x : Step). x.outbox ≡ s.outbox) (leb r s.node.kept) _ _ (λ e. refl) (λ e. refl)
  borrow-outbox Idle = refl
  borrow-outbox (Reading o a m) = refl
  borrow-outbox (Writing kd i r a) = refl
  borrow-outbox (Comparing kd i r) = refl

  abbrev Same-handler : Step → Type 0
  Same-handler x = x.outbox.handler ≡ s.outbox.handler

  read-handler : (w : Wait) → Same-handler (read_pass f s s.node w)
  unfolding read_pass after_read
  read-handler (Reading (Update p) a m) =
      on-pick Same-handler (is_quorum s.node.n f (members_in s.node.n a)) _ _
      (λ e. on-pick Same-handler (eqb (max m s.node.maxtag) limit) _ _ (λ e. refl) (λ e. refl)) (λ e. refl)
  read-handler (Reading Scan a m) =
      on-pick Same-handler (is_quorum s.node.n f (members_in s.node.n a)) _ _ (λ e. refl) (λ e. refl)
  read-handler Idle = refl
  read-handler (Writing kd i r a) = refl
  read-handler (Comparing kd i r) = refl
  read-handler (Borrowing kd r) = refl

  -- the read pass sends nothing, or the operation must wait
  abbrev Waits-or-silent : Step → Type 0
  Waits-or-silent x =
      (x.outbox.reading ≡ s.outbox.reading) ⊎ ((MustWait f x.node x.node.wait)
      × (x.outbox.comparing ≡ s.outbox.comparing))

  read-waits : f < s.node.n → (w : Wait) → Waits-or-silent (read_pass f s s.node w)
  unfolding read_pass after_read opened
  read-waits h (Reading (Update p) a m) =
      on-pick Waits-or-silent (is_quorum s.node.n f (members_in s.node.n a)) _ _
      (λ e. on-pick Waits-or-silent (eqb (max m s.node.maxtag) limit) _ _ (λ e. inl refl)
      (λ e. inr (no-quorum s.node.n f h, refl)))
      (λ e. inl refl)
  read-waits h (Reading Scan a m) =
      on-pick Waits-or-silent (is_quorum s.node.n f (members_in s.node.n a)) _ _
      (λ e. inr (no-quorum s.node.n f h, refl)) (λ e. inl refl)
  read-waits h Idle = inl refl
  read-waits h (Writing kd i r a) = inl refl
  read-waits h (Comparing kd i r) = inl refl
  read-waits h (Borrowing kd r) = inl refl

pub one-empty : (f : ℕ) (s : Step) → f < s.node.n → s.outbox.reading ≡ Nothing → s.outbox.comparing ≡ Nothing
    → One-empty (move_on f s)
unfolding move_on
one-empty f s h r k =
    let a = reads f s in
    let b = writes f a in
    let d = compares f b in
    ⊎_elim
    (λ e. inl (ap (λ o. o.reading) (borrow-outbox f d d.node.wait) ∙ (compare-front f b b.node.wait).1
    ∙ ap (λ o. o.reading) (write-outbox f a a.node.wait) ∙ e ∙ r))
    (λ e. let q = waits-still f a a.node.wait e.0 in
    let same : borrows d ≡ a = ap (λ (x : Step). borrows (compares f x)) q.1 ∙ ap borrows q.2 ∙ q.3 in
    inr (ap (λ (x : Step). x.outbox.comparing) same ∙ e.1 ∙ k))
    (read-waits f s h s.node.wait)

-- what the handler sent is sent first
pub handler-first : (f : ℕ) (s : Step) → (move_on f s).outbox.handler ≡ s.outbox.handler
unfolding move_on
handler-first f s =
    let a = reads f s in
    let b = writes f a in
    let d = compares f b in
    ap (λ o. o.handler) (borrow-outbox f d d.node.wait) ∙ (compare-front f b b.node.wait).0
    ∙ ap (λ o. o.handler) (write-outbox f a a.node.wait) ∙ read-handler f s s.node.wait
