-- An update is spent just when it has read the largest tag.
use Prim.Native.Nat.{ℕ, max}
use native.Mathlib.Decide.{ℕ_discrete}
use mathlib.Core.Path.{◌≡◌, refl, sym, ◌∙◌, ap, subst}
use mathlib.Core.Logic.{◌⊎◌, inl, inr, if_pos}
use mathlib.Core.List.{[], append-nil}
use Rattle.logs.specs.Log.{push}
use Rattle.history.specs.Message.{View, Message}
use Rattle.history.specs.Event.{Operation, update, scan, Rule, Ending, none, done, shown, spent}
use Rattle.algorithm.specs.Algorithm.{limit, Wait, idle, reading, Node, Step, sending, ended, then_by, ◌then◌}
use Rattle.algorithm.specs.Algorithm.{with_wait, quorum?, finish, read_pass, write_pass, compare_pass, borrow_pass}
use Rattle.algorithm.specs.Algorithm.{move_on}
use Rattle.algorithm.specs.Algorithm.{react, message_step}
use Rattle.algorithm.proofs.Passes.{Claim, Final, On, react-open}
use Rattle.algorithm.proofs.MoveOn.{Moves, message-leaves}
use Rattle.eqaso.specs.Claims.{ReadLast, SpentLast}
use Rattle.eqaso.proofs.Course.{Reads}

abbrev IsSpent : Ending → Type 0
IsSpent none = ⊥
IsSpent (done rule v) = ⊥
IsSpent (shown rule v) = ⊥
IsSpent spent = Unit {0}

finish-other : (op : Operation) (rule : Rule) (v : View) → ¬ IsSpent (finish op rule v)
finish-other (update p) rule v h = h
finish-other scan rule v h = h

-- The node after a message has come, before the operation moves on.
module _ (n f i : ℕ) (came : Node) where
  abbrev Asks : Claim
  Asks ν l = (ν ≡ came) ⊎ (¬ Reads ν.wait)

  abbrev Ends : Final
  Ends e ν l = IsSpent e → ReadLast n f came came.wait

  moves : Moves n f i Asks (λ ν l. Unit {0}) Ends
  moves = record {
    stays = λ ν l x. tt;
    spends = λ ν l p u s q z x. λ e. elim x [
      | inl d ↦ subst (λ ν. ReadLast n f ν ν.wait) d (q, z)
      | inr h ↦ absurd (h tt)
    ];
    updates = λ ν l p u s q x. inr (λ h. h);
    scans = λ ν l u s q x. inr (λ h. h);
    compares = λ ν l op r t s q x. inr (λ h. h);
    passes = λ ν l op t le x. tt;
    ends = λ ν l op r t last le x. λ h. absurd (finish-other op _ _ h);
    fails = λ ν l op r r' t lt x. tt;
    borrows = λ ν l op t lt x. tt;
    lends = λ ν l op t x. λ h. absurd (finish-other op _ _ h);
  }

-- Then the step is what the message did, and this ending.
spent-then : (n f i : ℕ) (s : Step) → s.ending ≡ none → ReadLast n f s.node s.node.wait
    → ((move_on n f i s).ending ≡ spent) × ((move_on n f i s).sent ≡ s.sent)
unfolding move_on
spent-then n f i s goes-on last = subst (λ e. Ended (record { node = s.node; sent = s.sent; ending = e }))
    (sym goes-on) (
      ap (λ t. (rest t).ending) (read-spent s.node s.node.wait last),
      ap (λ t. (rest t).sent) (read-spent s.node s.node.wait last) ∙ append-nil s.sent,
    )
  where
    Ended : Step → Type 0
    Ended s = ((move_on n f i s).ending ≡ spent) × ((move_on n f i s).sent ≡ s.sent)

    rest : Step → Step
    rest t = then_by (sending s.sent s.node) t none then (λ ν. write_pass n f ν ν.wait)
        then (λ ν. compare_pass n f i ν ν.wait) then (λ ν. borrow_pass n ν ν.wait)

    read-spent : (ν : Node) (w : Wait) → ReadLast n f ν w → read_pass n f i ν w ≡ ended spent [] (with_wait idle ν)
    read-spent ν (reading (update p) s u) (q, e) =
        if_pos (quorum? n f s) q _ _ ∙ if_pos (ℕ_discrete (max u ν.maxtag) limit) e _ _
    read-spent ν _ h = elim h [ ]

pub spent-last : (n f : ℕ) → SpentLast n f
spent-last n f = record {
  just = λ i k m ν. (read i k m ν, λ h. (spent-then n f i (react k m ν) (react-open k m ν) h).0);
  silent = λ i k m ν e. (spent-then n f i (react k m ν) (react-open k m ν) (read i k m ν e)).1;
}
  where
    read : (i k : ℕ) (m : Message) (ν : Node) → (message_step n f i k m ν).ending ≡ spent
        → ReadLast n f (react k m ν).node (react k m ν).node.wait
    read i k m ν e =
        let step = message_step n f i k m ν in
        let came = (react k m ν).node in
        subst (λ e. On (λ ν l. Unit {0}) (Ends n f i came) e step.node (push step.sent [])) e
        (message-leaves (moves n f i came) k m ν [] (inl refl)) tt
