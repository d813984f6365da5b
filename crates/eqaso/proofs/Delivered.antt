-- Every delivery is noted.
use Prim.Native.Nat.{ℕ, ◌+◌, ◌<◌}
use mathlib.Core.Path.{◌≡◌, refl, sym, ◌∙◌, ap, subst}
use mathlib.Core.Logic.{inl, inr}
use mathlib.Core.Bool.{Bool}
use Rattle.history.specs.Message.{View, Message}
use Rattle.history.specs.Event.{Operation, update, scan, Rule, Ending, none, done, shown, spent, Extent, whole, cut}
use Rattle.history.specs.Trace.{Trace}
use Rattle.algorithm.specs.Algorithm.{Wait, idle, reading, writing, comparing, borrowing}
use Rattle.algorithm.proofs.Cert.{Log, Logs}
use Rattle.algorithm.proofs.Local.{Past, Phase}
use Rattle.algorithm.proofs.Sites.{Sites}
use Rattle.eqaso.specs.Cluster.{given}
use Rattle.eqaso.proofs.Course.{Rests, Reads, Staged, Of, Opened, Only, Makes}
use Rattle.eqaso.proofs.Act.{Passed, GoesBy, AsksBy, rest-course, staged-course, read-course, staged-tag}
use Rattle.eqaso.proofs.History.{Tagged, Runs, mode-rests, mode-reads, mode-staged}
use Rattle.eqaso.proofs.Deliver.{Delivery, step, site, B, Noted, quiet, mode-before}
use Rattle.eqaso.proofs.Tagging.{opened-staged, given-none, cut-stops, wrote}
use Rattle.eqaso.proofs.Ends.{spent-noted, done-noted, shown-noted}

data Kind (w : Wait) : Type 0 where
  at_rest : Rests w → Kind w
  reads : Reads w → Kind w
  staged : Staged w → Kind w

kind : (w : Wait) → Kind w
kind idle = at_rest tt
kind (reading o s u) = reads tt
kind (writing o r t s) = staged tt
kind (comparing o r t) = staged tt
kind (borrowing o t) = staged tt

phase-of : (n f : ℕ) (out : Logs) (γ : Past) (i r : ℕ) (op : Operation) (q : ℕ) (l : Log) (w : Wait)
    → Phase n f out γ i r op q l w → Of op w
phase-of n f out γ i r op q l idle p = tt
phase-of n f out γ i r op q l (reading o s u) p = p.0
phase-of n f out γ i r op q l (writing o rnd t s) p = p.0
phase-of n f out γ i r op q l (comparing o rnd t) p = p.0
phase-of n f out γ i r op q l (borrowing o t) p = p.0

module _ {n f : ℕ} {half : f + f < n} {stopped : ℕ → Bool} {σ : Sites} {gone : ℕ → Logs} {tr : Trace} {c k : ℕ}
    {m : Message} {p : Log} where
  -- An ending that a cut event does not give.
  cut-noted : (j : ℕ) (D : Delivery n f half stopped σ gone tr c k (cut j) m p)
      → Only (Passed m (σ c).node) (step D).sent → Noted D
  cut-noted j D from = quiet D refl from (λ h. absurd (cut-stops c stopped j h))

  spent-case : (x : Extent) (D : Delivery n f half stopped σ gone tr c k x m p) → Reads (σ c).node.wait
      → (step D).ending ≡ spent
      → Rests (step D).node.wait → Only (Passed m (σ c).node) (step D).sent → Noted D
  spent-case whole D h e rests from = spent-noted D rests from h e
  spent-case (cut j) D h e rests from = cut-noted j D from

  done-case : (x : Extent) (D : Delivery n f half stopped σ gone tr c k x m p) → Staged (σ c).node.wait
      → (rule : Rule) (v : View)
      → (step D).ending ≡ done rule v → Rests (step D).node.wait → Only (Passed m (σ c).node) (step D).sent → Noted D
  done-case whole D h rule v e rests from = done-noted D rests from h e
  done-case (cut j) D h rule v e rests from = cut-noted j D from

  shown_case : (x : Extent) (D : Delivery n f half stopped σ gone tr c k x m p) → Staged (σ c).node.wait
      → (rule : Rule) (v : View)
      → (step D).ending ≡ shown rule v → Rests (step D).node.wait → Only (Passed m (σ c).node) (step D).sent
      → Noted D
  shown_case whole D h rule v e rests from = shown-noted D rests from h e
  shown_case (cut j) D h rule v e rests from = cut-noted j D from

  module _ {x : Extent} (D : Delivery n f half stopped σ gone tr c k x m p) where
    calm : (step D).ending ≡ none → given x (step D).ending ≡ none
    calm e = ap (given x) e ∙ given-none x

    -- An idle node only passes on what it is handed.
    rest-noted : Rests (σ c).node.wait → Noted D
    rest-noted h =
        let (e, y, from) = rest-course n f c half k m (σ c).node h in
        quiet D (calm e) from
        (λ _. (mode-rests n f (B D) c (σ c).op (site D).tag (σ c).past.base (step D).node.wait y).1
        ((mode-rests n f (B D) c (σ c).op (σ c).tag (σ c).past.base (σ c).node.wait h).0 (mode-before D)))

    -- An operation that reads.
    read-noted : Reads (σ c).node.wait → Noted D
    read-noted h = go (step D).ending refl (read-course n f c half k m (σ c).node (σ c).op (σ c).tag h
        (phase-of n f _ _ _ _ (σ c).op _ _ (σ c).node.wait (D.inv c).phase))
      where
        before : (t : ℕ) × Runs n f (B D) c (σ c).op (σ c).past.base t × ((B D).tag t ≡ 0)
        before = (mode-reads n f (B D) c (σ c).op (σ c).tag (σ c).past.base (σ c).node.wait h).0 (mode-before D)

        opens : (op : Operation) → (σ c).op ≡ op → (step D).ending ≡ none → Opened (step D).node.wait
            → Makes c (site D).tag op (Passed m (σ c).node) (step D).sent → Noted D
        opens scan is e o from = quiet D (calm e) from
            (λ y. (mode-staged n f (B D) c (σ c).op (site D).tag (σ c).past.base (step D).node.wait
            (opened-staged o)).1
            (before.0, before.1, subst (λ z. Tagged z (site D).tag ((B D).tag before.0)) (sym is) tt))
        opens (update q) is e o (made, values) = wrote D h q is e o made values

        go : (e : Ending) → (step D).ending ≡ e
            → AsksBy c (site D).tag (σ c).op (Passed m (σ c).node) e (step D).node.wait (step D).sent → Noted D
        go (shown _ _) e h = elim h [ ]
        go (done _ _) e h = elim h [ ]
        go none e (inl (y, from)) = quiet D (calm e) from
            (λ _. (mode-reads n f (B D) c (σ c).op (site D).tag (σ c).past.base (step D).node.wait y).1 before)
        go none e (inr (o, made)) = opens (σ c).op refl e o made
        go spent e (y, from) = spent-case x D h e y from

    -- An operation past its reading.
    staged-noted : Staged (σ c).node.wait → Noted D
    staged-noted h = go (step D).ending refl (staged-course n f c half k m (σ c).node h)
      where
        same_tag : (site D).tag ≡ (σ c).tag
        same_tag = staged-tag n f c half k m (σ c).node (σ c).tag h

        go : (e : Ending) → (step D).ending ≡ e → GoesBy (Passed m (σ c).node) e (step D).node.wait (step D).sent
            → Noted D
        go spent e h = elim h [ ]
        go none e (y, from) = quiet D (calm e) from
            (λ _. (mode-staged n f (B D) c (σ c).op (site D).tag (σ c).past.base (step D).node.wait y).1
            (let (t, r, z) = (mode-staged n f (B D) c (σ c).op (σ c).tag (σ c).past.base (σ c).node.wait h).0
            (mode-before D) in
            (t, r, subst (λ w. Tagged (σ c).op w ((B D).tag t)) (sym same_tag) z)))
        go (done rule v) e (y, from) = done-case x D h rule v e y from
        go (shown rule v) e (y, from) = shown_case x D h rule v e y from

    pub delivery-noted : Noted D
    delivery-noted = elim (kind (σ c).node.wait) [
      | at_rest h ↦ rest-noted h
      | reads h ↦ read-noted h
      | staged h ↦ staged-noted h
    ]
