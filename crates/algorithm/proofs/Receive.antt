-- Every message that a node is handed keeps the invariant, and ends no operation.
use Prim.Native.Nat.{ℕ, ◌+◌, ◌≤◌, ◌<◌}
use native.Mathlib.Omega.{arith}
use native.Mathlib.Decide.{ℕ_discrete}
use mathlib.Core.Path.{◌≡◌, refl, sym, ◌∙◌, ap, subst}
use mathlib.Core.Logic.{◌⊎◌, inl, inr}
use mathlib.Core.List.Memᴰ
use mathlib.Core.List.{List, [], ◌∷◌}
use Rattle.logs.proofs.Update.{upd-all, upd_same}
use Rattle.logs.specs.Log.{◌∈◌, ◌⊑◌, Each}
use Rattle.logs.proofs.Log.{⊑-cons, mem_up, placed, push-append, each_at}
use Rattle.history.specs.Message.{Value, Message, read, read_answer, write, write_answer, echo, value, good}
use Rattle.history.specs.Event.{Operation, update, scan, round0}
use Rattle.algorithm.specs.Algorithm.{Wait, writing, Node, Step, sending, then_by, ◌then◌, raise, receive, react}
use Rattle.algorithm.proofs.Cert.{Log, Logs, carry}
use Rattle.algorithm.proofs.Meant.{Meant}
use Rattle.algorithm.proofs.Local.{Past, ValueDue, Pending, Due, Olds, Local}
use Rattle.algorithm.proofs.Grow.{upd-shorter}
use Rattle.algorithm.specs.Node.{holding}
use Rattle.algorithm.proofs.Change.{handing, handed-by, handed-more, learnt, kept_on}
use Rattle.algorithm.proofs.Turn.{taken-with, taken}
use Rattle.algorithm.proofs.Cases.{from-by, receive-by}
use Rattle.algorithm.proofs.React.{Keeps, read-counted, write-counted, raise-keeps, write-answered}
use Rattle.algorithm.proofs.React.{read-answered}

module _ (n f : ℕ) (half : f + f < n) where
  -- The pending value is the newest of its writer.
  pending-newest : (out base : Logs) (i r : ℕ) (op : Operation) (w : Wait) (u v : Value)
      → Pending i r op w v → Olds n f out base i r op w u → (u ≡ v) ⊎ (u.tag < v.tag)
  pending-newest out base i r (update p) (writing o round0 t s) u v e (inl d) = inl (d ∙ sym e)
  pending-newest out base i r (update p) (writing o round0 t s) u v e (inr (d, h)) =
      inr (subst (λ z. u.tag < z.tag) (sym e) (omega arith))
  pending-newest out base i r scan (writing o round0 t s) u v e x = absurd e
  pending-newest out base i r _ _ u v e x = elim e [ ]

  module _ {out : Logs} {γ : Past} {i r : ℕ} {op : Operation} {ν : Node} {l : Log}
      (c : Local n f out γ i r op ν l) (k : ℕ) (v : Value) (at : (value v ∷ γ.got k) ⊑ out k)
      (d : ValueDue k out v (γ.got k)) where
    -- What was handed over before is in the own log.
    passed : (u : Value) → value u ∈ γ.got k → value u ∈ l
    passed u m = c.sent u (c.took k (value u) m).1

    -- An own value comes back: it is in the own log.
    own-sent : v.writer ≡ i → value v ∈ l
    own-sent e = mem_up c.grown (go d.source)
      where
        go : (v.writer ≡ k) ⊎ ((p : Log) × ((value v ∷ p) ⊑ out v.writer)
            × ((u : Value) → value u ∈ p → value u ∈ γ.got k))
            → value v ∈ out i
        go (inl x) = subst (λ z. value v ∈ out z) (sym x ∙ e) (placed at)
        go (inr (p, q, h)) = subst (λ z. value v ∈ out z) e (placed q)

    forward-due : ¬ (v ∈ ν.all) → ValueDue i out v l
    forward-due new = record { tagged = d.tagged; rise = rise; source = source (ℕ_discrete v.writer i) d.source }
      where
        rise : (u : Value) → v.writer ≡ i → value u ∈ l → u.writer ≡ i → (u ≡ v) ⊎ (u.tag < v.tag)
        rise u e m e' = go (c.have (value v) (own-sent e)).0
          where
            go : (v ∈ ν.all) ⊎ Pending i r op ν.wait v → (u ≡ v) ⊎ (u.tag < v.tag)
            go (inl x) = absurd (new x)
            go (inr x) = pending-newest out γ.base i r op ν.wait u v x ((c.have (value u) m).1 e')

        source : Dec (v.writer ≡ i)
            → (v.writer ≡ k) ⊎ ((p : Log) × ((value v ∷ p) ⊑ out v.writer)
            × ((u : Value) → value u ∈ p → value u ∈ γ.got k))
            → (v.writer ≡ i) ⊎ ((p : Log) × ((value v ∷ p) ⊑ out v.writer)
            × ((u : Value) → value u ∈ p → value u ∈ l))
        source (yes e) x = inl e
        source (no e) (inl x) = inr (γ.got k, subst (λ z. (value v ∷ γ.got k) ⊑ out z) (sym x) at, passed)
        source (no e) (inr (p, q, h)) = inr (p, q, λ u m. passed u (h u m))

    abbrev from' : ℕ → List Value
    from' = from-by k v ν

    -- A value that the node has: only that it came from k is new.
    value_taken : {ν' : Node} {l' : Log} → Local n f out γ i r op ν' l' → ((j : ℕ) → ν'.from j ≡ ν.from j)
        → v ∈ ν'.all
        → Local n f out (handing (handed-by γ.got k (value v)) γ) i r op (holding ν'.all from' ν') l'
    value_taken {ν'} c' same m = taken-with n f c' k (value v) at from' wider heard
        (rw (upd_same ν.from k (v ∷ ν.from k)) (Memᴰ.head refl), m)
      where
        wider : (j : ℕ) (u : Value) → u ∈ ν'.from j → u ∈ from' j
        wider j u x = upd-all (λ j z. u ∈ ν.from j → u ∈ z) ν.from k (v ∷ ν.from k)
            (λ j ne y. y) (λ y. Memᴰ.tail y) j (rw (same j) at x)

        heard : (j : ℕ) (u : Value) → u ∈ from' j → value u ∈ handed-by γ.got k (value v) j
        heard j u = upd-all (λ j z. u ∈ z → value u ∈ handed-by γ.got k (value v) j) ν.from k (v ∷ ν.from k)
            (λ j ne y. mem_up (handed-more γ.got k (value v) j) (c.heard j u y)) new j
          where
            new : u ∈ (v ∷ ν.from k) → value u ∈ handed-by γ.got k (value v) k
            new (Memᴰ.head e) = rw (upd_same γ.got k (value v ∷ γ.got k)) (Memᴰ.head (ap value e))
            new (Memᴰ.tail y) = mem_up (handed-more γ.got k (value v) k) (c.heard k u y)

    receive-keeps : Keeps n f out (handing (handed-by γ.got k (value v)) γ) i r op l (receive k v ν)
    receive-keeps = receive-by (Keeps n f out (handing (handed-by γ.got k (value v)) γ) i r op l) k v ν
        (λ m. (value_taken c (λ j. refl) m, refl))
        (λ new. (
          value_taken (learnt n f half c v (forward-due new) (λ e. (c.have (value v) (own-sent e)).1 e))
              (λ j. refl) (Memᴰ.head refl),
          refl,
        ))

  module _ {out : Logs} {γ : Past} {i r : ℕ} {op : Operation} {ν : Node} {l : Log}
      (dues : (k : ℕ) → Each (Due n f k out) (out k)) (c : Local n f out γ i r op ν l) where
    -- Node i takes in message m from node k, the next one of its log.
    pub react-keeps : (k : ℕ) (m : Message) → Meant i m → (m ∷ γ.got k) ⊑ out k
        → Keeps n f out (handing (handed-by γ.got k m) γ) i r op l (react k m ν)
    react-keeps k (read q) e at = (read-answered n f half c k q at, refl)
    react-keeps k (read_answer to q t) e at = (
      taken n f
          (read-counted n f half dues ν c k q t (subst (λ z. (read_answer z q t ∷ γ.got k) ⊑ out k) e at))
          k (read_answer to q t) at tt,
      refl,
    )
    react-keeps k (write q t) e at = go (raise t ν) (raise-keeps n f half c t)
      where
        γ' : Past
        γ' = handing (handed-by γ.got k (write q t)) γ

        go : (s : Step) → Keeps n f out γ i r op l s × (t ≤ s.node.maxtag)
            → Keeps n f out γ' i r op l (s then sending (write_answer k q t ∷ []))
        go s ((x, y), h) = subst (λ z. Keeps n f out γ' i r op l
            (then_by s (sending (write_answer k q t ∷ []) s.node) z))
            (sym y) (rw (push-append s.sent (write_answer k q t ∷ []) l) (write-answered n f half x k q t at h), refl)
    react-keeps k (write_answer to q t) e at = (
      taken n f
          (write-counted n f half dues ν c k q t (subst (λ z. (write_answer z q t ∷ γ.got k) ⊑ out k) e at))
          k (write_answer to q t) at tt,
      refl,
    )
    react-keeps k (echo t) e at =
        let (x, h) = raise-keeps n f half c t in (taken n f x.0 k (echo t) at h, x.1)
    react-keeps k (value v) e at = receive-keeps c k v at (each_at (Due n f k out) (dues k) at)
    react-keeps k (good t view) e at =
        let (A, is, cert) = each_at (Due n f k out) (dues k) at in (
          taken n f (kept_on n f half c t view (A, is, carry (upd-shorter out k (⊑-cons at)) cert)) k
              (good t view) at tt,
          refl,
        )
