-- Requests and answers at a node keep the invariant.
use Prim.Native.Nat.{ℕ, suc, ◌+◌, ◌≤◌, ◌<◌, max}
use native.Mathlib.Omega.{arith}
use mathlib.Core.Path.{◌≡◌, refl, sym, subst}
use mathlib.Core.Logic.{◌⊎◌, inl, inr}
use mathlib.Core.Bool.{true}
use mathlib.Core.List.{◌∷◌}
use Rattle.logs.specs.Update.{upd}
use Rattle.logs.proofs.Update.{upd-all}
use Rattle.logs.specs.Log.{◌∈◌, ◌⊑◌, here, push, Each}
use Rattle.logs.proofs.Log.{⊑_trans, placed, comparable, cons-or, before-it, each_at}
use Rattle.history.specs.Message.{Value, of, read, read_answer, write, write_answer, echo, value}
use Rattle.history.specs.Event.{Operation, update, scan, Round, round0, round1, round2, round3, none}
use Rattle.algorithm.specs.Algorithm.{Nodes, Wait, reading, writing, Node, Step, with_wait, raise}
use Rattle.algorithm.specs.Algorithm.{read_answered, write_answered}
use Rattle.algorithm.proofs.Cert.{Log, Logs}
use Rattle.algorithm.proofs.Local.{Past, Held, WriteDue, Due, Have, ReadBy, WroteBy, Writes, Local}
use Rattle.algorithm.proofs.Change.{handing, handed-by, post, raised}
use Rattle.algorithm.proofs.Cases.{raise-by, read-cases, write-cases}
use Rattle.algorithm.proofs.Turn.{taken, have-with_request_and_wait, moved}

module _ (n f : ℕ) where
  -- A step without an ending.
  abbrev pub Keeps : (out : Logs) (γ : Past) (i r : ℕ) (op : Operation) (l : Log) → Step → Type 0
  Keeps out γ i r op l s = Local n f out γ i r op s.node (push s.sent l) × (s.ending ≡ none)

module _ (n f : ℕ) (half : f + f < n) where
  -- A write with its number has one place in a log.
  write-once : (k : ℕ) (out : Logs) {l : Log} → Each (Due n f k out) l → {q t u : ℕ} {a b : Log}
      → (write q t ∷ a) ⊑ l → (write q u ∷ b) ⊑ l → a ≡ b
  write-once k out {l} d {q} {t} {u} {a} {b} x y = go (comparable x y)
    where
      no_more : {t u : ℕ} {a b : Log} → (write q t ∷ a) ⊑ b → (write q u ∷ b) ⊑ l → ⊥
      no_more {t} {u} {a} {b} x y = omega (arith, each_at (Due n f k out) d y (write q t) (placed x))

      go : ((write q t ∷ a) ⊑ (write q u ∷ b)) ⊎ ((write q u ∷ b) ⊑ (write q t ∷ a)) → a ≡ b
      go (inl p) = elim (cons-or p) [ inl e ↦ e.1 | inr p' ↦ absurd (no_more p' y) ]
      go (inr p) = elim (cons-or p) [ inl e ↦ sym e.1 | inr p' ↦ absurd (no_more p' x) ]

  module _ {out : Logs} {γ : Past} {i r : ℕ} {op : Operation} {l : Log}
      (dues : (k : ℕ) → Each (Due n f k out) (out k)) where
    -- A read answer counts.
    count-read : (ν : Node) (o : Operation) (s : Nodes) (u : ℕ) (k q t : ℕ) → (read_answer i q t ∷ γ.got k) ⊑ out k
        → q ≡ ν.request → Local n f out γ i r op (with_wait (reading o s u) ν) l
        → Local n f out γ i r op (with_wait (reading o (upd s k true) (max u t)) ν) l
    count-read ν o s u k q t at e c = moved n f c r ν.request w' here (omega arith) c.due
        (have-with_request_and_wait n f c r ν.request w' (omega arith) (λ v m h. h))
        (c.phase.0, upd-all (λ j b. b ≡ true → ReadBy γ (max u t) j) s k true (λ j ne. old j) (λ h. new))
      where
        w' : Wait
        w' = reading o (upd s k true) (max u t)

        new : ReadBy γ (max u t) k
        new = record {
          a = γ.got k;
          sits = here;
          late = before-it at (c.base-in k) (λ h. omega (arith, c.no_reads k q t h, c.lead));
          low = λ x h. omega (arith, (each_at (Due n f k out) (dues k) at).low x h);
        }

        old : (j : ℕ) → s j ≡ true → ReadBy γ (max u t) j
        old j h = let b = c.phase.1 j h in
            record { a = b.a; late = b.late; sits = b.sits; low = λ x m. omega (arith, b.low x m) }

    pub read-counted : (ν : Node) → Local n f out γ i r op ν l → (k q t : ℕ) → (read_answer i q t ∷ γ.got k) ⊑ out k
        → Local n f out γ i r op (read_answered k q t ν ν.wait) l
    read-counted ν c k q t at =
        read-cases (λ w. Local n f out γ i r op (with_wait w ν) l) (λ z. Local n f out γ i r op z l) k q t ν ν.wait c
        (λ is. c) (λ o s u e c. count-read ν o s u k q t at e c)

    -- A write answer counts.
    count-write : (ν : Node) (o : Operation) (rnd : Round) (u : ℕ) (s : Nodes) (k q t : ℕ)
        → (write_answer i q t ∷ γ.got k) ⊑ out k → q ≡ ν.request → t ≡ u
        → Local n f out γ i r op (with_wait (writing o rnd u s) ν) l
        → Local n f out γ i r op (with_wait (writing o rnd u (upd s k true)) ν) l
    count-write ν o rnd u s k q t at e e' c = moved n f c r ν.request w' here (omega arith) c.due
        (have-with_request_and_wait n f c r ν.request w' (omega arith) (value-has rnd)) (
          c.phase.0,
          record {
            stage = p.stage;
            at = p.at;
            asked = p.asked;
            held = p.held;
            counted = upd-all (λ j b. b ≡ true → WroteBy γ i r op u j) s k true (λ j ne. p.counted j) (λ h. new);
          },
        )
      where
        w' : Wait
        w' = writing o rnd u (upd s k true)

        p : Writes n f out γ i r op ν.request l rnd u s
        p = c.phase.1

        d : WriteDue out i q t (γ.got k)
        d = each_at (Due n f k out) (dues k) at

        has-own : (o : Operation) → Held i r o p.at → Held i r o (γ.got k)
        has-own scan h = tt
        has-own (update x) h = d.passed (of (suc r) i x) (subst (λ z. value (of (suc r) i x) ∈ z)
            (write-once i out c.due p.asked
            (subst (λ z. (write z t ∷ d.before) ⊑ l) e (⊑_trans d.asked c.grown))) h)

        new : WroteBy γ i r op u k
        new = (
          γ.got k,
          record {
            late = before-it at (c.base-in k) (λ h. omega (arith, c.no_writes k q t h, c.lead));
            sits = here;
            told = rw (← e') d.told;
            has = has-own op p.held;
          },
        )

        value-has : (rnd : Round) (v : Value) → value v ∈ l
            → Have n f out γ.base i r op (with_wait (writing o rnd u s) ν) (value v)
            → Have n f out γ.base i r op (with_wait (writing o rnd u (upd s k true)) ν) (value v)
        value-has round0 v m h = h
        value-has round1 v m h = h
        value-has round2 v m h = h
        value-has round3 v m h = h

    pub write-counted : (ν : Node) → Local n f out γ i r op ν l → (k q t : ℕ) → (write_answer i q t ∷ γ.got k) ⊑ out k
        → Local n f out γ i r op (write_answered k q t ν ν.wait) l
    write-counted ν c k q t at =
        write-cases (λ w. Local n f out γ i r op (with_wait w ν) l) (λ z. Local n f out γ i r op z l) k q t ν ν.wait c
        (λ is. c) (λ o rnd u s e e' c. count-write ν o rnd u s k q t at e e' c)

  module _ {out : Logs} {γ : Past} {i r : ℕ} {op : Operation} {ν : Node} {l : Log} where
    -- A tag is raised to, with its echo, or was reached before.
    pub raise-keeps : Local n f out γ i r op ν l → (t : ℕ) → Keeps n f out γ i r op l (raise t ν)
        × (t ≤ (raise t ν).node.maxtag)
    raise-keeps c t = raise-by (λ s. Keeps n f out γ i r op l s × (t ≤ s.node.maxtag)) t ν
        (λ h. ((raised n f half c t h, refl), omega arith)) (λ h. ((c, refl), h))

    pub write-answered : Local n f out γ i r op ν l → (k q t : ℕ) → (write q t ∷ γ.got k) ⊑ out k → t ≤ ν.maxtag
        → Local n f out (handing (handed-by γ.got k (write q t)) γ) i r op ν (write_answer k q t ∷ l)
    write-answered c k q t at h = taken n f (post n f half c (write_answer k q t) (record {
      told = λ h'. (ν.maxtag, h, c.topped (omega arith));
      before = γ.got k;
      asked = at;
      passed = λ v m. c.sent v (c.took k (value v) m).1;
    }) tt)
        k (write q t) at h

    pub read-answered : Local n f out γ i r op ν l → (k q : ℕ) → (read q ∷ γ.got k) ⊑ out k
        → Local n f out (handing (handed-by γ.got k (read q)) γ) i r op ν (read_answer k q ν.maxtag ∷ l)
    read-answered c k q at = taken n f (post n f half c (read_answer k q ν.maxtag) (record {
      low = λ u m. c.have (echo u) m;
      before = γ.got k;
      asked = at;
    }) tt)
        k (read q) at tt
