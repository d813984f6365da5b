-- After a quorum of write answers the node compares. Its own value has come back by then: whoever answered had sent it
-- on.
use Prim.Native.Nat.{ℕ, ◌+◌, ◌-◌, ◌≤◌, ◌<◌}
use native.Mathlib.Omega.{arith}
use mathlib.Core.Path.{sym, subst}
use mathlib.Core.Logic.{◌⊎◌, inl, inr, ite}
use Rattle.logs.specs.Count.{count}
use Rattle.logs.proofs.Count.{meet}
use Rattle.logs.specs.Log.{◌∈◌, here}
use Rattle.logs.proofs.Log.{mem_up, ⊑-cons}
use Rattle.history.specs.Message.{Value, value}
use Rattle.history.specs.Event.{Operation, update, Round, round0, scan}
use Rattle.algorithm.specs.Algorithm.{Nodes, Wait, idle, reading, writing, comparing, borrowing, Node, still}
use Rattle.algorithm.specs.Algorithm.{with_wait, quorum?, write_pass}
use Rattle.algorithm.proofs.Cert.{Log, Logs}
use Rattle.algorithm.proofs.Local.{Past, Own, Held, Pending, Writes, Local}
use Rattle.algorithm.proofs.Grow.{held_up}
use Rattle.algorithm.proofs.Turn.{have-with_request_and_wait, moved}
use Rattle.algorithm.proofs.Outcome.{Fine, fine-still}

module _ (n f : ℕ) (half : f + f < n) where
  module _ (out : Logs) (γ : Past) (i r : ℕ) (op : Operation) (l : Log) (ν : Node) (o : Operation) (t : ℕ) (s : Nodes)
      (many : n - f ≤ count s n) where
    back : (op : Operation) (a : Log) (v : Value) → (value v ∈ a → v ∈ ν.all) → Own i r op v → Held i r op a
        → v ∈ ν.all
    back scan a v got e h = elim e [ ]
    back (update p) a v got e h = got (subst (λ z. value z ∈ a) (sym e) h)

    written : (rnd : Round) → Local n f out γ i r op (with_wait (writing o rnd t s) ν) l
        → Local n f out γ i r op (with_wait (comparing o rnd t) ν) l
    written rnd c = moved n f c r ν.request (comparing o rnd t) here (omega arith) c.due
        (have-with_request_and_wait n f c r ν.request (comparing o rnd t) (omega arith)
        (λ v m h. (inl (known rnd c v h.0), h.1))) (
          c.phase.0,
          record {
            stage = w.stage;
            held = held_up i r op (⊑-cons w.asked) w.held;
            W = s;
            many = many;
            counted =
                w.counted;
          },
        )
      where
        w : Writes n f out γ i r op ν.request l rnd t s
        w = c.phase.1

        known : (rnd : Round) → Local n f out γ i r op (with_wait (writing o rnd t s) ν) l → (v : Value)
            → (v ∈ ν.all) ⊎ Pending i r op (writing o rnd t s) v → v ∈ ν.all
        known rnd c v (inl m) = m
        known round0 c v (inr e) =
            let (k, lo, hi, y, z) = meet n f half s s many many in
            let (a, wrote) = c.phase.1.counted k y in
            back op a v (λ m. (c.took k (value v) (mem_up wrote.sits m)).1) e wrote.has
        known _ c v (inr e) = elim e [ ]

  pub write-pass : {out : Logs} {γ : Past} {i r : ℕ} {op : Operation} {l : Log} (ν : Node) (w : Wait)
      → Local n f out γ i r op (with_wait w ν) l → Fine n f out γ i r op l (write_pass n f (with_wait w ν) w)
  write-pass ν idle c = fine-still n f c
  write-pass ν (reading o s u) c = fine-still n f c
  write-pass ν (comparing o rnd t) c = fine-still n f c
  write-pass ν (borrowing o t) c = fine-still n f c
  write-pass {out} {γ} {i} {r} {op} {l} ν (writing o rnd t s) c = elim (quorum? n f s)
      as (λ d. Fine n f out γ i r op l
      (ite d (still (with_wait (comparing o rnd t) ν)) (still (with_wait (writing o rnd t s) ν)))) [
        | yes h ↦ fine-still n f (written out γ i r op l ν o t s h rnd c)
        | no h ↦ fine-still n f c
      ]
