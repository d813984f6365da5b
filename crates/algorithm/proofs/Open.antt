-- A round opens: the write of its tag goes out.
use Prim.Native.Nat.{ℕ, suc, ◌+◌, ◌≤◌, ◌<◌}
use native.Mathlib.Omega.{arith}
use mathlib.Core.Path.{refl, sym, subst}
use mathlib.Core.Logic.{inl, inr}
use mathlib.Core.Bool.{false≢true}
use mathlib.Core.List.Memᴰ
use mathlib.Core.List.{◌∷◌}
use Rattle.logs.specs.Log.{◌∈◌, here, more}
use Rattle.history.specs.Message.{Value, Message, write, value}
use Rattle.history.specs.Event.{Operation, update, scan, Round, round0, round1, round2, round3}
use Rattle.algorithm.specs.Algorithm.{nobody, Wait, writing, comparing, Node, with_wait, opening}
use Rattle.algorithm.proofs.Cert.{Log, Logs}
use Rattle.algorithm.proofs.Local.{Past, Held, Rise, Have, Before, Stage, Local}
use Rattle.algorithm.specs.Node.{with_request_and_wait}
use Rattle.algorithm.proofs.Change.{stage-post}
use Rattle.algorithm.proofs.Turn.{have-with_request_and_wait, unused, moved}
use Rattle.algorithm.proofs.Outcome.{Fine}

pub rise-le : (op : Operation) (rnd : Round) {r t : ℕ} → Rise op rnd r t → r ≤ t
rise-le (update p) round0 h = omega arith
rise-le (update p) round1 h = omega arith
rise-le (update p) round2 h = omega arith
rise-le (update p) round3 h = omega arith
rise-le scan round0 h = elim h [ ]
rise-le scan round1 h = omega arith
rise-le scan round2 h = omega arith
rise-le scan round3 h = omega arith

module _ (n f : ℕ) (half : f + f < n) {out : Logs} {γ : Past} {i r : ℕ} {op : Operation} {l : Log} where
  -- The same reading, another round.
  pub onward : {rnd : Round} {t : ℕ} → Stage n f out γ i r op l rnd t → (rnd' : Round) (t' : ℕ)
      → Rise op rnd' r t' → Before n f out i r op rnd' t' → Stage n f out γ i r op l rnd' t'
  onward s rnd' t' h b = record {
    R = s.R;
    many = s.many;
    low = s.low;
    handed = s.handed;
    ahead = s.ahead;
    rise = h;
    before = b;
  }

  pub opened : (ν : Node) {o : Operation} {rnd₀ : Round} {t₀ : ℕ}
      → Local n f out γ i r op (with_wait (comparing o rnd₀ t₀) ν) l
      → (rnd : Round) (t : ℕ) → Stage n f out γ i r op l rnd t → Held i r op l
      → Fine n f out γ i r op l (opening op rnd t (with_wait (comparing o rnd₀ t₀) ν))
  opened ν {o} {rnd₀} {t₀} c rnd t s h = record {
    ended = tt;
    kept = moved n f c r (suc ν.request) w (more here) (omega arith) (unused n f c, c.due) have (
      refl,
      record {
        stage = stage-post n f half c (write (suc ν.request) t) s;
        at = l;
        asked = here;
        held = h;
        counted = λ k e. absurd (false≢true e);
      },
    );
  }
    where
      w : Wait
      w = writing op rnd t nobody

      old : (rnd : Round) (v : Value) → Have n f out γ.base i r op (with_wait (comparing o rnd₀ t₀) ν) (value v)
          → Have n f out γ.base i r op (with_request_and_wait (suc ν.request) (writing op rnd t nobody) ν) (value v)
      old round0 v (inl m, x) = (inl m, x)
      old round1 v (inl m, x) = (inl m, x)
      old round2 v (inl m, x) = (inl m, x)
      old round3 v (inl m, x) = (inl m, x)
      old _ v (inr h, x) = elim h [ ]

      have : (m : Message) → m ∈ (write (suc ν.request) t ∷ l)
          → Have n f out γ.base i r op (with_request_and_wait (suc ν.request) w ν) m
      have m (Memᴰ.head e) =
          subst (Have n f out γ.base i r op (with_request_and_wait (suc ν.request) w ν)) (sym e)
          (omega arith)
      have m (Memᴰ.tail e) =
          have-with_request_and_wait n f c r (suc ν.request) w (omega arith) (λ v y x. old rnd v x) m e
