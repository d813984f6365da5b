-- A borrowed view: its tag is above what was read, and, for an update, above all that the quorum of its round 1 had
-- echoed when it had the update's value.
use Prim.Native.Nat.{ℕ, ◌+◌, ◌≤◌, ◌<◌}
use native.Mathlib.Omega.{arith}
use native.Mathlib.Decide.{dec_le}
use mathlib.Core.Path.{◌≡◌, sym, subst}
use mathlib.Core.Logic.{◌⊎◌, inl, inr, ite}
use mathlib.Core.List.{List, []}
use Rattle.logs.proofs.Count.{meet}
use Rattle.logs.specs.Update.{upd}
use Rattle.logs.specs.Log.{◌∈◌, ◌⊑◌}
use Rattle.logs.proofs.Log.{comparable, mem_up}
use Rattle.history.specs.Message.{Value, View, value}
use Rattle.history.specs.Event.{Operation, update, scan, round3, borrowed}
use Rattle.algorithm.specs.Algorithm.{Wait, idle, reading, writing, comparing, borrowing, Good, Node, still}
use Rattle.algorithm.specs.Algorithm.{ended, with_wait, finish, kept, borrow_pass}
use Rattle.algorithm.proofs.Cert.{Log, Logs, Cert, carry, below}
use Rattle.algorithm.proofs.Local.{Past, Own, Settled, Known, Spread, Stage, Local}
use Rattle.algorithm.proofs.Grow.{upd-longer, settled_up}
use Rattle.algorithm.proofs.Sets.{kept-in}
use Rattle.algorithm.proofs.Outcome.{Final, Fine, fine-still}
use Rattle.algorithm.proofs.Compare.{read-covers, spread-settled, rested}

module _ (n f : ℕ) (half : f + f < n) where
  -- A value that a quorum had before any echo above u is in every certificate above u.
  spread-in : {out : Logs} {v : Value} {u T : ℕ} {A : List Value} → Spread n f out v u → Cert n f out T A → u < T
      → v.tag ≤ T → v ∈ A
  spread-in {out} {v} {u} {T} s G lt low =
      let (k, lo, hi, x, y) = meet n f half s.who G.W s.many G.W-many in
      let (e, h, m) = G.W-echo k y (omega arith) in
      let up : s.a k ⊑ G.a k = elim (comparable (s.sits k x) (G.W-in k y))
      [ inl r ↦ r | inr r ↦ absurd (omega (arith, s.low k e x (mem_up r m))) ] in
      G.W-all k v y (mem_up up (s.has k x)) low

  module _ {out : Logs} {γ : Past} {i r : ℕ} {l : Log} (ν : Node) {o : Operation} {t : ℕ} where
    module _ {op : Operation} (c : Local n f out γ i r op (with_wait (borrowing o t) ν) l) where
      stage : Stage n f out γ i r op l round3 t
      stage = c.phase.1

      values : (v : Value) → value v ∈ l → (v ∈ ν.all)
          × (v.writer ≡ i → Own i r op v ⊎ (Settled n f out v × (v.tag ≤ r)))
      values v m = (elim (c.have (value v) m).0 [ inl h ↦ h | inr h ↦ absurd h ], (c.have (value v) m).1)

      lent : (T : ℕ) (view : View) → r < t → t ≤ T → (k : Known n f out T view)
          → Final n f (upd out i l) γ.base view T k.0
      lent T view lt h (A, is, G) = record {
        is = is;
        cert = carry (upd-longer out i c.grown) G;
        covers = λ U B H. let low = read-covers n f half stage H in
            below half (omega arith) (carry c.base-in H) G;
      }

    borrows : (op : Operation) → Local n f out γ i r op (with_wait (borrowing o t) ν) l → (T : ℕ) (view : View) → t ≤ T
        → (0 < T → Known n f out T view)
        → Fine n f out γ i r op l (ended (finish op borrowed view) [] (with_wait idle ν))
    borrows scan c T view h k =
        let lt : r < t = (stage c).rise in
        record {
          kept = rested n f half scan ν c (values c) (λ v e. absurd e);
          ended = (T, (k (omega arith)).0, lent c T view lt h (k (omega arith)));
        }
    borrows (update p) c T view h k =
        let lt : r < t = (stage c).rise in
        let (u, below-t, s) = (stage c).before in
        let known = k (omega arith) in
        record {
          kept = rested n f half (update p) ν c (values c)
              (λ v e. subst (Settled n f out) (sym e) (spread-settled n f half s));
          ended = record {
            T = T;
            A = known.0;
            final = lent c T view lt h known;
            own = spread-in s known.2 (omega arith) (omega arith);
            low = omega arith;
            settled = settled_up n f (upd-longer out i c.grown) (spread-settled n f half s);
          };
        }

  pub borrow-pass : {out : Logs} {γ : Past} {i r : ℕ} {op : Operation} {l : Log} (ν : Node) (w : Wait)
      → Local n f out γ i r op (with_wait w ν) l → Fine n f out γ i r op l (borrow_pass n (with_wait w ν) w)
  borrow-pass ν idle c = fine-still n f c
  borrow-pass ν (reading o s u) c = fine-still n f c
  borrow-pass ν (writing o rnd t s) c = fine-still n f c
  borrow-pass ν (comparing o rnd t) c = fine-still n f c
  borrow-pass {out} {γ} {i} {r} {op} {l} ν (borrowing o t) c = elim (dec_le t g.tag)
      as (λ d. Fine n f out γ i r op l
      (ite d (ended (finish o borrowed g.view) [] (with_wait idle ν)) (still (with_wait (borrowing o t) ν)))) [
        | yes h ↦ subst (λ z. Fine n f out γ i r op l (ended (finish z borrowed g.view) [] (with_wait idle ν)))
            (sym c.phase.0) (borrows ν op c g.tag g.view h (λ e. c.known g (kept-in n ν.goods e)))
        | no h ↦ fine-still n f c
      ]
    where
      g : Good
      g = kept n ν.goods
