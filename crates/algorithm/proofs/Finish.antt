-- The wait for a quorum that agrees: a good round ends the operation, or leads from round 0 to round 1; a failed one
-- leads on to the next round, and the third to a wait for a good message.
use Prim.Native.Nat.{ℕ, suc, ◌+◌, ◌-◌, ◌≤◌, ◌<◌, max}
use native.Mathlib.Omega.{arith}
use native.Mathlib.Decide.{dec_le}
use mathlib.Core.Path.{refl, sym, subst}
use mathlib.Core.Logic.{ite}
use mathlib.Core.List.Memᴰ
use mathlib.Core.List.{[], ◌∷◌}
use Rattle.logs.specs.Count.{count}
use Rattle.logs.specs.Log.{here, more}
use Rattle.history.specs.Message.{of, value, good}
use Rattle.history.specs.Event.{Operation, update, scan, Round, round0, round1, round2, round3, done, shown, Rule}
use Rattle.history.specs.Event.{direct}
use Rattle.algorithm.specs.Algorithm.{Wait, idle, reading, writing, comparing, borrowing, Node, still, ended}
use Rattle.algorithm.specs.Algorithm.{with_wait, after_good, after_failed, agrees, quorum?, view_upto, compare_pass}
use Rattle.algorithm.proofs.Cert.{Log, Logs}
use Rattle.algorithm.proofs.Local.{Past, Settled, Local}
use Rattle.algorithm.proofs.Grow.{upd-longer, settled_up}
use Rattle.algorithm.proofs.Change.{stage-post}
use Rattle.algorithm.proofs.Turn.{have-with_request_and_wait, moved}
use Rattle.algorithm.proofs.Outcome.{Fine, fine-still}
use Rattle.algorithm.proofs.Open.{onward, opened}
use Rattle.algorithm.proofs.Compare.{cmp, known, final, posted, own-spread, spread-settled, rested}

module _ (n f : ℕ) (half : f + f < n) {out : Logs} {γ : Past} {i r : ℕ} {l : Log} (ν : Node) {o : Operation} where
  module _ {rnd : Round} {t : ℕ} (many : n - f ≤ count (agrees i ν t) n) (top : ν.maxtag ≤ t) (rule : Rule) where
    scan-ends : Local n f out γ i r scan (with_wait (comparing o rnd t) ν) l
        → Fine n f out γ i r scan l (ended (shown rule (view_upto n t ν.all)) (good t (view_upto n t ν.all) ∷ [])
        (with_wait idle ν))
    scan-ends c = record {
      kept = rested n f half scan ν c' (λ v m. (known n f half ν c' v m, (c'.have (value v) m).1)) (λ v e. absurd e);
      ended = (t, ν.all, final n f half ν c many top (good t (view_upto n t ν.all) ∷ l) (more here));
    }
      where
        c' : Local n f out γ i r scan (with_wait (comparing o rnd t) ν) (good t (view_upto n t ν.all) ∷ l)
        c' = posted n f half ν c many top

    update-ends : (p : ℕ) → r < t → Local n f out γ i r (update p) (with_wait (comparing o rnd t) ν) l
        → Fine n f out γ i r (update p) l
        (ended (done rule (view_upto n t ν.all)) (good t (view_upto n t ν.all) ∷ []) (with_wait idle ν))
    update-ends p lt c = record {
      kept = rested n f half (update p) ν c' (λ v m. (known n f half ν c' v m, (c'.have (value v) m).1))
          (λ v e. subst (Settled n f out) (sym e) settled);
      ended = record {
        T = t;
        A = ν.all;
        final = final n f half ν c many top (good t (view_upto n t ν.all) ∷ l) (more here);
        own = known n f half ν c (of (suc r) i p) (cmp n f half ν c).held;
        low = omega arith;
        settled = settled_up n f (upd-longer out i (more c.grown)) settled;
      };
    }
      where
        c' : Local n f out γ i r (update p) (with_wait (comparing o rnd t) ν) (good t (view_upto n t ν.all) ∷ l)
        c' = posted n f half ν c many top

        settled : Settled n f out (of (suc r) i p)
        settled = spread-settled n f half (own-spread n f half ν c p refl lt t top)

  -- Round 0 was good, or failed: round 1 opens.
  module _ {t : ℕ} (p : ℕ) (c : Local n f out γ i r (update p) (with_wait (comparing o round0 t) ν) l) where
    first_good : n - f ≤ count (agrees i ν t) n → ν.maxtag ≤ t
        → Fine n f out γ i r (update p) l
        (after_good (update p) round0 t (view_upto n t ν.all) (with_wait (comparing o round0 t) ν))
    first_good many top =
        let view = view_upto n t ν.all in
        let next = opened n f half ν (posted n f half ν c many top) round1 (max (suc t) ν.maxtag)
        (onward n f half (stage-post n f half c (good t view) (cmp n f half ν c).stage) round1
        (max (suc t) ν.maxtag)
        (omega (arith, (cmp n f half ν c).stage.rise)) tt)
        (Memᴰ.tail (cmp n f half ν c).held) in
        record { kept = next.kept; ended = tt }

    first-failed : Fine n f out γ i r (update p) l
        (after_failed (update p) round0 t (with_wait (comparing o round0 t) ν))
    first-failed = opened n f half ν c round1 (max (suc t) ν.maxtag)
        (onward n f half (cmp n f half ν c).stage round1 (max (suc t) ν.maxtag)
        (omega (arith, (cmp n f half ν c).stage.rise)) tt)
        (cmp n f half ν c).held

  compare-good : (op : Operation) (rnd : Round) {t : ℕ} → Local n f out γ i r op (with_wait (comparing o rnd t) ν) l
      → n - f ≤ count (agrees i ν t) n → ν.maxtag ≤ t
      → Fine n f out γ i r op l (after_good op rnd t (view_upto n t ν.all) (with_wait (comparing o rnd t) ν))
  compare-good (update p) round0 c many top = first_good p c many top
  compare-good (update p) round1 c many top = update-ends many top (direct round1) p (cmp n f half ν c).stage.rise c
  compare-good (update p) round2 c many top = update-ends many top (direct round2) p (cmp n f half ν c).stage.rise c
  compare-good (update p) round3 c many top = update-ends many top (direct round3) p (cmp n f half ν c).stage.rise c
  compare-good scan round0 c many top = absurd (cmp n f half ν c).stage.rise
  compare-good scan round1 c many top = scan-ends many top (direct round1) c
  compare-good scan round2 c many top = scan-ends many top (direct round2) c
  compare-good scan round3 c many top = scan-ends many top (direct round3) c

  third-failed : {op : Operation} {t : ℕ} → Local n f out γ i r op (with_wait (comparing o round3 t) ν) l
      → Fine n f out γ i r op l (still (with_wait (borrowing op t) ν))
  third-failed {op} {t} c = fine-still n f (moved n f c r ν.request (borrowing op t) here (omega arith) c.due
      (have-with_request_and_wait n f c r ν.request (borrowing op t) (omega arith) (λ v m h. h))
      (refl, (cmp n f half ν c).stage))

  compare-failed : (op : Operation) (rnd : Round) {t : ℕ} → Local n f out γ i r op (with_wait (comparing o rnd t) ν) l
      → ¬ (ν.maxtag ≤ t) → Fine n f out γ i r op l (after_failed op rnd t (with_wait (comparing o rnd t) ν))
  compare-failed (update p) round0 c above = first-failed p c
  compare-failed (update p) round1 c above = opened n f half ν c round2 ν.maxtag
      (onward n f half (cmp n f half ν c).stage round2 ν.maxtag (omega (arith, (cmp n f half ν c).stage.rise))
      (own-spread n f half ν c p refl (cmp n f half ν c).stage.rise ν.maxtag (omega arith)))
      (cmp n f half ν c).held
  compare-failed (update p) round2 {t} c above = opened n f half ν c round3 ν.maxtag
      (onward n f half (cmp n f half ν c).stage round3 ν.maxtag (omega (arith, (cmp n f half ν c).stage.rise))
      (t, omega arith, (cmp n f half ν c).stage.before))
      (cmp n f half ν c).held
  compare-failed (update p) round3 c above = third-failed c
  compare-failed scan round0 c above = absurd (cmp n f half ν c).stage.rise
  compare-failed scan round1 c above = opened n f half ν c round2 ν.maxtag
      (onward n f half (cmp n f half ν c).stage round2 ν.maxtag (omega (arith, (cmp n f half ν c).stage.rise)) tt)
      tt
  compare-failed scan round2 c above = opened n f half ν c round3 ν.maxtag
      (onward n f half (cmp n f half ν c).stage round3 ν.maxtag (omega (arith, (cmp n f half ν c).stage.rise)) tt)
      tt
  compare-failed scan round3 c above = third-failed c

module _ (n f : ℕ) (half : f + f < n) {out : Logs} {γ : Past} {i r : ℕ} {op : Operation} {l : Log} where
  agreed : (ν : Node) {o : Operation} {rnd : Round} {t : ℕ} → Local n f out γ i r op (with_wait (comparing o rnd t) ν) l
      → n - f ≤ count (agrees i ν t) n → (d : Dec (ν.maxtag ≤ t))
      → Fine n f out γ i r op l (ite d (after_good op rnd t (view_upto n t ν.all) (with_wait (comparing o rnd t) ν))
      (after_failed op rnd t (with_wait (comparing o rnd t) ν)))
  agreed ν {o} {rnd} c many (yes h) = compare-good n f half ν op rnd c many h
  agreed ν {o} {rnd} c many (no h) = compare-failed n f half ν op rnd c h

  pub compare-pass : (ν : Node) (w : Wait) → Local n f out γ i r op (with_wait w ν) l
      → Fine n f out γ i r op l (compare_pass n f i (with_wait w ν) w)
  compare-pass ν idle c = fine-still n f c
  compare-pass ν (reading o s u) c = fine-still n f c
  compare-pass ν (writing o rnd t s) c = fine-still n f c
  compare-pass ν (borrowing o t) c = fine-still n f c
  compare-pass ν (comparing o rnd t) c = elim (quorum? n f (agrees i ν t))
      as (λ d. Fine n f out γ i r op l (ite d (ite (dec_le ν.maxtag t)
      (after_good o rnd t (view_upto n t ν.all) ν₀) (after_failed o rnd t ν₀)) (still ν₀))) [
        | yes h ↦ subst (λ z. Fine n f out γ i r op l (ite (dec_le ν.maxtag t)
            (after_good z rnd t (view_upto n t ν.all) ν₀) (after_failed z rnd t ν₀)))
            (sym c.phase.0) (agreed ν c h (dec_le ν.maxtag t))
        | no h ↦ fine-still n f c
      ]
    where
      ν₀ : Node
      ν₀ = with_wait (comparing o rnd t) ν
