-- A stop on bytes is a stop of the algorithm's cluster.
use Prim.Native.Nat.{ℕ, ◌≤◌}
use native.Mathlib.Decide.{dec_lt}
use mathlib.Core.Path.{refl}
use mathlib.Core.Bool.{decide_iff}
use mathlib.Core.List.{List}
use Rattle.view.specs.Size.{nodes}
use Rattle.logs.specs.Count as C
use Rattle.outgoing.specs.declared.Extent.TheVariants.{Cut}
use Rattle.events.specs.Stop.{stop_in, stop}
use Rattle.eqaso.specs.Cluster as K
use Rattle.mirror.specs.Mirrors.{Mirrors}
use Rattle.mirror.specs.SameResult.{SameResult}
use Rattle.mirror.proofs.Settle.{tells-true}
use Rattle.mirror.proofs.Events.{twice-is_node, one-to, same-demand, same-admitted, cut-tells}
use Rattle.mirror.proofs.Stops.{stop-mirrors}

module _ {n f : ℕ} (low : 1 ≤ n) (small : n ≤ nodes) {b : List ℕ} {σ : K.Cluster} (mirror : Mirrors n f b σ) where
  pub ceases : (c : ℕ) → SameResult n f (stop c b) (K.stop_event n f c σ)
  unfolding stop
  ceases c =
      same-admitted low small mirror c c (λ k. stop_in k c b) (K.holds (K.is_node n c)) (tells-true (twice-is_node n c))
      (one-to n c) λ is stands.
      let at = one-to n c is in
      same-demand low small mirror (K.holds (K.may_stop n f σ)) (cut-tells low small mirror (Cut 0)) 10 λ may.
      record {
        answer = refl;
        sent = refl;
        mirrors = stop-mirrors small mirror c at ((decide_iff (dec_lt (C.count σ.stopped n) f)).0 may);
      }
