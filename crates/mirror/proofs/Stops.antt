-- A node that stops: its flag is set and its incoming channels are emptied, on bytes as over sets.
use Prim.Native.Nat.{ℕ, ◌<◌, ◌≤◌}
use native.Mathlib.Omega.{arith}
use mathlib.Core.Path.{◌≡◌, sym, ◌∙◌, subst, fun_ext}
use mathlib.Core.Bool.{Bool, true, false, cond}
use mathlib.Core.List.{List, []}
use lib.ListN.{length}
use Rattle.view.specs.Size.{nodes}
use Rattle.logs.specs.Count as C
use Rattle.logs.proofs.Count.{count-one}
use Rattle.logs.specs.Update.{upd}
use Rattle.logs.proofs.Update.{upd-self}
use Rattle.region.specs.Channel.{capacity}
use Rattle.block.specs.Block.{halt}
use Rattle.layout.specs.Layout.{on_block}
use Rattle.history.specs.Message as M
use Rattle.history.specs.Event as H
use Rattle.history.specs.Order.{OneTo}
use Rattle.algorithm.specs.Algorithm as A
use Rattle.eqaso.specs.Cluster as K
use Rattle.mirror.specs.Mirrors.{Shows, Mirrors}
use Rattle.mirror.proofs.Channels.{channel-stopped, channels-none, emptied, emptied-gone, channels-emptied}
use Rattle.mirror.proofs.Shows.{shows-halt}

pub stop-mirrors : {n f : ℕ} → n ≤ nodes → {b : List ℕ} {σ : K.Cluster} → Mirrors n f b σ → (c : ℕ) → OneTo n c
    → C.count σ.stopped n < f
    → Mirrors n f (on_block c (halt n) b) (K.commit c (H.cut 0) (A.still (σ.nodes c)) [] σ.channel σ).cluster
stop-mirrors {n} {f} small {b} {σ} mirror c o may = record {
  shows = subst (λ ν. Shows n f (on_block c (halt n) b) ν stopped end) (sym (upd-self σ.nodes c))
      (subst (Shows n f (on_block c (halt n) b) σ.nodes stopped) same
      (shows-halt small mirror.shows c o mirror.gone));
  room = λ a d p h. subst (λ q. length (q a d) ≤ capacity) same (low a d p h (stopped d));
  gone = λ a d h. channel-stopped stopped c [] σ.channel a d h;
  few = omega (arith, count-one σ.stopped c n);
  half = mirror.half;
}
  where
    stopped : ℕ → Bool
    stopped = upd σ.stopped c true

    end : ℕ → ℕ → List M.Message
    end = K.channels stopped c [] σ.channel

    same : emptied stopped σ.channel ≡ end
    same = fun_ext (λ a. fun_ext
        (λ d. sym (channels-none stopped c (emptied stopped σ.channel) (emptied-gone stopped σ.channel) a d)))
        ∙ channels-emptied stopped c [] σ.channel

    low : (a d : ℕ) → OneTo n a → OneTo n d → (y : Bool) → length (cond y [] (σ.channel a d)) ≤ capacity
    low a d p h true = omega arith
    low a d p h false = mirror.room a d p h
