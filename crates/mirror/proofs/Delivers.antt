-- A delivery on bytes is a delivery of the algorithm's cluster; 7 and 9 do not come up.
use Prim.Native.Nat.{ℕ, ◌<◌, ◌≤◌}
use native.Mathlib.Omega.{arith}
use native.Mathlib.Decide.{ℕ_discrete}
use mathlib.Core.Path.{◌≡◌, refl, sym, ap, ap₂, ◌∙◌, subst}
use mathlib.Core.Logic.{inl, inr}
use mathlib.Core.Bool.{false, ◌&&◌, true≢false}
use mathlib.Core.List.{List, [], ◌∷◌}
use lib.Dec.{ltb}
use lib.ListN.{length}
use borrow.Author.Tests.{lt-ltb, le-ltb}
use Rattle.logs.specs.Update.{upd2}
use Rattle.logs.proofs.Update.{upd2-same, upd2-other}
use Rattle.octets.specs.Answer.{Answer, returned, refused}
use Rattle.octets.specs.Test.{both}
use Rattle.view.specs.Size.{nodes}
use Rattle.view.specs.View.{view_of}
use Rattle.view.specs.declared.View.{View}
use Rattle.view.proofs.ViewBytes.{view-absent}
use Rattle.wire.specs.Codec.{front, view_at}
use Rattle.wire.specs.declared.Message.{Message}
use Rattle.wire.specs.declared.Message.TheVariants.{Read, ReadAnswer, Write, WriteAnswer, Echo, Value, Good}
use Rattle.wire.proofs.RoundTrip.{front-only}
use Rattle.record.specs.declared.Node.{Node}
use Rattle.step.specs.Move.{message_step}
use Rattle.step.specs.Stale.{stale_message}
use Rattle.step.proofs.Allowed.{allowed-lawful}
use Rattle.region.specs.Channel.{capacity, count_of, first}
use Rattle.layout.specs.Layout.{node, channel}
use Rattle.events.specs.Event as E
use Rattle.outgoing.specs.declared.Extent.{Extent}
use Rattle.history.specs.Message as M
use Rattle.history.specs.Order.{OneTo}
use Rattle.algorithm.specs.Algorithm as A
use Rattle.algorithm.proofs.Sets.{and_both, not-true}
use Rattle.eqaso.specs.Cluster as K
use Rattle.eqaso.specs.Bounded.{BoundedNode}
use Rattle.eqaso.specs.Bounded.{Expected}
use Rattle.refine.specs.Meaning.{message_of}
use Rattle.refine.specs.Follows.{Sized, Follows}
use Rattle.refine.proofs.Steps.{message-follows, never-stale}
use Rattle.mirror.specs.Mirrors.{channel_room, meant_by, extent_of, Mirrors}
use Rattle.mirror.specs.SameResult.{SameResult}
use Rattle.mirror.proofs.LetOut.{both-and}
use Rattle.mirror.proofs.Says.{says-count, says_first}
use Rattle.mirror.proofs.Shows.{Gone, shows-take}
use Rattle.mirror.proofs.Settle.{same-refusal, tells-true, settles}
use Rattle.mirror.proofs.Checks.{sized, is-usable}
use Rattle.mirror.proofs.Safety.{message-safe}
use Rattle.mirror.proofs.Events.{same-is_node, one-to, same-demand, same-admitted, cut-tells, few-then}

abbrev pub IsResult : {X : Type 0} → Answer X → Type 0
IsResult (returned x) = Unit {0}
IsResult (refused k) = ⊥

-- A view that is read has its sizes.
sized-view : (n : ℕ) (b : List ℕ) → n ≤ nodes → Sized (view_of n b)
sized-view n b small = let v = view-absent n b small in record { tags = v.tags-length; reports = v.reports-length }

-- No message that a run hands over is stale.
not-stale : {n f i : ℕ} {ν : A.Node} {c : Node} → n ≤ nodes → Follows n f i ν c → (k : ℕ) → OneTo n k
    → (m : Message) (v : View)
    → Expected n k ν (message_of n i v m) → stale_message c k m ≡ false
not-stale small F k o (Read q) v a = refl
not-stale small F k o (ReadAnswer q t) v a = refl
not-stale small F k o (Write q t) v a = refl
not-stale small F k o (WriteAnswer q t) v a = refl
not-stale small F k o (Echo t) v a = refl
not-stale small F k o (Value t w p) v a = never-stale F small k o t w p a
not-stale small F k o (Good t) v a = refl

module _ {n f : ℕ} (low : 1 ≤ n) (small : n ≤ nodes) {b : List ℕ} {σ : K.Cluster} (mirror : Mirrors n f b σ)
    (bounded : (c : ℕ) → BoundedNode n (σ.nodes c)) (a c : ℕ) (x : Extent) where
  -- The message that has waited longest is handled.
  module _ (from : OneTo n a) (at : OneTo n c) (stands : σ.stopped c ≡ false) (m : M.Message) (rest : List M.Message)
      (waits : σ.channel a c ≡ m ∷ rest) (expects : Expected n a (σ.nodes c) m) where
    q : ℕ → ℕ → List M.Message
    q = upd2 σ.channel a c rest

    s : List ℕ
    s = first (channel b a c)

    F : Follows n f c (σ.nodes c) (node b c)
    F = (mirror.shows.says c at).node

    gone : Gone σ.stopped q
    unfolding q
    gone y d e = upd2-other σ.channel a c rest y d (inr (λ z. true≢false (sym e ∙ ap σ.stopped z ∙ stands)))
        ∙ mirror.gone y d e

    room : (y d : ℕ) → OneTo n y → OneTo n d → length (q y d) ≤ capacity
    unfolding q
    room y d p o = go (ℕ_discrete y a) (ℕ_discrete d c)
      where
        less : length rest ≤ capacity
        less = omega (arith, mirror.room a c from at, ap length waits)

        go : Dec (y ≡ a) → Dec (d ≡ c) → length (upd2 σ.channel a c rest y d) ≤ capacity
        go (yes e) (yes h) = rw (e, h, upd2-same σ.channel a c rest) less
        go (yes e) (no h) = rw (upd2-other σ.channel a c rest y d (inr h)) (mirror.room y d p o)
        go (no e) h = rw (upd2-other σ.channel a c rest y d (inl e)) (mirror.room y d p o)

    -- The slot says some message of the code; 7 does not come up.
    reads : (r : Answer (Message × ℕ)) → front n s ≡ r → meant_by n c (view_of n (view_at n s)) r ≡ returned m
        → SameResult n f (E.deliver_message n a c x b s r)
        (K.deliver_first n f channel_room a c (extent_of x) σ (m ∷ rest))
    unfolding s q
    reads (refused k) e h = absurd (subst IsResult (sym h) tt)
    reads (returned p) e h = subst (λ z. SameResult n f (E.deliver_message n a c x b s (returned p))
        (K.deliver_first n f channel_room a c (extent_of x) σ (z ∷ rest)))
        means (rw (not-stale small F a from p.0 v ex)
        (same-demand low small mirror (K.holds (K.may_cut n f (extent_of x) σ))
        (cut-tells low small mirror x) 10 λ cut.
        rw mirror.shows.faults
        (settles small (sized low small mirror) a c from at x (few-then low small mirror x c cut) mirror q
        (shows-take small mirror.shows a c from at waits) gone room (message_step f (node b c) a p.0 v)
        (A.message_step n f c a (message_of n c v p.0) (σ.nodes c))
        (message-follows small F (bounded c) a from p.0 v (sized-view n (view_at n s) small) ex)
        (message-safe small F (is-usable low small mirror c at) a from p.0 v
        (allowed-lawful n p.0 (view_at n s) (front-only n s p.0 p.1 e).allowed-is)))))
      where
        v : View
        v = view_of n (view_at n s)

        means : message_of n c v p.0 ≡ m
        means = cc h

        ex : Expected n a (σ.nodes c) (message_of n c v p.0)
        ex = subst (Expected n a (σ.nodes c)) (sym means) expects

    handles : SameResult n f (E.demand (ltb 0 (count_of (channel b a c))) 8 b (E.deliver_message n a c x b s
        (front n s)))
        (K.deliver_first n f channel_room a c (extent_of x) σ (m ∷ rest))
    unfolding s
    handles =
        let some : 0 < count_of (channel b a c) = rw (says-count small (mirror.shows.says c at) a from, waits)
        (omega arith) in
        rw (lt-ltb 0 (count_of (channel b a c)) some)
        (reads (front n s) refl (says_first small (mirror.shows.says c at) a from waits).0)

  module _ (expects : (m : M.Message) (rest : List M.Message) → OneTo n c → σ.stopped c ≡ false
      → σ.channel a c ≡ m ∷ rest
      → Expected n a (σ.nodes c) m) where
    pub delivers : SameResult n f (E.deliver a c x b) (K.deliver_event n f channel_room a c (extent_of x) σ)
    unfolding s E.deliver
    delivers =
        same-admitted low small mirror a c (λ k. E.deliver_in k a c x b) (K.holds (K.is_node n a && K.is_node n c))
        (tells-true (ap₂ both (same-is_node n a) (same-is_node n c) ∙ both-and (K.is_node n a) (K.is_node n c)))
        (λ is. one-to n c (and_both (K.is_node n a) (K.is_node n c) is).1) λ is up.
        let (x, y) = and_both (K.is_node n a) (K.is_node n c) is in
        go (one-to n a x) (one-to n c y) (not-true (σ.stopped c) up) (σ.channel a c) refl
      where
        go : OneTo n a → OneTo n c → σ.stopped c ≡ false → (l : List M.Message) → σ.channel a c ≡ l
            → SameResult n f (E.demand (ltb 0 (count_of (channel b a c))) 8 b
            (E.deliver_message n a c x b (first (channel b a c)) (front n (first (channel b a c)))))
            (K.deliver_first n f channel_room a c (extent_of x) σ l)
        go from at up [] e =
            let none : count_of (channel b a c) ≤ 0 = rw (says-count small (mirror.shows.says c at) a from, e)
            (omega arith) in
            rw (le-ltb 0 (count_of (channel b a c)) none) (same-refusal mirror 8)
        go from at up (m ∷ rest) e = handles from at up m rest e (expects m rest at up e)
