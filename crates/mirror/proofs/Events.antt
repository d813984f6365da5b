-- One event on bytes is one event of the algorithm's cluster: the same refusals, on the same conditions and in the same
-- order, and else the same result.
use Prim.Native.Nat.{ℕ, suc, ◌-◌, ◌≤◌}
use native.Mathlib.Omega.{arith}
use native.Mathlib.Decide.{dec_le, dec_lt}
use mathlib.Core.Path.{◌≡◌, refl, sym, ap, ap₂, ◌∙◌, subst}
use mathlib.Core.Bool.{Bool, true, false, not, decide, decide_iff}
use mathlib.Core.List.{List}
use lib.Dec.{leb, ltb}
use borrow.Author.Tests.{le-leb, lt-leb}
use Rattle.logs.specs.Count as C
use Rattle.logs.proofs.Count.{count-one}
use Rattle.octets.specs.Test.{both}
use Rattle.view.specs.Size.{nodes}
use Rattle.record.specs.Usable.{is_open}
use Rattle.record.specs.declared.Operation.{Operation}
use Rattle.step.specs.Move.{begin_step}
use Rattle.layout.specs.Layout.{stated, stopped, node, is_node}
use Rattle.outgoing.specs.Outgoing as O
use Rattle.events.specs.Event as E
use Rattle.outgoing.specs.declared.Extent.{Extent}
use Rattle.outgoing.specs.declared.Extent.TheVariants.{Whole, Cut}
use Rattle.history.specs.Order.{OneTo}
use Rattle.algorithm.specs.Algorithm as A
use Rattle.algorithm.proofs.Sets.{and_both}
use Rattle.eqaso.specs.Cluster as K
use Rattle.eqaso.specs.Bounded.{BoundedNode}
use Rattle.refine.specs.Meaning.{operation_of}
use Rattle.refine.specs.Follows.{Follows}
use Rattle.refine.proofs.Choice.{Tells, same-side}
use Rattle.refine.proofs.Steps.{begin-follows, same-idle, not_full, is-full}
use Rattle.mirror.specs.Mirrors.{channel_room, extent_of, Mirrors}
use Rattle.mirror.specs.SameResult.{SameResult}
use Rattle.mirror.proofs.LetOut.{leb-decides, both-and}
use Rattle.mirror.proofs.Settle.{same-refusal, tells-true, settles}
use Rattle.mirror.proofs.Checks.{sized, same-stopped, is-usable, is-admitted}
use Rattle.mirror.proofs.Safety.{begin-safe}

-- The tests of the code are the decisions of the algorithm.
lt-decides : (a b : ℕ) → leb (suc a) b ≡ decide (dec_lt a b)
unfolding decide
lt-decides a b = elim (dec_lt a b) as (λ d. leb (suc a) b ≡ decide d) [
  | yes h ↦ le-leb (suc a) b h
  | no h ↦ lt-leb
      (suc a) b (omega arith)
]

pub same-is_node : (n c : ℕ) → is_node n c ≡ K.is_node n c
same-is_node n c = ap₂ both (lt-decides 0 c) (leb-decides c n) ∙ both-and (decide (dec_lt 0 c)) (decide (dec_le c n))

-- The test of one node is asked twice.
pub twice-is_node : (n c : ℕ) → both (is_node n c) (is_node n c) ≡ K.is_node n c
twice-is_node n c = go (is_node n c) ∙ same-is_node n c
  where
    go : (t : Bool) → both t t ≡ t
    go true = refl
    go false = refl

pub one-to : (n c : ℕ) → K.is_node n c ≡ true → OneTo n c
one-to n c e = let (x, y) = and_both (decide (dec_lt 0 c)) (decide (dec_le c n)) e in
    ((decide_iff (dec_lt 0 c)).0 x, (decide_iff (dec_le c n)).0 y)

module _ {n f : ℕ} (low : 1 ≤ n) (small : n ≤ nodes) {b : List ℕ} {σ : K.Cluster} (mirror : Mirrors n f b σ) where
  -- A refusal is given on the same condition.
  pub same-demand : {P : Type 0} {t : Bool} (d : Dec P) → Tells t P → (k : ℕ) {r : E.Result} {r' : K.Result}
      → (P → SameResult n f r r') → SameResult n f (E.demand t k b r) (K.demand d k σ r')
  same-demand d t k next = same-side (SameResult n f) d t next (λ h. same-refusal mirror k)

  pub stands-tells : (c : ℕ) → OneTo n c → Tells (not (stopped b c)) (K.stands σ c ≡ true)
  stands-tells c o = tells-true (ap not (mirror.shows.says c o).stop)

  pub cut-tells : (x : Extent) → Tells (O.may_cut n x b) (K.may_cut n f (extent_of x) σ ≡ true)
  cut-tells Whole = tells-true refl
  cut-tells (Cut m) = tells-true (ap₂ ltb (same-stopped low small mirror) mirror.shows.faults
      ∙ lt-decides (C.count σ.stopped n) f)

  -- An event is admitted on the same conditions.
  pub same-admitted : (a c : ℕ) (next : ℕ → E.Result) {P : Type 0} (d : Dec P)
      → Tells (both (is_node n a) (is_node n c)) P → (P → OneTo n c) → {r' : K.Result}
      → (P → K.stands σ c ≡ true → SameResult n f (next n) r')
      → SameResult n f (E.admitted a c b (next (stated b))) (K.demand d 3 σ (K.demand (K.holds (K.stands σ c)) 4 σ r'))
  same-admitted a c next d t at {r'} k = subst
      (λ r. SameResult n f r (K.demand d 3 σ (K.demand (K.holds (K.stands σ c)) 4 σ r')))
      (sym (is-admitted low small mirror a c next))
      (same-demand d t 3 λ p. same-demand (K.holds (K.stands σ c)) (stands-tells c (at p)) 4 λ up. k p up)

  pub few-then : (x : Extent) (c : ℕ) → K.may_cut n f (extent_of x) σ ≡ true
      → C.count (K.halted (extent_of x) c σ.stopped) n ≤ f
  few-then Whole c e = mirror.few
  few-then (Cut m) c e = omega (
    arith,
    (decide_iff (dec_lt (C.count σ.stopped n) f)).0 e,
    count-one
        σ.stopped c n,
  )

  module _ (bounded : (c : ℕ) → BoundedNode n (σ.nodes c)) where
    -- The begin of an operation.
    pub begins : (c : ℕ) (o : Operation) (x : Extent)
        → SameResult n f (E.begin c o x b) (K.begin_event n f channel_room c (operation_of o) (extent_of x) σ)
    unfolding E.begin
    begins c o x =
        same-admitted c c (λ k. E.open_in k c o x b) (K.holds (K.is_node n c)) (tells-true (twice-is_node n c))
        (one-to n c) λ is stands.
        let at : OneTo n c = one-to n c is in
        let F : Follows n f c (σ.nodes c) (node b c) = (mirror.shows.says c at).node in
        same-demand (K.holds (K.is_idle (σ.nodes c).wait)) (idle F) 5 λ free.
        same-demand (dec_le 5 (A.limit - (σ.nodes c).request))
        (λ h. ap not (not_full F h), λ h. ap not (is-full F h)) 6 λ left.
        same-demand (K.holds (K.may_cut n f (extent_of x) σ)) (cut-tells x) 10 λ cut.
        rw mirror.shows.faults
        (settles small (sized low small mirror) c c at at x (few-then x c cut) mirror σ.channel mirror.shows
        mirror.gone mirror.room
        (begin_step f (node b c) o) (A.begin_step n f c (operation_of o) (σ.nodes c))
        (begin-follows small F (bounded c) o)
        (begin-safe small F (is-usable low small mirror c at) o (same-idle F.wait ∙ ap not free)
        (not_full F left)))
      where
        twice : (y : Bool) → not (not y) ≡ y
        twice true = refl
        twice false = refl

        idle : Follows n f c (σ.nodes c) (node b c)
            → Tells (not (is_open (node b c).wait)) (K.is_idle (σ.nodes c).wait ≡ true)
        idle F = tells-true (ap not (same-idle F.wait) ∙ twice (K.is_idle (σ.nodes c).wait))
