-- The claims of specs, of every run.
use Prim.Native.Nat.{ℕ, ◌+◌, ◌<◌}
use mathlib.Core.Path.{refl, sym, ap, subst}
use mathlib.Core.Bool.{Bool}
use mathlib.Core.List.Memᴰ
use mathlib.Core.List.{List, []}
use Rattle.logs.specs.Log.{◌∈◌}
use Rattle.logs.proofs.Log.{⊑_trans, ⊑-cons, mem_up, place, each_at}
use Rattle.history.specs.Message.{Value, View, value, good}
use Rattle.history.specs.Event.{Event}
use Rattle.history.specs.Trace.{let_out_to}
use Rattle.history.specs.Tags.{TagsAsWorded}
use Rattle.history.specs.Views.{RoundsComparable, ShowsAbsence, HasEarlier}
use Rattle.algorithm.proofs.Cert.{carry}
use Rattle.algorithm.proofs.Local.{Due}
use Rattle.algorithm.proofs.Grow.{upd-shorter}
use Rattle.algorithm.proofs.Sites.{logs}
use Rattle.eqaso.specs.Cluster.{unlimited, start, after, trace}
use Rattle.eqaso.specs.Claims.{sixteen, Claim3, OnLinks, SpentLast, BeginsOpen}
use Rattle.eqaso.specs.Bounded.{RunBounded, RunExpected, OwnHeld, OpensHigh, LetOut, InitialSegment}
use Rattle.eqaso.specs.Bounded.{RunClosed, RunRising}
use Rattle.eqaso.proofs.Closure.{all_closed, from-closed}
use Rattle.eqaso.proofs.Rising.{tags-rise}
use Rattle.eqaso.proofs.Between.{Between, between-place}
use Rattle.eqaso.proofs.Linked.{linked}
use Rattle.eqaso.proofs.Origin.{origin}
use Rattle.eqaso.proofs.Act.{begin-course}
use Rattle.eqaso.proofs.Spent.{spent-last}
use Rattle.eqaso.proofs.Told.{told_in}
use Rattle.eqaso.proofs.History.{Certified}
use Rattle.eqaso.proofs.Views.{comparable-views}
use Rattle.eqaso.proofs.Run.{good as run-good}
use Rattle.eqaso.proofs.OneOrder.{one-order}
use Rattle.eqaso.proofs.Words.{as-worded}
use Rattle.eqaso.proofs.Corollary.{scan-without-updates, view-has-earlier}
use Rattle.eqaso.proofs.Demand3.{demand3}
use Rattle.eqaso.proofs.BoundedRun.{run-bounded, run-expected, run-own-held}
use Rattle.eqaso.proofs.Opening.{opens-high}

pub claim3 : Claim3
claim3 n f size half = demand3 n f sixteen half

pub on-links : OnLinks
on-links n f half = demand3 n f unlimited half

-- Claims about single steps.
pub spent-only : (n f : ℕ) → SpentLast n f
spent-only n f = spent-last n f

pub begins-open : (n f : ℕ) → f + f < n → BeginsOpen n f
begins-open n f half i op ν = (begin-course n f i half op ν).0

pub high : (n f : ℕ) → OpensHigh n f
high n f = opens-high n f

-- Claims about runs, whatever the channels have room for.
module _ (n f : ℕ) (room : ℕ → Bool) (half : f + f < n) where
  -- A good message that was let out has a certificate.
  certified : (es : List Event) (a b t : ℕ) (v : View) → good t v ∈ let_out_to (trace n f room es) a b
      → Certified n f (logs (run-good n f room half es).sites) v
  certified es a b t v i =
      let g = run-good n f room half es in
      let m = mem_up (g.fits.gone-in a b)
      (told_in g.told a b (good t v) ((linked n f room es).reach a b (good t v) i).1 i).0 in
      let (p, at) = place m in
      let (A, is, G) = each_at (Due n f a (logs g.sites)) (g.inv a).due at in
      (t, (A, is, carry (upd-shorter (logs g.sites) a (⊑-cons at)) G))

  pub tags-as-worded : (es : List Event) → TagsAsWorded (trace n f room es)
  tags-as-worded es = as-worded (run-good n f room half es).kept

  pub rounds-comparable : (es : List Event) → RoundsComparable n (trace n f room es)
  rounds-comparable es a b c d t u v x i j = comparable-views n f half (certified es a b t v i) (certified es c d u x j)

  pub shows-absence : (es : List Event) → ShowsAbsence n (trace n f room es)
  shows-absence es = scan-without-updates (one-order n f room half es)

  pub has-earlier : (es : List Event) → HasEarlier (trace n f room es)
  has-earlier es = view-has-earlier (run-good n f room half es).kept

  pub bounded : RunBounded n f room
  bounded = run-bounded n f room half

  pub expected : RunExpected n f room
  expected = run-expected n f room half

  pub own_held : OwnHeld n f room
  own_held = run-own-held n f room half

  -- What a writer has let out stands in its log.
  out-sent : (es : List Event) (v : Value) → LetOut (trace n f room es) v
      → value v ∈ logs (run-good n f room half es).sites v.writer
  out-sent es v (b, i) =
      let g = run-good n f room half es in
      mem_up (g.fits.gone-in v.writer b)
      (told_in g.told v.writer b (value v) ((linked n f room es).reach v.writer b (value v) i).1 i).0

  pub closed : RunClosed n f room
  closed es c =
      let g = run-good n f room half es in
      let tr = trace n f room es in
      let from-writer = (origin n f room es).held c in
      subst (λ ν. InitialSegment tr ν.all × ((k : ℕ) → InitialSegment tr (ν.from k)))
      (ap (λ ν. ν c) (sym g.same)) (
        record {
          sent = λ v m. from-writer v (held v m);
          earlier = λ u v m out up. all_closed n f (logs g.sites) (λ k. (g.inv k).due) (g.inv c) m
              (out-sent es u out) up;
        },
        λ k. record {
          sent = λ v m. from-writer v (held v ((g.orderly.bounded c).known k v m));
          earlier = λ u v m out up. from-closed n f (logs g.sites) (λ k. (g.inv k).due) (g.inv c) k m
              (out-sent es u out) up;
        },
      )
    where
      held : (v : Value) → v ∈ ((run-good n f room half es).sites c).node.all
          → v ∈ ((after n f room start es).nodes c).all
      held v m = subst (λ ν. v ∈ (ν c).all) (sym (run-good n f room half es).same) m

  pub rising : RunRising n f room
  rising es a b u v l rest is i e =
      let g = run-good n f room half es in
      let m : value v ∈ let_out_to (trace n f room es) a b = subst (λ z. value v ∈ z) (sym is)
      (Memᴰ.append_right l (Memᴰ.head refl)) in
      let (p, up, at, before) = between-place l (value v) rest (subst (λ z. Between b [] z (g.gone a b)) is
      (g.told.lets a b ((linked n f room es).reach a b (value v) m).1)) in
      tags-rise n f (logs g.sites) (λ k. (g.inv k).due) (λ k. (g.orderly.rising k).order) a
      (⊑_trans at (g.fits.gone-in a b)) (before (value u) i) e
