-- A tag above maxtag raises it alike, and of the good messages the same one is kept.
use Prim.Native.Nat.{ℕ, ◌≤◌, ◌<◌}
use native.Mathlib.Omega.{arith}
use native.Mathlib.Decide.{dec_lt}
use mathlib.Core.Path.{◌≡◌, refl}
use mathlib.Core.Logic.{ite}
use mathlib.Core.Bool.{Bool, true, false}
use lib.Dec.{ltb}
use borrow.Author.Tests.{lt-ltb, le-ltb}
use Rattle.view.specs.declared.View.{View}
use Rattle.octets.specs.Test.{pick}
use Rattle.view.specs.Size.{nodes}
use Rattle.record.specs.declared.Node.{Node}
use Rattle.step.specs.React.{raised, keep}
use Rattle.algorithm.specs.Algorithm as A
use Rattle.algorithm.specs.Node.{topping}
use Rattle.eqaso.specs.Bounded.{BoundedNode}
use Rattle.refine.specs.Meaning.{view_meaning}
use Rattle.refine.specs.Follows.{Sized, Follows}
use Rattle.refine.proofs.Tables.{sized-newest}
use Rattle.refine.proofs.Turned.{newest-held}

module _ {n f i : ℕ} {ν : A.Node} {c : Node} (F : Follows n f i ν c) (t : ℕ) where
  pub raised-higher : n ≤ nodes → BoundedNode n ν → ν.maxtag < t → Follows n f i (topping t ν) (raised c t)
  unfolding raised
  raised-higher small b h = rw (lt-ltb c.maxtag t (omega (arith, F.maxtag))) (record {
    size = F.size;
    faults = F.faults;
    own = F.own;
    maxtag = refl;
    request = F.request;
    wait = F.wait;
    heard = F.heard;
    last = F.last;
    atmax = newest-held F small b t (omega arith);
    atround = F.atround;
    kept = F.kept;
    keptview = F.keptview;
    heard-size = F.heard-size;
    last-size = F.last-size;
    atmax-size = sized-newest t c.last c.atmax;
    atround-size = F.atround-size;
    keptview-size = F.keptview-size;
  })

  pub raised-not : ¬ (ν.maxtag < t) → Follows n f i ν (raised c t)
  unfolding raised
  raised-not h = rw (le-ltb c.maxtag t (omega (arith, F.maxtag))) F

  pub kept-follows : (v : View) → Sized v → Follows n f i (A.keep t (view_meaning n v) ν) (keep c t v)
  unfolding keep A.kept
  kept-follows v z = record {
    size = F.size;
    faults = F.faults;
    own = F.own;
    maxtag = F.maxtag;
    request = F.request;
    wait = F.wait;
    heard = F.heard;
    last = F.last;
    atmax = F.atmax;
    atround = F.atround;
    kept = (higher (dec_lt old.tag t)).0;
    keptview = (higher (dec_lt old.tag t)).1;
    heard-size = F.heard-size;
    last-size = F.last-size;
    atmax-size = F.atmax-size;
    atround-size = F.atround-size;
    keptview-size = sized (ltb c.kept t);
  }
    where
      old : A.Good
      old = A.kept n ν.goods

      new : A.Good
      new = record { tag = t; view = view_meaning n v }

      higher : (d : Dec (old.tag < t)) → (pick (ltb c.kept t) t c.kept ≡ (ite d new old).tag)
          × (view_meaning n (pick (ltb c.kept t) v c.keptview) ≡ (ite d new old).view)
      higher (yes h) = rw (lt-ltb c.kept t (omega (arith, F.kept))) (refl, refl)
      higher (no h) = rw (le-ltb c.kept t (omega (arith, F.kept))) (F.kept, F.keptview)

      sized : (b : Bool) → Sized (pick b v c.keptview)
      sized true = z
      sized false = F.keptview-size
