-- The changes of a record that concern the open operation alone, and the fresh record.
use Prim.Native.Nat.{ℕ, suc, ◌+◌, ◌≤◌}
use native.Mathlib.Decide.{dec_le}
use native.Mathlib.Numerals.{add-one}
use mathlib.Core.Path.{◌≡◌, refl, sym, ◌∙◌, ap, subst}
use mathlib.Core.Logic.{ite}
use lib.ListN.{length-replicate}
use Rattle.view.specs.Size.{nodes}
use Rattle.view.specs.declared.View.{View}
use Rattle.table.specs.Table.{newest, tag_of, cells}
use Rattle.record.specs.Record.{blank, set_wait, closed}
use Rattle.record.specs.declared.Node.{Node}
use Rattle.record.specs.declared.Wait.{Wait}
use Rattle.record.specs.declared.Wait.TheVariants.{Idle}
use Rattle.step.specs.Move.{opened}
use Rattle.history.specs.Message as M
use Rattle.history.specs.Event as H
use Rattle.algorithm.specs.Algorithm as A
use Rattle.eqaso.proofs.Bounded.{BoundedNode, newest-by-two}
use Rattle.refine.specs.Meaning.{entry_of, kind_of, number}
use Rattle.refine.specs.Follows.{SameWait, Sized, Holds, HoldsRound, Follows}
use Rattle.refine.proofs.Quorums.{same-nobody}
use Rattle.refine.proofs.Tables.{sized-absent, entry_absent, view-absent, heard-none, entry-newest, sized-newest}

-- A fresh record follows the empty sets.
pub follows-fresh : (n f i : ℕ) → Follows n f i A.fresh (blank n f i)
unfolding A.newest A.kept
follows-fresh n f i = record {
  size = refl;
  faults = refl;
  own = refl;
  maxtag = refl;
  request = refl;
  wait = SameWait.idle;
  heard = λ k w o p. heard-none k w;
  last = λ w o. entry_absent w;
  atmax = λ w o. entry_absent w;
  atround = tt;
  kept = refl;
  keptview = view-absent n;
  heard-size = length-replicate {A = ℕ} cells 0;
  last-size = sized-absent;
  atmax-size = sized-absent;
  atround-size = sized-absent;
  keptview-size = sized-absent;
}

module _ {n f i : ℕ} {ν : A.Node} {c : Node} (F : Follows n f i ν c) where
  pub follows-with_request_and_wait : {q q' : ℕ} → q' ≡ q → {w : A.Wait} {w' : Wait} → SameWait n w w'
      → {v : View} → HoldsRound n v w ν.all → Sized v
      → Follows n f i (A.with_request_and_wait q w ν) (set_wait c q' w' v)
  follows-with_request_and_wait e same {v} h z = record {
    size = F.size;
    faults = F.faults;
    own = F.own;
    maxtag = F.maxtag;
    request = e;
    wait = same;
    heard = F.heard;
    last = F.last;
    atmax = F.atmax;
    atround = h;
    kept = F.kept;
    keptview = F.keptview;
    heard-size = F.heard-size;
    last-size = F.last-size;
    atmax-size = F.atmax-size;
    atround-size = z;
    keptview-size = F.keptview-size;
  }

  -- For each tag that is not below maxtag the two tables tell the newest value up to it.
  pub newest-held : n ≤ nodes → BoundedNode n ν → (t : ℕ) → ν.maxtag ≤ t
      → Holds n (newest t c.last c.atmax) t ν.all
  newest-held small b t high w o =
      entry-newest small t c.last c.atmax w o ∙ same (F.last w o) (F.atmax w o) ∙ sym (newest-by-two b w t high)
    where
      same : {last held : M.Entry} → entry_of c.last w ≡ last → entry_of c.atmax w ≡ held
          → ite (dec_le (tag_of c.last w) t) (entry_of c.last w) (entry_of c.atmax w) ≡ ite
          (dec_le last.tag t) last held
      same {last} {held} e d = subst (λ x. ite (dec_le (tag_of c.last w) t) (entry_of c.last w)
          (entry_of c.atmax w)
          ≡ ite (dec_le x.tag t) x held) e (ap (ite (dec_le (tag_of c.last w) t) (entry_of c.last w)) d)

  -- The next request number.
  pub request-next : c.request + 1 ≡ suc ν.request
  request-next = rw (add-one c.request) (ap suc F.request)

  -- A round opens.
  pub follows-opened : n ≤ nodes → BoundedNode n ν → (op : H.Operation) (r : H.Round) (t : ℕ) → ν.maxtag ≤ t
      → Follows n f i (A.asking (A.writing op r t A.nobody) ν) (opened c (kind_of op) (number r) t)
  unfolding opened
  follows-opened small b op r t high = follows-with_request_and_wait request-next (SameWait.writing (same-nobody n))
      (newest-held small b t high) (sized-newest t c.last c.atmax)

  -- The operation is closed.
  pub follows-closed : Follows n f i (A.with_wait A.idle ν) (closed c Idle)
  follows-closed = follows-with_request_and_wait F.request SameWait.idle tt sized-absent
