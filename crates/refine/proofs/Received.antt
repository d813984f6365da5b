-- A value is taken in alike: what is above the last of its writer is what the sets do not have.
use Prim.Native.Nat.{ℕ, ◌≤◌}
use native.Mathlib.Omega.{arith}
use native.Mathlib.Decide.{ℕ_discrete, dec_le, dec_lt}
use mathlib.Core.Path.{◌≡◌, refl, sym, ◌∙◌, ap}
use mathlib.Core.Logic.{◌≢◌}
use mathlib.Core.Bool.{Bool, true, false}
use mathlib.Core.List.{List, ◌∷◌}
use lib.Dec.{leb}
use lib.ListN.{length, set, length-set}
use borrow.Author.Tests.{lt-ltb, le-ltb}
use Rattle.logs.specs.Update.{upd}
use Rattle.logs.proofs.Update.{upd-all}
use Rattle.logs.specs.Log.{◌∈◌}
use Rattle.view.specs.declared.Report.{Report}
use Rattle.view.specs.declared.View.{View}
use Rattle.octets.specs.Test.{pick}
use Rattle.view.specs.Size.{nodes}
use Rattle.table.specs.Table.{put_entry, tag_of, heard_of, cell, cells}
use Rattle.record.specs.declared.Node.{Node}
use Rattle.record.specs.declared.Wait.{Wait}
use Rattle.record.specs.Usable.{stale}
use Rattle.step.specs.React.{received, is_new, round_holds}
use Rattle.history.specs.Message as M
use Rattle.history.specs.Order.{OneTo}
use Rattle.algorithm.specs.Algorithm as A
use Rattle.algorithm.specs.Node.{holding}
use Rattle.algorithm.specs.Node.{latest}
use Rattle.eqaso.proofs.Newest.{newest-other, latest-other}
use Rattle.eqaso.proofs.Bounded.{Arrives, seen-by-tag, not-below, not-ahead, heard-then, last_then, held_then}
use Rattle.refine.specs.Meaning.{code, entry_of}
use Rattle.refine.specs.Follows.{SameWait, Sized, Holds, HoldsRound, Follows}
use Rattle.refine.proofs.Choice.{le-tells, same-side}
use Rattle.refine.proofs.Tables.{sized-put_entry, entry-put_entry, entry-put_entry-other, heard-set}
use Rattle.refine.proofs.Tables.{heard-set-other}

-- The value that a message of the code brings.
abbrev pub value_of : ℕ → ℕ → Report → M.Value
value_of t w p = record { tag = t; writer = w; report = code p }

module _ {n f i : ℕ} (small : n ≤ nodes) {ν : A.Node} {c : Node} (F : Follows n f i ν c) (k w t : ℕ) (p : Report)
    (sender : OneTo n k) (a : Arrives n ν.all ν.from ν.maxtag k (value_of t w p)) where
  abbrev v : M.Value
  v = value_of t w p

  last-tag : tag_of c.last w ≡ (latest w ν.all).tag
  last-tag = ap (λ e. e.tag) (F.last w a.writer)

  pub not_new : v ∈ ν.all → is_new c w t ≡ false
  not_new m = le-ltb (tag_of c.last w) t (rw last-tag ((seen-by-tag a).0 m))

  pub is-new : ¬ (v ∈ ν.all) → is_new c w t ≡ true
  is-new new = lt-ltb (tag_of c.last w) t (elim (dec_le t (latest w ν.all).tag) [
    | yes h ↦ absurd (new ((seen-by-tag a).1 h))
    | no h ↦ rw last-tag (omega arith)
  ])

  abbrev from : ℕ → List M.Value
  from = upd ν.from k (v ∷ ν.from k)

  heard-follows : (j x : ℕ) → OneTo n j → OneTo n x → heard_of (set c.heard (cell k w) t) j x ≡ (latest x (from j)).tag
  heard-follows = upd-all
      (λ j l. (x : ℕ) → OneTo n j → OneTo n x → heard_of (set c.heard (cell k w) t) j x ≡ (latest x l).tag)
      ν.from k (v ∷ ν.from k)
      (λ j ne x o at. heard-set-other small c.heard k w t sender a.writer j x o at (λ e. ne e.0)
      ∙ F.heard j x o at)
      (λ x o at. elim (ℕ_discrete x w) [
        | yes e ↦ rw e (heard-set small c.heard k w t sender a.writer F.heard-size ∙ sym (heard-then a))
        | no e ↦ heard-set-other small c.heard k w t sender a.writer k x o at (λ d. e d.1) ∙ F.heard k x o at
            ∙ ap (λ e. e.tag) (sym (latest-other x (ν.from k) v (λ d. e (sym d))))
      ])

  heard-size : length (set c.heard (cell k w) t) ≡ cells
  heard-size = length-set c.heard (cell k w) t ∙ F.heard-size

  -- A value that the node has.
  pub received-again : v ∈ ν.all → Follows n f i (holding ν.all from ν) (received c k w t p)
  unfolding received
  received-again m = rw (not_new m) (record {
    size = F.size;
    faults = F.faults;
    own = F.own;
    maxtag = F.maxtag;
    request = F.request;
    wait = F.wait;
    heard = heard-follows;
    last = F.last;
    atmax = F.atmax;
    atround = F.atround;
    kept = F.kept;
    keptview = F.keptview;
    heard-size = heard-size;
    last-size = F.last-size;
    atmax-size = F.atmax-size;
    atround-size = F.atround-size;
    keptview-size = F.keptview-size;
  })

  -- A new one: it is the last of its writer, and the newest for each tag that it is not above.
  module _ (new : ¬ (v ∈ ν.all)) where
    last-follows : (x : ℕ) → OneTo n x → entry_of (put_entry c.last w t p) x ≡ latest x (v ∷ ν.all)
    last-follows x o = elim (ℕ_discrete x w) [
      | yes e ↦ rw e (entry-put_entry small c.last w t p a.writer F.last-size ∙ sym (last_then a new))
      | no e ↦ entry-put_entry-other small c.last w t p a.writer x o e ∙ F.last x o
          ∙ sym (latest-other x ν.all v (λ d. e (sym d)))
    ]

    held-follows : (h : View) (u : ℕ) → Sized h → Holds n h u ν.all
        → Holds n (pick (leb t u) (put_entry h w t p) h) u (v ∷ ν.all)
    held-follows h u z held x o = elim (ℕ_discrete x w) [
      | yes e ↦ rw e (same-side (λ y z. entry_of y w ≡ z) (dec_le t u) (le-tells t u)
          (λ d. entry-put_entry small h w t p a.writer z) (λ d. held w a.writer) ∙ sym (held_then a new u))
      | no e ↦ other (leb t u) e ∙ held x o ∙ sym (newest-other x u ν.all v (λ d. e (sym d)))
    ]
      where
        other : (b : Bool) → x ≢ w → entry_of (pick b (put_entry h w t p) h) x ≡ entry_of h x
        other true ne = entry-put_entry-other small h w t p a.writer x o ne
        other false ne = refl

    sized-pick : (b : Bool) (h : View) → Sized h → Sized (pick b (put_entry h w t p) h)
    sized-pick true h z = sized-put_entry h w t p z
    sized-pick false h z = z

    round-follows : {s : A.Wait} {s' : Wait} → SameWait n s s' → HoldsRound n c.atround s ν.all
        → HoldsRound n (pick (round_holds s' t) (put_entry c.atround w t p) c.atround) s (v ∷ ν.all)
    round-follows SameWait.idle h = tt
    round-follows (SameWait.reading same) h = tt
    round-follows (SameWait.writing {t = u} same) h = held-follows c.atround u F.atround-size h
    round-follows (SameWait.comparing {t = u}) h = held-follows c.atround u F.atround-size h
    round-follows SameWait.borrowing h = tt

    pub received-new : Follows n f i (holding (v ∷ ν.all) from ν) (received c k w t p)
    unfolding received
    received-new = rw (is-new new) (record {
      size = F.size;
      faults = F.faults;
      own = F.own;
      maxtag = F.maxtag;
      request = F.request;
      wait = F.wait;
      heard = heard-follows;
      last = last-follows;
      atmax = rw (← F.maxtag) (held-follows c.atmax c.maxtag F.atmax-size (rw F.maxtag F.atmax));
      atround = round-follows F.wait F.atround;
      kept = F.kept;
      keptview = F.keptview;
      heard-size = heard-size;
      last-size = sized-put_entry c.last w t p F.last-size;
      atmax-size = sized-pick (leb t c.maxtag) c.atmax F.atmax-size;
      atround-size = sized-pick (round_holds c.wait t) c.atround F.atround-size;
      keptview-size = F.keptview-size;
    })

  -- Refusal 9 does not come up.
  pub not-stale : stale c k w t ≡ false
  not-stale =
      let low : heard_of c.heard k w ≤ t = rw (F.heard k w sender a.writer) (not-below a) in
      rw (le-ltb t (heard_of c.heard k w) low) (elim (dec_lt (tag_of c.last w) t) [
        | yes h ↦ rw (lt-ltb (tag_of c.last w) t h)
            (le-ltb c.maxtag (tag_of c.last w) (rw (last-tag, F.maxtag) (not-ahead a (rw (← last-tag) h))))
        | no h ↦ rw (le-ltb (tag_of c.last w) t (omega arith)) refl
      ])
