-- Which operation of a node is open in a book, through the three changes of the book.
use Prim.Native.Nat.{ℕ}
use mathlib.Core.Path.{◌≡◌, refl, sym, ◌∙◌, subst}
use mathlib.Core.Logic.{◌≢◌}
use Rattle.logs.proofs.Update.{upd_same, upd_other, upd-all}
use Rattle.history.specs.Event.{Ending}
use Rattle.history.specs.Trace.{Begun, nothing, Fate, unfinished, ended}
use Rattle.eqaso.proofs.Book.{Book, begins, tags, ends, At, IdleAt, OpenAt}
use Rattle.eqaso.proofs.Keep.{at_same}

abbrev IsEnded : Fate → Type 0
IsEnded unfinished = ⊥
IsEnded (ended k e) = Unit {0}

ended-not : {k : ℕ} {e : Ending} → ¬ (ended k e ≡ unfinished)
ended-not h = subst IsEnded h tt

-- An operation of node c begins at an index that was blank.
module _ (B : Book) (t c : ℕ) (b : Begun) (blank : B.begun t ≡ nothing) (at : At b c) where
  not-blank : (u d : ℕ) → At (B.begun u) d → u ≢ t
  not-blank u d h e = subst (λ x. At x d) (subst (λ k. B.begun k ≡ nothing) (sym e) blank) h

  pub begin-idle : (d : ℕ) → c ≢ d → IdleAt B d → IdleAt (begins t b B) d
  begin-idle d ne idle = upd-all (λ u x. At x d → ¬ (B.fate u ≡ unfinished)) B.begun t b
      (λ u other. idle u) (λ h. absurd (ne (at_same b c d at h)))

  pub begin-open : (d j : ℕ) → c ≢ d → OpenAt B d j → OpenAt (begins t b B) d j
  begin-open d j ne o = record {
    here = subst (λ x. At x d) (sym (upd_other B.begun t b j (not-blank j d o.here))) o.here;
    unended = o.unended;
    only = upd-all (λ u x. At x d → B.fate u ≡ unfinished → u ≡ j) B.begun t b
        (λ u other. o.only u) (λ h. absurd (ne (at_same b c d at h)));
  }

  pub begin-opens : B.fate t ≡ unfinished → IdleAt B c → OpenAt (begins t b B) c t
  begin-opens free idle = record {
    here = subst (λ x. At x c) (sym (upd_same B.begun t b)) at;
    unended = free;
    only = upd-all (λ u x. At x c → B.fate u ≡ unfinished → u ≡ t) B.begun t b
        (λ u other h f. absurd (idle u h f)) (λ h f. refl);
  }

-- A tag changes nothing here.
pub tag_open : {B : Book} (t s : ℕ) {d j : ℕ} → OpenAt B d j → OpenAt (tags t s B) d j
tag_open t s o = record { here = o.here; unended = o.unended; only = o.only }

-- The open operation of node c ends.
module _ {B : Book} {t c : ℕ} (k : ℕ) (e : Ending) (o : OpenAt B c t) where
  pub end-idle : (d : ℕ) → IdleAt B d → IdleAt (ends t (ended k e) B) d
  end-idle d idle = upd-all (λ u x. At (B.begun u) d → ¬ (x ≡ unfinished)) B.fate t (ended k e)
      (λ u other. idle u) (λ h. ended-not)

  pub end-open : (d j : ℕ) → c ≢ d → OpenAt B d j → OpenAt (ends t (ended k e) B) d j
  end-open d j ne p = record {
    here = p.here;
    unended = upd_other B.fate t (ended k e) j other ∙ p.unended;
    only = upd-all (λ u x. At (B.begun u) d → x ≡ unfinished → u ≡ j) B.fate t (ended k e)
        (λ u ot. p.only u) (λ h f. absurd (ended-not f));
  }
    where
      other : j ≢ t
      other h = ne (at_same (B.begun t) c d o.here (subst (λ u. At (B.begun u) d) h p.here))

  pub end-closes : IdleAt (ends t (ended k e) B) c
  end-closes = upd-all (λ u x. At (B.begun u) c → ¬ (x ≡ unfinished)) B.fate t (ended k e)
      (λ u other h f. other (o.only u h f)) (λ h. ended-not)
