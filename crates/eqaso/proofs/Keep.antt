-- What the facts of a book say about its indices. The facts are kept when an operation begins, and when only the time
-- passes.
use Prim.Native.Nat.{ℕ, suc, ◌≤◌, ◌<◌}
use native.Mathlib.Decide.{dec_lt}
use native.Mathlib.Omega.{arith}
use mathlib.Core.Path.{◌≡◌, refl, sym, ◌∙◌, subst, subst₂}
use mathlib.Core.Logic.{inl, inr}
use Rattle.logs.specs.Update.{upd}
use Rattle.logs.proofs.Update.{upd_other, upd-all}
use Rattle.history.specs.Message.{Entry}
use Rattle.history.specs.Event.{done, shown, spent, none}
use Rattle.history.specs.Trace.{Begun, updating, scanning, Fate, unfinished, ended, nothing}
use Rattle.history.specs.Order.{OneTo, EndedBefore}
use Rattle.history.specs.Views.{HasView}
use Rattle.eqaso.proofs.Book.{Book, begins, At, IdleAt, OpenAt}
use Rattle.eqaso.proofs.Facts.{Place, Fit, Between, Facts}

-- An unfinished operation ended before nothing.
pub not-ended : {x : Fate} (t : ℕ) → x ≡ unfinished → EndedBefore x t → ⊥
not-ended t e h = subst (λ y. EndedBefore y t) e h

-- An operation is of one node.
pub at_same : (b : Begun) (c d : ℕ) → At b c → At b d → c ≡ d
at_same nothing c d e h = elim e [ ]
at_same (updating a p) c d e h = sym e ∙ h
at_same (scanning a) c d e h = sym e ∙ h

-- What is not unfinished ended before now.
ended-now : (t now : ℕ) (x : Fate) → Between t now x → ¬ (x ≡ unfinished) → EndedBefore x now
ended-now t now unfinished h ne = absurd (ne refl)
ended-now t now (ended k e) (lo, hi) ne = hi

pub between-later : (t now : ℕ) (x : Fate) → Between t now x → Between t (suc now) x
between-later t now unfinished h = tt
between-later t now (ended k e) (lo, hi) = (lo, omega arith)

-- The time passes.
pub facts-later : {n now : ℕ} {B : Book} → Facts n now B → Facts n (suc now) B
facts-later {n} {now} {B} f = record {
  fit = f.fit;
  blank = λ t le. f.blank t (omega arith);
  between = λ t. between-later t now (B.fate t) (f.between t);
  apart = f.apart;
  sized = f.sized;
  chain = f.chain;
  places = f.places;
  closed = f.closed;
  grows = f.grows;
  rises = f.rises;
  unseen = f.unseen;
}

module _ {n now : ℕ} {B : Book} (f : Facts n now B) where
  -- At an index to come there is nothing yet.
  pub unwritten : (t : ℕ) → now ≤ t → (B.fate t ≡ unfinished) × (B.tag t ≡ 0)
  unwritten t le = subst (λ b. Fit n b (B.fate t) (B.tag t)) (f.blank t le) (f.fit t)

  pub tagged-old : (t : ℕ) → 0 < B.tag t → t < now
  tagged-old t h = elim (dec_lt t now) [ yes l ↦ l | no l ↦ absurd (omega (arith, (unwritten t (omega arith)).1)) ]

  pub ended-old : (t x : ℕ) → EndedBefore (B.fate t) x → t < now
  ended-old t x h = elim (dec_lt t now) [ yes l ↦ l | no l ↦ absurd (not-ended x (unwritten t (omega arith)).0 h) ]

  pub at_old : (t c : ℕ) → At (B.begun t) c → t < now
  at_old t c h = elim (dec_lt t now)
      [ yes l ↦ l | no l ↦ absurd (subst (λ b. At b c) (f.blank t (omega arith)) h) ]

  pub update-old : (t c p : ℕ) → B.begun t ≡ updating c p → t < now
  update-old t c p e = at_old t c (subst (λ b. At b c) (sym e) refl)

  pub viewed-old : (t : ℕ) → HasView (B.fate t) → t < now
  viewed-old t h = elim (dec_lt t now)
      [ yes l ↦ l | no l ↦ absurd (subst HasView (unwritten t (omega arith)).0 h) ]

  fit-one : (b : Begun) (x : Fate) (s c : ℕ) → At b c → Fit n b x s → OneTo n c
  fit-one (scanning a) (ended k spent) s c e h = elim h [ ]
  fit-one (scanning a) (ended k (done r v)) s c e h = elim h [ ]
  fit-one (scanning a) (ended k none) s c e h = elim h [ ]
  fit-one (updating a p) (ended k (shown r v)) s c e h = elim h [ ]
  fit-one (updating a p) (ended k none) s c e h = elim h [ ]
  fit-one nothing _ s c e h = elim e [ ]
  fit-one (scanning a) unfinished s c e h = subst (OneTo n) e h.0
  fit-one (scanning a) (ended k (shown r v)) s c e h = subst (OneTo n) e h.0
  fit-one (updating a p) unfinished s c e h = subst (OneTo n) e h
  fit-one (updating a p) (ended k (done r v)) s c e h = subst (OneTo n) e h.0
  fit-one (updating a p) (ended k spent) s c e h = subst (OneTo n) e h.0

  pub node-one : {c t : ℕ} → OpenAt B c t → OneTo n c
  node-one {c} {t} o = fit-one (B.begun t) (B.fate t) (B.tag t) c o.here (f.fit t)

  scan-zero : (c : ℕ) (x : Fate) (s : ℕ) → Fit n (scanning c) x s → s ≡ 0
  scan-zero c unfinished s h = h.1
  scan-zero c (ended k (shown r v)) s h = h.1
  scan-zero c _ s h = elim h [ ]

  pub scan-bare : (t c : ℕ) → B.begun t ≡ scanning c → B.tag t ≡ 0
  scan-bare t c e = scan-zero c (B.fate t) (B.tag t) (subst (λ b. Fit n b (B.fate t) (B.tag t)) e (f.fit t))

-- An operation begins at a node that has none open.
module _ {n now : ℕ} {B : Book} (f : Facts n now B) (b : Begun) where
  begun-old : (u : ℕ) {x : Begun} → u < now → upd B.begun now b u ≡ x → B.begun u ≡ x
  begun-old u lt e = sym (upd_other B.begun now b u (omega arith)) ∙ e

  place-begins : (w : ℕ) (e : Entry) → Place B w e → Place (begins now b B) w e
  place-begins w e (inl h) = inl h
  place-begins w e (inr (u, p, h, pos, is)) =
      let lt = tagged-old f u pos in inr (u, p, upd_other B.begun now b u (omega arith) ∙ h, pos, is)

  begin-fits : (d : Begun) (c : ℕ) → OneTo n c → At d c → Fit n d unfinished 0
  begin-fits nothing c one e = elim e [ ]
  begin-fits (updating a p) c one e = subst (OneTo n) (sym e) one
  begin-fits (scanning a) c one e = (subst (OneTo n) (sym e) one, refl)

  apart-begins : (c : ℕ) → At b c → IdleAt B c → (x y d : ℕ) → At (upd B.begun now b x) d
      → At (upd B.begun now b y) d → x < y → EndedBefore (B.fate x) y
  apart-begins c at free x y d hx = upd-all
      (λ y z. At z d → x < y → EndedBefore (B.fate x) y) B.begun now b
      (λ y ne hy lt. let old = at_old f y d hy in f.apart x y d (was (omega arith)) hy lt)
      (λ hb lt. ended-now x now (B.fate x) (f.between x)
      (free x (subst (At (B.begun x)) (at_same b d c hb at) (was lt))))
      y
    where
      was : x < now → At (B.begun x) d
      was lt = subst (λ z. At z d) (upd_other B.begun now b x (omega arith)) hx

  pub facts-begin : (c : ℕ) → At b c → OneTo n c → IdleAt B c → Facts n (suc now) (begins now b B)
  facts-begin c at one free =
      let (fate, tag) = unwritten f now (omega arith) in record {
        fit = upd-all (λ j d. Fit n d (B.fate j) (B.tag j)) B.begun now b (λ j ne. f.fit j)
            (subst₂ (λ x s. Fit n b x s) (sym fate) (sym tag) (begin-fits b c one at));
        blank = λ t le. upd_other B.begun now b t (omega arith) ∙ f.blank t (omega arith);
        between = λ t. between-later t now (B.fate t) (f.between t);
        apart = apart-begins c at free;
        sized = f.sized;
        chain = f.chain;
        places = λ a h w o. place-begins w _ (f.places a h w o);
        closed = λ a h u x i j p q eu ex before pos.
            f.closed a h u x i j p q (begun-old u (ended-old f u x before) eu) (begun-old x (tagged-old f x pos) ex)
            before pos;
        grows = f.grows;
        rises = λ u x i j p q eu ex before pos.
            f.rises u x i j p q (begun-old u (ended-old f u x before) eu) (begun-old x (tagged-old f x pos) ex)
            before pos;
        unseen = λ a u i p eu before h pos. f.unseen a u i p (begun-old u (tagged-old f u pos) eu) before h pos;
      }
