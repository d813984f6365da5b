-- The history of a node goes on while the book changes in one place.
use Prim.Native.Nat.{ℕ, ◌≤◌, ◌<◌}
use native.Mathlib.Omega.{arith}
use mathlib.Core.Path.{◌≡◌, refl, sym, ◌∙◌, subst}
use mathlib.Core.Logic.{◌≢◌}
use Rattle.logs.proofs.Update.{upd_other, upd-all}
use Rattle.history.specs.Message.{Value, of}
use Rattle.history.specs.Event.{Operation, Ending}
use Rattle.history.specs.Trace.{Begun, nothing, updating, scanning, unfinished, ended}
use Rattle.history.specs.Order.{EndedBefore}
use Rattle.algorithm.specs.Algorithm.{Wait, idle, reading, writing, comparing, borrowing}
use Rattle.algorithm.proofs.Cert.{Logs}
use Rattle.eqaso.proofs.Book.{Book, begins, tags, ends, At, IdleAt, OpenAt}
use Rattle.eqaso.proofs.Facts.{Facts, Fit}
use Rattle.eqaso.proofs.Keep.{not-ended, at_same, tagged-old, ended-old, at_old}
use Rattle.eqaso.proofs.Modes.{begin-idle, begin-open, tag_open, end-idle, end-open}
use Rattle.eqaso.proofs.History.{Booked, Behind, Left, LeftIn, Runs, Mode}

-- The two books say the same at an index.
abbrev pub Same : Book → Book → ℕ → Type 0
Same B B' a = (B'.begun a ≡ B.begun a) × (B'.fate a ≡ B.fate a) × (B'.tag a ≡ B.tag a)

-- The second book is a later one: what ended before some index of before now is as it was, and so is what has a tag.
pub record Later (now : ℕ) (B B' : Book) : Type 0 where
  pub before : (a t : ℕ) → t ≤ now → EndedBefore (B'.fate a) t → EndedBefore (B.fate a) t × Same B B' a
  pub tagged : (u : ℕ) → 0 < B.tag u → (B'.begun u ≡ B.begun u) × (B'.tag u ≡ B.tag u)

-- The operations of node d are as they were.
pub record Apart (B B' : Book) (d : ℕ) : Type 0 where
  pub rests : IdleAt B d → IdleAt B' d
  pub runs : (t : ℕ) → OpenAt B d t → OpenAt B' d t × (B'.begun t ≡ B.begun t) × (B'.tag t ≡ B.tag t)

pub later_same : (now : ℕ) (B : Book) → Later now B B
later_same now B = record { before = λ a t le h. (h, (refl, refl, refl)); tagged = λ u h. (refl, refl) }

pub apart-same : (B : Book) (d : ℕ) → Apart B B d
apart-same B d = record { rests = λ h. h; runs = λ t o. (o, refl, refl) }

pub booked-later : {now : ℕ} {B B' : Book} {v : Value} → Later now B B' → Booked B v → Booked B' v
booked-later {now} {B} {B'} {v} L (u, e, d, h) =
    let (x, y) = L.tagged u (omega arith) in (u, x ∙ e, y ∙ d, h)

module _ (n f : ℕ) where
  pub left-same : (lg : Logs) (B B' : Book) (a : ℕ) → Same B B' a → LeftIn n f lg B a → LeftIn n f lg B' a
  left-same lg B B' a (x, y, z) h = rw (x, y, z) h

  pub left-unfinished : (lg : Logs) (b : Begun) (s : ℕ) → Left n f lg b unfinished s
  left-unfinished lg nothing s = tt
  left-unfinished lg (updating c p) s = tt
  left-unfinished lg (scanning c) s = tt

  module _ {now : ℕ} {B B' : Book} (F : Facts n now B) (L : Later now B B') where
    pub runs-with : {d t : ℕ} {op : Operation} {base : Logs} → OpenAt B' d t → B'.begun t ≡ B.begun t
        → Runs n f B d op base t → Runs n f B' d op base t
    runs-with {d} {t} {op} {base} o e r = record {
      unended = o;
      kind = e ∙ r.kind;
      prior = λ a h.
          let old = at_old F t d r.unended.here in
          let (h₀, s) = L.before a t (omega arith) h in left-same base B B' a s (r.prior a h₀);
    }

    runs-later : {d t : ℕ} {op : Operation} {base : Logs} → Apart B B' d → Runs n f B d op base t
        → Runs n f B' d op base t
    runs-later {d} {t} A r = runs-with (A.runs t r.unended).0 (A.runs t r.unended).1 r

    pub mode-later : (d : ℕ) (op : Operation) (r : ℕ) (base : Logs) (w : Wait) → Apart B B' d
        → Mode n f B d op r base w → Mode n f B' d op r base w
    mode-later d op r base idle A h = A.rests h
    mode-later d op r base (reading o s u) A (t, x, e) = (t, runs-later A x, (A.runs t x.unended).2 ∙ e)
    mode-later d op r base (writing o rnd u s) A (t, x, e) =
        (t, runs-later A x, rw (A.runs t x.unended).2 e)
    mode-later d op r base (comparing o rnd u) A (t, x, e) =
        (t, runs-later A x, rw (A.runs t x.unended).2 e)
    mode-later d op r base (borrowing o u) A (t, x, e) =
        (t, runs-later A x, rw (A.runs t x.unended).2 e)

    -- An old pair of updates.
    pub behind-later : (lg : Logs) → ((u x c d p q : ℕ) → B.begun u ≡ updating c p → B.begun x ≡ updating d q
        → EndedBefore (B.fate u) x → 0 < B.tag u → 0 < B.tag x
        → Behind (of (B.tag u) c p) (of (B.tag x) d q) (lg d))
        → (u x c d p q : ℕ) → B'.begun u ≡ updating c p → B'.begun x ≡ updating d q → EndedBefore (B'.fate u) x
        → 0 < B'.tag u → 0 < B.tag x → Behind (of (B'.tag u) c p) (of (B'.tag x) d q) (lg d)
    behind-later lg H u x c d p q eu ex h tu tx =
        let lt = tagged-old F x tx in
        let (h₀, (bu, fu, su)) = L.before u x (omega arith) h in
        let (bx, sx) = L.tagged x tx in
        rw (su, sx) (H u x c d p q (sym bu ∙ eu) (sym bx ∙ ex) h₀ (rw su at tu) tx)

  module _ {now : ℕ} {B : Book} (F : Facts n now B) where
    -- An operation begins.
    pub blank-fate : (B.fate now ≡ unfinished) × (B.tag now ≡ 0)
    blank-fate = subst (λ b. Fit n b (B.fate now) (B.tag now)) (F.blank now (omega arith)) (F.fit now)

    pub later-begin : (b : Begun) → Later now B (begins now b B)
    later-begin b = record {
      before = λ a t le h. let lt = ended-old F a t h in
          (h, (upd_other B.begun now b a (omega arith), refl, refl));
      tagged = λ u h. let lt = tagged-old F u h in (upd_other B.begun now b u (omega arith), refl);
    }

    pub apart-begin : (b : Begun) (c d : ℕ) → At b c → c ≢ d → Apart B (begins now b B) d
    apart-begin b c d at ne = record {
      rests = begin-idle B now c b (F.blank now (omega arith)) at d ne;
      runs = λ t o. let lt = at_old F t d o.here in (
        begin-open B now c b (F.blank now (omega arith)) at d t ne o,
        upd_other B.begun now b t
            (omega arith),
        refl,
      );
    }

    pub left-begin : (lg : Logs) (b : Begun) → ((a : ℕ) → LeftIn n f lg B a) → (a : ℕ)
        → LeftIn n f lg (begins now b B) a
    left-begin lg b h = upd-all (λ a x. Left n f lg x (B.fate a) (B.tag a)) B.begun now b (λ a ne. h a)
        (rw blank-fate.0 (left-unfinished lg b (B.tag now)))

    module _ {c t : ℕ} (o : OpenAt B c t) where
      -- The open operations of two nodes are not the same.
      other-open : (d j : ℕ) → c ≢ d → OpenAt B d j → j ≢ t
      other-open d j ne p e = ne (at_same (B.begun t) c d o.here (subst (λ z. At (B.begun z) d) e p.here))

      -- It gets its tag.
      pub later-tag : (s : ℕ) → B.tag t ≡ 0 → Later now B (tags t s B)
      later-tag s bare = record {
        before = λ a j le h. (
          h,
          (
            refl,
            refl,
            upd_other B.tag t s a
                (λ e. not-ended j o.unended (subst (λ z. EndedBefore (B.fate z) j) e h)),
          ),
        );
        tagged = λ u h. (refl, upd_other B.tag t s u (λ e. omega (arith, subst (λ z. 0 < B.tag z) e h)));
      }

      pub apart-tag : (s d : ℕ) → c ≢ d → Apart B (tags t s B) d
      apart-tag s d ne = record {
        rests = λ h. h;
        runs = λ j p. (tag_open t s p, refl, upd_other B.tag t s j (other-open d j ne p));
      }

      pub left-tag : (lg : Logs) (s : ℕ) → ((a : ℕ) → LeftIn n f lg B a) → (a : ℕ) → LeftIn n f lg (tags t s B) a
      left-tag lg s h = upd-all (λ a x. Left n f lg (B.begun a) (B.fate a) x) B.tag t s (λ a ne. h a)
          (rw o.unended (left-unfinished lg (B.begun t) s))

      -- It ends.
      pub later-end : (e : Ending) → Later now B (ends t (ended now e) B)
      later-end e = record {
        before = λ a j le h.
            let (x, y) = upd-all (λ a z. EndedBefore z j → EndedBefore (B.fate a) j × (z ≡ B.fate a)) B.fate t
            (ended now e)
            (λ a ne h. (h, refl)) (λ h. absurd (omega arith)) a h in
            (x, (refl, y, refl));
        tagged = λ u h. (refl, refl);
      }

      pub apart-end : (e : Ending) (d : ℕ) → c ≢ d → Apart B (ends t (ended now e) B) d
      apart-end e d ne = record {
        rests = end-idle now e o d;
        runs = λ j p. (end-open now e o d j ne p, refl, refl);
      }

      pub left_end : (lg : Logs) (e : Ending) → ((a : ℕ) → LeftIn n f lg B a)
          → Left n f lg (B.begun t) (ended now e) (B.tag t)
          → (a : ℕ) → LeftIn n f lg (ends t (ended now e) B) a
      left_end lg e h new = upd-all (λ a x. Left n f lg (B.begun a) x (B.tag a)) B.fate t (ended now e)
          (λ a ne. h a) new
