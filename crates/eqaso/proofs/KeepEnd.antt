-- The facts of a book are kept when the open operation of a node ends.
use Prim.Native.Nat.{ℕ, suc, ◌<◌}
use native.Mathlib.Omega.{arith}
use mathlib.Core.Path.{◌≡◌}
use mathlib.Core.Logic.{inl, inr}
use lib.ListN.{length}
use Rattle.logs.specs.Update.{upd}
use Rattle.logs.proofs.Update.{upd-all}
use Rattle.history.specs.Message.{View}
use Rattle.history.specs.Event.{Ending}
use Rattle.history.specs.Trace.{updating, Fate, ended, entry_at}
use Rattle.history.specs.Order.{OneTo, EndedBefore}
use Rattle.history.specs.Views.{HasView, end_view, Below, Comparable}
use Rattle.eqaso.proofs.Book.{Book, ends, At, OpenAt}
use Rattle.eqaso.proofs.Facts.{Place, Closed, Fit, Between, Facts, ViewDue}
use Rattle.eqaso.proofs.Keep.{not-ended, between-later, at_old, update-old, viewed-old}

-- The open operation at t of node c ends now.
swap : {n : ℕ} (v x : View) → Comparable n v x → Comparable n x v
swap v x (inl h) = inr h
swap v x (inr h) = inl h

module _ {n now : ℕ} {B : Book} (f : Facts n now B) {c t : ℕ} (o : OpenAt B c t) (e : Ending)
    (fits : Fit n (B.begun t) (ended now e) (B.tag t))
    (due : HasView (ended now e) → ViewDue n B t (end_view (ended now e))) where
  abbrev new : Fate
  new = ended now e

  abbrev fate : ℕ → Fate
  fate = upd B.fate t new

  begun-before : t < now
  begun-before = at_old f t c o.here

  -- No update has begun since.
  ended-back : (u x d q : ℕ) → B.begun x ≡ updating d q → EndedBefore (fate u) x → EndedBefore (B.fate u) x
  ended-back u x d q is = upd-all (λ u y. EndedBefore y x → EndedBefore (B.fate u) x) B.fate t new
      (λ u ne h. h) (λ h. absurd (omega (arith, h, update-old f x d q is))) u

  apart-ends : (a b d : ℕ) → At (B.begun a) d → At (B.begun b) d → a < b → EndedBefore (fate a) b
  apart-ends a b d ha hb lt = upd-all (λ a x. At (B.begun a) d → a < b → EndedBefore x b) B.fate t new
      (λ a ne h l. f.apart a b d h hb l)
      (λ h l. absurd (not-ended b o.unended (f.apart t b d h hb l)))
      a ha lt

  chain-ends : (a b : ℕ) → HasView (fate a) → HasView (fate b) → Comparable n (end_view (fate a)) (end_view (fate b))
  chain-ends a b = upd-all
      (λ a x. HasView x → HasView (fate b) → Comparable n (end_view x) (end_view (fate b))) B.fate t new
      (λ a ne ha. upd-all (λ b y. HasView y → Comparable n (end_view (B.fate a)) (end_view y)) B.fate t new
      (λ b nf hb. f.chain a b ha hb) (λ hb. (due hb).chain a ha) b)
      (λ ha. upd-all (λ b y. HasView y → Comparable n (end_view new) (end_view y)) B.fate t new
      (λ b nf hb. swap (end_view (B.fate b)) (end_view new) ((due ha).chain b hb)) (λ hb. inl λ w one. omega arith) b)
      a

  places-ends : (a : ℕ) → HasView (fate a) → (w : ℕ) → OneTo n w → Place B w (entry_at (end_view (fate a)) w)
  places-ends = upd-all (λ a x. HasView x → (w : ℕ) → OneTo n w → Place B w (entry_at (end_view x) w))
      B.fate t new (λ a ne. f.places a) (λ h. (due h).places)

  closed-ends : (a : ℕ) → HasView (fate a) → Closed (ends t new B) (end_view (fate a))
  closed-ends = upd-all (λ a y. HasView y → Closed (ends t new B) (end_view y)) B.fate t new
      (λ a ne h u x i j p q eu ex bef. f.closed a h u x i j p q eu ex (ended-back u x j q ex bef))
      (λ h u x i j p q eu ex bef. (due h).closed u x i j p q eu ex (ended-back u x j q ex bef))

  grows-ends : (a b : ℕ) → EndedBefore (fate a) b → HasView (fate a) → HasView (fate b)
      → Below n (end_view (fate a)) (end_view (fate b))
  grows-ends a b = upd-all
      (λ a x. EndedBefore x b → HasView x → HasView (fate b) → Below n (end_view x) (end_view (fate b))) B.fate t new
      (λ a ne bef ha. upd-all
      (λ b y. EndedBefore (B.fate a) b → HasView y → Below n (end_view (B.fate a)) (end_view y)) B.fate t new
      (λ b nf bef hb. f.grows a b bef ha hb) (λ bef hb. (due hb).grows a bef ha) b bef)
      (λ lt h. upd-all (λ b y. now < b → HasView y → Below n (end_view new) (end_view y)) B.fate t new
      (λ b nf lt hb. absurd (omega (arith, lt, viewed-old f b hb)))
      (λ lt hb. absurd (omega (arith, begun-before))) b lt)
      a

  unseen-ends : (a u i q : ℕ) → B.begun u ≡ updating i q → EndedBefore (fate a) u → HasView (fate a)
      → 0 < B.tag u → (entry_at (end_view (fate a)) i).tag < B.tag u
  unseen-ends a u i q is = upd-all
      (λ a x. EndedBefore x u → HasView x → 0 < B.tag u → (entry_at (end_view x) i).tag < B.tag u)
      B.fate t new (λ a ne. f.unseen a u i q is) (λ bef. absurd (omega (arith, bef, update-old f u i q is))) a

  pub facts-end : Facts n (suc now) (ends t (ended now e) B)
  facts-end = record {
    fit = upd-all (λ j x. Fit n (B.begun j) x (B.tag j)) B.fate t new (λ j ne. f.fit j) fits;
    blank = λ u le. f.blank u (omega arith);
    between = upd-all (λ j x. Between j (suc now) x) B.fate t new
        (λ j ne. between-later j now (B.fate j) (f.between j)) (begun-before, omega arith);
    apart = apart-ends;
    sized =
        upd-all (λ a x. HasView x → length (end_view x) ≡ n) B.fate t new (λ a ne. f.sized a) (λ h. (due h).sized);
    chain = chain-ends;
    places = places-ends;
    closed = closed-ends;
    grows = grows-ends;
    rises = λ u x i j p q eu ex bef. f.rises u x i j p q eu ex (ended-back u x j q ex bef);
    unseen = unseen-ends;
  }
