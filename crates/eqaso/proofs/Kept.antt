-- Facts and book of a trace, kept entry by entry: one law for each kind of entry.
use Prim.Native.Nat.{ℕ, suc, ◌<◌}
use native.Mathlib.Omega.{arith}
use mathlib.Core.Path.{◌≡◌, refl, sym, ◌∙◌, ap, subst}
use mathlib.Core.Logic.{⊎_elim}
use mathlib.Core.List.Memᴰ
use mathlib.Core.List.{[], ◌∷◌, ◌++◌}
use lib.ListN.{length, length-append}
use Rattle.logs.specs.Log.{◌∈◌}
use Rattle.logs.proofs.Update.{upd_same, upd_other}
use Rattle.history.specs.Message.{View}
use Rattle.history.specs.Event.{Ending, none, done, shown, spent, Rule}
use Rattle.history.specs.Trace.{Seen, Trace, handler, Begun, nothing, updating, scanning, ended, own_tags}
use Rattle.history.specs.Order.{OneTo}
use Rattle.history.specs.Views.{HasView, end_view}
use Rattle.eqaso.proofs.Book.{Book, book_of, begins, tags, ends, At, IdleAt, OpenAt}
use Rattle.eqaso.proofs.Facts.{Facts, Fit, TagDue, ViewDue, OwnDue}
use Rattle.eqaso.proofs.Keep.{facts-later, facts-begin, at_old, tagged-old, node-one, scan-bare}
use Rattle.eqaso.proofs.KeepTag.{facts-tag, above-own}
use Rattle.eqaso.proofs.KeepEnd.{facts-end}
use Rattle.eqaso.proofs.Append.{own-append}
use Rattle.eqaso.proofs.Extend.{own_at}
use Rattle.eqaso.proofs.Rows.{Listed}
pub use Rattle.eqaso.proofs.Handler.{begun_in, ending_in, own_in, Told}
use Rattle.eqaso.proofs.Handler.{own-only}
use Rattle.eqaso.proofs.Entered.{Given, known, book-silent, book-begin, book-tag, book-end}

-- All that is kept of a trace: the facts of its book, and that every tag that a node let out as its own stands in it.
pub record Kept (n : ℕ) (tr : Trace) : Type 0 where
  pub facts : Facts n (length tr) (book_of tr)
  pub listed : (c x : ℕ) → x ∈ own_tags c tr → Listed (book_of tr) c x

-- The same of the trace with one entry more, whose book is B.
pub record Next (n : ℕ) (tr : Trace) (o : Seen) (B : Book) : Type 0 where
  pub kept : Kept n (tr ++ (o ∷ []))
  pub book : book_of (tr ++ (o ∷ [])) ≡ B

-- The facts of a book are those of the trace's.
from-book : {n : ℕ} {tr : Trace} {o : Seen} (B : Book) → book_of (tr ++ (o ∷ [])) ≡ B → Facts n (suc (length tr)) B
    → ((c x : ℕ) → x ∈ own_tags c (tr ++ (o ∷ [])) → Listed B c x) → Next n tr o B
from-book {n} {tr} {o} B e f l = record {
  book = e;
  kept = subst (λ A. Facts n (suc (length tr)) A → ((c x : ℕ) → x ∈ own_tags c (tr ++ (o ∷ [])) → Listed A c x)
      → Kept n (tr ++ (o ∷ []))) e
      (λ g m. record {
        facts = subst (λ k. Facts n k (book_of (tr ++ (o ∷ [])))) (omega (arith, length-append tr (o ∷ []))) g;
        listed = m;
      }) f l;
}

module _ (tr : Trace) (o : Seen) where
  abbrev next : Trace
  next = tr ++ (o ∷ [])

  abbrev node : ℕ
  node = handler o.event

  -- The tags let out stand in a book that has kept those of the old one.
  listed_next : (B : Book) → ((c x : ℕ) → x ∈ own_tags c tr → Listed B c x)
      → ((c x : ℕ) → x ∈ own_at c o → Listed B c x) → (c x : ℕ) → x ∈ own_tags c next → Listed B c x
  listed_next B old new c x m = ⊎_elim (old c x) (new c x)
      (Memᴰ.append_cases (own_tags c tr) (subst (λ l. x ∈ l) (own-append c tr (o ∷ [])) m))

  -- Nothing begins or ends, and no tag is new: a refused event, and many others.
  pub next-silent : {n : ℕ} → Kept n tr → begun_in o ≡ nothing → ending_in o ≡ none → Told (book_of tr) o
      → Next n tr o (book_of tr)
  next-silent k idle calm told = from-book (book_of tr) (book-silent tr o idle calm told) (facts-later k.facts)
      (listed_next (book_of tr) k.listed (known tr o told))

  -- An operation begins at a node that has none open.
  pub next-begin : {n : ℕ} → Kept n tr → (b : Begun) → begun_in o ≡ b → At b (handler o.event) → ending_in o ≡ none
      → Told (book_of tr) o → OneTo n (handler o.event) → IdleAt (book_of tr) (handler o.event)
      → Next n tr o (begins (length tr) b (book_of tr))
  next-begin k b is at calm told one free = from-book (begins (length tr) b (book_of tr))
      (book-begin tr o b is calm told)
      (facts-begin k.facts b node at one free)
      (listed_next (begins (length tr) b (book_of tr)) (λ c x m. lift c x (k.listed c x m))
      (λ c x m. lift c x (known tr o told c x m)))
    where
      lift : (c x : ℕ) → Listed (book_of tr) c x → Listed (begins (length tr) b (book_of tr)) c x
      lift c x (u, p, e, pos, tag) = let lt = tagged-old k.facts u pos in
          (u, p, upd_other (book_of tr).begun (length tr) b u (omega arith) ∙ e, pos, tag)

  -- The open update gets its tag: the entry lets out s as an own tag, and no other.
  pub next-tag : {n t p s : ℕ} → Kept n tr → begun_in o ≡ nothing → ending_in o ≡ none
      → OpenAt (book_of tr) (handler o.event) t → (book_of tr).begun t ≡ updating (handler o.event) p
      → (book_of tr).tag t ≡ 0 → ((x : ℕ) → x ∈ own_in o → x ≡ s) → s ∈ own_in o → TagDue (book_of tr) t s
      → Next n tr o (tags t s (book_of tr))
  next-tag {n} {t} {p} {s} k idle calm own is bare all some due = from-book (tags t s (book_of tr))
      (book-tag tr o (at_old k.facts t node own.here) idle calm own is bare all some above due.positive)
      (facts-later (facts-tag k.facts own is bare due))
      (listed_next (tags t s (book_of tr)) (λ c x m. lift c x (k.listed c x m)) new)
    where
      above : (x : ℕ) → x ∈ own_tags node tr → x < s
      above x m = let (u, q, e, pos, tag) = k.listed node x m in
          subst (λ y. y < s) tag (above-own k.facts own is bare due u q e)

      lift : (d x : ℕ) → Listed (book_of tr) d x → Listed (tags t s (book_of tr)) d x
      lift d x (u, q, e, pos, tag) =
          let same = upd_other (book_of tr).tag t s u λ h. omega (arith, bare, pos, ap (book_of tr).tag h) in
          (u, q, e, rw same pos, same ∙ tag)

      new : (d x : ℕ) → x ∈ own_at d o → Listed (tags t s (book_of tr)) d x
      new d x m = let (e, i) = own-only o d m in
          let same = upd_same (book_of tr).tag t s in
          (t, p, is ∙ ap (λ a. updating a p) e, rw same due.positive, same ∙ sym (all x i))

  -- The open operation ends.
  next-end : {n t : ℕ} (e : Ending) → Given e → Kept n tr → begun_in o ≡ nothing → ending_in o ≡ e → Told (book_of tr) o
      → OpenAt (book_of tr) node t → Fit n ((book_of tr).begun t) (ended (length tr) e) ((book_of tr).tag t)
      → (HasView (ended (length tr) e) → ViewDue n (book_of tr) t (end_view (ended (length tr) e)))
      → Next n tr o (ends t (ended (length tr) e) (book_of tr))
  next-end {n} {t} e real k idle end told own fits due = from-book (ends t (ended (length tr) e) (book_of tr))
      (book-end tr o e real (at_old k.facts t node own.here) idle end own told)
      (facts-end k.facts own e fits due)
      (listed_next (ends t (ended (length tr) e) (book_of tr)) k.listed (known tr o told))

  pub next-done : {n t p : ℕ} {r : Rule} {v : View} → Kept n tr → begun_in o ≡ nothing → ending_in o ≡ done r v
      → Told (book_of tr) o → OpenAt (book_of tr) (handler o.event) t
      → (book_of tr).begun t ≡ updating (handler o.event) p → OwnDue (book_of tr) t (handler o.event) v
      → ViewDue n (book_of tr) t v → Next n tr o (ends t (ended (length tr) (done r v)) (book_of tr))
  next-done {n} {t} {p} {r} {v} k idle end told own is held due = next-end (done r v) tt k idle end told own
      (subst (λ b. Fit n b (ended (length tr) (done r v)) ((book_of tr).tag t)) (sym is)
      (node-one k.facts own, held.tagged, held.held))
      λ h. due

  pub next-shown : {n t : ℕ} {r : Rule} {v : View} → Kept n tr → begun_in o ≡ nothing → ending_in o ≡ shown r v
      → Told (book_of tr) o → OpenAt (book_of tr) (handler o.event) t
      → (book_of tr).begun t ≡ scanning (handler o.event) → ViewDue n (book_of tr) t v
      → Next n tr o (ends t (ended (length tr) (shown r v)) (book_of tr))
  next-shown {n} {t} {r} {v} k idle end told own is due = next-end (shown r v) tt k idle end told own
      (subst (λ b. Fit n b (ended (length tr) (shown r v)) ((book_of tr).tag t)) (sym is)
      (node-one k.facts own, scan-bare k.facts t (handler o.event) is))
      λ h. due

  pub next-spent : {n t p : ℕ} → Kept n tr → begun_in o ≡ nothing → ending_in o ≡ spent
      → Told (book_of tr) o → OpenAt (book_of tr) (handler o.event) t
      → (book_of tr).begun t ≡ updating (handler o.event) p → (book_of tr).tag t ≡ 0
      → Next n tr o (ends t (ended (length tr) spent) (book_of tr))
  next-spent {n} {t} k idle end told own is bare = next-end spent tt k idle end told own
      (subst (λ b. Fit n b (ended (length tr) spent) ((book_of tr).tag t)) (sym is) (node-one k.facts own, bare))
      λ h. absurd h

-- At the start the book is blank.
pub kept-start : (n : ℕ) → Kept n []
unfolding book_of own_tags
kept-start n = record {
  facts = record {
    fit = λ t. (refl, refl);
    blank = λ t le. refl;
    between = λ t. tt;
    apart = λ a b c h. absurd h;
    sized = λ a h. absurd h;
    chain = λ a b h. absurd h;
    places = λ a h. absurd h;
    closed = λ a h. absurd h;
    grows = λ a b h. absurd h;
    rises = λ u x c d p q e g h. absurd h;
    unseen = λ a u c p e h. absurd h;
  };
  listed = λ c x m. absurd (Memᴰ.not-nil m);
}
