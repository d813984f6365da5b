-- The four ways in which an entry changes the book of a trace: not at all; something begins; the open update of its
-- node gets its tag; the open operation of its node ends.
use Prim.Native.Nat.{ℕ, ◌≤◌, ◌<◌}
use native.Mathlib.Decide.{ℕ_discrete, dec_lt}
use native.Mathlib.Omega.{arith}
use mathlib.Core.Path.{◌≡◌, refl, sym, ◌∙◌, ap, subst}
use mathlib.Core.Logic.{◌≢◌, inl, inr}
use mathlib.Core.List.{[], ◌∷◌, ◌++◌}
use lib.ListN.{length, take, length-append}
use Rattle.logs.specs.Log.{◌∈◌}
use Rattle.logs.proofs.Update.{upd-all}
use Rattle.history.specs.Event.{Ending, none, done, shown, spent}
use Rattle.history.specs.Trace.{Seen, Trace, handler, Begun, nothing, updating, scanning, begun, ending_at, unfinished}
use Rattle.history.specs.Trace.{ended, fate_by, fate_at, fate_of, up_to_end, own_tags, largest, tag_at}
use Rattle.eqaso.proofs.Book.{tag_of, book_of, begins, tags, ends, At, OpenAt}
use Rattle.eqaso.proofs.Tags.{largest-above, largest-below, first-low, first_next, first-only}
use Rattle.eqaso.proofs.Append.{or_else}
use Rattle.eqaso.proofs.Extend.{own_at, begun-old, begun-last, begun-past, fate-old, fate-last, tag_open}
use Rattle.eqaso.proofs.Extend.{tag-last}
use Rattle.eqaso.proofs.Rows.{Listed, Row, row_in, row_of, row_by, book-by, own-take, listed-out, Known, fate-calm}
use Rattle.eqaso.proofs.Rows.{tag-calm, row_calm, row-ended}
use Rattle.eqaso.proofs.Handler.{own-only, ending-only, ending_here, own-here, begun_in, ending_in, own_in, Told}

-- The ending is one that is given.
abbrev pub Given : Ending → Type 0
Given none = ⊥
Given (done r v) = Unit {0}
Given (shown r v) = Unit {0}
Given spent = Unit {0}

given-fate : (k : ℕ) (e : Ending) → Given e → fate_by k e unfinished ≡ ended k e
given-fate k none g = elim g [ ]
given-fate k (done r v) g = refl
given-fate k (shown r v) g = refl
given-fate k spent g = refl

module _ (tr : Trace) (o : Seen) where
  abbrev next : Trace
  next = tr ++ (o ∷ [])

  abbrev node : ℕ
  node = handler o.event

  -- A row of the new book is the old one, if it is at the old indices and nothing begins.
  row_next : (t : ℕ) → (t < length tr → row_of next t (begun tr t) ≡ row_of tr t (begun tr t))
      → (t ≡ length tr → begun_in o ≡ nothing) → row_in (book_of next) t ≡ row_in (book_of tr) t
  row_next t old last = go (dec_lt t (length tr)) (ℕ_discrete t (length tr))
    where
      bare : length tr ≤ t → begun next t ≡ nothing → row_in (book_of next) t ≡ row_in (book_of tr) t
      bare le e = row_by next t nothing e ∙ sym (row_by tr t nothing (begun-past tr t le))

      go : Dec (t < length tr) → Dec (t ≡ length tr) → row_in (book_of next) t ≡ row_in (book_of tr) t
      go (yes lt) d = row_by next t (begun tr t) (begun-old tr o t lt) ∙ old lt ∙ sym (row_by tr t (begun tr t) refl)
      go (no h) (yes e) = bare (omega arith)
          (subst (λ k. begun next k ≡ nothing) (sym e) (begun-last tr o ∙ last e))
      go (no h) (no ne) = bare (omega arith) (begun-past next t (omega (arith, length-append tr (o ∷ []))))

  pub known : Told (book_of tr) o → (c : ℕ) → Known tr o c
  known told c x m = let (e, i) = own-only o c m in subst (λ k. Listed (book_of tr) k x) e (told x i)

  -- The old rows, where nothing ends and no tag is new.
  row-silent : ending_in o ≡ none → Told (book_of tr) o → (t : ℕ) → t < length tr
      → row_of next t (begun tr t) ≡ row_of tr t (begun tr t)
  row-silent calm told t lt = row_calm tr o t lt (begun tr t) λ c at. (ending-only o c (inr calm), known told c)

  pub book-silent : begun_in o ≡ nothing → ending_in o ≡ none → Told (book_of tr) o → book_of next ≡ book_of tr
  book-silent idle calm told = book-by _ _ λ t. row_next t (row-silent calm told t) λ e. idle

  -- What has just begun has neither ended nor got a tag.
  begun-bare : (b : Begun) → ending_in o ≡ none → Told (book_of tr) o → row_of next (length tr) b ≡ (b, unfinished, 0)
  begun-bare b calm told = go b
    where
      fate : (c : ℕ) → fate_at next (length tr) c ≡ unfinished
      fate c = fate-last tr o c ∙ ap (λ e. fate_by (length tr) e unfinished) (ending-only o c (inr calm))

      tag : (c : ℕ) → tag_at next (length tr) c ≡ 0
      tag c = tag-last tr o c (fate c) ∙ first-low (largest (own_tags c tr)) (own_at c o)
          (λ x m. largest-above (own_tags c tr) (listed-out tr c x (known told c x m)))

      go : (b : Begun) → row_of next (length tr) b ≡ (b, unfinished, 0)
      go nothing = refl
      go (updating c p) = λ i. (updating c p, fate c i, tag c i)
      go (scanning c) = λ i. (scanning c, fate c i, 0)

  pub book-begin : (b : Begun) → begun_in o ≡ b → ending_in o ≡ none → Told (book_of tr) o
      → book_of next ≡ begins (length tr) b (book_of tr)
  book-begin b is calm told = book-by _ _
      (upd-all (λ t d. row_in (book_of next) t ≡ (d, (book_of tr).fate t, (book_of tr).tag t))
      (book_of tr).begun (length tr) b
      (λ t ne. row_next t (row-silent calm told t) λ e. absurd (ne e))
      (row_by next (length tr) b (begun-last tr o ∙ is) ∙ begun-bare b calm told
      ∙ ap (λ (r : Row). (b, r.1, r.2)) (sym old)))
    where
      old : row_in (book_of tr) (length tr) ≡ (nothing, unfinished, 0)
      old = row_by tr (length tr) nothing (begun-past tr (length tr) (omega arith))

  -- An entry at the node of the open operation at t leaves every other operation alone.
  row_other : {t : ℕ} → OpenAt (book_of tr) node t → (j : ℕ) → j ≢ t → j < length tr
      → row_of next j (begun tr j) ≡ row_of tr j (begun tr j)
  unfolding book_of
  row_other {t} own j ne lt = go (begun tr j) (own.only j)
    where
      apart : (c : ℕ) → node ≢ c → (ending_at c o ≡ none) × Known tr o c
      apart c far = (ending-only o c (inl far), λ x m. absurd (far (own-only o c m).0))

      by : (b : Begun) (c : ℕ) → ((d : ℕ) → At b d → c ≡ d) → (node ≡ c → ¬ (fate_of tr j b ≡ unfinished))
          → row_of next j b ≡ row_of tr j b
      by b c one over = elim (ℕ_discrete node c) [
        | yes e ↦ row-ended tr o j lt b (over e)
        | no far ↦ row_calm tr o j lt b λ d e. apart d λ g. far (g ∙ sym (one d e))
      ]

      go : (b : Begun) → (At b node → fate_of tr j b ≡ unfinished → j ≡ t) → row_of next j b ≡ row_of tr j b
      go nothing h = refl
      go (updating c p) h = by (updating c p) c (λ d e. e) λ e f. ne (h (sym e) f)
      go (scanning c) h = by (scanning c) c (λ d e. e) λ e f. ne (h (sym e) f)

  -- The row of the open update when its node lets out s as an own tag, above all of before, and no other.
  tagged-row : {t p s : ℕ} → t < length tr → OpenAt (book_of tr) node t → (book_of tr).begun t ≡ updating node p
      → (book_of tr).tag t ≡ 0 → ending_in o ≡ none → ((x : ℕ) → x ∈ own_in o → x ≡ s) → s ∈ own_in o
      → ((x : ℕ) → x ∈ own_tags node tr → x < s) → 0 < s
      → row_in (book_of next) t ≡ ((book_of tr).begun t, (book_of tr).fate t, s)
  unfolding book_of
  tagged-row {t} {p} {s} lt own is bare calm all some above pos =
      let row = row_by tr t (updating node p) is in
      let unended : fate_at tr t node ≡ unfinished = ap (λ (r : Row). r.1) (sym row) ∙ own.unended in
      let untagged : tag_at tr t node ≡ 0 = ap (λ (r : Row). r.2) (sym row) ∙ bare in
      let low = largest-below s (own_tags node (take t tr)) pos (λ x m. above x (own-take node t tr m)) in
      let tag = tag_open tr o t node lt unended
      ∙ first_next (largest (own_tags node (take t tr))) (own_tags node (up_to_end t (fate_at tr t node) tr))
      (own_at node o) untagged
      ∙ first-only (largest (own_tags node (take t tr))) s (own_at node o) low
      (subst (λ l. s ∈ l) (sym (own-here o)) some) (λ x m. all x (own-only o node m).1) in
      row_by next t (updating node p) (begun-old tr o t lt ∙ is)
      ∙ (λ i. (updating node p, fate-calm tr o t node lt (ending-only o node (inr calm)) i, tag i))
      ∙ ap (λ (r : Row). (r.0, r.1, s)) (sym row)

  pub book-tag : {t p s : ℕ} → t < length tr → begun_in o ≡ nothing → ending_in o ≡ none → OpenAt (book_of tr) node t
      → (book_of tr).begun t ≡ updating node p → (book_of tr).tag t ≡ 0
      → ((x : ℕ) → x ∈ own_in o → x ≡ s) → s ∈ own_in o → ((x : ℕ) → x ∈ own_tags node tr → x < s) → 0 < s
      → book_of next ≡ tags t s (book_of tr)
  book-tag {t} {p} {s} lt idle calm own is bare all some above pos = book-by _ _
      (upd-all (λ j y. row_in (book_of next) j ≡ ((book_of tr).begun j, (book_of tr).fate j, y)) (book_of tr).tag t s
      (λ j ne. row_next j (row_other own j ne) λ e. idle)
      (tagged-row lt own is bare calm all some above pos))

  -- The row of the open operation when its ending is given.
  ended-row : {t : ℕ} (e : Ending) → Given e → t < length tr → OpenAt (book_of tr) node t → ending_in o ≡ e
      → Told (book_of tr) o → row_in (book_of next) t ≡ ((book_of tr).begun t, ended (length tr) e, (book_of tr).tag t)
  unfolding book_of
  ended-row {t} e real lt own end told =
      row_by next t (begun tr t) (begun-old tr o t lt) ∙ go (begun tr t) own.here own.unended
    where
      met : (c : ℕ) → c ≡ node → fate_at tr t c ≡ unfinished → fate_at next t c ≡ ended (length tr) e
      met c same free = fate-old tr o t c lt
          ∙ ap (λ x. or_else x (fate_by (length tr) (ending_at c o) unfinished)) free
          ∙ ap (λ x. fate_by (length tr) x unfinished) (ap (λ d. ending_at d o) same ∙ ending_here o ∙ end)
          ∙ given-fate (length tr) e real

      go : (b : Begun) → At b node → fate_of tr t b ≡ unfinished
          → row_of next t b ≡ (b, ended (length tr) e, tag_of tr t b)
      go nothing same free = elim same [ ]
      go (updating c p) same free = λ i. (updating c p, met c same free i, tag-calm tr o t c lt (known told c) i)
      go (scanning c) same free = λ i. (scanning c, met c same free i, 0)

  pub book-end : {t : ℕ} (e : Ending) → Given e → t < length tr → begun_in o ≡ nothing → ending_in o ≡ e
      → OpenAt (book_of tr) node t → Told (book_of tr) o → book_of next ≡ ends t (ended (length tr) e) (book_of tr)
  book-end {t} e real lt idle end own told = book-by _ _
      (upd-all (λ j y. row_in (book_of next) j ≡ ((book_of tr).begun j, y, (book_of tr).tag j)) (book_of tr).fate t
      (ended (length tr) e) (λ j ne. row_next j (row_other own j ne) λ h. idle) (ended-row e real lt own end told))
