-- The claims of specs/Frames. Assumes nothing.
use Prim.Native.Nat.{ℕ, ◌+◌, ◌≤◌}
use mathlib.Core.Path.{◌≡◌, refl, sym, ap, ◌∙◌, subst}
use mathlib.Core.Bool.{Bool, true, false}
use mathlib.Core.List.{List, [], ◌∷◌, ◌++◌}
use mathlib.Core.Logic.{◌⊎◌, inl, inr}
use native.Mathlib.Omega.{arith}
use lib.Dec.{leb}
use lib.ListN.{length, length-append}
use Rattle.octets.specs.Answer.{Answer, returned, refused}
use Rattle.octets.specs.Test.{both}
use Rattle.view.specs.Size.{nodes}
use Rattle.view.specs.View.{AbsentPast}
use Rattle.view.proofs.First.{none-absent}
use Rattle.step.specs.declared.Ending.{Ending}
use Rattle.step.specs.declared.Ending.TheVariants.{None}
use Rattle.step.specs.declared.Step.{Step}
use Rattle.step.specs.Told.{Told, told_view}
use Rattle.step.proofs.Numbers.{on-pick}
use Rattle.region.specs.Record.{record_of}
use Rattle.calls_bytes.specs.Entry.{LentResult, fits, usable_in}
use Rattle.calls_bytes.specs.Frame.{frame_most, frame_output, packed, is_whole, is_ending, next_call, in_turn, at_start}
use Rattle.calls_bytes.specs.Frame.{or_refused, one_by_one, frame}
use Rattle.calls_bytes.specs.Walk.{Piece, AllRead, walk_by, walk}
use Rattle.calls_bytes.proofs.Claims.{refusals-keep}
use Rattle.calls_bytes.proofs.Walk.{all_read, packed-both}
use Rattle.frame_bytes.specs.Frames as claim
use Rattle.frame_bytes.specs.Frames.{Readable, frame_sent, steps_on, Does}
use Rattle.frame_bytes.specs.Judged.{any_stale}
use Rattle.frame_bytes.proofs.Judging.{never, told_same, Arrives, low, high, big, few, at_first, all_go}
use Rattle.frame_bytes.proofs.Judging.{one-late, no_more, sent-few, judged-free, judged-late}
use Rattle.frame_bytes.proofs.Adds.{Adds, all-add}
use Rattle.frame_bytes.proofs.Going.{goes, is-late, fresh-goes}

-- ---- an accepted frame

module _ (r : List ℕ) (s : ℕ) (b out : List ℕ) (x : Ending) where
  abbrev Is : LentResult → Type 0
  Is e = e.ending ≡ returned x → Readable r s b out × (e ≡ one_by_one r s b out)

  is-settled : (a : Answer Ending) → (one_by_one r s b out).ending ≡ a → Readable r s b out
      → Is (or_refused r out (one_by_one r s b out) a)
  is-settled (refused k) e h q = never q
  is-settled (returned y) e h q = (h, refl)

  one-by-one : (frame r s b out).ending ≡ returned x → Readable r s b out × (frame r s b out ≡ one_by_one r s b out)
  unfolding frame
  one-by-one =
      let n = (record_of r).n in
      on-pick Is (fits frame_output r (length out)) _ _ (λ f.
      on-pick Is (usable_in r) _ _ (λ u.
      on-pick Is (both (leb 1 s) (leb s n)) _ _ (λ k.
      on-pick Is (both (leb 1 (length b)) (leb (length b) frame_most)) _ _ (λ l.
      on-pick Is (is_whole n b) _ _
      (λ w. is-settled (one_by_one r s b out).ending refl
      (record { fit = f; can-use = u; sender = k; sized = l; whole = w }))
      (λ e q. never q)) (λ e q. never q)) (λ e q. never q)) (λ e q. never q)) (λ e q. never q)

-- ---- a readable one: it is late, or all its messages are handled

module _ (r : List ℕ) (s : ℕ) (b out : List ℕ) (h : Readable r s b out) where
  abbrev n : ℕ
  n = (record_of r).n

  abbrev Comes : Type 0
  Comes = Arrives n s (length out) (low r s b out h) (high r s b out h) (big r s b out h) (one_by_one r s b out)

  only-9 : (k : ℕ) → (one_by_one r s b out).ending ≡ refused k → k ≡ 9
  only-9 k e = by (any_stale n s (record_of r) (walk n b)) refl
    where
      same : {i j : ℕ} → ◌≡◌ {A = Answer Ending} (refused i) (refused j) → i ≡ j
      same q = cc

      by : (t : Bool) → any_stale n s (record_of r) (walk n b) ≡ t → k ≡ 9
      by true g = same (sym e ∙ judged-late r s b out h g)
      by false g = never (sym e ∙ (judged-free r s b out h g).there.stand.ends)

  not_late : (x : Ending) → (one_by_one r s b out).ending ≡ returned x
      → any_stale n s (record_of r) (walk n b) ≡ false
  not_late x e = by (any_stale n s (record_of r) (walk n b)) refl
    where
      by : (t : Bool) → any_stale n s (record_of r) (walk n b) ≡ t → t ≡ false
      by true g = never (sym (judged-late r s b out h g) ∙ e)
      by false g = refl

  comes : (x : Ending) → (one_by_one r s b out).ending ≡ returned x → Comes
  comes x e = judged-free r s b out h (not_late x e)

  -- what stands before a message of the frame
  module _ (ms : List Piece) (m : Piece) (later : List Piece) (e : walk n b ≡ ms ++ m ∷ later) where
    reads : AllRead n (ms ++ m ∷ later)
    reads = subst (AllRead n) e (all_read n b)

    front_reads : (xs ys : List Piece) → AllRead n (xs ++ ys) → AllRead n xs
    front_reads [] ys a = tt
    front_reads (z ∷ xs) ys a = (a.0, front_reads xs ys a.1)

    back-reads : (xs ys : List Piece) → AllRead n (xs ++ ys) → AllRead n ys
    back-reads [] ys a = a
    back-reads (z ∷ xs) ys a = back-reads xs ys a.1

    short : length (packed ms) ≤ frame_most
    short =
        let i = ap (λ (z : List Piece). length (packed z)) e ∙ ap (λ (z : List ℕ). length z)
        (packed-both ms (m ∷ later)) ∙ length-append (packed ms) (packed (m ∷ later)) in
        let j = few r s b out h in
        omega (arith, i, j)

    one-ending : (x y : Ending) → (in_turn s (at_start r out) ms).ending ≡ returned x → is_ending x ≡ true
        → (next_call s (in_turn s (at_start r out) ms) m).ending ≡ returned y → y ≡ None
    one-ending x y p t q =
        let L = low r s b out h in
        let H = high r s b out h in
        let B = big r s b out h in
        let l : 0 + length (packed ms) ≤ frame_most = let z = short in omega (arith, z) in
        let a =
        all_go n s (length out) L H B ms 0 (record_of r) (at_start r out) (at_first r s b out h)
        (front_reads ms (m ∷ later) reads) l (prefix-fresh (any_stale n s (record_of r) ms) refl l p) in
        no_more n s (length out) L H B a.done a.copy (in_turn s (at_start r out) ms) a.there a.few m
        (back-reads ms (m ∷ later) reads).0
        (ap is_ending (told_same (sym a.there.stand.ends ∙ p)) ∙ t) y q
      where
        prefix-fresh : (g : Bool) → any_stale n s (record_of r) ms ≡ g → 0 + length (packed ms) ≤ frame_most
            → (in_turn s (at_start r out) ms).ending ≡ returned x → g ≡ false
        prefix-fresh false g l p = refl
        prefix-fresh true g l p =
            never (sym (one-late n s (length out) (low r s b out h) (high r s b out h) (big r s b out h) ms 0
            (record_of r) (at_start r out) (at_first r s b out h) (front_reads ms (m ∷ later) reads) l g) ∙ p)

-- ---- the refusals

module _ (r : List ℕ) (s : ℕ) (b out : List ℕ) (k : ℕ) where
  same_number : {i j : ℕ} → ◌≡◌ {A = Answer Ending} (refused i) (refused j) → j ≡ i
  same_number q = cc

  abbrev Told-as : LentResult → Type 0
  Told-as e = e.ending ≡ refused k → (k ≡ 12) ⊎ ((k ≡ 2) ⊎ ((k ≡ 3) ⊎ ((k ≡ 14) ⊎ ((k ≡ 7) ⊎ (k ≡ 9)))))

  late-as : (a : Answer Ending) → (one_by_one r s b out).ending ≡ a → Readable r s b out
      → Told-as (or_refused r out (one_by_one r s b out) a)
  late-as (refused j) e h q =
      inr (inr (inr (inr (inr (only-9 r s b out h k (e ∙ ap refused (sym (same_number q))))))))
  late-as (returned y) e h q = never (sym q ∙ e)

  frame-refuses : Told-as (frame r s b out)
  unfolding frame
  frame-refuses =
      let n = (record_of r).n in
      on-pick Told-as (fits frame_output r (length out)) _ _ (λ f.
      on-pick Told-as (usable_in r) _ _ (λ u.
      on-pick Told-as (both (leb 1 s) (leb s n)) _ _ (λ l.
      on-pick Told-as (both (leb 1 (length b)) (leb (length b) frame_most)) _ _ (λ z.
      on-pick Told-as (is_whole n b) _ _
      (λ w. late-as (one_by_one r s b out).ending refl
      (record { fit = f; can-use = u; sender = l; sized = z; whole = w }))
      (λ e q. inr (inr (inr (inr (inl (same_number q))))))) (λ e q. inr (inr (inr (inl (same_number q))))))
      (λ e q. inr (inr (inl (same_number q))))) (λ e q. inr (inl (same_number q)))) (λ e q. inl (same_number q))

-- ---- what it leaves

module _ (r : List ℕ) (s : ℕ) (b out : List ℕ) (x : Ending) (e : (frame r s b out).ending ≡ returned x) where
  abbrev whole : Readable r s b out × (frame r s b out ≡ one_by_one r s b out)
  whole = one-by-one r s b out x e

  ends : (one_by_one r s b out).ending ≡ returned x
  ends = ap (λ (z : LentResult). z.ending) (sym whole.1) ∙ e

  abbrev there : Comes r s b out whole.0
  there = comes r s b out whole.0 x ends

  sent-most : (frame r s b out).length ≤ frame_sent
  sent-most =
      let h = whole.0 in
      rw whole.1 (sent-few (record_of r).n s (length out) (low r s b out h) (high r s b out h) (big r s b out h)
      there.done there.copy (one_by_one r s b out) there.there there.few)

  abbrev steps : List Step
  steps = steps_on s (record_of r) (walk (record_of r).n b)

  adds : Adds (record_of r).n s (length out) (low r s b out whole.0) (high r s b out whole.0)
      (big r s b out whole.0) (at_start r out) steps (one_by_one r s b out)
  unfolding one_by_one
  adds =
      let h = whole.0 in
      let n = (record_of r).n in
      let l : 0 + length (packed (walk n b)) ≤ frame_most = let z = few r s b out h in omega (arith, z) in
      all-add n s (length out) (low r s b out h) (high r s b out h) (big r s b out h) (walk n b) 0 (record_of r)
      (at_start r out) (at_first r s b out h) (all_read n b) l (not_late r s b out h x ends)

  frame-does : Does (record_of r).n (record_of r) steps out (frame r s b out)
  unfolding walk_by
  frame-does =
      let st = there.there.stand in
      let a = adds in
      subst (Does (record_of r).n (record_of r) steps out) (sym whole.1)
      (record {
        record-left = record { long = st.long; known = st.known; can-step = st.can-step; same = a.node-is };
        sent = a.sent_is;
        rest = a.rest-is;
        met = a.met-is;
        all-met = st.sent;
      })

-- a refused one shows nothing
frame-absent : (r : List ℕ) (s : ℕ) (b out : List ℕ) → (record_of r).n ≤ nodes
    → AbsentPast (record_of r).n (told_view (frame r s b out).answer)
frame-absent r s b out l = by (frame r s b out).ending refl
  where
    by : (a : Answer Ending) → (frame r s b out).ending ≡ a
        → AbsentPast (record_of r).n (told_view (frame r s b out).answer)
    by (returned x) e =
        rw (whole r s b out x e).1 (there r s b out x e).there.stand.shown
    by (refused k) e =
        subst (λ (z : Told). AbsentPast (record_of r).n (told_view z)) (sym (refusals-keep.frame-keeps r s b out k e
        ).0)
        (none-absent (record_of r).n l)

pub frames : claim.Frames
frames =
    record {
      one-by-one = one-by-one;
      frame-goes = goes;
      frame-late = is-late;
      frame_fresh = fresh-goes;
      frame-refuses = frame-refuses;
      only-9 = λ r s b out k h e. only-9 r s b out h k e;
      sent-most = sent-most;
      one-ending = λ r s b out ms m later x y h e p t q. one-ending r s b out h ms m later e x y p t q;
      frame-does = frame-does;
      frame-absent = frame-absent;
    }
