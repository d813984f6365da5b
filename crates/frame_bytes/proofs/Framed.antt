-- Which answer the frame call gives, case by case. Assumes nothing.
use Prim.Native.Nat.{ℕ}
use mathlib.Core.Path.{◌≡◌, refl, sym, ap, ap₂, ◌∙◌}
use mathlib.Core.Bool.{Bool, true, false}
use mathlib.Core.List.{List, [], ◌∷◌}
use native.Mathlib.Nat.{zero-add}
use native.Mathlib.Omega.{arith}
use lib.Dec.{leb}
use lib.ListN.{length, drop, drop_of_length-le}
use lib.Seq.{take-length}
use borrow.Author.Tests.{eq-eqb, le-leb, leb-true}
use Rattle.octets.specs.Answer.{Answer, returned, refused}
use Rattle.octets.specs.Test.{pick, both}
use Rattle.octets.proofs.Test.{both_left, both_right, both_true}
use Rattle.wire.specs.Codec.{front, front_part, decode, view_part}
use Rattle.wire.specs.declared.Message.{Message}
use Rattle.wire.proofs.RoundTrip.{front-alone}
use Rattle.step.specs.declared.Ending.{Ending}
use Rattle.step.specs.declared.Ending.TheVariants.{None}
use Rattle.calls.specs.Entry as N
use Rattle.region.specs.Record.{record_size, record_of}
use Rattle.calls_bytes.specs.Entry.{LentResult, refuse, fits, usable_in, in_bytes, message}
use Rattle.calls_bytes.specs.Frame.{frame_most, frame_output, is_whole, and_then, in_turn, at_start, or_refused}
use Rattle.calls_bytes.specs.Frame.{one_by_one}
use Rattle.calls_bytes.specs.Frame.{frame}
use Rattle.calls_bytes.specs.Walk.{Piece, walk_by, walk}
use Rattle.calls_bytes.proofs.Claims.{refusals-keep}
use Rattle.calls_bytes.proofs.Walk.{walk_more, whole-more}
use Rattle.node_bytes.specs.Admission.{admission}
use Rattle.node_bytes.proofs.Admitted.{Admitted}
use Rattle.frame_bytes.specs.Frames.{Readable}
use Rattle.frame_bytes.specs.Judged.{any_stale, verdict, Goes}
use Rattle.frame_bytes.proofs.Going.{settles}
use Rattle.frame_bytes.proofs.Judging.{judged-free, judged-late}
use Rattle.frame_bytes.proofs.Loops.{view-alone}
use Rattle.frame_bytes.proofs.Stand.{refused-then, stand-first}
use Rattle.frame_bytes.proofs.Turn.{read_is}

-- ---- 12 and 2

module _ (r : List ℕ) (s : ℕ) (b out : List ℕ) where
  away : (x y : Bool) → fits frame_output r (length out) ≡ x → usable_in r ≡ y → {k : ℕ} → pick x (pick y 0 2) 12 ≡ k
      → (k ≡ 0 → ⊥) → frame r s b out ≡ refuse k r out
  unfolding frame
  away false y e f q h = rw e (ap (λ j. refuse j r out) q)
  away true false e f q h = rw (e, f) (ap (λ j. refuse j r out) q)
  away true true e f q h = absurd (h (sym q))

  pub turned-away : {k : ℕ} → k ≡ admission frame_output r (length out) → (k ≡ 0 → ⊥) → frame r s b out ≡ refuse k r out
  unfolding admission
  turned-away q h = away (fits frame_output r (length out)) (usable_in r) refl refl (sym q) h

-- ---- a frame on a record that can be used

module _ (r : List ℕ) (s : ℕ) (b out : List ℕ) (h : Admitted frame_output r out) where
  abbrev n : ℕ
  n = (record_of r).n

  fit : fits frame_output r (length out) ≡ true
  fit = both_true (eq-eqb (length r) record_size h.long) (le-leb frame_output (length out) h.room)

  can-use : usable_in r ≡ true
  can-use = both_true h.known h.can-step

  pub is-3 : both (leb 1 s) (leb s n) ≡ false → frame r s b out ≡ refuse 3 r out
  unfolding frame
  is-3 e = rw (fit, can-use, e) refl

  module _ (sender : both (leb 1 s) (leb s n) ≡ true) where
    pub is-14 : both (leb 1 (length b)) (leb (length b) frame_most) ≡ false → frame r s b out ≡ refuse 14 r out
    unfolding frame
    is-14 e = rw (fit, can-use, sender, e) refl

    module _ (sized : both (leb 1 (length b)) (leb (length b) frame_most) ≡ true) where
      pub is-7 : is_whole n b ≡ false → frame r s b out ≡ refuse 7 r out
      unfolding frame
      is-7 e = rw (fit, can-use, sender, sized, e) refl

      module _ (whole : is_whole n b ≡ true) where
        readable : Readable r s b out
        readable = record { fit = fit; can-use = can-use; sender = sender; sized = sized; whole = whole }

        ends_so : frame r s b out ≡ or_refused r out (one_by_one r s b out) (one_by_one r s b out).ending
        ends_so = settles r s b out readable

        is-late : {k : ℕ} → (one_by_one r s b out).ending ≡ refused k → frame r s b out ≡ refuse k r out
        is-late e = ends_so ∙ ap (or_refused r out (one_by_one r s b out)) e

        pub goes : {x : Ending} → (one_by_one r s b out).ending ≡ returned x → frame r s b out ≡ one_by_one r s b out
        goes e = ends_so ∙ ap (or_refused r out (one_by_one r s b out)) e

      -- ---- by what was judged on a copy

      pub is-fault : {k : ℕ} → k ≡ verdict n s (record_of r) b → (k ≡ 0 → ⊥) → frame r s b out ≡ refuse k r out
      is-fault {k} e f = by (is_whole n b) (any_stale n s (record_of r) (walk n b)) refl refl
        where
          by : (x y : Bool) → is_whole n b ≡ x → any_stale n s (record_of r) (walk n b) ≡ y
              → frame r s b out ≡ refuse k r out
          by false y p q =
              is-7 p ∙ ap (λ (j : ℕ). refuse j r out)
              (sym (e ∙ ap (λ (z : Bool). pick {A = ℕ} z (pick (any_stale n s (record_of r) (walk n b)) 9 0) 7) p))
          by true true p q =
              is-late p (judged-late r s b out (readable p) q) ∙ ap (λ (j : ℕ). refuse j r out)
              (sym (e ∙ ap₂ (λ (z w : Bool). pick {A = ℕ} z (pick w 9 0) 7) p q))
          by true false p q = absurd (f (e ∙ ap₂ (λ (z w : Bool). pick {A = ℕ} z (pick w 9 0) 7) p q))

      pub no-fault : 0 ≡ verdict n s (record_of r) b → (is_whole n b ≡ true) × Goes r n s b out
      no-fault e = by (is_whole n b) (any_stale n s (record_of r) (walk n b)) refl refl
        where
          by : (x y : Bool) → is_whole n b ≡ x → any_stale n s (record_of r) (walk n b) ≡ y
              → (is_whole n b ≡ true) × Goes r n s b out
          by false y p q =
              absurd (let z : ◌≡◌ {A = ℕ} 0 7 =
              e ∙ ap (λ (z : Bool). pick {A = ℕ} z (pick (any_stale n s (record_of r) (walk n b)) 9 0) 7) p in
              omega (arith, z))
          by true true p q =
              absurd (let z : ◌≡◌ {A = ℕ} 0 9 = e ∙ ap₂ (λ (z w : Bool). pick {A = ℕ} z (pick w 9 0) 7) p q in
              omega (arith, z))
          by true false p q =
              let a = judged-free r s b out (readable p) q in (
                p,
                record {
                  long = h.long;
                  known = h.known;
                  can-step = h.can-step;
                  n-is = refl;
                  low = leb-true 1 s (both_left (leb 1 s) (leb s n) sender);
                  high = leb-true s n (both_right (leb 1 s) (leb s n) sender);
                  whole = p;
                  ends = (a.there.kind, a.there.stand.ends);
                },
              )

      -- ---- one message alone

      module _ (m : Message) (e : front n b ≡ returned (m, length b)) where
        nothing-after : drop (length b) b ≡ []
        nothing-after = drop_of_length-le b {i = length b} (omega arith)

        alone : walk n b ≡ record { message = m; bytes = b } ∷ []
        unfolding walk_by
        alone =
            walk_more n b m (length b) e
            ∙ ap₂ (λ (y z : List ℕ). record { message = m; bytes = y } ∷ walk n z) (take-length b) nothing-after

        whole : is_whole n b ≡ true
        unfolding walk_by
        whole = whole-more n b m (length b) e ∙ ap (is_whole n) nothing-after

        -- what a message call leaves after nothing
        after_none : (a : LentResult) (y : Answer Ending) → a.ending ≡ y
            → ((k : ℕ) → a.ending ≡ refused k → a ≡ refuse k r out)
            → or_refused r out (and_then (at_start r out) a) (and_then (at_start r out) a).ending ≡ a
        after_none a (refused k) q f =
            ap (or_refused r out (and_then (at_start r out) a)) (refused-then (at_start r out) a refl q) ∙ sym (f k q)
        after_none a (returned y) q f =
            rw (q, q) (ap (λ (l : ℕ). record {
              answer = a.answer;
              ending = returned y;
              bytes = a.bytes;
              length = l;
              out = a.out;
            }) (zero-add a.length))

        refusal_is : (k : ℕ) → (message r s b out).ending ≡ refused k → message r s b out ≡ refuse k r out
        refusal_is k q =
            let z = refusals-keep.message-keeps r s b out k q in
            rw (z.0, q, z.1, z.2, z.3) refl

        is-message : frame r s b out ≡ message r s b out
        unfolding one_by_one in_turn
        is-message =
            ends_so whole
            ∙ ap (λ (l : List Piece). or_refused r out (in_turn s (at_start r out) l) (in_turn s (at_start r out) l
            ).ending)
            alone
            ∙ after_none (message r s b out) (message r s b out).ending refl refusal_is

        pub is_one : (v : List ℕ) → v ≡ front_part n b
            → frame r s b out ≡ in_bytes r (N.taken (record_of r) s v out (returned m))
        is_one v w =
            let read : decode n b ≡ returned m =
            ap (decode n) (sym (take-length b)) ∙ front-alone n b m (length b) e in
            let big = h.room in
            is-message
            ∙ read_is n s (leb-true 1 s (both_left (leb 1 s) (leb s n) sender))
            (leb-true s n (both_right (leb 1 s) (leb s n) sender)) (at_start r out) None
            (stand-first r n out h.long h.known h.can-step refl) (record { message = m; bytes = b }) read
            (omega (arith, big))
            ∙ ap (λ (z : List ℕ). in_bytes r (N.taken (record_of r) s z out (returned m)))
            (sym (view-alone n b m (length b) e v w ∙ ap (view_part n) (take-length b)))
