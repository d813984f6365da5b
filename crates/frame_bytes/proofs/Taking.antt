-- What the loop keeps that handles the messages of a frame, none of which is refused. Assumes nothing.
use Prim.Native.Nat.{ℕ, ◌+◌, ◌-◌, ◌^◌, ◌≤◌, ◌<◌}
use mathlib.Core.Path.{◌≡◌, refl, sym, ap, ap₂, ◌∙◌, subst}
use mathlib.Core.Bool.{Bool, true, false}
use mathlib.Core.List.{List, [], ◌++◌, append-nil}
use native.Mathlib.Omega.{arith}
use lib.Dec.{eqb, leb}
use lib.ListN.{length, take, drop, length-drop, drop_of_length-le}
use mir.Syntax.{w64}
use mir.Val.{Fits}
use borrow.Author.Tests.{leb-true}
use Rattle.octets.specs.Answer.{Answer, returned, refused}
use Rattle.octets.specs.Test.{pick}
use Rattle.octets.proofs.Test.{both_right, not-true-false}
use Rattle.wire.specs.Codec.{front, front_part, decode}
use Rattle.wire.specs.declared.Message.{Message}
use Rattle.wire.proofs.RoundTrip.{front-alone}
use Rattle.record.specs.declared.Node.{Node}
use Rattle.step.specs.declared.Ending.{Ending}
use Rattle.step.specs.declared.Ending.TheVariants.{None}
use Rattle.step.specs.Stale.{stale_message}
use Rattle.step.specs.Told.{Told, nothing, told, told_view}
use Rattle.step.proofs.Numbers.{on-pick}
use Rattle.calls.specs.CallResult.{CallResult}
use Rattle.calls.specs.Entry as N
use Rattle.region.specs.Record.{record_size, record_of}
use Rattle.calls_bytes.specs.Entry.{LentResult, fits, at_record, in_bytes}
use Rattle.calls_bytes.specs.Frame.{is_whole, is_ending, and_then, next_call, in_turn, at_start, one_by_one}
use Rattle.calls_bytes.specs.Shown.{event_view}
use Rattle.calls_bytes.specs.Walk.{Piece, walk_by, walk}
use Rattle.calls_bytes.proofs.Walk.{walk_more, whole-more}
use Rattle.node_bytes.specs.Called.{Reply, answer_of, length_of, Shows}
use Rattle.frame_bytes.specs.Judged.{Goes}
use Rattle.frame_bytes.proofs.Judging.{never, sticks}
use Rattle.frame_bytes.proofs.Loops.{view-alone}
use Rattle.frame_bytes.proofs.Stand.{ending-then, answer-then, refused-then, not-ended, Stand, stand-first}
use Rattle.frame_bytes.proofs.Turn.{turn, read_is, late-9, next-ends, quiet, then-room, then-stand}

-- a message call that is accepted had room
had-room : (r out : List ℕ) (call : Node → CallResult) (x : Ending) → (at_record r out call).ending ≡ returned x
    → N.least_output ≤ length out
unfolding at_record
had-room r out call x =
    on-pick (λ (e : LentResult). e.ending ≡ returned x → N.least_output ≤ length out) (fits N.least_output r (length
    out)) _
    _
    (λ f e. leb-true N.least_output (length out)
    (both_right (eqb (length r) record_size) (leb N.least_output (length out)) f))
    (λ f e. never e)

-- what has been left, by the loop's variables
abbrev pub so : Told → Ending → (r : List ℕ) (at : ℕ) (out : List ℕ) → LentResult
so tell x r at out = record { answer = tell; ending = returned x; bytes = r; length = at; out = out }

-- t is left of the frame, p what the messages before it have left, x their ending: together they give all
pub record Along (n s : ℕ) (t : List ℕ) (p : LentResult) (x : Ending) (all : LentResult) : Type 0 where
  pub stand : Stand n p x
  pub rest : in_turn s p (walk n t) ≡ all
  pub whole : is_whole n t ≡ true

-- before the first message, and after the last
pub first-along : (r : List ℕ) (n s : ℕ) (b out : List ℕ) → Goes r n s b out
    → Along n s b (so nothing None r 0 out) None (one_by_one r s b out)
unfolding one_by_one
first-along r n s b out g =
    record {
      stand = stand-first r n out g.long g.known g.can-step g.n-is;
      rest = ap (λ (j : ℕ). in_turn s (at_start r out) (walk j b)) (sym g.n-is);
      whole = g.whole;
    }

pub last-along : (n s : ℕ) (t : List ℕ) (p : LentResult) (x : Ending) (all : LentResult) → Along n s t p x all
    → t ≡ [] → p ≡ all
unfolding in_turn walk_by
last-along n s t p x all h e = ap (λ (z : List ℕ). in_turn s p (walk n z)) (sym e) ∙ h.rest

module _ (n s : ℕ) (low : 1 ≤ s) (high : s ≤ n) (t : List ℕ) (p : LentResult) (x : Ending) (all : LentResult)
    (h : Along n s t p x all) (end : (y : Ending) × (all.ending ≡ returned y)) (m : Message) (k : ℕ)
    (e : front n t ≡ returned (m, k)) where
  abbrev pub piece : Piece
  piece = record { message = m; bytes = take k t }

  after : in_turn s (and_then p (next_call s p piece)) (walk n (drop k t)) ≡ all
  unfolding in_turn
  after = ap (in_turn s p) (sym (walk_more n t m k e)) ∙ h.rest

  accepted : (z : Ending) × ((next_call s p piece).ending ≡ returned z)
  accepted = by (next_call s p piece).ending refl
    where
      by : (a : Answer Ending) → (next_call s p piece).ending ≡ a → (z : Ending)
          × ((next_call s p piece).ending ≡ returned z)
      by (returned z) q = (z, q)
      by (refused j) q =
          never (sym (sticks s (and_then p (next_call s p piece)) (walk n (drop k t)) j
          (refused-then p (next_call s p piece) h.stand.ends q))
          ∙ ap (λ (a : LentResult). a.ending) after ∙ end.1)

  pub room : N.least_output ≤ length (drop p.length p.out)
  room =
      had-room p.bytes (drop p.length p.out) (λ c. N.message c s (take k t) (drop p.length p.out))
      accepted.0 accepted.1

  abbrev read : decode n (take k t) ≡ returned m
  read = front-alone n t m k e

  pub not-stale : stale_message (record_of p.bytes) s m ≡ false
  not-stale =
      not-true-false (stale_message (record_of p.bytes) s m) (λ g.
      never (sym (late-9 n s low high p x h.stand piece read room g) ∙ accepted.1))

  abbrev z : Ending
  z = (turn n s low high p x h.stand piece read room).ending

  ends : (next_call s p piece).ending ≡ returned z
  ends = next-ends n s low high p x h.stand piece read room not-stale

  -- the message was handled: what was done on the lent bytes
  module _ (v : List ℕ) (w : v ≡ front_part n t) (o : List ℕ) (q : o ≡ drop p.length p.out) (a : Reply)
      (r' o' view view' : List ℕ)
      (d : Shows a r' o' view' (in_bytes p.bytes (N.taken (record_of p.bytes) s v o (returned m))) view) where
    is-next : in_bytes p.bytes (N.taken (record_of p.bytes) s v o (returned m)) ≡ next_call s p piece
    is-next =
        ap₂ (λ (i j : List ℕ). in_bytes p.bytes (N.taken (record_of p.bytes) s i j (returned m)))
        (view-alone n t m k e v w) q
        ∙ sym (read_is n s low high p x h.stand piece read room)

    does : Shows a r' o' view' (next_call s p piece) view
    does = subst (λ (i : LentResult). Shows a r' o' view' i view) is-next d

    pub later : answer_of a ≡ returned z
    later = does.0.1 ∙ ends

    pub length-is : length_of a ≡ (next_call s p piece).length
    length-is = does.0.2

    -- what has been sent stays in the buffer
    pub sent-inside : p.length + length_of a ≤ length p.out
    sent-inside =
        let i = (then-stand n s low high p x h.stand piece read room not-stale).inside in
        let j = then-room n s low high p x h.stand piece read room not-stale in
        let l = length-is in
        omega (arith, i, j, l)

    module _ (x' : Ending) (f : x' ≡ pick (is_ending x) x z) (out' : List ℕ) (g : out' ≡ take p.length p.out ++ o')
      where
        abbrev pub tell' : Told
        tell' = (and_then p (next_call s p piece)).answer

        same : so tell' x' r' (p.length + length_of a) out' ≡ and_then p (next_call s p piece)
        same =
            let nx = next_call s p piece in
            let i : returned x' ≡ (and_then p nx).ending = ap returned f ∙ sym (ending-then p nx h.stand.ends ends) in
            let j : out' ≡ take p.length p.out ++ nx.out =
            g ∙ ap (λ (y : List ℕ). take p.length p.out ++ y) does.0.4 in
            let l : p.length + length_of a ≡ p.length + nx.length = ap (λ (y : ℕ). p.length + y) length-is in
            let b : r' ≡ nx.bytes = does.0.3 in
            ap₂ (λ (y : Answer Ending) (c : List ℕ). record {
              answer = tell';
              ending = y;
              bytes = c;
              length = p.length + length_of a;
              out = out';
            }) i b
            ∙ ap₂ (λ (y : ℕ) (c : List ℕ). record {
              answer = tell';
              ending = (and_then p nx).ending;
              bytes = nx.bytes;
              length = y;
              out = c;
            }) l j

        pub on : Along n s (drop k t) (so tell' x' r' (p.length + length_of a) out') x' all
        on =
            record {
              stand =
                  subst (λ (y : Ending). Stand n (so tell' x' r' (p.length + length_of a) out') y) (sym f)
                  (subst (λ (y : LentResult). Stand n y (pick (is_ending x) x z)) (sym same)
                  (then-stand n s low high p x h.stand piece read room not-stale));
              rest = ap (λ (y : LentResult). in_turn s y (walk n (drop k t))) same ∙ after;
              whole = sym (whole-more n t m k e) ∙ h.whole;
            }

        pub room-on : length out' ≡ length p.out
        room-on =
            ap (λ (y : LentResult). length y.out) same
            ∙ then-room n s low high p x h.stand piece read room not-stale

        -- the view that is shown is that of the one ending
        pub view-on : (first : List ℕ) → view ≡ event_view p.answer first → view' ≡ event_view tell' first
        view-on first i =
            let nx = next_call s p piece in
            rw (answer-then p nx h.stand.ends ends) (by (is_ending x) refl)
          where
            none_told : {y : Ending} {u : Told} → y ≡ None → told (returned y) (told_view u) ≡ u
                → (b : List ℕ) → event_view u b ≡ b
            none_told {y} {u} c l b =
                ap (λ (j : Told). event_view j b) (sym l ∙ ap (λ (j : Ending). told (returned j) (told_view u)) c)

            by : (b : Bool) → is_ending x ≡ b → view' ≡ event_view (pick b p.answer (next_call s p piece).answer) first
            by true c =
                does.1 ∙ none_told (quiet n s low high p x h.stand piece read room not-stale c)
                (ap (λ (j : Answer Ending). told j (told_view (next_call s p piece).answer)) (sym later)
                ∙ does.0.0) view
                ∙ i
            by false c =
                does.1 ∙ ap (event_view (next_call s p piece).answer)
                (i ∙ none_told (not-ended x c) h.stand.tells first)

-- the ending that was given
given_in : Answer Ending → Ending
given_in (returned x) = x
given_in (refused k) = None

pub same_ending : {x y : Ending} → returned x ≡ returned y → x ≡ y
unfolding given_in
same_ending = ap given_in

-- what was lent from a place on, given back
pub back : (at : ℕ) (out o : List ℕ) → take at out ++ (o ++ drop (length out - at) (drop at out)) ≡ take at out ++ o
back at out o =
    ap (λ (y : List ℕ). take at out ++ y)
    (ap (λ (y : List ℕ). o ++ y)
    (drop_of_length-le (drop at out) {i = length out - at} (let l = length-drop at out in omega (arith, l)))
    ∙ append-nil o)

-- a place in a buffer is a number of 64 bits
pub in-word : {a b l : ℕ} → a ≤ b → b ≡ l → l < 2 ^ 64 → Fits w64 a
in-word h e k = record { fits = omega (arith, h, e, k) }
