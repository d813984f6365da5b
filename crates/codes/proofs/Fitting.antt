-- What a call at one node tells, and the same with its rule, fit together; its refusals are in their range.
use Prim.Native.Nat.{ℕ}
use native.Mathlib.Omega.{arith}
use mathlib.Core.Path.{◌≡◌, refl, sym, ◌∙◌}
use mathlib.Core.Bool.{Bool, true, false}
use mathlib.Core.List.{List, [], ◌∷◌}
use lib.ListN.{length}
use lib.Dec.{leb, ltb, eqb}
use Rattle.octets.specs.Answer.{Answer, returned, refused}
use Rattle.octets.specs.Test.{both, pick}
use Rattle.wire.specs.Codec.{view_part, decode}
use Rattle.wire.specs.declared.Message.{Message}
use Rattle.record.specs.Usable.{sizes_within, usable, is_open, full}
use Rattle.record.specs.declared.Node.{Node}
use Rattle.record.specs.declared.Operation.{Operation}
use Rattle.step.specs.declared.Ending.{Ending}
use Rattle.step.specs.declared.Step.{Step}
use Rattle.step.specs.Stale.{stale_message}
use Rattle.step.specs.Told.{Told, refusal, told, told_view}
use Rattle.step.proofs.Numbers.{on-pick}
use Rattle.calls.specs.CallResult.{CallResult}
use Rattle.calls.specs.Entry as N
use Rattle.reply.proofs.Tells.{told-told_view}
use Rattle.region.specs.Record.{record_size, record_of, codes_known}
use Rattle.calls_bytes.specs.Entry as L
use Rattle.calls_bytes.specs.Frame.{frame_most, frame_output, is_whole, first_stands, and_then, next_call, in_turn}
use Rattle.calls_bytes.specs.Frame.{at_start}
use Rattle.calls_bytes.specs.Frame.{or_refused, one_by_one, frame}
use Rattle.calls_bytes.specs.Walk.{Piece, walk}
use Rattle.codes.specs.Code.{last_refusal, frame_refusal}
use Rattle.codes.specs.Apart.{NodeCall, by-fresh-node, by-begin-node, by-message, by-frame, last_of, Numbered}
use Rattle.codes.proofs.Range.{InRange, in-range, accepted}

-- what such a call tells, and the same with its rule
pub record Fitting (last : ℕ) (answer : Told) (ending : Answer Ending) : Type 0 where
  pub number_is : Numbered last ending
  pub told_is : answer ≡ told ending (told_view answer)

refuses : {last : ℕ} (k : ℕ) → InRange last k ≡ true → Fitting last (refusal k) (refused k)
refuses k h = record { number_is = in-range k h; told_is = refl }

-- by value
abbrev ByValue : CallResult → Type 0
ByValue e = Fitting last_refusal e.answer e.ending

let-out-fits : (s : Step) (out : List ℕ) → ByValue (N.let_out s out)
unfolding N.let_out
let-out-fits s out = record { number_is = accepted; told_is = sym (told-told_view s.ending s.view) }

taken-fits : (c : Node) (s : ℕ) (v out : List ℕ) (a : Answer Message) → ByValue (N.taken c s v out a)
unfolding N.taken
taken-fits c s v out (refused k) = refuses 7 refl
taken-fits c s v out (returned m) =
    on-pick ByValue (stale_message c s m) _ _ (λ e. refuses 9 refl) (λ e. let-out-fits _ out)

message-fits : (c : Node) (s : ℕ) (b out : List ℕ) → ByValue (N.message c s b out)
unfolding N.message
message-fits c s b out =
    on-pick ByValue (ltb (length out) N.least_output) _ _ (λ e. refuses 12 refl) (λ e.
    on-pick ByValue (usable c) _ _ (λ e.
    on-pick ByValue (both (leb 1 s) (leb s c.n)) _ _
    (λ e. taken-fits c s (view_part c.n b) out (decode c.n b)) (λ e. refuses 3 refl)) (λ e. refuses 2 refl))

begin-fits : (c : Node) (o : Operation) (out : List ℕ) → ByValue (N.begin c o out)
unfolding N.begin
begin-fits c o out =
    on-pick ByValue (ltb (length out) N.least_output) _ _ (λ e. refuses 12 refl) (λ e.
    on-pick ByValue (usable c) _ _ (λ e.
    on-pick ByValue (is_open c.wait) _ _ (λ e. refuses 5 refl) (λ e.
    on-pick ByValue (full c) _ _ (λ e. refuses 6 refl) (λ e. let-out-fits _ out))) (λ e. refuses 2 refl))

fresh-fits : (n f own : ℕ) → ByValue (N.fresh n f own)
unfolding N.fresh
fresh-fits n f own =
    on-pick ByValue (sizes_within n f own) _ _ (λ e. record { number_is = accepted; told_is = refl })
    (λ e. refuses 1 refl)

-- on lent bytes
abbrev InBytes : ℕ → L.LentResult → Type 0
InBytes last e = Fitting last e.answer e.ending

at-fits : (r out : List ℕ) (call : Node → CallResult) → ByValue (call (record_of r))
    → InBytes last_refusal (L.at_record r out call)
unfolding L.at_record L.in_bytes
at-fits r out call h =
    on-pick (InBytes last_refusal) (L.fits N.least_output r (length out)) _ _
    (λ e. on-pick (InBytes last_refusal) (codes_known r) _ _ (λ e. h) (λ e. refuses 2 refl)) (λ e. refuses 12 refl)

made-fits : (n f own : ℕ) (r : List ℕ) → InBytes last_refusal (L.fresh n f own r)
unfolding L.fresh L.in_bytes
made-fits n f own r =
    on-pick (InBytes last_refusal) (L.accepted (N.fresh n f own).ending) _ _
    (λ e. on-pick (InBytes last_refusal) (eqb (length r) record_size) _ _ (λ e. fresh-fits n f own)
    (λ e. refuses 12 refl))
    (λ e. fresh-fits n f own)

message-in-bytes : (r : List ℕ) (s : ℕ) (b out : List ℕ) → InBytes last_refusal (L.message r s b out)
message-in-bytes r s b out = at-fits r out (λ c. N.message c s b out) (message-fits (record_of r) s b out)

-- of two calls in turn, what is told is one of theirs
-- a smaller bound is a larger one
wider : {a : Told} {x : Answer Ending} → Fitting last_refusal a x → Fitting frame_refusal a x
wider h =
    record {
      number_is =
          record {
            number = λ k is.
                let (low, high, below, other) = h.number_is.number k is in
                (low, omega (arith, high), below, other);
          };
      told_is = h.told_is;
    }

then-fits : {last : ℕ} (p a : L.LentResult) → InBytes last p → InBytes last a → InBytes last (and_then p a)
then-fits {last} p a h g = by (first_stands p.ending a.ending)
  where
    by : (t : Bool) → Fitting last (pick t p.answer a.answer) (pick t p.ending a.ending)
    by true = h
    by false = g

turns_fit : (s : ℕ) (p : L.LentResult) (ms : List Piece) → InBytes frame_refusal p
    → InBytes frame_refusal (in_turn s p ms)
unfolding in_turn
turns_fit s p [] h = h
turns_fit s p (m ∷ ms) h =
    turns_fit s (and_then p (next_call s p m)) ms
    (then-fits p (next_call s p m) h (wider (message-in-bytes _ s m.bytes _)))

settled-fits : (r out : List ℕ) (e : L.LentResult) (a : Answer Ending) → e.ending ≡ a
    → InBytes frame_refusal e → InBytes frame_refusal (or_refused r out e a)
settled-fits r out e (refused k) q h =
    record {
      number_is = record { number = λ j is. h.number_is.number j (q ∙ is) };
      told_is = refl;
    }
settled-fits r out e (returned x) q h = h

frame-fits : (r : List ℕ) (s : ℕ) (b out : List ℕ) → InBytes frame_refusal (frame r s b out)
unfolding frame one_by_one
frame-fits r s b out =
    let n = (record_of r).n in
    on-pick (InBytes frame_refusal) (L.fits frame_output r (length out)) _ _ (λ e.
    on-pick (InBytes frame_refusal) (L.usable_in r) _ _ (λ e.
    on-pick (InBytes frame_refusal) (both (leb 1 s) (leb s n)) _ _ (λ e.
    on-pick (InBytes frame_refusal) (both (leb 1 (length b)) (leb (length b) frame_most)) _ _ (λ e.
    on-pick (InBytes frame_refusal) (is_whole n b) _ _
    (λ e. settled-fits r out (one_by_one r s b out) (one_by_one r s b out).ending refl
    (turns_fit s (at_start r out) (walk n b) (record { number_is = accepted; told_is = refl })))
    (λ e. refuses 7 refl)) (λ e. refuses 14 refl)) (λ e. refuses 3 refl)) (λ e. refuses 2 refl))
    (λ e. refuses 12 refl)

pub fitting : {e : L.LentResult} (c : NodeCall e) → InBytes (last_of c) e
fitting (by-fresh-node n f own r) = made-fits n f own r
fitting (by-begin-node r o out) = at-fits r out (λ c. N.begin c o out) (begin-fits (record_of r) o out)
fitting (by-message r s b out) = message-in-bytes r s b out
fitting (by-frame r s b out) = frame-fits r s b out
