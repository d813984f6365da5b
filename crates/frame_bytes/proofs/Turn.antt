-- The message call on the next message of a frame: what it leaves, after those before it. Assumes nothing.
use Prim.Native.Nat.{ℕ, ◌+◌, ◌-◌, ◌≤◌}
use mathlib.Core.Path.{◌≡◌, refl, sym, ap, ap₂, ◌∙◌, subst}
use mathlib.Core.Bool.{Bool, true, false}
use mathlib.Core.List.{List, ◌++◌}
use native.Mathlib.Nat.{zero-add}
use native.Mathlib.Omega.{arith}
use lib.ListN.{length, take, drop, length-append, length-take, length-drop}
use lib.Seq.{take_all, drop_at, drop-drop}
use borrow.Author.Tests.{le-ltb, le-leb}
use Rattle.octets.specs.Answer.{returned, refused}
use Rattle.octets.specs.Bytes.{part, put}
use Rattle.octets.specs.Test.{pick}
use Rattle.octets.proofs.Lent.{take-append}
use Rattle.octets.proofs.Put.{length-put, part_same}
use Rattle.octets.proofs.Test.{both_true, not-true-false, true-false}
use Rattle.view.specs.Size.{nodes}
use Rattle.view.specs.View.{view_bytes, AbsentPast}
use Rattle.wire.specs.Codec.{decode, view_part}
use Rattle.wire.proofs.RoundTrip.{read_only}
use Rattle.record.specs.Usable.{is_open}
use Rattle.record.specs.declared.Node.{Node}
use Rattle.record.proofs.Parts.{parts}
use Rattle.step.specs.declared.Ending.{Ending}
use Rattle.step.specs.declared.Ending.TheVariants.{None}
use Rattle.step.specs.declared.Step.{Step}
use Rattle.step.specs.Claims.{sizes}
use Rattle.step.specs.Move.{message_step}
use Rattle.step.specs.Stale.{stale_message}
use Rattle.step.specs.Step.{messages}
use Rattle.step.specs.Told.{Told, told, told_view}
use Rattle.step.proofs.Ends.{ends-closed, closed-stays}
use Rattle.step.proofs.Theorems.{message-absent}
use Rattle.calls.specs.CallResult.{CallResult}
use Rattle.calls.specs.Bytes.{out_bytes}
use Rattle.calls.specs.Entry as N
use Rattle.calls.proofs.Refusals.{message-read, taken-9, taken-goes}
use Rattle.calls.proofs.Rooms.{Fit}
use Rattle.calls.proofs.Shown.{by-ending}
use Rattle.emit.specs.Room.{Room}
use Rattle.emit.proofs.Runs.{room_of, run_length}
use Rattle.reply.proofs.Tells.{told-told_view}
use Rattle.region.specs.Record.{record_of}
use Rattle.calls_bytes.specs.Entry.{LentResult, in_bytes}
use Rattle.calls_bytes.specs.Frame.{is_whole, is_ending, and_then, next_call}
use Rattle.calls_bytes.specs.Walk.{Piece, walk, pieces_of}
use Rattle.calls_bytes.proofs.Walk.{walked, whole-both, whole-written}
use Rattle.node_bytes.specs.Left.{Holds}
use Rattle.node_bytes.proofs.Admitted.{at-admitted, in-refused}
use Rattle.node_bytes.proofs.Left.{left}
use Rattle.node_bytes.proofs.Stepped.{step, step-n, step-fit}
use Rattle.frame_bytes.specs.Frames.{step_on}
use Rattle.frame_bytes.proofs.Stand.{ending-then, answer-then, Stand}

module _ (n s : ℕ) (low : 1 ≤ s) (high : s ≤ n) (p : LentResult) (x : Ending) (h : Stand n p x) (m : Piece)
    (d : decode n m.bytes ≡ returned m.message)
    (room : N.least_output ≤ length (drop p.length p.out)) where
  abbrev c : Node
  c = record_of p.bytes

  abbrev v : List ℕ
  v = view_part n m.bytes

  abbrev rest : List ℕ
  rest = drop p.length p.out

  abbrev pub turn : Step
  turn = step p.bytes n s m.message v h.n-is

  abbrev by_value : N.message c s m.bytes rest ≡ N.taken c s v rest (returned m.message)
  by_value =
      message-read c s m.bytes rest (le-ltb _ _ room) h.can-step
      (both_true (le-leb 1 s low) (le-leb s c.n (subst (λ (j : ℕ). s ≤ j) (sym h.n-is) high))) m.message
      (ap (λ (j : ℕ). decode j m.bytes) h.n-is ∙ d)
      ∙ ap (λ (j : ℕ). N.taken c s (view_part j m.bytes) rest (returned m.message)) h.n-is

  pub read_is : next_call s p m ≡ in_bytes p.bytes (N.taken c s v rest (returned m.message))
  read_is =
      at-admitted p.bytes rest (λ e. N.message e s m.bytes rest)
      (record { long = h.long; room = room; known = h.known; can-step = h.can-step })
      ∙ ap (in_bytes p.bytes) by_value

  pub late-9 : stale_message c s m.message ≡ true → (next_call s p m).ending ≡ refused 9
  late-9 g =
      ap (λ (e : LentResult). e.ending) (read_is ∙ ap (in_bytes p.bytes) (taken-9 c s v rest m.message g)
      ∙ in-refused 9 p.bytes rest)

  module _ (g : stale_message c s m.message ≡ false) where
    goes : N.taken c s v rest (returned m.message) ≡ N.let_out turn rest
    goes =
        taken-goes c s v rest m.message g

    is-step : next_call s p m ≡ in_bytes p.bytes (N.let_out turn rest)
    is-step = read_is ∙ ap (in_bytes p.bytes) goes

    fit : Fit turn (length rest)
    fit =
        step-fit p.bytes n s m.message v h.n-is (length rest) h.can-step low high
        (read_only n m.bytes m.message d).allowed-is room

    pub turn-n : turn.node.n ≡ n
    turn-n = step-n p.bytes n s m.message v h.n-is

    pub next-ends : (next_call s p m).ending ≡ returned turn.ending
    unfolding in_bytes N.let_out
    next-ends = ap (λ (e : LentResult). e.ending) is-step

    next-tells : (next_call s p m).answer ≡ told (returned turn.ending) turn.view
    unfolding in_bytes N.let_out
    next-tells = ap (λ (e : LentResult). e.answer) is-step

    holds : Holds (next_call s p m).bytes turn.node
    unfolding N.let_out
    holds =
        subst (Holds (next_call s p m).bytes) (ap (λ (e : CallResult). e.node) (by_value ∙ goes))
        (left.message-left p.bytes s m.bytes rest turn.ending next-ends)

    pub next-node : record_of (next_call s p m).bytes ≡ turn.node
    next-node = holds.same

    -- what it sends has the bytes of its messages
    sent-long : length (out_bytes turn.node.n turn.outbox) ≡ sizes n (messages turn.outbox)
    sent-long =
        let w = view_bytes turn.node.n turn.outbox.view in
        run_length turn.node.n w (messages turn.outbox)
        (room_of turn.node.n turn.outbox.view w (messages turn.outbox) (length rest) refl fit.0 fit.1
        fit.2 fit.3).fit
        ∙ ap (λ (j : ℕ). sizes j (messages turn.outbox)) turn-n

    pub next-long : (next_call s p m).length ≡ sizes n (messages turn.outbox)
    unfolding in_bytes N.let_out
    next-long = ap (λ (e : LentResult). e.length) is-step ∙ sent-long

    next-most : (next_call s p m).length ≤ length rest
    next-most =
        let f = subst (λ (j : ℕ). sizes j (messages turn.outbox) ≤ length rest) turn-n fit.3 in
        omega (arith, next-long, f)

    next-room : length (next_call s p m).out ≡ length rest
    unfolding in_bytes N.let_out
    next-room =
        ap (λ (e : LentResult). length e.out) is-step
        ∙ length-put rest 0 (out_bytes turn.node.n turn.outbox) (omega (arith, sent-long, next-long, next-most))

    -- it is the step of the node's record
    pub turn_is : turn ≡ step_on s c m
    turn_is =
        ap (λ (j : ℕ). message_step c.f c s m.message
        (N.beside c.n (view_part j m.bytes) m.message)) (sym h.n-is)

    abbrev w : List ℕ
    w = view_bytes turn.node.n turn.outbox.view

    roomy : Room turn.node.n w (messages turn.outbox) 0 (length rest)
    roomy =
        room_of turn.node.n turn.outbox.view w (messages turn.outbox) (length rest) refl fit.0 fit.1
        fit.2 fit.3

    pub next-bytes : take (next_call s p m).length (next_call s p m).out ≡ out_bytes n turn.outbox
    unfolding in_bytes N.let_out part
    next-bytes =
        ap (λ (e : LentResult). take e.length e.out) is-step
        ∙ part_same rest 0 (out_bytes turn.node.n turn.outbox) (length (out_bytes turn.node.n turn.outbox))
        (omega arith) refl
        ∙ ap (λ (j : ℕ). out_bytes j turn.outbox) turn-n

    next-rest : drop (next_call s p m).length (next_call s p m).out ≡ drop (next_call s p m).length rest
    unfolding in_bytes N.let_out put
    next-rest =
        let b = out_bytes turn.node.n turn.outbox in
        ap (λ (e : LentResult). drop e.length e.out) is-step
        ∙ drop_at b (drop (0 + length b) rest) (length b) refl
        ∙ ap (λ (j : ℕ). drop j rest) (zero-add (length b) ∙ sym (ap (λ (e : LentResult). e.length) is-step))

    pub next-walk : walk n (take (next_call s p m).length (next_call s p m).out) ≡ pieces_of n turn.outbox
    unfolding in_bytes N.let_out
    next-walk =
        subst (λ (j : ℕ). walk j (take (next_call s p m).length (next_call s p m).out) ≡ pieces_of j turn.outbox)
        turn-n
        (ap (λ (e : LentResult). walk turn.node.n (take e.length e.out)) is-step
        ∙ walked turn.node.n w (messages turn.outbox) rest roomy)

    -- what it sends is messages, and they stand after what has been sent
    next-sent : is_whole n (take (next_call s p m).length (next_call s p m).out) ≡ true
    unfolding in_bytes N.let_out
    next-sent =
        subst (λ (j : ℕ). is_whole j (take (next_call s p m).length (next_call s p m).out) ≡ true) turn-n
        (ap (λ (e : LentResult). is_whole turn.node.n (take e.length e.out)) is-step
        ∙ whole-written turn.node.n w (messages turn.outbox) rest roomy)

    -- and the bytes past it stay
    pub rest_then : drop (and_then p (next_call s p m)).length (and_then p (next_call s p m)).out
        ≡ drop (and_then p (next_call s p m)).length p.out
    rest_then =
        let x = take p.length p.out in
        let y = (next_call s p m).out in
        let i = length-take p.length p.out in
        let l = h.inside in
        let q : p.length ≡ length x = omega (arith, i, l) in
        let k = (next_call s p m).length in
        sym (drop-drop k p.length (x ++ y)) ∙ ap (drop k) (drop_at x y p.length (sym q)) ∙ next-rest
        ∙ drop-drop k p.length p.out

    pub sent-then : take (and_then p (next_call s p m)).length (and_then p (next_call s p m)).out
        ≡ take p.length p.out ++ take (next_call s p m).length (next_call s p m).out
    sent-then =
        let x = take p.length p.out in
        let y = (next_call s p m).out in
        let i = length-take p.length p.out in
        let l = h.inside in
        let q : length x ≡ p.length = omega (arith, i, l) in
        let k = (next_call s p m).length in
        take-append (p.length + k) x y
        ∙ ap₂ (λ (a b : List ℕ). a ++ b)
        (take_all (p.length + k) x (omega (arith, q)))
        (ap (λ (j : ℕ). take j y) (let z : p.length + k - length x ≡ k = omega (arith, q) in z))

    pub then-room : length (and_then p (next_call s p m)).out ≡ length p.out
    then-room =
        let i = length-append (take p.length p.out) (next_call s p m).out in
        let j = length-take p.length p.out in
        let k = length-drop p.length p.out in
        let l = h.inside in
        omega (arith, i, j, k, l, next-room)

    -- after an ending there is none
    pub quiet : is_ending x ≡ true → turn.ending ≡ None
    quiet e = (closed-stays c.f c s m.message (N.beside c.n v m.message) (h.closed e)).0

    pub then-stand : Stand n (and_then p (next_call s p m)) (pick (is_ending x) x turn.ending)
    then-stand =
        let a = next_call s p m in
        let o = holds in
        let node-is = holds.same in
        record {
          ends = ending-then p a h.ends next-ends;
          tells = rw (answer-then p a h.ends next-ends) (told-by (is_ending x));
          long = o.long;
          known = o.known;
          can-step = o.can-step;
          n-is = ap (λ (e : Node). e.n) node-is ∙ turn-n;
          closed = λ t. ap (λ (e : Node). is_open e.wait) node-is ∙ closed-by (is_ending x) refl t;
          inside =
              let i = length-append (take p.length p.out) a.out in
              let j = length-take p.length p.out in
              let l = h.inside in
              omega (arith, i, j, l, next-room, next-most);
          sent =
              ap (is_whole n) sent-then
              ∙ whole-both n (take p.length p.out) _ h.sent
              next-sent;
          shown = rw (answer-then p a h.ends next-ends) (shown_by (is_ending x));
        }
      where
        told-by : (t : Bool)
            → told (returned (pick t x turn.ending)) (told_view (pick t p.answer (next_call s p m).answer))
            ≡ pick t p.answer (next_call s p m).answer
        told-by true = h.tells
        told-by false =
            ap (λ (y : Told). told (returned turn.ending) (told_view y)) next-tells
            ∙ told-told_view turn.ending turn.view ∙ sym next-tells

        shown_by : (t : Bool) → AbsentPast n (told_view (pick t p.answer (next_call s p m).answer))
        shown_by true = h.shown
        shown_by false =
            let small = subst (λ (j : ℕ). j ≤ nodes) h.n-is (parts c h.can-step).n-high in
            rw next-tells (by-ending n small turn.ending turn.view
            (subst (λ (j : ℕ). AbsentPast j turn.view) h.n-is
            (message-absent c.f c s m.message (N.beside c.n v m.message)
            (parts c h.can-step).n-high)))

        closed-by : (t : Bool) → is_ending x ≡ t → is_ending (pick t x turn.ending) ≡ true
            → is_open turn.node.wait ≡ false
        closed-by true e q =
            (closed-stays c.f c s m.message (N.beside c.n v m.message) (h.closed e)).1
        closed-by false e q =
            not-true-false (is_open turn.node.wait) (λ o.
            true-false (is_ending turn.ending) q
            (ap is_ending (ends-closed c.f c s m.message (N.beside c.n v m.message) o)))
