-- The codes at the border to C are told apart: by cases of what is told, and by the refusals of each event in turn.
use Prim.Native.Nat.{ℕ, ◌+◌, ◌*◌, ◌≤◌, ◌<◌}
use native.Mathlib.Omega.{arith}
use mathlib.Core.Path.{◌≡◌, refl, sym, ap, ◌∙◌, subst}
use mathlib.Core.Bool.{Bool, true, false, not}
use mathlib.Core.List.{List}
use lib.ListN.{length}
use lib.Dec.{leb, ltb, eqb}
use borrow.Author.Tests.{ne_eqb, lt-ltb, le-ltb}
use Rattle.octets.specs.Answer.{Answer, returned, refused}
use Rattle.octets.specs.Test.{both, pick}
use Rattle.view.specs.Size.{is_size, limit, entry_size}
use Rattle.view.specs.View.{view_of, view_ok}
use Rattle.view.specs.declared.View.{View}
use Rattle.wire.specs.Layout.{encode, allowed}
use Rattle.wire.specs.Codec.{said, view_at, begins, front, whole, decode, answer}
use Rattle.wire.specs.declared.Message.{Message}
use Rattle.figures.specs.Figures.{figures_of}
use Rattle.page.specs.Page.{map_result, contents, contents_of, page_text, page_of, in_room, page_in}
use Rattle.table.specs.Quorum.{can_be}
use Rattle.record.specs.Usable.{is_open, full}
use Rattle.record.specs.declared.Operation.{Operation}
use Rattle.step.specs.declared.Rule.{Rule}
use Rattle.step.specs.declared.Rule.TheVariants.{Direct, Borrowed}
use Rattle.step.specs.declared.Ending.{Ending}
use Rattle.step.specs.declared.Ending.TheVariants.{None, Done, Scan, Spent}
use Rattle.step.specs.declared.Step.{Step}
use Rattle.step.specs.Move.{message_step, begin_step}
use Rattle.step.specs.Stale.{stale_message}
use Rattle.step.specs.Told.{Told, spent_number, told, told_view}
use Rattle.region.specs.Channel.{count_of, first}
use Rattle.block.specs.Block.{take_off}
use Rattle.layout.specs.Layout.{cluster_size, stated, faults_in, stopped, node, channel, on_block, fits, sound, is_node}
use Rattle.outgoing.specs.declared.Extent.{Extent}
use Rattle.outgoing.specs.Outgoing.{may_stop, may_cut, has_room}
use Rattle.events.specs.Event.{Result, demand, admitted, settle, deliver_message, fresh, begin, deliver}
use Rattle.events.specs.Stop.{stop}
use Rattle.events.proofs.Admitted.{admitted-is}
use Rattle.codes.specs.Code.{last_refusal, page_refusal, done_from, scan_from, rule_code, event_code, rule_in}
use Rattle.codes.specs.Apart.{meant, rule_meant, EventCall, by-fresh, by-begin, by-deliver, by-stop}
use Rattle.codes.specs.Apart.{Numbered}
use Rattle.codes.specs.Apart.{Apart}
use Rattle.codes.proofs.Range.{InRange, in-range, accepted}
use Rattle.codes.proofs.Fitting.{Fitting, fitting}

-- ---- the codes

rule-most : (r : Rule) → rule_code r ≤ 3
rule-most (Direct i) = omega arith
rule-most Borrowed = omega arith

-- what a code of done, and of a scan, means
meant-done : (i : ℕ) → i ≤ 3 → (v : View) → meant (done_from + i) v ≡ told (returned (Done Borrowed)) v
meant-done i h v = rw (
  ne_eqb (done_from + i) 0 (λ e. omega (arith, e)),
  ne_eqb (done_from + i) spent_number (λ e. omega (arith, e)),
  le-ltb (done_from + i) done_from (omega arith),
  lt-ltb (done_from + i) scan_from (omega (arith, h)),
) refl

meant-scan : (i : ℕ) → (v : View) → meant (scan_from + i) v ≡ told (returned (Scan Borrowed)) v
meant-scan i v = rw (
  ne_eqb (scan_from + i) 0 (λ e. omega (arith, e)),
  ne_eqb (scan_from + i) spent_number (λ e. omega (arith, e)),
  le-ltb (scan_from + i) done_from (omega arith),
  le-ltb (scan_from + i) scan_from (omega arith),
) refl

told_back : {last : ℕ} (a : Answer Ending) (v : View) → Numbered last a
    → meant (event_code (told a v) (rule_in a)) v ≡ told a v
told_back (refused k) v h =
    let (low, high, below, other) = h.number k refl in
    rw (ne_eqb k 0 (λ e. omega (arith, e, low)), ne_eqb k spent_number other, lt-ltb k done_from below) refl
told_back (returned None) v h = refl
told_back (returned (Done r)) v h = meant-done (rule_code r) (rule-most r) v
told_back (returned (Scan r)) v h = meant-scan (rule_code r) v
told_back (returned Spent) v h = refl

ruled : {last : ℕ} (a : Answer Ending) (v : View) → Numbered last a
    → rule_meant (event_code (told a v) (rule_in a)) ≡ rule_in a
ruled (refused k) v h =
    let below = (h.number k refl).2 in
    rw (lt-ltb k scan_from (omega (arith, below))) (omega (arith, below))
ruled (returned None) v h = refl
ruled (returned (Done r)) v h = rw (lt-ltb (done_from + rule_code r) scan_from (omega (arith, rule-most r)))
    (omega arith)
ruled (returned (Scan r)) v h = rw (le-ltb (scan_from + rule_code r) scan_from (omega arith)) (omega arith)
ruled (returned Spent) v h = refl

no-ending : (k : ℕ) → 1 ≤ k → k < done_from → (k ≡ spent_number → ⊥) → (x : Ending) (v : View)
    → k ≡ event_code (told (returned x) v) (rule_in (returned x)) → ⊥
no-ending k low high other None v e = omega (arith, e, low)
no-ending k low high other (Done r) v e = omega (arith, e, high)
no-ending k low high other (Scan r) v e = omega (arith, e, high)
no-ending k low high other Spent v e = other e

-- ---- the refusals of the events

-- an event's answer
record Proper (e : Result) : Type 0 where
  numbered : Numbered last_refusal e.answer

demanded : (b : List ℕ) (t : Bool) (k : ℕ) {next_call : Result} → InRange last_refusal k ≡ true → Proper next_call
    → Proper (demand t k b next_call)
demanded b true k within-range h = h
demanded b false k within-range h = record { numbered = in-range k within-range }

-- what comes after 12, 2, 3 and 4
of-admitted : (a c : ℕ) (b : List ℕ) {next_call : Result} → Proper next_call → Proper (admitted a c b next_call)
of-admitted a c b {next_call} h =
    subst Proper (sym (admitted-is a c b next_call))
    (demanded b (fits b) 12 refl
    (demanded b (sound b) 2 refl
    (demanded b (both (is_node (stated b) a) (is_node (stated b) c)) 3 refl (demanded b (not (stopped b c)) 4 refl h))))

of-settled : (n a c : ℕ) (x : Extent) (s : Step) (found b : List ℕ) → Proper (settle n a c x s found b)
unfolding settle
of-settled n a c x s found b =
    demanded b (has_room n a c x s.node s.outbox found) 11 refl (record { numbered = accepted })

of-begin : (c : ℕ) (o : Operation) (x : Extent) (b : List ℕ) → Proper (begin c o x b)
unfolding begin
of-begin c o x b =
    let n = stated b in
    of-admitted c c b
    (demanded b (not (is_open (node b c).wait)) 5 refl
    (demanded b (not (full (node b c))) 6 refl
    (demanded b (may_cut n x b) 10 refl
    (of-settled n c c x (begin_step (faults_in b) (node b c) o) b b))))

handed : (n a c : ℕ) (x : Extent) (b s : List ℕ) (m : Answer (Message × ℕ)) → Proper (deliver_message n a c x b s m)
handed n a c x b s (refused k) = record { numbered = in-range 7 refl }
handed n a c x b s (returned p) =
    demanded b (not (stale_message (node b c) a p.0)) 9 refl
    (demanded b (may_cut n x b) 10 refl
    (of-settled n a c x (message_step (faults_in b) (node b c) a p.0 (view_of n (view_at n s)))
    (on_block c (take_off a) b)
    b))

of-deliver : (a c : ℕ) (x : Extent) (b : List ℕ) → Proper (deliver a c x b)
unfolding deliver
of-deliver a c x b =
    let n = stated b in
    let s = first (channel b a c) in
    of-admitted a c b (demanded b (ltb 0 (count_of (channel b a c))) 8 refl (handed n a c x b s (front n s)))

of-fresh : (n f : ℕ) (b : List ℕ) → Proper (fresh n f b)
unfolding fresh
of-fresh n f b =
    demanded b (can_be n f) 1 refl
    (demanded b (eqb (length b) (cluster_size n)) 12 refl (record { numbered = accepted }))

of-stop : (c : ℕ) (b : List ℕ) → Proper (stop c b)
unfolding stop
of-stop c b =
    of-admitted c c b (demanded b (may_stop (stated b) b) 10 refl (record { numbered = accepted }))

proper : {e : Result} → EventCall e → Proper e
proper (by-fresh n f b) = of-fresh n f b
proper (by-begin c o x b) = of-begin c o x b
proper (by-deliver a c x b) = of-deliver a c x b
proper (by-stop c b) = of-stop c b

-- ---- the calls at one node

-- read back, by what is told
node-back : {last : ℕ} (a : Told) (x : Answer Ending) → Fitting last a x
    → meant (event_code a (rule_in x)) (told_view a) ≡ a
node-back a x h =
    ap (λ (y : Told). meant (event_code y (rule_in x)) (told_view a)) h.told_is
    ∙ told_back x (told_view a) h.number_is ∙ sym h.told_is

node-ruled : {last : ℕ} (a : Told) (x : Answer Ending) → Fitting last a x
    → rule_meant (event_code a (rule_in x)) ≡ rule_in x
node-ruled a x h =
    ap (λ (y : Told). rule_meant (event_code y (rule_in x))) h.told_is ∙ ruled x (told_view a) h.number_is

-- ---- the refusals of the other calls

-- of two answers, either
picked : {A : Type 0} {last : ℕ} (t : Bool) {a b : Answer A} → Numbered last a → Numbered last b
    → Numbered last (pick t a b)
picked true h g = h
picked false h g = g

of-front : (n : ℕ) (b : List ℕ) → Numbered last_refusal (front n b)
unfolding front
of-front n b =
    let m = said b in
    let v = view_at n b in
    picked (is_size n) (picked (both (begins b (encode m v)) (allowed n m v)) accepted (in-range 7 refl))
    (in-range 1 refl)

of-whole : (k : ℕ) (a : Answer (Message × ℕ)) → Numbered last_refusal a
    → Numbered last_refusal (whole k a)
of-whole k (returned p) h = picked (eqb p.1 k) accepted (in-range 7 refl)
of-whole k (refused c) h = record { number = λ j is. let same : c ≡ j = cc in h.number j (ap refused same) }

of-read : (n : ℕ) (b : List ℕ) → Numbered last_refusal (decode n b)
unfolding decode
of-read n b = of-whole (length b) (front n b) (of-front n b)

of-write : (n : ℕ) (m : Message) (v : List ℕ) (room : ℕ) → Numbered last_refusal (answer n m v room)
unfolding answer
of-write n m v room =
    picked (is_size n)
    (picked (allowed n m v) (picked (leb (length (encode m v)) room) accepted (in-range 12 refl)) (in-range 7 refl))
    (in-range 1 refl)

of-figures : (n : ℕ) (v : List ℕ) → Numbered last_refusal (figures_of n v)
unfolding figures_of
of-figures n v =
    picked (eqb (length v) (entry_size * n))
    (picked (is_size n) (picked (view_ok n limit v) accepted (in-range 7 refl)) (in-range 1 refl)) (in-range 12 refl)

-- a page: the refusals of the figures, and one more
of-result : {A B : Type 0} {last : ℕ} (f : A → B) (a : Answer A) → Numbered last a → Numbered last (map_result f a)
of-result f (returned x) h = accepted
of-result f (refused k) h = record { number = λ j is. let same : k ≡ j = cc in h.number j (ap refused same) }

of_room : (room : ℕ) (a : Answer (List ℕ)) → Numbered last_refusal a → Numbered page_refusal (in_room room a)
of_room room (returned p) h = picked (leb (length p) room) accepted (in-range 15 refl)
of_room room (refused k) h =
    record {
      number = λ j is.
          let same : k ≡ j = cc in
          let (low, high, below, other) = h.number j (ap refused same) in
          (low, omega (arith, high), below, other);
    }

of-page : (n : ℕ) (v : List ℕ) (room : ℕ) → Numbered page_refusal (page_in n v room)
unfolding page_in page_of contents_of
of-page n v room =
    of_room room (page_of n v)
    (of-result page_text (contents_of n v) (of-result (contents n v) (figures_of n v) (of-figures n v)))

pub apart : Apart
apart =
    record {
      refusals = λ {e} c. (proper c).numbered;
      own_code = λ e k is. ap (λ (a : Answer Ending). event_code (told a e.view) (rule_in a)) is;
      node-refusals = λ {e} c. (fitting c).number_is;
      reading = of-read;
      walking = of-front;
      writing = of-write;
      counting = of-figures;
      printing = of-page;
      endings = no-ending;
      read_back = λ {e} c. told_back e.answer e.view (proper c).numbered;
      rule-back = λ {e} c. ruled e.answer e.view (proper c).numbered;
      node-read-back = λ {e} c. node-back e.answer e.ending (fitting c);
      node-rule-back = λ {e} c. node-ruled e.answer e.ending (fitting c);
    }
