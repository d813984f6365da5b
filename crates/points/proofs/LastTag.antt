-- The last read answer of an operation, handed to a node in bytes: the whole step, and so all that the call leaves.
use Prim.Native.Nat.{ℕ, ◌+◌, ◌-◌, ◌≤◌, max}
use native.Mathlib.Omega.{arith}
use mathlib.Core.Path.{◌≡◌, refl, ap, ◌∙◌}
use mathlib.Core.Bool.{true, false}
use mathlib.Core.List.{List, [], ◌++◌, append-nil}
use lib.ListN.{length, length-replicate}
use borrow.Author.Tests.{le-leb, le-ltb, leb-true, eq-eqb, ne_eqb}
use Rattle.octets.specs.Bytes.{put}
use Rattle.octets.proofs.Put.{put-nil}
use Rattle.octets.proofs.Test.{both_true, both_right}
use Rattle.view.specs.Report.{no_report}
use Rattle.view.specs.Size.{limit}
use Rattle.view.specs.View.{no_view}
use Rattle.view.specs.declared.Report.{Report}
use Rattle.wire.specs.Layout.{is_request, is_tag, encode, allowed}
use Rattle.wire.specs.Codec.{view_part}
use Rattle.wire.specs.declared.Message.TheVariants.{ReadAnswer, Write, Value}
use Rattle.wire.proofs.RoundTrip.{read_back, read_only}
use Rattle.table.specs.Loop.{all, count}
use Rattle.table.specs.Quorum.{member, with, only, members_in, is_quorum}
use Rattle.table.specs.Table.{heard_within}
use Rattle.table.proofs.Entries.{view_within-absent}
use Rattle.table.proofs.Sets.{members_in-with}
use Rattle.record.specs.Record.{with_wait, closed}
use Rattle.record.specs.Usable.{still_uses}
use Rattle.record.specs.declared.Node.{Node}
use Rattle.record.specs.declared.Operation.{Operation}
use Rattle.record.specs.declared.Operation.TheVariants.{Update, Scan}
use Rattle.record.specs.declared.Kind.TheVariants.{Update as UpdateKind, Scan as ScanKind}
use Rattle.record.specs.declared.Wait.TheVariants.{Idle, Reading}
use Rattle.record.proofs.Parts.{parts, usable-of, reading-of}
use Rattle.step.specs.Move.{opened, writing, after_read, read_pass, write_pass, compare_pass, borrow_pass}
use Rattle.step.specs.Move.{writes, compares, borrows, move_on, message_step}
use Rattle.step.specs.React.{react, read_wait}
use Rattle.step.specs.Step.{started, after_reading, ended}
use Rattle.step.specs.Told as K
use Rattle.octets.specs.Answer.{returned}
use Rattle.step.specs.declared.Ending.TheVariants.{None, Spent}
use Rattle.step.specs.declared.Sent.TheVariants.{Nothing, One, Two}
use Rattle.step.specs.declared.Step.{Step}
use Rattle.step.proofs.Turns.{reading-most}
use Rattle.step.proofs.Waits.{no-quorum}
use Rattle.calls.specs.Bytes.{run}
use Rattle.calls.specs.Entry as N
use Rattle.calls.proofs.Refusals.{message-read, taken-goes}
use Rattle.points.specs.Calls.{code}
use Rattle.points.specs.LastTag.{LastAnswer, used, spent_by, goes_on, scan_goes_on, reader, MeetsAt, LastTag}

module _ (c : Node) (o : Operation) (m s t : ℕ) (b out : List ℕ) (L : LastAnswer c o m s t b out) where
  abbrev f : ℕ
  f = c.f

  abbrev step : Step
  step = message_step f c s (ReadAnswer c.request t) no_view

  -- The call takes the step.
  steps : N.message c s b out ≡ N.let_out step out
  steps = message-read c s b out (le-ltb (length out) 512 L.room) L.is-usable
      (both_true (le-leb 1 s L.sender.0) (le-leb s c.n L.sender.1)) (ReadAnswer c.request t) L.says
      ∙ taken-goes c s (view_part c.n b) out (ReadAnswer c.request t) refl

  quorum : is_quorum c.n f (members_in c.n (with L.answered s)) ≡ true
  quorum = le-leb (c.n - f) (members_in c.n (with L.answered s))
      (omega (arith, L.short, members_in-with c.n L.answered s L.sender.0 L.sender.1 L.new))

  none_yet : is_quorum c.n f (members_in c.n 0) ≡ false
  none_yet = no-quorum c.n f (omega (arith, L.sender.0, L.sender.1))

  -- No tag is above the limit.
  largest-most : m ≤ limit
  largest-most = reading-most c (parts c L.is-usable) L.reads

  own-most : c.maxtag ≤ limit
  own-most = (parts c L.is-usable).max-high

  answer-most : t ≤ limit
  unfolding allowed
  answer-most = leb-true t limit (both_right (is_request c.request) (is_tag t)
      (read_only c.n b (ReadAnswer c.request t) L.says).allowed-is)

  -- The answer is counted, and the quorum is there: the operation goes on with the tag used.
  abbrev counted : Step
  counted = started (with_wait c (Reading o (with L.answered s) (max m t))) s Nothing

  counts : with_wait c (read_wait c.request s c.request t c.wait) ≡ counted.node
  counts = ap (with_wait c)
      (ap (read_wait c.request s c.request t) L.reads ∙ rw (eq-eqb c.request c.request refl, L.new))

  passes : read_pass f counted counted.node counted.node.wait ≡ after_read counted counted.node o (used c m t)
  unfolding read_pass
  passes = rw quorum

  step-reads : step ≡ borrows (compares f (writes f (after_read counted counted.node o (used c m t))))
  unfolding message_step react move_on
  step-reads = ap (λ (x : Node). move_on f (started x s Nothing)) counts
      ∙ ap (λ (x : Step). borrows (compares f (writes f x))) passes

module _ (c : Node) (p : Report) (m s t : ℕ) (b out : List ℕ) (L : LastAnswer c (Update p) m s t b out) where
  abbrev counting : Step
  counting = counted c (Update p) m s t b out L

  ends : used c m t ≡ limit → N.message c s b out ≡ spent_by c out
  unfolding N.let_out run after_read write_pass compare_pass borrow_pass
  ends h = steps c (Update p) m s t b out L ∙ ap (λ (x : Step). N.let_out x out) whole
      ∙ ap (λ l. record { answer = K.spent 13; ending = returned Spent; node = closed c Idle; length = 0; out = l })
      (put-nil out 0)
    where
      whole : step c (Update p) m s t b out L ≡ ended counting (closed c Idle) Spent no_view
      whole = rw (step-reads c (Update p) m s t b out L, eq-eqb (used c m t) limit h) refl

  one_more : used c m t ≡ limit - 1 → N.message c s b out ≡ goes_on c p out
  unfolding N.let_out run encode after_read opened write_pass compare_pass borrow_pass
  one_more h = steps c (Update p) m s t b out L ∙ ap (λ (x : Step). N.let_out x out) (whole ∙ ap opens h)
      ∙ ap (λ l. record {
        answer = K.nothing;
        ending = returned None;
        node = opened c UpdateKind 0 (limit - 1);
        length = 56;
        out = put out 0 (encode (Value limit c.own p) [] ++ l);
      }) (append-nil (encode (Write (c.request + 1) (limit - 1)) []))
    where
      opens : ℕ → Step
      opens u = after_reading counting (opened c UpdateKind 0 u) (Two (Value (u + 1) c.own p) (writing c u))

      whole : step c (Update p) m s t b out L ≡ opens (used c m t)
      whole = rw (
        step-reads c (Update p) m s t b out L,
        ne_eqb (used c m t) limit (λ x. omega arith),
        none_yet c (Update p) m s t b out L,
      ) refl

scans : (c : Node) (m s t : ℕ) (b out : List ℕ) (L : LastAnswer c Scan m s t b out) → used c m t ≡ limit
    → N.message c s b out ≡ scan_goes_on c out
unfolding N.let_out run encode after_read opened write_pass compare_pass borrow_pass
scans c m s t b out L h = steps c Scan m s t b out L ∙ ap (λ (x : Step). N.let_out x out) (whole ∙ ap opens h)
    ∙ ap (λ l. record {
      answer = K.nothing;
      ending = returned None;
      node = opened c ScanKind 1 limit;
      length = 26;
      out = put out 0 l;
    })
    (append-nil (encode (Write (c.request + 1) limit) []))
  where
    opens : ℕ → Step
    opens u = after_reading (counted c Scan m s t b out L) (opened c ScanKind 1 u) (One (writing c u))

    whole : step c Scan m s t b out L ≡ opens (used c m t)
    whole = rw (step-reads c Scan m s t b out L, none_yet c Scan m s t b out L) refl

-- Request numbers are left for an operation that reads with the first.
few-used : (o : Operation) (m : ℕ) → still_uses (Reading o (with 0 1) m) ≤ limit - 1
few-used (Update p) m = omega arith
few-used Scan m = omega arith

meets : (m top t : ℕ) → m ≤ limit → top ≤ limit → t ≤ limit → (o : Operation) → MeetsAt m top t o
unfolding allowed heard_within all count member with only members_in
meets m top t low h k o = record {
  room = omega (arith, length-replicate {A = ℕ} 512 0);
  is-usable = usable-of (reader m top o) (record {
    n-low = omega arith;
    n-high = omega arith;
    half = omega arith;
    own-low = omega arith;
    own-high = omega arith;
    max-high = h;
    request-high = omega arith;
    kept_high = omega arith;
    wait-ok = reading-of 3 o (with 0 1) m refl low;
    enough = few-used o m;
    heard-ok = refl;
    last_ok = view_within-absent limit;
    max-ok = view_within-absent top;
    round-ok = view_within-absent limit;
    kept-ok = view_within-absent 0;
  });
  answered = with 0 1;
  reads = refl;
  short = refl;
  sender = (omega arith, omega arith);
  new = refl;
  says = read_back 3 (ReadAnswer 1 t) [] refl (both_true refl (le-leb t limit k));
}

-- The largest tag is used if it is in the answer, or is the own maxtag.
module _ (c : Node) (p : Report) (m s t : ℕ) (b out : List ℕ) (L : LastAnswer c (Update p) m s t b out) where
  pub used-by-answer : t ≡ limit → used c m t ≡ limit
  used-by-answer h = omega (
    arith,
    h,
    largest-most c (Update p) m s t b out L,
    own-most c (Update p) m s t b out L,
  )

  pub used-by-own : c.maxtag ≡ limit → used c m t ≡ limit
  used-by-own h = omega (
    arith,
    h,
    largest-most c (Update p) m s t b out L,
    answer-most c (Update p) m s t b out L,
  )

pub last-tag-holds : LastTag code
last-tag-holds = record {
  spent = ends;
  by_answer = λ c p m s t b out L h. ends c p m s t b out L (used-by-answer c p m s t b out L h);
  by-own = λ c p m s t b out L h. ends c p m s t b out L (used-by-own c p m s t b out L h);
  one_less = one_more;
  scan-goes-on = scans;
  a-before = meets limit 0 0 (omega arith) (omega arith) (omega arith) (Update no_report);
  an-answer = meets 0 0 limit (omega arith) (omega arith) (omega arith) (Update no_report);
  an-own = meets 0 limit 0 (omega arith) (omega arith) (omega arith) (Update no_report);
  a-less = meets 0 0 (limit - 1) (omega arith) (omega arith) (omega arith) (Update no_report);
  a-scan = meets 0 0 limit (omega arith) (omega arith) (omega arith) Scan;
}
