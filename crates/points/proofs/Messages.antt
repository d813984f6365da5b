-- The points on n, f and messages: by computation where they are small, by a general law where not.
use Prim.Native.Nat.{ℕ, ◌+◌, ◌*◌, ◌^◌, ◌<◌}
use native.Mathlib.Omega.{arith}
use mathlib.Core.Path.{◌≡◌, refl, sym, ap, ◌∙◌}
use mathlib.Core.Bool.{true, false}
use mathlib.Core.List.{List}
use lib.ListN.{length, get_or}
use borrow.Author.Tests.{le-leb, eq-eqb, ne_eqb}
use Rattle.octets.specs.Answer.{Answer, returned, refused}
use Rattle.octets.specs.Bytes.{part}
use Rattle.octets.specs.Loop.{up_to, all_to}
use Rattle.octets.proofs.Put.{put-over}
use Rattle.octets.proofs.Test.{both_right, both_true, true-false, not-true-false}
use Rattle.view.specs.Size.{is_size, nodes}
use Rattle.view.specs.Report.{report_of}
use Rattle.view.specs.View.{view_ok}
use Rattle.wire.specs.Layout.{encode, allowed, message_size}
use Rattle.wire.specs.Codec.{said, begins, front, view_part, decode, answer, after}
use Rattle.wire.specs.declared.Message.{Message}
use Rattle.wire.specs.declared.Message.TheVariants.{Read, ReadAnswer, Write, WriteAnswer, Echo, Value, Good}
use Rattle.wire.proofs.Entries.{answered}
use Rattle.wire.proofs.Numbers.{length-encode}
use Rattle.wire.proofs.RoundTrip.{read_back, read_only, refuses-seven, refuses-one}
use Rattle.figures.specs.Figures.{totals, figures_of}
use Rattle.table.specs.Quorum.{tolerates, can_be}
use Rattle.table.proofs.Sets.{faults-largest, tolerates-half, half-tolerates}
use Rattle.calls.specs.CallResult.{CallResult}
use Rattle.calls.specs.Entry as N
use Rattle.layout.specs.Layout.{size_for}
use Rattle.events.specs.Event.{Result}
use Rattle.events.proofs.Told.{fresh-none, fresh-is}
use Rattle.history.specs.Order.{OneTo}
use Rattle.points.specs.Calls.{code}
use Rattle.points.specs.Messages.{Refused, Taken, Sizes, read_one, ReadOne, GoodBytes}
use Rattle.points.specs.Faults.{Made, NotMade, Faults}

-- A call to write, by its answer.
writes : (n : ℕ) (m : Message) (v out : List ℕ) {a : Answer ℕ} → answer n m v (length out) ≡ a
    → code.write n m v out ≡ (a, after a (encode m v) out)
writes n m v out e = ap (λ x. (x, after x (encode m v) out)) e

not_taken : (n : ℕ) → is_size n ≡ false → Refused code n
unfolding answer figures_of N.fresh
not_taken n s = record {
  read = λ b. refuses-one n b s;
  write = λ m v out. writes n m v out (rw s refl);
  fresh-node = λ f own. rw s refl;
  fresh-cluster = λ f b. fresh-none n f b (rw s refl);
  figures = λ v e. rw (eq-eqb (length v) (16 * n) e, s) refl;
}

pub is-taken : (n : ℕ) → OneTo nodes n → Taken code n
unfolding figures_of N.fresh size_for
is-taken n (low, small) = record {
  read = λ m v h. read_back n m v s h;
  write = λ m v out h l. writes n m v out (answered n m v (length out) s h l);
  fresh-node = λ f own half (lo, hi). rw (s, half-tolerates n f small half, le-leb 1 own lo, le-leb own n hi) refl;
  fresh-cluster = λ f b half e. fresh-is n f b (both_true s (half-tolerates n f small half)) (e ∙ rw s refl);
  figures = λ v e ok. rw (eq-eqb (length v) (16 * n) e, s, ok) refl;
}
  where
    s : is_size n ≡ true
    s = both_true (le-leb 1 n low) (le-leb n 16 small)

pub sizes-hold : Sizes code
unfolding figures_of view_ok up_to all_to totals report_of part
sizes-hold = record {
  none = not_taken 0 refl;
  seventeen = not_taken 17 refl;
  taken = is-taken;
  absent-1 = refl;
  absent-16 = refl;
  length-first = λ n v h. rw (ne_eqb (length v) (16 * n) h) refl;
}

-- No f is taken with 2f not below n.
module _ (n f : ℕ) (h : f + f < n → ⊥) where
  not-half : tolerates n f ≡ false
  not-half = not-true-false (tolerates n f) (λ e. h (tolerates-half n f e))

  none_made : can_be n f ≡ false
  none_made = not-true-false (can_be n f) (λ e. true-false (tolerates n f)
      (both_right (is_size n) (tolerates n f) e) not-half)

  pub not_made : NotMade code n f
  unfolding N.fresh
  not_made = record { node = λ own. rw none_made refl; cluster = λ b. fresh-none n f b none_made }

pub is_made : (n f : ℕ) → OneTo nodes n → f + f < n → Made code n f
is_made n f size half = record {
  node = λ own o. ap (λ (r : CallResult). r.answer) ((is-taken n size).fresh-node f own half o);
  cluster = λ b e. ap (λ (r : Result). r.answer) ((is-taken n size).fresh-cluster f b half e);
}

pub faults-hold : Faults code
faults-hold = record {
  values = refl;
  largest = faults-largest;
  refused = not_made;
  seven-of-15 = is_made 15 7 (omega arith, omega arith) (omega arith);
  seven-of-16 = is_made 16 7 (omega arith, omega arith) (omega arith);
  seven-of-14 = not_made 14 7 (λ h. omega arith);
  none-of-any = λ n size. is_made n 0 size (omega (arith, size.0));
  wide = λ n small. not_made n (2 ^ 63) (λ h. omega arith);
}

pub read-one-holds : (n : ℕ) → is_size n ≡ true → ReadOne code n
unfolding decode front said begins encode allowed part answer
read-one-holds n s = record {
  written = λ v out e. writes n (Read 1) v out (rw (s, e) refl)
      ∙ ap (λ o. (returned 15, o)) (put-over out read_one (sym e));
  read = rw s refl;
  less = rw s refl;
}

-- Only good messages are of kind 7.
only-good : (n : ℕ) (m : Message) (v : List ℕ) → allowed n m v ≡ true → get_or (encode m v) 3 0 ≡ 7
    → length (encode m v) ≡ 18 + 16 * n
unfolding encode message_size
only-good n (Read r) v h e = absurd (omega arith)
only-good n (ReadAnswer r t) v h e = absurd (omega arith)
only-good n (Write r t) v h e = absurd (omega arith)
only-good n (WriteAnswer r t) v h e = absurd (omega arith)
only-good n (Echo t) v h e = absurd (omega arith)
only-good n (Value t w p) v h e = absurd (omega arith)
only-good n (Good t) v h e = length-encode n (Good t) v h

pub good-bytes : (n : ℕ) → is_size n ≡ true → GoodBytes code n (18 + 16 * n)
unfolding allowed answer message_size
good-bytes n s = record {
  long = λ t v out h l. answered n (Good t) v (length out) s h (rw (length-encode n (Good t) v h) l)
      ∙ ap returned (length-encode n (Good t) v h);
  other-bytes = λ b kind h. other b kind h (decode n b) refl;
  other-view = λ t v out h. writes n (Good t) v out (rw (s, ne_eqb (length v) (16 * n) (λ e. h (omega arith))) refl);
}
  where
    other : (b : List ℕ) → get_or b 3 0 ≡ 7 → (length b ≡ 18 + 16 * n → ⊥) → (a : Answer Message) → decode n b ≡ a
        → a ≡ refused 7
    other b kind h (refused c) e = ap refused (refuses-seven n b c s e)
    other b kind h (returned m) e =
        let W = read_only n b m e in
        absurd (h (ap length W.bytes ∙ only-good n m (view_part n b) W.allowed-is
        (ap (λ x. get_or x 3 0) (sym W.bytes) ∙ kind)))
