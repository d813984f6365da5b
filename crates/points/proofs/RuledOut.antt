-- For the clauses of the points wrong calls that they rule out: no calls with that one in them have the points. A wrong
-- call is the code's but where a test says so, and no other clause rules it out; this is not proved. Two kinds of
-- clause rule out no call alone: one that follows from others (`Follows`), which has a wrong call where it has the
-- words of a document; and one that says of the code that there is such a case. Here for n, f and messages: `absent-1`
-- and `absent-16`, `values`, the cases of f, 1 of fresh for n = 0, `written`, `read` and `long` follow.
use Prim.Native.Nat.{ℕ, ◌+◌, ◌-◌, ◌*◌, ◌≤◌, ◌<◌, min, max}
use native.Mathlib.Omega.{arith}
use mathlib.Core.Path.{◌≡◌, refl, sym, ap, ◌∙◌}
use mathlib.Core.Bool.{Bool, not}
use mathlib.Core.List.{List, [], ◌∷◌}
use lib.Dec.{eqb}
use lib.ListN.{length, get_or, replicate, length-replicate}
use Rattle.octets.specs.Answer.{Answer, returned, refused}
use Rattle.octets.specs.Bytes.{part}
use Rattle.octets.specs.Loop.{up_to, all_to}
use Rattle.octets.specs.Test.{pick, both}
use Rattle.view.specs.Report.{report_of}
use Rattle.view.specs.Size.{is_size, nodes}
use Rattle.view.specs.View.{no_view, view_ok}
use Rattle.wire.specs.Codec.{decode, answer, is_good}
use Rattle.wire.specs.Layout.{encode, allowed}
use Rattle.wire.specs.declared.Message.{Message}
use Rattle.wire.specs.declared.Message.TheVariants.{Read, Echo, Good}
use Rattle.figures.specs.Figures.{totals, figures_of}
use Rattle.figures.specs.declared.Totals.{Totals}
use Rattle.table.specs.Quorum.{most_faults, can_be}
use Rattle.step.specs.Told as K
use Rattle.step.specs.declared.Ending.{Ending}
use Rattle.calls.specs.Entry as N
use Rattle.calls.specs.CallResult.{CallResult}
use Rattle.layout.specs.Layout.{cluster_size}
use Rattle.events.specs.Event as E
use Rattle.history.specs.Order.{OneTo}
use Rattle.points.specs.Calls.{Calls, code}
use Rattle.points.specs.Messages.{Refused, Taken, zeros}
use Rattle.points.specs.Points.{PointsOf}
use Rattle.points.proofs.Proved.{points}
use Rattle.points.proofs.Wrong.{reads, writes, counts, fails, lends, makes, starts}

abbrev pub RuledOut : Calls → Type 0
RuledOut calls = PointsOf calls → ⊥

-- No answer is a result and a refusal, and no two refusals are the same.
pub apart : {A : Type 0} {x : Answer A} {v : A} {k : ℕ} → x ≡ returned v → x ≡ refused k → ⊥
apart p q = let z : ◌≡◌ {A = ℕ} 0 1 = cc in omega arith

pub answers : {r : E.Result} {e : Ending} {k : ℕ} {b : List ℕ} → r.answer ≡ returned e → r ≡ E.refuse k b → ⊥
answers p q = apart p (ap (λ (r : E.Result). r.answer) q)

pub number : {A : Type 0} {j k : ℕ} → ◌≡◌ {A = Answer A} (refused j) (refused k) → j ≡ k
number e = cc

pub value : {A : Type 0} {x y : A} → returned x ≡ returned y → x ≡ y
value e = cc

request : {j k : ℕ} → Read j ≡ Read k → j ≡ k
request e = cc

not-refused : {k : ℕ} → K.nothing ≡ K.refusal k → ⊥
not-refused e = let z : ◌≡◌ {A = ℕ} 0 1 = cc in omega arith

fifteen : List ℕ
fifteen = replicate 15 0

-- Bytes to lend for a cluster of n nodes.
pub space : ℕ → List ℕ
space n = replicate (cluster_size n) 0

pub long-space : (n : ℕ) → length (space n) ≡ cluster_size n
unfolding space
long-space n = length-replicate {A = ℕ} (cluster_size n) 0

-- Bytes of the length that is stated for n.
lent : ℕ → List ℕ
lent n = replicate (code.size n) 0

long-lent : (n : ℕ) → length (lent n) ≡ code.size n
unfolding lent
long-lent n = length-replicate {A = ℕ} (code.size n) 0

-- ---- n 0 and 17 refused: each call in turn takes 0 for 1, or 17 for 16

-- The number that n is taken for is not refused.
module _ (g : ℕ → ℕ) (k : ℕ) (size : OneTo nodes (g k)) where
  abbrev taken : Taken code (g k)
  taken = points.sizes.taken (g k) size

  reads-it : Refused (reads (λ n b. decode (g n) b)) k → ⊥
  unfolding allowed
  reads-it R = apart (taken.read (Read 1) [] refl) (R.read (encode (Read 1) []))

  writes-it : Refused (writes (λ n m v out. code.write (g n) m v out)) k → ⊥
  unfolding allowed encode fifteen
  writes-it R = apart (ap (λ (p : Answer ℕ × List ℕ). p.0) (taken.write (Read 1) [] fifteen refl (omega arith)))
      (ap (λ (p : Answer ℕ × List ℕ). p.0) (R.write (Read 1) [] fifteen))

  makes-it : Refused (makes (λ n f own. N.fresh (g n) f own)) k → ⊥
  makes-it R = not-refused (ap (λ (x : CallResult). x.answer)
      (sym (taken.fresh-node 0 1 (omega (arith, size.0)) (omega arith, size.0)) ∙ R.fresh-node 0 1))

  starts-it : Refused (starts (λ n f b. E.fresh (g n) f b)) k → ⊥
  starts-it R = answers (ap (λ (r : E.Result). r.answer)
      (taken.fresh-cluster 0 (lent (g k)) (omega (arith, size.0)) (long-lent (g k))))
      (R.fresh-cluster 0 (lent (g k)))

abbrev up : ℕ → ℕ
up n = max n 1

abbrev down : ℕ → ℕ
down n = min n 16

read-zero : RuledOut (reads (λ n b. decode (up n) b))
read-zero P = reads-it up 0 (omega arith, omega arith) P.sizes.none

read-seventeen : RuledOut (reads (λ n b. decode (down n) b))
read-seventeen P = reads-it down 17 (omega arith, omega arith) P.sizes.seventeen

write-zero : RuledOut (writes (λ n m v out. code.write (up n) m v out))
write-zero P = writes-it up 0 (omega arith, omega arith) P.sizes.none

write-seventeen : RuledOut (writes (λ n m v out. code.write (down n) m v out))
write-seventeen P = writes-it down 17 (omega arith, omega arith) P.sizes.seventeen

node-zero : RuledOut (makes (λ n f own. N.fresh (up n) f own))
node-zero P = makes-it up 0 (omega arith, omega arith) P.sizes.none

node-seventeen : RuledOut (makes (λ n f own. N.fresh (down n) f own))
node-seventeen P = makes-it down 17 (omega arith, omega arith) P.sizes.seventeen

cluster-zero : RuledOut (starts (λ n f b. E.fresh (up n) f b))
cluster-zero P = starts-it up 0 (omega arith, omega arith) P.sizes.none

cluster-seventeen : RuledOut (starts (λ n f b. E.fresh (down n) f b))
cluster-seventeen P = starts-it down 17 (omega arith, omega arith) P.sizes.seventeen

-- The figures for n = k are 12, whatever the length of the view.
abbrev short : ℕ → ℕ → List ℕ → Answer Totals
short k n v = pick (eqb n k) (refused 12) (figures_of n v)

figures-zero : RuledOut (counts (short 0))
figures-zero P = let e : ◌≡◌ {A = ℕ} 12 1 = number (P.sizes.none.figures [] refl) in omega arith

figures-seventeen : RuledOut (counts (short 17))
figures-seventeen P =
    let e : ◌≡◌ {A = ℕ} 12 1 = number (P.sizes.seventeen.figures (replicate 272 0) refl) in omega arith

-- ---- 1 and 16 taken: no echo is read, or written; every node is the first; a cluster is made, and the answer is 12;
-- no length is stated for it; the figures of one node are zero

abbrev is_echo : ℕ → List ℕ → Bool
is_echo n b = both (is_size n) (eqb (get_or b 3 0) 5)

echo-unread : RuledOut (reads (λ n b. pick (is_echo n b) (refused 7) (decode n b)))
unfolding allowed encode
echo-unread P = apart ((P.sizes.taken 16 (omega arith, omega arith)).read (Echo 1) [] refl) refl

echo-unwritten : RuledOut (writes (λ n m v out. pick (is_echo n (encode m v)) (refused 12, out) (code.write n m v out)))
unfolding allowed encode fifteen
echo-unwritten P = apart (ap (λ (p : Answer ℕ × List ℕ). p.0)
    ((P.sizes.taken 16 (omega arith, omega arith)).write (Echo 1) [] fifteen refl (omega arith))) refl

first-only : RuledOut (makes (λ n f own. N.fresh n f 1))
first-only P =
    let size : OneTo nodes 2 = (omega arith, omega arith) in
    let e : ◌≡◌ {A = ℕ} 1 2 = ap (λ (x : CallResult). x.node.own)
    (sym ((points.sizes.taken 2 size).fresh-node 0 1 (omega arith) (omega arith, omega arith))
    ∙ (P.sizes.taken 2 size).fresh-node 0 2 (omega arith) (omega arith, omega arith)) in omega arith

abbrev untold : ℕ → ℕ → List ℕ → E.Result
untold n f b = record { bytes = (E.fresh n f b).bytes; answer = refused 12; view = no_view; sent = [] }

untold-at : (b : List ℕ) → length b ≡ code.size 16
    → RuledOut (starts (λ n f b. pick (both (can_be n f) (eqb f 1)) (untold n f b) (E.fresh n f b)))
untold-at b long P = apart (ap (λ (r : E.Result). r.answer)
    ((P.sizes.taken 16 (omega arith, omega arith)).fresh-cluster 1 b (omega arith) long)) refl

start-untold : RuledOut (starts (λ n f b. pick (both (can_be n f) (eqb f 1)) (untold n f b) (E.fresh n f b)))
start-untold P = untold-at (lent 16) (long-lent 16) P

no_size : RuledOut (lends (λ n. 0))
unfolding E.fresh
no_size P = apart (ap (λ (r : E.Result). r.answer)
    ((P.sizes.taken 16 (omega arith, omega arith)).fresh-cluster 0 [] (omega arith) refl)) refl

-- the view of one node whose report has one extension busy
busy : List ℕ
busy = 0 ∷ 0 ∷ 0 ∷ 0 ∷ 0 ∷ 0 ∷ 0 ∷ 1 ∷ 0 ∷ 1 ∷ 0 ∷ 0 ∷ 0 ∷ 0 ∷ 0 ∷ 0 ∷ []

abbrev zeroed : Answer Totals → Answer Totals
zeroed (returned t) = returned zeros
zeroed (refused k) = refused k

all-zero : RuledOut (counts (λ n v. pick (eqb n 1) (zeroed (figures_of n v)) (figures_of n v)))
unfolding figures_of busy view_ok up_to all_to totals report_of part
all-zero P =
    let f : zeros ≡ totals 1 busy = value ((P.sizes.taken 1 (omega arith, omega arith)).figures busy refl refl) in
    let z : ◌≡◌ {A = ℕ} 0 1 = ap (λ (t : Totals). t.extensions) f in omega arith

-- The length of a view is judged after n.
n-first : RuledOut (counts (λ n v. pick (is_size n) (figures_of n v) (refused 1)))
n-first P = let e : ◌≡◌ {A = ℕ} 1 12 = number (P.sizes.length-first 17 [] (λ h. omega arith)) in omega arith

-- ---- f: one too many of sixteen; one too many of seven, and none

eight-of-sixteen : RuledOut (fails (λ n. pick (eqb n 16) 8 (most_faults n)))
eight-of-sixteen P = let e : ◌≡◌ {A = ℕ} 8 7 = ap (λ (l : List ℕ). get_or l 5 0) P.faults.values in omega arith

four-of-seven : RuledOut (fails (λ n. pick (eqb n 7) 4 (most_faults n)))
four-of-seven P = let e : 2 * 4 < 7 = (P.faults.largest 7 (omega arith)).0 in omega arith

none-of-seven : RuledOut (fails (λ n. pick (eqb n 7) 0 (most_faults n)))
none-of-seven P = let e : 7 ≤ 2 * (0 + 1) = (P.faults.largest 7 (omega arith)).1 in omega arith

-- Half of the nodes may stop: where 2f = n, f is taken for one less.
abbrev half_taken : ℕ → ℕ → ℕ
half_taken n f = pick (eqb (f + f) n) (f - 1) f

half-node : RuledOut (makes (λ n f own. N.fresh n (half_taken n f) own))
half-node P = not-refused (ap (λ (x : CallResult). x.answer)
    (sym ((points.sizes.taken 14 (omega arith, omega arith)).fresh-node 6 1 (omega arith) (omega arith, omega arith))
    ∙ (P.faults.refused 14 7 (λ h. omega arith)).node 1))

half-cluster : RuledOut (starts (λ n f b. E.fresh n (half_taken n f) b))
half-cluster P = answers (ap (λ (r : E.Result). r.answer)
    ((points.sizes.taken 14 (omega arith, omega arith)).fresh-cluster 6 (lent 14) (omega arith) (long-lent 14)))
    ((P.faults.refused 14 7 (λ h. omega arith)).cluster (lent 14))

-- A node is made in whose record f is 0, whatever it is made with.
none-recorded : RuledOut (makes (λ n f own. N.fresh n (pick (can_be n f) 0 f) own))
none-recorded P =
    let size : OneTo nodes 3 = (omega arith, omega arith) in
    let e : ◌≡◌ {A = ℕ} 0 1 = ap (λ (x : CallResult). x.node.f)
    (sym ((points.sizes.taken 3 size).fresh-node 0 1 (omega arith) (omega arith, omega arith))
    ∙ (P.sizes.taken 3 size).fresh-node 1 1 (omega arith) (omega arith, omega arith)) in omega arith

-- ---- read number 1: a buffer left as it was, another number read, a byte not missed

unwritten : RuledOut (writes (λ n m v out. (answer n m v (length out), out)))
unfolding fifteen
unwritten P =
    let z : ◌≡◌ {A = ℕ} 0 1 = ap (λ (p : Answer ℕ × List ℕ). get_or p.1 0 0)
    ((P.read-one 1 refl).written [] fifteen refl) in omega arith

read-two : RuledOut (reads (λ n b. returned (Read 2)))
read-two P = let e : ◌≡◌ {A = ℕ} 2 1 = request (value (P.read-one 1 refl).read) in omega arith

-- Fourteen bytes of kind 1.
abbrev is_less : ℕ → List ℕ → Bool
is_less n b = both (is_size n) (both (eqb (length b) 14) (eqb (get_or b 3 0) 1))

read-less : RuledOut (reads (λ n b. pick (is_less n b) (returned (Read 1)) (decode n b)))
read-less P = apart refl (P.read-one 1 refl).less

-- ---- good messages: another length; bytes, or views, of any length for one n

no_length : RuledOut (writes (λ n m v out. (returned 0, out)))
unfolding allowed view_ok all_to report_of part
no_length P =
    let e : ◌≡◌ {A = ℕ} 0 34 = value (P.good-1.long 0 (replicate 16 0) (replicate 34 0) refl (omega arith)) in
    omega arith

-- For n = j bytes of kind 7, unless they are k.
abbrev any_bytes : (j k : ℕ) → ℕ → List ℕ → Answer Message
any_bytes j k n b =
    pick (both (eqb n j) (both (eqb (get_or b 3 0) 7) (not (eqb (length b) k)))) (returned (Good 0)) (decode n b)

any-bytes-1 : RuledOut (reads (any_bytes 1 34))
any-bytes-1 P = apart refl (P.good-1.other-bytes (0 ∷ 0 ∷ 0 ∷ 7 ∷ []) refl (λ h. omega arith))

any-bytes-16 : RuledOut (reads (any_bytes 16 274))
any-bytes-16 P = apart refl (P.good-16.other-bytes (0 ∷ 0 ∷ 0 ∷ 7 ∷ []) refl (λ h. omega arith))

-- For n = j good messages, unless they have k bytes.
abbrev any_view : (j k : ℕ) → ℕ → Message → List ℕ → List ℕ → Answer ℕ × List ℕ
any_view j k n m v out =
    pick (both (eqb n j) (both (is_good m) (not (eqb (18 + length v) k)))) (returned (18 + length v), out)
    (code.write n m v out)

any-view-1 : RuledOut (writes (any_view 1 34))
any-view-1 P = apart refl (ap (λ (p : Answer ℕ × List ℕ). p.0) (P.good-1.other-view 0 [] [] (λ h. omega arith)))

any-view-16 : RuledOut (writes (any_view 16 274))
any-view-16 P = apart refl (ap (λ (p : Answer ℕ × List ℕ). p.0) (P.good-16.other-view 0 [] [] (λ h. omega arith)))
