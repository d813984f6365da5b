-- The claims of specs/Claims. Assumes nothing.
use Prim.Native.Nat.{ℕ}
use mathlib.Core.Path.{◌≡◌, refl, sym, ◌∙◌, subst}
use mathlib.Core.List.{List, []}
use native.Mathlib.Omega.{arith}
use lib.Dec.{eqb, leb, ltb}
use lib.ListN.{length, take}
use borrow.Author.Tests.{leb-true, ltb-false}
use Rattle.octets.specs.Answer.{Answer, returned, refused}
use Rattle.octets.specs.Test.{both}
use Rattle.octets.proofs.Test.{both_left, both_right}
use Rattle.view.specs.View.{view_bytes}
use Rattle.wire.specs.Codec.{decode, view_part}
use Rattle.wire.specs.declared.Message.{Message}
use Rattle.wire.proofs.RoundTrip.{read_only}
use Rattle.record.specs.Usable.{sizes_within, usable, is_open, full}
use Rattle.record.specs.declared.Node.{Node}
use Rattle.record.specs.declared.Operation.{Operation}
use Rattle.step.specs.declared.Ending.{Ending}
use Rattle.step.specs.declared.Step.{Step}
use Rattle.step.specs.Told.{refusal}
use Rattle.step.specs.Move.{message_step, begin_step}
use Rattle.step.specs.Stale.{stale_message}
use Rattle.step.specs.Step.{messages}
use Rattle.step.proofs.Numbers.{on-pick}
use Rattle.step.proofs.Theorems.{message-n, begin-n}
use Rattle.calls.specs.CallResult.{CallResult}
use Rattle.calls.specs.Entry as N
use Rattle.calls.proofs.Rim.{read-lawful}
use Rattle.calls.proofs.Rooms.{Fit, begin-fit, message-fit}
use Rattle.emit.proofs.Runs.{room_of}
use Rattle.region.specs.Record.{record_size, record_of, codes_known}
use Rattle.region.proofs.Back.{sized_of}
use Rattle.calls_bytes.specs.Entry.{LentResult, accepted, fits, usable_in, in_bytes, at_record, fresh}
use Rattle.calls_bytes.specs.Frame.{frame_most, frame_output, is_whole, or_refused, one_by_one, frame}
use Rattle.calls_bytes.specs.Walk.{Piece, walk, pieces_of}
use Rattle.calls_bytes.specs.Claims as claim
use Rattle.calls_bytes.proofs.Walk.{walked, walk-packed, whole-packed, walk-all, all_read}

-- no answer is an ending and a refusal
never : {X : Type 0} {x : Ending} {k : ℕ} → ◌≡◌ {A = Answer Ending} (returned x) (refused k) → X
never h = absurd (let z : ◌≡◌ {A = ℕ} 0 1 = cc in omega arith)

-- a refusal's number is told
same : {j k : ℕ} → ◌≡◌ {A = Answer Ending} (refused j) (refused k) → refusal j ≡ refusal k
same h = cc

-- ---- a refusal leaves every byte

abbrev Leaves : List ℕ → CallResult → Type 0
Leaves out e = (k : ℕ) → e.ending ≡ refused k → (e.answer ≡ refusal k) × (e.out ≡ out) × (e.length ≡ 0)

let-out-leaves : (s : Step) (out : List ℕ) → Leaves out (N.let_out s out)
unfolding N.let_out
let-out-leaves s out k e = never e

begin-leaves : (c : Node) (o : Operation) (out : List ℕ) → Leaves out (N.begin c o out)
unfolding N.begin
begin-leaves c o out =
    on-pick (Leaves out) (ltb (length out) N.least_output) _ _ (λ e k q. (same q, refl, refl)) (λ e.
    on-pick (Leaves out) (usable c) _ _ (λ e.
    on-pick (Leaves out) (is_open c.wait) _ _ (λ e k q. (same q, refl, refl)) (λ e.
    on-pick (Leaves out) (full c) _ _ (λ e k q. (same q, refl, refl)) (λ e. let-out-leaves _ out)))
    (λ e k q. (same q, refl, refl)))

taken-leaves : (c : Node) (s : ℕ) (v out : List ℕ) (a : Answer Message) → Leaves out (N.taken c s v out a)
unfolding N.taken
taken-leaves c s v out (refused j) = λ k q. (same q, refl, refl)
taken-leaves c s v out (returned m) =
    on-pick (Leaves out) (stale_message c s m) _ _ (λ e k q. (same q, refl, refl)) (λ e. let-out-leaves _ out)

message-leaves : (c : Node) (s : ℕ) (b out : List ℕ) → Leaves out (N.message c s b out)
unfolding N.message
message-leaves c s b out =
    on-pick (Leaves out) (ltb (length out) N.least_output) _ _ (λ e k q. (same q, refl, refl)) (λ e.
    on-pick (Leaves out) (usable c) _ _ (λ e.
    on-pick (Leaves out) (both (leb 1 s) (leb s c.n)) _ _
    (λ e. taken-leaves c s (view_part c.n b) out (decode c.n b)) (λ e k q. (same q, refl, refl)))
    (λ e k q. (same q, refl, refl)))

fresh-leaves : (n f own : ℕ) → Leaves [] (N.fresh n f own)
unfolding N.fresh
fresh-leaves n f own =
    on-pick (Leaves []) (sizes_within n f own) _ _ (λ e k q. never q) (λ e k q. (same q, refl, refl))

module _ (r out : List ℕ) where
  in-bytes-keeps : (e : CallResult) → Leaves out e → claim.Keeps r out (in_bytes r e)
  unfolding in_bytes
  in-bytes-keeps e h k q = ((h k q).0, rw q refl, (h k q).1, (h k q).2)

  at-keeps : (call : Node → CallResult) → Leaves out (call (record_of r)) → claim.Keeps r out (at_record r out call)
  unfolding at_record
  at-keeps call h =
      on-pick (claim.Keeps r out) (fits N.least_output r (length out)) _ _
      (λ e. on-pick (claim.Keeps r out) (codes_known r) _ _ (λ e. in-bytes-keeps (call (record_of r)) h)
      (λ e k q. (same q, refl, refl, refl)))
      (λ e k q. (same q, refl, refl, refl))

fresh_keeps : (n f own : ℕ) (r : List ℕ) → claim.Keeps r [] (fresh n f own r)
unfolding fresh
fresh_keeps n f own r =
    let kept = in-bytes-keeps r [] (N.fresh n f own) (fresh-leaves n f own) in
    on-pick (claim.Keeps r []) (accepted (N.fresh n f own).ending) _ _
    (λ e. on-pick (claim.Keeps r []) (eqb (length r) record_size) _ _ (λ e. kept) (λ e k q. (same q, refl, refl, refl)))
    (λ e. kept)

settled-keeps : (r out : List ℕ) (e : LentResult) (a : Answer Ending) → e.ending ≡ a
    → claim.Keeps r out (or_refused r out e a)
settled-keeps r out e (refused j) h k q = (same q, refl, refl, refl)
settled-keeps r out e (returned x) h k q = never (sym h ∙ q)

frame-keeps : (r : List ℕ) (s : ℕ) (b out : List ℕ) → claim.Keeps r out (frame r s b out)
unfolding frame
frame-keeps r s b out =
    let n = (record_of r).n in
    let K = claim.Keeps r out in
    on-pick K (fits frame_output r (length out)) _ _ (λ e.
    on-pick K (usable_in r) _ _ (λ e.
    on-pick K (both (leb 1 s) (leb s n)) _ _ (λ e.
    on-pick K (both (leb 1 (length b)) (leb (length b) frame_most)) _ _ (λ e.
    on-pick K (is_whole n b) _ _ (λ e. settled-keeps r out (one_by_one r s b out) (one_by_one r s b out).ending refl)
    (λ e k q. (same q, refl, refl, refl)))
    (λ e k q. (same q, refl, refl, refl)))
    (λ e k q. (same q, refl, refl, refl)))
    (λ e k q. (same q, refl, refl, refl)))
    (λ e k q. (same q, refl, refl, refl))

pub refusals-keep : claim.RefusalsKeep
refusals-keep = record {
  fresh_keeps = fresh_keeps;
  begin-keeps = λ r o out. at-keeps r out (λ c. N.begin c o out) (begin-leaves (record_of r) o out);
  message-keeps = λ r s b out. at-keeps r out (λ c. N.message c s b out) (message-leaves (record_of r) s b out);
  frame-keeps = frame-keeps;
}

-- ---- the messages of an accepted call are met one by one

-- a buffer that a step was written into
let-out-walk : (s : Step) (out : List ℕ) → Fit s (length out)
    → walk s.node.n (take (N.let_out s out).length (N.let_out s out).out) ≡ pieces_of s.node.n s.outbox
unfolding N.let_out
let-out-walk s out h =
    let n = s.node.n in
    let v = view_bytes n s.outbox.view in
    walked n v (messages s.outbox) out
    (room_of n s.outbox.view v (messages s.outbox) (length out) refl h.0 h.1 h.2 h.3)

module _ (n : ℕ) (p : List Piece) where
  -- where a call at a record of n nodes is accepted, p is met
  abbrev Met : CallResult → Type 0
  Met e = (x : Ending) → e.ending ≡ returned x → walk n (take e.length e.out) ≡ p

  -- the same of a call on lent bytes
  abbrev MetIn : LentResult → Type 0
  MetIn e = (x : Ending) → e.ending ≡ returned x → walk n (take e.length e.out) ≡ p

  refused-met : (k : ℕ) (c : Node) (out : List ℕ) → Met (N.refuse k c out)
  refused-met k c out x e = never (sym e)

  at-met : (r out : List ℕ) (call : Node → CallResult) → Met (call (record_of r)) → MetIn (at_record r out call)
  unfolding at_record in_bytes
  at-met r out call h =
      on-pick MetIn (fits N.least_output r (length out)) _ _
      (λ e. on-pick MetIn (codes_known r) _ _ (λ e. h) (λ e x q. never (sym q)))
      (λ e x q. never (sym q))

  let-out-met : (s : Step) (out : List ℕ) → s.node.n ≡ n → Fit s (length out) → pieces_of n s.outbox ≡ p
      → Met (N.let_out s out)
  let-out-met s out e h q x a =
      subst (λ (j : ℕ). walk j (take (N.let_out s out).length (N.let_out s out).out) ≡ pieces_of j s.outbox) e
      (let-out-walk s out h) ∙ q

begin-met : (c : Node) (o : Operation) (out : List ℕ)
    → Met c.n (pieces_of c.n (begin_step c.f c o).outbox) (N.begin c o out)
unfolding N.begin
begin-met c o out =
    let f = c.f in
    let s = begin_step f c o in
    let p = pieces_of c.n s.outbox in
    let M = Met c.n p in
    on-pick M (ltb (length out) N.least_output) _ _ (λ e. refused-met c.n p 12 c out) (λ long.
    on-pick M (usable c) _ _ (λ u.
    on-pick M (is_open c.wait) _ _ (λ e. refused-met c.n p 5 c out) (λ idle.
    on-pick M (full c) _ _ (λ e. refused-met c.n p 6 c out) (λ more.
    let-out-met c.n p s out (begin-n f c o)
    (begin-fit c o s (length out) refl u idle more (ltb-false (length out) N.least_output long)) refl)))
    (λ e. refused-met c.n p 2 c out))

message-met : (r : List ℕ) (s : ℕ) (b out : List ℕ) (m : Message) → decode (record_of r).n b ≡ returned m
    → Met (record_of r).n (pieces_of (record_of r).n (message_step (record_of r).f (record_of r) s m
    (N.beside (record_of r).n (view_part (record_of r).n b) m)).outbox) (N.message (record_of r) s b out)
unfolding N.message N.taken
message-met r s b out m d =
    let c = record_of r in
    let f = c.f in
    let v = view_part c.n b in
    let t = message_step f c s m (N.beside c.n v m) in
    let p = pieces_of c.n t.outbox in
    let M = Met c.n p in
    let z = sized_of r in
    on-pick M (ltb (length out) N.least_output) _ _ (λ e. refused-met c.n p 12 c out) (λ long.
    on-pick M (usable c) _ _ (λ u.
    on-pick M (both (leb 1 s) (leb s c.n)) _ _ (λ k.
    subst (λ (a : Answer Message). M (N.taken c s v out a)) (sym d)
    (on-pick M (stale_message c s m) _ _ (λ e. refused-met c.n p 9 c out) (λ e.
    let-out-met c.n p t out (message-n f c s m (N.beside c.n v m))
    (message-fit c s m (N.beside c.n v m) t (length out) refl u
    (read-lawful c.n v m (read_only c.n b m d).allowed-is)
    (record {
      last = (z.last.tags, z.last.reports);
      atmax = (z.atmax.tags, z.atmax.reports);
      atround = (z.atround.tags, z.atround.reports);
    })
    (leb-true 1 s (both_left (leb 1 s) (leb s c.n) k)) (leb-true s c.n (both_right (leb 1 s) (leb s c.n) k))
    (ltb-false (length out) N.least_output long)) refl)))
    (λ e. refused-met c.n p 3 c out))
    (λ e. refused-met c.n p 2 c out))

pub walks : claim.Walks
walks = record {
  begin-walk = λ r o out x e. at-met _ _ r out (λ c. N.begin c o out) (begin-met (record_of r) o out) x e;
  message-walk = λ r s b out x m e d. at-met _ _ r out (λ c. N.message c s b out) (message-met r s b out m d) x e;
}

-- ---- frames

pub packing : claim.Packing
packing = record {
  packs = λ n ms h. (walk-packed n ms h, whole-packed n ms h);
  unpacks = λ n b h. (walk-all n b h, all_read n b);
}
