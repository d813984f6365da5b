-- The record that an accepted call leaves is one that the next call takes: the claims of specs/Left. Assumes nothing.
use Prim.Native.Nat.{ℕ, ◌≤◌}
use mathlib.Core.Path.{◌≡◌, refl, ap, ◌∙◌, subst}
use mathlib.Core.Bool.{true}
use mathlib.Core.List.{List}
use native.Mathlib.Omega.{arith}
use lib.Dec.{leb, ltb}
use lib.ListN.{length, length-replicate}
use borrow.Author.Tests.{leb-true, eq-eqb}
use Rattle.octets.specs.Answer.{Answer, returned, refused}
use Rattle.octets.specs.Test.{both}
use Rattle.octets.proofs.Test.{both_left, both_right}
use Rattle.view.specs.Size.{nodes}
use Rattle.wire.specs.Codec.{decode, view_part}
use Rattle.wire.specs.declared.Message.{Message}
use Rattle.wire.specs.declared.Message.TheVariants.{Read, ReadAnswer, Write, WriteAnswer, Echo, Value, Good}
use Rattle.wire.proofs.RoundTrip.{read_only}
use Rattle.table.specs.Table.{cells}
use Rattle.record.specs.Record.{blank}
use Rattle.record.specs.Usable.{sizes_within, usable, is_open, full}
use Rattle.record.specs.declared.Node.{Node}
use Rattle.record.specs.declared.Operation.{Operation}
use Rattle.record.proofs.Fresh.{fresh-usable}
use Rattle.record.proofs.Parts.{parts}
use Rattle.step.specs.declared.Ending.{Ending}
use Rattle.step.specs.declared.Ending.TheVariants.{None}
use Rattle.step.specs.declared.Step.{Step}
use Rattle.step.specs.Move.{message_step, begin_step, begun}
use Rattle.step.specs.React.{react}
use Rattle.step.specs.Stale.{stale_message}
use Rattle.step.proofs.Numbers.{on-pick}
use Rattle.step.proofs.Theorems.{message-usable, begin-usable, begin-asks-only}
use Rattle.calls.specs.CallResult.{CallResult}
use Rattle.calls.specs.Entry as N
use Rattle.calls.proofs.Rim.{read-lawful}
use Rattle.calls.proofs.Rooms.{faults-below}
use Rattle.region.specs.Record.{record_size, record_of, record_bytes, codes_known}
use Rattle.region.proofs.Back.{Sized, SizedNode, sized-view, sized_of, record-back, record-known}
use Rattle.region.proofs.Saved.{length-record_bytes}
use Rattle.react_bytes.proofs.Handling.{sized-react}
use Rattle.step_bytes.proofs.Moved.{sized-none, sized-moved, sized-begun, long_of}
use Rattle.calls_bytes.specs.Entry.{LentResult, fits, in_bytes, at_record, fresh}
use Rattle.node_bytes.specs.Left as claim
use Rattle.node_bytes.specs.Left.{Holds}
use Rattle.node_bytes.proofs.Made.{made}

never : {X : Type 0} {x : Ending} {k : ℕ} → ◌≡◌ {A = Answer Ending} (refused k) (returned x) → X
never h = absurd (let z : ◌≡◌ {A = ℕ} 0 1 = cc in omega arith)

-- the bytes of a usable record whose tables have their sizes
holds : (c : Node) → usable c ≡ true → SizedNode c → Holds (record_bytes c) c
holds c u z =
    record {
      long = length-record_bytes c z.heard;
      known = record-known c z;
      can-step = ap usable (record-back c z) ∙ u;
      same = record-back c z;
    }

blank-sized : (n f own : ℕ) → SizedNode (blank n f own)
blank-sized n f own =
    record {
      heard = length-replicate {A = ℕ} cells 0;
      last = sized-none;
      atmax = sized-none;
      atround = sized-none;
      keptview = sized-none;
    }

-- ---- by value: what an accepted call leaves, and how it ended

record Sound (p : Ending → Type 0) (e : CallResult) (x : Ending) : Type 0 where
  ends : p x
  can-step : usable e.node ≡ true
  sized : SizedNode e.node

module _ (p : Ending → Type 0) where
  abbrev Accepts : CallResult → Type 0
  Accepts e = (x : Ending) → e.ending ≡ returned x → Sound p e x

  refuses : (k : ℕ) (c : Node) (out : List ℕ) → Accepts (N.refuse k c out)
  refuses k c out x e = never e

  steps : (s : Step) (out : List ℕ) → p s.ending → usable s.node ≡ true → SizedNode s.node
      → Accepts (N.let_out s out)
  unfolding N.let_out
  steps s out q u z x e =
      let d : s.ending ≡ x = cc in
      record { ends = subst p d q; can-step = u; sized = z }

  -- on lent bytes
  at_left : (r out : List ℕ) (call : Node → CallResult) → Accepts (call (record_of r)) → (x : Ending)
      → (at_record r out call).ending ≡ returned x
      → p x × Holds (at_record r out call).bytes (call (record_of r)).node
  unfolding at_record in_bytes
  at_left r out call h =
      let c = call (record_of r) in
      let P : LentResult → Type 0 = λ e. (x : Ending) → e.ending ≡ returned x → p x × Holds e.bytes c.node in
      on-pick P (fits N.least_output r (length out)) _ _
      (λ e. on-pick P (codes_known r) _ _ (λ e x q.
      let g = h x q in
      (g.ends, rw q (holds c.node g.can-step g.sized))) (λ e x q. never q))
      (λ e x q. never q)

begins : (r : List ℕ) (o : Operation) (out : List ℕ) → Accepts (λ x. x ≡ None) (N.begin (record_of r) o out)
unfolding N.begin begin_step
begins r o out =
    let c = record_of r in
    let f = c.f in
    let A = Accepts (λ x. x ≡ None) in
    let no = refuses (λ x. x ≡ None) in
    on-pick A (ltb (length out) N.least_output) _ _ (λ e. no 12 c out) (λ long.
    on-pick A (usable c) _ _ (λ u.
    on-pick A (is_open c.wait) _ _ (λ e. no 5 c out) (λ idle.
    on-pick A (full c) _ _ (λ e. no 6 c out) (λ more.
    steps (λ x. x ≡ None) (begin_step f c o) out
    (begin-asks-only f c o u idle more (faults-below c u)).0
    (begin-usable f c o u idle more) (sized-moved f (begun c o) (sized-begun c o (sized_of r))))))
    (λ e. no 2 c out))

-- the view that a good message carries has its size
sized-beside : (n : ℕ) (v : List ℕ) (m : Message) → n ≤ nodes → Sized (N.beside n v m)
sized-beside n v (Read q) h = sized-none
sized-beside n v (ReadAnswer q t) h = sized-none
sized-beside n v (Write q t) h = sized-none
sized-beside n v (WriteAnswer q t) h = sized-none
sized-beside n v (Echo t) h = sized-none
sized-beside n v (Value t w p) h = sized-none
sized-beside n v (Good t) h = sized-view n v h

abbrev Any : Ending → Type 0
Any x = Unit {0}

takes : (r : List ℕ) (s : ℕ) (b out : List ℕ) → usable (record_of r) ≡ true
    → both (leb 1 s) (leb s (record_of r).n) ≡ true → (a : Answer Message) → decode (record_of r).n b ≡ a
    → Accepts Any (N.taken (record_of r) s (view_part (record_of r).n b) out a)
unfolding N.taken message_step
takes r s b out u k (refused j) d = refuses Any 7 (record_of r) out
takes r s b out u k (returned m) d =
    let c = record_of r in
    let f = c.f in
    let w = view_part c.n b in
    let v = N.beside c.n w m in
    on-pick (Accepts Any) (stale_message c s m) _ _ (λ e. refuses Any 9 c out) (λ e.
    steps Any (message_step f c s m v) out tt
    (message-usable f c s m v u (read-lawful c.n w m (read_only c.n b m d).allowed-is) (long_of r)
    (leb-true 1 s (both_left (leb 1 s) (leb s c.n) k)) (leb-true s c.n (both_right (leb 1 s) (leb s c.n) k)))
    (sized-moved f (react c s m v)
    (sized-react c (sized_of r) s m v (sized-beside c.n w m (parts c u).n-high))))

messages : (r : List ℕ) (s : ℕ) (b out : List ℕ) → Accepts Any (N.message (record_of r) s b out)
unfolding N.message
messages r s b out =
    let c = record_of r in
    on-pick (Accepts Any) (ltb (length out) N.least_output) _ _ (λ e. refuses Any 12 c out) (λ long.
    on-pick (Accepts Any) (usable c) _ _ (λ u.
    on-pick (Accepts Any) (both (leb 1 s) (leb s c.n)) _ _
    (λ k. takes r s b out u k (decode c.n b) refl) (λ e. refuses Any 3 c out)) (λ e. refuses Any 2 c out))

fresh-leaves : (n f own : ℕ) (r : List ℕ) → sizes_within n f own ≡ true → length r ≡ record_size
    → ((fresh n f own r).ending ≡ returned None) × Holds (fresh n f own r).bytes (blank n f own)
fresh-leaves n f own r s l =
    let e = made n f own r s (eq-eqb (length r) record_size l) in (
      ap (λ (x : LentResult). x.ending) e,
      rw e (holds (blank n f own) (fresh-usable n f own s) (blank-sized n f own)),
    )

pub left : claim.Left
left = record {
  fresh-left = fresh-leaves;
  begin-left = λ r o out. at_left (λ x. x ≡ None) r out (λ c. N.begin c o out) (begins r o out);
  message-left = λ r s b out x e. (at_left Any r out (λ c. N.message c s b out) (messages r s b out) x e).1;
}
