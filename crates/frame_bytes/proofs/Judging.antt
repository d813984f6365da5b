-- The messages of a frame in turn: none is refused but with 9, which the judgement on a copy tells, and the buffer is
-- enough. Assumes nothing.
use Prim.Native.Nat.{ℕ, ◌+◌, ◌*◌, ◌≤◌}
use mathlib.Core.Path.{◌≡◌, refl, sym, ap, ◌∙◌, subst}
use mathlib.Core.Bool.{Bool, true, false}
use mathlib.Core.List.{List, [], ◌∷◌}
use native.Mathlib.Omega.{arith}
use lib.Dec.{eqb, leb}
use lib.ListN.{length, drop, length-append, length-drop}
use borrow.Author.Tests.{eqb-true, leb-true}
use Rattle.octets.specs.Answer.{Answer, returned, refused}
use Rattle.octets.specs.Test.{pick}
use Rattle.octets.proofs.Test.{both_left, both_right}
use Rattle.view.specs.View.{view_of}
use Rattle.wire.specs.Codec.{decode, view_part}
use Rattle.wire.specs.Layout.{one_size, two_size, message_size}
use Rattle.wire.proofs.Numbers.{length-encode}
use Rattle.wire.proofs.RoundTrip.{read_only}
use Rattle.record.specs.Usable.{usable}
use Rattle.record.specs.declared.Node.{Node}
use Rattle.record.proofs.Parts.{parts}
use Rattle.step.specs.Budget.{budget, budget_most}
use Rattle.step.specs.Claims.{sizes}
use Rattle.step.specs.declared.Ending.{Ending}
use Rattle.step.specs.declared.Ending.TheVariants.{None}
use Rattle.step.specs.declared.Step.{Step}
use Rattle.step.specs.React.{react}
use Rattle.step.specs.Stale.{stale_message}
use Rattle.step.specs.Step.{messages}
use Rattle.step.proofs.Budget.{budget-most, message-pays}
use Rattle.step.proofs.Judged.{Alike, alike-stale, alike-step}
use Rattle.table.specs.Loop.{either}
use Rattle.calls.specs.Entry as N
use Rattle.emit.proofs.NoGood.{either-none}
use Rattle.region.specs.Record.{record_size, record_of, codes_known}
use Rattle.calls_bytes.specs.Entry.{LentResult}
use Rattle.calls_bytes.specs.Frame.{frame_most, frame_output, packed, is_ending, first_stands, and_then, next_call}
use Rattle.calls_bytes.specs.Frame.{in_turn}
use Rattle.calls_bytes.specs.Frame.{at_start, one_by_one}
use Rattle.calls_bytes.specs.Walk.{Piece, AllRead, walk}
use Rattle.calls_bytes.proofs.Walk.{all_read}
use Rattle.frame_bytes.specs.Frames.{Readable, frame_sent}
use Rattle.frame_bytes.specs.Judged.{any_stale}
use Rattle.frame_bytes.proofs.Stand.{refused-then, Stand, stand-first}
use Rattle.frame_bytes.proofs.Turn.{turn, late-9, next-ends, next-node, next-long, quiet, then-room, then-stand}

-- the first refusal is told, whatever follows it
pub sticks : (s : ℕ) (p : LentResult) (ms : List Piece) (k : ℕ) → p.ending ≡ refused k
    → (in_turn s p ms).ending ≡ refused k
unfolding in_turn
sticks s p [] k e = e
sticks s p (m ∷ ms) k e =
    let a = next_call s p m in
    let t : first_stands p.ending a.ending ≡ true = ap (λ z. first_stands z a.ending) e in
    sticks s (and_then p a) ms k (rw t e)

pub never : {X : Type 0} {x : Ending} {k : ℕ} → ◌≡◌ {A = Answer Ending} (refused k) (returned x) → X
never h = absurd (let z : ◌≡◌ {A = ℕ} 0 1 = cc in omega arith)

pub told_same : {x y : Ending} → ◌≡◌ {A = Answer Ending} (returned x) (returned y) → x ≡ y
told_same h = cc

either_true : {X : Type 0} (x y : Bool) → either x y ≡ true → (x ≡ true → X) → (x ≡ false → y ≡ true → X) → X
either_true true y h f g = f refl
either_true false y h f g = g refl h

module _ (n s room : ℕ) (low : 1 ≤ s) (high : s ≤ n) (big : frame_output ≤ room) where
  -- After messages of so many bytes, none of them refused: what they have sent is paid by those bytes and by what the
  -- open operation has left. d is a copy of the record that the handlers alone have changed.
  pub record At (done : ℕ) (d : Node) (p : LentResult) : Type 0 where
    pub kind : Ending
    pub stand : Stand n p kind
    pub alike : Alike (record_of p.bytes) d
    pub pays : one_size * p.length + one_size * budget n (record_of p.bytes).wait
        ≤ two_size * done + one_size * budget_most
    pub out-long : length p.out ≡ room

  module _ (done : ℕ) (d : Node) (p : LentResult) (h : At done d p) (few : done ≤ frame_most) where
    pub sent-few : p.length ≤ frame_sent
    sent-few = let q = h.pays in omega (arith, q, few)

    pub room-left : N.least_output ≤ length (drop p.length p.out)
    room-left =
        let q = h.out-long in
        let l = length-drop p.length p.out in
        omega (arith, sent-few, q, l, big)

    module _ (m : Piece) (r : decode n m.bytes ≡ returned m.message) where
      abbrev c : Node
      c = record_of p.bytes

      pub late : stale_message d s m.message ≡ true → (and_then p (next_call s p m)).ending ≡ refused 9
      late g =
          refused-then p (next_call s p m) h.stand.ends
          (late-9 n s low high p h.kind h.stand m r room-left
          (alike-stale c d s m.message h.alike ∙ g))

      module _ (g : stale_message d s m.message ≡ false) where
        g' : stale_message c s m.message ≡ false
        g' = alike-stale c d s m.message h.alike ∙ g

        abbrev t : Step
        t = turn n s low high p h.kind h.stand m r room-left

        size_is : message_size n m.message ≡ length m.bytes
        size_is =
            let w = read_only n m.bytes m.message r in
            sym (ap (λ (z : List ℕ). length z) w.bytes
            ∙ length-encode n m.message (view_part n m.bytes) w.allowed-is)

        paid : one_size * sizes n (messages t.outbox) + one_size * budget n t.node.wait
            ≤ two_size * length m.bytes + one_size * budget n c.wait
        paid =
            subst (λ (z : ℕ). one_size * sizes n (messages t.outbox) + one_size * budget n t.node.wait
            ≤ two_size * z + one_size * budget n c.wait) size_is
            (subst (λ (j : ℕ). one_size * sizes j (messages t.outbox) + one_size * budget j t.node.wait
            ≤ two_size * message_size j m.message + one_size * budget j c.wait) h.stand.n-is
            (message-pays c.f c s m.message (N.beside c.n (view_part n m.bytes) m.message)))

        pub goes-on : At (done + length m.bytes)
            (react d s m.message (view_of n (view_part n m.bytes))).node (and_then p (next_call s p m))
        goes-on =
            let node-is = next-node n s low high p h.kind h.stand m r room-left g' in
            let long-is = next-long n s low high p h.kind h.stand m r room-left g' in
            record {
              kind = pick (is_ending h.kind) h.kind t.ending;
              stand = then-stand n s low high p h.kind h.stand m r room-left g';
              alike =
                  subst (λ (z : Node). Alike z (react d s m.message (view_of n (view_part n m.bytes))).node)
                  (sym node-is)
                  (alike-step c.f c d s m.message
                  (N.beside c.n (view_part n m.bytes) m.message) (view_of n (view_part n m.bytes))
                  h.alike);
              pays =
                  subst (λ (z : Node). one_size * (p.length + (next_call s p m).length) + one_size * budget n z.wait
                  ≤ two_size * (done + length m.bytes) + one_size * budget_most) (sym node-is)
                  (let q = h.pays in omega (arith, q, paid, long-is));
              out-long = then-room n s low high p h.kind h.stand m r room-left g' ∙ h.out-long;
            }

      -- after an ending the next message ends nothing
      pub no_more : is_ending h.kind ≡ true → (y : Ending) → (next_call s p m).ending ≡ returned y → y ≡ None
      no_more t y e = by (stale_message c s m.message) refl
        where
          by : (b : Bool) → stale_message c s m.message ≡ b → y ≡ None
          by true g =
              never (sym (late-9 n s low high p h.kind h.stand m r room-left g) ∙ e)
          by false g =
              let a = next-ends n s low high p h.kind h.stand m r room-left g in
              let same : y ≡ (turn n s low high p h.kind h.stand m r room-left).ending =
              told_same (sym e ∙ a) in
              same ∙ quiet n s low high p h.kind h.stand m r room-left g t

  -- how far messages in turn come
  pub record Arrives (p : LentResult) : Type 0 where
    pub done : ℕ
    pub copy : Node
    pub few : done ≤ frame_most
    pub there : At done copy p

  pub all_go : (ms : List Piece) (done : ℕ) (d : Node) (p : LentResult) → At done d p → AllRead n ms
      → done + length (packed ms) ≤ frame_most → any_stale n s d ms ≡ false → Arrives (in_turn s p ms)
  unfolding in_turn any_stale
  all_go [] done d p h r few g = record { done = done; copy = d; few = omega (arith, few); there = h }
  all_go (m ∷ ms) done d p h r few g =
      let l = length-append m.bytes (packed ms) in
      let e = either-none (stale_message d s m.message) _ g in
      all_go ms (done + length m.bytes) (react d s m.message (view_of n (view_part n m.bytes))).node
      (and_then p (next_call s p m)) (goes-on done d p h (omega (arith, few)) m r.0 e.0) r.1
      (omega (arith, few, l)) e.1

  pub one-late : (ms : List Piece) (done : ℕ) (d : Node) (p : LentResult) → At done d p → AllRead n ms
      → done + length (packed ms) ≤ frame_most → any_stale n s d ms ≡ true → (in_turn s p ms).ending ≡ refused 9
  unfolding in_turn any_stale
  one-late [] done d p h r few g = absurd (let z : ◌≡◌ {A = ℕ} 0 1 = cc in omega arith)
  one-late (m ∷ ms) done d p h r few g =
      let l = length-append m.bytes (packed ms) in
      let d' = (react d s m.message (view_of n (view_part n m.bytes))).node in
      let a = and_then p (next_call s p m) in
      either_true (stale_message d s m.message) (any_stale n s d' ms) g
      (λ e. sticks s a ms 9 (late done d p h (omega (arith, few)) m r.0 e))
      (λ e f. one-late ms (done + length m.bytes) d' a (goes-on done d p h (omega (arith, few)) m r.0 e) r.1
      (omega (arith, few, l)) f)

-- ---- a frame

module _ (r : List ℕ) (s : ℕ) (b out : List ℕ) (h : Readable r s b out) where
  abbrev n : ℕ
  n = (record_of r).n

  abbrev pub low : 1 ≤ s
  low = leb-true 1 s (both_left (leb 1 s) (leb s n) h.sender)

  abbrev pub high : s ≤ n
  high = leb-true s n (both_right (leb 1 s) (leb s n) h.sender)

  abbrev pub big : frame_output ≤ length out
  big = leb-true frame_output (length out) (both_right (eqb (length r) record_size) (leb frame_output (length out))
      h.fit)

  pub few : length (packed (walk n b)) ≤ frame_most
  few =
      let i = eqb-true (length (packed (walk n b))) (length b) h.whole in
      let j = leb-true (length b) frame_most (both_right (leb 1 (length b)) (leb (length b) frame_most) h.sized) in
      omega (arith, i, j)

  -- before the first message
  pub at_first : At n s (length out) low high big 0 (record_of r) (at_start r out)
  at_first =
      let can-step = both_right (codes_known r) (usable (record_of r)) h.can-use in
      record {
        kind = None;
        stand =
            stand-first r n out
            (eqb-true (length r) record_size
            (both_left (eqb (length r) record_size) (leb frame_output (length out)) h.fit))
            (both_left (codes_known r) (usable (record_of r)) h.can-use) can-step refl;
        alike = record { heard = refl; last = refl; maxtag = refl };
        pays = let q = budget-most n (record_of r).wait (parts (record_of r) can-step).n-high in omega (arith, q);
        out-long = refl;
      }

  pub judged-free : any_stale n s (record_of r) (walk n b) ≡ false
      → Arrives n s (length out) low high big (one_by_one r s b out)
  unfolding one_by_one
  judged-free g =
      all_go n s (length out) low high big (walk n b) 0 (record_of r) (at_start r out) at_first (all_read n b)
      (omega (arith, few)) g

  pub judged-late : any_stale n s (record_of r) (walk n b) ≡ true → (one_by_one r s b out).ending ≡ refused 9
  unfolding one_by_one
  judged-late g =
      one-late n s (length out) low high big (walk n b) 0 (record_of r) (at_start r out) at_first (all_read n b)
      (omega (arith, few)) g
