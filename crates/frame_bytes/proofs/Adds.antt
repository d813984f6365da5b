-- What messages in turn leave is what the steps of the node leave, step by step. Assumes nothing.
use Prim.Native.Nat.{ℕ, ◌+◌, ◌-◌, ◌≤◌}
use mathlib.Core.Path.{◌≡◌, refl, sym, ap, ◌∙◌, subst}
use mathlib.Core.Bool.{false}
use mathlib.Core.List.{List, [], ◌∷◌, ◌++◌, append_assoc, append-nil}
use native.Mathlib.Omega.{arith}
use lib.ListN.{length, take, drop, length-append}
use lib.Seq.{drop-drop}
use Rattle.octets.specs.Answer.{returned}
use Rattle.view.specs.View.{view_of}
use Rattle.wire.specs.Codec.{decode, view_part}
use Rattle.record.specs.declared.Node.{Node}
use Rattle.step.specs.declared.Step.{Step}
use Rattle.step.specs.React.{react}
use Rattle.step.specs.Stale.{stale_message}
use Rattle.step.proofs.Judged.{alike-stale}
use Rattle.calls.specs.Bytes.{out_bytes}
use Rattle.calls.specs.Entry as N
use Rattle.emit.proofs.NoGood.{either-none}
use Rattle.region.specs.Record.{record_of}
use Rattle.calls_bytes.specs.Entry.{LentResult}
use Rattle.calls_bytes.specs.Frame.{frame_most, frame_output, packed, and_then, next_call, in_turn}
use Rattle.calls_bytes.specs.Walk.{Piece, AllRead, walk, pieces_of}
use Rattle.calls_bytes.proofs.Walk.{walk-both}
use Rattle.frame_bytes.specs.Frames.{step_on, steps_on, node_after, bytes_sent, pieces_sent}
use Rattle.frame_bytes.specs.Judged.{any_stale}
use Rattle.frame_bytes.proofs.Turn.{turn, next-node}
use Rattle.frame_bytes.specs.Frames.{step_on, steps_on, node_after, bytes_sent, pieces_sent}
use Rattle.frame_bytes.proofs.Turn.{turn_is, next-bytes, next-walk, sent-then, rest_then}
use Rattle.frame_bytes.proofs.Judging.{At, room-left, goes-on}

-- buffers that are alike from a place on are alike from a later one on
drop-alike : (i j : ℕ) (a b : List ℕ) → i ≤ j → drop i a ≡ drop i b → drop j a ≡ drop j b
drop-alike i j a b h e =
    let k : i + (j - i) ≡ j = omega (arith, h) in
    ap (λ (z : ℕ). drop z a) (sym k) ∙ sym (drop-drop (j - i) i a) ∙ ap (drop (j - i)) e ∙ drop-drop (j - i) i b
    ∙ ap (λ (z : ℕ). drop z b) k

module _ (n s room : ℕ) (low : 1 ≤ s) (high : s ≤ n) (big : frame_output ≤ room) where
  abbrev There : ℕ → Node → LentResult → Type 0
  There = At n s room low high big

  -- What messages in turn leave is what the steps of the node leave, after what was there.
  pub record Adds (p : LentResult) (ts : List Step) (e : LentResult) : Type 0 where
    pub node-is : record_of e.bytes ≡ node_after (record_of p.bytes) ts
    pub sent_is : take e.length e.out ≡ take p.length p.out ++ bytes_sent n ts
    pub met-is : walk n (take e.length e.out) ≡ walk n (take p.length p.out) ++ pieces_sent n ts
    pub rest-is : drop e.length e.out ≡ drop e.length p.out
    pub more : p.length ≤ e.length

  -- one message
  module _ (done : ℕ) (d : Node) (p : LentResult) (h : There done d p) (few : done ≤ frame_most) (m : Piece)
      (r : decode n m.bytes ≡ returned m.message) (g : stale_message d s m.message ≡ false) where
    abbrev c : Node
    c = record_of p.bytes

    abbrev a : LentResult
    a = next_call s p m

    space : N.least_output ≤ length (drop p.length p.out)
    space = room-left n s room low high big done d p h few

    fresh : stale_message c s m.message ≡ false
    fresh = alike-stale c d s m.message h.alike ∙ g

    step_is : turn n s low high p h.kind h.stand m r space ≡ step_on s c m
    step_is = turn_is n s low high p h.kind h.stand m r space fresh

    one-node : record_of a.bytes ≡ (step_on s c m).node
    one-node = next-node n s low high p h.kind h.stand m r space fresh ∙ ap (λ (z : Step). z.node) step_is

    one-sent : take (and_then p a).length (and_then p a).out
        ≡ take p.length p.out ++ out_bytes n (step_on s c m).outbox
    one-sent =
        sent-then n s low high p h.kind h.stand m r space fresh
        ∙ ap (λ (z : List ℕ). take p.length p.out ++ z)
        (next-bytes n s low high p h.kind h.stand m r space fresh
        ∙ ap (λ (z : Step). out_bytes n z.outbox) step_is)

    one-met : walk n (take (and_then p a).length (and_then p a).out)
        ≡ walk n (take p.length p.out) ++ pieces_of n (step_on s c m).outbox
    one-met =
        ap (walk n) (sent-then n s low high p h.kind h.stand m r space fresh)
        ∙ walk-both n (take p.length p.out) (take a.length a.out) h.stand.sent
        ∙ ap (λ (z : List Piece). walk n (take p.length p.out) ++ z)
        (next-walk n s low high p h.kind h.stand m r space fresh
        ∙ ap (λ (z : Step). pieces_of n z.outbox) step_is)

    one-rest : drop (and_then p a).length (and_then p a).out ≡ drop (and_then p a).length p.out
    one-rest = rest_then n s low high p h.kind h.stand m r space fresh

  pub all-add : (ms : List Piece) (done : ℕ) (d : Node) (p : LentResult) → There done d p → AllRead n ms
      → done + length (packed ms) ≤ frame_most → any_stale n s d ms ≡ false
      → Adds p (steps_on s (record_of p.bytes) ms) (in_turn s p ms)
  unfolding in_turn any_stale steps_on
  all-add [] done d p h r few g =
      record {
        node-is = refl;
        sent_is = sym (append-nil (take p.length p.out));
        met-is = sym (append-nil (walk n (take p.length p.out)));
        rest-is = refl;
        more = omega arith;
      }
  all-add (m ∷ ms) done d p h r few g =
      let l = length-append m.bytes (packed ms) in
      let f = either-none (stale_message d s m.message) _ g in
      let a = next_call s p m in
      let c = record_of p.bytes in
      let t = step_on s c m in
      let short = let z : done ≤ frame_most = omega (arith, few) in z in
      let node-is = one-node done d p h short m r.0 f.0 in
      let rest = all-add ms (done + length m.bytes) (react d s m.message (view_of n (view_part n m.bytes))).node
      (and_then p a) (goes-on n s room low high big done d p h short m r.0 f.0) r.1 (omega (arith, few, l))
      f.1 in
      let e = in_turn s (and_then p a) ms in
      subst (λ (z : Node). Adds p (t ∷ steps_on s z ms) e) node-is
      (record {
        node-is =
            rest.node-is ∙ ap (λ (z : Node). node_after z (steps_on s (record_of a.bytes) ms)) node-is;
        sent_is =
            rest.sent_is
            ∙ ap (λ (z : List ℕ). z ++ bytes_sent n (steps_on s (record_of a.bytes) ms))
            (one-sent done d p h short m r.0 f.0)
            ∙ append_assoc (take p.length p.out) (out_bytes n t.outbox)
            (bytes_sent n (steps_on s (record_of a.bytes) ms));
        met-is =
            rest.met-is
            ∙ ap (λ (z : List Piece). z ++ pieces_sent n (steps_on s (record_of a.bytes) ms))
            (one-met done d p h short m r.0 f.0)
            ∙ append_assoc (walk n (take p.length p.out)) (pieces_of n t.outbox)
            (pieces_sent n (steps_on s (record_of a.bytes) ms));
        rest-is =
            rest.rest-is
            ∙ drop-alike (and_then p a).length e.length (and_then p a).out p.out rest.more
            (one-rest done d p h short m r.0 f.0);
        more = let z = rest.more in omega (arith, z);
      })
