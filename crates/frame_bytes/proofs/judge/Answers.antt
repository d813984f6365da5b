-- `frame_bytes::judge` meets its contract.
use borrow.Author.Rules.{rules}
use Prim.Native.Nat.{ℕ, ◌≤◌, ◌<◌}
use mathlib.Core.Path.{refl, sym, ap, ap₂, ◌∙◌}
use mathlib.Core.Bool.{Bool}
use mathlib.Core.List.{List}
use native.Mathlib.Omega.{arith}
use lib.ListN.{length, length-drop}
use Rattle.octets.specs.Test.{pick}
use Rattle.view.specs.Size.{nodes}
use Rattle.view.specs.View.{view_of}
use Rattle.wire.specs.Codec.{front_part}
use Rattle.refusal.specs.Refusal.{answer}
use Rattle.wire.proofs.Handed.{part_end}
use Rattle.wire.proofs.RoundTrip.{front-some, front-within}
use Rattle.table.specs.Loop.{either}
use Rattle.step.specs.React.{react}
use Rattle.region.specs.Record.{record_of}
use Rattle.region.proofs.Back.{sized-view, sized_of}
use Rattle.react_bytes.proofs.Handling.{sized-react}
use Rattle.frame_bytes.specs.Judged.{verdict_after}
use Rattle.frame_bytes.proofs.Loops.{empty, found-writer, found-any, judged-none, judged-end, judged-more}
use Rattle.frame_bytes.proofs.Marked.{late_is, matches-on, matches-as, heard-long, last-long}
use Rattle.frame_bytes.proofs.judge.Goals as goal

pub heard_from-heard-requires : goal.heard_from-heard-requires
heard_from-heard-requires c =
    let p = c.requires in (p.0, p.2, p.3, omega (arith, p.2, p.4))

pub loop-t-init : goal.loop-t-init
unfolding record_of
loop-t-init c = (
  record_of c.args.r.now,
  sized_of c.args.r.now,
  record {
    heard-is = c.heard_from-heard.ensures.1;
    last-is = c.last_tags-last.ensures.1;
    top-is = c.get_word-top.ensures;
  },
  refl,
  c.heard_from-heard.ensures.0,
  c.last_tags-last.ensures.0,
  c.requires.5,
)

pub is_late-stale-requires : goal.is_late-stale-requires
is_late-stale-requires c =
    let n = c.args.n in
    let t = c.loop-t.t.now in
    found-any n t _ _ (sym c.loop-t.invariant.6 ∙ ap answer c.in-Ok.is) (front_part n t) refl c.requires.2

pub note-requires : goal.note-requires
note-requires c =
    let n = c.args.n in
    let t = c.loop-t.t.now in
    found-any n t _ _ (sym c.loop-t.invariant.6 ∙ ap answer c.in-Ok.is) (front_part n t) refl c.requires.2

pub slice_bounds-t-count : goal.slice_bounds-t-count
slice_bounds-t-count c =
    front-within c.args.n c.loop-t.t.now _ _ (sym c.loop-t.invariant.6 ∙ ap answer c.in-Ok.is)

pub slice_bounds-t-start : goal.slice_bounds-t-start
slice_bounds-t-start c =
    let high = front-within c.args.n c.loop-t.t.now _ _ (sym c.loop-t.invariant.6 ∙ ap answer c.in-Ok.is) in
    search rules

pub slice_bounds-t-end : goal.slice_bounds-t-end
slice_bounds-t-end c =
    let high = front-within c.args.n c.loop-t.t.now _ _ (sym c.loop-t.invariant.6 ∙ ap answer c.in-Ok.is) in
    search rules

pub loop-t-smaller : goal.loop-t-smaller
loop-t-smaller c =
    let t = c.loop-t.t.now in
    let k = c.in-Ok.k in
    let read = sym c.loop-t.invariant.6 ∙ ap answer c.in-Ok.is in
    let low = front-some c.args.n t _ _ read in
    let high = front-within c.args.n t _ _ read in
    let l = ap (λ (z : List ℕ). length z) (part_end k t) ∙ length-drop k t in
    omega (arith, low, high, l)

pub loop-t-preserved : goal.loop-t-preserved
loop-t-preserved c =
    let n = c.args.n in
    let s = c.args.s in
    let p = c.requires in
    let t = c.loop-t.t.now in
    let k = c.in-Ok.k in
    let m = c.in-Ok.m in
    let read = sym c.loop-t.invariant.6 ∙ ap answer c.in-Ok.is in
    let v = front_part n t in
    let writer = found-writer n t m k read v refl in
    let high : s ≤ nodes = omega (arith, p.2, p.4) in
    let d = c.loop-t.invariant.0 in
    let match = c.loop-t.invariant.2 in
    let long-heard = c.loop-t.invariant.4 in
    let long-last = c.loop-t.invariant.5 in (
      (react d s m (view_of n v)).node,
      sized-react d c.loop-t.invariant.1 s m (view_of n v) (sized-view n v p.2),
      matches-as n s (react d s m (view_of n v)).node c.note.ensures.0 c.note.ensures.1 c.top_after-top.ensures
          (matches-on n s c.loop-t.heard c.loop-t.last c.loop-t.top d match c.loop-t.invariant.1 p.2
          (omega (arith, long-heard))
          (omega (arith, long-last)) p.3 high m (view_of n v) writer),
      ap₂ (λ (x : Bool) (z : List ℕ). verdict_after x n s (react d s m (view_of n v)).node z)
          (ap (either c.loop-t.stale) (c.is_late-stale.ensures
          ∙ late_is n s c.loop-t.heard c.loop-t.last c.loop-t.top d match m writer)) (part_end k t)
          ∙ judged-more c.loop-t.stale n s d t m k read v refl ∙ c.loop-t.invariant.3,
      ap (λ (z : List ℕ). length z) c.note.ensures.0 ∙ heard-long c.loop-t.heard m ∙ long-heard,
      ap (λ (z : List ℕ). length z) c.note.ensures.1 ∙ last-long c.loop-t.last m ∙ long-last,
      c.parse_prefix-f.ensures,
    )

pub returns-in_default : goal.returns-in_default
returns-in_default c =
    let some : 0 < length c.loop-t.t.now = search rules in
    judged-none c.loop-t.stale c.args.n c.args.s c.loop-t.invariant.0 c.loop-t.t.now _
    (sym c.loop-t.invariant.6 ∙ ap answer c.in_default.is) some
    ∙ c.loop-t.invariant.3

pub returns-then-stale : goal.returns-then-stale
returns-then-stale c =
    sym (judged-end c.loop-t.stale c.args.n c.args.s c.loop-t.invariant.0 c.loop-t.t.now
    (empty c.loop-t.t.now (search rules))
    ∙ ap (λ (z : Bool). pick {A = ℕ} z 9 0) c.if-stale.true)
    ∙ c.loop-t.invariant.3

pub returns-else-stale : goal.returns-else-stale
returns-else-stale c =
    sym (judged-end c.loop-t.stale c.args.n c.args.s c.loop-t.invariant.0 c.loop-t.t.now
    (empty c.loop-t.t.now (search rules))
    ∙ ap (λ (z : Bool). pick {A = ℕ} z 9 0) c.if-stale.false)
    ∙ c.loop-t.invariant.3
