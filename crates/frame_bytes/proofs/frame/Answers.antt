-- `frame_bytes::frame` meets its contract.
use Rattle.std.proofs.lemmas.Result.{err_from_is_err_and}
use Rattle.refusal.specs.declared.Refusal.TheVariants.{Node, Layout, Frame}
use Rattle.events.proofs.Told.{number-some}
use borrow.Author.Rules.{rules}
use Prim.Native.Nat.{ℕ, ◌≤◌}
use mathlib.Core.Path.{◌≡◌, sym, ap, ◌∙◌, subst}
use mathlib.Core.Bool.{true, false}
use native.Mathlib.Omega.{arith}
use lib.Dec.{leb}
use lib.ListN.{length, take}
use lib.Seq.{take-length}
use borrow.Author.Tests.{leb-true}
use Rattle.octets.specs.Answer.{returned}
use Rattle.octets.specs.Test.{both}
use Rattle.octets.proofs.Test.{both_left, both_right}
use Rattle.wire.specs.Codec.{front, front_part}
use Rattle.refusal.specs.Refusal.{answer}
use Rattle.wire.proofs.Handed.{front-room, found-view}
use Rattle.record.proofs.Parts.{parts}
use Rattle.region.specs.Record.{record_of}
use Rattle.calls_bytes.specs.Frame.{frame_most, frame_output}
use Rattle.calls_bytes.proofs.Walk.{whole-none}
use Rattle.node_bytes.proofs.Admitted.{admitted, small_n}
use Rattle.node_bytes.proofs.Stepped.{becomes-shown, refuses-shown}
use Rattle.frame_bytes.specs.Judged.{verdict, Goes}
use Rattle.frame_bytes.proofs.Framed.{turned-away, is-3, is-14, is-7, goes, is-fault, no-fault, is_one}
use Rattle.frame_bytes.proofs.Loops.{found-allowed, found-bytes}
use Rattle.frame_bytes.proofs.frame.Goals as goal

pub returns-in_err-n : goal.returns-in_err-n
returns-in_err-n c =
    let a = c.args in
    let k = c.in_err-n.field-0.0 in
    let p = err_from_is_err_and c.from_residual.result c.from_residual.ensures.1 in
    rw (p.1, p.2) (refuses-shown k
    (turned-away a.r.now a.s a.b.now a.out.now c.in_err-n.ensures.refused (number-some k)))

pub returns-then-not-s-n : goal.returns-then-not-s-n
returns-then-not-s-n c =
    let a = c.args in
    let test : both (leb 1 a.s) (leb a.s c.in_ok-n.n) ≡ false = search rules in
    let h = admitted frame_output a.r.now a.out.now (sym c.in_ok-n.ensures.refused) in
    let e = c.in_ok-n.ensures.counted in
    refuses-shown Node (is-3 a.r.now a.s a.b.now a.out.now h
    (ap (λ (j : ℕ). both (leb 1 a.s) (leb a.s j)) e ∙ test))

pub returns-then-not-b : goal.returns-then-not-b
returns-then-not-b c =
    let a = c.args in
    let test : both (leb 1 a.s) (leb a.s c.in_ok-n.n) ≡ true = search rules in
    let sized : both (leb 1 (length a.b.now)) (leb (length a.b.now) frame_most) ≡ false = search rules in
    let h = admitted frame_output a.r.now a.out.now (sym c.in_ok-n.ensures.refused) in
    let e = c.in_ok-n.ensures.counted in
    let sender = ap (λ (j : ℕ). both (leb 1 a.s) (leb a.s j)) e ∙ test in
    refuses-shown Frame (is-14 a.r.now a.s a.b.now a.out.now h sender sized)

pub found_view-requires : goal.found_view-requires
found_view-requires c =
    front-room c.in_ok-n.n c.args.b.now _ c.parse_prefix-f.ensures

pub take_message-requires : goal.take_message-requires
take_message-requires c =
    let a = c.args in
    let test : both (leb 1 a.s) (leb a.s c.in_ok-n.n) ≡ true = search rules in
    let h = admitted frame_output a.r.now a.out.now (sym c.in_ok-n.ensures.refused) in
    let n = c.in_ok-n.n in
    let b = a.b.now in
    let read = sym c.parse_prefix-f.ensures ∙ ap answer c.in-Ok.is in
    let view = c.found_view.ensures.0 ∙ found-view n b _ c.parse_prefix-f.ensures in
    let low = leb 1 a.s in
    let high = leb a.s n in
    let sender = test in
    let big = h.room in (
      h.long,
      h.can-step,
      c.in_ok-n.ensures.counted,
      leb-true _ _ (both_left low high sender),
      leb-true _ _ (both_right low high sender),
      found-allowed n b _ _ read _ view,
      omega (arith, big),
      sym (take-length b) ∙ ap (λ (j : ℕ). take j b) (sym c.if-end-b.true)
          ∙ found-bytes n b _ _ read _ view,
    )

pub returns-then-end-b : goal.returns-then-end-b
returns-then-end-b c =
    let a = c.args in
    let test : both (leb 1 a.s) (leb a.s c.in_ok-n.n) ≡ true = search rules in
    let sized : both (leb 1 (length a.b.now)) (leb (length a.b.now) frame_most) ≡ true = search rules in
    let b = a.b.now in
    let h = admitted frame_output a.r.now a.out.now (sym c.in_ok-n.ensures.refused) in
    let e = c.in_ok-n.ensures.counted in
    let n = c.in_ok-n.n in
    let sender = ap (λ (j : ℕ). both (leb 1 a.s) (leb a.s j)) e ∙ test in
    let m = c.in-Ok.m in
    let read = sym c.parse_prefix-f.ensures ∙ ap answer c.in-Ok.is in
    let view = c.found_view.ensures.0 ∙ found-view n b _ c.parse_prefix-f.ensures in
    becomes-shown c.take_message.result _ _ _ _
    (is_one a.r.now a.s b a.out.now h sender sized m
    (ap (λ (j : ℕ). front j b) e ∙ read ∙ ap (λ (k : ℕ). returned (m, k)) c.if-end-b.true)
    _ (view ∙ ap (λ (j : ℕ). front_part j b) (sym e)))
    c.take_message.ensures

pub judge-requires : goal.judge-requires
judge-requires c =
    let a = c.args in
    let test : both (leb 1 a.s) (leb a.s c.in_ok-n.n) ≡ true = search rules in
    let h = admitted frame_output a.r.now a.out.now (sym c.in_ok-n.ensures.refused) in
    let e = c.in_ok-n.ensures.counted in
    let low = leb 1 a.s in
    let high = leb a.s c.in_ok-n.n in
    let sender = test in (
      h.long,
      subst (λ (j : ℕ). 1 ≤ j) e (parts _ h.can-step).n-low,
      small_n a.r.now h.can-step e,
      leb-true _ _ (both_left low high sender),
      leb-true _ _ (both_right low high sender),
      c.parse_prefix-f.ensures,
    )

pub returns-in_err-judge-in-Ok : goal.returns-in_err-judge-in-Ok
returns-in_err-judge-in-Ok c =
    let a = c.args in
    let test : both (leb 1 a.s) (leb a.s c.in_ok-n.n) ≡ true = search rules in
    let sized : both (leb 1 (length a.b.now)) (leb (length a.b.now) frame_most) ≡ true = search rules in
    let b = a.b.now in
    let h = admitted frame_output a.r.now a.out.now (sym c.in_ok-n.ensures.refused) in
    let e = c.in_ok-n.ensures.counted in
    let sender = ap (λ (j : ℕ). both (leb 1 a.s) (leb a.s j)) e ∙ test in
    let k = c.in_err-judge-in-Ok.field-0.0 in
    let p = err_from_is_err_and c.from_residual-in_err-judge-in-Ok.result
    c.from_residual-in_err-judge-in-Ok.ensures.1 in
    rw (p.1, p.2) (refuses-shown k (is-fault a.r.now a.s b a.out.now h sender sized
    (c.in_err-judge-in-Ok.ensures ∙ ap (λ (j : ℕ). verdict j a.s (record_of a.r.now) b) (sym e)) (number-some k)))

pub take_all-requires : goal.take_all-requires
take_all-requires c =
    let a = c.args in
    let test : both (leb 1 a.s) (leb a.s c.in_ok-n.n) ≡ true = search rules in
    let sized : both (leb 1 (length a.b.now)) (leb (length a.b.now) frame_most) ≡ true = search rules in
    let b = a.b.now in
    let h = admitted frame_output a.r.now a.out.now (sym c.in_ok-n.ensures.refused) in
    let e = c.in_ok-n.ensures.counted in
    let sender = ap (λ (j : ℕ). both (leb 1 a.s) (leb a.s j)) e ∙ test in (
      subst (λ (j : ℕ). Goes a.r.now j a.s b a.out.now) e
          (no-fault a.r.now a.s b a.out.now h sender sized
          (c.in_ok-judge-in-Ok.ensures ∙ ap (λ (j : ℕ). verdict j a.s (record_of a.r.now) b)
          (sym e))
          ).1,
      c.parse_prefix-f.ensures,
    )

pub returns-in_ok-judge-in-Ok : goal.returns-in_ok-judge-in-Ok
returns-in_ok-judge-in-Ok c =
    let a = c.args in
    let test : both (leb 1 a.s) (leb a.s c.in_ok-n.n) ≡ true = search rules in
    let sized : both (leb 1 (length a.b.now)) (leb (length a.b.now) frame_most) ≡ true = search rules in
    let b = a.b.now in
    let h = admitted frame_output a.r.now a.out.now (sym c.in_ok-n.ensures.refused) in
    let e = c.in_ok-n.ensures.counted in
    let sender = ap (λ (j : ℕ). both (leb 1 a.s) (leb a.s j)) e ∙ test in
    let free = no-fault a.r.now a.s b a.out.now h sender sized
    (c.in_ok-judge-in-Ok.ensures ∙ ap (λ (j : ℕ). verdict j a.s (record_of a.r.now) b) (sym e)) in
    becomes-shown c.take_all.result _ _ _ _
    (goes a.r.now a.s b a.out.now h sender sized free.0 free.1.ends.1)
    c.take_all.ensures

pub returns-in-Err : goal.returns-in-Err
returns-in-Err c =
    let a = c.args in
    let test : both (leb 1 a.s) (leb a.s c.in_ok-n.n) ≡ true = search rules in
    let sized : both (leb 1 (length a.b.now)) (leb (length a.b.now) frame_most) ≡ true = search rules in
    let b = a.b.now in
    let h = admitted frame_output a.r.now a.out.now (sym c.in_ok-n.ensures.refused) in
    let e = c.in_ok-n.ensures.counted in
    let sender = ap (λ (j : ℕ). both (leb 1 a.s) (leb a.s j)) e ∙ test in
    let read = sym c.parse_prefix-f.ensures ∙ ap answer c.in-Err.is in
    let some = leb-true _ _ (both_left (leb 1 (length b)) (leb (length b) frame_most) sized) in
    refuses-shown Layout (is-7 a.r.now a.s b a.out.now h sender sized
    (whole-none (record_of a.r.now).n b _ (ap (λ (j : ℕ). front j b) e ∙ read) some))
