-- `step_bytes::plan_in` meets its contract.
use borrow.Author.Tests.{le-leb, lt-leb}
use mathlib.Core.Path.{sym, ap, ◌∙◌}
use native.Mathlib.Omega.{arith}
use Prim.Native.Nat.{◌<◌, max}
use lib.Dec.{leb}
use Rattle.record.proofs.Parts.{parts}
use Rattle.step.specs.Step.{started}
use Rattle.step.proofs.Numbers.{max-most}
use Rattle.step.proofs.Turns.{reading-most, comparing-most}
use Rattle.region.specs.Record.{record_of}
use Rattle.step_bytes.proofs.Cases.{read-on, write-agrees, write-compares, compare-agrees, borrow-on, must-rest}
use Rattle.step_bytes.proofs.Cases.{writing-most, wait-of, maxtag-of, kept_of, answered-of}
use Rattle.step_bytes.proofs.plan_in.Goals as goal

pub returns-in-Reading : goal.returns-in-Reading
returns-in-Reading c =
    let a = c.args in
    let r = a.r.now in
    let h = c.requires in
    let p = parts (record_of r) h.4 in
    let l : a.f < (record_of r).n = rw h.1 h.3 in
    let w = sym (c.load_wait.ensures ∙ wait-of r) ∙ c.in-Reading.is in
    let q = answered-of r a.f h.1 c.is_quorum.ensures c.in-Reading.answered c.members.ensures in
    let t = c.max.ensures ∙ ap (max c.in-Reading.largest) (c.get_word.ensures ∙ maxtag-of r) in (
      λ to sent. read-on a.f (started (record_of r) to sent) l w (sym q ∙ c.if-is_quorum.true) t,
      rw t (max-most _ _ _ (reading-most (record_of r) p w) p.max-high),
    )

pub returns-then-agrees_in : goal.returns-then-agrees_in
returns-then-agrees_in c =
    let a = c.args in
    let r = a.r.now in
    let w = sym (c.load_wait.ensures ∙ wait-of r) ∙ c.in-Writing.is in
    let q = answered-of r a.f c.requires.1 c.if-is_quorum-2.ensures c.in-Writing.answered
    c.members-in-Writing-1.ensures in (
      λ to sent. write-agrees a.f (started (record_of r) to sent) _ _ _ w (sym q) (sym c.if-agrees_in.ensures),
      writing-most (record_of r) (parts (record_of r) c.requires.4) w,
    )

pub returns-else-agrees_in : goal.returns-else-agrees_in
returns-else-agrees_in c =
    let a = c.args in
    let r = a.r.now in
    let w = sym (c.load_wait.ensures ∙ wait-of r) ∙ c.in-Writing.is in
    let q = answered-of r a.f c.requires.1 c.if-is_quorum-2.ensures c.in-Writing.answered
    c.members-in-Writing-1.ensures in (
      λ to sent. write-compares a.f (started (record_of r) to sent) _ _ _ w (sym q) (sym c.if-agrees_in.ensures),
      writing-most (record_of r) (parts (record_of r) c.requires.4) w,
    )

pub returns-in-Comparing : goal.returns-in-Comparing
returns-in-Comparing c =
    let a = c.args in
    let r = a.r.now in
    let w = sym (c.load_wait.ensures ∙ wait-of r) ∙ c.in-Comparing.is in (
      λ to sent. compare-agrees a.f (started (record_of r) to sent) _ _ _ w (sym c.if-agrees_in-2.ensures),
      (comparing-most (record_of r) (parts (record_of r) c.requires.4) w).tag,
    )

pub returns-in-Borrowing : goal.returns-in-Borrowing
returns-in-Borrowing c =
    let a = c.args in
    let r = a.r.now in
    let w = sym (c.load_wait.ensures ∙ wait-of r) ∙ c.in-Borrowing.is in
    let k = c.get_word-in-Borrowing-1.ensures ∙ kept_of r in
    let y = ap (leb c.in-Borrowing.tag) (sym k) ∙ le-leb _ _ c.if-tag-get_word.true in
    (λ to sent. borrow-on a.f (started (record_of r) to sent) w y, omega arith)

pub returns-in_default : goal.returns-in_default
returns-in_default c =
    let a = c.args in
    let r = a.r.now in
    let w = sym (c.load_wait.ensures ∙ wait-of r) ∙ c.in-Reading.is in
    let q = answered-of r a.f c.requires.1 c.if-is_quorum.ensures c.in-Reading.answered c.members.ensures in
    must-rest a.f (record_of r) w (sym q)

pub returns-in_default-2 : goal.returns-in_default-2
returns-in_default-2 c =
    let a = c.args in
    let r = a.r.now in
    let w = sym (c.load_wait.ensures ∙ wait-of r) ∙ c.in-Writing.is in
    let q = answered-of r a.f c.requires.1 c.if-is_quorum-2.ensures c.in-Writing.answered
    c.members-in-Writing-1.ensures in
    must-rest a.f (record_of r) w (sym q)

pub returns-in_default-3 : goal.returns-in_default-3
returns-in_default-3 c =
    let a = c.args in
    let r = a.r.now in
    let w = sym (c.load_wait.ensures ∙ wait-of r) ∙ c.in-Comparing.is in
    must-rest a.f (record_of r) w (sym c.if-agrees_in-2.ensures)

pub returns-in_default-4 : goal.returns-in_default-4
returns-in_default-4 c =
    let a = c.args in
    let r = a.r.now in
    let w = sym (c.load_wait.ensures ∙ wait-of r) ∙ c.in-Borrowing.is in
    let k = c.get_word-in-Borrowing-1.ensures ∙ kept_of r in
    must-rest a.f (record_of r) w (ap (leb c.in-Borrowing.tag) (sym k) ∙ lt-leb _ _ c.if-tag-get_word.false)

pub returns-in_default-5 : goal.returns-in_default-5
returns-in_default-5 c =
    let a = c.args in
    let r = a.r.now in
    must-rest a.f (record_of r) (sym (c.load_wait.ensures ∙ wait-of r) ∙ c.in_default.is) tt
