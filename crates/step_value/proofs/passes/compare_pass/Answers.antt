-- `step_value::passes::compare_pass` meets its contract. Assumes nothing.
use Rattle.record.proofs.Parts.{parts}
use Rattle.step.proofs.Turns.{comparing-most}
use Rattle.step_value.proofs.passes.compare_pass.Goals as goal

pub agreeing_nodes-requires : goal.agreeing_nodes-requires
agreeing_nodes-requires c = (parts _ c.requires).n-high

pub after_good-requires : goal.after_good-requires
after_good-requires c =
    let d = c.args.s.node in
    let p = parts d c.requires in
    (p.n-high, p.request-high, (comparing-most d p c.in-Comparing.is).tag)

pub after_failed-requires : goal.after_failed-requires
after_failed-requires c =
    let d = c.args.s.node in
    let p = parts d c.requires in
    (p.request-high, (comparing-most d p c.in-Comparing.is).tag)
