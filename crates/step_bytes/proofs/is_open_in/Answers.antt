-- `step_bytes::is_open_in` meets its contract.
use mathlib.Core.Path.{ap, ◌∙◌}
use Rattle.record.specs.Usable.{is_open}
use Rattle.record.specs.declared.Wait.{Wait}
use Rattle.step_bytes.proofs.Cases.{wait-of}
use Rattle.step_bytes.proofs.is_open_in.Goals as goal

pub returns : goal.returns
returns c =
    let r = c.args.r.now in
    c.has_open.ensures ∙ ap (λ (w : Wait). is_open w) (c.load_wait.ensures ∙ wait-of r)
