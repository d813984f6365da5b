-- `react_bytes::waiting_in` meets its contract.
use mathlib.Core.Path.{◌∙◌}
use Rattle.react_bytes.proofs.Handling.{wait-bytes}
use Rattle.react_bytes.proofs.waiting_in.Goals as goal

pub returns : goal.returns
returns c =
    c.save_wait.ensures ∙ wait-bytes c.args.r.now (λ i. (c.slice_known-1.given i).fits) c.requires c.args.w
