-- `figures::report_at` meets its contract.
use Rattle.std.proofs.Common.{ℕ, ap, ◌∙◌, arith}
use native.Mathlib.Nat.{add-zero}
use Rattle.octets.specs.Bytes.{part}
use Rattle.octets.proofs.Put.{part-part}
use Rattle.view.specs.Size.{report_size}
use Rattle.view.specs.Report.{report_of}
use Rattle.figures.proofs.report_at.Goals as goal

pub returns : goal.returns
unfolding report_of
returns c =
    let v = c.args.v.now in
    let at = c.args.at in
    let first = ap (λ (k : ℕ). part v k 2) (add-zero at) in
    let p = part-part v at report_size 0 2 (omega arith) ∙ first in
    let q = part-part v at report_size 2 2 (omega arith) in
    let r = part-part v at report_size 4 2 (omega arith) in
    let s = part-part v at report_size 6 2 (omega arith) in
    rw (p, q, r, s) (cc)
