-- `session::read_bytes` meets its contract: after i turns its loop has what the definition has after i.
use Rattle.session.proofs.Turning.{Read}
use Rattle.session.proofs.read_bytes.Given as goal

abbrev pub invariant-loop-x : goal.invariant-loop-x
invariant-loop-x l =
    Read l.initial.progress l.front l.initial.m l.initial.out l.x-index l.progress l.m l.out l.end
