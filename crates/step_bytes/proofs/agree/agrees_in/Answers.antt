-- `step_bytes::agree::agrees_in` meets its contract.
use Rattle.step_bytes.proofs.Cases.{agreed-of}
use Rattle.step_bytes.proofs.agree.agrees_in.Goals as goal

pub returns : goal.returns
returns c =
    let a = c.args in
    agreed-of a.r.now a.f c.requires.1 c.is_quorum.ensures c.agreeing_in.ensures
    c.get_word.ensures
