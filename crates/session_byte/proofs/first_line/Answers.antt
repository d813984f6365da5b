-- `session_byte::first_line` meets its contract.
use Rattle.std.proofs.Common.{refl, sym, add-zero}
use Rattle.octets.proofs.Put.{put-nil}
use Rattle.session_byte.proofs.first_line.Goals as goal

pub returns-in-Some : goal.returns-in-Some
returns-in-Some c =
    let x = c.args in
    rw c.in-Some.is (refl, c.fresh_in.ensures, sym (put-nil x.out.now x.at), sym (add-zero x.at))
