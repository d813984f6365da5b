-- `reply::let_out` meets its contract. Assumes nothing.
use Rattle.std.proofs.Common.{refl}
use Rattle.calls.specs.Entry.{let_out}
use Rattle.reply.proofs.Tells.{tells-ending}
use Rattle.reply.proofs.let_out.Goals as goal

pub emit_all-length-requires : goal.emit_all-length-requires
emit_all-length-requires c = c.requires

pub returns : goal.returns
unfolding let_out
returns c =
    let step = c.args.s in
    let sent = c.emit_all-length.ensures in
    (tells-ending step.ending step.view _ c.view_shown.ensures, c.view_shown.ensures, refl, sent.0, sent.1)
