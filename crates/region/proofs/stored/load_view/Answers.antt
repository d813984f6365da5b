-- `region::stored::load_view` meets its contract.
use mathlib.Core.Path.{◌∙◌, ap, sym, refl}
use Rattle.octets.specs.Bytes.{part}
use Rattle.octets.proofs.Lent.{lent}
use Rattle.view.specs.Size.{nodes, view_size}
use Rattle.view.specs.View.{view_of}
use Rattle.view.proofs.First.{first_read}
use Rattle.region.specs.Record.{view_place}
use Rattle.region.proofs.stored.load_view.Goals as goal

pub returns : goal.returns
returns c =
    let a = c.args in
    let b = a.b.now in
    let at = view_place a.i in
    c.read_view.ensures ∙ ap (view_of a.n) (lent b at (view_size nodes) refl)
    ∙ sym (first_read a.n (part b at (view_size nodes)) c.requires.2)
