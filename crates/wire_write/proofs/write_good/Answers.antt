-- `wire_write::write_good` meets its contract.
use Rattle.std.proofs.Common.{◌≡◌, ◌∙◌, ◌≤◌, sym, length, arith}
use Rattle.view.specs.Size.{nodes, view_size}
use Rattle.wire.proofs.Numbers.{size-most, view-length}
use Rattle.wire_write.proofs.write_good.Goals as goal

pub good-requires : goal.good-requires
good-requires c =
    let a = c.args in
    let e : length a.view.now ≡ view_size a.n = view-length a.n a.tag a.view.now
    (sym c.is_held.ensures ∙ c.if-not-is_held.false) in
    let l : a.n ≤ nodes = size-most a.n (sym c.is_size.ensures ∙ c.if-not-is_size.false) in
    omega arith
