-- `wire_parse::parse_prefix` meets its contract.
use mathlib.Core.Path.{sym, ◌∙◌}
use Rattle.wire.proofs.Numbers.{size-most}
use Rattle.wire.proofs.Front.{front-judged, front-size}
use Rattle.wire_parse.proofs.parse_prefix.Goals as goal

pub at_front-requires : goal.at_front-requires
at_front-requires c = size-most c.args.n
    (sym c.is_size.ensures ∙ c.if-not-is_size.false)

pub returns-then-not-is_size : goal.returns-then-not-is_size
returns-then-not-is_size c = sym (front-size c.args.n c.args.b.now (sym c.is_size.ensures ∙ c.if-not-is_size.true))

pub returns : goal.returns
returns c =
    c.at_front.ensures ∙ sym (front-judged c.args.n c.args.b.now (λ i. (c.type_inv.b i).fits)
    (sym c.is_size.ensures ∙ c.if-not-is_size.false))
