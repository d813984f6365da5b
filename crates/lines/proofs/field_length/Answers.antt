-- `lines::field_length` meets its contract.
use Rattle.std.proofs.Common.{rules, arith, sym, ap, ◌∙◌, ◌≡◌, ℕ, ◌+◌, get_or}
use Rattle.lines.specs.Grammar.{space, place_of}
use Rattle.lines.proofs.Fields.{field-none, field-space, field-other, rest_all}
use Rattle.lines.proofs.field_length.Goals as goal

pub returns-in-32 : goal.returns-in-32
returns-in-32 c =
    let t = c.args.t.now in
    let first : get_or t 0 0 ≡ space = search rules in
    let e = c.place_of.ensures in (
      ap (λ (k : ℕ). 1 + k) (e.0 ∙ ap (place_of space) (rest_all t 1))
          ∙ sym (field-space t (λ h. omega arith) first),
      search rules,
    )

pub returns-in_default : goal.returns-in_default
returns-in_default c = (sym (field-none c.args.t.now (omega arith)), search rules)

pub returns-in_default-2 : goal.returns-in_default-2
returns-in_default-2 c = (sym (field-other c.args.t.now (search rules)), search rules)
