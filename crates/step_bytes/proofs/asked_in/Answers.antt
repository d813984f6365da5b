-- `step_bytes::asked_in` meets its contract.
use borrow.Author.Rules.{rules}
use Prim.Native.Nat.{ℕ, ◌+◌}
use mathlib.Core.Path.{◌≡◌, ap}
use Rattle.octets.specs.Word.{word}
use Rattle.wire.specs.declared.Message.TheVariants.{Read}
use Rattle.step.specs.declared.Sent.TheVariants.{One}
use Rattle.region.specs.Record.{record_of, request_place}
use Rattle.step_bytes.proofs.asked_in.Goals as goal

pub overflow_add-request : goal.overflow_add-request
unfolding record_of
overflow_add-request c =
    let e : c.get_word-request.result ≡ word c.args.r.now request_place = c.get_word-request.ensures in
    search rules

pub returns : goal.returns
unfolding record_of
returns c = ap (λ (k : ℕ). One (Read (k + 1))) c.get_word-request.ensures
