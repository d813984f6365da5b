-- `step_bytes::ask_in` meets its contract.
use borrow.Author.Rules.{rules}
use mathlib.Core.Path.{◌≡◌, refl, ap}
use Rattle.octets.specs.Word.{word}
use Rattle.region.specs.Record.{record_of, request_place}
use Rattle.region.specs.declared.head.Head.{Head}
use Rattle.step_bytes.proofs.Cases.{begins}
use Rattle.step_bytes.proofs.ask_in.Goals as goal

pub overflow_add-request : goal.overflow_add-request
unfolding record_of
overflow_add-request c =
    let r = c.args.r.now in
    let e : c.head_of-h.result.request ≡ word r request_place = ap (λ (x : Head). x.request)
    c.head_of-h.ensures in
    search rules

pub returns : goal.returns
returns c =
    let a = c.args in
    begins a.r.now (λ i. (c.slice_known-1.given i).fits) c.requires.0 a.o c.head_of-h.ensures
    refl
    c.save_head.ensures
