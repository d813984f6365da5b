-- `node_bytes::admission` meets its contract.
use borrow.Author.Rules.{rules}
use mathlib.Core.Path.{◌≡◌, sym, ◌∙◌}
use mathlib.Core.Bool.{true, false}
use lib.Dec.{eqb, leb}
use lib.ListN.{length}
use borrow.Author.Tests.{eqb-true}
use Rattle.octets.specs.Test.{both}
use Rattle.octets.proofs.Test.{both_left}
use Rattle.region.specs.Record.{record_size}
use Rattle.node_bytes.proofs.Admitted.{is-12, is-2, is-0, own-n}
use Rattle.node_bytes.proofs.admission.Goals as goal

pub returns-then-not-least-room-clause-refused : goal.returns-then-not-least-room-clause-refused
returns-then-not-least-room-clause-refused c =
    let test : both (eqb (length c.args.r.now) record_size) (leb c.args.least c.args.room) ≡ false
    = search rules in
    is-12 c.args.least c.args.r.now c.args.room
    test

pub is_usable_in-requires : goal.is_usable_in-requires
is_usable_in-requires c =
    let test : both (eqb (length c.args.r.now) record_size) (leb c.args.least c.args.room) ≡ true
    = search rules in
    eqb-true _ _ (both_left (eqb (length c.args.r.now) record_size) _ test)

pub returns-then-not-is_usable_in-clause-refused : goal.returns-then-not-is_usable_in-clause-refused
returns-then-not-is_usable_in-clause-refused c =
    let test : both (eqb (length c.args.r.now) record_size) (leb c.args.least c.args.room) ≡ true
    = search rules in
    is-2 c.args.least c.args.r.now c.args.room test
    (sym c.is_usable_in.ensures ∙ c.if-not-is_usable_in.true)

pub returns-clause-refused : goal.returns-clause-refused
returns-clause-refused c =
    let test : both (eqb (length c.args.r.now) record_size) (leb c.args.least c.args.room) ≡ true
    = search rules in
    is-0 c.args.least c.args.r.now c.args.room test
    (sym c.is_usable_in.ensures ∙ c.if-not-is_usable_in.false)

pub returns-clause-counted : goal.returns-clause-counted
returns-clause-counted c = own-n c.args.r.now c.get_word.ensures
