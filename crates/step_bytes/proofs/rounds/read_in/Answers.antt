-- `step_bytes::rounds::read_in` meets its contract.
use borrow.Author.Rules.{rules}
use borrow.Author.Tests.{eq-eqb, ne_eqb}
use Rattle.region.specs.Record.{record_of}
use Rattle.step_bytes.proofs.Turned.{is-step, read-spent, read-update, read-scan}
use Rattle.step_bytes.proofs.rounds.read_in.Goals as goal

pub overflow_add-write : goal.overflow_add-write
unfolding record_of
overflow_add-write c = search rules

pub returns-then-t-eq-LIMIT : goal.returns-then-t-eq-LIMIT
returns-then-t-eq-LIMIT c =
    let a = c.args in
    let last = c.if-t-eq-LIMIT.true in
    let bytes = c.close_in.ensures in
    rw c.in-Update.is (is-step (read-spent (record_of a.r.now) a.to a.sent c.in-Update.report a.t
    (eq-eqb _ _ last))
    (simp (c.rested-e.ensures)) bytes)

pub returns-else-t-eq-LIMIT : goal.returns-else-t-eq-LIMIT
unfolding record_of
returns-else-t-eq-LIMIT c =
    let a = c.args in
    let below = c.if-t-eq-LIMIT.false in
    let request = c.get_word.ensures in
    let own = c.get_word-in-Update.ensures in
    let bytes = c.open_in.ensures in
    rw c.in-Update.is (is-step (read-update (record_of a.r.now) a.to a.sent c.in-Update.report a.t
    (ne_eqb _ _ below))
    (simp (c.rested-e.ensures, request, own))
    bytes)

pub returns-in-Scan : goal.returns-in-Scan
unfolding record_of
returns-in-Scan c =
    let a = c.args in
    let request = c.get_word.ensures in
    let bytes = c.open_in-in-Scan.ensures in
    rw c.in-Scan.is (is-step (read-scan (record_of a.r.now) a.to a.sent a.t)
    (simp (c.rested-e.ensures, request)) bytes)
