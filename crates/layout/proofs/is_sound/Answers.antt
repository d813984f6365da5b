-- `layout::is_sound` meets its contract.
use Rattle.std.proofs.Common.{◌≡◌, ◌≤◌, ℕ, true, arith, rules}
use borrow.Author.Tests.{le-leb}
use Rattle.octets.proofs.Test.{both_true}
use Rattle.view.specs.Size.{is_size, nodes}
use Rattle.layout.proofs.Check.{fits-some, fits-length}
use Rattle.layout.proofs.is_sound.Goals as goal

sized : (n : ℕ) → 1 ≤ n → n ≤ nodes → is_size n ≡ true
sized n one most = both_true (le-leb 1 n one) (le-leb n nodes most)

pub bounds-b-0 : goal.bounds-b-0
bounds-b-0 c = let h = fits-some c.args.b.now c.requires in search rules

pub faults_in-f-requires : goal.faults_in-f-requires
faults_in-f-requires c =
    let n = c.from-n.result in
    let size = sized n c.if-n-ge1.true c.if-n-le-NODES.true in
    omega (arith, fits-length c.args.b.now n c.requires c.from-n.ensures size)

pub blocks_sound-requires : goal.blocks_sound-requires
blocks_sound-requires c =
    let n = c.from-n.result in
    let size = sized n c.if-n-ge1.true c.if-n-le-NODES.true in
    (search rules, fits-length c.args.b.now n c.requires c.from-n.ensures size)

pub stopped_nodes-requires : goal.stopped_nodes-requires
stopped_nodes-requires c =
    let n = c.from-n.result in
    let size = sized n c.if-n-ge1.true c.if-n-le-NODES.true in
    (c.if-n-le-NODES.true, fits-length c.args.b.now n c.requires c.from-n.ensures size)
