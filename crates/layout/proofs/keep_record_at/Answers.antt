-- `layout::keep_record_at` meets its contract.
use Rattle.std.proofs.Common.{ℕ, refl, ap, ◌∙◌, arith}
use Rattle.octets.proofs.Lent.{lent_back}
use Rattle.region.specs.Record.{record_of}
use Rattle.block.specs.Block.{keep_record, change, block_size}
use Rattle.layout.specs.Layout.{on_block}
use Rattle.layout.proofs.keep_record_at.Goals as goal

pub returns : goal.returns
unfolding on_block
returns c =
    let b = c.args.b.now in
    let f = keep_record (record_of c.args.r.now) in
    lent_back b c.block_place-at.result block_size f refl (omega arith) c.keep_record.auto.k c.keep_record.ensures
    ∙ ap (λ (at : ℕ). change at block_size f b) c.block_place-at.ensures
