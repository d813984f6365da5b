-- `block::keep_node` meets its contract.
use mathlib.Core.Path.{refl}
use mathlib.Core.List.{List}
use Prim.Native.Nat.{ℕ}
use native.Mathlib.Omega.{arith}
use Rattle.octets.specs.Bytes.{put}
use Rattle.octets.proofs.Lent.{lent_back}
use Rattle.region.specs.Record.{record_bytes, record_size}
use Rattle.block.specs.Block.{keep_record, record_place}
use Rattle.block.proofs.keep_node.Goals as goal

pub returns : goal.returns
unfolding keep_record
returns c =
    lent_back c.args.k.now record_place record_size (λ (r : List ℕ). put r 0 (record_bytes c.args.c)) refl
    (omega arith)
    c.save.auto.b
    c.save.ensures
