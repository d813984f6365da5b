-- `block::keep_record` meets its contract.
use Prim.Native.Nat.{ℕ}
use mathlib.Core.Path.{◌≡◌, sym, ap, ◌∙◌}
use mathlib.Core.List.{List}
use native.Mathlib.Omega.{arith}
use lib.ListN.{length}
use Rattle.octets.specs.Bytes.{part, put}
use Rattle.octets.proofs.Put.{put-over, length_part}
use Rattle.region.specs.Record.{record_of, record_bytes, record_size}
use Rattle.block.specs.Block.{keep_record, record_place}
use Rattle.block.proofs.keep_record.Goals as goal

pub returns : goal.returns
unfolding keep_record
returns c =
    let k = c.args.k.now in
    let r = c.args.r.now in
    let d = record_bytes (record_of r) in
    let l : length d ≡ length (part k record_place record_size) =
    sym (ap (λ (t : List ℕ). length t) c.requires.2) ∙ c.requires.1 ∙ sym (length_part k record_place record_size
    (omega arith)) in
    c.put_halves.ensures ∙ ap (λ (t : List ℕ). put k record_place t) (c.requires.2
    ∙ sym (put-over (part k record_place record_size) d l))
