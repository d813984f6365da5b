-- `region::stored::save_tables` meets its contract.
use borrow.Author.Rules.{rules}
use native.Mathlib.Omega.{arith}
use mathlib.Core.Path.{◌≡◌}
use lib.ListN.{length}
use Rattle.octets.specs.Word.{word_bytes}
use Rattle.octets.proofs.Word.{length-word_bytes}
use Rattle.octets.proofs.Put.{put_then}
use Rattle.table.specs.Table.{cells}
use Rattle.region.specs.Record.{view_place, views_bytes, heard_place, last_in}
use Rattle.region.proofs.stored.save_tables.Goals as goal

pub returns : goal.returns
returns c =
    let a = c.args in
    let long : length a.c.heard ≡ cells = search rules in
    put_then a.b.now heard_place (word_bytes a.c.heard) (views_bytes a.c) (view_place last_in) (omega arith)
    (omega (arith, long, length-word_bytes a.c.heard))
    c.put_words.ensures c.save_views.ensures
