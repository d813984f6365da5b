-- Where the parts of a record that is written end.
use Prim.Native.Nat.{ℕ, ◌+◌, ◌*◌}
use mathlib.Core.Path.{◌≡◌, refl, ap, ◌∙◌}
use native.Mathlib.Omega.{arith}
use mathlib.Core.List.{◌++◌}
use lib.ListN.{length, length-append}
use Rattle.octets.specs.Word.{word_size, word_bytes}
use Rattle.octets.proofs.Word.{length-word_bytes}
use Rattle.view.specs.Size.{nodes, view_size}
use Rattle.view.specs.View.{view_bytes}
use Rattle.view.proofs.ViewBytes.{length-view_bytes}
use Rattle.table.specs.Table.{cells}
use Rattle.record.specs.declared.Node.{Node}
use Rattle.record.specs.declared.Operation.TheVariants.{Update, Scan}
use Rattle.record.specs.declared.Wait.{Wait}
use Rattle.record.specs.declared.Wait.TheVariants.{Idle, Reading, Writing, Comparing, Borrowing}
use Rattle.region.specs.Record.{n_place, code_place, report_place, heard_place, last_in, views, view_place, record_size}
use Rattle.region.specs.Record.{wait_words, wait_bytes, head_in, numbers, head_bytes, record_bytes}
use Rattle.region.specs.declared.head.Head.{Head}

pub six-words : (w : Wait) → length (wait_words w) ≡ 6
six-words Idle = refl
six-words (Reading (Update p) a m) = refl
six-words (Reading Scan a m) = refl
six-words (Writing k i r a) = refl
six-words (Comparing k i r) = refl
six-words (Borrowing k r) = refl

pub wait-end : (w : Wait) → code_place + length (word_bytes (wait_words w)) ≡ report_place
wait-end w = ap (λ (k : ℕ). code_place + k) (length-word_bytes (wait_words w) ∙ ap (λ (k : ℕ). word_size * k)
    (six-words w))

pub numbers-end : (h : Head) → n_place + length (word_bytes (numbers h)) ≡ code_place
numbers-end h = ap (λ (k : ℕ). n_place + k) (length-word_bytes (numbers h))

wait-size : (w : Wait) → code_place + length (wait_bytes w) ≡ heard_place
wait-size w = simp length-append (omega (arith, wait-end w))

pub head-end : (h : Head) → n_place + length (head_bytes h) ≡ heard_place
head-end h =
    let e : length (head_bytes h) ≡ length (word_bytes (numbers h)) + length (wait_bytes h.wait)
    = length-append (word_bytes (numbers h)) (wait_bytes h.wait) in
    omega (arith, numbers-end h, wait-size h.wait)

pub heard-end : (c : Node) → length c.heard ≡ cells
    → n_place + length (head_bytes (head_in c) ++ word_bytes c.heard) ≡ view_place last_in
heard-end c h =
    let e : length (head_bytes (head_in c) ++ word_bytes c.heard) ≡ length (head_bytes (head_in c)) + length
    (word_bytes c.heard)
    = length-append (head_bytes (head_in c)) (word_bytes c.heard) in
    omega (arith, head-end (head_in c), length-word_bytes c.heard)

pub length-record_bytes : (c : Node) → length c.heard ≡ cells → length (record_bytes c) ≡ record_size
unfolding record_bytes
length-record_bytes c h =
    let x = head_bytes (head_in c) ++ word_bytes c.heard in
    let p = view_bytes nodes c.last in
    let q = view_bytes nodes c.atmax in
    let r = view_bytes nodes c.atround in
    let s = view_bytes nodes c.keptview in
    let tail : length (p ++ q ++ r ++ s) ≡ view_size nodes * views =
    simp length-append (omega (
      arith,
      length-view_bytes nodes c.last,
      length-view_bytes nodes c.atmax,
      length-view_bytes nodes c.atround,
      length-view_bytes nodes c.keptview,
    )) in
    length-append x (p ++ q ++ r ++ s) ∙ omega (arith, heard-end c h, tail)
