-- Cited by inner contracts only: how the reader tests the layout, the lengths and the heads of the fields, by kind. The
-- theorem `shape_is` of proofs/ says that these tests find just the bytes that begin with an allowed message.
use Rattle.std.specs.Prelude.{ℕ, ◌+◌, Bool, false, List, ◌∷◌, length, get_or, leb, eqb}
use Rattle.octets.specs.Test.{pick, both}
use Rattle.octets.specs.Bytes.{be, part, same}
use Rattle.view.specs.Size.{report_size, view_size}
use Rattle.wire.specs.Layout.{head_size, number_size, first_head, first_at, second_head, second_at, third_head}
use Rattle.wire.specs.Layout.{third_at}
use Rattle.wire.specs.Layout.{good_head}

-- mark and length of a field stand at a place
unfoldable pub head_at : List ℕ → ℕ → ℕ → ℕ → Bool
head_at b at mark size = same (part b at head_size) (mark ∷ be 2 size)

unfoldable pub two_heads : List ℕ → Bool
two_heads b = both (head_at b first_head 2 number_size) (head_at b second_head 3 number_size)

unfoldable pub value_heads : List ℕ → Bool
value_heads b = both (head_at b first_head 3 number_size) (both (head_at b second_head 4 1)
    (head_at b third_head 5 report_size))

unfoldable pub good_heads : ℕ → List ℕ → Bool
good_heads n b = both (head_at b first_head 3 number_size) (head_at b second_head 6 (view_size n))

abbrev pub two_shape : List ℕ → Bool
two_shape b = both (leb (second_at + number_size) (length b)) (two_heads b)

unfoldable pub shape_as : ℕ → ℕ → List ℕ → Bool
shape_as k n b =
    pick (eqb k 1) (head_at b first_head 2 number_size)
    (pick (eqb k 2) (two_shape b)
    (pick (eqb k 3) (two_shape b)
    (pick (eqb k 4) (two_shape b)
    (pick (eqb k 5) (head_at b first_head 3 number_size)
    (pick (eqb k 6) (both (leb (third_at + report_size) (length b)) (value_heads b))
    (pick (eqb k 7) (both (leb (good_head + view_size n) (length b)) (good_heads n b)) false))))))

unfoldable pub shape : ℕ → List ℕ → Bool
shape n b = both (leb (first_at + number_size) (length b)) (both (head_at b 0 1 1) (shape_as (get_or b 3 0) n b))
