-- Pages and figures computed: a page as it looks, and the greatest figure, which some view reaches.
use Rattle.std.specs.Prelude.{ℕ, ◌≡◌, List, [], ◌∷◌, ◌++◌}
use Prim.Native.Char.{code}
use Prim.Native.String.{String, [] as ε, ◌∷◌ as ◌∷ˢ◌}
use Rattle.octets.specs.Answer.{returned}
use Rattle.octets.specs.Bytes.{Bytes}
use Rattle.octets.specs.Loop.{join}
use Rattle.view.specs.Size.{nodes}
use Rattle.view.specs.Report.{no_report}
use Rattle.view.specs.View.{entry_bytes}
use Rattle.figures.specs.Figures.{count_most, figure_most, figures_of}
use Rattle.figures.specs.declared.Totals.{Totals}
use Rattle.page.specs.Page.{page_of}

-- the bytes of a text
abbrev pub text_bytes : String → List ℕ
text_bytes ε = []
text_bytes (c ∷ˢ s) = code c ∷ text_bytes s

-- Two of three nodes have reported, the third zeros in three counts.
abbrev pub example_view : List ℕ
example_view =
    entry_bytes 7 (record { extensions = 10; lines = 2; waiting = 65535; wakeups = 4 }) ++ entry_bytes 0 no_report
    ++ entry_bytes 1 (record { extensions = 5; lines = 0; waiting = 0; wakeups = 0 })

abbrev pub example_page : List ℕ
example_page =
    text_bytes " 1      10       2   65535       4\n" ++ text_bytes " 2       -       -       -       -\n"
    ++ text_bytes " 3       5       0       0       0\n" ++ text_bytes "==      15       2   65535       4\n"

abbrev pub Example : Type 0
Example = page_of 3 example_view ≡ returned example_page

-- A view of the most nodes, each of which has the greatest counts.
abbrev pub full : List ℕ
full =
    join nodes (λ i. entry_bytes 1
    (record { extensions = count_most; lines = count_most; waiting = count_most; wakeups = count_most }))

abbrev pub Reached : Type 0
Reached = Bytes full × ((t : Totals) × (figures_of nodes full ≡ returned t) × (t.extensions ≡ figure_most))
