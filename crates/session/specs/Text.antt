-- A whole session text, as document 01 and request [4] of document 02 have it: n and f on the first line, then one
-- event a line, counted from 1. What it says, what is printed for it, and what it leaves of the cluster.
use Rattle.std.specs.Prelude.{ℕ, Option, Some, None, List, [], ◌∷◌, ◌++◌, map}
use Rattle.layout.specs.Layout.{cluster_size}
use Rattle.events.specs.Event.{fresh_bytes}
use Rattle.lines.specs.Grammar.{event_of, first_of}
use Rattle.lines.specs.declared.Opening.{Opening}
use Rattle.lines.specs.declared.Command.{Command}
use Rattle.input.specs.Input.{lines_of, rest_of}
use Rattle.session_line.specs.Act.{ran, printed}
use Rattle.session_progress.specs.Progress.{next, bad_line}

-- ---- what a text says

-- n and f, where the first line has ended and is not bad; else no nodes
abbrev pub opening_first : List (List ℕ) → Option Opening
opening_first [] = None
opening_first (l ∷ ls) = first_of l

abbrev pub opening_in : List ℕ → Option Opening
opening_in t = opening_first (lines_of t)

abbrev pub nodes_of : Option Opening → ℕ
nodes_of None = 0
nodes_of (Some o) = o.nodes

abbrev pub faults_of : Option Opening → ℕ
faults_of None = 0
faults_of (Some o) = o.faults

abbrev pub nodes_in : List ℕ → ℕ
nodes_in t = nodes_of (opening_in t)

-- the events: a line each, and one bad line more where the last has no line feed
abbrev pub events_after : List (List ℕ) → List (Option Command)
events_after [] = []
events_after (l ∷ ls) = map event_of ls

abbrev pub unended : List ℕ → List (Option Command)
unended [] = []
unended (x ∷ l) = None ∷ []

abbrev pub events_in : List ℕ → List (Option Command)
events_in t = events_after (lines_of t) ++ unended (rest_of t)

-- ---- what it does

-- the cluster's bytes after some lines, each on the bytes as the one before left them
unfoldable pub left_by : List ℕ → List (Option Command) → List ℕ
left_by b [] = b
left_by b (l ∷ ls) = left_by (ran l b).bytes ls

-- what they print, the first of them as event e
unfoldable pub printed_by : (e : ℕ) → List ℕ → List (Option Command) → List ℕ
printed_by e b [] = []
printed_by e b (l ∷ ls) = printed e l b ++ printed_by (next e) (ran l b).bytes ls

-- a fresh cluster of n nodes, f of which may stop; the one that a text's first line says
abbrev pub fresh_of : (n f : ℕ) → List ℕ
fresh_of n f = fresh_bytes n f (cluster_size n)

abbrev pub fresh_in : List ℕ → List ℕ
fresh_in t = fresh_of (nodes_of (opening_in t)) (faults_of (opening_in t))

abbrev pub cluster_after : List ℕ → List ℕ
cluster_after t = left_by (fresh_in t) (events_in t)

abbrev pub output_of : Option Opening → List (Option Command) → List ℕ
output_of None ls = bad_line 0
output_of (Some o) ls = printed_by 1 (fresh_of o.nodes o.faults) ls

unfoldable pub output : List ℕ → List ℕ
output t = output_of (opening_in t) (events_in t)
