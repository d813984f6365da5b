-- What a line of a session that has ended does. The cluster is at the front of lent memory that has room for the
-- largest.
use Rattle.std.specs.Prelude.{ℕ, min, List, [], Option, Some, None}
use Rattle.octets.specs.Bytes.{part}
use Rattle.block.specs.Block.{change}
use Rattle.layout.specs.Layout.{cluster_size, size_for}
use Rattle.events.specs.Event.{fresh}
use Rattle.lines.specs.declared.Opening.{Opening}
use Rattle.lines.specs.declared.Command.{Command}
use Rattle.input.specs.Carry.{event_in, first_in}
use Rattle.input.specs.declared.Carry.{Carry}
use Rattle.session_line.specs.Act.{ran, printed}
use Rattle.session_progress.specs.Progress.{next, bad_line}
use Rattle.session_progress.specs.declared.Stage.{Stage}
use Rattle.session_progress.specs.declared.Stage.TheVariants.{First, Events, Over}

-- The most nodes of a session, and its memory, which has room for them. What a cluster of n nodes has of it, what
-- stands there, and the memory with that changed.
abbrev pub session_nodes : ℕ
session_nodes = 5

abbrev pub memory_size : ℕ
memory_size = cluster_size session_nodes

abbrev pub lent : ℕ → ℕ
lent n = min (size_for n) memory_size

unfoldable pub cluster : ℕ → List ℕ → List ℕ
cluster n m = part m 0 (lent n)

unfoldable pub on_cluster : ℕ → (List ℕ → List ℕ) → List ℕ → List ℕ
on_cluster n f m = change 0 (lent n) f m

-- What a line that has ended does: where the session is then, its memory, and what is printed.
pub record LineEffect : Type 0 where
  pub stage : Stage
  pub memory : List ℕ
  pub text : List ℕ

-- the first line, which says n and f where it is not bad
abbrev pub opened : Option Opening → List ℕ → LineEffect
opened None m = record { stage = Over; memory = m; text = bad_line 0 }
opened (Some o) m =
    record {
      stage = Events o.nodes 1;
      memory = on_cluster o.nodes (λ b. (fresh o.nodes o.faults b).bytes) m;
      text = [];
    }

-- the line of event e
abbrev pub acted : (n e : ℕ) → Option Command → List ℕ → LineEffect
acted n e l m =
    record {
      stage = Events n (next e);
      memory = on_cluster n (λ b. (ran l b).bytes) m;
      text = printed e l (cluster n m);
    }

unfoldable pub line_effect : Stage → Carry → List ℕ → LineEffect
line_effect First c m = opened (first_in c) m
line_effect (Events n e) c m = acted n e (event_in c) m
line_effect Over c m = record { stage = Over; memory = m; text = [] }
