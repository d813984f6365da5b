-- The record of one node: its fresh form, and a setter for each group of fields that a step changes together. There is
-- no record update here, so that only these definitions list all fields.
-- Assumes nothing.
use Rattle.std.specs.Prelude.{ℕ, List, replicate}
use Rattle.view.specs.declared.View.{View}
use Rattle.view.specs.View.{no_view}
use Rattle.table.specs.Table.{cells}
use Rattle.record.specs.declared.Node.{Node}
use Rattle.record.specs.declared.Wait.{Wait}
use Rattle.record.specs.declared.Wait.TheVariants.{Idle}

-- Lines 1 to 3 of Algorithm 1: nothing received, maxtag 0; and amendment 4's kept message: tag 0 with no report.
abbrev pub blank : (n f own : ℕ) → Node
blank n f own =
    record {
      n = n;
      f = f;
      own = own;
      maxtag = 0;
      request = 0;
      wait = Idle;
      heard = replicate cells 0;
      last = no_view;
      atmax = no_view;
      atround = no_view;
      kept = 0;
      keptview = no_view;
    }

-- another maxtag, and reports held for it
abbrev pub set_top : Node → (maxtag : ℕ) → (atmax : View) → Node
set_top c top held =
    record {
      n = c.n;
      f = c.f;
      own = c.own;
      maxtag = top;
      request = c.request;
      wait = c.wait;
      heard = c.heard;
      last = c.last;
      atmax = held;
      atround = c.atround;
      kept = c.kept;
      keptview = c.keptview;
    }

-- another request number, wait, and reports held for the round
abbrev pub set_wait : Node → (request : ℕ) → Wait → (atround : View) → Node
set_wait c q w held =
    record {
      n = c.n;
      f = c.f;
      own = c.own;
      maxtag = c.maxtag;
      request = q;
      wait = w;
      heard = c.heard;
      last = c.last;
      atmax = c.atmax;
      atround = held;
      kept = c.kept;
      keptview = c.keptview;
    }

-- other tables
abbrev pub set_tables : Node → (heard : List ℕ) → (last atmax atround : View) → Node
set_tables c heard last atmax atround =
    record {
      n = c.n;
      f = c.f;
      own = c.own;
      maxtag = c.maxtag;
      request = c.request;
      wait = c.wait;
      heard = heard;
      last = last;
      atmax = atmax;
      atround = atround;
      kept = c.kept;
      keptview = c.keptview;
    }

-- another good message kept
abbrev pub set_kept : Node → (kept : ℕ) → (keptview : View) → Node
set_kept c t v =
    record {
      n = c.n;
      f = c.f;
      own = c.own;
      maxtag = c.maxtag;
      request = c.request;
      wait = c.wait;
      heard = c.heard;
      last = c.last;
      atmax = c.atmax;
      atround = c.atround;
      kept = t;
      keptview = v;
    }

-- another wait, the rest unchanged
abbrev pub with_wait : Node → Wait → Node
with_wait c w = set_wait c c.request w c.atround

-- no round is open any more
abbrev pub closed : Node → Wait → Node
closed c w = set_wait c c.request w no_view
