-- Demand 3 of the code holds: its trace is the trace of the algorithm over sets.
use mathlib.Core.Path.{sym, subst}
use mathlib.Core.List.{map}
use Rattle.history.specs.Order.{SingleOrder, Quiet}
use Rattle.eqaso.proofs.Demand3.{demand3 as over-sets}
use Rattle.mirror.specs.Mirrors.{channel_room}
use Rattle.mirror.specs.Run.{meaning}
use Rattle.mirror.specs.Demand3.{Demand3}
use Rattle.mirror.proofs.Demand2.{demand2}

pub demand3 : Demand3
demand3 n f size half b long es = subst (λ tr. SingleOrder n tr × Quiet n tr)
    (sym ((demand2 n f size half b long).same es)) (over-sets n f channel_room half (map meaning es))
