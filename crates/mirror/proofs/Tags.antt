-- The tags of the code are as document 01 words them: its trace is the trace of the algorithm over sets.
use mathlib.Core.Path.{sym, subst}
use mathlib.Core.List.{map}
use Rattle.history.specs.Tags.{TagsAsWorded}
use Rattle.eqaso.proofs.Claims.{tags-as-worded}
use Rattle.mirror.specs.Mirrors.{channel_room}
use Rattle.mirror.specs.Run.{meaning}
use Rattle.mirror.specs.Tags.{TagsOfCode}
use Rattle.mirror.proofs.Demand2.{demand2}

pub tags-of-code : TagsOfCode
tags-of-code n f size half b long es = subst TagsAsWorded (sym ((demand2 n f size half b long).same es))
    (tags-as-worded n f channel_room half (map meaning es))
