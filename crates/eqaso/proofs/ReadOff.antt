-- Two computed runs as the definitions of operations read them.
use native.Mathlib.Decide.{ℕ_discrete, dec_le, dec_lt}
use mathlib.Core.Path.{◌≡◌, refl}
use mathlib.Core.Bool.{decide}
use mathlib.Core.List.{[], ◌∷◌}
use Rattle.logs.specs.Count.{count}
use Rattle.logs.specs.Update.{upd, upd2}
use Rattle.history.specs.Message.{absent}
use Rattle.history.specs.Event.{round1, done, shown, direct, sent_to}
use Rattle.history.specs.Trace.{updating, scanning, begun, unfinished, ended, first_ending, fate, tags_sent, own_tags}
use Rattle.history.specs.Trace.{largest, first_above, tag_at}
use Rattle.algorithm.specs.Algorithm.{same, limit, has, included_up_to, newest, table, kept, move_on}
use Rattle.eqaso.specs.Cluster.{entries, roomy, event, trace_from, trace}
use Rattle.eqaso.specs.Claims.{sixteen}
use Rattle.eqaso.proofs.Runs.{session, cut-but-shown}

-- Document 01's session: the update began at index 0 with report 7, ended at index 10 and has tag 1; the scan began at
-- index 12, ended at index 16 and shows it.
session-read : (begun (trace 1 0 sixteen session) 0 ≡ updating 1 7)
    × (fate (trace 1 0 sixteen session) 0 ≡ ended 10 (done (direct round1) (record { tag = 1; report = 7 } ∷ [])))
    × (tag_at (trace 1 0 sixteen session) 0 1 ≡ 1)
    × (begun (trace 1 0 sixteen session) 12 ≡ scanning 1)
    × (fate (trace 1 0 sixteen session) 12 ≡ ended 16 (shown (direct round1) (record { tag = 1; report = 7 } ∷ [])))
unfolding trace_from event roomy sent_to entries move_on kept table newest included_up_to has limit same upd upd2 count
    ℕ_discrete dec_le dec_lt decide first_ending tags_sent own_tags largest first_above
session-read = (refl, refl, refl, refl, refl)

-- The update of node 3 that was cut: unfinished, yet it has tag 1, and the scan that began at index 31 shows it.
cut-read : (begun (trace 3 1 sixteen cut-but-shown) 0 ≡ updating 3 3)
    × (fate (trace 3 1 sixteen cut-but-shown) 0 ≡ unfinished)
    × (tag_at (trace 3 1 sixteen cut-but-shown) 0 3 ≡ 1)
unfolding trace_from event roomy sent_to entries move_on kept table newest included_up_to has limit same upd upd2 count
    ℕ_discrete dec_le dec_lt decide first_ending tags_sent own_tags largest first_above
cut-read = (refl, refl, refl)

shown_read : fate (trace 3 1 sixteen cut-but-shown) 31
    ≡ ended 42 (shown (direct round1) (absent ∷ record { tag = 1; report = 2 } ∷ record { tag = 1; report = 3 } ∷ []))
unfolding trace_from event roomy sent_to entries move_on kept table newest included_up_to has limit same upd upd2 count
    ℕ_discrete dec_le dec_lt decide first_ending
shown_read = refl
