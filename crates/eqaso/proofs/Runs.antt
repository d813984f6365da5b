-- Runs of the model, computed: document 01's session, a scan that borrows its view, an update that stops in the middle
-- of sending its value to five, and one whose value a scan shows although it never finished. The answers of another
-- program.
use Prim.Native.Nat.{ℕ, suc}
use native.Mathlib.Decide.{ℕ_discrete, dec_le, dec_lt}
use mathlib.Core.Path.{◌≡◌, refl}
use mathlib.Core.Bool.{decide}
use mathlib.Core.List.{List, [], ◌∷◌, ◌++◌}
use lib.ListN.{replicate, length}
use Rattle.logs.specs.Count.{count}
use Rattle.logs.specs.Update.{upd, upd2}
use Rattle.history.specs.Message.{Entry, absent}
use Rattle.history.specs.Event.{update, scan, round1, none, done, shown, spent, direct, borrowed, Event, begin, deliver}
use Rattle.history.specs.Event.{whole, cut, Response, refused, accepted, Sent, sent_to}
use Rattle.history.specs.Trace.{Trace}
use Rattle.algorithm.specs.Algorithm.{same, limit, has, included_up_to, newest, table, kept, move_on}
use Rattle.eqaso.specs.Cluster.{entries, roomy, event, trace_from, trace}
use Rattle.eqaso.specs.Claims.{sixteen}

-- What a run tells its clients: the events, counted from 1, that were refused or gave an ending.
pub record Told : Type 0 where
  pub event : ℕ
  pub answer : Response

abbrev tell : ℕ → Response → List Told → List Told
tell k (refused c) l = record { event = k; answer = refused c } ∷ l
tell k (accepted none) l = l
tell k (accepted (done r v)) l = record { event = k; answer = accepted (done r v) } ∷ l
tell k (accepted (shown r v)) l = record { event = k; answer = accepted (shown r v) } ∷ l
tell k (accepted spent) l = record { event = k; answer = accepted spent } ∷ l

unfoldable told : ℕ → Trace → List Told
told k [] = []
told k (o ∷ os) = tell k o.answer (told (suc k) os)

-- How many messages a run has let out.
unfoldable let_out : Trace → List Sent
let_out [] = []
let_out (o ∷ os) = o.sent ++ let_out os

abbrev hand : ℕ → ℕ → Event
hand a b = deliver a b whole

abbrev at : ℕ → Response → Told
at k a = record { event = k; answer = a }

abbrev entry : ℕ → ℕ → Entry
entry t p = record { tag = t; report = p }

-- One node: its update lets out eleven messages.
abbrev pub session : List Event
session = (begin 1 (update 7) whole ∷ replicate 11 (hand 1 1)) ++ (begin 1 scan whole ∷ replicate 6 (hand 1 1))

session-told : told 1 (trace 1 0 sixteen session) ≡
    at 11 (accepted (done (direct round1) (entry 1 7 ∷ []))) ∷ at 17 (accepted (shown (direct round1) (entry 1 7 ∷ [])))
    ∷ at 19 (refused 8) ∷ []
unfolding trace_from event roomy sent_to entries move_on kept table newest included_up_to has limit same upd upd2 count
    ℕ_discrete dec_le dec_lt decide told
session-told = refl

session-sends : length (let_out (trace 1 0 sixteen (begin 1 (update 7) whole ∷ replicate 11 (hand 1 1)))) ≡ 11
unfolding trace_from event roomy sent_to entries move_on kept table newest included_up_to has limit same upd upd2 count
    ℕ_discrete dec_le dec_lt decide let_out
session-sends = refl

-- Two nodes: the scan of node 1 fails three rounds beside updates of node 2, and borrows the view of one of them.
abbrev borrowing : List Event
borrowing =
    begin 1 scan whole ∷ hand 1 1 ∷ hand 1 1 ∷ hand 1 2 ∷ hand 2 1 ∷ begin 2 (update 1) whole ∷ hand 2 2 ∷
    hand 2 2 ∷ hand 2 1 ∷ hand 1 2 ∷ hand 1 2 ∷ hand 2 2 ∷ hand 2 2 ∷ hand 2 1 ∷ hand 2 1 ∷ hand 2 1 ∷
    hand 1 2 ∷ hand 1 2 ∷ hand 2 2 ∷ hand 2 2 ∷ hand 2 2 ∷ hand 2 2 ∷ hand 2 1 ∷ hand 2 1 ∷ hand 2 1 ∷
    hand 1 2 ∷ hand 1 2 ∷ hand 2 2 ∷ hand 2 2 ∷ hand 1 1 ∷ hand 1 1 ∷ hand 1 1 ∷ hand 1 1 ∷
    begin 2 (update 2) whole ∷ hand 2 2 ∷ hand 2 2 ∷ hand 2 2 ∷ hand 2 1 ∷ hand 2 1 ∷ hand 2 1 ∷ hand 1 2 ∷
    hand 1 2 ∷ hand 2 2 ∷ hand 2 2 ∷ hand 2 1 ∷ hand 2 1 ∷ hand 2 1 ∷ hand 1 2 ∷ hand 1 2 ∷ hand 2 2 ∷
    hand 2 2 ∷ hand 2 2 ∷ hand 2 2 ∷ hand 2 1 ∷ hand 2 1 ∷ hand 2 1 ∷ hand 1 2 ∷ hand 1 2 ∷ hand 2 2 ∷
    hand 2 2 ∷ hand 1 1 ∷ hand 1 1 ∷ hand 1 1 ∷ hand 1 1 ∷ begin 2 (update 3) whole ∷ hand 2 2 ∷ hand 2 2 ∷
    hand 2 2 ∷ hand 2 1 ∷ hand 2 1 ∷ hand 2 1 ∷ hand 1 2 ∷ hand 1 2 ∷ hand 2 2 ∷ hand 2 2 ∷ hand 2 1 ∷
    hand 2 1 ∷ hand 2 1 ∷ hand 1 2 ∷ hand 1 2 ∷ hand 2 2 ∷ hand 2 2 ∷ hand 2 1 ∷ hand 2 1 ∷ hand 2 1 ∷
    hand 1 1 ∷ hand 1 1 ∷ hand 1 1 ∷ hand 1 1 ∷ []

borrowing-told : told 1 (trace 2 0 sixteen borrowing) ≡
    at 29 (accepted (done (direct round1) (absent ∷ entry 1 1 ∷ [])))
    ∷ at 60 (accepted (done (direct round1) (absent ∷ entry 2 2 ∷ [])))
    ∷ at 89 (accepted (shown borrowed (absent ∷ entry 2 2 ∷ []))) ∷ []
unfolding trace_from event roomy sent_to entries move_on kept table newest included_up_to has limit same upd upd2 count
    ℕ_discrete dec_le dec_lt decide told
borrowing-told = refl

-- Five nodes: node 3 stops after one entry of its value, to node 1; nothing of it goes to the others.
abbrev cutting : List Event
cutting =
    begin 3 (update 844437815230467) whole ∷ hand 3 3 ∷ hand 3 3 ∷ hand 3 1 ∷ hand 1 3 ∷ hand 3 2 ∷
    deliver 2 3 (cut 1) ∷ hand 3 1 ∷ hand 3 1 ∷ hand 3 2 ∷ hand 3 2 ∷ hand 3 4 ∷ hand 3 4 ∷ hand 3 4 ∷
    hand 3 5 ∷ hand 3 5 ∷ hand 3 5 ∷ hand 3 3 ∷ []

cutting-told : told 1 (trace 5 2 sixteen cutting) ≡
    at 9 (refused 8) ∷ at 10 (refused 8) ∷ at 11 (refused 8) ∷ at 13 (refused 8) ∷ at 14 (refused 8) ∷
    at 16 (refused 8) ∷ at 17 (refused 8) ∷ at 18 (refused 4) ∷ []
unfolding trace_from event roomy sent_to entries move_on kept table newest included_up_to has limit same upd upd2 count
    ℕ_discrete dec_le dec_lt decide told
cutting-told = refl

-- Three nodes: node 3 stops after one entry of its value. Node 1 passes it on, and a scan shows it.
abbrev pub cut-but-shown : List Event
cut-but-shown =
    begin 3 (update 3) whole ∷ hand 3 3 ∷ hand 3 3 ∷ hand 3 1 ∷ deliver 1 3 (cut 1) ∷
    begin 2 (update 2) whole ∷ hand 2 2 ∷ hand 2 2 ∷ hand 2 1 ∷ hand 1 2 ∷ hand 2 2 ∷ hand 2 2 ∷ hand 2 1 ∷
    hand 2 1 ∷ hand 2 2 ∷ hand 2 2 ∷ hand 1 2 ∷ hand 1 2 ∷ hand 3 1 ∷ hand 2 2 ∷ hand 2 2 ∷ hand 2 1 ∷
    hand 2 1 ∷ hand 2 1 ∷ hand 2 2 ∷ hand 2 2 ∷ hand 1 2 ∷ hand 1 2 ∷ hand 1 2 ∷ hand 2 2 ∷ hand 2 2 ∷
    begin 2 scan whole ∷ hand 2 2 ∷ hand 2 1 ∷ hand 2 1 ∷ hand 2 1 ∷ hand 2 1 ∷ hand 1 2 ∷ hand 2 2 ∷
    hand 2 1 ∷ hand 1 2 ∷ hand 2 2 ∷ hand 2 2 ∷ []

cut-but-shown-told : told 1 (trace 3 1 sixteen cut-but-shown) ≡
    at 29 (accepted (done (direct round1) (absent ∷ entry 1 2 ∷ entry 1 3 ∷ [])))
    ∷ at 43 (accepted (shown (direct round1) (absent ∷ entry 1 2 ∷ entry 1 3 ∷ []))) ∷ []
unfolding trace_from event roomy sent_to entries move_on kept table newest included_up_to has limit same upd upd2 count
    ℕ_discrete dec_le dec_lt decide told
cut-but-shown-told = refl
