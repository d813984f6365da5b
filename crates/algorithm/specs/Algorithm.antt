-- The amended Algorithm 1, over sets that never forget: the definition that the bounded record is held to.
-- Lines are those of Algorithm 1 in the source, amendments are the five of document 01. n is the number of nodes, f how
-- many of them may stop, i the node itself.
use Rattle.std.specs.Prelude.{ℕ, suc, max, true, cond, List, [], ◌∷◌, ◌++◌}
use Rattle.std.proofs.Math.Decide.{ℕ_discrete, dec_le, dec_lt}
use Rattle.std.proofs.Math.Logic.{ite}
use Rattle.logs.specs.Update.{upd}
use Rattle.history.specs.Message.{Value, View, Message, read, read_answer, write, write_answer, echo, value, good}
use Rattle.history.specs.Event.{Operation, update, scan, Round, round0, round1, round2, round3, Rule, direct, borrowed}
use Rattle.history.specs.Event.{Ending, none, done, shown, spent}
pub use Rattle.algorithm.specs.Node.{Nodes, nobody, Wait, idle, reading, writing, comparing, borrowing, Good}
pub use Rattle.algorithm.specs.Node.{Node, fresh, with_request_and_wait, topping, holding, keep, with_wait, asking}
pub use Rattle.algorithm.specs.Node.{latest, view_upto, agrees, quorum?}
unfoldable pub use Rattle.algorithm.specs.Node.{same, has, included_up_to, newest, highest, table, kept}

-- The largest tag, and the largest request number.
unfoldable pub limit : ℕ
limit = 9_223_372_036_854_775_807

-- A step: the node after it, the messages in the order produced, and the ending.
pub record Step : Type 0 where
  pub node : Node
  pub sent : List Message
  pub ending : Ending

abbrev pub sending : List Message → Node → Step
sending ms ν = record { node = ν; sent = ms; ending = none }

abbrev pub still : Node → Step
still = sending []

abbrev pub ended : Ending → List Message → Node → Step
ended e ms ν = record { node = ν; sent = ms; ending = e }

-- One part of a step after another. Nothing follows an ending.
abbrev pub then_by : Step → Step → Ending → Step
then_by s t none = record { node = t.node; sent = s.sent ++ t.sent; ending = t.ending }
then_by s t (done r v) = s
then_by s t (shown r v) = s
then_by s t spent = s

abbrev pub ◌then◌ : Step → (Node → Step) → Step
s then part = then_by s (part s.node) s.ending

infixl 50 ◌then◌
-- What a message from node k does at node i, whatever the node waits for.

-- Lines 40 to 42: a value that is new is passed on to all.
abbrev pub receive : ℕ → Value → Node → Step
receive k v ν = cond (has ν.all v) (still (with_values ν.all)) (sending (value v ∷ []) (with_values (v ∷ ν.all)))
  where
    with_values : List Value → Node
    with_values l = holding l (upd ν.from k (v ∷ ν.from k)) ν

-- Lines 43 to 45, and 47: a tag above maxtag. Amendment 1: it is echoed to all, whether it came in a write or an echo.
abbrev pub raise : ℕ → Node → Step
raise t ν = ite (dec_lt ν.maxtag t) (sending (echo t ∷ []) (topping t ν)) (still ν)

-- Lines 36 and 39, with amendment 2: an answer counts if it is of the awaited kind, has the current number and is its
-- sender's first; a write answer must have the written tag too.
abbrev pub read_answered : ℕ → ℕ → ℕ → Node → Wait → Node
read_answered k q t ν (reading op s u) =
    ite (ℕ_discrete q ν.request) (cond (s k) ν (with_wait (reading op (upd s k true) (max u t)) ν)) ν
read_answered k q t ν idle = ν
read_answered k q t ν (writing op r u s) = ν
read_answered k q t ν (comparing op r u) = ν
read_answered k q t ν (borrowing op u) = ν

abbrev pub write_answered : ℕ → ℕ → ℕ → Node → Wait → Node
write_answered k q t ν (writing op r u s) =
    ite (ℕ_discrete q ν.request) (ite (ℕ_discrete t u) (with_wait (writing op r u (upd s k true)) ν) ν) ν
write_answered k q t ν idle = ν
write_answered k q t ν (reading op s u) = ν
write_answered k q t ν (comparing op r u) = ν
write_answered k q t ν (borrowing op u) = ν

-- The seven kinds: line 48 for a read, 43 to 46 for a write, 47 for an echo, 40 to 42 for a value, 49 for a good
-- message. Amendment 4: that one is kept with its view, whatever the node waits for.
abbrev pub react : ℕ → Message → Node → Step
react k (read q) ν = sending (read_answer k q ν.maxtag ∷ []) ν
react k (read_answer to q t) ν = still (read_answered k q t ν ν.wait)
react k (write q t) ν = raise t ν then sending (write_answer k q t ∷ [])
react k (write_answer to q t) ν = still (write_answered k q t ν ν.wait)
react k (echo t) ν = raise t ν
react k (value v) ν = receive k v ν
react k (good t v) ν = still (keep t v ν)

-- How the open operation moves on.

-- Lines 14 and 38: a round opens with its write.
abbrev pub opening : Operation → Round → ℕ → Node → Step
opening op r t ν = sending (write (suc ν.request) t ∷ []) (asking (writing op r t nobody) ν)

-- The ending of an operation that has come by its view (lines 10 and 13).
abbrev pub finish : Operation → Rule → View → Ending
finish (update r) rule v = done rule v
finish scan rule v = shown rule v

-- After a quorum of read answers, with the tag u used (lines 5 to 7, and 12). Amendment 5: an update at the last tag is
-- spent.
abbrev pub after_read : ℕ → ℕ → Operation → Node → Step
after_read i u (update p) ν = ite (ℕ_discrete u limit)
    (ended spent [] (with_wait idle ν))
    (sending (value (record { tag = suc u; writer = i; report = p }) ∷ []) ν then opening (update p) round0 u)
after_read i u scan ν = opening scan round1 u ν

-- After a good round (lines 18 and 19; then 8 and 9 after round 0, and 24 and 25 after the others).
abbrev pub after_good : Operation → Round → ℕ → View → Node → Step
after_good op round0 t v ν = sending (good t v ∷ []) ν then opening op round1 (max (suc t) ν.maxtag)
after_good op round1 t v ν = ended (finish op (direct round1) v) (good t v ∷ []) (with_wait idle ν)
after_good op round2 t v ν = ended (finish op (direct round2) v) (good t v ∷ []) (with_wait idle ν)
after_good op round3 t v ν = ended (finish op (direct round3) v) (good t v ∷ []) (with_wait idle ν)

-- After a failed round (line 21; then 8 and 9 after round 0, 28 and 23 after rounds 1 and 2, 26 to 29 after round 3).
abbrev pub after_failed : Operation → Round → ℕ → Node → Step
after_failed op round0 t ν = opening op round1 (max (suc t) ν.maxtag) ν
after_failed op round1 t ν = opening op round2 ν.maxtag ν
after_failed op round2 t ν = opening op round3 ν.maxtag ν
after_failed op round3 t ν = still (with_wait (borrowing op t) ν)

-- Lines 36 and 37: a quorum has answered the read. Amendment 3: the own maxtag counts too.
abbrev pub read_pass : (n f i : ℕ) → Node → Wait → Step
read_pass n f i ν (reading op s u) = ite (quorum? n f s) (after_read i (max u ν.maxtag) op ν) (still ν)
read_pass n f i ν idle = still ν
read_pass n f i ν (writing op r t s) = still ν
read_pass n f i ν (comparing op r t) = still ν
read_pass n f i ν (borrowing op t) = still ν

-- Line 39: a quorum has answered the write.
abbrev pub write_pass : (n f : ℕ) → Node → Wait → Step
write_pass n f ν (writing op r t s) = ite (quorum? n f s) (still (with_wait (comparing op r t) ν)) (still ν)
write_pass n f ν idle = still ν
write_pass n f ν (reading op s u) = still ν
write_pass n f ν (comparing op r t) = still ν
write_pass n f ν (borrowing op t) = still ν

-- Lines 15 to 21: a quorum has the same values up to the tag, and the round is good if no larger tag is known.
abbrev pub compare_pass : (n f i : ℕ) → Node → Wait → Step
compare_pass n f i ν (comparing op r t) = ite (quorum? n f (agrees i ν t))
    (ite (dec_le ν.maxtag t) (after_good op r t (view_upto n t ν.all) ν) (after_failed op r t ν))
    (still ν)
compare_pass n f i ν idle = still ν
compare_pass n f i ν (reading op s u) = still ν
compare_pass n f i ν (writing op r t s) = still ν
compare_pass n f i ν (borrowing op t) = still ν

-- Lines 29 and 30, with amendment 4: the view of the good message that is kept, once its tag is not below the round's.
abbrev pub borrow_pass : (n : ℕ) → Node → Wait → Step
borrow_pass n ν (borrowing op t) = ite (dec_le t (kept n ν.goods).tag)
    (ended (finish op borrowed (kept n ν.goods).view) [] (with_wait idle ν))
    (still ν)
borrow_pass n ν idle = still ν
borrow_pass n ν (reading op s u) = still ν
borrow_pass n ν (writing op r t s) = still ν
borrow_pass n ν (comparing op r t) = still ν

-- The open operation moves on until it must wait. Each pass is tried once: what one leads to, a later one takes up, and
-- a round that opens has no answers yet, so it waits.
unfoldable pub move_on : (n f i : ℕ) → Step → Step
move_on n f i s = s then (λ ν. read_pass n f i ν ν.wait) then (λ ν. write_pass n f ν ν.wait)
    then (λ ν. compare_pass n f i ν ν.wait) then (λ ν. borrow_pass n ν ν.wait)

-- The two steps of a node: a message m from node k, and the begin of an operation (lines 4, 11 and 35).
abbrev pub message_step : (n f i : ℕ) → ℕ → Message → Node → Step
message_step n f i k m ν = move_on n f i (react k m ν)

abbrev pub begin_step : (n f i : ℕ) → Operation → Node → Step
begin_step n f i op ν = move_on n f i (sending (read (suc ν.request) ∷ []) (asking (reading op nobody 0) ν))
