-- What an open operation may still send of its own, in bytes, by what it waits for. Assumes nothing.
use Rattle.std.specs.Prelude.{ℕ, ◌+◌, ◌*◌, ◌≤◌, eqb}
use Rattle.octets.specs.Test.{pick}
use Rattle.view.specs.Size.{nodes}
use Rattle.view.specs.declared.View.{View}
use Rattle.wire.specs.Layout.{one_size, two_size, value_size, good_size, message_size}
use Rattle.wire.specs.declared.Message.{Message}
use Rattle.record.specs.Usable.{still_uses}
use Rattle.record.specs.declared.Node.{Node}
use Rattle.record.specs.declared.Operation.TheVariants.{Update, Scan}
use Rattle.record.specs.declared.Wait.{Wait}
use Rattle.record.specs.declared.Wait.TheVariants.{Idle, Reading, Writing, Comparing, Borrowing}
use Rattle.step.specs.Claims.{sizes}
use Rattle.step.specs.Step.{messages}
use Rattle.step.specs.Move.{message_step}

-- how many values, and how many good messages: one after round 0 and one at the end
abbrev pub still_posts : Wait → ℕ
still_posts Idle = 0
still_posts (Reading (Update p) a m) = 1
still_posts (Reading Scan a m) = 0
still_posts (Writing k i r a) = 0
still_posts (Comparing k i r) = 0
still_posts (Borrowing k r) = 0

abbrev pub still_good : Wait → ℕ
still_good Idle = 0
still_good (Reading (Update p) a m) = 2
still_good (Reading Scan a m) = 1
still_good (Writing k i r a) = pick (eqb i 0) 2 1
still_good (Comparing k i r) = pick (eqb i 0) 2 1
still_good (Borrowing k r) = 0

-- Each request number to come goes out with one write.
abbrev pub budget : (n : ℕ) → Wait → ℕ
budget n w = value_size * still_posts w + two_size * still_uses w + good_size n * still_good w

-- the most that it can be: an update that waits for read answers, with sixteen nodes
abbrev pub budget_most : ℕ
budget_most = value_size + 4 * two_size + 2 * good_size nodes

abbrev pub BudgetMost : Type 0
BudgetMost = (n : ℕ) (w : Wait) → n ≤ nodes → budget n w ≤ budget_most

-- What the step of a message sends is paid by the message's bytes, at most two_size for each one_size as a read is
-- answered, and by what the budget falls.
abbrev pub MessagePays : Type 0
MessagePays = (f : ℕ) (c : Node) (s : ℕ) (m : Message) (v : View)
    → one_size * sizes c.n (messages (message_step f c s m v).outbox)
    + one_size * budget c.n (message_step f c s m v).node.wait
    ≤ two_size * message_size c.n m + one_size * budget c.n c.wait
