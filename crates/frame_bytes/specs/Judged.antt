-- Cited by inner contracts only: how a frame is judged before anything is written. Assumes nothing.
use Rattle.std.specs.Prelude.{ℕ, ◌≤◌, ◌≡◌, Bool, true, false, List, [], ◌∷◌, length}
use Rattle.octets.specs.Answer.{returned}
use Rattle.octets.specs.Test.{pick}
use Rattle.view.specs.View.{view_of}
use Rattle.wire.specs.Codec.{view_part}
use Rattle.table.specs.Loop.{either}
use Rattle.record.specs.Usable.{usable}
use Rattle.record.specs.declared.Node.{Node}
use Rattle.step.specs.declared.Ending.{Ending}
use Rattle.step.specs.React.{react}
use Rattle.step.specs.Stale.{stale_message}
use Rattle.region.specs.Record.{record_size, record_of, codes_known}
use Rattle.calls_bytes.specs.Frame.{is_whole, one_by_one}
use Rattle.calls_bytes.specs.Walk.{Piece, walk}

-- whether one of the messages is stale, at a record that the handlers alone have changed
unfoldable pub any_stale : (n s : ℕ) → Node → List Piece → Bool
any_stale n s c [] = false
any_stale n s c (m ∷ ms) =
    either (stale_message c s m.message)
    (any_stale n s (react c s m.message (view_of n (view_part n m.bytes))).node ms)

-- the refusal of a frame's messages, 0 where there is none; `before` says that an earlier message was stale
abbrev pub verdict_after : (before : Bool) → (n s : ℕ) → Node → List ℕ → ℕ
verdict_after before n s c b = pick (is_whole n b) (pick (either before (any_stale n s c (walk n b))) 9 0) 7

abbrev pub verdict : (n s : ℕ) → Node → List ℕ → ℕ
verdict n s c b = verdict_after false n s c b

-- a frame whose messages are all handled
pub record Goes (r : List ℕ) (n s : ℕ) (b out : List ℕ) : Type 0 where
  pub long : length r ≡ record_size
  pub known : codes_known r ≡ true
  pub can-step : usable (record_of r) ≡ true
  pub n-is : (record_of r).n ≡ n
  pub low : 1 ≤ s
  pub high : s ≤ n
  pub whole : is_whole n b ≡ true
  pub ends : (x : Ending) × ((one_by_one r s b out).ending ≡ returned x)
