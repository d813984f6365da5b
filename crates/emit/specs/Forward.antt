-- Cited by inner contracts only: where a part of a step is one value alone, as what a handler forwards, the bytes that
-- it came in. Assumes nothing.
use Rattle.std.specs.Prelude.{◌≡◌, true, List, [], ℕ}
use Rattle.step.specs.Forward.{is_forward}
use Rattle.step.specs.Step.{listed}
use Rattle.step.specs.declared.Sent.{Sent}
use Rattle.calls.specs.Bytes.{run}

-- b is its bytes
abbrev pub Received : Sent → List ℕ → Type 0
Received m b = is_forward m ≡ true → b ≡ run [] (listed m)
