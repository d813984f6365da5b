-- What is claimed of the record that an accepted call leaves: its bytes are a record that the next call takes, the one
-- that the call by value leaves. And there are such: fresh with right numbers is accepted, and a begin ends nothing.
-- Assumes nothing.
use Rattle.std.specs.Prelude.{ℕ, ◌≡◌, true, List, length}
use Rattle.octets.specs.Answer.{returned}
use Rattle.record.specs.Record.{blank}
use Rattle.record.specs.Usable.{sizes_within, usable}
use Rattle.record.specs.declared.Node.{Node}
use Rattle.record.specs.declared.Operation.{Operation}
use Rattle.step.specs.declared.Ending.{Ending}
use Rattle.step.specs.declared.Ending.TheVariants.{None}
use Rattle.calls.specs.Entry as N
use Rattle.region.specs.Record.{record_size, record_of, codes_known}
use Rattle.calls_bytes.specs.Entry.{fresh, begin, message}

pub record Holds (b : List ℕ) (c : Node) : Type 0 where
  pub long : length b ≡ record_size
  pub known : codes_known b ≡ true
  pub can-step : usable (record_of b) ≡ true
  pub same : record_of b ≡ c

pub record Left : Type 0 where
  pub fresh-left : (n f own : ℕ) (r : List ℕ) → sizes_within n f own ≡ true → length r ≡ record_size
      → ((fresh n f own r).ending ≡ returned None) × Holds (fresh n f own r).bytes (blank n f own)
  pub begin-left : (r : List ℕ) (o : Operation) (out : List ℕ) (x : Ending) → (begin r o out).ending ≡ returned x
      → (x ≡ None) × Holds (begin r o out).bytes (N.begin (record_of r) o out).node
  pub message-left : (r : List ℕ) (s : ℕ) (b out : List ℕ) (x : Ending) → (message r s b out).ending ≡ returned x
      → Holds (message r s b out).bytes (N.message (record_of r) s b out).node
