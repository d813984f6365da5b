-- The calls at one node (document 01: cabinet) on its record in lent bytes, each for every input: what the call by
-- value (crate calls) leaves of the record that the bytes are, with that record in bytes. A refusal leaves every byte.
-- Assumes nothing.
use Rattle.std.specs.Prelude.{ℕ, Bool, true, false, List, [], eqb, leb, length}
use Rattle.octets.specs.Answer.{Answer, returned, refused}
use Rattle.octets.specs.Test.{pick, both}
use Rattle.view.specs.View.{no_view}
use Rattle.record.specs.Usable.{usable}
use Rattle.record.specs.declared.Node.{Node}
use Rattle.record.specs.declared.Operation.{Operation}
use Rattle.step.specs.declared.Ending.{Ending}
use Rattle.step.specs.Told.{Told, told}
use Rattle.calls.specs.CallResult.{CallResult}
use Rattle.calls.specs.Entry as N
use Rattle.region.specs.Record.{record_size, record_of, record_bytes, codes_known}

-- What is told, the same with the rule of an ending, the bytes of the record, how many bytes of messages stand at the
-- start of the output buffer, and the whole buffer.
pub record LentResult : Type 0 where
  pub answer : Told
  pub ending : Answer Ending
  pub bytes : List ℕ
  pub length : ℕ
  pub out : List ℕ

abbrev pub refuse : ℕ → (r out : List ℕ) → LentResult
refuse k r out = record { answer = told (refused k) no_view; ending = refused k; bytes = r; length = 0; out = out }

-- the record's bytes after a call, where r were before it: a refusal leaves them
abbrev pub bytes_after : List ℕ → Answer Ending → Node → List ℕ
bytes_after r (refused k) c = r
bytes_after r (returned e) c = record_bytes c

unfoldable pub in_bytes : List ℕ → CallResult → LentResult
in_bytes r e =
    record {
      answer = e.answer;
      ending = e.ending;
      bytes = bytes_after r e.ending e.node;
      length = e.length;
      out = e.out;
    }

-- the lengths that a call asks for: the record's, and at least so much of an output buffer
abbrev pub fits : (least : ℕ) → List ℕ → (room : ℕ) → Bool
fits least r room = both (eqb (length r) record_size) (leb least room)

-- the bytes are a record that can be used
abbrev pub usable_in : List ℕ → Bool
usable_in r = both (codes_known r) (usable (record_of r))

-- A call at the record that bytes are. 12: another length than the record's, or an output buffer too short. 2: codes of
-- the wait that stand for nothing; then what the call refuses.
unfoldable pub at_record : (r out : List ℕ) → (Node → CallResult) → LentResult
at_record r out call =
    pick (fits N.least_output r (length out)) (pick (codes_known r) (in_bytes r (call (record_of r))) (refuse 2 r out))
    (refuse 12 r out)

-- 12, 2, 5, 6
abbrev pub begin : List ℕ → Operation → List ℕ → LentResult
begin r o out = at_record r out (λ c. N.begin c o out)

-- 12, 2, 3, 7, 9
abbrev pub message : List ℕ → (sender : ℕ) → (bytes out : List ℕ) → LentResult
message r s b out = at_record r out (λ c. N.message c s b out)

-- Fresh node in lent bytes. 1: as by value. 12: another length than the record's.
abbrev pub accepted : {A : Type 0} → Answer A → Bool
accepted (returned x) = true
accepted (refused k) = false

unfoldable pub fresh : (n f own : ℕ) → List ℕ → LentResult
fresh n f own r =
    pick (accepted (N.fresh n f own).ending)
    (pick (eqb (length r) record_size) (in_bytes r (N.fresh n f own)) (refuse 12 r []))
    (in_bytes r (N.fresh n f own))
