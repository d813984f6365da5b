-- Which answer a call on lent bytes gives, case by case. Assumes nothing.
use Prim.Native.Nat.{ℕ}
use mathlib.Core.Path.{◌≡◌}
use mathlib.Core.Bool.{true, false}
use mathlib.Core.List.{List}
use lib.ListN.{length}
use Rattle.record.specs.declared.Node.{Node}
use Rattle.calls.specs.CallResult.{CallResult}
use Rattle.calls.specs.Entry as N
use Rattle.region.specs.Record.{record_of, codes_known}
use Rattle.calls_bytes.specs.Entry.{fits, at_record, in_bytes, refuse}

module _ (r out : List ℕ) (call : Node → CallResult) where
  pub at-12 : fits N.least_output r (length out) ≡ false → at_record r out call ≡ refuse 12 r out
  unfolding at_record
  at-12 h = rw h

  module _ (h : fits N.least_output r (length out) ≡ true) where
    pub at-2 : codes_known r ≡ false → at_record r out call ≡ refuse 2 r out
    unfolding at_record
    at-2 k = rw (h, k)

    pub at-known : codes_known r ≡ true → at_record r out call ≡ in_bytes r (call (record_of r))
    unfolding at_record
    at-known k = rw (h, k)
