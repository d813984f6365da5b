-- What a fresh record in lent bytes is, case by case. Assumes nothing.
use Prim.Native.Nat.{ℕ}
use mathlib.Core.Path.{◌≡◌, refl}
use mathlib.Core.Bool.{true, false}
use mathlib.Core.List.{List, []}
use lib.Dec.{eqb}
use lib.ListN.{length, replicate}
use Rattle.octets.specs.Answer.{returned}
use Rattle.octets.specs.Bytes.{put}
use Rattle.octets.specs.Loop.{join}
use Rattle.view.specs.View.{view_bytes}
use Rattle.record.specs.Record.{blank}
use Rattle.record.specs.Usable.{sizes_within}
use Rattle.step.specs.declared.Ending.TheVariants.{None}
use Rattle.step.specs.Told.{nothing}
use Rattle.calls.specs.Entry as N
use Rattle.region.specs.Record.{record_size, n_place, head_in, head_bytes, record_bytes}
use Rattle.calls_bytes.specs.Entry.{in_bytes, refuse, fresh}

module _ (n f own : ℕ) (r : List ℕ) where
  pub none : sizes_within n f own ≡ false → fresh n f own r ≡ refuse 1 r []
  unfolding fresh N.fresh in_bytes
  none h = rw h refl

  module _ (h : sizes_within n f own ≡ true) where
    pub other_length : eqb (length r) record_size ≡ false → fresh n f own r ≡ refuse 12 r []
    unfolding fresh N.fresh
    other_length l = rw (h, l) refl

    pub made : eqb (length r) record_size ≡ true
        → fresh n f own r ≡ record {
          answer = nothing;
          ending = returned None;
          bytes = record_bytes (blank n f own);
          length = 0;
          out = [];
        }
    unfolding fresh N.fresh in_bytes
    made l = rw (h, l) refl

-- zeros with the head of a fresh record are that record
pub blank-bytes : (n f own k : ℕ) → k ≡ record_size
    → put (replicate k 0) n_place (head_bytes (head_in (blank n f own))) ≡ record_bytes (blank n f own)
unfolding put record_bytes view_bytes join
blank-bytes n f own k e = rw e refl
