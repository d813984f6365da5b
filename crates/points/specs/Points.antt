-- Document 01's points marked P, in its order, those on n, f and stops with document 02's request [4], and then that of
-- its request [3]. `PointsOf` says them of any calls, and `Points` of the code.
use Rattle.std.specs.Prelude.{ℕ, ◌≡◌, true}
use Rattle.view.specs.Size.{is_size}
use Rattle.points.specs.Calls.{Calls, code}
use Rattle.points.specs.Messages.{Sizes, ReadOne, GoodBytes}
use Rattle.points.specs.Faults.{Faults}
use Rattle.points.specs.LastTag.{LastTag}
use Rattle.points.specs.Stops.{Stops}
use Rattle.points.specs.Absences.{Absences}
use Rattle.points.specs.Channels.{Channels}
use Rattle.points.specs.Figures.{ThreeAndFive}

pub record PointsOf (calls : Calls) : Type 0 where
  -- n 0 and 17 refused; 1 and 16 taken.
  pub sizes : Sizes calls
  -- The largest f is 0, 0, 1, 1, 2, 7 for n 1, 2, 3, 4, 5, 16; no other than those with 2f < n is taken.
  pub faults : Faults calls
  -- Read number 1 is 01 0001 01 02 0008 0000000000000001 (hexadecimal); one byte less is 7.
  pub read-one : (n : ℕ) → is_size n ≡ true → ReadOne calls n
  -- Good for n = 1 has 34 bytes, for n = 16 has 274.
  pub good-1 : GoodBytes calls 1 34
  pub good-16 : GoodBytes calls 16 274
  -- Stamp 2^63 - 1 read by an update ends it with 13; one less goes on.
  pub last-tag : LastTag calls
  -- A stop with n = 1 is 10; with n = 3 the second is 10; and so is each where f, as recorded, have stopped.
  pub stops : Stops calls
  -- A look at a fresh house, all delivered, shows n absences.
  pub absences : Absences calls
  -- The sixteenth message on a trunk is taken, the seventeenth is 11.
  pub channels : Channels calls
  -- Two nodes with 3 and 5 calls waiting give 5, nobody gives 0; the other counts are added as before.
  pub three-and-five : ThreeAndFive calls

abbrev pub Points : Type 0
Points = PointsOf code
