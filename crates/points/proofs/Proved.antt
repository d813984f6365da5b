-- The points hold of the code, all of them.
use mathlib.Core.Path.{refl}
use Rattle.points.specs.Points.{Points}
use Rattle.points.proofs.Messages.{sizes-hold, faults-hold, read-one-holds, good-bytes}
use Rattle.points.proofs.LastTag.{last-tag-holds}
use Rattle.points.proofs.Stops.{stops-hold}
use Rattle.points.proofs.Instance.{absences-hold}
use Rattle.points.proofs.Channels.{channels-hold}
use Rattle.points.proofs.Figures.{three-and-five-holds}

pub points : Points
points = record {
  sizes = sizes-hold;
  faults = faults-hold;
  read-one = read-one-holds;
  good-1 = good-bytes 1 refl;
  good-16 = good-bytes 16 refl;
  last-tag = last-tag-holds;
  stops = stops-hold;
  absences = absences-hold;
  channels = channels-hold;
  three-and-five = three-and-five-holds;
}
