-- The code's calls with one of them replaced: what the points are held against.
use Prim.Native.Nat.{ℕ}
use mathlib.Core.List.{List}
use Rattle.octets.specs.Answer.{Answer}
use Rattle.wire.specs.declared.Message.{Message}
use Rattle.figures.specs.declared.Totals.{Totals}
use Rattle.record.specs.declared.Node.{Node}
use Rattle.record.specs.declared.Operation.{Operation}
use Rattle.calls.specs.CallResult.{CallResult}
use Rattle.events.specs.Event.{Result}
use Rattle.outgoing.specs.declared.Extent.{Extent}
use Rattle.points.specs.Calls.{Calls, code}

abbrev pub reads : (ℕ → List ℕ → Answer Message) → Calls
reads f = record {
  read = f;
  write = code.write;
  figures = code.figures;
  most_faults = code.most_faults;
  size = code.size;
  fresh-node = code.fresh-node;
  message = code.message;
  fresh = code.fresh;
  begin = code.begin;
  deliver = code.deliver;
  stop = code.stop;
}

abbrev pub writes : (ℕ → Message → List ℕ → List ℕ → Answer ℕ × List ℕ) → Calls
writes f = record {
  read = code.read;
  write = f;
  figures = code.figures;
  most_faults = code.most_faults;
  size = code.size;
  fresh-node = code.fresh-node;
  message = code.message;
  fresh = code.fresh;
  begin = code.begin;
  deliver = code.deliver;
  stop = code.stop;
}

abbrev pub counts : (ℕ → List ℕ → Answer Totals) → Calls
counts f = record {
  read = code.read;
  write = code.write;
  figures = f;
  most_faults = code.most_faults;
  size = code.size;
  fresh-node = code.fresh-node;
  message = code.message;
  fresh = code.fresh;
  begin = code.begin;
  deliver = code.deliver;
  stop = code.stop;
}

abbrev pub fails : (ℕ → ℕ) → Calls
fails f = record {
  read = code.read;
  write = code.write;
  figures = code.figures;
  most_faults = f;
  size = code.size;
  fresh-node = code.fresh-node;
  message = code.message;
  fresh = code.fresh;
  begin = code.begin;
  deliver = code.deliver;
  stop = code.stop;
}

abbrev pub lends : (ℕ → ℕ) → Calls
lends f = record {
  read = code.read;
  write = code.write;
  figures = code.figures;
  most_faults = code.most_faults;
  size = f;
  fresh-node = code.fresh-node;
  message = code.message;
  fresh = code.fresh;
  begin = code.begin;
  deliver = code.deliver;
  stop = code.stop;
}

abbrev pub makes : (ℕ → ℕ → ℕ → CallResult) → Calls
makes f = record {
  read = code.read;
  write = code.write;
  figures = code.figures;
  most_faults = code.most_faults;
  size = code.size;
  fresh-node = f;
  message = code.message;
  fresh = code.fresh;
  begin = code.begin;
  deliver = code.deliver;
  stop = code.stop;
}

abbrev pub hands : (Node → ℕ → List ℕ → List ℕ → CallResult) → Calls
hands f = record {
  read = code.read;
  write = code.write;
  figures = code.figures;
  most_faults = code.most_faults;
  size = code.size;
  fresh-node = code.fresh-node;
  message = f;
  fresh = code.fresh;
  begin = code.begin;
  deliver = code.deliver;
  stop = code.stop;
}

abbrev pub starts : (ℕ → ℕ → List ℕ → Result) → Calls
starts f = record {
  read = code.read;
  write = code.write;
  figures = code.figures;
  most_faults = code.most_faults;
  size = code.size;
  fresh-node = code.fresh-node;
  message = code.message;
  fresh = f;
  begin = code.begin;
  deliver = code.deliver;
  stop = code.stop;
}

abbrev pub begins : (ℕ → Operation → Extent → List ℕ → Result) → Calls
begins f = record {
  read = code.read;
  write = code.write;
  figures = code.figures;
  most_faults = code.most_faults;
  size = code.size;
  fresh-node = code.fresh-node;
  message = code.message;
  fresh = code.fresh;
  begin = f;
  deliver = code.deliver;
  stop = code.stop;
}

abbrev pub delivers : (ℕ → ℕ → Extent → List ℕ → Result) → Calls
delivers f = record {
  read = code.read;
  write = code.write;
  figures = code.figures;
  most_faults = code.most_faults;
  size = code.size;
  fresh-node = code.fresh-node;
  message = code.message;
  fresh = code.fresh;
  begin = code.begin;
  deliver = f;
  stop = code.stop;
}

abbrev pub stops : (ℕ → List ℕ → Result) → Calls
stops f = record {
  read = code.read;
  write = code.write;
  figures = code.figures;
  most_faults = code.most_faults;
  size = code.size;
  fresh-node = code.fresh-node;
  message = code.message;
  fresh = code.fresh;
  begin = code.begin;
  deliver = code.deliver;
  stop = f;
}
