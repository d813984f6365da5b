-- Refusal 9 of a message depends on three parts of the record only, and a step changes them as its handler alone does.
-- Assumes nothing.
use mathlib.Core.Path.{◌≡◌, refl, ap, ◌∙◌}
use mathlib.Core.List.{List}
use Prim.Native.Nat.{ℕ}
use lib.Dec.{ltb}
use lib.ListN.{set}
use Rattle.octets.specs.Test.{pick}
use Rattle.view.specs.declared.View.{View}
use Rattle.wire.specs.declared.Message.{Message}
use Rattle.wire.specs.declared.Message.TheVariants.{Read, ReadAnswer, Write, WriteAnswer, Echo, Value, Good}
use Rattle.table.specs.Table.{tag_of, put_entry, cell}
use Rattle.record.specs.declared.Node.{Node}
use Rattle.step.specs.Stale.{stale_message}
use Rattle.step.specs.React.{raised, received, keep, react}
use Rattle.step.specs.Move.{message_step}
use Rattle.step.proofs.Same.{move-on-keeps}

-- two records that are the same in what refusal 9 looks at
pub record Alike (c d : Node) : Type 0 where
  pub heard : c.heard ≡ d.heard
  pub last : c.last ≡ d.last
  pub maxtag : c.maxtag ≡ d.maxtag

pub alike-stale : (c d : Node) (s : ℕ) (m : Message) → Alike c d → stale_message c s m ≡ stale_message d s m
alike-stale c d s (Value t w p) a = rw (a.heard, a.last, a.maxtag)
alike-stale c d s (Read q) a = refl
alike-stale c d s (ReadAnswer q t) a = refl
alike-stale c d s (Write q t) a = refl
alike-stale c d s (WriteAnswer q t) a = refl
alike-stale c d s (Echo t) a = refl
alike-stale c d s (Good t) a = refl

alike-raised : (c d : Node) (t : ℕ) → Alike c d → Alike (raised c t) (raised d t)
unfolding raised
alike-raised c d t a = record {
  heard = a.heard;
  last = a.last;
  maxtag = ap (λ (x : ℕ). pick (ltb x t) t x) a.maxtag;
}

alike-react : (c d : Node) (s : ℕ) (m : Message) (v u : View) → Alike c d
    → Alike (react c s m v).node (react d s m u).node
unfolding react received keep
alike-react c d s (Read q) v u a = a
alike-react c d s (ReadAnswer q t) v u a = record { heard = a.heard; last = a.last; maxtag = a.maxtag }
alike-react c d s (Write q t) v u a = alike-raised c d t a
alike-react c d s (WriteAnswer q t) v u a = record { heard = a.heard; last = a.last; maxtag = a.maxtag }
alike-react c d s (Echo t) v u a = alike-raised c d t a
alike-react c d s (Value t w p) v u a = record {
  heard = ap (λ (x : List ℕ). set x (cell s w) t) a.heard;
  last = ap (λ (x : View). pick (ltb (tag_of x w) t) (put_entry x w t p) x) a.last;
  maxtag = a.maxtag;
}
alike-react c d s (Good t) v u a = record { heard = a.heard; last = a.last; maxtag = a.maxtag }

pub alike-step : (f : ℕ) (c d : Node) (s : ℕ) (m : Message) (v u : View) → Alike c d
    → Alike (message_step f c s m v).node (react d s m u).node
unfolding message_step
alike-step f c d s m v u a =
    let x = react c s m v in
    let k : Alike x.node (react d s m u).node = alike-react c d s m v u a in
    record {
      heard = move-on-keeps (λ (b : Node). b.heard) (λ b q w z. refl) f x ∙ k.heard;
      last = move-on-keeps (λ (b : Node). b.last) (λ b q w z. refl) f x ∙ k.last;
      maxtag = move-on-keeps (λ (b : Node). b.maxtag) (λ b q w z. refl) f x ∙ k.maxtag;
    }
