-- Messages that are sent where their routes say are the entries of a step: the claim of specs/Routes.
use Prim.Native.Nat.{ℕ}
use mathlib.Core.Path.{◌≡◌, refl, ap₂}
use mathlib.Core.List.{List, [], ◌∷◌, ◌++◌}
use Rattle.view.specs.View.{view_bytes}
use Rattle.view.specs.declared.View.{View}
use Rattle.wire.specs.declared.Message.{Message}
use Rattle.wire.specs.declared.Message.TheVariants.{Read, ReadAnswer, Write, WriteAnswer, Echo, Value, Good}
use Rattle.step.specs.Step.{messages}
use Rattle.outgoing.specs.Entries.{Entry, addressed, entries_of}
use Rattle.calls_bytes.specs.Walk.{pieces}
use Rattle.codes.specs.Routes as claim
use Rattle.codes.specs.Routes.{by_route, sent_by}

by-route : (n a : ℕ) (v : View) (m : Message) → by_route n a v m ≡ addressed n a v m
unfolding addressed
by-route n a v (Read q) = refl
by-route n a v (ReadAnswer q t) = refl
by-route n a v (Write q t) = refl
by-route n a v (WriteAnswer q t) = refl
by-route n a v (Echo t) = refl
by-route n a v (Value t w p) = refl
by-route n a v (Good t) = refl

sent : (n a : ℕ) (v : View) (w : List ℕ) (ms : List Message) → sent_by n a v (pieces w ms) ≡ entries_of n a v ms
unfolding sent_by pieces entries_of
sent n a v w [] = refl
sent n a v w (m ∷ ms) = ap₂ (λ (x y : List Entry). x ++ y) (by-route n a v m) (sent n a v w ms)

pub routes : claim.Routes
routes n a o = sent n a o.view (view_bytes n o.view) (messages o)
