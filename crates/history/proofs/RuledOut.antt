-- Traces that the claims rule out, each by one clause alone: words to write them down with, and what they share.
use Prim.Native.Nat.{ℕ}
use native.Mathlib.Decide.{ℕ_discrete}
use mathlib.Core.Path.{◌≡◌}
use mathlib.Core.Logic.{⊎_elim}
use mathlib.Core.List.Memᴰ
use mathlib.Core.List.{List, [], ◌∷◌}
use Rattle.logs.specs.Log.{◌∈◌}
use Rattle.history.specs.Message.{Entry, View, value}
use Rattle.history.specs.Event.{Operation, Ending, none, done, shown, direct, round1, begin, deliver, whole}
use Rattle.history.specs.Event.{accepted, Sent}
use Rattle.history.specs.Trace.{Seen, Begun, nothing, updating, scanning}

-- An operation of node c begins.
abbrev pub begins : ℕ → Operation → Seen
begins c op = record { event = begin c op whole; answer = accepted none; sent = [] }

-- Node c handles a message, and gives an ending or none.
abbrev pub handles : ℕ → Ending → List Sent → Seen
handles c e l = record { event = deliver 1 c whole; answer = accepted e; sent = l }

-- A value of writer c, to node 1.
abbrev pub own : (c tag report : ℕ) → List Sent
own c t p = record { to = 1; message = value (record { tag = t; writer = c; report = p }) } ∷ []

abbrev pub entry : (tag report : ℕ) → Entry
entry t p = record { tag = t; report = p }

abbrev pub is_done : View → Ending
is_done v = done (direct round1) v

abbrev pub shows : View → Ending
shows v = shown (direct round1) v

-- The node of an update; 0 for all else.
abbrev pub updater : Begun → ℕ
updater nothing = 0
updater (updating c p) = c
updater (scanning c) = 0

pub in? : (x : ℕ) (l : List ℕ) → Dec (x ∈ l)
in? x [] = no λ i. Memᴰ.not-nil i
in? x (y ∷ l) = go (ℕ_discrete x y) (in? x l)
  where
    go : Dec (x ≡ y) → Dec (x ∈ l) → Dec (x ∈ (y ∷ l))
    go (yes e) d = yes (Memᴰ.head e)
    go (no e) (yes i) = yes (Memᴰ.tail i)
    go (no e) (no h) = no λ i. ⊎_elim e h (Memᴰ.cases_cons i)
