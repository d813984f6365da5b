-- The book of a trace: of every index what began there, what became of it, and the tag that it got. Facts about
-- operations are facts about the book, and each event changes it in at most one place.
use Prim.Native.Nat.{ℕ}
use mathlib.Core.Path.{◌≡◌}
use Rattle.logs.specs.Update.{upd}
use Rattle.history.specs.Trace.{Trace, Begun, nothing, updating, scanning, begun, Fate, unfinished, fate, tag_at}

pub record Book : Type 0 where
  pub begun : ℕ → Begun
  pub fate : ℕ → Fate
  -- The tag of an update; 0 for one that has none, and for all else.
  pub tag : ℕ → ℕ

abbrev pub tag_of : Trace → ℕ → Begun → ℕ
tag_of tr t nothing = 0
tag_of tr t (updating c p) = tag_at tr t c
tag_of tr t (scanning c) = 0

abbrev pub plain : Trace → Book
plain tr = record { begun = begun tr; fate = fate tr; tag = λ t. tag_of tr t (begun tr t) }

-- The book of a trace. Its laws are in Kept; nothing else looks into it.
unfoldable pub book_of : Trace → Book
book_of tr = plain tr

-- The three changes: something begins at index t, the update at t gets tag s, the operation at t meets its fate.
abbrev pub begins : ℕ → Begun → Book → Book
begins t b B = record { begun = upd B.begun t b; fate = B.fate; tag = B.tag }

abbrev pub tags : ℕ → ℕ → Book → Book
tags t s B = record { begun = B.begun; fate = B.fate; tag = upd B.tag t s }

abbrev pub ends : ℕ → Fate → Book → Book
ends t x B = record { begun = B.begun; fate = upd B.fate t x; tag = B.tag }

-- What began is an operation of node c.
abbrev pub At : Begun → ℕ → Type 0
At nothing c = ⊥
At (updating a p) c = a ≡ c
At (scanning a) c = a ≡ c

-- No operation of node c is unfinished.
abbrev pub IdleAt : Book → ℕ → Type 0
IdleAt B c = (u : ℕ) → At (B.begun u) c → ¬ (B.fate u ≡ unfinished)

-- The operation at t is the unfinished one of node c.
pub record OpenAt (B : Book) (c t : ℕ) : Type 0 where
  pub here : At (B.begun t) c
  pub unended : B.fate t ≡ unfinished
  pub only : (u : ℕ) → At (B.begun u) c → B.fate u ≡ unfinished → u ≡ t
