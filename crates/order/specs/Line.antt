-- One line for updates and scans: what has to be known of them, and what the line then is. No word of nodes, messages
-- or time: an update is held by a scan or not, and one item may have to precede another.
use Rattle.std.specs.Prelude.{ℕ, ◌≤◌, ◌<◌, List, ◌↔◌, ◌⊎◌, ◌≡◌}
use Rattle.logs.specs.Log.{◌∈◌}
use Rattle.order.specs.Sequence.{Once, before, None, Last}

pub data Kind : Type 0 where
  update scan : Kind

-- The items, each once; whether a scan holds an update; and two numbers. The size of a scan grows with what it holds.
-- The rank sets updates apart that the same scans hold, and scans of one size.
pub record Items (A : Type 0) : Type 1 where
  pub same : Discrete A
  pub all : List A
  pub once : Once all
  pub kind : A → Kind
  pub size : A → ℕ
  pub rank : A → ℕ
  pub Holds : A → A → Type 0
  pub holds : (s u : A) → Dec (Holds s u)
  pub chain : (s t u : A) → s ∈ all → t ∈ all → u ∈ all → kind s ≡ scan → kind t ≡ scan → kind u ≡ update
      → size s ≤ size t → Holds s u → Holds t u

-- What is asked of two items of the kinds k and l of which the first has to precede the second.
abbrev pub May : {A : Type 0} → Items A → Kind → Kind → A → A → Type 0
May I update update u v = (I.rank u < I.rank v)
    × ((s : _) → s ∈ I.all → I.kind s ≡ scan → I.Holds s v → I.Holds s u)
May I update scan u s = I.Holds s u
May I scan update s u = ¬ I.Holds s u
May I scan scan s t = (I.size s ≤ I.size t) × (I.rank s < I.rank t)

-- A precedence that a line can keep.
abbrev pub Sound : {A : Type 0} → Items A → (A → A → Type 0) → Type 0
Sound I Precedes = (a b : _) → a ∈ I.all → b ∈ I.all → Precedes a b → May I (I.kind a) (I.kind b) a b

-- a stands before b in the list.
abbrev pub Ahead : {A : Type 0} → Items A → A → A → List A → Type 0
Ahead I a b l = a ∈ before I.same b l

-- A line of all items in which a scan comes after just those updates that it holds, and which keeps the precedence.
pub record Line {A : Type 0} (I : Items A) (Precedes : A → A → Type 0) : Type 0 where
  pub line : List A
  pub once : Once line
  pub whole : (a : A) → (a ∈ line) ↔ (a ∈ I.all)
  pub held : (u s : A) → u ∈ I.all → s ∈ I.all → I.kind u ≡ update → I.kind s ≡ scan
      → Ahead I u s line ↔ I.Holds s u
  pub kept : (a b : A) → a ∈ I.all → b ∈ I.all → Precedes a b → Ahead I a b line

-- What the line says of updates of one kind, such as those of one node: if s holds one that all others which s holds
-- have to precede, it is the last one before s; if s holds none, there is none before s.
pub record Latest {A : Type 0} {I : Items A} {Precedes : A → A → Type 0} (L : Line I Precedes) : Type 1 where
  pub last : (P : A → Type 0) → ((a : A) → P a → I.kind a ≡ update) → (s u : A) → s ∈ I.all → u ∈ I.all
      → I.kind s ≡ scan → P u → I.Holds s u
      → ((v : A) → v ∈ I.all → P v → I.Holds s v → (v ≡ u) ⊎ Precedes v u)
      → Last P u (before I.same s L.line)
  pub none : (P : A → Type 0) → ((a : A) → P a → I.kind a ≡ update) → (s : A) → s ∈ I.all → I.kind s ≡ scan
      → ((v : A) → v ∈ I.all → P v → ¬ I.Holds s v) → None P (before I.same s L.line)
