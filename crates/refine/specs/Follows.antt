-- When the bounded record of a node follows its sets. This is document 01's "What a cabinet remembers", said of sets
-- that never forget: of each writer three reports, of each sender and writer the last tag heard, one good view, and the
-- wait of the open operation with its numbers.
use Rattle.std.specs.Prelude.{ℕ, ◌≡◌, List, length}
use Rattle.view.specs.Size.{nodes}
use Rattle.view.specs.declared.View.{View}
use Rattle.table.specs.Table.{heard_of, cells}
use Rattle.table.specs.Quorum.{member}
use Rattle.record.specs.declared.Node.{Node}
use Rattle.record.specs.declared.Operation.{Operation}
use Rattle.record.specs.declared.Wait.{Wait}
use Rattle.record.specs.declared.Wait.TheVariants.{Idle, Reading, Writing, Comparing, Borrowing}
use Rattle.history.specs.Message as M
use Rattle.history.specs.Event as H
use Rattle.history.specs.Order.{OneTo}
use Rattle.algorithm.specs.Algorithm as A
use Rattle.algorithm.specs.Node.{latest}
use Rattle.refine.specs.Meaning.{entry_of, view_meaning, operation_of, kind_of, number}

-- The senders counted, as a test and as a number.
abbrev pub SameNodes : ℕ → A.Nodes → ℕ → Type 0
SameNodes n s a = (k : ℕ) → OneTo n k → s k ≡ member a k

-- The waits are of one kind, with the same numbers.
pub data SameWait (n : ℕ) : A.Wait → Wait → Type 0 where
  idle : SameWait n A.idle Idle
  reading : {o : Operation} {s : A.Nodes} {a u : ℕ} → SameNodes n s a
      → SameWait n (A.reading (operation_of o) s u) (Reading o a u)
  writing : {op : H.Operation} {r : H.Round} {t a : ℕ} {s : A.Nodes} → SameNodes n s a
      → SameWait n (A.writing op r t s) (Writing (kind_of op) (number r) t a)
  comparing : {op : H.Operation} {r : H.Round} {t : ℕ}
      → SameWait n (A.comparing op r t) (Comparing (kind_of op) (number r) t)
  borrowing : {op : H.Operation} {t : ℕ} → SameWait n (A.borrowing op t) (Borrowing (kind_of op) t)

-- The tables have their sizes.
pub record Sized (v : View) : Type 0 where
  pub tags : length v.tags ≡ nodes
  pub reports : length v.reports ≡ nodes

-- A view that holds of each writer the newest value up to tag t.
abbrev pub Holds : ℕ → View → ℕ → List M.Value → Type 0
Holds n v t l = (w : ℕ) → OneTo n w → entry_of v w ≡ A.newest w t l

-- While a round with tag t is open, in the waits writing and comparing, the table for it holds the newest up to t.
-- While none is open document 01 has nothing remembered for one, and the table is not read.
abbrev pub HoldsRound : ℕ → View → A.Wait → List M.Value → Type 0
HoldsRound n v A.idle l = Unit {0}
HoldsRound n v (A.reading op s u) l = Unit {0}
HoldsRound n v (A.writing op r t s) l = Holds n v t l
HoldsRound n v (A.comparing op r t) l = Holds n v t l
HoldsRound n v (A.borrowing op t) l = Unit {0}

-- Record c of node i of n, f of which may stop, follows the sets ν. All but `atround` holds whether a round is open or
-- not.
pub record Follows (n f i : ℕ) (ν : A.Node) (c : Node) : Type 0 where
  pub size : c.n ≡ n
  pub faults : c.f ≡ f
  pub own : c.own ≡ i
  pub maxtag : c.maxtag ≡ ν.maxtag
  pub request : c.request ≡ ν.request
  pub wait : SameWait n ν.wait c.wait
  -- The last tag of each writer that came from each sender, the node itself among them; 0 where none came.
  pub heard : (k w : ℕ) → OneTo n k → OneTo n w → heard_of c.heard k w ≡ (latest w (ν.from k)).tag
  -- Of each writer the last report, the newest up to maxtag, and the newest up to the tag of the open round, each with
  -- its tag; absent where there is none.
  pub last : (w : ℕ) → OneTo n w → entry_of c.last w ≡ latest w ν.all
  pub atmax : Holds n c.atmax ν.maxtag ν.all
  pub atround : HoldsRound n c.atround ν.wait ν.all
  -- The good message that amendment 4 keeps: its tag and its view.
  pub kept : c.kept ≡ (A.kept n ν.goods).tag
  pub keptview : view_meaning n c.keptview ≡ (A.kept n ν.goods).view
  -- The tables have their sizes, whatever n is.
  pub heard-size : length c.heard ≡ cells
  pub last-size : Sized c.last
  pub atmax-size : Sized c.atmax
  pub atround-size : Sized c.atround
  pub keptview-size : Sized c.keptview
