-- One node of the amended Algorithm 1: its state, and the sets of values that it decides by. Nothing is ever forgotten
-- here. Lines are those of Algorithm 1 in the source, amendments are the five of document 01.
use Rattle.std.specs.Prelude.{ℕ, zero, suc, ◌-◌, ◌≤◌, max, ◌≡◌, Bool, true, false, cond, ◌&&◌, ◌||◌, List, [], ◌∷◌}
use Rattle.std.specs.Prelude.{◌++◌, replicate}
use Rattle.std.proofs.Math.Decide.{ℕ_discrete, dec_le, dec_lt}
use Rattle.std.proofs.Common.{◌∙◌, ap}
use Rattle.std.proofs.Math.Logic.{ite}
use Rattle.std.proofs.Math.Bool.{decide}
use Rattle.logs.specs.Count.{count}
use Rattle.history.specs.Message.{Value, of, Entry, absent, View}
use Rattle.history.specs.Event.{Operation, Round}

-- Who has answered the current request.
abbrev pub Nodes : Type 0
Nodes = ℕ → Bool

abbrev pub nobody : Nodes
nobody k = false

-- What the open operation waits for: a quorum of read answers (line 36), of write answers (line 39), of equal sets
-- (line 15), or a good message (line 29).
pub data Wait : Type 0 where
  idle : Wait
  reading : Operation → (answered : Nodes) (largest : ℕ) → Wait
  writing : Operation → Round → (tag : ℕ) (answered : Nodes) → Wait
  comparing : Operation → Round → (tag : ℕ) → Wait
  borrowing : Operation → (tag : ℕ) → Wait

pub record Good : Type 0 where
  pub tag : ℕ
  pub view : View

-- The state of a node. Lists stand for sets and only grow, newest first.
pub record Node : Type 0 where
  -- V[i], the node's own: every value received from anybody.
  pub all : List Value
  -- V[j] for another node j: the values received from it.
  pub from : ℕ → List Value
  -- Document 01's top stamp: the largest tag received in a write or an echo.
  pub maxtag : ℕ
  -- Every good message received, in place of the source's D (amendment 4).
  pub goods : List Good
  -- The last request number used.
  pub request : ℕ
  pub wait : Wait

-- Lines 1 to 3.
abbrev pub fresh : Node
fresh = record { all = []; from = λ j. []; maxtag = 0; goods = []; request = 0; wait = idle }

-- The node with another request number and wait, another maxtag, other values.
abbrev pub with_request_and_wait : ℕ → Wait → Node → Node
with_request_and_wait q w ν =
    record { all = ν.all; from = ν.from; maxtag = ν.maxtag; goods = ν.goods; request = q; wait = w }

abbrev pub topping : ℕ → Node → Node
topping t ν =
    record { all = ν.all; from = ν.from; maxtag = t; goods = ν.goods; request = ν.request; wait = ν.wait }

abbrev pub holding : List Value → (ℕ → List Value) → Node → Node
holding a g ν = record { all = a; from = g; maxtag = ν.maxtag; goods = ν.goods; request = ν.request; wait = ν.wait }

-- The node with one good message more.
abbrev pub keep : ℕ → View → Node → Node
keep t v ν = record {
  all = ν.all;
  from = ν.from;
  maxtag = ν.maxtag;
  goods = record { tag = t; view = v } ∷ ν.goods;
  request = ν.request;
  wait = ν.wait;
}

-- The node with another wait, and with the next request number used besides.
abbrev pub with_wait : Wait → Node → Node
with_wait w ν = with_request_and_wait ν.request w ν

abbrev pub asking : Wait → Node → Node
asking w ν = with_request_and_wait (suc ν.request) w ν

-- Sets of values.

abbrev same_by : (a b : Value) → Dec (a.tag ≡ b.tag) → Dec (a.writer ≡ b.writer) → Dec (a.report ≡ b.report)
    → Dec (a ≡ b)
same_by a b (yes p) (yes q) (yes r) = yes
    (ap (λ x. of x a.writer a.report) p ∙ ap (λ x. of b.tag x a.report) q ∙ ap (of b.tag b.writer) r)
same_by a b (no p) q r = no λ e. p (ap (λ v. v.tag) e)
same_by a b (yes p) (no q) r = no λ e. q (ap (λ v. v.writer) e)
same_by a b (yes p) (yes q) (no r) = no λ e. r (ap (λ v. v.report) e)

-- Whether two values are the same one.
unfoldable pub same : (a b : Value) → Dec (a ≡ b)
same a b = same_by a b (ℕ_discrete a.tag b.tag) (ℕ_discrete a.writer b.writer)
    (ℕ_discrete a.report b.report)

unfoldable pub has : List Value → Value → Bool
has [] v = false
has (x ∷ l) v = decide (same v x) || has l v

-- Each value of the first list up to tag t is in the second.
unfoldable pub included_up_to : ℕ → List Value → List Value → Bool
included_up_to t [] b = true
included_up_to t (v ∷ a) b = cond (decide (dec_le v.tag t)) (has b v) true && included_up_to t a b

-- The newest value of writer w up to tag t (line 33).
unfoldable pub newest : ℕ → ℕ → List Value → Entry
newest w t [] = absent
newest w t (v ∷ l) =
    cond (decide (ℕ_discrete v.writer w) && decide (dec_le v.tag t) && decide (dec_lt (newest w t l).tag v.tag))
    (record { tag = v.tag; report = v.report })
    (newest w t l)

-- The newest value of writer w, whatever its tag.
unfoldable pub highest : List Value → ℕ
highest [] = 0
highest (v ∷ l) = max v.tag (highest l)

abbrev pub latest : ℕ → List Value → Entry
latest w l = newest w (highest l) l

-- f of the numbers from 1 to n, in their order.
unfoldable pub table : {A : Type 0} → (ℕ → A) → ℕ → List A
table g zero = []
table g (suc n) = table g n ++ (g (suc n) ∷ [])

-- extract (lines 31 to 34) of the values up to tag t.
abbrev pub view_upto : ℕ → ℕ → List Value → View
view_upto n t l = table (λ w. newest w t l) n

-- EQ of line 15 (definition 6): node k has sent this node the very values up to tag t that it has itself. It agrees
-- with itself.
abbrev pub agrees : ℕ → Node → ℕ → Nodes
agrees i ν t k = decide (ℕ_discrete k i) || (included_up_to t (ν.from k) ν.all && included_up_to t ν.all (ν.from k))

-- A quorum is n − f nodes (lines 15, 36 and 39).
abbrev pub quorum? : (n f : ℕ) (s : Nodes) → Dec (n - f ≤ count s n)
quorum? n f s = dec_le (n - f) (count s n)

-- Amendment 4: of the good messages received the one with the greatest tag, the earliest of these; before any, tag 0
-- and no report of any node.
unfoldable pub kept : ℕ → List Good → Good
kept n [] = record { tag = 0; view = replicate n absent }
kept n (g ∷ older) = ite (dec_lt (kept n older).tag g.tag) g (kept n older)
