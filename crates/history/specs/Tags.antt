-- The tag of an update in document 01's words, beside the definition that computes it.
use Rattle.std.specs.Prelude.{ℕ, ◌<◌, ◌≡◌, take}
use Rattle.logs.specs.Log.{◌∈◌}
use Rattle.history.specs.Trace.{Trace, updating, begun, fate_at, up_to_end, own_tags, tag_at}

-- Document 01's words for the tag s of the update of node c that began at index t: it is among its own tags let out
-- from its begin to its ending, and above all of them let out before.
pub record IsTag (tr : Trace) (t c s : ℕ) : Type 0 where
  pub sent : s ∈ own_tags c (up_to_end t (fate_at tr t c) tr)
  pub above : (x : ℕ) → x ∈ own_tags c (take t tr) → x < s

-- The words fit one number at most, which is the tag; where they fit none, the tag is 0; and the tags of a node rise
-- from one of its updates to the next.
pub record TagsAsWorded (tr : Trace) : Type 0 where
  pub only : (t c p s : ℕ) → begun tr t ≡ updating c p → IsTag tr t c s → s ≡ tag_at tr t c
  pub fits : (t c : ℕ) → 0 < tag_at tr t c → IsTag tr t c (tag_at tr t c)
  pub none : (t c : ℕ) → ((s : ℕ) → ¬ IsTag tr t c s) → tag_at tr t c ≡ 0
  pub rise : (t u c p q : ℕ) → begun tr t ≡ updating c p → begun tr u ≡ updating c q → t < u → 0 < tag_at tr u c
      → tag_at tr t c < tag_at tr u c
