-- An entry and the node that handles it: what it begins and ends there, and the own tags that it lets out there. Of
-- other nodes it touches nothing.
use Prim.Native.Nat.{ℕ}
use native.Mathlib.Decide.{ℕ_discrete}
use mathlib.Core.Path.{◌≡◌, refl, sym, ◌∙◌, subst}
use mathlib.Core.Logic.{◌≢◌, ◌⊎◌, inl, inr}
use mathlib.Core.Bool.{cond, decide}
use mathlib.Core.List.Memᴰ
use mathlib.Core.List.{List, [], append-nil}
use Rattle.logs.specs.Log.{◌∈◌}
use Rattle.history.specs.Event.{Ending, none}
use Rattle.history.specs.Trace.{Seen, handler, Begun, begun_by, ending_of, ending_at, tags_sent, own_tags}
use Rattle.eqaso.proofs.Book.{Book}
use Rattle.eqaso.proofs.Extend.{own_at}
use Rattle.eqaso.proofs.Rows.{Listed}

-- What an entry begins, its ending, and the own tags that its node lets out.
abbrev pub begun_in : Seen → Begun
begun_in o = begun_by o.event o.answer

abbrev pub ending_in : Seen → Ending
ending_in o = ending_of o.answer

abbrev pub own_in : Seen → List ℕ
own_in o = tags_sent (handler o.event) o.sent

-- Of its own tags the node lets out only such as stand in the book.
abbrev pub Told : Book → Seen → Type 0
Told B o = (x : ℕ) → x ∈ own_in o → Listed B (handler o.event) x

-- An entry touches only the operations of its own node.
pub own-only : (o : Seen) (c : ℕ) {x : ℕ} → x ∈ own_at c o → (handler o.event ≡ c) × (x ∈ own_in o)
unfolding own_tags decide
own-only o c {x} m = go (ℕ_discrete (handler o.event) c) (subst (λ l. x ∈ l) (append-nil _) m)
  where
    go : (d : Dec (handler o.event ≡ c)) → x ∈ cond (decide d) (tags_sent c o.sent) []
        → (handler o.event ≡ c) × (x ∈ own_in o)
    go (yes e) i = (e, subst (λ k. x ∈ tags_sent k o.sent) (sym e) i)
    go (no e) i = absurd (Memᴰ.not-nil i)

pub ending-only : (o : Seen) (c : ℕ) → (handler o.event ≢ c) ⊎ (ending_in o ≡ none) → ending_at c o ≡ none
unfolding decide
ending-only o c = go (ℕ_discrete (handler o.event) c)
  where
    go : (d : Dec (handler o.event ≡ c)) → (handler o.event ≢ c) ⊎ (ending_in o ≡ none)
        → cond (decide d) (ending_in o) none ≡ none
    go (yes e) (inl ne) = absurd (ne e)
    go (yes e) (inr is) = is
    go (no e) h = refl

pub ending_here : (o : Seen) → ending_at (handler o.event) o ≡ ending_in o
unfolding decide
ending_here o = go (ℕ_discrete (handler o.event) (handler o.event))
  where
    go : (d : Dec (handler o.event ≡ handler o.event)) → cond (decide d) (ending_in o) none ≡ ending_in o
    go (yes e) = refl
    go (no e) = absurd (e refl)

pub own-here : (o : Seen) → own_at (handler o.event) o ≡ own_in o
unfolding own_tags decide
own-here o = append-nil _ ∙ go (ℕ_discrete (handler o.event) (handler o.event))
  where
    go : (d : Dec (handler o.event ≡ handler o.event)) → cond (decide d) (own_in o) [] ≡ own_in o
    go (yes e) = refl
    go (no e) = absurd (e refl)
