-- A trace with one event more at its end, and what a trace adds up with it.
use Prim.Native.Nat.{ℕ, ◌+◌}
use native.Mathlib.Omega.{arith}
use native.Mathlib.Decide.{ℕ_discrete}
use mathlib.Core.Path.{◌≡◌, refl, sym}
use mathlib.Core.Logic.{◌≢◌}
use mathlib.Core.Bool.{Bool, true, false, cond, decide, ◌||◌, or-false, or_assoc}
use mathlib.Core.List.{List, [], ◌∷◌, ◌++◌, append-nil, append_assoc}
use Rattle.history.specs.Message.{Message}
use Rattle.history.specs.Event.{Event, sent_to}
use Rattle.history.specs.Trace.{Seen, Trace, handler, stops_by, stopped, let_out_to, handed_in, handed_over}
use Rattle.eqaso.specs.Cluster.{Cluster, event, after}

pub stopped-snoc : (tr : Trace) (o : Seen) (c : ℕ)
    → stopped (tr ++ (o ∷ [])) c ≡ (stopped tr c || stops_by o.event o.answer c)
unfolding stopped
stopped-snoc [] o c = or-false (stops_by o.event o.answer c)
stopped-snoc (x ∷ tr) o c = rw (stopped-snoc tr o c)
    (sym (or_assoc (stops_by x.event x.answer c) (stopped tr c) (stops_by o.event o.answer c)))

-- What one event lets out from node a to node b.
abbrev pub passed : Seen → ℕ → ℕ → List Message
passed o a b = cond (decide (ℕ_discrete (handler o.event) a)) (sent_to b o.sent) []

pub passed-own : (o : Seen) (b : ℕ) → passed o (handler o.event) b ≡ sent_to b o.sent
unfolding decide
passed-own o b = go (ℕ_discrete (handler o.event) (handler o.event))
  where
    go : {a : ℕ} (d : Dec (a ≡ a)) → cond (decide d) (sent_to b o.sent) [] ≡ sent_to b o.sent
    go (yes e) = refl
    go (no e) = absurd (e refl)

pub passed-other : (o : Seen) (a b : ℕ) → a ≢ handler o.event → passed o a b ≡ []
unfolding decide
passed-other o a b h = go (ℕ_discrete (handler o.event) a)
  where
    go : (d : Dec (handler o.event ≡ a)) → cond (decide d) (sent_to b o.sent) [] ≡ []
    go (yes e) = absurd (h (sym e))
    go (no e) = refl

pub passed_none : (o : Seen) (a b : ℕ) → o.sent ≡ [] → passed o a b ≡ []
unfolding sent_to
passed_none o a b e = rw e (go (decide (ℕ_discrete (handler o.event) a)))
  where
    go : (t : Bool) → ◌≡◌ {A = List Message} (cond t [] []) []
    go true = refl
    go false = refl

pub let_out_to-snoc : (tr : Trace) (o : Seen) (a b : ℕ) → let_out_to (tr ++ (o ∷ [])) a b
    ≡ let_out_to tr a b ++ passed o a b
unfolding let_out_to
let_out_to-snoc [] o a b = append-nil (passed o a b)
let_out_to-snoc (x ∷ tr) o a b =
    rw (let_out_to-snoc tr o a b) (sym (append_assoc (passed x a b) (let_out_to tr a b) (passed o a b)))

pub handed_over-snoc : (tr : Trace) (o : Seen) (a b : ℕ)
    → handed_over (tr ++ (o ∷ [])) a b ≡ handed_over tr a b + handed_in o.event o.answer a b
unfolding handed_over
handed_over-snoc [] o a b = omega arith
handed_over-snoc (x ∷ tr) o a b = let e = handed_over-snoc tr o a b in omega arith

pub after-snoc : (n f : ℕ) (room : ℕ → Bool) (σ : Cluster) (es : List Event) (e : Event)
    → after n f room σ (es ++ (e ∷ [])) ≡ (event n f room e (after n f room σ es)).cluster
unfolding after
after-snoc n f room σ [] e = refl
after-snoc n f room σ (x ∷ es) e = after-snoc n f room (event n f room x σ).cluster es e
