-- Traces that the claims admit, and that claims which ask for more would rule out.
use Prim.Native.Nat.{ℕ, zero, suc, ◌<◌}
use native.Mathlib.Decide.{ℕ_discrete, dec_lt}
use native.Mathlib.Omega.{arith}
use mathlib.Core.Path.{◌≡◌, refl, sym, ap, subst}
use mathlib.Core.Bool.{decide, true≢false}
use mathlib.Core.List.Memᴰ
use mathlib.Core.List.{List, [], ◌∷◌}
use lib.ListN.{length}
use Rattle.logs.specs.Log.{◌∈◌}
use Rattle.order.specs.Sequence.{Once, before}
use Rattle.history.specs.Message.{absent, read}
use Rattle.history.specs.Event.{Operation, update, scan, cut, begin, stop, none, accepted, sent_to}
use Rattle.history.specs.Trace.{Trace, updating, begun, fate, tag_at, scan_view, entry_at, first_ending, tags_sent}
use Rattle.history.specs.Trace.{own_tags, largest, first_above, stopped, let_out_to, handed_over}
use Rattle.history.specs.Order.{OneTo, IsScan, EndsInKind, Placed, written, EndedBefore, SingleOrder, Quiet}
use Rattle.history.proofs.RuledOut.{begins, handles, own, entry, shows, updater}

-- Node 2 scans, then node 1 updates and does not finish, then node 2 scans again and shows that update. Node 3 begins
-- an update with a report of zeros and lets nothing out: it has no tag, so no absence shows it.
abbrev story : Trace
story =
    begins 2 scan ∷ handles 2 (shows (absent ∷ absent ∷ absent ∷ [])) []
    ∷ begins 1 (update 7) ∷ handles 1 none (own 1 1 7)
    ∷ begins 2 scan ∷ handles 2 (shows (entry 1 7 ∷ absent ∷ absent ∷ [])) []
    ∷ begins 3 (update 0) ∷ []

abbrev line : List ℕ
line = 0 ∷ 2 ∷ 4 ∷ []

-- What holds of the three that stand in the line.
each : (P : ℕ → Type 0) → P 0 → P 2 → P 4 → (t : ℕ) → t ∈ line → P t
each P a b c t (Memᴰ.head e) = subst P (sym e) a
each P a b c t (Memᴰ.tail (Memᴰ.head e)) = subst P (sym e) b
each P a b c t (Memᴰ.tail (Memᴰ.tail (Memᴰ.head e))) = subst P (sym e) c
each P a b c t (Memᴰ.tail (Memᴰ.tail (Memᴰ.tail h))) = elim h [ ]

story-once : Once line
story-once = (first, (second, (λ i. Memᴰ.not-nil i, tt)))
  where
    first : ¬ ◌∈◌ {A = ℕ} 0 (2 ∷ 4 ∷ [])
    first (Memᴰ.head e) = omega (arith, e)
    first (Memᴰ.tail (Memᴰ.head e)) = omega (arith, e)
    first (Memᴰ.tail (Memᴰ.tail h)) = elim h [ ]

    second : ¬ ◌∈◌ {A = ℕ} 2 (4 ∷ [])
    second (Memᴰ.head e) = omega (arith, e)
    second (Memᴰ.tail h) = elim h [ ]

story-kinds : (t : ℕ) → EndsInKind 3 (begun story t) (fate story t)
unfolding first_ending ℕ_discrete decide
story-kinds zero = omega arith
story-kinds (suc zero) = tt
story-kinds (suc (suc zero)) = tt
story-kinds (suc (suc (suc zero))) = tt
story-kinds (suc (suc (suc (suc zero)))) = omega arith
story-kinds (suc (suc (suc (suc (suc zero))))) = tt
story-kinds (suc (suc (suc (suc (suc (suc zero)))))) = tt
story-kinds (suc (suc (suc (suc (suc (suc (suc t))))))) = tt

placed : (t : ℕ) → t ∈ line → Placed story t
unfolding first_ending tags_sent own_tags largest first_above ℕ_discrete dec_lt decide
placed = each (Placed story) tt (4, record { scan = tt; finished = tt; tagged = omega arith; entry = refl }) tt

story-tagged : (t : ℕ) → t ∈ line → (c p : ℕ) → begun story t ≡ updating c p → 0 < tag_at story t c
unfolding first_ending tags_sent own_tags largest first_above ℕ_discrete dec_lt decide
story-tagged = each (λ t. (c p : ℕ) → begun story t ≡ updating c p → 0 < tag_at story t c)
    (λ c p e. absurd (subst IsScan e tt))
    (λ c p e. subst (λ c. 0 < tag_at story 2 c) (ap updater e) (omega arith))
    (λ c p e. absurd (subst IsScan e tt))

abbrev Legal : ℕ → Type 0
Legal s = IsScan (begun story s) → (w : ℕ) → OneTo 3 w
    → entry_at (scan_view (fate story s)) w ≡ written story w (before ℕ_discrete s line) absent

abbrev Timely : ℕ → ℕ → Type 0
Timely a b = EndedBefore (fate story a) b → a ∈ before ℕ_discrete b line

timely : (a : ℕ) → a ∈ line → (b : ℕ) → b ∈ line → Timely a b
unfolding first_ending before ℕ_discrete decide
timely = each (λ a. (b : ℕ) → b ∈ line → Timely a b)
    (each (Timely 0) (λ h. absurd (omega (arith, h))) (λ h. Memᴰ.head refl) (λ h. Memᴰ.head refl))
    (λ b i h. absurd h)
    (each (Timely 4) (λ h. absurd (omega (arith, h))) (λ h. absurd (omega (arith, h))) (λ h. absurd (omega (arith, h))))

pub story-ordered : SingleOrder 3 story
unfolding first_ending tags_sent own_tags largest first_above written before ℕ_discrete dec_lt decide
story-ordered = record {
  kinds = story-kinds;
  line = line;
  once = story-once;
  members = λ t. (placed t, stands t);
  tagged = λ t c p i. story-tagged t i c p;
  legal = each Legal first-legal (λ h. absurd h) second-legal;
  timely = λ a b i j. timely a i b j;
}
  where
    stands : (t : ℕ) → Placed story t → t ∈ line
    stands zero h = Memᴰ.head refl
    stands (suc zero) h = absurd h
    stands (suc (suc zero)) h = Memᴰ.tail (Memᴰ.head refl)
    stands (suc (suc (suc zero))) h = absurd h
    stands (suc (suc (suc (suc zero)))) h = Memᴰ.tail (Memᴰ.tail (Memᴰ.head refl))
    stands (suc (suc (suc (suc (suc zero))))) h = absurd h
    stands (suc (suc (suc (suc (suc (suc zero)))))) (s, h) = absurd (omega (arith, h.tagged))
    stands (suc (suc (suc (suc (suc (suc (suc t))))))) h = absurd h

    first-legal : Legal 0
    first-legal h zero (low, high) = absurd (omega arith)
    first-legal h (suc zero) one = refl
    first-legal h (suc (suc zero)) one = refl
    first-legal h (suc (suc (suc zero))) one = refl
    first-legal h (suc (suc (suc (suc w)))) (low, high) = absurd (omega arith)

    second-legal : Legal 4
    second-legal h zero (low, high) = absurd (omega arith)
    second-legal h (suc zero) one = refl
    second-legal h (suc (suc zero)) one = refl
    second-legal h (suc (suc (suc zero))) one = refl
    second-legal h (suc (suc (suc (suc w)))) (low, high) = absurd (omega arith)

-- Node 2 lets a read out to node 1 and stops. It waits, so that the scan of node 1 may be open.
abbrev waited : Trace
waited = begins 1 scan ∷ record {
  event = begin 2 scan (cut 1);
  answer = accepted none;
  sent = record { to = 1; message = read 1 } ∷ [];
} ∷ []

pub waited-quiet : Quiet 2 waited
unfolding stopped let_out_to handed_over sent_to ℕ_discrete decide
waited-quiet h = absurd (omega (arith, ap length (h 2 1 (omega arith, omega arith) (omega arith, omega arith) refl)))

-- Nothing waits, and the operation of a stopped node is open.
abbrev left : Operation → Trace
left op = begins 1 op ∷ record { event = stop 1; answer = accepted none; sent = [] } ∷ []

pub left-quiet : (op : Operation) → Quiet 1 (left op)
unfolding first_ending stopped ℕ_discrete decide
left-quiet (update p) h zero = λ up. absurd (true≢false up)
left-quiet scan h zero = λ up. absurd (true≢false up)
left-quiet (update p) h (suc zero) = tt
left-quiet scan h (suc zero) = tt
left-quiet op h (suc (suc t)) = tt
