-- How the book of a trace changes with one entry more at the end.
use Prim.Native.Nat.{ℕ, suc, ◌+◌, ◌≤◌, ◌<◌}
use native.Mathlib.Omega.{arith}
use mathlib.Core.Path.{◌≡◌, refl, sym, ◌∙◌, ap, subst}
use mathlib.Core.List.{List, [], ◌∷◌, ◌++◌}
use lib.ListN.{length, take, drop, length-append, length-drop, get_or-append, get_or-eq_default}
use Rattle.history.specs.Event.{Ending, none, done, shown, spent}
use Rattle.history.specs.Trace.{Seen, nothing_seen, Trace, nothing, begun_by, begun, ending_at, unfinished, ended}
use Rattle.history.specs.Trace.{fate_by}
use Rattle.history.specs.Trace.{first_ending, fate_at, up_to_end, own_tags, largest, first_above, tag_at}
use Rattle.eqaso.proofs.Append.{get_d-last, drop-append, drop-length, take-append, take_all, or_else}
use Rattle.eqaso.proofs.Append.{ending-append, Inside, ending-inside, own-append}

-- The own tags that an entry lets out, if node c handles it.
abbrev pub own_at : ℕ → Seen → List ℕ
own_at c o = own_tags c (o ∷ [])

-- Past its end nothing begins in a trace.
pub begun-past : (l : Trace) (t : ℕ) → length l ≤ t → begun l t ≡ nothing
begun-past l t le = ap (λ x. begun_by x.event x.answer) (get_or-eq_default l nothing_seen le)

module _ (tr : Trace) (o : Seen) where
  abbrev next : Trace
  next = tr ++ (o ∷ [])

  pub begun-old : (t : ℕ) → t < length tr → begun next t ≡ begun tr t
  begun-old t lt = ap (λ x. begun_by x.event x.answer) (get_or-append tr (o ∷ []) nothing_seen t lt)

  pub begun-last : begun next (length tr) ≡ begun_by o.event o.answer
  begun-last = ap (λ x. begun_by x.event x.answer) (get_d-last tr o nothing_seen)

  pub fate-old : (t c : ℕ) → t < length tr
      → fate_at next t c ≡ or_else (fate_at tr t c) (fate_by (length tr) (ending_at c o) unfinished)
  fate-old t c lt = ap (first_ending c t) (drop-append t tr (o ∷ []) (omega arith))
      ∙ ending-append c t (drop t tr) o
      ∙ ap (λ k. or_else (fate_at tr t c) (fate_by k (ending_at c o) unfinished)) (omega (arith, length-drop t tr))

  pub fate-last : (c : ℕ) → fate_at next (length tr) c ≡ fate_by (length tr) (ending_at c o) unfinished
  unfolding first_ending
  fate-last c = ap (first_ending c (length tr)) (drop-length tr (o ∷ []))

  -- Of an operation that has ended nothing changes.
  pub still-ended : (t c k : ℕ) (e : Ending) → t < length tr → fate_at tr t c ≡ ended k e → fate_at next t c ≡ ended k e
  still-ended t c k e lt is = fate-old t c lt
      ∙ ap (λ x. or_else x (fate_by (length tr) (ending_at c o) unfinished)) is

  ended-inside : (t c k : ℕ) (e : Ending) → t < length tr → fate_at tr t c ≡ ended k e → k < length tr
  ended-inside t c k e lt is =
      let fits : t + length (drop t tr) ≤ length tr = omega (arith, length-drop t tr) in
      let inside = subst (Inside t (length tr)) is (ending-inside c t (length tr) (drop t tr) fits) in
      inside.1

  span-ended : (t c k : ℕ) (e : Ending) → t < length tr → fate_at tr t c ≡ ended k e
      → up_to_end t (fate_at next t c) next ≡ up_to_end t (fate_at tr t c) tr
  span-ended t c k e lt is = ap (λ x. up_to_end t x next) (still-ended t c k e lt is)
      ∙ ap (drop t) (take-append (suc k) tr (o ∷ []) (ended-inside t c k e lt is))
      ∙ ap (λ x. up_to_end t x tr) (sym is)

  pub tag-ended : (t c k : ℕ) (e : Ending) → t < length tr → fate_at tr t c ≡ ended k e
      → tag_at next t c ≡ tag_at tr t c
  tag-ended t c k e lt is =
      ap (λ b. first_above (largest (own_tags c b)) (own_tags c (up_to_end t (fate_at next t c) next)))
      (take-append t tr (o ∷ []) (omega arith))
      ∙ ap (λ s. first_above (largest (own_tags c (take t tr))) (own_tags c s)) (span-ended t c k e lt is)

  -- For one that is unfinished the new entry counts.
  span-by : (t : ℕ) (e : Ending) → up_to_end t (fate_by (length tr) e unfinished) next ≡ drop t next
  span-by t none = refl
  span-by t (done r v) = ap (drop t) (take_all (suc (length tr)) next (omega (arith, length-append tr (o ∷ []))))
  span-by t (shown r v) = ap (drop t) (take_all (suc (length tr)) next (omega (arith, length-append tr (o ∷ []))))
  span-by t spent = ap (drop t) (take_all (suc (length tr)) next (omega (arith, length-append tr (o ∷ []))))

  pub tag_open : (t c : ℕ) → t < length tr → fate_at tr t c ≡ unfinished → tag_at next t c
      ≡ first_above (largest (own_tags c (take t tr))) (own_tags c (up_to_end t (fate_at tr t c) tr) ++ own_at c o)
  tag_open t c lt is =
      ap (λ b. first_above (largest (own_tags c b)) (own_tags c (up_to_end t (fate_at next t c) next)))
      (take-append t tr (o ∷ []) (omega arith))
      ∙ ap (λ s. first_above (largest (own_tags c (take t tr))) s)
      (ap (λ x. own_tags c (up_to_end t x next)) (fate-old t c lt
      ∙ ap (λ x. or_else x (fate_by (length tr) (ending_at c o) unfinished)) is)
      ∙ ap (own_tags c) (span-by t (ending_at c o) ∙ drop-append t tr (o ∷ []) (omega arith))
      ∙ own-append c (drop t tr) (o ∷ [])
      ∙ ap (λ x. own_tags c (up_to_end t x tr) ++ own_at c o) (sym is))

  pub tag-last : (c : ℕ) → fate_at next (length tr) c ≡ unfinished
      → tag_at next (length tr) c ≡ first_above (largest (own_tags c tr)) (own_at c o)
  tag-last c is =
      ap (λ b. first_above (largest (own_tags c b))
      (own_tags c (up_to_end (length tr) (fate_at next (length tr) c) next)))
      (take-append (length tr) tr (o ∷ []) (omega arith) ∙ take_all (length tr) tr (omega arith))
      ∙ ap (λ s. first_above (largest (own_tags c tr)) (own_tags c s))
      (ap (λ x. up_to_end (length tr) x next) is ∙ drop-length tr (o ∷ []))
