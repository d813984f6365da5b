-- What the bytes show when a node has let its entries out, and that 11 is judged alike.
use Prim.Native.Nat.{ℕ, zero, suc, ◌+◌, ◌<◌, ◌≤◌}
use native.Mathlib.Omega.{arith}
use native.Mathlib.Decide.{ℕ_discrete, dec_le}
use mathlib.Core.Path.{◌≡◌, refl, sym, ap, ap₂, ◌∙◌}
use mathlib.Core.Bool.{Bool, true, false, decide, decide_iff, ◌&&◌}
use mathlib.Core.List.Memᴰ
use mathlib.Core.List.{List, [], ◌∷◌, map}
use lib.Dec.{leb}
use lib.ListN.{length, length-append}
use borrow.Author.Tests.{le-leb, lt-leb}
use Rattle.logs.specs.Log.{◌∈◌}
use Rattle.octets.specs.Loop.{each}
use Rattle.octets.specs.Test.{both}
use Rattle.view.specs.Size.{is_size, nodes}
use Rattle.table.specs.Loop.{all}
use Rattle.region.specs.Channel.{capacity}
use Rattle.outgoing.specs.Entries.{Entry, go_to}
use Rattle.outgoing.proofs.Laws.{go_to-append}
use Rattle.outgoing.specs.Outgoing.{let_out, room_at, roomy}
use Rattle.history.specs.Message as M
use Rattle.history.specs.Event as H
use Rattle.history.specs.Order.{OneTo}
use Rattle.algorithm.specs.Algorithm as A
use Rattle.algorithm.proofs.Sets.{and_both}
use Rattle.eqaso.specs.Cluster as K
use Rattle.mirror.specs.Mirrors.{channel_room, mail, Shows}
use Rattle.mirror.proofs.Says.{says-count}
use Rattle.mirror.proofs.Channels.{channel-stopped, channel-own, sent-here, channels-more, channels-none}
use Rattle.mirror.proofs.Channels.{same-go_to}
use Rattle.mirror.proofs.Shows.{Gone, Fit, Room, shows_same, shows-send}

module _ {n f : ℕ} (small : n ≤ nodes) (sized : is_size n ≡ true) (c : ℕ)
    (node : OneTo n c) {ν : ℕ → A.Node} {s : ℕ → Bool} where
  pub shows-out : (l : List Entry) {b : List ℕ} {q : ℕ → ℕ → List M.Message} → Shows n f b ν s q → Gone s q
      → ((e : Entry) → e ∈ l → Fit n e) → Room n c s q l
      → Shows n f (let_out n c l b) ν s (K.channels s c (map (mail n) l) q)
  unfolding let_out each
  shows-out [] {b} {q} S gone fit room = shows_same small S (λ a d p o. sym (channels-none s c q gone a d))
  shows-out (e ∷ l) {b} {q} S gone fit room = shows_same small
      (shows-out l (shows-send small sized c node S gone e (fit e (Memᴰ.head refl)) now)
      (λ a d h. channel-stopped s c (mail n e ∷ []) q a d h) (λ x m. fit x (Memᴰ.tail m)) later)
      (λ a d p o. channels-more s c (mail n e) (map (mail n) l) q a d)
    where
      -- This entry and those after it.
      split : (d : ℕ) → go_to d (e ∷ l) ≡ length (H.sent_to d (mail n e ∷ [])) + go_to d l
      split d = go_to-append d (e ∷ []) l ∙ ap (λ k. k + go_to d l) (same-go_to n d (e ∷ []))

      now : s e.to ≡ false → length (q c e.to) < capacity
      now h = omega (
        arith,
        room e.to (fit e (Memᴰ.head refl)).to h,
        split e.to,
        ap length
            (sent-here e.to (mail n e) [] refl),
      )

      later : Room n c s (K.channels s c (mail n e ∷ []) q) l
      later d o h = rw (
        channel-own s c (mail n e ∷ []) q c d h refl,
        length-append (q c d)
            (H.sent_to d (mail n e ∷ [])),
      )
          (omega (arith, room d o h, split d))

-- A test of the code and a decision of the algorithm.
pub leb-decides : (a b : ℕ) → leb a b ≡ decide (dec_le a b)
unfolding decide
leb-decides a b = elim (dec_le a b) as (λ d. leb a b ≡ decide d) [
  | yes h ↦ le-leb a b h
  | no h ↦ lt-leb a b
      (omega arith)
]

pub both-and : (a b : Bool) → both a b ≡ (a && b)
both-and true b = refl
both-and false b = refl

module _ (c : ℕ) (ch : ℕ → ℕ → List M.Message) where
  same-all : (m : ℕ) (p : ℕ → Bool) → ((d : ℕ) → OneTo m d → p d ≡ channel_room (length (ch c d)))
      → all m p ≡ K.roomy channel_room c m ch
  unfolding all K.roomy
  same-all zero p h = refl
  same-all (suc m) p h = ap₂ both (h (suc m) (omega arith, omega arith))
      (same-all m p (λ d (lo, hi). h d (lo, omega arith)))
      ∙ both-and (channel_room (length (ch c (suc m)))) (K.roomy channel_room c m ch)

  pub roomy-at : (m : ℕ) → K.roomy channel_room c m ch ≡ true → (d : ℕ) → OneTo m d → length (ch c d) ≤ capacity
  unfolding K.roomy
  roomy-at zero e d (lo, hi) = absurd (omega arith)
  roomy-at (suc m) e d (lo, hi) =
      let (x, y) = and_both (channel_room (length (ch c (suc m)))) (K.roomy channel_room c m ch) e in
      elim (ℕ_discrete d (suc m)) [
        | yes z ↦ rw z ((decide_iff (dec_le (length (ch c (suc m))) capacity)).0 x)
        | no z ↦ roomy-at m y d (lo, omega arith)
      ]

module _ {n f : ℕ} (small : n ≤ nodes) {b : List ℕ} {ν : ℕ → A.Node} {s : ℕ → Bool} {q : ℕ → ℕ → List M.Message}
    (S : Shows n f b ν s q)
    (c : ℕ) (node : OneTo n c) (l : List Entry) where
  abbrev later : ℕ → ℕ → List M.Message
  later = K.channels s c (map (mail n) l) q

  same_at : (d : ℕ) → OneTo n d → room_at c l b d ≡ channel_room (length (later c d))
  same_at d o = go (s d) refl
    where
      go : (y : Bool) → s d ≡ y → room_at c l b d ≡ channel_room (length (later c d))
      go true e = rw ((S.says d o).stop ∙ e) (sym ((decide_iff (dec_le (length (later c d)) capacity)).1
          (rw (channel-stopped s c (map (mail n) l) q c d e) (omega arith))))
      go false e = rw ((S.says d o).stop ∙ e, says-count small (S.says d o) c node, same-go_to n d l)
          (leb-decides (length (q c d) + length (H.sent_to d (map (mail n) l))) capacity
          ∙ ap channel_room (sym (ap length (channel-own s c (map (mail n) l) q c d e refl)
          ∙ length-append (q c d) (H.sent_to d (map (mail n) l)))))

  -- Refusal 11 is given alike.
  pub same-roomy : roomy n c l b ≡ K.roomy channel_room c n later
  unfolding roomy
  same-roomy = same-all c later n (room_at c l b) same_at

  pub room_of : K.roomy channel_room c n later ≡ true → Room n c s q l
  room_of e d o f = omega (
    arith,
    roomy-at c later n e d o,
    same-go_to n d l,
    ap length (channel-own s c (map (mail n) l) q c d f refl),
    length-append (q c d) (H.sent_to d (map (mail n) l)),
  )
