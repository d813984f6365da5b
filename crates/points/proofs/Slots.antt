-- What waits on the channels of a cluster, slot by slot, when entries are let out.
use Prim.Native.Nat.{ℕ, zero, suc, ◌+◌, ◌-◌, ◌≤◌, ◌<◌, min}
use native.Mathlib.Omega.{arith}
use native.Mathlib.Nat.{eq-or-lt_of_le, le_of_suc-le-suc, not-suc-le-zero}
use native.Mathlib.Decide.{ℕ_discrete}
use mathlib.Core.Logic.{⊎_elim}
use mathlib.Core.Path.{◌≡◌, refl, sym, ap, ap₂, ◌∙◌, subst}
use mathlib.Core.Bool.{Bool, true, false}
use mathlib.Core.List.{List, [], ◌∷◌, ◌++◌, append-nil, append_assoc}
use lib.ListN.{length, take, drop}
use lib.Seq.{take-take, take_at}
use lib.Dec.{ltb, eqb}
use borrow.Author.Tests.{eq-eqb, ne_eqb}
use Rattle.octets.specs.Bytes.{part}
use Rattle.octets.specs.Loop.{each}
use Rattle.octets.specs.Test.{pick}
use Rattle.octets.proofs.Table.{tab-ext}
use Rattle.octets.proofs.Lent.{take-append}
use Rattle.view.specs.declared.View.{View}
use Rattle.wire.specs.declared.Message.{Message}
use Rattle.table.specs.Loop.{numbered}
use Rattle.table.proofs.Laws.{length-numbered}
use Rattle.region.specs.Channel.{capacity, channel_size, slot_size, slot_at, oldest, count_of, push, waiting}
use Rattle.region.proofs.Waiting.{waiting-push}
use Rattle.block.specs.Block.{has_stopped, channel_in, receive}
use Rattle.block.proofs.Changes.{receive-flag, receive-same}
use Rattle.outgoing.specs.Entries.{Entry, entry, go_to, slot}
use Rattle.outgoing.specs.Outgoing.{let_out, shortened}
use Rattle.outgoing.specs.declared.Extent.{Extent}
use Rattle.outgoing.specs.declared.Extent.TheVariants.{Whole, Cut}
use Rattle.outgoing.proofs.Laws.{cut-numbered}
use Rattle.layout.specs.Layout.{stopped, channel, on_block}
use Rattle.history.specs.Order.{OneTo}
use Rattle.points.specs.Forward.{slots_on, slots_to, Reaches, past}
use Rattle.points.proofs.Counts.{slot-size, short, ToNodes, Held, own, size_of, on_same, on-other, in_size}
use Rattle.points.proofs.Counts.{held-receive, Waits, waits-here, waits_there}

-- ---- one channel

-- A slot is no longer than a slot.
whole-slots : (t : List ℕ) → waiting (take slot_size) t ≡ waiting (λ s. s) t
unfolding waiting part
whole-slots t = tab-ext (count_of t) (λ i. take slot_size (part t (slot_at (oldest t + i)) slot_size))
    (λ i. part t (slot_at (oldest t + i)) slot_size)
    (λ i l. take-take slot_size slot_size (drop (slot_at (oldest t + i)) t) (omega arith))

slots-push : (m t : List ℕ) → length t ≡ channel_size → length m ≡ slot_size → count_of t < capacity
    → waiting (λ s. s) (push m t) ≡ waiting (λ s. s) t ++ (m ∷ [])
slots-push m t size long room = sym (whole-slots (push m t))
    ∙ waiting-push (take slot_size) m m t size (omega arith) room (λ rest. take_at m rest slot_size long)
    ∙ ap (λ l. l ++ (m ∷ [])) (whole-slots t)

-- ---- the entries that go to a node

module _ (n d : ℕ) where
  slots-append : (k l : List Entry) → slots_to n d (k ++ l) ≡ slots_to n d k ++ slots_to n d l
  unfolding slots_to
  slots-append [] l = refl
  slots-append (e ∷ k) l = go (eqb e.to d) (slots-append k l)
    where
      s : List ℕ
      s = slot n e.message e.view

      go : (t : Bool) → slots_to n d (k ++ l) ≡ slots_to n d k ++ slots_to n d l
          → pick t (s ∷ slots_to n d (k ++ l)) (slots_to n d (k ++ l))
          ≡ pick t (s ∷ slots_to n d k) (slots_to n d k) ++ slots_to n d l
      go true h = ap (λ x. s ∷ x) h
      go false h = h

  module _ (v : View) (m : Message) where
    slots-before : (k : ℕ) → k < d → slots_to n d (numbered k (entry v m)) ≡ []
    unfolding slots_to numbered
    slots-before zero l = refl
    slots-before (suc k) l = slots-append (numbered k (entry v m)) (entry v m (suc k) ∷ [])
        ∙ rw (slots-before k (omega arith), ne_eqb (suc k) d (λ e. omega arith)) refl

    -- One of a message to all.
    slots-once : (k : ℕ) → 1 ≤ d → d ≤ k → slots_to n d (numbered k (entry v m)) ≡ slot n m v ∷ []
    unfolding slots_to numbered
    slots-once zero l h = absurd (let e : 1 ≤ 0 = omega arith in not-suc-le-zero e)
    slots-once (suc k) l h = slots-append (numbered k (entry v m)) (entry v m (suc k) ∷ [])
        ∙ ⊎_elim
        (λ e. rw (slots-before k (omega arith), eq-eqb (suc k) d (sym e)) refl)
        (λ q. rw (slots-once k l (le_of_suc-le-suc q), ne_eqb (suc k) d (λ e. omega arith)) refl)
        (eq-or-lt_of_le h)

    -- It comes first, and then what is let out beside it.
    pub slots-first : (x : Extent) (l : List Entry) → OneTo n d → Reaches x d
        → slots_to n d (shortened x (numbered n (entry v m) ++ l))
        ≡ slot n m v ∷ slots_to n d (shortened (past n x) l)
    slots-first Whole l (lo, hi) r = slots-append (numbered n (entry v m)) l
        ∙ ap (λ k. k ++ slots_to n d l) (slots-once n lo hi)
    slots-first (Cut j) l (lo, hi) r =
        ap (slots_to n d) (take-append j (numbered n (entry v m)) l
        ∙ ap₂ (λ k i. k ++ take (j - i) l) (cut-numbered n j (entry v m)) (length-numbered n (entry v m)))
        ∙ slots-append (numbered (min j n) (entry v m)) (take (j - n) l)
        ∙ ap (λ k. k ++ slots_to n d (take (j - n) l)) (slots-once (min j n) lo (omega arith))

-- ---- the bytes of a cluster

module _ (n : ℕ) (small : n ≤ 16) (c : ℕ) (p : OneTo n c) where
  -- Nobody stops by what is let out.
  pub stands-out : (l : List Entry) → ToNodes n l → {t : List ℕ} → Held n small t → (k : ℕ) → OneTo n k
      → stopped (let_out n c l t) k ≡ stopped t k
  unfolding let_out each
  stands-out [] h H k q = refl
  stands-out (x ∷ l) (o, h) {t} H k q = stands-out l h (held-receive n small H x.to o c p s fits) k q ∙ one
    where
      s : List ℕ
      s = slot n x.message x.view

      fits : length s ≤ slot_size
      fits = short n x.message x.view

      one : stopped (on_block x.to (receive c s) t) k ≡ stopped t k
      one = elim (ℕ_discrete k x.to) [
        | yes e ↦ subst (λ j. stopped (on_block x.to (receive c s) t) j ≡ stopped t j) (sym e)
            (ap has_stopped (on_same n small H x.to o (receive c s) (in_size n small H x.to o c p s fits))
            ∙ ap (ltb 0) (receive-flag _ (own n small H x.to o) c p.0 (omega arith) s fits))
        | no e ↦ ap has_stopped
            (on-other n small H x.to o (receive c s) (in_size n small H x.to o c p s fits) k q e)
      ]

  pub slots-out : (l : List Entry) → ToNodes n l → {t : List ℕ} → Held n small t → (k w : ℕ) → OneTo n k
      → Waits n small c p t k w → w + go_to k l ≤ capacity
      → slots_on (let_out n c l t) c k ≡ slots_on t c k ++ slots_to n k l
  unfolding let_out each go_to slots_to
  slots-out [] h {t} H k w q W room = sym (append-nil (slots_on t c k))
  slots-out (x ∷ l) (o, h) {t} H k w q W room = elim (ℕ_discrete x.to k) [
    | yes e ↦
        let z : eqb x.to k ≡ true = eq-eqb x.to k e in
        let room' : w + (go_to k l + 1) ≤ capacity = rw z at room in
        let W' = subst (λ d. Waits n small c p (on_block d (receive c s) t) k (w + 1)) (sym e)
        (waits-here n small c p H s fits k w q W (omega arith)) in
        rw z (slots-out l h H' k (w + 1) q W' (omega arith)
        ∙ ap (λ i. i ++ slots_to n k l) (subst (λ d. slots_on (on_block d (receive c s) t) c k ≡ slots_on t c k ++
        (s ∷ []))
        (sym e) (here (omega (arith, W.holds))))
        ∙ append_assoc (slots_on t c k) (s ∷ []) (slots_to n k l))
    | no e ↦
        let z : eqb x.to k ≡ false = ne_eqb x.to k e in
        let room' : w + go_to k l ≤ capacity = rw z at room in
        rw z (slots-out l h H' k w q (waits_there n small c p H s fits x.to o k w q (λ y. e (sym y)) W) room'
        ∙ ap (λ i. waiting (λ s. s) (channel_in i c) ++ slots_to n k l)
        (on-other n small H x.to o (receive c s) (in_size n small H x.to o c p s fits) k q (λ y. e (sym y))))
  ]
    where
      s : List ℕ
      s = slot n x.message x.view

      fits : length s ≤ slot_size
      fits = short n x.message x.view

      H' : Held n small (on_block x.to (receive c s) t)
      H' = held-receive n small H x.to o c p s fits

      here : count_of (channel t c k) < capacity
          → slots_on (on_block k (receive c s) t) c k ≡ slots_on t c k ++ (s ∷ [])
      here room = ap (λ i. waiting (λ s. s) (channel_in i c))
          (on_same n small H k q (receive c s) (in_size n small H k q c p s fits))
          ∙ ap (waiting (λ s. s))
          (receive-same _ (own n small H k q) c p.0 (omega arith) s fits W.stands)
          ∙ slots-push s (channel t c k) (size_of n small H k q c p) (slot-size n x.message x.view) room
