-- What waits on a channel after each of its changes: a message pushed comes last, the one popped was first.
use Prim.Native.Nat.{ℕ, suc, ◌+◌, ◌-◌, ◌%◌, ◌<◌, ◌≤◌}
use native.Mathlib.Omega.{arith}
use mathlib.Core.Path.{◌≡◌, refl, sym, ap, ◌∙◌}
use mathlib.Core.List.{List, [], ◌∷◌, ◌++◌}
use lib.ListN.{length, set, length-set}
use lib.Seq.{get_or-set_same, get_or-set_other}
use mathlib.Core.Bool.{Bool, true, false}
use lib.Dec.{ltb}
use borrow.Author.Tests.{lt-ltb}
use Rattle.octets.specs.Test.{pick}
use Rattle.octets.specs.Bytes.{part, put}
use Rattle.octets.specs.Loop.{tab}
use Rattle.octets.proofs.Put.{part-other, part-front, get_d-other, put_one, length-put}
use Rattle.octets.proofs.Table.{tab-more, tab-cons, tab-ext, tab-none, length-tab}
use Rattle.region.specs.Channel.{capacity, slot_size, channel_size, count_of, oldest, slot_at, first, push, pop}
use Rattle.region.specs.Channel.{clear, waiting}

-- a byte changed in front of a part leaves the part as it is
part-set : (b : List ℕ) (i x at len : ℕ) → i < at → at ≤ length b → part (set b i x) at len ≡ part b at len
part-set b i x at len l h =
    let i-in : i < length b = omega arith in
    ap (λ (t : List ℕ). part t at len) (put_one b i x i-in)
    ∙ part-other b i (x ∷ []) at len (omega arith) (λ q. omega arith) (λ q. omega arith)

-- a channel that holds less than its capacity takes the message m, whatever stands behind it in its slot
pub waiting-push : {A : Type 0} (g : List ℕ → A) (a : A) (m t : List ℕ) → length t ≡ channel_size → length m ≤ slot_size
    → count_of t < capacity → ((rest : List ℕ) → g (m ++ rest) ≡ a) → waiting g (push m t) ≡ waiting g t ++ (a ∷ [])
unfolding push waiting
waiting-push {A} g a m t size fits room reads =
    let k = count_of t in
    let h = oldest t in
    let b = put t (slot_at (h + k)) m in
    let long : length b ≡ channel_size = length-put t (slot_at (h + k)) m (omega arith) ∙ size in
    let t' = set b 0 (k + 1) in
    let counts : count_of t' ≡ k + 1 = get_or-set_same b 0 (k + 1) 0 (omega arith) in
    let starts : oldest t' ≡ h = get_or-set_other b 0 1 (k + 1) 0 (λ e. omega arith)
    ∙ get_d-other t (slot_at (h + k)) m 1 (omega arith) (λ q. omega arith) in
    let old : (i : ℕ) → i < k → g (part t' (slot_at (h + i)) slot_size) ≡ g (part t (slot_at (h + i)) slot_size) =
    λ i l. ap g (part-set b 0 (k + 1) (slot_at (h + i)) slot_size (omega arith) (omega arith)
    ∙ part-other t (slot_at (h + k)) m (slot_at (h + i)) slot_size (omega arith) (λ q. omega arith) (λ q. omega arith))
    in
    let new : g (part t' (slot_at (h + k)) slot_size) ≡ a =
    ap g (part-set b 0 (k + 1) (slot_at (h + k)) slot_size (omega arith) (omega arith)
    ∙ part-front t (slot_at (h + k)) m slot_size (omega arith) fits) ∙ reads _ in
    rw (lt-ltb k capacity room)
    (ap (λ (j : ℕ). tab j (λ i. g (part t' (slot_at (oldest t' + i)) slot_size))) counts
    ∙ ap (λ (j : ℕ). tab (k + 1) (λ i. g (part t' (slot_at (j + i)) slot_size))) starts
    ∙ tab-more k (λ i. g (part t' (slot_at (h + i)) slot_size))
    ∙ ap (λ (l : List A). l ++ (g (part t' (slot_at (h + k)) slot_size) ∷ []))
    (tab-ext k (λ i. g (part t' (slot_at (h + i)) slot_size)) (λ i. g (part t (slot_at (h + i)) slot_size)) old)
    ∙ ap (λ (x : A). tab k (λ i. g (part t (slot_at (h + i)) slot_size)) ++ (x ∷ [])) new)

-- what waits on a channel that is not empty: its oldest message, and then what waits after the pop
pub waiting-pop : {A : Type 0} (g : List ℕ → A) (t : List ℕ) → length t ≡ channel_size → 0 < count_of t
    → waiting g t ≡ g (first t) ∷ waiting g (pop t)
unfolding pop waiting
waiting-pop {A} g t size some =
    let k = count_of t in
    let h = oldest t in
    let b = set t 0 (k - 1) in
    let long : length b ≡ channel_size = length-set t 0 (k - 1) ∙ size in
    let t' = set b 1 ((h + 1) % capacity) in
    let counts : count_of t' ≡ k - 1 = get_or-set_other b 1 0 ((h + 1) % capacity) 0 (λ e. omega arith)
    ∙ get_or-set_same t 0 (k - 1) 0 (omega arith) in
    let starts : oldest t' ≡ (h + 1) % capacity = get_or-set_same b 1 ((h + 1) % capacity) 0 (omega arith) in
    let one_more : k ≡ suc (k - 1) = omega arith in
    let front : g (part t (slot_at (h + 0)) slot_size) ≡ g (first t) =
    let e : h + 0 ≡ h = omega arith in ap (λ (j : ℕ). g (part t (slot_at j) slot_size)) e in
    let rest : (i : ℕ) → i < k - 1
    → g (part t (slot_at (h + suc i)) slot_size) ≡ g (part t' (slot_at ((h + 1) % capacity + i)) slot_size) =
    λ i l. let e : slot_at (h + suc i) ≡ slot_at ((h + 1) % capacity + i) = omega arith in
    ap (λ (j : ℕ). g (part t j slot_size)) e
    ∙ sym (ap g (part-set b 1 ((h + 1) % capacity) (slot_at ((h + 1) % capacity + i)) slot_size (omega arith)
    (omega arith)
    ∙ part-set t 0 (k - 1) (slot_at ((h + 1) % capacity + i)) slot_size (omega arith) (omega arith))) in
    rw (lt-ltb 0 k some)
    (ap (λ (j : ℕ). tab j (λ i. g (part t (slot_at (h + i)) slot_size))) one_more
    ∙ tab-cons (k - 1) (λ i. g (part t (slot_at (h + i)) slot_size))
    ∙ ap (λ (x : A). x ∷ tab (k - 1) (λ i. g (part t (slot_at (h + suc i)) slot_size))) front
    ∙ ap (λ (l : List A). g (first t) ∷ l)
    (tab-ext (k - 1) (λ i. g (part t (slot_at (h + suc i)) slot_size))
    (λ i. g (part t' (slot_at ((h + 1) % capacity + i)) slot_size)) rest
    ∙ ap (λ (j : ℕ). tab (k - 1) (λ i. g (part t' (slot_at (j + i)) slot_size))) (sym starts)
    ∙ ap (λ (j : ℕ). tab j (λ i. g (part t' (slot_at (oldest t' + i)) slot_size))) (sym counts)))

-- nothing waits on a channel that was emptied
pub waiting-clear : {A : Type 0} (g : List ℕ → A) (t : List ℕ) → 0 < length t → waiting g (clear t) ≡ []
unfolding clear waiting
waiting-clear g t some =
    ap (λ (j : ℕ). tab j (λ i. g (part (set t 0 0) (slot_at (oldest (set t 0 0) + i)) slot_size)))
    (get_or-set_same t 0 0 0 some)
    ∙ tab-none (λ i. g (part (set t 0 0) (slot_at (oldest (set t 0 0) + i)) slot_size))

-- how many wait
pub length-waiting : {A : Type 0} (g : List ℕ → A) (t : List ℕ) → length (waiting g t) ≡ count_of t
unfolding waiting
length-waiting g t = length-tab (count_of t) (λ i. g (part t (slot_at (oldest t + i)) slot_size))

-- a channel keeps its size
pub length_push : (m t : List ℕ) → length t ≡ channel_size → length m ≤ slot_size → length (push m t) ≡ channel_size
unfolding push
length_push m t size fits = go (ltb (count_of t) capacity)
  where
    at : ℕ
    at = slot_at (oldest t + count_of t)

    go : (b : Bool) → length (pick b (set (put t at m) 0 (count_of t + 1)) t) ≡ channel_size
    go true = length-set (put t at m) 0 (count_of t + 1) ∙ length-put t at m (omega arith) ∙ size
    go false = size

pub length-pop : (t : List ℕ) → length (pop t) ≡ length t
unfolding pop
length-pop t = go (ltb 0 (count_of t))
  where
    go : (b : Bool) → length (pick b (set (set t 0 (count_of t - 1)) 1 ((oldest t + 1) % capacity)) t) ≡ length t
    go true = length-set (set t 0 (count_of t - 1)) 1 ((oldest t + 1) % capacity) ∙ length-set t 0 (count_of t - 1)
    go false = refl

pub length-clear : (t : List ℕ) → length (clear t) ≡ length t
unfolding clear
length-clear t = length-set t 0 0
