-- Laws of entries: their number, the first of them, and how many go to a node.
use Prim.Native.Nat.{ℕ, zero, suc, ◌+◌, ◌-◌, ◌*◌, ◌<◌, ◌≤◌, min}
use native.Mathlib.Omega.{arith}
use native.Mathlib.Decide.{dec_le}
use native.Mathlib.Nat.{lt_of_not-le, le_of_suc-le-suc, eq-or-lt_of_le, not-suc-le-zero}
use mathlib.Core.Logic.{⊎_elim}
use mathlib.Core.Path.{◌≡◌, refl, sym, ap, ap₂, ◌∙◌}
use mathlib.Core.Bool.{Bool, true, false}
use mathlib.Core.List.{List, [], ◌∷◌, ◌++◌, append-nil, append_assoc}
use lib.ListN.{length, take, length-append}
use lib.Seq.{take_all, take-append-le}
use lib.Dec.{eqb}
use borrow.Author.Tests.{eq-eqb, ne_eqb}
use Rattle.octets.specs.Test.{pick}
use Rattle.octets.proofs.Lent.{take-append}
use Rattle.table.specs.Loop.{numbered}
use Rattle.table.proofs.Laws.{length-numbered}
use Rattle.view.specs.declared.View.{View}
use Rattle.wire.specs.declared.Message.{Message}
use Rattle.step.specs.Step.{listed}
use Rattle.step.specs.declared.Sent.{Sent}
use Rattle.step.specs.declared.Sent.TheVariants.{Nothing, One, Two}
use Rattle.step.specs.declared.Outbox.{Outbox}
use Rattle.outgoing.specs.Entries.{Entry, entry, is_answer, addressed, entries_of, entries, go_to}

-- ---- lists of entries

pub entries-one : (n a : ℕ) (v : View) (m : Message) → entries_of n a v (m ∷ []) ≡ addressed n a v m
unfolding entries_of
entries-one n a v m = append-nil (addressed n a v m)

pub entries-append : (n a : ℕ) (v : View) (k l : List Message) → entries_of n a v (k ++ l)
    ≡ entries_of n a v k ++ entries_of n a v l
unfolding entries_of
entries-append n a v [] l = refl
entries-append n a v (m ∷ k) l =
    ap (λ (t : List Entry). addressed n a v m ++ t) (entries-append n a v k l)
    ∙ sym (append_assoc (addressed n a v m) (entries_of n a v k) (entries_of n a v l))

pub entries-two : (n a : ℕ) (v : View) (m k : Message) → entries_of n a v (m ∷ k ∷ [])
    ≡ addressed n a v m ++ addressed n a v k
entries-two n a v m k =
    entries-append n a v (m ∷ []) (k ∷ []) ∙ ap₂ (λ (s t : List Entry). s ++ t) (entries-one n a v m)
    (entries-one n a v k)

pub entries-three : (n a : ℕ) (o : Outbox) → entries n a o
    ≡ entries_of n a o.view (listed o.handler) ++ entries_of n a o.view (listed o.reading)
    ++ entries_of n a o.view (listed o.comparing)
entries-three n a o =
    entries-append n a o.view (listed o.handler ++ listed o.reading) (listed o.comparing)
    ∙ ap (λ (t : List Entry). t ++ entries_of n a o.view (listed o.comparing))
    (entries-append n a o.view (listed o.handler) (listed o.reading))

-- ---- their number

pub length-answer : (n a : ℕ) (v : View) (m : Message) → is_answer m ≡ true → length (addressed n a v m) ≡ 1
unfolding addressed
length-answer n a v m e = rw e refl

pub length-others : (n a : ℕ) (v : View) (m : Message) → is_answer m ≡ false → length (addressed n a v m) ≡ n
unfolding addressed
length-others n a v m e = rw e (length-numbered n (entry v m))

-- one message has at most n entries, and a step at most six times as many
length_most : (n a : ℕ) (v : View) (m : Message) → 1 ≤ n → length (addressed n a v m) ≤ n
unfolding addressed
length_most n a v m h = go (is_answer m)
  where
    go : (t : Bool) → length (pick t (entry v m a ∷ []) (numbered n (entry v m))) ≤ n
    go true = h
    go false = rw (length-numbered n (entry v m)) (omega arith)

sent-most : (n a : ℕ) (v : View) (s : Sent) → 1 ≤ n → length (entries_of n a v (listed s)) ≤ 2 * n
unfolding entries_of
sent-most n a v Nothing h = omega arith
sent-most n a v (One m) h = rw (append-nil (addressed n a v m)) (omega (arith, length_most n a v m h))
sent-most n a v (Two m k) h =
    rw (append-nil (addressed n a v k), length-append (addressed n a v m) (addressed n a v k))
    (omega (arith, length_most n a v m h, length_most n a v k h))

pub entries-most : (n a : ℕ) (o : Outbox) → 1 ≤ n → length (entries n a o) ≤ 6 * n
entries-most n a o h =
    let x = entries_of n a o.view (listed o.handler) in
    let y = entries_of n a o.view (listed o.reading) in
    let z = entries_of n a o.view (listed o.comparing) in
    rw (entries-three n a o, length-append (x ++ y) z, length-append x y)
    (omega (
      arith,
      sent-most n a o.view o.handler h,
      sent-most n a o.view o.reading h,
      sent-most n a o.view o.comparing h,
    ))

-- ---- how many go to a node

pub go_to-append : (b : ℕ) (k l : List Entry) → go_to b (k ++ l) ≡ go_to b k + go_to b l
unfolding go_to
go_to-append b [] l = omega arith
go_to-append b (e ∷ k) l =
    ap (λ (x : ℕ). pick (eqb e.to b) (x + 1) x) (go_to-append b k l) ∙ go (eqb e.to b)
  where
    go : (t : Bool) → pick t (go_to b k + go_to b l + 1) (go_to b k + go_to b l)
        ≡ pick t (go_to b k + 1) (go_to b k) + go_to b l
    go true = omega arith
    go false = refl

-- the first entries of two lists
pub go_to-take : (b left : ℕ) (k l : List Entry)
    → go_to b (take left (k ++ l)) ≡ go_to b (take left k) + go_to b (take (left - length k) l)
go_to-take b left k l = ap (λ (t : List Entry). go_to b t) (take-append left k l)
    ∙ go_to-append b (take left k) (take (left - length k) l)

-- entries to 1 to k
pub go_to-past : (v : View) (m : Message) (b k : ℕ) → k < b → go_to b (numbered k (entry v m)) ≡ 0
unfolding go_to numbered
go_to-past v m b zero l = refl
go_to-past v m b (suc k) l =
    go_to-append b (numbered k (entry v m)) (entry v m (suc k) ∷ [])
    ∙ ap₂ (λ (x : ℕ) (t : Bool). x + pick t 1 0) (go_to-past v m b k (omega arith))
    (ne_eqb (suc k) b (λ e. omega arith))

pub go_to-once : (v : View) (m : Message) (b k : ℕ) → 1 ≤ b → b ≤ k → go_to b (numbered k (entry v m)) ≡ 1
unfolding go_to numbered
go_to-once v m b zero l h = absurd (let e : 1 ≤ 0 = omega arith in not-suc-le-zero e)
go_to-once v m b (suc k) l h =
    go_to-append b (numbered k (entry v m)) (entry v m (suc k) ∷ [])
    ∙ ⊎_elim
    (λ e. ap₂ (λ (x : ℕ) (t : Bool). x + pick t 1 0) (go_to-past v m b k (omega arith)) (eq-eqb (suc k) b (sym e)))
    (λ q. ap₂ (λ (x : ℕ) (t : Bool). x + pick t 1 0) (go_to-once v m b k l (le_of_suc-le-suc q))
    (ne_eqb (suc k) b (λ e. omega arith)))
    (eq-or-lt_of_le h)

-- the first entries of a message to all
pub cut-numbered : {A : Type 0} (n left : ℕ) (f : ℕ → A) → take left (numbered n f) ≡ numbered (min left n) f
unfolding numbered
cut-numbered {A} zero left f = let e : min left 0 ≡ 0 = omega arith in rw e (nothing left)
  where
    nothing : (k : ℕ) → ◌≡◌ {A = List A} (take k []) []
    nothing zero = refl
    nothing (suc k) = refl
cut-numbered {A} (suc n) left f =
    elim (dec_le left n) [ yes h ↦ inside (cut-numbered n left f) h | no h ↦ all (lt_of_not-le h) ]
  where
    inside : take left (numbered n f) ≡ numbered (min left n) f → left ≤ n
        → take left (numbered n f ++ (f (suc n) ∷ [])) ≡ numbered (min left (suc n)) f
    inside front h =
        let e : min left n ≡ min left (suc n) = omega arith in
        let l : left ≤ length (numbered n f) = rw (length-numbered n f) h in
        take-append-le left (numbered n f) (f (suc n) ∷ []) l ∙ front ∙ ap (λ (k : ℕ). numbered k f) e

    all : n < left → take left (numbered n f ++ (f (suc n) ∷ [])) ≡ numbered (min left (suc n)) f
    all h =
        let e : suc n ≡ min left (suc n) = omega arith in
        let l : length (numbered n f ++ (f (suc n) ∷ [])) ≤ left =
        rw (length-append (numbered n f) (f (suc n) ∷ []), length-numbered n f) (omega arith) in
        take_all left (numbered n f ++ (f (suc n) ∷ [])) l ∙ ap (λ (k : ℕ). numbered k f) e

-- an answer goes to a alone
pub answer-here : (b left n a : ℕ) (v : View) (m : Message) → is_answer m ≡ true → a ≡ b
    → go_to b (take left (addressed n a v m)) ≡ min left 1
unfolding addressed go_to
answer-here b left n a v m e h = rw e (go left)
  where
    go : (k : ℕ) → go_to b (take k (entry v m a ∷ [])) ≡ min k 1
    go zero = omega arith
    go (suc k) =
        let one : min (suc k) 1 ≡ 1 = omega arith in
        ap (λ (t : List Entry). go_to b t) (take_all (suc k) (entry v m a ∷ []) (omega arith))
        ∙ ap (λ (t : Bool). pick t (0 + 1) 0) (eq-eqb a b h) ∙ sym one

pub answer-elsewhere : (b left n a : ℕ) (v : View) (m : Message) → is_answer m ≡ true → (a ≡ b → ⊥)
    → go_to b (take left (addressed n a v m)) ≡ 0
unfolding addressed go_to
answer-elsewhere b left n a v m e h = rw e (go left)
  where
    go : (k : ℕ) → go_to b (take k (entry v m a ∷ [])) ≡ 0
    go zero = refl
    go (suc k) =
        ap (λ (t : List Entry). go_to b t) (take_all (suc k) (entry v m a ∷ []) (omega arith))
        ∙ ap (λ (t : Bool). pick t (0 + 1) 0) (ne_eqb a b h)

-- any other message goes to each node once, if the entries reach so far
pub others-reach : (b left n a : ℕ) (v : View) (m : Message) → is_answer m ≡ false → 1 ≤ b → b ≤ n → b ≤ left
    → go_to b (take left (addressed n a v m)) ≡ 1
unfolding addressed
others-reach b left n a v m e l h k =
    rw e (ap (λ (t : List Entry). go_to b t) (cut-numbered n left (entry v m))
    ∙ go_to-once v m b (min left n) l (omega arith))

pub others-miss : (b left n a : ℕ) (v : View) (m : Message) → is_answer m ≡ false → left < b
    → go_to b (take left (addressed n a v m)) ≡ 0
unfolding addressed
others-miss b left n a v m e k =
    rw e (ap (λ (t : List Entry). go_to b t) (cut-numbered n left (entry v m))
    ∙ go_to-past v m b (min left n) (omega arith))

-- what one part of a step lets out
pub nothing-to : (b left n a : ℕ) (v : View) → go_to b (take left (entries_of n a v [])) ≡ 0
unfolding entries_of go_to
nothing-to b zero n a v = refl
nothing-to b (suc left) n a v = refl

pub nothing_left : (left n a : ℕ) (v : View) → left - length (entries_of n a v []) ≡ left
unfolding entries_of
nothing_left left n a v = omega arith

pub left_both : (left : ℕ) (k l : List Entry) → left - length k - length l ≡ left - length (k ++ l)
left_both left k l = rw (length-append k l) (omega arith)

pub past_two : (left n a : ℕ) (v : View) (m k : Message) {x y : ℕ} → x ≡ left - length (addressed n a v m)
    → y ≡ x - length (addressed n a v k) → y ≡ left - length (entries_of n a v (m ∷ k ∷ []))
past_two left n a v m k p q =
    q ∙ ap (λ (x : ℕ). x - length (addressed n a v k)) p ∙ left_both left (addressed n a v m) (addressed n a v k)
    ∙ ap (λ (t : List Entry). left - length t) (sym (entries-two n a v m k))

pub two_to : (b left n a : ℕ) (v : View) (m k : Message) {x y l : ℕ} → x ≡ go_to b (take left (addressed n a v m))
    → l ≡ left - length (addressed n a v m) → y ≡ go_to b (take l (addressed n a v k))
    → x + y ≡ go_to b (take left (entries_of n a v (m ∷ k ∷ [])))
two_to b left n a v m k p e q =
    ap₂ (λ (x y : ℕ). x + y) p (q ∙ ap (λ (l : ℕ). go_to b (take l (addressed n a v k))) e)
    ∙ sym (ap (λ (t : List Entry). go_to b (take left t)) (entries-two n a v m k)
    ∙ go_to-take b left (addressed n a v m) (addressed n a v k))

pub three-to : (b left n a : ℕ) (o : Outbox) → go_to b (take left (entries n a o))
    ≡ go_to b (take left (entries_of n a o.view (listed o.handler)))
    + go_to b (take (left - length (entries_of n a o.view (listed o.handler)))
    (entries_of n a o.view (listed o.reading)))
    + go_to b (take
    (left - length (entries_of n a o.view (listed o.handler)) - length
    (entries_of n a o.view (listed o.reading)))
    (entries_of n a o.view (listed o.comparing)))
three-to b left n a o =
    let x = entries_of n a o.view (listed o.handler) in
    let y = entries_of n a o.view (listed o.reading) in
    let z = entries_of n a o.view (listed o.comparing) in
    ap (λ (t : List Entry). go_to b (take left t)) (entries-three n a o) ∙ go_to-take b left (x ++ y) z
    ∙ ap₂ (λ (s k : ℕ). s + go_to b (take k z)) (go_to-take b left x y) (sym (left_both left x y))
