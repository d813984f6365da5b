-- Reading gives back what was written, and only what could have been written is read. For every n from 1 to 16.
use Prim.Native.Nat.{ℕ, ◌-◌, ◌≤◌}
use mathlib.Core.Path.{◌≡◌, refl, sym, ap, ap₂, ◌∙◌}
use mathlib.Core.Bool.{Bool, true, false}
use mathlib.Core.List.{List, [], ◌++◌, append-nil}
use mathlib.Core.Logic.{◌↔◌}
use native.Mathlib.Omega.{arith}
use lib.ListN.{length, take, drop, take-append-drop, length-take, length-append}
use lib.Seq.{take_at, take-length}
use lib.Dec.{eqb}
use borrow.Author.Tests.{eq-eqb, eqb-true, ne_eqb}
use Rattle.octets.specs.Answer.{Answer, returned, refused}
use Rattle.octets.specs.Test.{pick, both}
use Rattle.octets.specs.Bytes.{part}
use Rattle.octets.proofs.Test.{both_left, both_right}
use Rattle.octets.proofs.Number.{num-be-suc}
use Rattle.view.specs.Size.{is_size, view_size}
use Rattle.view.proofs.ReportBytes.{report-back}
use Rattle.wire.specs.Layout.{encode, allowed, good_head}
use Rattle.wire.specs.Codec.{said, view_at, begins, front_is, front, whole, decode}
use Rattle.wire.specs.Codec.{view_in, view_read, view_part, view_found, front_part}
use Rattle.wire.specs.declared.Message.{Message}
use Rattle.wire.specs.declared.Message.TheVariants.{Read, ReadAnswer, Write, WriteAnswer, Echo, Value, Good}
use Rattle.wire.proofs.Numbers.{view-length}
use Rattle.wire.proofs.Fields.{begins-front, begins-append}
use Rattle.wire.proofs.Front.{chosen, not_chosen, first-passed}

-- ---- what stands at the places of a message's bytes

said-written : (m : Message) (v rest : List ℕ) → said (encode m v ++ rest) ≡ m
unfolding said encode part
said-written (Read r) v rest = ap (λ (x : ℕ). Read x) (num-be-suc 7 r)
said-written (ReadAnswer r t) v rest = ap₂ (λ (x y : ℕ). ReadAnswer x y) (num-be-suc 7 r) (num-be-suc 7 t)
said-written (Write r t) v rest = ap₂ (λ (x y : ℕ). Write x y) (num-be-suc 7 r) (num-be-suc 7 t)
said-written (WriteAnswer r t) v rest = ap₂ (λ (x y : ℕ). WriteAnswer x y) (num-be-suc 7 r) (num-be-suc 7 t)
said-written (Echo t) v rest = ap (λ (x : ℕ). Echo x) (num-be-suc 7 t)
said-written (Value t w p) v rest = ap₂ (λ x q. Value x w q) (num-be-suc 7 t) (report-back p)
said-written (Good t) v rest = ap (λ (x : ℕ). Good x) (num-be-suc 7 t)

-- the view stands after the head
pub view-place : (n t : ℕ) (v rest : List ℕ) → allowed n (Good t) v ≡ true → view_at n (encode (Good t) v ++ rest) ≡ v
unfolding encode part
view-place n t v rest h = take_at v rest (view_size n) (view-length n t v h)

-- only a good message looks at the view
front-view : (n : ℕ) (b : List ℕ) (m : Message) (v w : List ℕ) → (((t : ℕ) → m ≡ Good t → w ≡ v)) → front_is n b m w
    ≡ front_is n b m v
unfolding encode allowed
front-view n b (Read r) v w h = refl
front-view n b (ReadAnswer r t) v w h = refl
front-view n b (Write r t) v w h = refl
front-view n b (WriteAnswer r t) v w h = refl
front-view n b (Echo t) v w h = refl
front-view n b (Value t w' p) v w h = refl
front-view n b (Good t) v w h = ap (λ (x : List ℕ). front_is n b (Good t) x) (h t refl)

-- ---- reading after writing

-- the reader of the front: the message and its length, whatever stands after it
pub front-back : (n : ℕ) (m : Message) (v rest : List ℕ) → is_size n ≡ true → allowed n m v ≡ true
    → front n (encode m v ++ rest) ≡ returned (m, length (encode m v))
unfolding front
front-back n m v rest s h =
    rw s
    (ap (λ (x : Message). front_is n b x (view_at n b)) (said-written m v rest) ∙ front-view n b m v
    (view_at n b) same_view
    ∙ ap₂ (λ (t u : Bool). pick (both t u) (returned (m, length (encode m v))) (refused 7))
    (begins-append (encode m v) rest) h)
  where
    b : List ℕ
    b = encode m v ++ rest

    same_view : (t : ℕ) → m ≡ Good t → view_at n b ≡ v
    same_view t e =
        ap (λ (x : Message). view_at n (encode x v ++ rest)) e
        ∙ view-place n t v rest (ap (λ (x : Message). allowed n x v) (sym e) ∙ h)

pub read_back : (n : ℕ) (m : Message) (v : List ℕ) → is_size n ≡ true → allowed n m v ≡ true
    → decode n (encode m v) ≡ returned m
unfolding decode
read_back n m v s h =
    let e : front n (encode m v) ≡ returned (m, length (encode m v)) = rw (append-nil (encode m v)) at
    (front-back n m v [] s h) in
    rw e (rw (eq-eqb (length (encode m v)) (length (encode m v)) refl))

-- and its view: only a good message has one, and it begins after its head
view-after : (m : Message) (v : List ℕ) → view_in m (drop good_head (encode m v)) ≡ view_in m v
unfolding encode
view-after (Read r) v = refl
view-after (ReadAnswer r t) v = refl
view-after (Write r t) v = refl
view-after (WriteAnswer r t) v = refl
view-after (Echo t) v = refl
view-after (Value t w p) v = refl
view-after (Good t) v = refl

pub view-back : (n : ℕ) (m : Message) (v : List ℕ) → is_size n ≡ true → allowed n m v ≡ true
    → view_part n (encode m v) ≡ view_in m v
unfolding view_part
view-back n m v s h = ap (λ (a : Answer Message). view_read (encode m v) a) (read_back n m v s h) ∙ view-after m v

front-after : (m : Message) (v rest : List ℕ)
    → view_in m (part (encode m v ++ rest) good_head (length (encode m v) - good_head)) ≡ view_in m v
unfolding encode part
front-after (Read r) v rest = refl
front-after (ReadAnswer r t) v rest = refl
front-after (Write r t) v rest = refl
front-after (WriteAnswer r t) v rest = refl
front-after (Echo t) v rest = refl
front-after (Value t w p) v rest = refl
front-after (Good t) v rest =
    let l : length v ≡ length (encode (Good t) v) - good_head = omega arith in
    take_at v rest (length (encode (Good t) v) - good_head) l

pub front-view-back : (n : ℕ) (m : Message) (v rest : List ℕ) → is_size n ≡ true → allowed n m v ≡ true
    → front_part n (encode m v ++ rest) ≡ view_in m v
unfolding front_part
front-view-back n m v rest s h =
    ap (λ (a : Answer (Message × ℕ)). view_found (encode m v ++ rest) a) (front-back n m v rest s h)
    ∙ front-after m v rest

-- ---- only what could have been written is read

-- what an answer of the reader of the front tells
pub record Front (n : ℕ) (b : List ℕ) (m : Message) (k : ℕ) : Type 0 where
  pub sized : is_size n ≡ true
  pub allowed-is : allowed n m (view_at n b) ≡ true
  pub long : k ≡ length (encode m (view_at n b))
  pub bytes : take k b ≡ encode m (view_at n b)

pub front-only : (n : ℕ) (b : List ℕ) (m : Message) (k : ℕ) → front n b ≡ returned (m, k) → Front n b m k
unfolding front
front-only n b m k e =
    let v = view_at n b in
    let x = said b in
    let p = first-passed (is_size n) (front_is n b x v) 1 (m, k) e in
    let q = chosen (both (begins b (encode x v)) (allowed n x v)) (m, k) (x, length (encode x v)) 7 (sym p.1) in
    let f : m ≡ x = ap (λ (y : Message × ℕ). y.0) q.1 in
    let g : k ≡ length (encode m v) = ap (λ (y : Message × ℕ). y.1) q.1 ∙ ap
    (λ (y : Message). length (encode y v)) (sym f) in
    record {
      sized = p.0;
      allowed-is = ap (λ (y : Message). allowed n y v) f ∙ both_right (begins b (encode x v)) (allowed n x v) q.0;
      long = g;
      bytes = ap (λ (j : ℕ). take j b) g
          ∙ begins-front b (encode m v)
          (ap (λ (y : Message). begins b (encode y v)) f ∙ both_left (begins b (encode x v)) (allowed n x v) q.0);
    }

-- no message is empty
pub not-empty : (m : Message) (v : List ℕ) → 1 ≤ length (encode m v)
unfolding encode
not-empty (Read q) v = omega arith
not-empty (ReadAnswer q t) v = omega arith
not-empty (Write q t) v = omega arith
not-empty (WriteAnswer q t) v = omega arith
not-empty (Echo t) v = omega arith
not-empty (Value t w p) v = omega arith
not-empty (Good t) v = omega arith

-- a message at the front, whatever follows it
module _ (n : ℕ) (b : List ℕ) (m : Message) (k : ℕ) (e : front n b ≡ returned (m, k)) where
  abbrev v : List ℕ
  v = view_at n b

  abbrev f : Front n b m k
  f = front-only n b m k e

  -- bytes that are the same up to its end
  split : (c : List ℕ) → take k c ≡ take k b → c ≡ encode m v ++ drop k c
  split c p = sym (ap (λ (t : List ℕ). t ++ drop k c) (sym (p ∙ f.bytes)) ∙ take-append-drop k c)

  pub front_same : (c : List ℕ) → take k c ≡ take k b → front n c ≡ returned (m, k)
  front_same c p =
      ap (front n) (split c p) ∙ front-back n m v (drop k c) f.sized f.allowed-is
      ∙ ap (λ (j : ℕ). returned (m, j)) (sym f.long)

  pub own-front : (c : List ℕ) → take k c ≡ take k b → front_part n c ≡ view_in m v
  own-front c p = ap (front_part n) (split c p) ∙ front-view-back n m v (drop k c) f.sized f.allowed-is

  pub front-some : 1 ≤ k
  front-some = let l = f.long in let o = not-empty m v in omega (arith, l, o)

  pub front-within : k ≤ length b
  front-within =
      let l = sym (length-take k b) ∙ ap (λ (x : List ℕ). length x) f.bytes ∙ sym f.long in omega (arith, l)

  pub front-alone : decode n (take k b) ≡ returned m
  front-alone = ap (decode n) f.bytes ∙ read_back n m v f.sized f.allowed-is

  pub alone-view : view_part n (take k b) ≡ front_part n b
  alone-view = ap (view_part n) f.bytes ∙ view-back n m v f.sized f.allowed-is ∙ sym (own-front b refl)

whole-got : (k : ℕ) (a : Answer (Message × ℕ)) (m : Message) → whole k a ≡ returned m → a ≡ returned (m, k)
whole-got k (returned p) m e =
    let q = chosen (eqb p.1 k) m p.0 7 (sym e) in
    ap₂ (λ (x : Message) (j : ℕ). returned (x, j)) (sym q.1) (eqb-true p.1 k q.0)
whole-got k (refused c) m e = cc

pub record Whole (n : ℕ) (b : List ℕ) (m : Message) : Type 0 where
  pub sized : is_size n ≡ true
  pub allowed-is : allowed n m (view_part n b) ≡ true
  pub bytes : b ≡ encode m (view_part n b)

-- a message's bytes, and whether it is allowed, tell no more than its own view
own_view : (n : ℕ) (m : Message) (v : List ℕ) → (allowed n m (view_in m v) ≡ allowed n m v) × (encode m (view_in m v)
    ≡ encode m v)
unfolding encode allowed
own_view n (Read r) v = (refl, refl)
own_view n (ReadAnswer r t) v = (refl, refl)
own_view n (Write r t) v = (refl, refl)
own_view n (WriteAnswer r t) v = (refl, refl)
own_view n (Echo t) v = (refl, refl)
own_view n (Value t w p) v = (refl, refl)
own_view n (Good t) v = (refl, refl)

placed : (n : ℕ) (b : List ℕ) (m : Message) → is_size n ≡ true → allowed n m (view_at n b) ≡ true → b ≡ encode m
    (view_at n b)
    → Whole n b m
placed n b m s h e =
    let v = view_at n b in
    let q : view_part n b ≡ view_in m v = ap (λ (x : List ℕ). view_part n x) e ∙ view-back n m v s h in
    record {
      sized = s;
      allowed-is = ap (λ (x : List ℕ). allowed n m x) q ∙ (own_view n m v).0 ∙ h;
      bytes = e ∙ sym (own_view n m v).1 ∙ ap (λ (x : List ℕ). encode m x) (sym q);
    }

pub read_only : (n : ℕ) (b : List ℕ) (m : Message) → decode n b ≡ returned m → Whole n b m
unfolding decode
read_only n b m e =
    let f = front-only n b m (length b) (whole-got (length b) (front n b) m e) in
    placed n b m f.sized f.allowed-is (sym (take-length b) ∙ f.bytes)

-- bytes are read as m just where they are what is written of m, allowed, with some view
-- with more bytes after it, it is not the message that they are
pub nothing-after : (n : ℕ) (b rest : List ℕ) (m : Message) → decode n b ≡ returned m → 1 ≤ length rest
    → decode n (b ++ rest) ≡ refused 7
unfolding decode
nothing-after n b rest m e l =
    let w = read_only n b m e in
    let f : front n (b ++ rest) ≡ returned (m, length b) =
    ap (λ (z : List ℕ). front n (z ++ rest)) w.bytes ∙ front-back n m (view_part n b) rest w.sized w.allowed-is
    ∙ ap (λ (z : List ℕ). returned (m, length z)) (sym w.bytes) in
    rw f (rw (ne_eqb (length b) (length (b ++ rest)) (λ h.
    let i = length-append b rest in omega (arith, h, i, l))) refl)

pub accepts : (n : ℕ) (b : List ℕ) (m : Message) → is_size n ≡ true
    → (decode n b ≡ returned m) ↔ ((v : List ℕ) × (allowed n m v ≡ true) × (b ≡ encode m v))
accepts n b m s = (
  λ e. let w = read_only n b m e in (view_part n b, w.allowed-is, w.bytes),
  λ x. ap (λ (t : List ℕ). decode n t) x.2 ∙ read_back n m x.0 s x.1,
)

seven : (k : ℕ) (t : Bool) (x : Message × ℕ) (c : ℕ) → whole k (pick t (returned x) (refused 7)) ≡ refused c → c ≡ 7
seven k true x c e = (not_chosen (eqb x.1 k) x.0 c 7 (sym e)).1
seven k false x c e = cc

-- for n from 1 to 16 every refusal is 7, and for another n it is 1
pub refuses-seven : (n : ℕ) (b : List ℕ) (c : ℕ) → is_size n ≡ true → decode n b ≡ refused c → c ≡ 7
unfolding decode front
refuses-seven n b c s e =
    seven (length b) (both (begins b (encode (said b) (view_at n b))) (allowed n (said b) (view_at n b)))
    (said b, length (encode (said b) (view_at n b))) c (rw s at e)

pub refuses-one : (n : ℕ) (b : List ℕ) → is_size n ≡ false → decode n b ≡ refused 1
unfolding decode front
refuses-one n b s = rw s

-- ---- no two messages have the same bytes

pub injective : (n : ℕ) (m m' : Message) (v v' : List ℕ) → is_size n ≡ true → allowed n m v ≡ true → allowed n m' v'
    ≡ true
    → encode m v ≡ encode m' v' → (m ≡ m') × (view_in m v ≡ view_in m' v')
injective n m m' v v' s h h' e =
    let p : returned m ≡ returned m' = sym (read_back n m v s h) ∙ ap (λ (b : List ℕ). decode n b) e
    ∙ read_back n m' v' s h' in
    (cc, sym (view-back n m v s h) ∙ ap (λ (b : List ℕ). view_part n b) e ∙ view-back n m' v' s h')
