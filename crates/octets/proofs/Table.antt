-- Laws of `tab`, a list by its rule, and of `join`, runs one after the other.
use Prim.Native.Nat.{ℕ, zero, suc, ◌+◌, ◌-◌, ◌*◌, ◌<◌, ◌≤◌}
use mathlib.Core.Path.{◌≡◌, refl, sym, ap, ap₂, ◌∙◌}
use mathlib.Core.Logic.{⊎_elim}
use mathlib.Core.List.{List, [], ◌∷◌, ◌++◌}
use native.Mathlib.Nat.{le_of_suc-le-suc, eq-or-lt_of_le, not-suc-le-zero, mul-suc, mul-le-mul_left, add-zero}
use native.Mathlib.Nat.{sub-zero, zero-sub, suc-sub-suc, le_of_eq, lt_of_not-le}
use native.Mathlib.Numerals.{add-one}
use native.Mathlib.Decide.{dec_le}
use native.Mathlib.Omega.{arith}
use lib.ListN.{length, take, drop, get_or, set, replicate, length-append, length-replicate, get_or-append}
use lib.Seq.{get_or_at, get_or-append-add, take-append-le, take_all, take-add, ext_get_or, drop-cons, set_at}
use lib.Seq.{append_snoc}
use Rattle.octets.specs.Bytes.{part}
use Rattle.octets.specs.Loop.{tab, join}
use Rattle.octets.proofs.Put.{length_part, get_d_part, part_left, part_right, part-all}
use Rattle.octets.proofs.Loop.{below_suc}

-- ---- tab

module _ {A : Type 0} where
  pub tab-none : (f : ℕ → A) → tab 0 f ≡ []
  unfolding tab
  tab-none f = refl

  pub tab-more : (k : ℕ) (f : ℕ → A) → tab (k + 1) f ≡ tab k f ++ (f k ∷ [])
  unfolding tab
  tab-more k f = rw (add-one k)

  pub tab-cons : (k : ℕ) (f : ℕ → A) → tab (suc k) f ≡ f 0 ∷ tab k (λ i. f (suc i))
  unfolding tab
  tab-cons zero f = refl
  tab-cons (suc k) f = ap (λ (t : List A). t ++ (f (suc k) ∷ [])) (tab-cons k f)

  pub length-tab : (k : ℕ) (f : ℕ → A) → length (tab k f) ≡ k
  unfolding tab
  length-tab zero f = refl
  length-tab (suc k) f = rw (length-append (tab k f) (f k ∷ []), length-tab k f) (add-one k)

  pub get_d-tab : (k : ℕ) (f : ℕ → A) (i : ℕ) (d : A) → i < k → get_or (tab k f) i d ≡ f i
  unfolding tab
  get_d-tab zero f i d l = absurd (not-suc-le-zero l)
  get_d-tab (suc k) f i d l =
      below_suc l (λ e. get_or_at (tab k f) (f k) [] d i (length-tab k f ∙ sym e) ∙ ap f (sym e))
      (λ m. let n : i < length (tab k f) = rw (length-tab k f) m in
      get_or-append (tab k f) (f k ∷ []) d i n ∙ get_d-tab k f i d m)

  -- a loop that fills a list from the front by the rule f: one store more
  pub tab-set : (i : ℕ) (f : ℕ → A) (t : List A) → i < length t
      → set (tab i f ++ drop i t) i (f i) ≡ tab (i + 1) f ++ drop (i + 1) t
  tab-set i f t h =
      ap (λ (r : List A). set (tab i f ++ r) i (f i)) (drop-cons t i (f i) h)
      ∙ set_at (tab i f) (get_or t i (f i)) (drop (suc i) t) (f i) i (length-tab i f)
      ∙ sym (append_snoc (tab i f) (f i) (drop (suc i) t))
      ∙ ap₂ (λ (r s : List A). r ++ s) (sym (tab-more i f)) (ap (λ (k : ℕ). drop k t) (sym (add-one i)))

  get_d-same : (n : ℕ) (d : A) (i : ℕ) → get_or (replicate n d) i d ≡ d
  get_d-same zero d i = refl
  get_d-same (suc n) d zero = refl
  get_d-same (suc n) d (suc i) = get_d-same n d i

  pub drop-replicate : (i n : ℕ) (a : A) → drop i (replicate n a) ≡ replicate (n - i) a
  drop-replicate zero n a = ap (λ (k : ℕ). replicate k a) (sym (sub-zero n))
  drop-replicate (suc i) zero a = ap (λ (k : ℕ). replicate k a) (sym (zero-sub (suc i)))
  drop-replicate (suc i) (suc n) a =
      drop-replicate i n a ∙ ap (λ (k : ℕ). replicate k a) (sym (suc-sub-suc n i))

  -- the first n places of a list by the rule f, and d in the others, up to k
  pub get_d-padded : (n k : ℕ) (f : ℕ → A) (i : ℕ) (d : A) → i < n → get_or (tab n f ++ replicate (k - n) d) i d ≡ f i
  get_d-padded n k f i d l =
      let h : i < length (tab n f) = rw (length-tab n f) l in
      get_or-append (tab n f) (replicate (k - n) d) d i h ∙ get_d-tab n f i d l

  pub get_d_past : (n k : ℕ) (f : ℕ → A) (i : ℕ) (d : A) → n ≤ i → get_or (tab n f ++ replicate (k - n) d) i d ≡ d
  get_d_past n k f i d l =
      let e : i ≡ length (tab n f) + (i - n) = rw (length-tab n f) (omega arith) in
      ap (λ (j : ℕ). get_or (tab n f ++ replicate (k - n) d) j d) e
      ∙ get_or-append-add (tab n f) (replicate (k - n) d) (i - n) d ∙ get_d-same (k - n) d (i - n)

  pub length-padded : (n k : ℕ) (f : ℕ → A) (d : A) → n ≤ k → length (tab n f ++ replicate (k - n) d) ≡ k
  length-padded n k f d l = simp (length-append, length-tab, length-replicate) (omega arith)

  -- a list is that list if the rule gives its first n elements and it has d in the others
  pub padded : (n k : ℕ) (f : ℕ → A) (d : A) (l : List A) → n ≤ k → length l ≡ k →
      ((i : ℕ) → i < n → f i ≡ get_or l i d)
      → ((i : ℕ) → n ≤ i → get_or l i d ≡ d) → tab n f ++ replicate (k - n) d ≡ l
  padded n k f d l h e front back =
      ext_get_or d (tab n f ++ replicate (k - n) d) l (length-padded n k f d h ∙ sym e) (λ i m. at_each i (dec_le n i))
    where
      at_each : (i : ℕ) → Dec (n ≤ i) → get_or (tab n f ++ replicate (k - n) d) i d ≡ get_or l i d
      at_each i (yes q) = get_d_past n k f i d q ∙ sym (back i q)
      at_each i (no q) = get_d-padded n k f i d (lt_of_not-le q) ∙ front i (lt_of_not-le q)

  pub tab-ext : (k : ℕ) (f g : ℕ → A) → ((i : ℕ) → i < k → f i ≡ g i) → tab k f ≡ tab k g
  unfolding tab
  tab-ext zero f g h = refl
  tab-ext (suc k) f g h =
      ap₂ (λ (t : List A) (a : A). t ++ (a ∷ [])) (tab-ext k f g (λ i l. h i (omega arith))) (h k (omega arith))

  pub take-tab : (k : ℕ) (f : ℕ → A) (i : ℕ) → i ≤ k → take i (tab k f) ≡ tab i f
  unfolding tab
  take-tab zero f i l = let e : i ≡ 0 = omega arith in rw e
  take-tab (suc k) f i l =
      let all : length (tab k f ++ (f k ∷ [])) ≤ suc k = rw (length-append (tab k f) (f k ∷ []), length-tab k f)
      (omega arith) in
      ⊎_elim (λ e. ap (λ (j : ℕ). take j (tab (suc k) f)) e ∙ take_all (suc k) (tab (suc k) f) all ∙ ap
      (λ (j : ℕ). tab j f) (sym e))
      (λ m. let n : i ≤ length (tab k f) = rw (length-tab k f) (le_of_suc-le-suc m) in
      take-append-le i (tab k f) (f k ∷ []) n ∙ take-tab k f i (le_of_suc-le-suc m)) (eq-or-lt_of_le l)

  -- a list is the table of its elements
  pub tab-of : (l : List A) (d : A) → tab (length l) (λ i. get_or l i d) ≡ l
  tab-of l d =
      ext_get_or d (tab (length l) (λ i. get_or l i d)) l (length-tab (length l) (λ i. get_or l i d))
      (λ i h. get_d-tab (length l) (λ j. get_or l j d) i d (rw (length-tab (length l) (λ j. get_or l j d)) at h))

  -- one of a known length, spelled out
  pub tab-spelled : (k : ℕ) (l : List A) (d : A) → length l ≡ k → l ≡ tab k (λ i. get_or l i d)
  tab-spelled k l d e = sym (tab-of l d) ∙ ap (λ (j : ℕ). tab j (λ i. get_or l i d)) e

  -- ---- join

  pub join-none : (f : ℕ → List A) → join 0 f ≡ []
  unfolding join
  join-none f = refl

  pub join_more : (k : ℕ) (f : ℕ → List A) → join (k + 1) f ≡ join k f ++ f k
  unfolding join
  join_more k f = rw (add-one k)

  pub join-ext : (k : ℕ) (f g : ℕ → List A) → ((i : ℕ) → i < k → f i ≡ g i) → join k f ≡ join k g
  unfolding join
  join-ext zero f g h = refl
  join-ext (suc k) f g h =
      ap₂ (λ (s t : List A). s ++ t) (join-ext k f g (λ i l. h i (omega arith))) (h k (omega arith))

  -- runs of one length, those below k or all
  pub length-join-below : (k s : ℕ) (f : ℕ → List A) → ((i : ℕ) → i < k → length (f i) ≡ s) → length (join k f) ≡ s * k
  unfolding join
  length-join-below zero s f h = omega arith
  length-join-below (suc k) s f h =
      rw (
        length-append (join k f) (f k),
        length-join-below k s f (λ i l. h i (omega arith)),
        h k (omega arith),
      ) (sym (mul-suc s k))

  pub length-join : (k s : ℕ) (f : ℕ → List A) → ((i : ℕ) → length (f i) ≡ s) → length (join k f) ≡ s * k
  length-join k s f h = length-join-below k s f (λ i l. h i)

-- each is read where it stands
pub part-join-below : (k s : ℕ) (f : ℕ → List ℕ) (i : ℕ) → ((j : ℕ) → j < k → length (f j) ≡ s) → i < k
    → part (join k f) (s * i) s ≡ f i
unfolding join
part-join-below zero s f i h l = absurd (not-suc-le-zero l)
part-join-below (suc k) s f i h l =
    let g : (j : ℕ) → j < k → length (f j) ≡ s = λ j m. h j (omega arith) in
    let n : length (join k f) ≡ s * k = length-join-below k s f g in
    below_suc l
    (λ e. let m : length (join k f) + 0 ≡ s * i = rw (n, e) (add-zero (s * k)) in
    part_right (join k f) (f k) (s * i) 0 s m ∙ part-all (f k) s (le_of_eq (h k (omega arith))) ∙ ap f (sym e))
    (λ m. let t : s * suc i ≤ s * k = mul-le-mul_left s m in
    let u : s * i + s ≤ length (join k f) = rw n (omega arith) in
    part_left (join k f) (f k) (s * i) s u ∙ part-join-below k s f i g m)

pub part_join : (k s : ℕ) (f : ℕ → List ℕ) (i : ℕ) → ((j : ℕ) → length (f j) ≡ s) → i < k
    → part (join k f) (s * i) s ≡ f i
part_join k s f i h l = part-join-below k s f i (λ j m. h j) l

-- a part, byte by byte
pub part-tab : (b : List ℕ) (at len : ℕ) → at + len ≤ length b → part b at len ≡ tab len (λ i. get_or b (at + i) 0)
part-tab b at len l =
    sym (tab-of (part b at len) 0)
    ∙ ap (λ (k : ℕ). tab k (λ i. get_or (part b at len) i 0)) (length_part b at len l)
    ∙ tab-ext len (λ i. get_or (part b at len) i 0) (λ i. get_or b (at + i) 0) (λ i m. get_d_part b at len i m)

-- the runs that stand one after the other in a list are its front
pub join-parts : (k s : ℕ) (b : List ℕ) → join k (λ i. part b (s * i) s) ≡ take (s * k) b
unfolding join part
join-parts zero s b = let e : s * 0 ≡ 0 = omega arith in rw e
join-parts (suc k) s b =
    ap (λ (t : List ℕ). t ++ take s (drop (s * k) b)) (join-parts k s b) ∙ sym (take-add (s * k) s b)
    ∙ ap (λ (j : ℕ). take j b) (sym (mul-suc s k))
