-- Every tag below the largest in use has been introduced: a good message with it was let out to all nodes. For a new
-- largest tag comes into use only by the write that ends a list, and the good message of the tag before stands just
-- before it in that list, so that no cut lets the write out and keeps the good message back.
use Prim.Native.Nat.{ℕ, suc, ◌≤◌, ◌<◌}
use native.Mathlib.Omega.{arith}
use native.Mathlib.Decide.{dec_lt}
use mathlib.Core.Path.{◌≡◌, refl, ap, sym, subst, ◌∙◌}
use mathlib.Core.Logic.{◌⊎◌, inl, inr}
use mathlib.Core.Bool.{Bool, true, false, true≢false}
use mathlib.Core.List.Memᴰ
use mathlib.Core.List.{List, [], ◌∷◌, ◌++◌, append-nil, append_assoc}
use Rattle.logs.specs.Update.{upd}
use Rattle.logs.proofs.Update.{upd_same, upd-all}
use Rattle.logs.specs.Log.{◌∈◌, ◌⊑◌, here, push}
use Rattle.logs.proofs.Log.{mem_up, push-up, push-or, push-new}
use Rattle.history.specs.Message.{View, Message, write, good}
use Rattle.history.specs.Event.{Extent, whole, cut}
use Rattle.history.specs.Order.{OneTo}
use Rattle.algorithm.specs.Algorithm.{Wait, writing, Node}
use Rattle.algorithm.proofs.Cert.{Logs}
use Rattle.eqaso.specs.Cluster.{halted}
use Rattle.eqaso.proofs.Front.{front, front-in, front-last}
use Rattle.eqaso.proofs.Channel.{stood}
use Rattle.algorithm.proofs.Mark.{Low, low_up, Below, below_up, Marked, Leapt, Opened, Left}

-- A list and the log that it makes.

push-over : {A : Type 0} (a l : List A) → push a l ≡ push a [] ++ l
push-over [] l = refl
push-over (x ∷ a) l = push-over a (x ∷ l)
    ∙ sym (ap (λ z. z ++ l) (push-over a (x ∷ [])) ∙ append_assoc (push a []) (x ∷ []) l)

push-push : {A : Type 0} (a l r : List A) → push (push a l) r ≡ push l (a ++ r)
push-push [] l r = refl
push-push (x ∷ a) l r = push-push a (x ∷ l) r

-- A list by the log that it makes from nothing.
listed : {A : Type 0} {new before : List A} {g w : A} → push new [] ≡ w ∷ g ∷ before
    → new ≡ push before [] ++ (g ∷ w ∷ [])
listed {A} {new} {before} {g} {w} e =
    sym (push-push new [] [] ∙ append-nil new) ∙ ap (λ z. push z []) e ∙ push-over before (g ∷ w ∷ [])

-- A node has let out a good message with tag t to all nodes.
abbrev pub Introduced : ℕ → (ℕ → Logs) → ℕ → Type 0
Introduced n gone t = (k : ℕ) × OneTo n k × (view : View) × ((b : ℕ) → OneTo n b → good t view ∈ gone k b)

-- No tag in use is above M: at nodes that stand, and in what was let out. gone a b is what node a has let out to b.
pub record Marks (n : ℕ) (stopped : ℕ → Bool) (nodes : ℕ → Node) (gone : ℕ → Logs) (M : ℕ) : Type 0 where
  pub top : (i : ℕ) → stopped i ≡ false → (nodes i).maxtag ≤ M
  pub low : (i : ℕ) → stopped i ≡ false → Low M (nodes i).wait
  pub said : (a b : ℕ) → OneTo n b → (m : Message) → m ∈ gone a b → Below M m
  pub intro : (t : ℕ) → t < M → Introduced n gone t

module _ {n : ℕ} {stopped : ℕ → Bool} {nodes : ℕ → Node} {gone : ℕ → Logs} {M : ℕ}
    (K : Marks n stopped nodes gone M) (c : ℕ) (x : Extent) (ν : Node) (new : List Message) where
  -- What has been let out after node c has let out the messages of a step.
  abbrev gone-on : ℕ → Logs
  gone-on = upd gone c (λ b. push (front n x b new) (gone c b))

  gone-more : (a b : ℕ) → gone a b ⊑ gone-on a b
  gone-more a b = upd-all (λ a g. gone a b ⊑ g b) gone c (λ b. push (front n x b new) (gone c b)) (λ a ne. here)
      (push-up (front n x b new) (gone c b)) a

  marks-by : (N : ℕ) → M ≤ N → (halted x c stopped c ≡ false → (ν.maxtag ≤ N) × Low N ν.wait)
      → ((b : ℕ) → OneTo n b → (m : Message) → m ∈ front n x b new → Below N m)
      → ((t : ℕ) → t < N → ¬ (t < M) → Introduced n gone-on t)
      → Marks n (halted x c stopped) (upd nodes c ν) gone-on N
  marks-by N le node said intro = record {
    top = upd-all (λ i ν. halted x c stopped i ≡ false → ν.maxtag ≤ N) nodes c ν
        (λ i ne h. omega (arith, K.top i (stood x c stopped i h))) (λ h. (node h).0);
    low = upd-all (λ i ν. halted x c stopped i ≡ false → Low N ν.wait) nodes c ν
        (λ i ne h. low_up (nodes i).wait le (K.low i (stood x c stopped i h))) (λ h. (node h).1);
    said = λ a b o. upd-all (λ a g. (m : Message) → m ∈ g b → Below N m) gone c (λ b. push (front n x b new) (gone c b))
        (λ a ne m i. below_up m le (K.said a b o m i))
        (λ m i. elim (push-or (front n x b new) (gone c b) i)
        [ inl j ↦ said b o m j | inr j ↦ below_up m le (K.said c b o m j) ]) a;
    intro = λ t lt. elim (dec_lt t M) [
      | yes h ↦ (let (k, is, view, g) = K.intro t h in (k, is, view, λ b o. mem_up (gone-more k b) (g b o)))
      | no h ↦ intro t lt h
    ];
  }

  calm : Marked M ν (push new []) → Marks n (halted x c stopped) (upd nodes c ν) gone-on M
  calm d = marks-by M (omega arith) (λ h. (d.top, d.low)) (λ b o m j. d.said m (push-new [] (front-in n x b new j)))
      (λ t lt h. absurd (h lt))

  opened-low : (w : Wait) → Opened M w → Low (suc M) w
  opened-low (writing op r t s) h = h
  opened-low _ h = elim h [ ]

  module _ (d : Leapt M ν (push new [])) where
    leap-said : (m : Message) → m ∈ (write d.q (suc M) ∷ good M d.view ∷ d.before) → Below (suc M) m
    leap-said m (Memᴰ.head e) = subst (Below (suc M)) (sym e) (omega arith)
    leap-said m (Memᴰ.tail (Memᴰ.head e)) = subst (Below (suc M)) (sym e) tt
    leap-said m (Memᴰ.tail (Memᴰ.tail i)) = below_up m (omega arith) (d.said m i)

    -- The good message is out to all nodes: the next tag is in use.
    leap : OneTo n c → ((b : ℕ) → OneTo n b → good M d.view ∈ front n x b new)
        → Marks n (halted x c stopped) (upd nodes c ν) gone-on (suc M)
    leap node out = marks-by (suc M) (omega arith) (λ h. (omega (arith, d.top), opened-low ν.wait d.opened))
        (λ b o m j. leap-said m (subst (λ z. m ∈ z) d.sent (push-new [] (front-in n x b new j))))
        (λ t lt h. let e : M ≡ t = omega arith in subst (Introduced n gone-on) e (
          c,
          node,
          d.view,
          λ b o.
              subst (λ g. good M d.view ∈ g b) (sym (upd_same gone c (λ b. push (front n x b new) (gone c b))))
              (push-new (gone c b) (out b o)),
        ))

    -- The write is out to none, and the node has stopped.
    held_back : halted x c stopped c ≡ true
        → ((b : ℕ) (m : Message) → OneTo n b → m ∈ front n x b new
        → m ∈ (push d.before [] ++ (good M d.view ∷ [])))
        → Marks n (halted x c stopped) (upd nodes c ν) gone-on M
    held_back stops out = marks-by M (omega arith) (λ h. absurd (true≢false (sym stops ∙ h)))
        (λ b o m j. elim (Memᴰ.append_cases (push d.before []) (out b m o j)) [
          | inl i ↦ elim (push-or d.before [] i) [ inl k ↦ d.said m k | inr k ↦ elim k [ ] ]
          | inr i ↦ only m i
        ])
        (λ t lt h. absurd (h lt))
      where
        only : (m : Message) → m ∈ (good M d.view ∷ []) → Below M m
        only m (Memᴰ.head e) = subst (Below M) (sym e) tt
        only m (Memᴰ.tail h) = elim h [ ]

-- Node c takes a step after which its state is ν, and sends new.
pub marks-act : {n : ℕ} {stopped : ℕ → Bool} {nodes : ℕ → Node} {gone : ℕ → Logs} {M : ℕ} → Marks n stopped nodes gone M
    → (c : ℕ) (x : Extent) (ν : Node) (new : List Message) → OneTo n c → Left M ν (push new [])
    → (N : ℕ) × Marks n (halted x c stopped) (upd nodes c ν) (upd gone c (λ b. push (front n x b new) (gone c b))) N
marks-act {n} {stopped} {nodes} {gone} {M} K c x ν new node (inl d) = (M, calm K c x ν new d)
marks-act {n} {stopped} {nodes} {gone} {M} K c x ν new node (inr d) = go x
  where
    pre : List Message
    pre = push d.before []

    is : new ≡ pre ++ (good M d.view ∷ write d.q (suc M) ∷ [])
    is = listed d.sent

    go : (x : Extent)
        → (N : ℕ) × Marks n (halted x c stopped) (upd nodes c ν) (upd gone c (λ b. push (front n x b new) (gone c b))) N
    go whole = (
      suc M,
      leap K c whole ν new d node (λ b o. subst (λ z. good M d.view ∈ z) (sym is)
          (Memᴰ.append_right pre (Memᴰ.head refl))),
    )
    go (cut k) = elim (subst (λ z. ((b : ℕ) → OneTo n b → good M d.view ∈ front n (cut k) b z)
        ⊎ ((b : ℕ) (m : Message) → OneTo n b → m ∈ front n (cut k) b z → m ∈ (pre ++ (good M d.view ∷ [])))) (sym is)
        (front-last n (cut k) pre (good M d.view) (write d.q (suc M)))) [
          | inl out ↦ (suc M, leap K c (cut k) ν new d node out)
          | inr out ↦ (M, held_back K c (cut k) ν new d (upd_same stopped c true) out)
        ]
