-- The delivery in which an update makes its value: the book notes its tag, unless a cut let it out to nobody.
use Prim.Native.Nat.{ℕ, suc, ◌+◌, ◌<◌}
use native.Mathlib.Omega.{arith}
use native.Mathlib.Decide.{ℕ_discrete}
use mathlib.Core.Path.{◌≡◌, refl, sym, ◌∙◌, ap, subst}
use mathlib.Core.Logic.{◌⊎◌, inl, inr}
use mathlib.Core.Bool.{Bool, true, false, true≢false}
use mathlib.Core.List.Memᴰ
use mathlib.Core.List.{List, [], ◌∷◌}
use lib.ListN.{length}
use Rattle.logs.specs.Update.{upd}
use Rattle.logs.proofs.Update.{upd_same, upd_other}
use Rattle.logs.specs.Log.{◌∈◌}
use Rattle.logs.proofs.Log.{push-new, placed}
use Rattle.history.specs.Message.{Value, of, Message, value}
use Rattle.history.specs.Event.{Operation, update, Round, round3, none, Extent, whole, cut}
use Rattle.history.specs.Trace.{Trace, Begun, nothing, updating, scanning}
use Rattle.history.specs.Order.{EndedBefore}
use Rattle.algorithm.specs.Algorithm.{Wait, reading, writing, comparing, borrowing}
use Rattle.algorithm.proofs.Cert.{Log, Logs}
use Rattle.algorithm.proofs.Local.{Past, Own, Pending, Settled, Stage, Phase}
use Rattle.algorithm.proofs.Sites.{Sites, logs}
use Rattle.algorithm.proofs.World.{handed-ok}
use Rattle.eqaso.specs.Cluster.{halted, given}
use Rattle.eqaso.proofs.Front.{front, front-in}
use Rattle.eqaso.proofs.Course.{Reads, Staged, Opened, Only}
use Rattle.eqaso.proofs.Act.{Passed}
use Rattle.eqaso.proofs.Closure.{writer-sent}
use Rattle.eqaso.proofs.Book.{Book, tags}
use Rattle.eqaso.proofs.Modes.{tag_open}
use Rattle.eqaso.proofs.Keep.{not-ended}
use Rattle.eqaso.proofs.Kept.{own_in, next-tag}
use Rattle.eqaso.proofs.History.{kind_of, Booked, Behind, Runs, Tagged, mode-reads, mode-staged}
use Rattle.eqaso.proofs.Later.{Later, booked-later, later-tag, apart-tag, left-tag, runs-with}
use Rattle.eqaso.proofs.Recorded.{own-from, own_out, history-next}
use Rattle.eqaso.proofs.Views.{settled-of, tag-due}
use Rattle.eqaso.proofs.Deliver.{Delivery, step, site, entry, B, F, Noted, base-booked, left-now, silent}
use Rattle.eqaso.proofs.Deliver.{mode-before}
use Rattle.algorithm.specs.Node.{idle}

pub dec-in : (x : ℕ) (l : List ℕ) → Dec (x ∈ l)
dec-in x [] = no λ m. elim m [ ]
dec-in x (y ∷ l) = go (ℕ_discrete x y) (dec-in x l)
  where
    go : Dec (x ≡ y) → Dec (x ∈ l) → Dec (x ∈ (y ∷ l))
    go (yes e) d = yes (Memᴰ.head e)
    go (no e) (yes m) = yes (Memᴰ.tail m)
    go (no e) (no h) = no λ m. both m
      where
        both : x ∈ (y ∷ l) → ⊥
        both (Memᴰ.head d) = e d
        both (Memᴰ.tail i) = h i

abbrev node_in : Begun → ℕ
node_in nothing = 0
node_in (updating c p) = c
node_in (scanning c) = c

abbrev report_in : Begun → ℕ
report_in nothing = 0
report_in (updating c p) = p
report_in (scanning c) = 0

pub given-none : (x : Extent) → given x none ≡ none
given-none whole = refl
given-none (cut k) = refl

reads-settled : (i r : ℕ) (op : Operation) (w : Wait) (v : Value) → Reads w → Pending i r op w v → ⊥
reads-settled i r op (reading o s u) v h e = e
reads-settled i r op _ v h e = elim h [ ]

-- The reading behind a wait past it.
pub stage-of : (n f : ℕ) (out : Logs) (γ : Past) (i r : ℕ) (op : Operation) (q : ℕ) (l : Log) (w : Wait) → Staged w
    → Phase n f out γ i r op q l w → (rnd : Round) × (t : ℕ) × Stage n f out γ i r op l rnd t
stage-of n f out γ i r op q l (reading _ answered largest) h p = elim h [ ]
stage-of n f out γ i r op q l idle h p = elim h [ ]
stage-of n f out γ i r op q l (writing o rnd t s) h p = (rnd, t, p.1.stage)
stage-of n f out γ i r op q l (comparing o rnd t) h p = (rnd, t, p.1.stage)
stage-of n f out γ i r op q l (borrowing o t) h p = (round3, t, p.1)

pub opened-staged : {w : Wait} → Opened w → Staged w
opened-staged (o, r, t, e) = subst Staged (sym e) tt

-- A node whose event is cut does not stand after it.
pub cut-stops : (c : ℕ) (stopped : ℕ → Bool) (k : ℕ) → halted (cut k) c stopped c ≡ false → ⊥
cut-stops c stopped k h = true≢false (sym (upd_same stopped c true) ∙ h)

module _ {n f : ℕ} {half : f + f < n} {stopped : ℕ → Bool} {σ : Sites} {gone : ℕ → Logs} {tr : Trace} {c k : ℕ}
    {x : Extent} {m : Message} {p : Log} (D : Delivery n f half stopped σ gone tr c k x m p)
    (reads : Reads (σ c).node.wait) where
  -- A node that reads passes no value of its own on.
  no_own : (v : Value) → Passed m (σ c).node v → v.writer ≡ c → ⊥
  no_own v (is, new) e =
      let in-k : value v ∈ logs σ k = subst (λ z. z ∈ logs σ k) is (placed D.comes.at) in
      let in_c : value v ∈ logs σ c = subst (λ z. value v ∈ logs σ z) e
      (writer-sent n f (logs σ) (λ j. (D.inv j).due) k in-k) in
      elim ((D.inv c).have (value v) in_c).0
      [ inl y ↦ new y | inr y ↦ reads-settled c (σ c).tag (σ c).op (σ c).node.wait v reads y ]

  module _ (q : ℕ) (op : (σ c).op ≡ update q) (calm : (step D).ending ≡ none) (opened : Opened (step D).node.wait)
      (made : value (of (suc (site D).tag) c q) ∈ (step D).sent)
      (values : Only (λ v. Passed m (σ c).node v ⊎ (v ≡ of (suc (site D).tag) c q)) (step D).sent) where
    abbrev r : ℕ
    r = (site D).tag

    abbrev own : Value
    own = of (suc r) c q

    running : (t : ℕ) × Runs n f (B D) c (σ c).op (σ c).past.base t × ((B D).tag t ≡ 0)
    running = (mode-reads n f (B D) c (σ c).op (σ c).tag (σ c).past.base (σ c).node.wait reads).0 (mode-before D)

    abbrev t : ℕ
    t = running.0

    stage : (rnd : Round) × (u : ℕ) × Stage n f (logs σ) (site D).past c r (σ c).op (site D).log rnd u
    stage = stage-of n f (logs σ) (site D).past c r (σ c).op (step D).node.request (site D).log
        (step D).node.wait
        (opened-staged opened) (handed-ok n f half D.inv c k m p D.comes).kept.phase

    own-only : (y : ℕ) → y ∈ own_in (entry D) → y ≡ suc r
    own-only y i = let (v, in-sent, w, e) = own-from n c x (step D).sent i in
        elim (values v in-sent) [ inl h ↦ absurd (no_own v h w) | inr h ↦ sym e ∙ ap (λ z. z.tag) h ]

    noted : suc r ∈ own_in (entry D) → Noted D
    noted out = (
      tags t (suc r) (B D),
      next-tag tr (entry D) D.kept refl (ap (given x) calm ∙ given-none x)
          running.1.unended kind running.2 own-only out (tag-due n f half (F D) stage.2 running.1.prior),
      history-next n f D.history (F D) L c x (step D).sent (site D) refl
          (λ d ne. apart-tag n f (F D) running.1.unended (suc r) d ne)
          (left-tag n f (F D) running.1.unended _ (suc r) (left-now D))
          (λ b v one h. booked v (values v (front-in n x b (step D).sent h)))
          (λ h. (mode-staged n f B' c (σ c).op r (σ c).past.base (step D).node.wait (opened-staged opened)).1 (
            t,
            runs-with n f (F D) L (tag_open t (suc r) running.1.unended) refl running.1,
            subst (λ z. Tagged z r (B'.tag t)) (sym op) (upd_same (B D).tag t (suc r)),
          ))
          behind,
    )
      where
        kind : (B D).begun t ≡ updating c q
        kind = running.1.kind ∙ ap (kind_of c) op

        B' : Book
        B' = tags t (suc r) (B D)

        L : Later (length tr) (B D) B'
        L = later-tag n f (F D) running.1.unended (suc r) running.2

        booked : (v : Value) → Passed m (σ c).node v ⊎ (v ≡ own) → Booked B' v
        booked v (inl h) = booked-later L (base-booked D v h)
        booked v (inr e) = subst (Booked B') (sym e) (t, kind, upd_same (B D).tag t (suc r), omega arith)

        behind : (u y j d a b : ℕ) → ¬ (0 < (B D).tag y) → (B D).begun u ≡ updating j a → (B D).begun y ≡ updating d b
            → EndedBefore ((B D).fate u) y → 0 < B'.tag u → 0 < B'.tag y
            → Behind (of (B'.tag u) j a) (of (B'.tag y) d b) (upd σ c (site D) d).log
        behind u y j d a b bare eu ey h tu ty = go (ℕ_discrete y t)
          where
            old-u : upd (B D).tag t (suc r) u ≡ (B D).tag u
            old-u = upd_other (B D).tag t (suc r) u
                (λ e. not-ended y running.1.unended.unended (subst (λ z. EndedBefore ((B D).fate z) y) e h))

            vu : Value
            vu = of ((B D).tag u) j a

            settled : EndedBefore ((B D).fate u) t → Settled n f (σ c).past.base vu
            settled h = elim (settled-of n f (σ c).past.base ((B D).begun u) ((B D).fate u) ((B D).tag u) t j a eu
                ((F D).fit u) h
                (running.1.prior u h)) [ inl e ↦ absurd (omega (arith, old-u)) | inr z ↦ z ]

            here-first : EndedBefore ((B D).fate u) t → Behind vu own (site D).log
            here-first h = (
              push-new (σ c).log made,
              λ z at. stage.2.ahead vu own z (settled h) (subst (λ o. Own c r o own) (sym op) refl) at,
            )

            there : (z w : ℕ) → updating c q ≡ updating z w → EndedBefore ((B D).fate u) t
                → Behind vu (of (suc r) z w) (upd σ c (site D) z).log
            there z w e h = subst (λ w. Behind vu (of (suc r) z w) (upd σ c (site D) z).log) (ap report_in e)
                (subst (λ z. Behind vu (of (suc r) z q) (upd σ c (site D) z).log) (ap node_in e)
                (rw (upd_same σ c (site D)) (here-first h)))

            go : Dec (y ≡ t) → Behind (of (upd (B D).tag t (suc r) u) j a) (of (upd (B D).tag t (suc r) y) d b)
                (upd σ c (site D) d).log
            go (no e) = absurd (bare (subst (λ z. 0 < z) (upd_other (B D).tag t (suc r) y e) ty))
            go (yes e) = rw (
              old-u,
              subst (λ z. upd (B D).tag t (suc r) z ≡ suc r) (sym e)
                  (upd_same (B D).tag t (suc r)),
            )
                (there d b (sym kind ∙ subst (λ z. (B D).begun z ≡ updating d b) e ey)
                (subst (λ z. EndedBefore ((B D).fate u) z) e h))

    -- The value was let out to nobody.
    hidden : ¬ (suc r ∈ own_in (entry D)) → Noted D
    hidden none_out = silent D (ap (given x) calm ∙ given-none x)
        (λ b v one h. elim (values v (front-in n x b (step D).sent h)) [
          | inl y ↦ base-booked D v y
          | inr e ↦ absurd (none_out (subst (λ z. z.tag ∈ own_in (entry D)) e
              (own_out n c b x (step D).sent v one (ap (λ z. z.writer) e) h)))
        ])
        (λ y i. absurd (none_out (subst (λ z. z ∈ own_in (entry D)) (own-only y i) i)))
        (λ h. absurd (seen x refl h))
      where
        seen : (y : Extent) → x ≡ y → halted x c stopped c ≡ false → ⊥
        seen whole e h = none_out (own_out n c c x (step D).sent own D.one refl
            (subst (λ z. value own ∈ front n z c (step D).sent) (sym e) made))
        seen (cut j) e h = cut-stops c stopped j (subst (λ z. halted z c stopped c ≡ false) e h)

    pub wrote : Noted D
    wrote = elim (dec-in (suc r) (own_in (entry D))) [ yes h ↦ noted h | no h ↦ hidden h ]
