-- A whole delivery that ends an operation: the book notes the ending, with its view.
use Prim.Native.Nat.{ℕ, suc, ◌+◌, ◌<◌}
use mathlib.Core.Path.{◌≡◌, refl, sym, ◌∙◌, ap, subst}
use mathlib.Core.Bool.{Bool, true, not}
use mathlib.Core.List.{List}
use lib.ListN.{length}
use Rattle.logs.specs.Update.{upd}
use Rattle.logs.specs.Log.{◌∈◌}
use Rattle.history.specs.Message.{Value, of, View, Message, value}
use Rattle.history.specs.Event.{Operation, update, scan, Rule, Ending, done, shown, spent, whole}
use Rattle.history.specs.Trace.{Trace, updating, scanning, ended}
use Rattle.history.specs.Order.{OneTo, EndedBefore}
use Rattle.algorithm.proofs.Cert.{Log, Logs}
use Rattle.algorithm.proofs.Sets.{not-true}
use Rattle.algorithm.proofs.Outcome.{Final, Done, Ended}
use Rattle.algorithm.proofs.Sites.{Sites, logs}
use Rattle.algorithm.proofs.World.{Stepped, handed-inv}
use Rattle.eqaso.proofs.Front.{front-in}
use Rattle.eqaso.proofs.Course.{Rests, Reads, Staged, Only}
use Rattle.eqaso.proofs.Act.{Passed, staged-tag}
use Rattle.eqaso.proofs.Book.{Book, ends, OpenAt}
use Rattle.eqaso.proofs.Facts.{ViewDue}
use Rattle.eqaso.proofs.Modes.{end-closes}
use Rattle.eqaso.proofs.Kept.{Next, Told, next-done, next-shown, next-spent}
use Rattle.eqaso.proofs.History.{kind_of, Tagged, Booked, behind-up, Left, LeftIn, Runs, mode-rests, mode-reads}
use Rattle.eqaso.proofs.History.{mode-staged}
use Rattle.eqaso.proofs.Later.{Later, later_same, booked-later, later-end, apart-end, left_end}
use Rattle.eqaso.proofs.Recorded.{booked-next, history-next}
use Rattle.eqaso.proofs.Views.{view-due, own-due}
use Rattle.eqaso.proofs.Deliver.{Delivery, step, site, entry, B, F, Noted, grow, base-booked, told, left-now}
use Rattle.eqaso.proofs.Deliver.{mode-before}

module _ {n f : ℕ} {half : f + f < n} {stopped : ℕ → Bool} {σ : Sites} {gone : ℕ → Logs} {tr : Trace} {c k : ℕ}
    {m : Message} {p : Log} (D : Delivery n f half stopped σ gone tr c k whole m p)
    (rests : Rests (step D).node.wait) (from : Only (Passed m (σ c).node) (step D).sent) where
  told-from : Told (B D) (entry D)
  told-from = told D (λ v h e. base-booked D v (from v h))

  -- The operation at t is noted as ended.
  noted : (e : Ending) {t : ℕ} → OpenAt (B D) c t → Next n tr (entry D) (ends t (ended (length tr) e) (B D))
      → Left n f (logs (upd σ c (site D))) ((B D).begun t) (ended (length tr) e) ((B D).tag t) → Noted D
  noted e {t} o next left = (
    B',
    next,
    history-next n f D.history (F D) L c whole (step D).sent (site D) refl
        (λ d ne. apart-end n f (F D) o e d ne) (left_end n f (F D) o _ e (left-now D) left)
        (λ b v one h. booked-later L (base-booked D v (from v (front-in n whole b (step D).sent h))))
        (λ h. (mode-rests n f B' c (σ c).op (site D).tag (σ c).past.base (step D).node.wait rests).1
        (end-closes (length tr) e o))
        (λ u y j d a b bare eu ey h tu ty. absurd (bare ty)),
  )
    where
      B' : Book
      B' = ends t (ended (length tr) e) (B D)

      L : Later (length tr) (B D) B'
      L = later-end n f (F D) o e

  returned : Stepped n f σ c (site D) (step D).ending
  returned = handed-inv n f half D.inv c k m p D.comes

  -- What is owed for a view.
  due : {t T : ℕ} {A : List Value} {v : View} → Final n f (logs (upd σ c (site D))) (σ c).past.base v T A
      → ((a : ℕ) → EndedBefore ((B D).fate a) t → LeftIn n f (σ c).past.base (B D) a) → ViewDue n (B D) t v
  due {t} x prior = view-due n f half (F D) (λ j. (returned.inv j).due) (λ j. not (stopped j)) D.many known
      (left-now D)
      (λ u y j d a b eu ey h tu ty. behind-up (grow D d) (D.history.behind u y j d a b eu ey h tu ty)) x prior
    where
      known : (j : ℕ) → OneTo n j → not (stopped j) ≡ true → (v : Value) → value v ∈ logs (upd σ c (site D)) j
          → Booked (B D) v
      known j one s v h = booked-next n f D.history (F D) (later_same (length tr) (B D)) c whole (step D).sent
          (site D) refl
          (λ b v one h. base-booked D v (from v (front-in n whole b (step D).sent h))) j c v D.one
          (subst (λ z. value v ∈ z) (sym (D.all j c (not-true (stopped j) s))) h)

  -- No tag was left.
  pub spent-noted : Reads (σ c).node.wait → (step D).ending ≡ spent → Noted D
  spent-noted reads e = go (σ c).op refl (subst (Ended n f _ _ c (site D).tag (σ c).op) e returned.ended)
      ((mode-reads n f (B D) c (σ c).op (σ c).tag (σ c).past.base (σ c).node.wait reads).0 (mode-before D))
    where
      go : (op : Operation) → (σ c).op ≡ op
          → Ended n f (logs (upd σ c (site D))) (σ c).past.base c (site D).tag (σ c).op spent
          → (t : ℕ) × Runs n f (B D) c (σ c).op (σ c).past.base t × ((B D).tag t ≡ 0) → Noted D
      go scan is x r = absurd (subst
          (λ z. Ended n f (logs (upd σ c (site D))) (σ c).past.base c (site D).tag z spent) is x)
      go (update q) is x (t, r, bare) =
          let kind : (B D).begun t ≡ updating c q = r.kind ∙ ap (kind_of c) is in
          noted spent r.unended (next-spent tr (entry D) D.kept refl e told-from r.unended kind bare)
          (rw kind tt)

  module _ (staged : Staged (σ c).node.wait) where
    same_tag : (site D).tag ≡ (σ c).tag
    same_tag = staged-tag n f c half k m (σ c).node (σ c).tag staged

    running : (t : ℕ) × Runs n f (B D) c (σ c).op (σ c).past.base t × Tagged (σ c).op (site D).tag ((B D).tag t)
    running = let (t, r, h) = (mode-staged n f (B D) c (σ c).op (σ c).tag (σ c).past.base (σ c).node.wait staged).0
        (mode-before D) in
        (t, r, subst (λ z. Tagged (σ c).op z ((B D).tag t)) (sym same_tag) h)

    -- An update is done.
    pub done-noted : {rule : Rule} {v : View} → (step D).ending ≡ done rule v → Noted D
    done-noted {rule} {v} e = go (σ c).op refl
        (subst (Ended n f (logs (upd σ c (site D))) (σ c).past.base c (site D).tag (σ c).op) e returned.ended)
        running
      where
        go : (op : Operation) → (σ c).op ≡ op
            → Ended n f (logs (upd σ c (site D))) (σ c).past.base c (site D).tag (σ c).op (done rule v)
            → (t : ℕ) × Runs n f (B D) c (σ c).op (σ c).past.base t × Tagged (σ c).op (site D).tag ((B D).tag t)
            → Noted D
        go scan is x r = absurd (subst
            (λ z. Ended n f (logs (upd σ c (site D))) (σ c).past.base c (site D).tag z (done rule v)) is x)
        go (update q) is x (t, r, h) =
            let kind : (B D).begun t ≡ updating c q = r.kind ∙ ap (kind_of c) is in
            let tag : (B D).tag t ≡ suc (site D).tag = subst (λ z. Tagged z (site D).tag ((B D).tag t)) is h in
            let d : Done n f (logs (upd σ c (site D))) (σ c).past.base (of (suc (site D).tag) c q) v =
            subst (λ z. Ended n f (logs (upd σ c (site D))) (σ c).past.base c (site D).tag z (done rule v)) is x in
            noted (done rule v) r.unended
            (next-done tr (entry D) D.kept refl e told-from r.unended kind (own-due n f half D.one tag d)
            (due d.final r.prior))
            (rw (kind, tag) ((d.T, (d.A, d.final.is, d.final.cert)), d.settled))

    -- A scan shows its view.
    pub shown-noted : {rule : Rule} {v : View} → (step D).ending ≡ shown rule v → Noted D
    shown-noted {rule} {v} e = go (σ c).op refl
        (subst (Ended n f (logs (upd σ c (site D))) (σ c).past.base c (site D).tag (σ c).op) e returned.ended)
        running
      where
        go : (op : Operation) → (σ c).op ≡ op
            → Ended n f (logs (upd σ c (site D))) (σ c).past.base c (site D).tag (σ c).op (shown rule v)
            → (t : ℕ) × Runs n f (B D) c (σ c).op (σ c).past.base t × Tagged (σ c).op (site D).tag ((B D).tag t)
            → Noted D
        go (update q) is x r =
            absurd (subst (λ z. Ended n f (logs (upd σ c (site D))) (σ c).past.base c (site D).tag z (shown rule v))
            is x)
        go scan is x (t, r, h) =
            let kind : (B D).begun t ≡ scanning c = r.kind ∙ ap (kind_of c) is in
            let (T, A, d) = subst (λ z. Ended n f (logs (upd σ c (site D))) (σ c).past.base c (site D).tag z
            (shown rule v)) is x in
            noted (shown rule v) r.unended
            (next-shown tr (entry D) D.kept refl e told-from r.unended kind (due d r.prior))
            (rw kind (T, (A, d.is, d.cert)))
