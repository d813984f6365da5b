-- All nodes with their logs: the invariant of each is kept by every step of one of them.
use Prim.Native.Nat.{ℕ, suc, ◌+◌, ◌<◌}
use native.Mathlib.Omega.{arith}
use mathlib.Core.Path.{◌≡◌, refl, sym, subst}
use mathlib.Core.Bool.{false≢true}
use mathlib.Core.List.Memᴰ
use mathlib.Core.List.{[], ◌∷◌}
use Rattle.logs.specs.Update.{upd}
use Rattle.logs.proofs.Update.{upd_same, upd_other, upd-all, upd-twice}
use Rattle.logs.specs.Log.{◌∈◌, ◌⊑◌, here, more, push}
use Rattle.logs.proofs.Log.{⊑-cons, place, placed, push-append, push-up, each_at}
use Rattle.history.specs.Message.{Message, read, read_answer, write, write_answer, echo, value, good}
use Rattle.history.specs.Event.{Operation, update, scan, Ending, none, done, shown, spent}
use Rattle.algorithm.specs.Algorithm.{nobody, Wait, idle, reading, Node, Step, sending, then_by, ◌then◌, with_wait}
use Rattle.algorithm.specs.Algorithm.{asking, read_pass, write_pass, compare_pass, borrow_pass, react, move_on}
use Rattle.algorithm.specs.Algorithm.{message_step, begin_step}
use Rattle.algorithm.proofs.Cert.{Log, Logs, ◌≼◌, carry}
use Rattle.algorithm.proofs.Local.{Past, Due, Have, Local}
use Rattle.algorithm.proofs.Grow.{settled_up, local-up}
use Rattle.algorithm.proofs.Change.{handing, handed-by, took-up}
use Rattle.algorithm.proofs.Turn
use Rattle.algorithm.proofs.Turn.{unused}
use Rattle.algorithm.proofs.React.{Keeps}
use Rattle.algorithm.proofs.Receive.{react-keeps}
use Rattle.algorithm.proofs.Outcome.{Ended, Fine, chain}
use Rattle.algorithm.proofs.Read.{read_tag, read-pass}
use Rattle.algorithm.proofs.Write.{write-pass}
use Rattle.algorithm.proofs.Finish.{compare-pass}
use Rattle.algorithm.proofs.Borrow.{borrow-pass}
use Rattle.algorithm.proofs.Sites.{Site, Sites, logs, new, handed, begun, Comes}

module _ (n f : ℕ) where
  abbrev pub Inv : Sites → Type 0
  Inv σ = (i : ℕ) → Local n f (logs σ) (σ i).past i (σ i).tag (σ i).op (σ i).node (σ i).log

  pub ended-up : {lg lg' : Logs} (up : lg ≼ lg') (base : Logs) (i r : ℕ) (op : Operation) (e : Ending)
      → Ended n f lg base i r op e → Ended n f lg' base i r op e
  ended-up up base i r op none x = tt
  ended-up up base i r (update p) (done rule view) x = record {
    T = x.T;
    A = x.A;
    own = x.own;
    low = x.low;
    settled = settled_up n f up x.settled;
    final = record { is = x.final.is; cert = carry up x.final.cert; covers = x.final.covers };
  }
  ended-up up base i r (update p) spent x = tt
  ended-up up base i r scan (shown rule view) (T, A, x) =
      (T, A, record { is = x.is; cert = carry up x.cert; covers = x.covers })
  ended-up up base i r _ _ x = elim x [ ]

  -- The invariant with another site for node i, which has sent more.
  pub commit : {σ : Sites} → Inv σ → (i : ℕ) (s : Site) → (σ i).log ⊑ s.log
      → Local n f (logs σ) s.past i s.tag s.op s.node s.log → Inv (upd σ i s)
  commit {σ} inv i s up c j = upd-all
      (λ j x. x.log ⊑ logs (upd σ i s) j → logs (upd σ i s) j ⊑ x.log
      → Local n f (logs (upd σ i s)) x.past j x.tag x.op x.node x.log)
      σ i s (λ j ne a b. local-up n f all b (inv j)) (λ a b. local-up n f all b c) j here here
    where
      all : logs σ ≼ logs (upd σ i s)
      all = upd-all (λ k x. (σ k).log ⊑ x.log) σ i s (λ k ne. here) up

  pub logs-upd : (σ : Sites) (i : ℕ) (s : Site) → upd (logs σ) i s.log ≼ logs (upd σ i s)
  logs-upd σ i s = upd-all (λ k x. x ⊑ (upd σ i s k).log) (logs σ) i s.log
      (λ k ne. rw (upd_other σ i s k ne) here) (rw (upd_same σ i s) here)

  pub start-inv : Inv (λ i. new)
  start-inv i = record {
    grown = here;
    got_in = λ k. here;
    base-in = λ k. here;
    due = tt;
    took = λ k m e. absurd (none_in e);
    have = λ m e. absurd (none_in e);
    topped = λ h. absurd (omega arith);
    sent = λ v e. absurd (none_in e);
    heard = λ k v e. absurd (none_in e);
    lead = omega arith;
    no_reads = λ k q t e. absurd (none_in e);
    no_writes = λ k q t e. absurd (none_in e);
    known = λ g e. absurd (none_in e);
    phase = tt;
  }
    where
      none_in : {A : Type 0} {x : A} → x ∈ [] → ⊥
      none_in e = elim e [ ]

  -- Of a step that node i has taken: the invariant of all nodes, and what its ending says.
  pub record Stepped (σ : Sites) (i : ℕ) (s : Site) (e : Ending) : Type 0 where
    pub inv : Inv (upd σ i s)
    pub ended : Ended n f (logs (upd σ i s)) s.past.base i s.tag s.op e

  module _ (half : f + f < n) where
    module _ {out : Logs} {γ : Past} {i r : ℕ} {op : Operation} {l : Log} where
      -- The open operation moves on after a part of a step without an ending.
      pub moves : (s : Step) → Keeps n f out γ i r op l s
          → Fine n f out γ i (read_tag n f r s.node s.node.wait) op l (move_on n f i s)
      unfolding move_on
      moves s (c, e) = chain n f s₃ (λ ν. borrow_pass n ν ν.wait)
          (chain n f s₂ (λ ν. compare_pass n f i ν ν.wait)
          (chain n f s₁ (λ ν. write_pass n f ν ν.wait) first
          (λ c. write-pass n f half s₁.node s₁.node.wait c))
          (λ c. compare-pass n f half s₂.node s₂.node.wait c))
          (λ c. borrow-pass n f half s₃.node s₃.node.wait c)
        where
          r' : ℕ
          r' = read_tag n f r s.node s.node.wait

          t : Step
          t = read_pass n f i s.node s.node.wait

          s₁ : Step
          s₁ = s then (λ ν. read_pass n f i ν ν.wait)

          s₂ : Step
          s₂ = s₁ then (λ ν. write_pass n f ν ν.wait)

          s₃ : Step
          s₃ = s₂ then (λ ν. compare_pass n f i ν ν.wait)

          x : Fine n f out γ i r' op (push s.sent l) t
          x = read-pass n f half s.node s.node.wait c

          first : Fine n f out γ i r' op l s₁
          first = subst (λ z. Fine n f out γ i r' op l (then_by s t z)) (sym e) (record {
            kept = rw (push-append s.sent t.sent l) x.kept;
            ended = rw (push-append s.sent t.sent l) x.ended;
          })

    pub handed-ok : {σ : Sites} → Inv σ → (i k : ℕ) (m : Message) (p : Log) → Comes σ i k m p
        → Fine n f (logs σ) (handed n f i k m p (σ i)).past i (handed n f i k m p (σ i)).tag (σ i).op (σ i).log
        (message_step n f i k m (σ i).node)
    handed-ok {σ} inv i k m p c = moves _
        (subst (λ z. Keeps n f (logs σ) (handing z γ) i (σ i).tag (σ i).op (σ i).log
        (react k m (σ i).node)) same
        (react-keeps n f half (λ k. (inv k).due) before k m c.meant (rw (upd_same γ.got k p) c.at)))
      where
        γ : Past
        γ = (σ i).past

        before : Local n f (logs σ) (handing (upd γ.got k p) γ) i (σ i).tag (σ i).op (σ i).node (σ i).log
        before = Turn.skipped n f (inv i) k p c.late (⊑-cons c.at) c.skipped

        same : handed-by (upd γ.got k p) k m ≡ upd γ.got k (m ∷ p)
        same = rw (upd_same γ.got k p) (upd-twice γ.got k p (m ∷ p))

    -- The begin of an operation at an idle node.
    begins : {σ : Sites} → Inv σ → (i : ℕ) (op : Operation) → (σ i).node.wait ≡ idle
        → Local n f (logs σ) (begun n f i op (logs σ) (σ i)).past i 0 op (asking (reading op nobody 0) (σ i).node)
        (read (suc (σ i).node.request) ∷ (σ i).log)
    begins {σ} inv i op e = record {
      grown = more here;
      got_in = c.got_in;
      base-in = λ k. here;
      due = (unused n f c, c.due);
      took = λ k m x. took-up k ν (asking w ν) m (omega arith) (λ j v y. y) (λ v y. y) (c.took k m x);
      have = have;
      topped = λ h. Memᴰ.tail (c.topped h);
      sent = λ v m. Memᴰ.tail (c.sent v m);
      heard = c.heard;
      lead = omega arith;
      no_reads = no_reads;
      no_writes = no_writes;
      known = c.known;
      phase = (refl, λ k h. absurd (false≢true h));
    }
      where
        ν : Node
        ν = (σ i).node

        w : Wait
        w = reading op nobody 0

        c : Local n f (logs σ) (σ i).past i (σ i).tag (σ i).op ν (σ i).log
        c = inv i

        old : (m : Message) → Have n f (logs σ) (σ i).past.base i (σ i).tag (σ i).op (with_wait idle ν) m
            → Have n f (logs σ) (logs σ) i 0 op (asking w ν) m
        old (read q) h = omega arith
        old (write q t) h = omega arith
        old (read_answer to q t) h = tt
        old (write_answer to q t) h = tt
        old (echo t) h = h
        old (value v) h = h
        old (good t v) h = tt

        have : (m : Message) → m ∈ (read (suc ν.request) ∷ (σ i).log)
            → Have n f (logs σ) (logs σ) i 0 op (asking w ν) m
        have m (Memᴰ.head d) = subst (Have n f (logs σ) (logs σ) i 0 op (asking w ν)) (sym d) (omega arith)
        have m (Memᴰ.tail d) = old m (subst
            (λ z. Have n f (logs σ) (σ i).past.base i (σ i).tag (σ i).op (with_wait z ν) m) e (c.have m d))

        no_reads : (k q t : ℕ) → read_answer i q t ∈ logs σ k → q < suc ν.request
        no_reads k q t m = let (p, at) = place m in
            omega (arith, c.have (read q) (placed (each_at (Due n f k (logs σ)) (inv k).due at).asked))

        no_writes : (k q t : ℕ) → write_answer i q t ∈ logs σ k → q < suc ν.request
        no_writes k q t m = let (p, at) = place m in
            omega (arith, c.have (write q t) (placed (each_at (Due n f k (logs σ)) (inv k).due at).asked))

    pub begun_ok : {σ : Sites} → Inv σ → (i : ℕ) (op : Operation) → (σ i).node.wait ≡ idle
        → Fine n f (logs σ) (begun n f i op (logs σ) (σ i)).past i (begun n f i op (logs σ) (σ i)).tag op (σ i).log
        (begin_step n f i op (σ i).node)
    begun_ok {σ} inv i op e = moves
        (sending (read (suc (σ i).node.request) ∷ []) (asking (reading op nobody 0) (σ i).node))
        (begins inv i op e, refl)

    stepped : {σ : Sites} → Inv σ → (i : ℕ) (s : Site) (t : Step) → s.node ≡ t.node
        → s.log ≡ push t.sent (σ i).log
        → Fine n f (logs σ) s.past i s.tag s.op (σ i).log t → Stepped σ i s t.ending
    stepped {σ} inv i s t e d x = record {
      inv = commit inv i s (rw d (push-up t.sent (σ i).log)) (rw (e, d) x.kept);
      ended = ended-up (logs-upd σ i s) s.past.base i s.tag s.op t.ending (rw d x.ended);
    }

    pub handed-inv : {σ : Sites} → Inv σ → (i k : ℕ) (m : Message) (p : Log) → Comes σ i k m p
        → Stepped σ i (handed n f i k m p (σ i)) (message_step n f i k m (σ i).node).ending
    handed-inv {σ} inv i k m p c =
        stepped inv i (handed n f i k m p (σ i)) (message_step n f i k m (σ i).node) refl refl (handed-ok inv i k m p c)

    pub begun-inv : {σ : Sites} → Inv σ → (i : ℕ) (op : Operation) → (σ i).node.wait ≡ idle
        → Stepped σ i (begun n f i op (logs σ) (σ i)) (begin_step n f i op (σ i).node).ending
    begun-inv {σ} inv i op e =
        stepped inv i (begun n f i op (logs σ) (σ i)) (begin_step n f i op (σ i).node) refl refl (begun_ok inv i op e)
