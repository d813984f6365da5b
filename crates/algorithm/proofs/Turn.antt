-- Two more changes that keep the invariant: a message is handed over, and the open operation goes on to another wait.
use Prim.Native.Nat.{ℕ, suc, ◌≤◌}
use native.Mathlib.Omega.{arith}
use mathlib.Core.Path.{sym, subst}
use mathlib.Core.Logic.{◌⊎◌, inl, inr}
use mathlib.Core.List.Memᴰ
use mathlib.Core.List.{List, ◌∷◌}
use Rattle.logs.specs.Update.{upd}
use Rattle.logs.proofs.Update.{upd-all}
use Rattle.logs.specs.Log.{◌∈◌, ◌⊑◌, here, Each}
use Rattle.logs.proofs.Log.{⊑_trans, mem_up}
use Rattle.history.specs.Message.{Value, Message, read, read_answer, write, write_answer, echo, value, good}
use Rattle.history.specs.Event.{Operation, Round}
use Rattle.algorithm.specs.Algorithm.{Wait, idle, reading, writing, comparing, borrowing, Node}
use Rattle.algorithm.proofs.Cert.{Log, Logs, ◌≼◌}
use Rattle.algorithm.proofs.Meant.{Others}
use Rattle.algorithm.proofs.Local.{Past, Under, Took, Due, Have, Stage, WroteBy, Phase, Local}
use Rattle.algorithm.specs.Node.{with_request_and_wait, holding}
use Rattle.algorithm.proofs.Change.{handing, handed-by, handed-more, took-up, have-more}

wrote-handed : {γ : Past} {i r : ℕ} {op : Operation} {t k : ℕ} (got : Logs) → γ.got ≼ got
    → WroteBy γ i r op t k → WroteBy (handing got γ) i r op t k
wrote-handed {γ} {i} {r} {op} {t} {k} got up (a, w) =
    (a, record { late = w.late; sits = ⊑_trans w.sits (up k); told = w.told; has = w.has })

module _ (n f : ℕ) (out : Logs) (γ : Past) (got : Logs) (up : γ.got ≼ got) where
  stage-handed : {i r : ℕ} {op : Operation} {l : Log} {rnd : Round} {t : ℕ}
      → Stage n f out γ i r op l rnd t → Stage n f out (handing got γ) i r op l rnd t
  stage-handed s = record {
    R = s.R;
    many = s.many;
    low = s.low;
    handed = λ k h. ⊑_trans (s.handed k h) (up k);
    ahead = s.ahead;
    rise = s.rise;
    before = s.before;
  }

  phase-handed : (i r : ℕ) (op : Operation) (q : ℕ) (l : Log) (w : Wait)
      → Phase n f out γ i r op q l w → Phase n f out (handing got γ) i r op q l w
  phase-handed i r op q l idle p = tt
  phase-handed i r op q l (reading o s u) (e, p) = (
    e,
    λ k h. let c = p k h in
        record { a = c.a; late = c.late; sits = ⊑_trans c.sits (up k); low = c.low },
  )
  phase-handed i r op q l (writing o rnd t s) (e, p) = (
    e,
    record {
      stage = stage-handed p.stage;
      at = p.at;
      asked = p.asked;
      held = p.held;
      counted = λ k h. wrote-handed got up (p.counted k h);
    },
  )
  phase-handed i r op q l (comparing o rnd t) (e, p) = (
    e,
    record {
      stage = stage-handed p.stage;
      held = p.held;
      W = p.W;
      many = p.many;
      counted = λ k h. wrote-handed got up (p.counted k h);
    },
  )
  phase-handed i r op q l (borrowing o t) (e, p) = (e, stage-handed p)

module _ (n f : ℕ) {out : Logs} {γ : Past} {i r : ℕ} {op : Operation} {ν : Node} {l : Log} where
  -- A message from node k has been handed over, after which the values from each node are those of from.
  pub taken-with : Local n f out γ i r op ν l → (k : ℕ) (m : Message) → (m ∷ γ.got k) ⊑ out k → (from : ℕ → List Value)
      → ((j : ℕ) (v : Value) → v ∈ ν.from j → v ∈ from j)
      → ((j : ℕ) (v : Value) → v ∈ from j → value v ∈ handed-by γ.got k m j)
      → Took k (holding ν.all from ν) m
      → Local n f out (handing (handed-by γ.got k m) γ) i r op (holding ν.all from ν) l
  taken-with c k m at from wider heard t = record {
    grown = c.grown;
    base-in = c.base-in;
    due = c.due;
    topped = c.topped;
    sent = c.sent;
    have = λ x e. have-more n f out γ.base i r op ν.wait ν ν' x (omega arith) (omega arith) (λ v y. y)
        (c.have x e);
    heard = heard;
    lead = c.lead;
    no_reads = c.no_reads;
    no_writes = c.no_writes;
    known = c.known;
    got_in = upd-all (λ j x. x ⊑ out j) γ.got k (m ∷ γ.got k) (λ j ne. c.got_in j) at;
    took = upd-all (λ j x. (y : Message) → y ∈ x → Took j ν' y) γ.got k (m ∷ γ.got k) (λ j ne. old j) new;
    phase = phase-handed n f out γ (handed-by γ.got k m) (handed-more γ.got k m) i r op ν.request l ν.wait
        c.phase;
  }
    where
      ν' : Node
      ν' = holding ν.all from ν

      old : (j : ℕ) (y : Message) → y ∈ γ.got j → Took j ν' y
      old j y e = took-up j ν ν' y (omega arith) wider (λ v x. x) (c.took j y e)

      new : (y : Message) → y ∈ (m ∷ γ.got k) → Took k ν' y
      new y (Memᴰ.head e) = subst (Took k ν') (sym e) t
      new y (Memᴰ.tail e) = old k y e

  -- A message that is no value.
  pub taken : Local n f out γ i r op ν l → (k : ℕ) (m : Message) → (m ∷ γ.got k) ⊑ out k → Took k ν m
      → Local n f out (handing (handed-by γ.got k m) γ) i r op ν l
  taken c k m at t = taken-with c k m at ν.from (λ j v x. x)
      (λ j v x. mem_up (handed-more γ.got k m j) (c.heard j v x)) t

  -- Messages for others are passed over: the log of node k has been handed over up to p.
  pub skipped : Local n f out γ i r op ν l → (k : ℕ) (p : Log) → γ.got k ⊑ p → p ⊑ out k
      → ((x : Message) → x ∈ p → (x ∈ γ.got k) ⊎ Others i x)
      → Local n f out (handing (upd γ.got k p) γ) i r op ν l
  skipped c k p up sub others = record {
    grown = c.grown;
    base-in = c.base-in;
    due = c.due;
    have = c.have;
    topped = c.topped;
    sent = c.sent;
    heard = λ j v e. mem_up (longer j) (c.heard j v e);
    lead = c.lead;
    no_reads = c.no_reads;
    no_writes = c.no_writes;
    known = c.known;
    got_in = upd-all (λ j x. x ⊑ out j) γ.got k p (λ j ne. c.got_in j) sub;
    took = upd-all (λ j x. (y : Message) → y ∈ x → Took j ν y) γ.got k p (λ j ne. c.took j) new;
    phase = phase-handed n f out γ (upd γ.got k p) longer i r op ν.request l ν.wait c.phase;
  }
    where
      longer : γ.got ≼ upd γ.got k p
      longer = upd-all (λ j x. γ.got j ⊑ x) γ.got k p (λ j ne. here) up

      answer : (y : Message) → Others i y → Took k ν y
      answer (read_answer to q t) o = tt
      answer (write_answer to q t) o = tt
      answer _ o = elim o [ ]

      new : (y : Message) → y ∈ p → Took k ν y
      new y e = elim (others y e) [ inl h ↦ c.took k y h | inr o ↦ answer y o ]

  -- What a message of the log says of the node in its new wait, if what a value says is known.
  pub have-with_request_and_wait : Local n f out γ i r op ν l → (r' q : ℕ) (w : Wait) → ν.request ≤ q
      → ((v : Value) → value v ∈ l → Have n f out γ.base i r op ν (value v)
      → Have n f out γ.base i r' op (with_request_and_wait q w ν) (value v))
      → (m : Message) → m ∈ l → Have n f out γ.base i r' op (with_request_and_wait q w ν) m
  have-with_request_and_wait c r' q w h g m e = go m e (c.have m e)
    where
      go : (m : Message) → m ∈ l → Have n f out γ.base i r op ν m
          → Have n f out γ.base i r' op (with_request_and_wait q w ν) m
      go (read p) e x = omega arith
      go (write p t) e x = omega arith
      go (read_answer to p t) e x = tt
      go (write_answer to p t) e x = tt
      go (echo t) e x = x
      go (value v) e x = g v e x
      go (good t v) e x = tt

  -- Numbers of requests in the log are not above the last one used.
  pub unused : Local n f out γ i r op ν l → (m : Message) → m ∈ l → Under (suc ν.request) m
  unused c m e = go m (c.have m e)
    where
      go : (m : Message) → Have n f out γ.base i r op ν m → Under (suc ν.request) m
      go (read p) x = omega arith
      go (write p t) x = omega arith
      go (read_answer to p t) x = tt
      go (write_answer to p t) x = tt
      go (echo t) x = tt
      go (value v) x = tt
      go (good t v) x = tt

  -- The operation goes on to another wait, with a longer log.
  pub moved : Local n f out γ i r op ν l → (r' q : ℕ) (w : Wait) {l' : Log} → l ⊑ l' → ν.request ≤ q
      → Each (Due n f i out) l' → ((m : Message) → m ∈ l' → Have n f out γ.base i r' op (with_request_and_wait q w ν) m)
      → Phase n f out γ i r' op q l' w → Local n f out γ i r' op (with_request_and_wait q w ν) l'
  moved c r' q w up h d x p = record {
    grown = ⊑_trans c.grown up;
    got_in = c.got_in;
    base-in = c.base-in;
    due = d;
    took = λ k m e. took-up k ν (with_request_and_wait q w ν) m (omega arith) (λ j v x. x) (λ v x. x) (c.took k m e);
    have = x;
    topped = λ e. mem_up up (c.topped e);
    sent = λ v e. mem_up up (c.sent v e);
    heard = c.heard;
    lead = omega (arith, c.lead);
    no_reads = c.no_reads;
    no_writes = c.no_writes;
    known = c.known;
    phase = p;
  }
