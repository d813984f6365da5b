-- Logs grow: what holds of a node stays, while others send, while it sends, and while it is handed more.
use Prim.Native.Nat.{ℕ, ◌≤◌}
use mathlib.Core.Path.{◌≡◌}
use mathlib.Core.Logic.{◌⊎◌, inl, inr}
use mathlib.Core.List.{◌∷◌}
use Rattle.logs.specs.Update.{upd}
use Rattle.logs.proofs.Update.{upd_same, upd_other, upd-all}
use Rattle.logs.specs.Log.{◌∈◌, ◌⊑◌, here, Each}
use Rattle.logs.proofs.Log.{⊑_trans, mem_up, each_map}
use Rattle.history.specs.Message.{Value, Message, read, read_answer, write, write_answer, echo, value, good}
use Rattle.history.specs.Event.{Operation, update, scan, Round, round0, round1, round2, round3}
use Rattle.algorithm.specs.Algorithm.{Wait, idle, reading, writing, comparing, borrowing, Node}
use Rattle.algorithm.proofs.Cert.{Log, Logs, ◌≼◌, echoed-up, carry}
use Rattle.algorithm.proofs.Local.{Past, Own, Held, Settled, Due, Olds, Have, Spread, Before, Stage, Phase}
use Rattle.algorithm.proofs.Local.{Local}

pub ≼_refl : (a : Logs) → a ≼ a
≼_refl a k = here

pub upd-up : (out out' : Logs) (i : ℕ) {l l' : Log} → out ≼ out' → l ⊑ l' → upd out i l ≼ upd out' i l'
upd-up out out' i {l} {l'} up p = upd-all (λ k x. x ⊑ upd out' i l' k) out i l
    (λ k ne. rw (upd_other out' i l' k ne) (up k)) (rw (upd_same out' i l') p)

-- A longer log in the place of one.
pub upd-longer : (out : Logs) (i : ℕ) {l : Log} → out i ⊑ l → out ≼ upd out i l
upd-longer out i {l} p k = upd-all (λ k x. out k ⊑ x) out i l (λ k ne. here) p k

pub upd-shorter : (out : Logs) (i : ℕ) {l : Log} → l ⊑ out i → upd out i l ≼ out
upd-shorter out i {l} p k = upd-all (λ k x. x ⊑ out k) out i l (λ k ne. here) p k

pub held_up : (i r : ℕ) (op : Operation) {a b : Log} → a ⊑ b → Held i r op a → Held i r op b
held_up i r (update p) up h = mem_up up h
held_up i r scan up h = tt

module _ (n f : ℕ) {out out' : Logs} (up : out ≼ out') where
  pub settled_up : {v : Value} → Settled n f out v → Settled n f out' v
  settled_up s = record {
    who = s.who;
    many = s.many;
    told = λ k w. echoed-up (up k) (s.told k w);
    has =
        λ k w. mem_up (up k) (s.has k w);
  }

  due-up : (k : ℕ) (m : Message) (l : Log) → Due n f k out m l → Due n f k out' m l
  due-up k (read q) l d = d
  due-up k (write q t) l d = d
  due-up k (read_answer to q t) l d = record { low = d.low; before = d.before; asked = ⊑_trans d.asked (up to) }
  due-up k (write_answer to q t) l d =
      record { told = d.told; before = d.before; asked = ⊑_trans d.asked (up to); passed = d.passed }
  due-up k (echo t) l d = tt
  due-up k (value v) l d = record { tagged = d.tagged; rise = d.rise; source = go d.source }
    where
      go : (v.writer ≡ k) ⊎ ((p : Log) × ((value v ∷ p) ⊑ out v.writer) × ((u : Value) → value u ∈ p → value u ∈ l))
          → (v.writer ≡ k) ⊎ ((p : Log) × ((value v ∷ p) ⊑ out' v.writer)
          × ((u : Value) → value u ∈ p → value u ∈ l))
      go (inl e) = inl e
      go (inr (p, q, h)) = inr (p, ⊑_trans q (up v.writer), h)
  due-up k (good T view) l (A, e, c) = (A, e, carry (upd-up out out' k up here) c)

  pub dues-up : (k : ℕ) (l : Log) → Each (Due n f k out) l → Each (Due n f k out') l
  dues-up k l e = each_map (due-up k) l e

  older-up : (i r : ℕ) (op : Operation) {v : Value} → Own i r op v ⊎ (Settled n f out v × (v.tag ≤ r))
      → Own i r op v ⊎ (Settled n f out' v × (v.tag ≤ r))
  older-up i r op (inl h) = inl h
  older-up i r op (inr (s, h)) = inr (settled_up s, h)

  olds-up : (base : Logs) (i r : ℕ) (op : Operation) (w : Wait) (v : Value)
      → Olds n f out base i r op w v → Olds n f out' base i r op w v
  olds-up base i r op idle v h = settled_up h
  olds-up base i r op (reading o s u) v h = h
  olds-up base i r op (writing o rnd t s) v h = older-up i r op h
  olds-up base i r op (comparing o rnd t) v h = older-up i r op h
  olds-up base i r op (borrowing o t) v h = older-up i r op h

  have-up : (base : Logs) (i r : ℕ) (op : Operation) (ν : Node) (m : Message)
      → Have n f out base i r op ν m → Have n f out' base i r op ν m
  have-up base i r op ν (read q) h = h
  have-up base i r op ν (write q t) h = h
  have-up base i r op ν (read_answer to q t) h = tt
  have-up base i r op ν (write_answer to q t) h = tt
  have-up base i r op ν (echo t) h = h
  have-up base i r op ν (value v) h = (h.0, λ e. olds-up base i r op ν.wait v (h.1 e))
  have-up base i r op ν (good t v) h = tt

  spread-up : {v : Value} {t : ℕ} → Spread n f out v t → Spread n f out' v t
  spread-up s = record {
    who = s.who;
    many = s.many;
    a = s.a;
    sits = λ k w. ⊑_trans (s.sits k w) (up k);
    told = s.told;
    has = s.has;
    low = s.low;
  }

  before-up : (i r : ℕ) (op : Operation) (rnd : Round) (t : ℕ) → Before n f out i r op rnd t
      → Before n f out' i r op rnd t
  before-up i r (update p) round0 t b = tt
  before-up i r (update p) round1 t b = tt
  before-up i r (update p) round2 t b = spread-up b
  before-up i r (update p) round3 t (u, h, b) = (u, h, spread-up b)
  before-up i r scan rnd t b = tt

  stage-up : {γ : Past} {i r : ℕ} {op : Operation} {l : Log} {rnd : Round} {t : ℕ}
      → Stage n f out γ i r op l rnd t → Stage n f out' γ i r op l rnd t
  stage-up {γ} {i} {r} {op} {l} {rnd} {t} s = record {
    R = s.R;
    many = s.many;
    low = s.low;
    handed = s.handed;
    ahead = s.ahead;
    rise = s.rise;
    before = before-up i r op rnd t s.before;
  }

  phase-up : (γ : Past) (i r : ℕ) (op : Operation) (q : ℕ) (l : Log) (w : Wait)
      → Phase n f out γ i r op q l w → Phase n f out' γ i r op q l w
  phase-up γ i r op q l idle p = tt
  phase-up γ i r op q l (reading o s u) p = p
  phase-up γ i r op q l (writing o rnd t s) (e, p) = (
    e,
    record {
      stage = stage-up p.stage;
      at = p.at;
      asked = p.asked;
      held = p.held;
      counted = p.counted;
    },
  )
  phase-up γ i r op q l (comparing o rnd t) (e, p) = (
    e,
    record {
      stage = stage-up p.stage;
      held = p.held;
      W = p.W;
      many = p.many;
      counted = p.counted;
    },
  )
  phase-up γ i r op q l (borrowing o t) (e, p) = (e, stage-up p)

  -- Others have sent more.
  pub local-up : {γ : Past} {i r : ℕ} {op : Operation} {ν : Node} {l : Log}
      → out' i ⊑ l → Local n f out γ i r op ν l → Local n f out' γ i r op ν l
  local-up {γ} {i} {r} {op} {ν} {l} g c = record {
    grown = g;
    got_in = λ k. ⊑_trans (c.got_in k) (up k);
    base-in = λ k. ⊑_trans (c.base-in k) (up k);
    due = dues-up i l c.due;
    took = c.took;
    have = λ m h. have-up γ.base i r op ν m (c.have m h);
    topped = c.topped;
    sent = c.sent;
    heard = c.heard;
    lead = c.lead;
    no_reads = c.no_reads;
    no_writes = c.no_writes;
    known = λ x h. let (A, e, k) = c.known x h in (A, e, carry up k);
    phase = phase-up γ i r op ν.request l ν.wait c.phase;
  }
