-- The few ways in which the state and log of a node change, each of which keeps the invariant. A step is made of them.
use Prim.Native.Nat.{ℕ, ◌+◌, ◌-◌, ◌≤◌, ◌<◌}
use native.Mathlib.Omega.{arith}
use mathlib.Core.Path.{◌≡◌, refl, sym, subst}
use mathlib.Core.Logic.{◌⊎◌, inl, inr}
use mathlib.Core.Bool.{Bool, true}
use mathlib.Core.List.Memᴰ
use mathlib.Core.List.{◌∷◌}
use Rattle.logs.specs.Count.{count}
use Rattle.logs.proofs.Count.{meet}
use Rattle.logs.specs.Update.{upd}
use Rattle.logs.proofs.Update.{upd-all}
use Rattle.logs.specs.Log.{◌∈◌, ◌⊑◌, here, more}
use Rattle.logs.proofs.Log.{mem_up, cons-or}
use Rattle.history.specs.Message.{Value, View, Message, read, read_answer, write, write_answer, echo, value, good}
use Rattle.history.specs.Event.{Operation, Round}
use Rattle.algorithm.specs.Algorithm.{Wait, idle, reading, writing, comparing, borrowing, Node, topping, holding}
use Rattle.algorithm.specs.Algorithm.{with_wait, keep}
use Rattle.algorithm.proofs.Cert.{Log, Logs, ◌≼◌}
use Rattle.algorithm.proofs.Local.{Past, Took, Pending, Settled, Known, Due, Olds, Have, Stage, Phase, Local}
use Rattle.algorithm.proofs.Grow.{held_up}

-- The past of a node that has been handed more.
abbrev pub handing : Logs → Past → Past
handing got γ = record { got = got; base = γ.base; first = γ.first }

-- One more message handed over from node k.
abbrev pub handed-by : Logs → ℕ → Message → Logs
handed-by got k m = upd got k (m ∷ got k)

pub handed-more : (got : Logs) (k : ℕ) (m : Message) → got ≼ handed-by got k m
handed-more got k m j = upd-all (λ j x. got j ⊑ x) got k (m ∷ got k) (λ j ne. here) (more here) j

pub took-up : (k : ℕ) (ν ν' : Node) (m : Message) → ν.maxtag ≤ ν'.maxtag
    → ((j : ℕ) (v : Value) → v ∈ ν.from j → v ∈ ν'.from j) → ((v : Value) → v ∈ ν.all → v ∈ ν'.all)
    → Took k ν m → Took k ν' m
took-up k ν ν' (read q) h g a t = tt
took-up k ν ν' (read_answer to q u) h g a t = tt
took-up k ν ν' (write q u) h g a t = omega arith
took-up k ν ν' (write_answer to q u) h g a t = tt
took-up k ν ν' (echo u) h g a t = omega arith
took-up k ν ν' (value v) h g a t = (g k v t.0, a v t.1)
took-up k ν ν' (good u v) h g a t = tt

module _ (n f : ℕ) where
  -- The same wait and no smaller state.
  pub have-more : (out base : Logs) (i r : ℕ) (op : Operation) (w : Wait) (ν ν' : Node) (m : Message)
      → ν.maxtag ≤ ν'.maxtag → ν.request ≤ ν'.request → ((v : Value) → v ∈ ν.all → v ∈ ν'.all)
      → Have n f out base i r op (with_wait w ν) m → Have n f out base i r op (with_wait w ν') m
  have-more out base i r op w ν ν' (read q) h g a x = omega arith
  have-more out base i r op w ν ν' (write q t) h g a x = omega arith
  have-more out base i r op w ν ν' (read_answer to q t) h g a x = tt
  have-more out base i r op w ν ν' (write_answer to q t) h g a x = tt
  have-more out base i r op w ν ν' (echo t) h g a x = omega arith
  have-more out base i r op w ν ν' (value v) h g a (p, o) = (go p, o)
    where
      go : (v ∈ ν.all) ⊎ Pending i r op w v → (v ∈ ν'.all) ⊎ Pending i r op w v
      go (inl m) = inl (a v m)
      go (inr e) = inr e
  have-more out base i r op w ν ν' (good t v) h g a x = tt

  module _ (half : f + f < n) {out : Logs} {γ : Past} {i r : ℕ} {op : Operation} {ν : Node} {l : Log} where
    -- A value that a quorum had at the begin has come to a node that was handed what another quorum had sent by then.
    pub known-value : Local n f out γ i r op ν l → (R : ℕ → Bool) → n - f ≤ count R n
        → ((k : ℕ) → R k ≡ true → γ.base k ⊑ γ.got k) → {x : Value} → Settled n f γ.base x → value x ∈ l
    known-value c R many handed {x} s =
        let (k, lo, hi, y, z) = meet n f half R s.who many s.many in
        c.sent x (c.took k (value x) (mem_up (handed k y) (s.has k z))).1

    pub stage-post : Local n f out γ i r op ν l → (m : Message) {rnd : Round} {t : ℕ}
        → Stage n f out γ i r op l rnd t → Stage n f out γ i r op (m ∷ l) rnd t
    stage-post c m s = record {
      R = s.R;
      many = s.many;
      low = s.low;
      handed = s.handed;
      rise = s.rise;
      before = s.before;
      ahead = λ x v p h o q. elim (cons-or q) [
        | inl e ↦ subst (λ z. value x ∈ z) (sym e.1) (known-value c s.R s.many s.handed h)
        | inr q' ↦ s.ahead x v p h o q'
      ];
    }

    phase-post : Local n f out γ i r op ν l → (m : Message) (w : Wait)
        → Phase n f out γ i r op ν.request l w → Phase n f out γ i r op ν.request (m ∷ l) w
    phase-post c m idle p = tt
    phase-post c m (reading o s u) p = p
    phase-post c m (writing o rnd t s) (e, p) = (
      e,
      record {
        stage = stage-post c m p.stage;
        at = p.at;
        asked = more p.asked;
        held = p.held;
        counted = p.counted;
      },
    )
    phase-post c m (comparing o rnd t) (e, p) = (
      e,
      record {
        stage = stage-post c m p.stage;
        held = held_up i r op (more here) p.held;
        W = p.W;
        many = p.many;
        counted = p.counted;
      },
    )
    phase-post c m (borrowing o t) (e, p) = (e, stage-post c m p)

    -- The node sends a message.
    pub post : Local n f out γ i r op ν l → (m : Message) → Due n f i out m l → Have n f out γ.base i r op ν m
        → Local n f out γ i r op ν (m ∷ l)
    post c m d h = record {
      grown = more c.grown;
      got_in = c.got_in;
      base-in = c.base-in;
      due = (d, c.due);
      took = c.took;
      have = λ x e. have x e;
      topped = λ e. Memᴰ.tail (c.topped e);
      sent = λ v e. Memᴰ.tail (c.sent v e);
      heard = c.heard;
      lead = c.lead;
      no_reads = c.no_reads;
      no_writes = c.no_writes;
      known = c.known;
      phase = phase-post c m ν.wait c.phase;
    }
      where
        have : (x : Message) → x ∈ (m ∷ l) → Have n f out γ.base i r op ν x
        have x (Memᴰ.head e) = subst (Have n f out γ.base i r op ν) (sym e) h
        have x (Memᴰ.tail e) = c.have x e

    -- Its maxtag grows, and it sends the echo.
    pub raised : Local n f out γ i r op ν l → (t : ℕ) → ν.maxtag < t
        → Local n f out γ i r op (topping t ν) (echo t ∷ l)
    raised c t h = record {
      grown = more c.grown;
      got_in = c.got_in;
      base-in = c.base-in;
      due = (tt, c.due);
      took = λ k m e. took-up k ν (topping t ν) m (omega arith) (λ j v x. x) (λ v x. x) (c.took k m e);
      have = have;
      topped = λ e. Memᴰ.head refl;
      sent = λ v e. Memᴰ.tail (c.sent v e);
      heard = c.heard;
      lead = c.lead;
      no_reads = c.no_reads;
      no_writes = c.no_writes;
      known = c.known;
      phase = phase-post c (echo t) ν.wait c.phase;
    }
      where
        have : (x : Message) → x ∈ (echo t ∷ l) → Have n f out γ.base i r op (topping t ν) x
        have x (Memᴰ.head e) = subst (Have n f out γ.base i r op (topping t ν)) (sym e) (omega arith)
        have x (Memᴰ.tail e) =
            have-more out γ.base i r op ν.wait ν (topping t ν) x (omega arith) (omega arith) (λ v x. x)
            (c.have x e)

    -- It takes in a value that is new to it, and passes it on.
    pub learnt : Local n f out γ i r op ν l → (v : Value) → Due n f i out (value v) l
        → (v.writer ≡ i → Olds n f out γ.base i r op ν.wait v)
        → Local n f out γ i r op (holding (v ∷ ν.all) ν.from ν) (value v ∷ l)
    learnt c v d o = record {
      grown = more c.grown;
      got_in = c.got_in;
      base-in = c.base-in;
      due = (d, c.due);
      took = λ k m e. took-up k ν ν' m (omega arith) (λ j v x. x) (λ v x. Memᴰ.tail x) (c.took k m e);
      have = have;
      topped = λ e. Memᴰ.tail (c.topped e);
      sent = sent;
      heard = c.heard;
      lead = c.lead;
      no_reads = c.no_reads;
      no_writes = c.no_writes;
      known = c.known;
      phase = phase-post c (value v) ν.wait c.phase;
    }
      where
        ν' : Node
        ν' = holding (v ∷ ν.all) ν.from ν

        have : (x : Message) → x ∈ (value v ∷ l) → Have n f out γ.base i r op ν' x
        have x (Memᴰ.head e) =
            subst (Have n f out γ.base i r op ν') (sym e) (inl (Memᴰ.head refl), o)
        have x (Memᴰ.tail e) =
            have-more out γ.base i r op ν.wait ν ν' x (omega arith) (omega arith) (λ v x. Memᴰ.tail x)
            (c.have x e)

        sent : (u : Value) → u ∈ (v ∷ ν.all) → value u ∈ (value v ∷ l)
        sent u (Memᴰ.head e) = Memᴰ.head (λ j. value (e j))
        sent u (Memᴰ.tail e) = Memᴰ.tail (c.sent u e)

    -- It keeps a good message.
    pub kept_on : Local n f out γ i r op ν l → (t : ℕ) (view : View) → Known n f out t view
        → Local n f out γ i r op (keep t view ν) l
    kept_on c t view k = record {
      grown = c.grown;
      got_in = c.got_in;
      base-in = c.base-in;
      due = c.due;
      took = λ j m e. took-up j ν (keep t view ν) m (omega arith) (λ j v x. x) (λ v x. x) (c.took j m e);
      have = λ x e. have-more out γ.base i r op ν.wait ν (keep t view ν) x (omega arith) (omega arith) (λ v x. x)
          (c.have x e);
      topped = c.topped;
      sent = c.sent;
      heard = c.heard;
      lead = c.lead;
      no_reads = c.no_reads;
      no_writes = c.no_writes;
      known = known;
      phase = c.phase;
    }
      where
        known : (g : _) → g ∈ (keep t view ν).goods → Known n f out g.tag g.view
        known g (Memᴰ.head e) = subst (λ g. Known n f out g.tag g.view) (sym e) k
        known g (Memᴰ.tail e) = c.known g e
