-- Admission: what the four tests are one by one, what is known after them, and what each event is then.
use Prim.Native.Nat.{ℕ, ◌+◌, ◌≤◌, ◌<◌}
use native.Mathlib.Omega.{arith}
use mathlib.Core.Path.{◌≡◌, refl, sym, ap, ◌∙◌, subst}
use mathlib.Core.Bool.{Bool, true, false, not}
use mathlib.Core.List.{List, []}
use lib.ListN.{length}
use lib.Dec.{eqb}
use borrow.Author.Tests.{ne_eqb}
use Rattle.octets.specs.Answer.{returned}
use Rattle.octets.specs.Test.{both}
use Rattle.octets.proofs.Test.{both_left, both_right}
use Rattle.view.specs.Size.{is_size}
use Rattle.view.specs.View.{no_view}
use Rattle.record.specs.declared.Operation.{Operation}
use Rattle.step.specs.declared.Ending.TheVariants.{None}
use Rattle.block.specs.Block.{halt}
use Rattle.layout.specs.Layout.{cluster_size, stated, faults_in, stopped, on_block, fits, sound, is_node}
use Rattle.layout.proofs.Check.{is-size, is-node, fits-length, sound-size, sound-half, sound-n, sound-usable}
use Rattle.outgoing.specs.Outgoing.{may_stop}
use Rattle.outgoing.specs.declared.Extent.{Extent}
use Rattle.events.specs.Event.{Result, refuse, demand, unless, admission, admitted}
use Rattle.events.specs.Event.{open_in, begin, deliver_in, deliver}
use Rattle.events.specs.Ready.{Ready}
use Rattle.events.specs.Stop.{stop_in, stop}

-- ---- four tests in turn

abbrev in_turn : (t u v w : Bool) → ℕ
in_turn t u v w = unless t 12 (unless u 2 (unless v 3 (unless w 4 0)))

all_pass : (t u v w : Bool) → in_turn t u v w ≡ 0 → (t ≡ true) × (u ≡ true) × (v ≡ true) × (w ≡ true)
all_pass true true true true e = (refl, refl, refl, refl)
all_pass true true true false e = absurd (omega arith)
all_pass true true false w e = absurd (omega arith)
all_pass true false v w e = absurd (omega arith)
all_pass false u v w e = absurd (omega arith)

demanded : (t u v w : Bool) (b : List ℕ) (next : Result) → demand (eqb (in_turn t u v w) 0) (in_turn t u v w) b next
    ≡ demand t 12 b (demand u 2 b (demand v 3 b (demand w 4 b next)))
demanded true true true true b next = refl
demanded true true true false b next = refl
demanded true true false w b next = refl
demanded true false v w b next = refl
demanded false u v w b next = refl

module _ (a c : ℕ) (b : List ℕ) where
  -- the refusals one by one
  pub admitted-is : (next : Result) → admitted a c b next
      ≡ demand (fits b) 12 b (demand (sound b) 2 b
      (demand (both (is_node (stated b) a) (is_node (stated b) c)) 3 b (demand (not (stopped b c)) 4 b next)))
  unfolding admission
  admitted-is next =
      demanded (fits b) (sound b) (both (is_node (stated b) a) (is_node (stated b) c)) (not (stopped b c)) b next

  pub admits : fits b ≡ true → sound b ≡ true → is_node (stated b) a ≡ true → is_node (stated b) c ≡ true
      → stopped b c ≡ false → admission a c b ≡ 0
  unfolding admission
  admits f s i k u = rw (f, s, i, k, u) refl

  -- what each return of `admission` says
  pub is-unfit : fits b ≡ false → 12 ≡ admission a c b
  unfolding admission
  is-unfit f = rw f refl

  pub is-unsound : fits b ≡ true → sound b ≡ false → 2 ≡ admission a c b
  unfolding admission
  is-unsound f s = rw (f, s) refl

  module _ (n : ℕ) (st : n ≡ stated b) (f : fits b ≡ true) (s : sound b ≡ true) where
    tested : {v : Bool} → both (is_node n a) (is_node n c) ≡ v → both (is_node (stated b) a) (is_node (stated b) c) ≡ v
    tested h = ap (λ (k : ℕ). both (is_node k a) (is_node k c)) (sym st) ∙ h

    pub is-nowhere : both (is_node n a) (is_node n c) ≡ false → 3 ≡ admission a c b
    unfolding admission
    is-nowhere h = rw (f, s, tested h) refl

    module _ (h : both (is_node n a) (is_node n c) ≡ true) where
      pub has_block : (1 ≤ c) × (cluster_size c ≤ length b)
      has_block =
          let k = is-node n c (both_right (is_node n a) (is_node n c) h) in
          let l = fits-length b n f st (ap is_size st ∙ sound-size b s) in (k.0, omega (arith, k.1, l))

      pub is-stopped : stopped b c ≡ true → 4 ≡ admission a c b
      unfolding admission
      is-stopped u = rw (f, s, tested h, u) refl

      pub is-admitted : stopped b c ≡ false → 0 ≡ admission a c b
      unfolding admission
      is-admitted u = rw (f, s, tested h, u) refl

  pub ready : (n : ℕ) → n ≡ stated b → admission a c b ≡ 0 → Ready n a c b
  unfolding admission
  ready n st e =
      let nodes = both (is_node (stated b) a) (is_node (stated b) c) in
      let h = all_pass (fits b) (sound b) nodes (not (stopped b c)) e in
      let size = ap is_size st ∙ sound-size b h.1 in
      let i : is_node n a ≡ true = ap (λ (k : ℕ). is_node k a) st
      ∙ both_left (is_node (stated b) a) (is_node (stated b) c) h.2 in
      let k : is_node (stated b) c ≡ true = both_right (is_node (stated b) a) (is_node (stated b) c) h.2 in
      let k' : is_node n c ≡ true = ap (λ (k : ℕ). is_node k c) st ∙ k in
      record {
        states = st;
        small = (is-size n size).1;
        half = subst (λ (j : ℕ). faults_in b + faults_in b < j) (sym st) (sound-half b h.1);
        long = fits-length b n h.0 st size;
        from_low = (is-node n a i).0;
        from-high = (is-node n a i).1;
        low = (is-node n c k').0;
        high = (is-node n c k').1;
        can-step = sound-usable b h.1 c k;
        same = sound-n b h.1 c k ∙ sym st;
      }

  -- bytes that are admitted are not empty
  pub some_bytes : admission a c b ≡ 0 → 1 ≤ length b
  some_bytes e = let l = (ready (stated b) refl e).long in omega arith

  passes : (next : ℕ → Result) (n : ℕ) → n ≡ stated b → admission a c b ≡ 0 → admitted a c b (next (stated b)) ≡ next n
  passes next n st e = rw (e, st) refl

  stays : (next : Result) {k : ℕ} → k ≡ admission a c b → (k ≡ 0 → ⊥) → admitted a c b next ≡ refuse k b
  stays next {k} e h = rw (sym e, ne_eqb k 0 h) refl

-- ---- the events

module _ (c : ℕ) (o : Operation) (x : Extent) (b : List ℕ) where
  pub begin-refused : {k : ℕ} → k ≡ admission c c b → (k ≡ 0 → ⊥) → begin c o x b ≡ refuse k b
  unfolding begin
  begin-refused = stays c c b (open_in (stated b) c o x b)

  pub begin-opens : (n : ℕ) → n ≡ stated b → admission c c b ≡ 0 → begin c o x b ≡ open_in n c o x b
  unfolding begin
  begin-opens = passes c c b (λ n. open_in n c o x b)

module _ (a c : ℕ) (x : Extent) (b : List ℕ) where
  pub deliver-refused : {k : ℕ} → k ≡ admission a c b → (k ≡ 0 → ⊥) → deliver a c x b ≡ refuse k b
  unfolding deliver
  deliver-refused = stays a c b (deliver_in (stated b) a c x b)

  pub deliver-is : (n : ℕ) → n ≡ stated b → admission a c b ≡ 0 → deliver a c x b ≡ deliver_in n a c x b
  unfolding deliver
  deliver-is = passes a c b (λ n. deliver_in n a c x b)

module _ (c : ℕ) (b : List ℕ) where
  pub stop-refused : {k : ℕ} → k ≡ admission c c b → (k ≡ 0 → ⊥) → stop c b ≡ refuse k b
  unfolding stop
  stop-refused = stays c c b (stop_in (stated b) c b)

  pub stop_is : (n : ℕ) → n ≡ stated b → admission c c b ≡ 0 → stop c b ≡ stop_in n c b
  unfolding stop
  stop_is = passes c c b (λ n. stop_in n c b)

  pub stop-many : (n : ℕ) → may_stop n b ≡ false → stop_in n c b ≡ refuse 10 b
  stop-many n m = rw m refl

  pub stop_halts : (n : ℕ) → may_stop n b ≡ true
      → stop_in n c b ≡ record { bytes = on_block c (halt n) b; answer = returned None; view = no_view; sent = [] }
  stop_halts n m = rw m refl
