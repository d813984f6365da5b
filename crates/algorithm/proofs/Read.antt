-- After a quorum of read answers: the tag used is not below any that a quorum had reached when the operation began. An
-- update makes its value and opens round 0, a scan opens round 1.
use Prim.Native.Nat.{ℕ, suc, ◌+◌, ◌-◌, ◌≤◌, ◌<◌, max}
use native.Mathlib.Omega.{arith}
use native.Mathlib.Decide.{ℕ_discrete}
use mathlib.Core.Path.{◌≡◌, refl, sym, subst}
use mathlib.Core.Logic.{◌⊎◌, inl, inr, ite}
use mathlib.Core.Bool.{true, false≢true}
use mathlib.Core.List.Memᴰ
use mathlib.Core.List.{[], ◌∷◌}
use Rattle.logs.specs.Count.{count}
use Rattle.logs.proofs.Count.{meet}
use Rattle.logs.specs.Log.{◌∈◌, ◌⊑◌, here, more}
use Rattle.logs.proofs.Log.{⊑_trans, mem_up, placed, cons-or}
use Rattle.history.specs.Message.{Value, of, Message, write, echo, value}
use Rattle.history.specs.Event.{Operation, update, scan, round0, round1, spent}
use Rattle.algorithm.specs.Algorithm.{limit, Nodes, nobody, Wait, idle, reading, writing, comparing, borrowing}
use Rattle.algorithm.specs.Algorithm.{Node, still, ended, with_wait, sending, ◌then◌, opening, after_read, quorum?}
use Rattle.algorithm.specs.Algorithm.{read_pass}
use Rattle.algorithm.proofs.Cert.{Log, Logs, value≢write}
use Rattle.algorithm.proofs.Local.{Past, Under, ValueDue, Settled, Have, ReadBy, Local}
use Rattle.algorithm.proofs.Grow.{settled_up}
use Rattle.algorithm.specs.Node.{with_request_and_wait}
use Rattle.algorithm.proofs.Change.{known-value}
use Rattle.algorithm.proofs.Turn.{have-with_request_and_wait, unused, moved}
use Rattle.algorithm.proofs.Outcome.{Fine, fine-still}

-- The tag that the operation has read once the read answers have been looked at.
abbrev pub read_tag : (n f r : ℕ) → Node → Wait → ℕ
read_tag n f r ν (reading op s u) = ite (quorum? n f s) (max u ν.maxtag) r
read_tag n f r ν idle = r
read_tag n f r ν (writing op rnd t s) = r
read_tag n f r ν (comparing op rnd t) = r
read_tag n f r ν (borrowing op t) = r

module _ (n f : ℕ) (half : f + f < n) where
  module _ {out : Logs} {γ : Past} {i r : ℕ} {op : Operation} {l : Log} (ν : Node) {o : Operation} {s : Nodes} {u : ℕ}
      (c : Local n f out γ i r op (with_wait (reading o s u) ν) l) (many : n - f ≤ count s n) (r' : ℕ)
      (high : u ≤ r') where
    reads : (k : ℕ) → s k ≡ true → ReadBy γ u k
    reads = c.phase.1

    low : (k x : ℕ) → s k ≡ true → echo x ∈ γ.base k → x ≤ r'
    low k x h m = omega (arith, (reads k h).low x (mem_up (reads k h).late m))

    handed : (k : ℕ) → s k ≡ true → γ.base k ⊑ γ.got k
    handed k h = ⊑_trans (reads k h).late (reads k h).sits

    -- What a quorum had at the begin has a tag that was read.
    settled-low : {v : Value} → Settled n f γ.base v → v.tag ≤ r'
    settled-low {v} x =
        let (k, a, b, y, z) = meet n f half s x.who many x.many in
        let (t, h, m) = x.told k z in
        omega (arith, low k t y m)

    own_old : (v : Value) → value v ∈ l → v.writer ≡ i → Settled n f γ.base v
    own_old v m e = (c.have (value v) m).1 e

    -- A value of before, in a later wait.
    older : (v : Value) → value v ∈ l → v.writer ≡ i → Settled n f out v × (v.tag ≤ r')
    older v m e = (settled_up n f c.base-in (own_old v m e), settled-low (own_old v m e))

    known : (v : Value) → value v ∈ l → v ∈ ν.all
    known v m = elim (c.have (value v) m).0 [ inl h ↦ h | inr h ↦ absurd h ]

    -- What the log says of the node when the operation waits for write answers, of round 0 of an update or 1 of a scan.
    values-known : (w : Wait) (q : ℕ) → ν.request ≤ q
        → ((v : Value) → v ∈ ν.all → (v.writer ≡ i → Settled n f out v × (v.tag ≤ r'))
        → Have n f out γ.base i r' op (with_request_and_wait q w ν) (value v))
        → (m : Message) → m ∈ l → Have n f out γ.base i r' op (with_request_and_wait q w ν) m
    values-known w q h g = have-with_request_and_wait n f c r' q w h (λ v m x. g v (known v m) (older v m))

  module _ (out : Logs) (γ : Past) (i r : ℕ) (l : Log) (ν : Node) (o : Operation) (s : Nodes) (u : ℕ)
      (many : n - f ≤ count s n) (r' : ℕ) (high : u ≤ r') where
    abbrev q : ℕ
    q = suc ν.request

    scanned : Local n f out γ i r scan (with_wait (reading o s u) ν) l
        → Fine n f out γ i r' scan l (opening scan round1 r' (with_wait (reading o s u) ν))
    scanned c = record {
      ended = tt;
      kept = moved n f c r' q w (more here) (omega arith) (unused n f c, c.due) have (
        refl,
        record {
          stage = record {
            R = s;
            many = many;
            low = low ν c many r' high;
            handed = handed ν c many r' high;
            ahead = λ x v p h o q. absurd o;
            rise = omega arith;
            before = tt;
          };
          at = l;
          asked = here;
          held = tt;
          counted = λ k e. absurd (false≢true e);
        },
      );
    }
      where
        w : Wait
        w = writing scan round1 r' nobody

        have : (m : Message) → m ∈ (write q r' ∷ l) → Have n f out γ.base i r' scan (with_request_and_wait q w ν) m
        have m (Memᴰ.head e) =
            subst (Have n f out γ.base i r' scan (with_request_and_wait q w ν)) (sym e) (omega arith)
        have m (Memᴰ.tail e) = values-known ν c many r' high w q (omega arith)
            (λ v x y. (inl x, λ e. inr (y e))) m e

    module _ (p : ℕ) (c : Local n f out γ i r (update p) (with_wait (reading o s u) ν) l) where
      abbrev own : Value
      own = of (suc r') i p

      -- No tag is left.
      without-tag : Fine n f out γ i r' (update p) l (ended spent [] (with_wait idle ν))
      without-tag = record {
        ended = tt;
        kept = moved n f c r' ν.request idle here (omega arith) c.due
            (values-known ν c many r' high idle ν.request (omega arith) (λ v x y. (inl x, λ e. (y e).0))) tt;
      }

      -- The value is the newest of its writer.
      own-due : ValueDue i out own l
      own-due = record {
        tagged = omega arith;
        rise = λ v e m e'. inr (omega (arith, (older ν c many r' high v m e').1));
        source = inl refl;
      }

      abbrev w₀ : Wait
      w₀ = writing (update p) round0 r' nobody

      have₀ : (m : Message) → m ∈ (write q r' ∷ value own ∷ l)
          → Have n f out γ.base i r' (update p) (with_request_and_wait q w₀ ν) m
      have₀ m (Memᴰ.head e) =
          subst (Have n f out γ.base i r' (update p) (with_request_and_wait q w₀ ν)) (sym e) (omega arith)
      have₀ m (Memᴰ.tail (Memᴰ.head e)) =
          subst (Have n f out γ.base i r' (update p) (with_request_and_wait q w₀ ν)) (sym e) (inr refl, λ e. inl refl)
      have₀ m (Memᴰ.tail (Memᴰ.tail e)) =
          values-known ν c many r' high w₀ q (omega arith) (λ v x y. (inl x, λ e. inr (y e))) m e

      -- What a quorum had at the begin comes before the value.
      ahead₀ : (x v : Value) (a : Log) → Settled n f γ.base x → v ≡ own
          → (value v ∷ a) ⊑ (write q r' ∷ value own ∷ l)
          → value x ∈ a
      ahead₀ x v a h e at = outer (cons-or at)
        where
          inner : ((value v ≡ value own) × (a ≡ l)) ⊎ ((value v ∷ a) ⊑ l) → value x ∈ a
          inner (inl y) = subst (λ z. value x ∈ z) (sym y.1)
              (known-value n f half c s many (handed ν c many r' high) h)
          inner (inr y) =
              let old = (older ν c many r' high own (subst (λ z. value z ∈ l) e (placed y)) refl).1 in absurd
              (omega arith)

          outer : ((value v ≡ write q r') × (a ≡ (value own ∷ l))) ⊎ ((value v ∷ a) ⊑ (value own ∷ l)) → value x ∈ a
          outer (inl y) = absurd (value≢write y.0)
          outer (inr y) = inner (cons-or y)

      updated : Fine n f out γ i r' (update p) l
          (sending (value own ∷ []) (with_wait (reading o s u) ν) then opening (update p) round0 r')
      updated = record {
        ended = tt;
        kept = moved n f c r' q w₀ (more (more here)) (omega arith) (unused-own, (own-due, c.due)) have₀ (
          refl,
          record {
            stage = record {
              R = s;
              many = many;
              low = low ν c many r' high;
              handed = handed ν c many r' high;
              ahead = ahead₀;
              rise = refl;
              before = tt;
            };
            at = value own ∷ l;
            asked = here;
            held = Memᴰ.head refl;
            counted = λ k e. absurd (false≢true e);
          },
        );
      }
        where
          unused-own : (m : Message) → m ∈ (value own ∷ l) → Under q m
          unused-own m (Memᴰ.head e) = subst (Under q) (sym e) tt
          unused-own m (Memᴰ.tail e) = unused n f c m e

  after-read : {out : Logs} {γ : Past} {i r : ℕ} {l : Log} (ν : Node) {o : Operation} {s : Nodes} {u : ℕ}
      (op : Operation)
      → Local n f out γ i r op (with_wait (reading o s u) ν) l → n - f ≤ count s n → (r' : ℕ) → u ≤ r'
      → Fine n f out γ i r' op l (after_read i r' op (with_wait (reading o s u) ν))
  after-read {out} {γ} {i} {r} {l} ν {o} {s} {u} scan c many r' high = scanned out γ i r l ν o s u many r' high c
  after-read {out} {γ} {i} {r} {l} ν {o} {s} {u} (update p) c many r' high = elim (ℕ_discrete r' limit)
      as (λ d. Fine n f out γ i r' (update p) l (ite d (ended spent [] (with_wait idle ν))
      (sending (value (of (suc r') i p) ∷ []) (with_wait (reading o s u) ν) then opening (update p) round0 r'))) [
        | yes e ↦ without-tag out γ i r l ν o s u many r' high p c
        | no e ↦ updated out γ i r l ν o s u many r' high p c
      ]

  -- The wait for read answers.
  pub read-pass : {out : Logs} {γ : Past} {i r : ℕ} {op : Operation} {l : Log} (ν : Node) (w : Wait)
      → Local n f out γ i r op (with_wait w ν) l
      → Fine n f out γ i (read_tag n f r ν w) op l (read_pass n f i (with_wait w ν) w)
  read-pass ν idle c = fine-still n f c
  read-pass ν (writing o rnd t s) c = fine-still n f c
  read-pass ν (comparing o rnd t) c = fine-still n f c
  read-pass ν (borrowing o t) c = fine-still n f c
  read-pass {out} {γ} {i} {r} {op} {l} ν (reading o s u) c = elim (quorum? n f s)
      as (λ d. Fine n f out γ i (ite d (max u ν.maxtag) r) op l
      (ite d (after_read i (max u ν.maxtag) o (with_wait (reading o s u) ν)) (still (with_wait (reading o s u) ν)))) [
        | yes h ↦ subst (λ z. Fine n f out γ i (max u ν.maxtag) op l
            (after_read i (max u ν.maxtag) z (with_wait (reading o s u) ν)))
            (sym c.phase.0) (after-read ν op c h (max u ν.maxtag) (omega arith))
        | no h ↦ fine-still n f c
      ]
