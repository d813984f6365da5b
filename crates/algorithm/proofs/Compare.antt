-- After a quorum agrees. A good round leaves a certificate, and what it saw covers every certificate that was there
-- when its operation began. A failed round leaves to the next what it has learnt.
use Prim.Native.Nat.{ℕ, suc, ◌+◌, ◌-◌, ◌≤◌, ◌<◌}
use native.Mathlib.Omega.{arith}
use native.Mathlib.Decide.{dec_le}
use mathlib.Core.Path.{◌≡◌, refl, subst}
use mathlib.Core.Logic.{◌⊎◌, inl, inr}
use mathlib.Core.Bool.{true}
use mathlib.Core.List.{List, [], ◌∷◌}
use Rattle.logs.specs.Count.{count}
use Rattle.logs.proofs.Count.{meet, choose}
use Rattle.logs.specs.Update.{upd}
use Rattle.logs.proofs.Update.{upd-all}
use Rattle.logs.specs.Log.{◌∈◌, ◌⊑◌, here}
use Rattle.logs.proofs.Log.{⊑_trans, mem_up}
use Rattle.history.specs.Message.{Value, of, echo, value, good}
use Rattle.history.specs.Event.{Operation, update, Round}
use Rattle.algorithm.specs.Algorithm.{Wait, idle, comparing, Node, with_wait, agrees, view_upto}
use Rattle.algorithm.proofs.Cert.{Log, Logs, echoed-up, Inside, Cert, carry}
use Rattle.algorithm.proofs.Local.{Past, Own, Held, Settled, Spread, Stage, Wrote, Compares, Local}
use Rattle.algorithm.proofs.Grow.{≼_refl, upd-up, upd-longer}
use Rattle.algorithm.proofs.Change.{post}
use Rattle.algorithm.proofs.Turn.{have-with_request_and_wait, moved}
use Rattle.algorithm.proofs.Sets.{included_up_to-to, agrees-to}
use Rattle.algorithm.proofs.Outcome.{Final}
use Rattle.algorithm.proofs.Open.{rise-le}

module _ (n f : ℕ) (half : f + f < n) where
  -- A tag of a certificate that was there at the begin has been read.
  pub read-covers : {out : Logs} {γ : Past} {i r : ℕ} {op : Operation} {l : Log} {rnd : Round} {t : ℕ}
      → Stage n f out γ i r op l rnd t → {U : ℕ} {B : List Value} → Cert n f γ.base U B → U ≤ r
  read-covers {out} {γ} {i} {r} s {U} G =
      let (k, lo, hi, x, y) = meet n f half G.W s.R G.W-many s.many in
      elim (dec_le U 0) [
        | yes h ↦ omega arith
        | no h ↦
            let (e, p, m) = G.W-echo k x (omega arith) in
            let q = s.low k e y (mem_up (G.W-in k x) m) in
            omega arith
      ]

  module _ {out : Logs} {γ : Past} {i r : ℕ} {op : Operation} {l : Log} (ν : Node) {o : Operation} {rnd : Round} {t : ℕ}
      (c : Local n f out γ i r op (with_wait (comparing o rnd t) ν) l) where
    pub cmp : Compares n f out γ i r op l rnd t
    cmp = c.phase.1

    pub known : (v : Value) → value v ∈ l → v ∈ ν.all
    known v m = elim (c.have (value v) m).0 [ inl h ↦ h | inr h ↦ absurd h ]

    -- The certificate of a good round.
    pub certify : n - f ≤ count (agrees i ν t) n → ν.maxtag ≤ t → Cert n f (upd out i l) t ν.all
    certify many top = record {
      W = cmp.W;
      Q = agrees i ν t;
      a = a;
      q = upd γ.got i l;
      W-many = cmp.many;
      Q-many = many;
      W-in = λ k w. ⊑_trans (⊑_trans (wrote k w).sits (c.got_in k)) (upd-longer out i c.grown k);
      W-echo = λ k w. (wrote k w).told;
      W-all = λ k v w m h. (c.took k (value v) (mem_up (wrote k w).sits m)).1;
      Q-in = λ k e. upd-up γ.got out i c.got_in here k;
      Q-none = λ k x e. upd-all (λ k z. echo x ∈ z → x ≤ t) γ.got i l
          (λ k ne m. omega (arith, c.took k (echo x) m)) (λ m. omega (arith, c.have (echo x) m)) k;
      Q-has = λ k v e m h. upd-all (λ k z. agrees i ν t k ≡ true → value v ∈ z) γ.got i l
          (λ k ne e. c.heard k v (included_up_to-to t ν.all (ν.from k) (agrees-to i ν t k e ne).1 v m h))
          (λ e. c.sent v m) k e;
      Q-only = λ k v e m h. upd-all (λ k z. value v ∈ z → v ∈ ν.all) γ.got i l
          (λ k ne m. (c.took k (value v) m).1) (λ m. known v m) k m;
    }
      where
        chosen : (g : ℕ → Log) × ((k : ℕ) → cmp.W k ≡ true → Wrote γ i r op t k (g k))
        chosen = choose cmp.W (Wrote γ i r op t) [] cmp.counted

        a : Logs
        a = chosen.0

        wrote : (k : ℕ) → cmp.W k ≡ true → Wrote γ i r op t k (a k)
        wrote = chosen.1

    -- What a certificate of before the begin has, the node has.
    pub covers : (U : ℕ) (B : List Value) → Cert n f γ.base U B → Inside U B t ν.all
    covers U B G v m h =
        let (k, lo, hi, x, y) = meet n f half G.Q cmp.W G.Q-many cmp.many in
        let (a, wrote) = cmp.counted k y in
        let in-a : value v ∈ a = mem_up (⊑_trans (G.Q-in k x) wrote.late) (G.Q-has k v x m h) in
        let low = read-covers cmp.stage G in
        let high = rise-le op rnd cmp.stage.rise in
        ((c.took k (value v) (mem_up wrote.sits in-a)).1, omega arith)

    pub final : n - f ≤ count (agrees i ν t) n → ν.maxtag ≤ t → (l' : Log) → l ⊑ l'
        → Final n f (upd out i l') γ.base (view_upto n t ν.all) t ν.all
    final many top l' up = record {
      is = refl;
      cert = carry (upd-up out out i (≼_refl out) up) (certify many top);
      covers = covers;
    }

    pub posted : n - f ≤ count (agrees i ν t) n → ν.maxtag ≤ t
        → Local n f out γ i r op (with_wait (comparing o rnd t) ν) (good t (view_upto n t ν.all) ∷ l)
    posted many top = post n f half c (good t (view_upto n t ν.all)) (ν.all, refl, certify many top) tt

    -- A quorum has the update's value, and an echo of its tag.
    pub own-spread : (p : ℕ) → op ≡ update p → r < t → (u : ℕ) → ν.maxtag ≤ u → Spread n f out (of (suc r) i p) u
    own-spread p e lt u top = record {
      who = cmp.W;
      many = cmp.many;
      a = chosen.0;
      sits = λ k w. ⊑_trans (chosen.1 k w).sits (c.got_in k);
      told = λ k w. let (x, h, m) = (chosen.1 k w).told (omega arith) in (x, omega arith, m);
      has = λ k w. subst (λ z. Held i r z (chosen.0 k)) e (chosen.1 k w).has;
      low = λ k x w m. omega (arith, c.took k (echo x) (mem_up (chosen.1 k w).sits m));
    }
      where
        chosen : (g : ℕ → Log) × ((k : ℕ) → cmp.W k ≡ true → Wrote γ i r op t k (g k))
        chosen = choose cmp.W (Wrote γ i r op t) [] cmp.counted

  pub spread-settled : {out : Logs} {v : Value} {t : ℕ} → Spread n f out v t → Settled n f out v
  spread-settled s = record {
    who = s.who;
    many = s.many;
    told = λ k w. echoed-up (s.sits k w) (s.told k w);
    has = λ k w. mem_up (s.sits k w) (s.has k w);
  }

  -- An operation whose own value is settled goes to rest.
  pub rested : {out : Logs} {γ : Past} {i r : ℕ} (op : Operation) {l : Log} (ν : Node) {w : Wait}
      → Local n f out γ i r op (with_wait w ν) l
      → ((v : Value) → value v ∈ l → (v ∈ ν.all) × (v.writer ≡ i → Own i r op v ⊎ (Settled n f out v × (v.tag ≤ r))))
      → ((v : Value) → Own i r op v → Settled n f out v)
      → Local n f out γ i r op (with_wait idle ν) l
  rested {out} {γ} {i} {r} op ν c known own = moved n f c r ν.request idle here (omega arith) c.due
      (have-with_request_and_wait n f c r ν.request idle (omega arith)
      (λ v m x. (inl (known v m).0, λ e. rest v ((known v m).1 e))))
      tt
    where
      rest : (v : Value) → Own i r op v ⊎ (Settled n f out v × (v.tag ≤ r)) → Settled n f out v
      rest v (inl e) = own v e
      rest v (inr e) = e.0
