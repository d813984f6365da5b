-- What an operation owes at its ending, and an update when it gets its tag, from the certificates and logs.
use Prim.Native.Nat.{ℕ, zero, suc, ◌+◌, ◌-◌, ◌≤◌, ◌<◌}
use native.Mathlib.Omega.{arith}
use native.Mathlib.Decide.{ℕ_discrete, dec_lt}
use mathlib.Core.Path.{◌≡◌, refl, sym, ◌∙◌, ap, subst}
use mathlib.Core.Logic.{◌⊎◌, inl, inr}
use mathlib.Core.Bool.{Bool, true}
use mathlib.Core.List.{List, [], ◌∷◌, ◌++◌}
use lib.ListN.{length, get_or, get_or-append}
use Rattle.logs.specs.Count.{count}
use Rattle.logs.proofs.Count.{meet}
use Rattle.logs.specs.Log.{◌∈◌, ◌⊑◌, Each}
use Rattle.logs.proofs.Log.{⊑_trans, ⊑-cons, mem_up, place, each_at}
use Rattle.history.specs.Message.{Value, of, absent, View, value}
use Rattle.history.specs.Event.{Operation, Round, done, shown, spent, none}
use Rattle.history.specs.Trace.{Begun, nothing, updating, scanning, Fate, unfinished, ended, entry_at}
use Rattle.history.specs.Order.{OneTo, EndedBefore}
use Rattle.history.specs.Views.{HasView, end_view, Below, Comparable}
use Rattle.algorithm.specs.Algorithm.{newest, table, view_upto}
use Rattle.algorithm.proofs.Cert.{Log, Logs, Inside, Cert, below, same}
use Rattle.algorithm.proofs.Local.{Past, Settled, Due, Stage}
use Rattle.algorithm.proofs.Outcome.{Final, Done}
use Rattle.eqaso.proofs.Newest.{From, newest-from, newest-above}
use Rattle.eqaso.proofs.Closure.{shows, inside-below}
use Rattle.eqaso.proofs.Append.{get_d-last}
use Rattle.eqaso.proofs.Entries.{length-table}
use Rattle.eqaso.proofs.Book.{Book}
use Rattle.eqaso.proofs.Facts.{Place, Closed, Fit, Facts, TagDue, ViewDue, OwnDue}
use Rattle.eqaso.proofs.History.{Booked, Behind, Certified, Left, LeftIn}

table_at : {A : Type 0} (g : ℕ → A) (n w : ℕ) (d : A) → OneTo n w → get_or (table g n) (w - 1) d ≡ g w
unfolding table
table_at g zero w d h = absurd (omega arith)
table_at g (suc n) w d h = go (ℕ_discrete w (suc n)) (table_at g n w d)
  where
    size : length (table g n) ≡ n
    size = length-table g n

    go : Dec (w ≡ suc n) → (OneTo n w → get_or (table g n) (w - 1) d ≡ g w)
        → get_or (table g n ++ (g (suc n) ∷ [])) (w - 1) d ≡ g w
    go (yes e) ih = subst (λ z. get_or (table g n ++ (g (suc n) ∷ [])) z d ≡ g w) (omega (arith, size))
        (get_d-last (table g n) (g (suc n)) d ∙ ap g (sym e))
    go (no e) ih = get_or-append (table g n) (g (suc n) ∷ []) d (w - 1) (omega (arith, size))
        ∙ ih (h.0, omega arith)

-- What a view has of a node.
pub entry-is : (n T : ℕ) (A : List Value) (v : View) → v ≡ view_upto n T A → (w : ℕ) → OneTo n w
    → entry_at v w ≡ newest w T A
entry-is n T A v e w h = ap (λ z. entry_at z w) e ∙ table_at (λ w. newest w T A) n w absent h

pub inside-views : (n T U : ℕ) (A B : List Value) (v x : View) → v ≡ view_upto n T A → x ≡ view_upto n U B
    → Inside T A U B → Below n v x
inside-views n T U A B v x e d i w h = rw (entry-is n T A v e w h, entry-is n U B x d w h) (inside-below w T U i)

module _ (n f : ℕ) where
  -- An operation that ended with a view has left its certificate.
  pub certified-of : (lg : Logs) (b : Begun) (x : Fate) (s : ℕ) → Fit n b x s → HasView x → Left n f lg b x s
      → Certified n f lg (end_view x)
  certified-of lg nothing x s fit h l = absurd (subst HasView fit.0 h)
  certified-of lg (scanning c) (ended k spent) s fit h l = elim fit [ ]
  certified-of lg (scanning c) (ended k (done r v)) s fit h l = elim fit [ ]
  certified-of lg (scanning c) (ended k none) s fit h l = elim fit [ ]
  certified-of lg (scanning c) unfinished s fit h l = elim h [ ]
  certified-of lg (updating c p) (ended k spent) s fit h l = elim h [ ]
  certified-of lg (updating c p) (ended k (shown r v)) s fit h l = elim fit [ ]
  certified-of lg (updating c p) (ended k none) s fit h l = elim fit [ ]
  certified-of lg (updating c p) unfinished s fit h l = elim h [ ]
  certified-of lg (updating c p) (ended k (done r v)) s fit h l = l.0
  certified-of lg (scanning c) (ended k (shown r v)) s fit h l = l

  pub update-node : (b : Begun) (x : Fate) (s c p : ℕ) → b ≡ updating c p → Fit n b x s → OneTo n c
  update-node b x s c p e fit = go x (subst (λ z. Fit n z x s) e fit)
    where
      go : (x : Fate) → Fit n (updating c p) x s → OneTo n c
      go unfinished h = h
      go (ended k (shown _ _)) h = elim h [ ]
      go (ended k none) h = elim h [ ]
      go (ended k (done r v)) h = h.0
      go (ended k spent) h = h.0

  -- An update that ended is settled, or has no tag.
  pub settled-of : (lg : Logs) (b : Begun) (x : Fate) (s t d p : ℕ) → b ≡ updating d p → Fit n b x s → EndedBefore x t
      → Left n f lg b x s → (s ≡ 0) ⊎ Settled n f lg (of s d p)
  settled-of lg b x s t d p e fit h l = go x (subst (λ z. Fit n z x s) e fit) h (subst (λ z. Left n f lg z x s) e l)
    where
      go : (x : Fate) → Fit n (updating d p) x s → EndedBefore x t → Left n f lg (updating d p) x s
          → (s ≡ 0) ⊎ Settled n f lg (of s d p)
      go (ended k (shown _ _)) fit h l = elim fit [ ]
      go (ended k none) fit h l = elim fit [ ]
      go unfinished fit h l = elim h [ ]
      go (ended k (done r v)) fit h l = inr l.1
      go (ended k spent) fit h l = inl fit.1

  module _ (half : f + f < n) where
    pub comparable-views : {out : Logs} {v x : View} → Certified n f out v → Certified n f out x → Comparable n v x
    comparable-views {out} {v} {x} (T, (A, e, G)) (U, (B, d, H)) = go (dec_lt T U) (dec_lt U T)
      where
        equal : (T : ℕ) → v ≡ view_upto n T A → Cert n f out T A → x ≡ view_upto n T B → Cert n f out T B
            → Comparable n v x
        equal T e G d H = elim (same half G H) [
          | inl i ↦ inl (inside-views n T T A B v x e d i)
          | inr i ↦ inr (inside-views n T T B A x v d e i)
        ]

        go : Dec (T < U) → Dec (U < T) → Comparable n v x
        go (yes h) k = inl (inside-views n T U A B v x e d (below half h G H))
        go (no h) (yes k) = inr (inside-views n U T B A x v d e (below half k H G))
        go (no h) (no k) =
            let q : T ≡ U = omega arith in
            equal U (subst (λ z. v ≡ view_upto n z A) q e) (subst (λ z. Cert n f out z A) q G) d H

    -- All logs, of which those of standing nodes hold only values of the book.
    module _ {out : Logs} {B : Book} {now : ℕ} (F : Facts n now B) (dues : (k : ℕ) → Each (Due n f k out) (out k))
        (stands : ℕ → Bool) (many : n - f ≤ count stands n)
        (known : (k : ℕ) → OneTo n k → stands k ≡ true → (v : Value) → value v ∈ out k → Booked B v)
        (left : (a : ℕ) → LeftIn n f out B a)
        (behind : (u x c d p q : ℕ) → B.begun u ≡ updating c p → B.begun x ≡ updating d q → EndedBefore (B.fate u) x
        → 0 < B.tag u → 0 < B.tag x → Behind (of (B.tag u) c p) (of (B.tag x) d q) (out d)) where
      view_places : {T : ℕ} {A : List Value} {v : View} → v ≡ view_upto n T A → Cert n f out T A
          → (w : ℕ) → OneTo n w → Place B w (entry_at v w)
      view_places {T} {A} {v} e G w h = rw (entry-is n T A v e w h) (go (newest-from w T A))
        where
          go : From w T A (newest w T A) → Place B w (newest w T A)
          go (inl x) = inl x
          go (inr (x, m, is, low, d)) =
              let (k, lo, hi, y, z) = meet n f half G.Q stands G.Q-many many in
              let (u, b, t, pos) = known k (lo, hi) z x (mem_up (G.Q-in k y) (G.Q-has k x y m low)) in
              inr (
                u,
                x.report,
                b ∙ ap (λ c. updating c x.report) is,
                rw t pos,
                d ∙ (λ j. record { tag = sym t j; report = x.report }),
              )

      -- A view with the update x has every update whose value comes before each place of that of x in its writer's log.
      view-closed : {T : ℕ} {A : List Value} {v : View} → v ≡ view_upto n T A → Cert n f out T A → Closed B v
      view-closed {T} {A} {v} e G u x c d p q eu ex h pos has = elim (dec_lt 0 (B.tag u)) [
        | yes lt ↦ rw (entry-is n T A v e c (update-node (B.begun u) (B.fate u) (B.tag u) c p eu (F.fit u))) (go lt)
        | no lt ↦ omega arith
      ]
        where
          go : 0 < B.tag u → B.tag u ≤ (newest c T A).tag
          go lt =
              let vu = of (B.tag u) c p in
              let vx = of (B.tag x) d q in
              let (in-d, after) = behind u x c d p q eu ex h lt pos in
              let node = update-node (B.begun x) (B.fate x) (B.tag x) d q ex (F.fit x) in
              let (in-A, low) = (shows n f out dues half G {v = vx} in-d).1 (rw (entry-is n T A v e d node) at has) in
              let (k, lo, hi, y, z) = meet n f half G.Q G.Q G.Q-many G.Q-many in
              let (a, at) = place (G.Q-has k vx y in-A low) in
              let sent : value vu ∈ a = source k a (⊑_trans at (G.Q-in k y)) after in
              let rises = F.rises u x c d p q eu ex h pos in
              newest-above c T (G.Q-only k vu y (mem_up (⊑-cons at) sent) (omega arith)) refl (omega arith)
            where
              source : (k : ℕ) (a : Log) → (value (of (B.tag x) d q) ∷ a) ⊑ out k
                  → ((b : Log) → (value (of (B.tag x) d q) ∷ b) ⊑ out d → value (of (B.tag u) c p) ∈ b)
                  → value (of (B.tag u) c p) ∈ a
              source k a at after = by (each_at (Due n f k out) (dues k) at).source
                where
                  vx : Value
                  vx = of (B.tag x) d q

                  by : (d ≡ k) ⊎ ((b : Log) × ((value vx ∷ b) ⊑ out d) × ((y : Value) → value y ∈ b → value y ∈ a))
                      → value (of (B.tag u) c p) ∈ a
                  by (inl i) = after a (subst (λ z. (value vx ∷ a) ⊑ out z) (sym i) at)
                  by (inr (b, sub, pass)) = pass (of (B.tag u) c p) (after b sub)

      -- What is owed at an ending.
      pub view-due : {base : Logs} {t T : ℕ} {A : List Value} {v : View} → Final n f out base v T A
          → ((a : ℕ) → EndedBefore (B.fate a) t → LeftIn n f base B a) → ViewDue n B t v
      view-due {base} {t} {T} {A} {v} x prior = record {
        sized = ap length x.is ∙ length-table (λ w. newest w T A) n;
        chain = λ a h. comparable-views (certified-of out (B.begun a) (B.fate a) (B.tag a) (F.fit a) h (left a))
            (T, (A, x.is, x.cert));
        grows = λ a h view.
            let (U, (C, is, G)) = certified-of base (B.begun a) (B.fate a) (B.tag a) (F.fit a) view (prior a h) in
            inside-views n U T C A (end_view (B.fate a)) v is x.is (x.covers U C G);
        places = view_places x.is x.cert;
        closed = view-closed x.is x.cert;
      }

    -- What an update owes besides at its ending.
    pub own-due : {out base : Logs} {B : Book} {t c r p : ℕ} {v : View} → OneTo n c → B.tag t ≡ suc r
        → Done n f out base (of (suc r) c p) v → OwnDue B t c v
    own-due {out} {base} {B} {t} {c} {r} {p} {v} one e x = record {
      tagged = omega (arith, e);
      held = rw (entry-is n x.T x.A v x.final.is c one, e) (newest-above c x.T x.own refl x.low);
    }

    -- What an update owes when it gets its tag.
    pub tag-due : {out : Logs} {γ : Past} {i r : ℕ} {op : Operation} {l : Log} {rnd : Round} {u : ℕ} {B : Book}
        {now t : ℕ}
        → Facts n now B → Stage n f out γ i r op l rnd u
        → ((a : ℕ) → EndedBefore (B.fate a) t → LeftIn n f γ.base B a)
        → TagDue B t (suc r)
    tag-due {out} {γ} {i} {r} {op} {l} {rnd} {u} {B} {now} {t} F s prior = record {
      positive = omega arith;
      above = λ a d p e h. go (settled-of γ.base (B.begun a) (B.fate a) (B.tag a) t d p e (F.fit a) h
          (prior a h));
    }
      where
        go : {x : ℕ} {d p : ℕ} → (x ≡ 0) ⊎ Settled n f γ.base (of x d p) → x < suc r
        go (inl e) = omega arith
        go (inr x) =
            let (k, lo, hi, y, z) = meet n f half s.R x.who s.many x.many in
            let (e, le, m) = x.told k z in
            omega (arith, s.low k e y m)
