-- The operations of a trace as items of a line: a scan holds an update if its view has of that node the update's tag or
-- a later one. What ended before another began precedes it.
use Prim.Native.Nat.{ℕ, ◌≤◌, ◌<◌}
use native.Mathlib.Decide.{ℕ_discrete, dec_le}
use native.Mathlib.Omega.{arith}
use mathlib.Core.Path.{◌≡◌, refl, sym, ap, subst}
use mathlib.Core.Logic.{inl, inr}
use mathlib.Core.List.{List}
use lib.ListN.{length}
use Rattle.logs.specs.Log.{◌∈◌}
use Rattle.order.specs.Line.{Kind, update, scan, Items, May, Sound}
use Rattle.order.proofs.Select.{select, select-from, select-to, select-once}
use Rattle.order.proofs.Total.{total, total_mono, total-tight}
use Rattle.history.specs.Message.{View}
use Rattle.history.specs.Event.{done, shown, spent, none}
use Rattle.history.specs.Trace.{Trace, Begun, nothing, updating, scanning, begun, Fate, unfinished, ended, fate}
use Rattle.history.specs.Trace.{scan_view, entry_at}
use Rattle.history.specs.Order.{OneTo, Finished, IsScan, PlacedBy, Placed, EndedBefore}
use Rattle.history.specs.Views.{HasView, end_view}
use Rattle.eqaso.proofs.Book.{tag_of, plain}
use Rattle.eqaso.proofs.Facts.{Fit, Between, Facts}
use Rattle.eqaso.proofs.Decide.{placed?, placed-before}

abbrev pub kind_of : Begun → Kind
kind_of nothing = update
kind_of (updating c p) = update
kind_of (scanning c) = scan

abbrev IsScanKind : Kind → Type 0
IsScanKind update = ⊥
IsScanKind scan = Unit {0}

abbrev end_of : Fate → ℕ
end_of unfinished = 0
end_of (ended k e) = k

-- An update ranks by its tag, a scan by its end.
abbrev rank_by : Begun → Fate → ℕ → ℕ
rank_by nothing x s = s
rank_by (updating c p) x s = s
rank_by (scanning c) x s = end_of x

abbrev HoldsBy : View → Begun → ℕ → Type 0
HoldsBy v nothing s = ⊥
HoldsBy v (updating c p) s = s ≤ (entry_at v c).tag
HoldsBy v (scanning c) s = ⊥

pub holds-by? : (v : View) (b : Begun) (s : ℕ) → Dec (HoldsBy v b s)
holds-by? v nothing s = no λ h. h
holds-by? v (updating c p) s = dec_le s (entry_at v c).tag
holds-by? v (scanning c) s = no λ h. h

-- An update that ended before something began ended with a view that has it.
pub own_view : (n : ℕ) (x : Fate) (c p s t : ℕ) → Fit n (updating c p) x s → 0 < s → EndedBefore x t
    → HasView x × (s ≤ (entry_at (end_view x) c).tag)
own_view n (ended k (shown _ _)) c p s t g pos h = elim g [ ]
own_view n (ended k none) c p s t g pos h = elim g [ ]
own_view n unfinished c p s t g pos h = elim h [ ]
own_view n (ended k (done r v)) c p s t g pos h = (tt, g.2)
own_view n (ended k spent) c p s t g pos h = absurd (omega (arith, g.1, pos))

module _ (n : ℕ) (tr : Trace) (F : Facts n (length tr) (plain tr)) where
  abbrev pub view : ℕ → View
  view t = end_view (fate tr t)

  abbrev pub tag : ℕ → ℕ
  tag t = tag_of tr t (begun tr t)

  abbrev pub Holds : ℕ → ℕ → Type 0
  Holds s u = HoldsBy (view s) (begun tr u) (tag u)

  -- A placed operation that is no scan is an update with a tag.
  pub record Update (t : ℕ) : Type 0 where
    pub node : ℕ
    pub report : ℕ
    pub is : begun tr t ≡ updating node report
    pub one : OneTo n node
    pub tagged : 0 < tag t

  update-by : (t : ℕ) (b : Begun) (x : Fate) → PlacedBy tr t b x → Fit n b x (tag_of tr t b) → kind_of b ≡ update
      → (c : ℕ) × (p : ℕ) × (b ≡ updating c p) × OneTo n c × (0 < tag_of tr t b)
  update-by t (scanning c) x h g k = absurd (subst IsScanKind k tt)
  update-by t (updating c p) unfinished h g k = (c, p, refl, g, h.1.tagged)
  update-by t (updating c p) (ended i (done r v)) h g k = (c, p, refl, g.0, g.1)
  update-by t (updating c p) (ended i spent) h g k = absurd h
  update-by t _ _ h g k = elim h [ ]

  -- A placed scan ended with its view.
  pub record Scan (t : ℕ) : Type 0 where
    pub is : IsScan (begun tr t)
    pub finished : Finished (fate tr t)
    pub viewed : HasView (fate tr t)
    pub same : end_view (fate tr t) ≡ scan_view (fate tr t)

  scan-by : (t : ℕ) (b : Begun) (x : Fate) → PlacedBy tr t b x → Fit n b x (tag_of tr t b) → kind_of b ≡ scan
      → IsScan b × Finished x × HasView x × (end_view x ≡ scan_view x)
  scan-by t (scanning c) (ended i spent) h g k = elim g [ ]
  scan-by t (scanning c) (ended i (done _ _)) h g k = elim g [ ]
  scan-by t (scanning c) (ended i none) h g k = elim g [ ]
  scan-by t (scanning c) unfinished h g k = elim h [ ]
  scan-by t nothing x h g k = elim h [ ]
  scan-by t (updating c p) x h g k = absurd (subst IsScanKind (sym k) tt)
  scan-by t (scanning c) (ended i (shown r v)) h g k = (tt, tt, tt, refl)

  pub update-at : (t : ℕ) → Placed tr t → kind_of (begun tr t) ≡ update → Update t
  update-at t h k = let (c, p, is, one, pos) = update-by t (begun tr t) (fate tr t) h (F.fit t) k in
      record { node = c; report = p; is = is; one = one; tagged = pos }

  pub scan-at : (t : ℕ) → Placed tr t → kind_of (begun tr t) ≡ scan → Scan t
  scan-at t h k = let (is, end, viewed, same) = scan-by t (begun tr t) (fate tr t) h (F.fit t) k in
      record { is = is; finished = end; viewed = viewed; same = same }

  abbrev pub all : List ℕ
  all = select (placed? tr) (length tr)

  pub placed_of : (t : ℕ) → t ∈ all → Placed tr t
  placed_of t i = (select-from (placed? tr) (length tr) i).1

  pub all_of : (t : ℕ) → Placed tr t → t ∈ all
  all_of t h = select-to (placed? tr) (length tr) (placed-before tr t h) h

  -- What it is for a view to hold an update of node c.
  pub holds-to : (s u c p : ℕ) → begun tr u ≡ updating c p → tag u ≤ (entry_at (view s) c).tag → Holds s u
  holds-to s u c p e h = subst (λ b. HoldsBy (view s) b (tag u)) (sym e) h

  pub holds_of : (s u c p : ℕ) → begun tr u ≡ updating c p → Holds s u → tag u ≤ (entry_at (view s) c).tag
  holds_of s u c p e h = subst (λ b. HoldsBy (view s) b (tag u)) e h

  abbrev size : ℕ → ℕ
  size t = total (λ w. (entry_at (view t) w).tag) n

  pub chain : (s t u : ℕ) → s ∈ all → t ∈ all → u ∈ all → kind_of (begun tr s) ≡ scan → kind_of (begun tr t) ≡ scan
      → kind_of (begun tr u) ≡ update → size s ≤ size t → Holds s u → Holds t u
  chain s t u i j k ks kt ku le h =
      let a = scan-at s (placed_of s i) ks in
      let b = scan-at t (placed_of t j) kt in
      let x = update-at u (placed_of u k) ku in
      let low = holds_of s u x.node x.report x.is h in
      holds-to t u x.node x.report x.is (elim (F.chain s t a.viewed b.viewed) [
        | inl up ↦ omega (arith, low, up x.node x.one)
        | inr down ↦ omega (
          arith,
          low,
          total-tight (λ w. (entry_at (view t) w).tag) (λ w. (entry_at (view s) w).tag) n
              (λ w lo hi. down w (lo, hi)) le x.node x.one.0 x.one.1,
        )
      ])

  abbrev pub items : Items ℕ
  items = record {
    same = ℕ_discrete;
    all = all;
    once = select-once (placed? tr) (length tr);
    kind = λ t. kind_of (begun tr t);
    size = size;
    rank = λ t. rank_by (begun tr t) (fate tr t) (tag t);
    Holds = Holds;
    holds = λ s u. holds-by? (view s) (begun tr u) (tag u);
    chain = chain;
  }

  -- What ended before another began precedes it. Operations of one node are among these.
  abbrev pub Precedes : ℕ → ℕ → Type 0
  Precedes a b = EndedBefore (fate tr a) b

  rank-update : (t c p : ℕ) → begun tr t ≡ updating c p → items.rank t ≡ tag t
  rank-update t c p e = ap (λ b. rank_by b (fate tr t) (tag t)) e

  may-uu : (a b : ℕ) → Update a → Update b → Precedes a b → May items update update a b
  may-uu a b u x before =
      let rise = F.rises a b u.node x.node u.report x.report u.is x.is before x.tagged in (
        omega (arith, rise, rank-update a u.node u.report u.is, rank-update b x.node x.report x.is),
        λ s m ks h. holds-to s a u.node u.report u.is
            (F.closed s (scan-at s (placed_of s m) ks).viewed a b u.node x.node u.report x.report
            u.is x.is
            before x.tagged (holds_of s b x.node x.report x.is h)),
      )

  may-us : (a b : ℕ) → Update a → Scan b → Precedes a b → May items update scan a b
  may-us a b u s before =
      let (viewed, own) = own_view n (fate tr a) u.node u.report (tag a) b
      (subst (λ d. Fit n d (fate tr a) (tag a)) u.is (F.fit a)) u.tagged before in
      holds-to b a u.node u.report u.is
      (omega (arith, own, F.grows a b before viewed s.viewed u.node u.one))

  may-su : (a b : ℕ) → Scan a → Update b → Precedes a b → May items scan update a b
  may-su a b s u before h =
      omega (
        arith,
        F.unseen a b u.node u.report u.is before s.viewed u.tagged,
        holds_of a b u.node u.report u.is h,
      )

  rank-scan : (b : Begun) (x : Fate) (s : ℕ) → IsScan b → rank_by b x s ≡ end_of x
  rank-scan (updating node report) x s h = elim h [ ]
  rank-scan nothing x s h = elim h [ ]
  rank-scan (scanning c) x s h = refl

  end_before : (x : Fate) (t : ℕ) → EndedBefore x t → end_of x < t
  end_before unfinished t h = elim h [ ]
  end_before (ended k e) t h = h

  end_after : (x : Fate) (t now : ℕ) → Finished x → Between t now x → t < end_of x
  end_after unfinished t now f h = elim f [ ]
  end_after (ended k e) t now f h = h.0

  may-ss : (a b : ℕ) → Scan a → Scan b → Precedes a b → May items scan scan a b
  may-ss a b s x before =
      let up = F.grows a b before s.viewed x.viewed in (
        total_mono (λ w. (entry_at (view a) w).tag) (λ w. (entry_at (view b) w).tag) n (λ w lo hi. up w (lo, hi)),
        omega (
          arith,
          rank-scan (begun tr a) (fate tr a) (tag a) s.is,
          rank-scan (begun tr b) (fate tr b) (tag b) x.is,
          end_before (fate tr a) b before,
          end_after (fate tr b) b (length tr) x.finished (F.between b),
        ),
      )

  may : (k l : Kind) (a b : ℕ) → Placed tr a → Placed tr b → kind_of (begun tr a) ≡ k → kind_of (begun tr b) ≡ l
      → Precedes a b → May items k l a b
  may update update a b i j ka kb h = may-uu a b (update-at a i ka) (update-at b j kb) h
  may update scan a b i j ka kb h = may-us a b (update-at a i ka) (scan-at b j kb) h
  may scan update a b i j ka kb h = may-su a b (scan-at a i ka) (update-at b j kb) h
  may scan scan a b i j ka kb h = may-ss a b (scan-at a i ka) (scan-at b j kb) h

  pub sound : Sound items Precedes
  sound a b i j h = may (kind_of (begun tr a)) (kind_of (begun tr b)) a b (placed_of a i) (placed_of b j) refl refl h
