-- A record with another wait in its bytes, and the steps that the rounds lead to, case by case.
use Prim.Native.Nat.{ℕ, ◌+◌}
use mathlib.Core.Path.{◌≡◌, refl, sym, ap, ap₂, ◌∙◌}
use mathlib.Core.Bool.{true, false}
use mathlib.Core.List.{List}
use native.Mathlib.Omega.{arith}
use lib.ListN.{length, replicate}
use lib.Dec.{eqb, ltb, leb}
use Rattle.octets.specs.Bytes.{Bytes, put}
use Rattle.octets.specs.Loop.{join}
use Rattle.view.specs.Size.{limit, nodes, view_size}
use Rattle.view.specs.View.{view_bytes, no_view, first_of}
use Rattle.view.specs.declared.Report.{Report}
use Rattle.view.specs.declared.View.{View}
use Rattle.wire.specs.declared.Message.TheVariants.{Value, Good}
use Rattle.record.specs.Record.{set_wait, closed}
use Rattle.record.specs.declared.Node.{Node}
use Rattle.record.specs.declared.Kind.{Kind}
use Rattle.record.specs.declared.Kind.TheVariants.{Update as UpdateKind, Scan as ScanKind}
use Rattle.record.specs.declared.Operation.TheVariants.{Update, Scan}
use Rattle.record.specs.declared.Wait.{Wait}
use Rattle.record.specs.declared.Wait.TheVariants.{Idle, Borrowing}
use Rattle.step.specs.declared.Sent.{Sent}
use Rattle.step.specs.declared.Sent.TheVariants.{Nothing, One, Two}
use Rattle.step.specs.declared.Ending.TheVariants.{None, Spent}
use Rattle.step.specs.declared.Rule.TheVariants.{Direct, Borrowed}
use Rattle.step.specs.declared.Step.{Step}
use Rattle.step.specs.Step.{started, ending_of}
use Rattle.step.specs.Move.{opened, writing, next_tag, held_view, lent_view, after_read, after_good, after_failed}
use Rattle.step.specs.Move.{borrow_pass}
use Rattle.step.specs.Move.{borrows}
use Rattle.region.specs.Record.{record_size, view_in, record_of, record_bytes, n_place, atround_in, view_place, head_of}
use Rattle.region.specs.Record.{head_bytes, with_request, with_wait}
use Rattle.region.specs.declared.head.Head.{Head}
use Rattle.react_bytes.proofs.Sections.{tables-of, view-put, assembled}
use Rattle.step_bytes.specs.declared.Effect.{Effect}
use Rattle.step_bytes.specs.Moved.{effect_of, rested_of, effect, IsStep}

-- The step of a record and an effect.
abbrev pub step_of : Node → Effect → Step
step_of c e = record { node = c; outbox = e.outbox; ending = e.ending; view = e.view }

-- the bytes after the reports of the round are written, then the head with the next request number
pub turned-bytes : (r : List ℕ) → Bytes r → length r ≡ record_size → (next : ℕ → ℕ) (w : Wait) (v : View) {h g : Head}
    {x y : List ℕ} → h ≡ head_of r → x ≡ put r (view_place atround_in) (view_bytes nodes v)
    → g ≡ with_wait (with_request h (next h.request)) w → y ≡ put x n_place (head_bytes g)
    → y ≡ record_bytes (set_wait (record_of r) (next (record_of r).request) w v)
unfolding record_of
turned-bytes r b l next w v d e q p =
    p ∙ ap₂ (λ (g : Head) (x : List ℕ). put x n_place (head_bytes g))
    (q ∙ ap (λ (h : Head). with_wait (with_request h (next h.request)) w) d) e
    ∙ assembled (set_wait (record_of r) (next (record_of r).request) w v)
    (view-put (tables-of r b l) atround_in (omega arith) v)

-- the places of a view that are given out: as many as the record has nodes
pub places_of : (r : List ℕ) (i : ℕ) {n : ℕ} → (record_of r).n ≡ n
    → first_of n (view_in r i) ≡ first_of (record_of r).n (view_in r i)
places_of r i e = ap (λ (m : ℕ). first_of m (view_in r i)) (sym e)

-- a view of zeros is absent
pub zeros : (r : List ℕ) → length r ≡ view_size nodes → replicate (length r) 0 ≡ view_bytes nodes no_view
unfolding view_bytes join
zeros r e = ap (λ (n : ℕ). replicate n 0) e

-- an effect and the bytes of a record, where the step is theirs
pub is-step : {e x : Effect} {r : List ℕ} {d : Node} {s : Step} → s ≡ step_of d x → e ≡ x → r ≡ record_bytes d
    → IsStep e r s
is-step q a b = (a ∙ ap (λ (t : Step). effect t) (sym q), b ∙ ap (λ (t : Step). record_bytes t.node) (sym q))

-- ---- the steps after `sent` went to node `to`

module _ (c : Node) (to : ℕ) (sent : Sent) where
  pub read-spent : (p : Report) (t : ℕ) → eqb t limit ≡ true
      → after_read (started c to sent) c (Update p) t
      ≡ step_of (closed c Idle) (effect_of to sent Nothing Nothing no_view Spent no_view)
  unfolding after_read
  read-spent p t e = rw e refl

  pub read-update : (p : Report) (t : ℕ) → eqb t limit ≡ false
      → after_read (started c to sent) c (Update p) t ≡ step_of (opened c UpdateKind 0 t)
      (effect_of to sent (Two (Value (t + 1) c.own p) (writing c t)) Nothing no_view None no_view)
  unfolding after_read
  read-update p t e = rw e refl

  pub read-scan : (t : ℕ) → after_read (started c to sent) c Scan t
      ≡ step_of (opened c ScanKind 1 t) (effect_of to sent (One (writing c t)) Nothing no_view None no_view)
  unfolding after_read
  read-scan t = refl

  module _ (k : Kind) (i t : ℕ) where
    pub good-open : eqb i 0 ≡ true → after_good (started c to sent) c k i t
        ≡ step_of (opened c k 1 (next_tag c.maxtag 0 t))
        (effect_of to sent Nothing (Two (Good t) (writing c (next_tag c.maxtag 0 t))) (held_view c) None no_view)
    unfolding after_good
    good-open e = rw e refl

    pub good-end : eqb i 0 ≡ false → after_good (started c to sent) c k i t ≡ step_of (closed c Idle)
        (effect_of to sent Nothing (One (Good t)) (held_view c) (ending_of k (Direct i)) (held_view c))
    unfolding after_good
    good-end e = rw e refl

    pub failed-open : ltb i 3 ≡ true
        → borrows (after_failed (started c to sent) c k i t) ≡ step_of (opened c k (i + 1) (next_tag c.maxtag i t))
        (effect_of to sent Nothing (One (writing c (next_tag c.maxtag i t))) no_view None no_view)
    unfolding after_failed borrow_pass opened
    failed-open e = rw e refl

    pub failed-lend : ltb i 3 ≡ false → leb t c.kept ≡ true
        → borrows (after_failed (started c to sent) c k i t)
        ≡ step_of (closed c Idle) (effect_of to sent Nothing Nothing no_view (ending_of k Borrowed) (lent_view c))
    unfolding after_failed borrow_pass
    failed-lend e q = rw (e, q) refl

    pub failed-wait : ltb i 3 ≡ false → leb t c.kept ≡ false
        → borrows (after_failed (started c to sent) c k i t)
        ≡ step_of (closed c (Borrowing k t)) (rested_of to sent)
    unfolding after_failed borrow_pass
    failed-wait e q = rw (e, q) refl
