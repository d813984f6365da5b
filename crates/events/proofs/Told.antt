-- What the answer of an event says, and what fresh does by the refusals that apply to it.
use Prim.Native.Nat.{ℕ, ◌+◌}
use native.Mathlib.Omega.{arith}
use mathlib.Core.Path.{◌≡◌, refl, sym, ap, ap₂, subst, ◌∙◌}
use mathlib.Core.Bool.{true, false}
use mathlib.Core.List.{List, []}
use lib.ListN.{length, set, replicate, length-set}
use borrow.Author.Tests.{eq-eqb, ne_eqb}
use Rattle.std.specs.Prelude.{Err}
use Rattle.octets.specs.Answer.{returned}
use Rattle.refusal.specs.Refusal.{number}
use Rattle.refusal.specs.declared.Refusal.{Refusal}
use Rattle.refusal.specs.declared.Refusal.TheVariants.{Size, Unusable, Node, Stopped, Open, Requests, Layout}
use Rattle.refusal.specs.declared.Refusal.TheVariants.{Empty, Value}
use Rattle.refusal.specs.declared.Refusal.TheVariants.{Stops, Full, Length, Frame, Page}
use Rattle.octets.specs.Loop.{up_to}
use Rattle.view.specs.View.{no_view}
use Rattle.table.specs.Quorum.{can_be}
use Rattle.record.specs.Record.{blank}
use Rattle.step.specs.Told.{told}
use Rattle.step.specs.declared.Ending.TheVariants.{None}
use Rattle.block.specs.Block.{keep_record}
use Rattle.layout.specs.Layout.{cluster_size, stated_place, faults_place, on_block}
use Rattle.events.specs.Event.{Result, refuse, fresh_bytes, fresh}
use Rattle.events.specs.Outcome.{Reply, answer_of, view_by, Tells}

-- the same event in another form
pub becomes : (r : Reply) (b : List ℕ) {e f : Result} → e ≡ f → Tells r b f → Tells r b e
becomes r b p t = subst (Tells r b) (sym p) t

-- what is told follows from the answer and the view
pub gives : (r : Reply) (b : List ℕ) {e f : Result} → e ≡ f → answer_of r ≡ f.answer → view_by r ≡ f.view
    → b ≡ f.bytes → Tells r b e
gives r b p a v z = becomes r b p (ap₂ told a v, a, v, z)

-- a refusal that left the bytes as they were
pub refuses : (k : Refusal) {b : List ℕ} {e : Result} → e ≡ refuse (number k) b → Tells (Err k) b e
refuses k {b} p = gives (Err k) b p refl refl refl

-- no refusal has the number 0
pub number-some : (k : Refusal) → number k ≡ 0 → ⊥
number-some Size e = absurd (omega arith)
number-some Unusable e = absurd (omega arith)
number-some Node e = absurd (omega arith)
number-some Stopped e = absurd (omega arith)
number-some Open e = absurd (omega arith)
number-some Requests e = absurd (omega arith)
number-some Layout e = absurd (omega arith)
number-some Empty e = absurd (omega arith)
number-some Value e = absurd (omega arith)
number-some Stops e = absurd (omega arith)
number-some Full e = absurd (omega arith)
number-some Length e = absurd (omega arith)
number-some Frame e = absurd (omega arith)
number-some Page e = absurd (omega arith)

module _ (n f : ℕ) (b : List ℕ) where
  pub fresh-none : can_be n f ≡ false → fresh n f b ≡ refuse 1 b
  unfolding fresh
  fresh-none h = rw h refl

  module _ (h : can_be n f ≡ true) where
    pub fresh-unfit : (length b ≡ cluster_size n → ⊥) → fresh n f b ≡ refuse 12 b
    unfolding fresh
    fresh-unfit l = rw (h, ne_eqb (length b) (cluster_size n) l) refl

    pub fresh-is : length b ≡ cluster_size n
        → fresh n f b ≡ record { bytes = fresh_bytes n f (length b); answer = returned None; view = no_view; sent = [] }
    unfolding fresh
    fresh-is l = rw (h, eq-eqb (length b) (cluster_size n) l) refl

  abbrev started : List ℕ → List ℕ
  started z = set (set z stated_place n) faults_place f

  pub started-length : (z : List ℕ) → length (started z) ≡ length z
  started-length z = length-set (set z stated_place n) faults_place f ∙ length-set z stated_place n

  -- zeros, then n and f, then a fresh record in every block
  pub fresh-bytes : {z y : List ℕ} → z ≡ replicate (length b) 0
      → y ≡ up_to n (λ i. on_block (i + 1) (keep_record (blank n f (i + 1)))) (started z) → y ≡ fresh_bytes n f
      (length b)
  unfolding fresh_bytes
  fresh-bytes e q =
      q ∙ ap (λ (t : List ℕ). up_to n (λ i. on_block (i + 1) (keep_record (blank n f (i + 1)))) (started t)) e
