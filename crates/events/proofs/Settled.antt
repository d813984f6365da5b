-- The begin of an operation by the refusals that apply to it, and the end of every event that steps a node: what is
-- settled with 11 or without.
use Prim.Native.Nat.{ℕ, ◌+◌, ◌<◌}
use native.Mathlib.Omega.{arith}
use mathlib.Core.Path.{◌≡◌, refl, sym, ap, ◌∙◌}
use mathlib.Core.Bool.{Bool, true, false}
use mathlib.Core.List.{List}
use Rattle.octets.specs.Answer.{returned, refused}
use Rattle.octets.specs.Test.{pick}
use Rattle.view.specs.View.{no_view}
use Rattle.record.specs.Usable.{is_open, full}
use Rattle.record.specs.declared.Node.{Node}
use Rattle.record.specs.declared.Operation.{Operation}
use Rattle.step.specs.Move.{begun, begin_step}
use Rattle.step.specs.declared.Step.{Step}
use Rattle.step.specs.declared.Ending.TheVariants.{None}
use Rattle.step.proofs.Waits.{begin-asks}
use Rattle.layout.specs.Layout.{faults_in, node}
use Rattle.outgoing.specs.Outgoing.{is_cut, may_cut, has_room, released}
use Rattle.outgoing.specs.declared.Extent.{Extent}
use Rattle.events.specs.Event.{refuse, demand, commit, settle, open_in}
use Rattle.events.specs.Outcome.{Reply, answer_of, view_by, Tells}
use Rattle.events.proofs.Told.{gives}

module _ (n a c : ℕ) (x : Extent) (s : Step) (found b : List ℕ) where
  pub settle-full : has_room n a c x s.node s.outbox found ≡ false → settle n a c x s found b ≡ refuse 11 b
  unfolding settle
  settle-full h = rw h refl

  pub settle-commits : has_room n a c x s.node s.outbox found ≡ true
      → settle n a c x s found b ≡ commit n a c x s found
  unfolding settle
  settle-commits h = rw h refl

  -- what the code tells, by whether there was room (t), and the bytes z that it left
  pub settle-told : {t cut : Bool} {z : List ℕ} (r : Reply) → t ≡ has_room n a c x s.node s.outbox found
      → z ≡ pick t (released n a c x s.node s.outbox found) b → cut ≡ is_cut x
      → answer_of r ≡ pick t (returned (pick cut None s.ending)) (refused 11)
      → view_by r ≡ pick t (pick cut no_view s.view) no_view → Tells r z (settle n a c x s found b)
  unfolding settle
  settle-told {t} {cut} {z} r judged left e answer shown = rw (sym judged) (go t left answer shown)
    where
      go : (u : Bool) → z ≡ pick u (released n a c x s.node s.outbox found) b
          → answer_of r ≡ pick u (returned (pick cut None s.ending)) (refused 11)
          → view_by r ≡ pick u (pick cut no_view s.view) no_view
          → Tells r z (demand u 11 b (commit n a c x s found))
      go true q h v =
          gives r z {e = commit n a c x s found} refl
          (h ∙ ap (λ (y : Bool). returned (pick y None s.ending)) e)
          (v ∙ ap (λ (y : Bool). pick y no_view s.view) e) q
      go false q h v = gives r z {e = refuse 11 b} refl h v q

-- the begin of an operation at a node whose record is d
module _ (n c : ℕ) (o : Operation) (x : Extent) (b : List ℕ) (d : Node) (at : d ≡ node b c) where
  pub open-busy : is_open d.wait ≡ true → open_in n c o x b ≡ refuse 5 b
  open-busy h = rw (ap (λ (k : Node). is_open k.wait) (sym at) ∙ h) refl

  module _ (idle : is_open d.wait ≡ false) where
    is-idle : is_open (node b c).wait ≡ false
    is-idle = ap (λ (k : Node). is_open k.wait) (sym at) ∙ idle

    pub open_full : full d ≡ true → open_in n c o x b ≡ refuse 6 b
    open_full h = rw (is-idle, ap full (sym at) ∙ h) refl

    module _ (more : full d ≡ false) where
      pub open-uncut : may_cut n x b ≡ false → open_in n c o x b ≡ refuse 10 b
      open-uncut h = rw (is-idle, ap full (sym at) ∙ more, h) refl

      pub open-settles : may_cut n x b ≡ true → d.n ≡ n → faults_in b + faults_in b < n → {s : Step} → s ≡ begun d o
          → open_in n c o x b ≡ settle n c c x s b b
      open-settles h size half {s} q =
          let asks : begin_step (faults_in b) d o ≡ begun d o = begin-asks (faults_in b) d o (omega arith) in
          rw (is-idle, ap full (sym at) ∙ more, h)
          (ap (λ (t : Step). settle n c c x t b b)
          (sym (q ∙ sym asks ∙ ap (λ (y : Node). begin_step (faults_in b) y o) at)))
