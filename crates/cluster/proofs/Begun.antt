-- An operation begun at node c where its record lies, in bytes b, where 5 and 6 do not come up. What it sends, the read
-- y, is known before the step is done; t is the bytes when it is done.
use Prim.Native.Nat.{ℕ, ◌+◌, ◌-◌, ◌≤◌}
use native.Mathlib.Omega.{arith}
use mathlib.Core.Path.{◌≡◌, refl, sym, ap, ap₂, ◌∙◌, subst}
use mathlib.Core.Bool.{Bool, true, false}
use mathlib.Core.List.{List, [], ◌∷◌}
use lib.ListN.{length}
use borrow.Author.Tests.{ltb-false}
use Rattle.octets.specs.Bytes.{put}
use Rattle.octets.specs.Answer.{returned}
use Rattle.octets.proofs.Test.{true-false, pick_same}
use Rattle.view.specs.Size.{limit, nodes}
use Rattle.view.specs.View.{no_view}
use Rattle.wire.specs.declared.Message.TheVariants.{Read}
use Rattle.table.specs.Table.{cells}
use Rattle.record.specs.Usable.{is_open, full}
use Rattle.record.specs.declared.Node.{Node}
use Rattle.record.specs.declared.Operation.{Operation}
use Rattle.step.specs.Claims.{AllLawful}
use Rattle.step.specs.Forward.{is_forward}
use Rattle.step.specs.Move.{begun}
use Rattle.step.specs.Step.{listed, messages, started}
use Rattle.step.specs.declared.Ending.{Ending}
use Rattle.step.specs.declared.Ending.TheVariants.{None}
use Rattle.step.specs.declared.Sent.{Sent}
use Rattle.step.specs.declared.Sent.TheVariants.{One}
use Rattle.step.specs.declared.Step.{Step}
use Rattle.step.proofs.Theorems.{begin-lawful}
use Rattle.step.proofs.Waits.{begin-asks}
use Rattle.region.specs.Record.{record_size, record_bytes}
use Rattle.region.proofs.Back.{sized_of}
use Rattle.region.proofs.Saved.{length-record_bytes}
use Rattle.block.specs.Block.{record_in, keep_record}
use Rattle.step_bytes.proofs.Moved.{sized-begun}
use Rattle.layout.specs.Layout.{cluster_size, block, node, on_block}
use Rattle.outgoing.specs.Entries.{Entry, entries_of}
use Rattle.outgoing.specs.Forward.{ReceivedAt}
use Rattle.outgoing.specs.Outgoing.{shortened, is_cut, may_cut, halt_if, let_out, has_room, released}
use Rattle.outgoing.specs.declared.Extent.{Extent}
use Rattle.outgoing.proofs.Forwarded.{handled-entries}
use Rattle.events.specs.Event.{refuse, open_in}
use Rattle.events.specs.Outcome.{Reply, answer_of, view_by, Tells}
use Rattle.events.specs.Ready.{Ready}
use Rattle.events.proofs.Settled.{open-settles, settle-full, settle-told}
use Rattle.events.proofs.Told.{becomes}
use Rattle.cluster.specs.First.{record_at}
use Rattle.cluster.proofs.InPlace.{length-there, record-kept}

module _ (n c : ℕ) (o : Operation) (x : Extent) (b : List ℕ) (h : Ready n c c b)
    (idle : is_open (node b c).wait ≡ false) (more : full (node b c) ≡ false) where
  abbrev step : Step
  step = begun (node b c) o

  there : cluster_size c ≤ length b
  there = omega (arith, h.long, h.high)

  pub asks : (1 ≤ c) × (c ≤ nodes) × (cluster_size c ≤ length b) × ((node b c).request ≤ limit)
  asks = (
    h.low,
    omega (arith, h.high, h.small),
    there,
    omega (arith, ltb-false (limit - (node b c).request) 5 more),
  )

  heard : length step.node.heard ≡ cells
  heard = (sized-begun (node b c) o (sized_of (record_in (block b c)))).heard

  long : length (record_bytes step.node) ≡ record_size
  long = length-record_bytes step.node heard

  module _ (y : Sent) (q : y ≡ One (Read ((node b c).request + 1))) where
    pub lawful : AllLawful n no_view (listed y)
    unfolding begun
    lawful = subst (λ (s : Sent). AllLawful n no_view (listed s)) (sym q)
        (subst (λ (k : ℕ). AllLawful k no_view (Read ((node b c).request + 1) ∷ [])) h.same
        (subst (λ (s : Step). AllLawful (node b c).n s.outbox.view (messages s.outbox))
        (begin-asks 0 (node b c) o (omega (arith, h.same, h.low, h.high))) (begin-lawful 0 (node b c) o h.can-step
        idle more)))

    -- it forwards nothing
    pub received : (t : List ℕ) → ReceivedAt n c c no_view y t 0
    received t k = true-false (is_forward y) k (ap is_forward q)

    -- the test of 11, which holds of any record, is that of the step
    module _ (r : Bool) (judged : (d : Node) → length d.heard ≡ cells
        → r ≡ has_room n c c x d (started d c y).outbox b) where
      room : r ≡ has_room n c c x step.node step.outbox b
      unfolding begun
      room = judged step.node heard
          ∙ ap (λ (s : Sent). has_room n c c x step.node (started step.node c s).outbox b) q

      pub opens_not : may_cut n x b ≡ true → r ≡ false → open_in n c o x b ≡ refuse 11 b
      opens_not cut e = open-settles n c o x b (node b c) refl idle more cut h.same h.half refl
          ∙ settle-full n c c x step b b (sym room ∙ e)

      module _ (t : List ℕ) (e : t ≡ put b (record_at c) (record_bytes step.node)) where
        pub t-long : length t ≡ cluster_size n
        t-long = ap (λ (u : List ℕ). length u) e ∙ length-there b c h.low there (record_bytes step.node) long
            ∙ h.long

        t-kept : t ≡ on_block c (keep_record step.node) b
        t-kept = e ∙ record-kept b c h.low there step.node heard

        t-released : {z : List ℕ}
            → z ≡ let_out n c (shortened x (entries_of n c no_view (listed y))) (halt_if (is_cut x) n c t)
            → z ≡ released n c c x step.node step.outbox b
        unfolding begun
        t-released k = k ∙ ap₂ (λ (l : List Entry) (u : List ℕ). let_out n c (shortened x l) (halt_if (is_cut x) n c u))
            (sym (handled-entries n c c no_view y) ∙ ap (λ (s : Sent). entries_of n c no_view (messages (started
            step.node c s).outbox)) q) t-kept

        pub opens : may_cut n x b ≡ true → r ≡ true → (p : Reply) {z : List ℕ}
            → z ≡ let_out n c (shortened x (entries_of n c no_view (listed y))) (halt_if (is_cut x) n c t)
            → answer_of p ≡ returned None → view_by p ≡ no_view → Tells p z (open_in n c o x b)
        unfolding begun
        opens cut fits p {z} k answer shown = becomes p z
            (open-settles n c o x b (node b c) refl idle more cut h.same h.half refl)
            (settle-told n c c x step b b p (sym fits ∙ room) (t-released k) refl
            (answer ∙ ap (λ (u : Ending). returned u) (sym (pick_same (is_cut x) None)))
            (shown ∙ sym (pick_same (is_cut x) no_view)))
