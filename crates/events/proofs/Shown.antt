-- The view beside the answer of an event has nothing past the n stated: the claims of specs/Shown.
use Prim.Native.Nat.{ℕ, ◌≤◌}
use mathlib.Core.Path.{◌≡◌, refl, sym, subst}
use mathlib.Core.Bool.{Bool, true, not}
use mathlib.Core.List.{List}
use lib.Dec.{ltb, eqb}
use Rattle.octets.specs.Answer.{Answer, returned, refused}
use Rattle.octets.specs.Test.{both}
use Rattle.octets.proofs.Test.{both_right}
use Rattle.view.specs.Size.{nodes}
use Rattle.view.specs.View.{no_view, view_of, AbsentPast}
use Rattle.view.specs.declared.View.{View}
use Rattle.view.proofs.First.{none-absent}
use Rattle.wire.specs.Codec.{front, view_at}
use Rattle.wire.specs.declared.Message.{Message}
use Rattle.record.specs.Usable.{is_open, full}
use Rattle.step.specs.Move.{message_step, begin_step}
use Rattle.step.specs.Stale.{stale_message}
use Rattle.step.specs.declared.Step.{Step}
use Rattle.step.proofs.Numbers.{on-pick}
use Rattle.step.proofs.Theorems as step
use Rattle.region.specs.Channel.{count_of, first}
use Rattle.block.specs.Block.{take_off}
use Rattle.layout.specs.Layout.{stated, faults_in, stopped, node, channel, on_block, fits, sound, is_node}
use Rattle.outgoing.specs.Outgoing.{is_cut, may_stop, may_cut, has_room}
use Rattle.layout.proofs.Check.{sound-n}
use Rattle.outgoing.specs.declared.Extent.{Extent}
use Rattle.events.specs.Event.{Result, refuse, demand, admission, admitted, settle}
use Rattle.events.specs.Event.{open_in, begin, deliver_message, deliver_in, deliver}
use Rattle.events.specs.Stop.{stop}
use Rattle.events.specs.Shown as claim
use Rattle.events.proofs.Admitted.{admitted-is}

module _ (n : ℕ) (h : n ≤ nodes) where
  abbrev Shows : Result → Type 0
  Shows r = AbsentPast n r.view

  -- a refusal shows nothing
  asked : (t : Bool) (k : ℕ) (b : List ℕ) (next : Result) → (t ≡ true → Shows next) → Shows (demand t k b next)
  asked t k b next g = on-pick Shows t next (refuse k b) g (λ e. none-absent n h)

  -- a step shows its own view, and a cut none
  settled : (a c : ℕ) (x : Extent) (s : Step) (found b : List ℕ) → AbsentPast n s.view
      → Shows (settle n a c x s found b)
  unfolding settle
  settled a c x s found b k =
      asked (has_room n a c x s.node s.outbox found) 11 b _
      (λ e. on-pick (AbsentPast n) (is_cut x) no_view s.view (λ e. none-absent n h) (λ e. k))

-- a record of sound bytes has the n that they state
of_node : (b : List ℕ) → sound b ≡ true → (c : ℕ) → is_node (stated b) c ≡ true → stated b ≤ nodes → (v : View)
    → ((node b c).n ≤ nodes → AbsentPast (node b c).n v) → AbsentPast (stated b) v
of_node b s c i h v k =
    let e : (node b c).n ≡ stated b = sound-n b s c i in
    subst (λ (m : ℕ). AbsentPast m v) e (k (rw e h))

-- an admitted event shows what its own part does
admits : (a c : ℕ) (b : List ℕ) (next : Result) → (h : stated b ≤ nodes)
    → (sound b ≡ true → is_node (stated b) c ≡ true → AbsentPast (stated b) next.view)
    → AbsentPast (stated b) (admitted a c b next).view
admits a c b next h g =
    let n = stated b in
    subst (λ (r : Result). AbsentPast n r.view) (sym (admitted-is a c b next))
    (asked n h (fits b) 12 b _ (λ f.
    asked n h (sound b) 2 b _ (λ s.
    asked n h (both (is_node n a) (is_node n c)) 3 b _ (λ i.
    asked n h (not (stopped b c)) 4 b _ (λ u. g s (both_right (is_node n a) (is_node n c) i))))))

pub begin-absent : claim.BeginAbsent
unfolding begin
begin-absent c o x b h =
    let n = stated b in
    admits c c b (open_in n c o x b) h (λ s i.
    asked n h (not (is_open (node b c).wait)) 5 b _ (λ e.
    asked n h (not (full (node b c))) 6 b _ (λ e.
    asked n h (may_cut n x b) 10 b _ (λ e.
    settled n h c c x (begin_step (faults_in b) (node b c) o) b b
    (of_node b s c i h _ (step.begin-absent (faults_in b) (node b c) o))))))

-- what waits is read, or refused
handed : (a c : ℕ) (x : Extent) (b : List ℕ) → stated b ≤ nodes → sound b ≡ true → is_node (stated b) c ≡ true
    → (s : List ℕ) (p : Answer (Message × ℕ)) → AbsentPast (stated b) (deliver_message (stated b) a c x b s p).view
handed a c x b h q i s (refused k) = none-absent (stated b) h
handed a c x b h q i s (returned p) =
    let n = stated b in
    let v = view_of n (view_at n s) in
    asked n h (not (stale_message (node b c) a p.0)) 9 b _ (λ e.
    asked n h (may_cut n x b) 10 b _ (λ e.
    settled n h a c x (message_step (faults_in b) (node b c) a p.0 v) (on_block c (take_off a) b) b
    (of_node b q c i h _ (step.message-absent (faults_in b) (node b c) a p.0 v))))

pub deliver-absent : claim.DeliverAbsent
unfolding deliver
deliver-absent a c x b h =
    let n = stated b in
    admits a c b (deliver_in n a c x b) h (λ s i.
    asked n h (ltb 0 (count_of (channel b a c))) 8 b _ (λ e.
    handed a c x b h s i (first (channel b a c)) (front n (first (channel b a c)))))

-- a refusal shows nothing, and a stop neither
abbrev ShowsNone : Result → Type 0
ShowsNone r = r.view ≡ no_view

pub stop-absent : claim.StopAbsent
unfolding stop
stop-absent c b =
    on-pick ShowsNone (eqb (admission c c b) 0) _ _ (λ e.
    on-pick ShowsNone (may_stop (stated b) b) _ _ (λ e. refl) (λ e. refl)) (λ e. refl)
