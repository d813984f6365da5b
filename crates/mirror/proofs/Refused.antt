-- A refused event does nothing: as the events are defined, only a refusal answers with one.
use Prim.Native.Nat.{ℕ}
use lib.Dec.{ltb, eqb}
use mathlib.Core.Path.{◌≡◌, ap, subst}
use mathlib.Core.Bool.{Bool, true, false, not}
use mathlib.Core.List.{List, [], ◌∷◌}
use Rattle.octets.specs.Answer.{Answer, returned, refused}
use Rattle.view.specs.View.{no_view, view_of}
use Rattle.wire.specs.Codec.{front, view_at}
use Rattle.wire.specs.declared.Message.{Message}
use Rattle.record.specs.Usable.{is_open, full}
use Rattle.step.specs.Move.{message_step, begin_step}
use Rattle.step.specs.Stale.{stale_message}
use Rattle.step.specs.declared.Step.{Step}
use Rattle.step.specs.declared.Ending.{Ending}
use Rattle.step.specs.declared.Ending.TheVariants.{None}
use Rattle.region.specs.Channel.{count_of, first}
use Rattle.block.specs.Block.{take_off, halt}
use Rattle.layout.specs.Layout.{stated, faults_in, node, channel, on_block}
use Rattle.outgoing.specs.Outgoing as O
use Rattle.outgoing.specs.declared.Extent.{Extent}
use Rattle.events.specs.Event as E
use Rattle.events.specs.Stop as S
use Rattle.mirror.specs.Run.{Event, begin, deliver, stop, event, seen, trace_from}
use Rattle.mirror.specs.Refused.{RefusedDoesNothing}

-- The number of a refusal; 0 for a result.
abbrev number : Answer Ending → ℕ
number (returned e) = 0
number (refused k) = k

abbrev IsResult : Answer Ending → Type 0
IsResult (returned e) = Unit {0}
IsResult (refused k) = ⊥

module _ (b : List ℕ) where
  -- Where the answer is a refusal, the event has done nothing.
  record Plain (r : E.Result) : Type 0 where
    is : (k : ℕ) → r.answer ≡ refused k → r ≡ E.refuse k b

  refuses : (k : ℕ) → Plain (E.refuse k b)
  refuses k = record { is = λ j e. ap (λ z. E.refuse (number z) b) e }

  accepts : (r : E.Result) → IsResult r.answer → Plain r
  accepts r h = record { is = λ k e. absurd (subst IsResult e h) }

  demands : (t : Bool) (k : ℕ) {r : E.Result} → Plain r → Plain (E.demand t k b r)
  demands true k p = p
  demands false k p = refuses k

  settles : (n a c : ℕ) (x : Extent) (s : Step) (found : List ℕ) → Plain (E.settle n a c x s found b)
  unfolding E.settle
  settles n a c x s found =
      demands (O.has_room n a c x s.node s.outbox found) 11
      (accepts (E.commit n a c x s found) tt)

  abbrev n : ℕ
  n = stated b

  admits : (a c : ℕ) {r : E.Result} → Plain r → Plain (E.admitted a c b r)
  admits a c p = demands (eqb (E.admission a c b) 0) (E.admission a c b) p

  plain : (e : Event) → Plain (event e b)
  unfolding E.begin E.deliver S.stop
  plain (begin c o x) = admits c c
      (demands (not (is_open (node b c).wait)) 5
      (demands (not (full (node b c))) 6
      (demands (O.may_cut n x b) 10
      (settles n c c x (begin_step (faults_in b) (node b c) o) b))))
  plain (deliver a c x) = admits a c (demands (ltb 0 (count_of (channel b a c))) 8 (handed (front n slot)))
    where
      slot : List ℕ
      slot = first (channel b a c)

      handed : (m : Answer (Message × ℕ)) → Plain (E.deliver_message n a c x b slot m)
      handed (refused k) = refuses 7
      handed (returned p) =
          demands (not (stale_message (node b c) a p.0)) 9
          (demands (O.may_cut n x b) 10
          (settles n a c x (message_step (faults_in b) (node b c) a p.0 (view_of n (view_at n slot)))
          (on_block c (take_off a) b)))
  plain (stop c) = admits c c
      (demands (O.may_stop n b) 10
      (accepts (record { bytes = on_block c (halt n) b; answer = returned None; view = no_view; sent = [] }) tt))

pub refused-does-nothing : RefusedDoesNothing
unfolding trace_from
refused-does-nothing e b k h =
    let is : event e b ≡ E.refuse k b = (plain b e).is k h in
    record {
      bytes = ap (λ r. r.bytes) is;
      view = ap (λ r. r.view) is;
      sent = ap (λ r. r.sent) is;
      seen = λ n es. ap (λ r. seen n e r ∷ trace_from n r.bytes es) is;
    }
