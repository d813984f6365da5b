-- From fresh bytes, whatever the events, each event on bytes is the event of the algorithm over sets.
use Prim.Native.Nat.{ℕ, ◌+◌, ◌<◌, ◌≤◌}
use mathlib.Core.Path.{◌≡◌, refl, sym, ap, ap₂, ◌∙◌, subst}
use mathlib.Core.List.{List, [], ◌∷◌, ◌++◌, map}
use lib.ListN.{length}
use borrow.Author.Tests.{le-leb, eq-eqb}
use Rattle.octets.specs.Answer.{returned}
use Rattle.octets.proofs.Test.{both_true}
use Rattle.view.specs.Size.{nodes}
use Rattle.table.proofs.Sets.{half-tolerates}
use Rattle.view.specs.View.{no_view}
use Rattle.step.specs.declared.Ending.TheVariants.{None}
use Rattle.region.specs.Channel.{waiting}
use Rattle.layout.specs.Layout.{cluster_size, channel}
use Rattle.events.specs.Event as E
use Rattle.history.specs.Event as H
use Rattle.history.specs.Order.{OneTo}
use Rattle.eqaso.specs.Cluster as K
use Rattle.eqaso.proofs.Snoc.{after-snoc}
use Rattle.eqaso.proofs.BoundedRun.{run-bounded, run-expected}
use Rattle.mirror.specs.Mirrors.{channel_room, Mirrors}
use Rattle.mirror.specs.SameResult.{SameResult}
use Rattle.mirror.specs.Encodes.{EachEncodes}
use Rattle.mirror.specs.Run.{Event, begin, deliver, stop, event, after, meaning, trace_from, trace_of, ComesUp}
use Rattle.mirror.proofs.Events.{begins}
use Rattle.mirror.proofs.Delivers.{delivers}
use Rattle.mirror.proofs.Ceases.{ceases}
use Rattle.mirror.proofs.Fresh.{fresh-mirrors}
use Rattle.mirror.proofs.Refusals.{comes-up}
use Rattle.mirror.proofs.Encoded.{encoded}

module _ (n f : ℕ) (low : 1 ≤ n) (small : n ≤ nodes) (half : f + f < n) where
  -- The algorithm's cluster after events.
  abbrev reached : List H.Event → K.Cluster
  reached ks = K.after n f channel_room K.start ks

  one_more : (ks : List H.Event) (e : H.Event)
      → reached (ks ++ (e ∷ [])) ≡ (K.event n f channel_room e (reached ks)).cluster
  one_more = after-snoc n f channel_room K.start

  -- One event, after any events of the algorithm's cluster.
  same-event : {b : List ℕ} (ks : List H.Event) → Mirrors n f b (reached ks) → (e : Event)
      → SameResult n f (event e b) (K.event n f channel_room (meaning e) (reached ks))
  unfolding K.event
  same-event ks mirror (begin c o x) = begins low small mirror (run-bounded n f channel_room half ks) c o x
  same-event ks mirror (deliver a c x) = delivers low small mirror (run-bounded n f channel_room half ks) a c x
      (λ m rest o up e. run-expected n f channel_room half ks a c m rest o up e)
  same-event ks mirror (stop c) = ceases low small mirror c

  -- The events so far, and one more.
  next : {b : List ℕ} (ks : List H.Event) → Mirrors n f b (reached ks) → (e : Event)
      → Mirrors n f (event e b).bytes (reached (ks ++ (meaning e ∷ [])))
  next {b} ks mirror e = subst (Mirrors n f (event e b).bytes) (sym (one_more ks (meaning e)))
      (same-event ks mirror e).mirrors

  same-run : {b : List ℕ} (ks : List H.Event) → Mirrors n f b (reached ks) → (es : List Event)
      → Mirrors n f (after b es) (K.after n f channel_room (reached ks) (map meaning es))
  unfolding after K.after
  same-run {b} ks mirror [] = mirror
  same-run {b} ks mirror (e ∷ es) = subst
      (λ σ. Mirrors n f (after (event e b).bytes es) (K.after n f channel_room σ (map meaning es)))
      (one_more ks (meaning e)) (same-run {b = (event e b).bytes} (ks ++ (meaning e ∷ [])) (next ks mirror e) es)

  same-trace : {b : List ℕ} (ks : List H.Event) → Mirrors n f b (reached ks) → (es : List Event)
      → trace_from n b es ≡ K.trace_from n f channel_room (reached ks) (map meaning es)
  unfolding trace_from K.trace_from
  same-trace {b} ks mirror [] = refl
  same-trace {b} ks mirror (e ∷ es) =
      let r = same-event ks mirror e in
      ap₂ (λ x l. x ∷ l) (ap₂ (λ x l. record { event = meaning e; answer = x; sent = l }) r.answer r.sent)
      (same-trace {b = (event e b).bytes} (ks ++ (meaning e ∷ [])) (next ks mirror e) es
      ∙ ap (λ σ. K.trace_from n f channel_room σ (map meaning es)) (one_more ks (meaning e)))

  module _ (b : List ℕ) (long : length b ≡ cluster_size n) where
    -- Fresh is accepted.
    pub fresh-taken : E.fresh n f b ≡ record {
      bytes = E.fresh_bytes n f
          (length b);
      answer = returned None;
      view = no_view;
      sent = [];
    }
    unfolding E.fresh
    fresh-taken = rw (
      both_true (both_true (le-leb 1 n low) (le-leb n nodes small))
          (half-tolerates n f small half),
      eq-eqb (length b) (cluster_size n) long,
    ) refl

    abbrev start : List ℕ
    start = (E.fresh n f b).bytes

    fresh_start : Mirrors n f start K.start
    fresh_start = subst (λ r. Mirrors n f r.bytes K.start) (sym fresh-taken)
        (fresh-mirrors n f low small half b long)

    -- After any events the bytes mirror the algorithm's cluster after the same events.
    pub run-mirrors : (es : List Event) → Mirrors n f (after start es) (reached (map meaning es))
    unfolding K.after
    run-mirrors es = same-run [] fresh_start es

    -- Each event does the same: answer, ending with its view, entries let out, and what it leaves.
    pub lockstep : (es : List Event) (e : Event)
        → SameResult n f (event e (after start es))
        (K.event n f channel_room (meaning e) (reached (map meaning es)))
    lockstep es e = same-event (map meaning es) (run-mirrors es) e

    -- What is seen of the whole run is the same.
    pub run-trace : (es : List Event) → trace_of n f b es ≡ K.trace n f channel_room (map meaning es)
    unfolding K.after
    run-trace es = same-trace [] fresh_start es

    -- Refusals 1, 2, 7, 9 and 12 do not come up.
    pub run-refusals : (es : List Event) (e : Event) → ComesUp (event e (after start es)).answer
    run-refusals es e = comes-up n f channel_room (reached (map meaning es)) (meaning e)
        (event e (after start es)) (lockstep es e)

    -- What a channel holds is, in order, the encoding of what waits on it.
    pub run-encoded : (es : List Event) (a c : ℕ) → OneTo n a → OneTo n c
        → EachEncodes n c (waiting (λ s. s) (channel (after start es) a c))
        ((reached (map meaning es)).channel a c)
    run-encoded es = encoded (run-mirrors es)
