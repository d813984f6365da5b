-- A cluster in which a value waits: a fresh one in which node c has another record, and the value is let out to it.
use Prim.Native.Nat.{ℕ, ◌+◌, ◌-◌, ◌≤◌, ◌<◌}
use native.Mathlib.Omega.{arith}
use native.Mathlib.Decide.{ℕ_discrete, dec_le}
use mathlib.Core.Path.{◌≡◌, refl, sym, ap, ap₂, ◌∙◌, subst}
use mathlib.Core.Bool.{Bool, true, false}
use mathlib.Core.List.Memᴰ
use mathlib.Core.List.{List, [], ◌∷◌, ◌++◌, map}
use lib.ListN.{length, replicate, length-replicate}
use lib.Dec.{ltb, leb, eqb}
use borrow.Author.Tests.{le-leb, leb-true, eq-eqb}
use Rattle.logs.specs.Log.{◌∈◌}
use Rattle.logs.specs.Update.{upd}
use Rattle.logs.proofs.Count.{count_none}
use Rattle.logs.proofs.Update.{upd_same}
use Rattle.octets.specs.Answer.{returned}
use Rattle.octets.specs.Test.{pick, both}
use Rattle.octets.proofs.Test.{both_left, both_right, both_true, true-false}
use Rattle.view.specs.Size.{is_size, nodes, limit}
use Rattle.view.specs.View.{no_view, view_of, view_bytes}
use Rattle.view.specs.declared.Report.{Report}
use Rattle.view.specs.declared.View.{View}
use Rattle.wire.specs.Codec.{front, view_at}
use Rattle.wire.specs.Layout.{encode, allowed, value_size}
use Rattle.wire.specs.declared.Message.TheVariants.{Value}
use Rattle.wire.proofs.RoundTrip.{front-back}
use Rattle.table.specs.Table.{tag_of}
use Rattle.record.specs.Usable.{usable, is_open, stale}
use Rattle.record.specs.declared.Node.{Node}
use Rattle.step.specs.Move.{message_step}
use Rattle.step.specs.React.{is_new, received, react}
use Rattle.step.specs.Step.{listed}
use Rattle.step.specs.declared.Sent.TheVariants.{Nothing, One}
use Rattle.region.specs.Channel.{slot_size, count_of, first, pop, waiting}
use Rattle.region.proofs.Waiting.{waiting-pop, length-waiting}
use Rattle.block.specs.Block.{keep_record}
use Rattle.outgoing.specs.Entries.{Entry, entry, addressed, entries_of, entries, go_to, slot}
use Rattle.outgoing.proofs.Forwarded.{value-slot}
use Rattle.outgoing.specs.Outgoing.{let_out, shortened, is_cut}
use Rattle.outgoing.specs.declared.Extent.{Extent}
use Rattle.outgoing.specs.declared.Extent.TheVariants.{Whole, Cut}
use Rattle.outgoing.proofs.Laws.{entries-one, go_to-once, others-reach, others-miss, nothing-to}
use Rattle.layout.specs.Layout.{cluster_size, stated, faults_in, node, channel, on_block}
use Rattle.events.specs.Event.{fresh}
use Rattle.history.specs.Message as M
use Rattle.history.specs.Order.{OneTo}
use Rattle.algorithm.specs.Algorithm as A
use Rattle.eqaso.specs.Cluster as K
use Rattle.refine.specs.Follows.{Follows}
use Rattle.refine.proofs.Steps.{same-idle}
use Rattle.mirror.specs.Mirrors.{mail, Shows, Mirrors}
use Rattle.mirror.proofs.Channels.{channel-own, channel-other, same-go_to}
use Rattle.mirror.proofs.Checks.{is-fit, is-sound, same-stopped}
use Rattle.mirror.proofs.LetOut.{shows-out}
use Rattle.mirror.proofs.Says.{says-count}
use Rattle.mirror.proofs.Shows.{Fit, shows-step}
use Rattle.points.specs.Channels.{MayDeliver, Room, still_waits, handled}
use Rattle.points.specs.Forward.{slots_on, slots_to, Handed, ValueWaits}
use Rattle.points.proofs.Stops.{start-mirrors}
use Rattle.points.proofs.Counts.{Held, size_of, held_out}
use Rattle.points.proofs.Slots.{slots-out}
use Rattle.points.proofs.Channels.{rests, channels-hold}

-- An idle node that handles a value lets at most one message out to each node.
module _ (n a k : ℕ) (to : OneTo n k) (f : ℕ) (d : Node) (t w : ℕ) (p : Report) (idle : is_open d.wait ≡ false)
    (v : View) where
  step_is : message_step f d a (Value t w p) v ≡ react d a (Value t w p) v
  unfolding message_step react received
  step_is = rests f (react d a (Value t w p) v) idle

  one-all : (x : Extent) → go_to k (shortened x (addressed n a no_view (Value t w p))) ≤ 1
  unfolding addressed
  one-all Whole = omega (arith, go_to-once no_view (Value t w p) k n to.0 to.1)
  one-all (Cut j) = elim (dec_le k j) [
    | yes l ↦ omega (arith, others-reach k j n a no_view (Value t w p) refl to.0 to.1 l)
    | no l ↦ omega (arith, others-miss k j n a no_view (Value t w p) refl (omega arith))
  ]

  none_at_all : (x : Extent) → go_to k (shortened x (entries_of n a no_view [])) ≤ 1
  unfolding entries_of go_to
  none_at_all Whole = omega arith
  none_at_all (Cut j) = omega (arith, nothing-to k j n a no_view)

  one_each : (x : Extent) → go_to k (shortened x (entries n a (message_step f d a (Value t w p) v).outbox)) ≤ 1
  unfolding react
  one_each x = rw step_is (go (is_new d w t) x)
    where
      go : (y : Bool) (x : Extent)
          → go_to k (shortened x (entries_of n a no_view (listed (pick y (One (Value t w p)) Nothing) ++ [] ++ []))) ≤ 1
      go true x = rw (entries-one n a no_view (Value t w p)) (one-all x)
      go false x = none_at_all x

-- A value that the layout allows.
module _ (n t w : ℕ) (p : Report) (ok : allowed n (Value t w p) [] ≡ true) where
  pub tag-some : 1 ≤ t
  unfolding allowed
  tag-some = leb-true 1 t (both_left (leb 1 t) (leb t limit)
      (both_left (both (leb 1 t) (leb t limit)) (both (leb 1 w) (leb w n)) ok))

  pub writer_in : OneTo n w
  unfolding allowed
  writer_in =
      let h = both_right (both (leb 1 t) (leb t limit)) (both (leb 1 w) (leb w n)) ok in
      (leb-true 1 w (both_left (leb 1 w) (leb w n) h), leb-true w n (both_right (leb 1 w) (leb w n) h))

-- The fresh cluster.
module _ (n f : ℕ) (size : OneTo nodes n) (half : f + f < n) where
  abbrev pub base : List ℕ
  base = (fresh n f (replicate (cluster_size n) 0)).bytes

  pub start : Mirrors n f base K.start
  start = start-mirrors n f size half (replicate (cluster_size n) 0) (length-replicate {A = ℕ} (cluster_size n) 0)

module _ (n f : ℕ) (size : OneTo nodes n) (half : f + f < n) (a c : ℕ) (from : OneTo n a) (at : OneTo n c)
    (t w : ℕ) (p : Report) (ok : allowed n (Value t w p) [] ≡ true) where
  small : n ≤ 16
  small = size.1

  sized : is_size n ≡ true
  sized = both_true (le-leb 1 n size.0) (le-leb n 16 small)

  layout : allowed n (Value t w p) (view_bytes n no_view) ≡ true
  unfolding allowed
  layout = ok

  writer : OneTo n w
  writer = writer_in n t w p ok

  -- ---- node c has record d, and the value waits for it from a

  module _ (d : Node) (μ : A.Node) (F : Follows n f c μ d) (good : usable d ≡ true) (idle : is_open d.wait ≡ false)
      (new : stale d a w t ≡ false) where
    abbrev e : Entry
    e = entry no_view (Value t w p) c

    abbrev before : List ℕ
    before = on_block c (keep_record d) (base n f size half)

    abbrev b : List ℕ
    b = let_out n a (e ∷ []) before

    abbrev ν : ℕ → A.Node
    ν = upd (λ i. A.fresh) c μ

    abbrev q : ℕ → ℕ → List M.Message
    q = K.channels (λ i. false) a (map (mail n) (e ∷ [])) (λ i j. [])

    empty : Shows n f before ν (λ i. false) (λ i j. [])
    empty = shows-step small (start n f size half).shows c at Whole F good (λ i j h. refl)

    one-most : (k : ℕ) → go_to k (e ∷ []) ≤ 1
    unfolding go_to
    one-most k = go (eqb c k)
      where
        go : (y : Bool) → pick y (0 + 1) 0 ≤ 1
        go true = omega arith
        go false = omega arith

    shows : Shows n f b ν (λ i. false) q
    shows = shows-out small sized a from (e ∷ []) empty (λ i j h. refl) fits_one (λ k o s. omega (arith, one-most k))
      where
        fits_one : (x : Entry) → x ∈ e ∷ [] → Fit n x
        fits_one x (Memᴰ.head h) = subst (Fit n) (sym h) (record { to = at; layout = layout })
        fits_one x (Memᴰ.tail i) = elim i [ ]

    few-wait : (i j : ℕ) → length (q i j) ≤ 1
    few-wait i j = elim (ℕ_discrete i a) [
      | yes h ↦ rw (
        channel-own (λ i. false) a (map (mail n) (e ∷ [])) (λ i j. []) i j refl h,
        sym (same-go_to n j (e ∷ [])),
      ) (one-most j)
      | no h ↦ rw (channel-other (λ i. false) a (map (mail n) (e ∷ [])) (λ i j. []) i j refl h) (omega arith)
    ]

    mirrors : Mirrors n f b (record { nodes = ν; stopped = λ i. false; channel = q })
    mirrors = record {
      shows = shows;
      room = λ i j o h. omega (arith, few-wait i j);
      gone = λ i j h. true-false false h refl;
      few = omega (arith, count_none n);
      half = half;
    }

    -- ---- its slot

    held : Held n small before
    held = record {
      long = empty.long;
      most = λ i j o h. omega (arith, says-count small (empty.says j h) i o);
    }

    held-b : Held n small b
    held-b = held_out n small a from (e ∷ []) (at, tt) held

    one-waits : slots_on b a c ≡ slot n (Value t w p) no_view ∷ []
    unfolding slots_to
    one-waits = slots-out n small a from (e ∷ []) (at, tt) held c 0 at
        (record { stands = (empty.says c at).stop; holds = says-count small (empty.says c at) a from })
        (omega (arith, one-most c))
        ∙ ap₂ (λ k y. k ++ pick y (slot n (Value t w p) no_view ∷ []) []) none_before (eq-eqb c c refl)
      where
        no-slots : (k : List (List ℕ)) → length k ≡ 0 → k ≡ []
        no-slots [] h = refl
        no-slots (s ∷ k) h = absurd (omega arith)

        none_before : slots_on before a c ≡ []
        none_before = no-slots (slots_on before a c)
            (length-waiting (λ s. s) (channel before a c) ∙ says-count small (empty.says c at) a from)

    one-count : count_of (channel b a c) ≡ 1
    one-count = sym (length-waiting (λ s. s) (channel b a c)) ∙ ap length one-waits

    first-is : first (channel b a c) ≡ slot n (Value t w p) no_view
    first-is =
        let both : first (channel b a c) ∷ waiting (λ s. s) (pop (channel b a c)) ≡ slot n (Value t w p) no_view ∷ [] =
        sym (waiting-pop (λ s. s) (channel b a c) (size_of n small held-b c at a from) (omega (arith, one-count)))
        ∙ one-waits in
        cc both

    abbrev long : ℕ
    long = length (encode (Value t w p) (view_bytes n no_view))

    reads : front (stated b) (first (channel b a c)) ≡ returned (Value t w p, long)
    reads = ap₂ front shows.states (first-is ∙ value-slot n t w p no_view (view_bytes n no_view) sized layout)
        ∙ front-back n (Value t w p) (view_bytes n no_view) (replicate (slot_size - value_size) 0) sized layout

    -- ---- the record

    follows : Follows n f c μ (node b c)
    follows = subst (λ i. Follows n f c i (node b c)) (upd_same (λ i. A.fresh) c μ) (shows.says c at).node

    same_tag : tag_of (node b c).last w ≡ tag_of d.last w
    same_tag = ap (λ (i : M.Entry). i.tag) (follows.last w writer)
        ∙ sym (ap (λ (i : M.Entry). i.tag) (F.last w writer))

    same-stale : stale (node b c) a w t ≡ stale d a w t
    same-stale = rw (
      follows.heard a w from writer ∙ sym (F.heard a w from writer),
      same_tag,
      follows.maxtag ∙ sym F.maxtag,
    ) refl

    still-idle : is_open (node b c).wait ≡ false
    still-idle = same-idle follows.wait ∙ sym (same-idle F.wait) ∙ idle

    -- ---- its delivery

    there : (i : ℕ) → OneTo n i → OneTo (stated b) i
    there i o = subst (λ k. OneTo k i) (sym shows.states) o

    here : (i : ℕ) → OneTo (stated b) i → OneTo n i
    here i o = subst (λ k. OneTo k i) shows.states o

    module _ (x : Extent) (may : is_cut x ≡ true → 0 < f) where
      delivers : MayDeliver b a c x (Value t w p)
      delivers = record {
        fit = is-fit size.0 small mirrors;
        usable = is-sound size.0 small mirrors;
        sender = there a from;
        receiver = there c at;
        stands = (shows.says c at).stop;
        some = omega (arith, one-count);
        size = long;
        says = reads;
        new = same-stale ∙ new;
        cut = λ h. rw (shows.states, shows.faults, same-stopped size.0 small mirrors, count_none n) (may h);
      }

      room : Room b c x (still_waits b a c) (handled b a c x (Value t w p))
      room k S = omega (
        arith,
        says-count small (shows.says k (here k S.at)) c at,
        few-wait c k,
        one_each (stated b) a k S.at (faults_in b) (node b c) t w p still-idle
            (view_of (stated b) (view_at (stated b) (first (channel b a c)))) x,
      )

      handed : Handed b a c x (Value t w p) long
      handed = record { accepted = (channels-hold.deliver b a c x (Value t w p) delivers).accepted room; says = reads }

      pub waits_there : ValueWaits n f a c x t w p (is_new d w t)
      waits_there = record {
        bytes = b;
        size = long;
        states = shows.states;
        faults = shows.faults;
        stand = λ i o. (shows.says i o).stop;
        handed = handed;
        is-new = ap (λ k. ltb k t) same_tag;
      }
