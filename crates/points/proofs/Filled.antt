-- A cluster in which messages wait from node 1 to node d: the fresh one, with copies of a message let out.
use Prim.Native.Nat.{ℕ, zero, suc, ◌+◌, ◌≤◌, ◌<◌}
use native.Mathlib.Omega.{arith}
use native.Mathlib.Decide.{ℕ_discrete}
use mathlib.Core.Path.{◌≡◌, refl, sym, ap, ◌∙◌, subst}
use mathlib.Core.Bool.{Bool, true, false}
use mathlib.Core.List.Memᴰ
use mathlib.Core.List.{List, [], ◌∷◌, map}
use lib.Dec.{eqb}
use lib.ListN.{length, replicate, length-replicate}
use borrow.Author.Tests.{le-leb}
use Rattle.logs.specs.Log.{◌∈◌}
use Rattle.logs.proofs.Count.{count_none}
use Rattle.octets.specs.Answer.{Answer, returned, refused}
use Rattle.octets.specs.Test.{pick}
use Rattle.octets.proofs.Test.{both_true, true-false}
use Rattle.view.specs.Size.{is_size, nodes}
use Rattle.view.specs.View.{no_view, view_of, view_bytes}
use Rattle.view.specs.declared.View.{View}
use Rattle.wire.specs.Codec.{front, view_at}
use Rattle.wire.specs.Layout.{allowed}
use Rattle.wire.specs.declared.Message.{Message}
use Rattle.wire.specs.declared.Message.TheVariants.{Read, ReadAnswer, Write, WriteAnswer, Echo, Value, Good}
use Rattle.record.specs.declared.Node.{Node}
use Rattle.step.specs.Stale.{stale_message}
use Rattle.region.specs.Channel.{capacity, count_of, first}
use Rattle.outgoing.specs.Entries.{Entry, entry, go_to}
use Rattle.layout.specs.Layout.{cluster_size, stated, node, channel}
use Rattle.events.specs.Event.{fresh_bytes}
use Rattle.outgoing.specs.Outgoing.{let_out}
use Rattle.history.specs.Message as M
use Rattle.history.specs.Event as H
use Rattle.history.specs.Order.{OneTo}
use Rattle.algorithm.specs.Algorithm as A
use Rattle.eqaso.specs.Cluster as K
use Rattle.refine.specs.Meaning.{message_of}
use Rattle.refine.proofs.Steps.{same-idle, not_full}
use Rattle.mirror.specs.Mirrors.{meant_by, mail, Shows, Mirrors}
use Rattle.mirror.proofs.Channels.{channel-own, channel-other, sent-none, sent-here, same-go_to}
use Rattle.mirror.proofs.Checks.{is-fit, is-sound}
use Rattle.mirror.proofs.Delivers.{IsResult}
use Rattle.mirror.proofs.Fresh.{fresh-mirrors}
use Rattle.mirror.proofs.LetOut.{shows-out}
use Rattle.mirror.proofs.Says.{says-count, says_first}
use Rattle.mirror.proofs.Shows.{Fit}
use Rattle.points.specs.Channels.{Filled}

abbrev filled : (n f d k : ℕ) → Message → List ℕ
filled n f d k m = let_out n 1 (replicate k (entry no_view m d)) (fresh_bytes n f (cluster_size n))

-- The message is known by what it means for the algorithm, and is never stale.
module _ (n f : ℕ) (size : OneTo nodes n) (half : f + f < n) (d : ℕ) (at : OneTo n d) (m : Message)
    (ok : allowed n m (view_bytes n no_view) ≡ true)
    (known : (k : Message) (v : View) → message_of n d v k ≡ message_of n d no_view m → k ≡ m)
    (new : (k : Node) → stale_message k 1 m ≡ false) where
  abbrev e : Entry
  e = entry no_view m d

  abbrev meaning : M.Message
  meaning = message_of n d no_view m

  one : OneTo n 1
  one = (omega arith, size.0)

  more : (t : Bool) (j k : ℕ) → j ≤ k → pick t (j + 1) j ≤ suc k
  more true j k h = omega arith
  more false j k h = omega arith

  -- To no node goes more than all.
  goes-most : (c k : ℕ) → go_to c (replicate k e) ≤ k
  unfolding go_to
  goes-most c zero = omega arith
  goes-most c (suc k) = more (eqb d c) (go_to c (replicate k e)) k (goes-most c k)

  fits_all : (k : ℕ) (x : Entry) → x ∈ replicate k e → Fit n x
  fits_all zero x i = elim i [ ]
  fits_all (suc k) x (Memᴰ.head h) = subst (Fit n) (sym h) (record { to = at; layout = ok })
  fits_all (suc k) x (Memᴰ.tail i) = fits_all k x i

  sent-all : (k : ℕ) → H.sent_to d (map (mail n) (replicate k e)) ≡ replicate k meaning
  sent-all zero = sent-none d
  sent-all (suc k) = sent-here d (mail n e) (map (mail n) (replicate k e)) refl ∙ ap (λ l. meaning ∷ l) (sent-all k)

  small : n ≤ 16
  small = size.1

  sized : is_size n ≡ true
  sized = both_true (le-leb 1 n size.0) (le-leb n 16 small)

  start : Mirrors n f (fresh_bytes n f (cluster_size n)) K.start
  start =
      let long : length {A = ℕ} (replicate (cluster_size n) 0) ≡ cluster_size n
      = length-replicate {A = ℕ} (cluster_size n) 0 in
      subst (λ j. Mirrors n f (fresh_bytes n f j) K.start) long
      (fresh-mirrors n f size.0 small half (replicate (cluster_size n) 0) long)

  module _ (j : ℕ) (few : suc j ≤ capacity) where
    abbrev b : List ℕ
    b = filled n f d (suc j) m

    abbrev q : ℕ → ℕ → List M.Message
    q = K.channels (λ c. false) 1 (map (mail n) (replicate (suc j) e)) (λ a d. [])

    shows : Shows n f b (λ c. A.fresh) (λ c. false) q
    shows = shows-out small sized 1 one (replicate (suc j) e) start.shows (λ a d h. refl) (fits_all (suc j))
        (λ c o s. omega (arith, goes-most c (suc j)))

    waiting : q 1 d ≡ replicate (suc j) meaning
    waiting = channel-own (λ c. false) 1 (map (mail n) (replicate (suc j) e)) (λ a d. []) 1 d refl refl
        ∙ sent-all (suc j)

    few-wait : (a c : ℕ) → length (q a c) ≤ suc j
    few-wait a c =
        let l = map (mail n) (replicate (suc j) e) in
        elim (ℕ_discrete a 1) [
          | yes h ↦ rw (
            channel-own (λ c. false) 1 l (λ a d. []) a c refl h,
            sym (same-go_to n c (replicate (suc j) e)),
          ) (goes-most c (suc j))
          | no h ↦ rw (channel-other (λ c. false) 1 l (λ a d. []) a c refl h) (omega arith)
        ]

    mirrors : Mirrors n f b (record { nodes = λ c. A.fresh; stopped = λ c. false; channel = q })
    mirrors = record {
      shows = shows;
      room = λ a c p o. omega (arith, few-wait a c);
      gone = λ a c h. true-false false h refl;
      few = omega (arith, count_none n);
      half = half;
    }

    there : (c : ℕ) → OneTo n c → OneTo (stated b) c
    there c o = subst (λ k. OneTo k c) (sym shows.states) o

    holds : count_of (channel b 1 d) ≡ suc j
    holds = says-count small (shows.says d at) 1 one ∙ ap length waiting ∙ length-replicate (suc j) meaning

    abbrev slot : List ℕ
    slot = first (channel b 1 d)

    reads : (k : ℕ) × (front n slot ≡ returned (m, k))
    reads = go (front n slot) refl (says_first small (shows.says d at) 1 one waiting).0
      where
        v : View
        v = view_of n (view_at n slot)

        go : (r : Answer (Message × ℕ)) → front n slot ≡ r → meant_by n d v r ≡ returned meaning
            → (k : ℕ) × (front n slot ≡ returned (m, k))
        go (refused k) r h = absurd (subst IsResult (sym h) tt)
        go (returned p) r h =
            let same : message_of n d v p.0 ≡ meaning = cc h in
            (p.1, r ∙ ap (λ z. returned (z, p.1)) (known p.0 v same))

    is-filled : Filled n f d (suc j) m b
    unfolding A.limit
    is-filled = record {
      begins = record {
        fit = is-fit size.0 small mirrors;
        usable = is-sound size.0 small mirrors;
        at = there 1 one;
        stands = (shows.says 1 one).stop;
        idle = same-idle (shows.says 1 one).node.wait;
        left = not_full (shows.says 1 one).node (omega arith);
        cut = λ h. true-false false h refl;
      };
      delivers = record {
        fit = is-fit size.0 small mirrors;
        usable = is-sound size.0 small mirrors;
        sender = there 1 one;
        receiver = there d at;
        stands = (shows.says d at).stop;
        some = omega (arith, holds);
        size = reads.0;
        says = subst (λ k. front k slot ≡ returned (m, reads.0)) (sym shows.states) reads.1;
        new = new (node b d);
        cut = λ h. true-false false h refl;
      };
      states = shows.states;
      faults = shows.faults;
      stands = λ c o. (shows.says c o).stop;
      holds = holds;
      no_more = λ c o. omega (arith, says-count small (shows.says c o) 1 one, few-wait 1 c);
      maxtag = (shows.says 1 one).node.maxtag;
    }

known_read : (n d : ℕ) (k : Message) (v : View) → message_of n d v k ≡ M.read 1 → k ≡ Read 1
known_read n d (Read r) v e = cc
known_read n d (ReadAnswer r t) v e = cc
known_read n d (Write r t) v e = cc
known_read n d (WriteAnswer r t) v e = cc
known_read n d (Echo t) v e = cc
known_read n d (Value t w p) v e = cc
known_read n d (Good t) v e = cc

known-write : (n d : ℕ) (k : Message) (v : View) → message_of n d v k ≡ M.write 1 1 → k ≡ Write 1 1
known-write n d (Read r) v e = cc
known-write n d (ReadAnswer r t) v e = cc
known-write n d (Write r t) v e = cc
known-write n d (WriteAnswer r t) v e = cc
known-write n d (Echo t) v e = cc
known-write n d (Value t w p) v e = cc
known-write n d (Good t) v e = cc

pub filled-reads : (n f : ℕ) → OneTo nodes n → f + f < n → (d : ℕ) → OneTo n d → (j : ℕ) → suc j ≤ capacity
    → (b : List ℕ) × Filled n f d (suc j) (Read 1) b
unfolding allowed
filled-reads n f size half d at j h = (
  filled n f d (suc j) (Read 1),
  is-filled n f size half d at (Read 1) refl (known_read n d) (λ k. refl) j h,
)

pub filled-writes : (n f : ℕ) → OneTo nodes n → f + f < n → (d : ℕ) → OneTo n d → (j : ℕ) → suc j ≤ capacity
    → (b : List ℕ) × Filled n f d (suc j) (Write 1 1) b
unfolding allowed
filled-writes n f size half d at j h = (
  filled n f d (suc j) (Write 1 1),
  is-filled n f size half d at (Write 1 1) refl (known-write n d) (λ k. refl) j h,
)
