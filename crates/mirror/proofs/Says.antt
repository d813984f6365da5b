-- What a block says after each of its changes, in the algorithm's terms.
use Prim.Native.Nat.{ℕ, ◌<◌, ◌≤◌}
use native.Mathlib.Omega.{arith}
use mathlib.Core.Path.{◌≡◌, sym, ap, ◌∙◌, subst}
use mathlib.Core.Bool.{Bool, true, false}
use mathlib.Core.List.{List, [], ◌∷◌, ◌++◌, map, map-append}
use lib.Dec.{ltb}
use lib.ListN.{length, length-map}
use borrow.Author.Tests.{eq-eqb}
use Rattle.logs.specs.Update.{upd}
use Rattle.logs.proofs.Update.{upd-all}
use Rattle.octets.specs.Answer.{returned}
use Rattle.octets.proofs.Test.{both_true}
use Rattle.view.specs.Size.{nodes}
use Rattle.record.specs.Usable.{usable}
use Rattle.record.specs.declared.Node.{Node}
use Rattle.region.specs.Channel.{capacity, channel_size, slot_size, count_of, first, push, pop, waiting}
use Rattle.region.specs.Record.{record_of, record_bytes}
use Rattle.region.proofs.Waiting.{waiting-push, waiting-pop, length-waiting, length_push, length-pop}
use Rattle.block.specs.Block.{block_size, has_stopped, channel_in, record_sound, on_channel, keep_record, take_off}
use Rattle.block.specs.Block.{receive}
use Rattle.block.specs.Block.{halt}
use Rattle.history.specs.Message as M
use Rattle.history.specs.Order.{OneTo}
use Rattle.algorithm.specs.Algorithm as A
use Rattle.refine.specs.Follows.{Follows, Sized as SizedView}
use Rattle.mirror.specs.Mirrors.{meant, Says}
use Rattle.block.proofs.Changes.{channel-length, channel-flag, channel-record, channel-same, channel-other}
use Rattle.block.proofs.Changes.{keep_record-length, keep_record-flag, keep_record-record, keep_record-channel}
use Rattle.mirror.proofs.Halted.{channel-size, halted}
use Rattle.view.specs.declared.View.{View}
use Rattle.region.proofs.Back.{Sized, SizedNode, record-back, record-known}

sized : (v : View) → SizedView v → Sized v
sized v z = record { tags = z.tags; reports = z.reports }

pub sized-node : {n f i : ℕ} {ν : A.Node} {c : Node} → Follows n f i ν c → SizedNode c
sized-node {c = c} F = record {
  heard = F.heard-size;
  last = sized c.last F.last-size;
  atmax = sized c.atmax F.atmax-size;
  atround = sized c.atround F.atround-size;
  keptview = sized c.keptview F.keptview-size;
}

-- The bytes of a usable record that follows are sound.
pub sound-record : {n f i : ℕ} {ν : A.Node} {c : Node} → Follows n f i ν c → usable c ≡ true
    → record_sound n f i (record_bytes c) ≡ true
sound-record {n} {f} {i} {ν} {c} F u =
    let z = sized-node F in
    both_true
    (both_true (record-known c z) (ap usable (record-back c z) ∙ u))
    (both_true (both_true (eq-eqb (record_of (record_bytes c)).n n (ap (λ d. d.n) (record-back c z) ∙ F.size))
    (eq-eqb (record_of (record_bytes c)).f f (ap (λ d. d.f) (record-back c z) ∙ F.faults)))
    (eq-eqb (record_of (record_bytes c)).own i (ap (λ d. d.own) (record-back c z) ∙ F.own)))

-- A record is written in a block, whatever its record was.
pub says-new : {n f c : ℕ} (k : List ℕ) {s : Bool} {q : ℕ → List M.Message} → length k ≡ block_size
    → has_stopped k ≡ s
    → ((a : ℕ) → OneTo n a → waiting (meant n c) (channel_in k a) ≡ map returned (q a))
    → {ν : A.Node} {d : Node} → Follows n f c ν d → usable d ≡ true → Says n f c (keep_record d k) ν s q
says-new {n} {f} {c} k size stop waits {ν} {d} F u = let z = sized-node F in record {
  size = keep_record-length k size d z.heard;
  node = subst (Follows n f c ν) (sym (record-back d z) ∙ ap record_of (sym (keep_record-record k size d z.heard))) F;
  sound = ap (record_sound n f c) (keep_record-record k size d z.heard) ∙ sound-record F u;
  stop = ap (ltb 0) (keep_record-flag k size d z.heard) ∙ stop;
  waits = λ a o. ap (waiting (meant n c)) (keep_record-channel k size d z.heard a) ∙ waits a o;
}

module _ {n f c : ℕ} (small : n ≤ nodes) {k : List ℕ} {ν : A.Node} {s : Bool} {q : ℕ → List M.Message}
    (B : Says n f c k ν s q) where
  most : (a : ℕ) → OneTo n a → a ≤ nodes
  most a o = omega arith

  size_of : (a : ℕ) → OneTo n a → length (channel_in k a) ≡ channel_size
  size_of a o = channel-size k B.size a o.0 (most a o)

  -- Only what waits from 1 to n matters.
  pub says_same : {q' : ℕ → List M.Message} → ((a : ℕ) → OneTo n a → q a ≡ q' a) → Says n f c k ν s q'
  says_same e = record {
    size = B.size;
    node = B.node;
    sound = B.sound;
    stop = B.stop;
    waits = λ a o. B.waits a o ∙ ap (map returned) (e a o);
  }

  -- How many wait.
  pub says-count : (a : ℕ) → OneTo n a → count_of (channel_in k a) ≡ length (q a)
  says-count a o = sym (length-waiting (meant n c) (channel_in k a)) ∙ ap length (B.waits a o) ∙ length-map (q a)
      returned

  -- Another record.
  pub says-keep_record : {ν' : A.Node} {d : Node} → Follows n f c ν' d → usable d ≡ true
      → Says n f c (keep_record d k) ν' s q
  says-keep_record F u = says-new k B.size B.stop B.waits F u

  -- A change of the channel from a.
  on-channel : (a : ℕ) → OneTo n a → (g : List ℕ → List ℕ)
      → ((t : List ℕ) → length t ≡ channel_size → length (g t) ≡ channel_size) → (l : List M.Message)
      → waiting (meant n c) (g (channel_in k a)) ≡ map returned l → Says n f c (on_channel a g k) ν s (upd q a l)
  on-channel a (lo, hi) g same l e = let h : a ≤ nodes = omega arith in record {
    size = channel-length k B.size g same a lo h;
    node = subst (λ r. Follows n f c ν (record_of r)) (sym (channel-record k B.size g same a lo h)) B.node;
    sound = ap (record_sound n f c) (channel-record k B.size g same a lo h) ∙ B.sound;
    stop = ap (ltb 0) (channel-flag k B.size g same a lo h) ∙ B.stop;
    waits = λ x p. upd-all (λ x l. OneTo n x → waiting (meant n c) (channel_in (on_channel a g k) x) ≡ map returned l)
        q a l
        (λ x ne p. ap (waiting (meant n c)) (channel-other k B.size g same a lo h x p.0 ne) ∙ B.waits x p)
        (λ p. ap (waiting (meant n c)) (channel-same k B.size g same a lo h) ∙ e) x p;
  }

  -- The oldest message from a is taken off.
  pub says_first : (a : ℕ) → OneTo n a → {m : M.Message} {rest : List M.Message} → q a ≡ m ∷ rest
      → (meant n c (first (channel_in k a)) ≡ returned m) × (waiting (meant n c) (pop (channel_in k a)) ≡ map returned
      rest)
  says_first a o {m} {rest} e =
      let some : 0 < count_of (channel_in k a) = rw (says-count a o, e) (omega arith) in
      let both : meant n c (first (channel_in k a)) ∷ waiting (meant n c) (pop (channel_in k a))
      ≡ returned m ∷ map returned rest =
      sym (waiting-pop (meant n c) (channel_in k a) (size_of a o) some) ∙ B.waits a o
      ∙ ap (map returned) e in
      (cc both, cc both)

  pub says-take : (a : ℕ) → OneTo n a → {m : M.Message} {rest : List M.Message} → q a ≡ m ∷ rest
      → Says n f c (take_off a k) ν s (upd q a rest)
  unfolding take_off
  says-take a o {m} {rest} e =
      on-channel a o pop (λ t h. length-pop t ∙ h) rest (says_first a o e).1

  -- A slot that says m comes in from a, and stays out where the node has stopped.
  pub says-receive : (a : ℕ) → OneTo n a → (x : List ℕ) (m : M.Message) → length x ≡ slot_size
      → ((rest : List ℕ) → meant n c (x ++ rest) ≡ returned m)
      → s ≡ false → length (q a) < capacity → Says n f c (receive a x k) ν s (upd q a (q a ++ (m ∷ [])))
  unfolding receive
  says-receive a o x m z reads e room =
      let t = channel_in k a in
      let size : length t ≡ channel_size = size_of a o in
      let less : count_of t < capacity = rw (says-count a o) room in
      rw (B.stop ∙ e) (on-channel a o (push x) (λ t h. length_push x t h (omega arith)) (q a ++ (m ∷ []))
      (waiting-push (meant n c) (returned m) x t size (omega arith) less reads
      ∙ ap (λ l. l ++ (returned m ∷ [])) (B.waits a o)
      ∙ sym (map-append returned (q a) (m ∷ []))))

  pub says-drop : (a : ℕ) (x : List ℕ) → s ≡ true → Says n f c (receive a x k) ν s q
  unfolding receive
  says-drop a x e = rw (B.stop ∙ e) B

  -- The node stops.
  pub says-halt : Says n f c (halt n k) ν true (λ a. [])
  says-halt = let H = halted (meant n c) k B.size n small in record {
    size = H.size;
    node = subst (λ r. Follows n f c ν (record_of r)) (sym H.same-record) B.node;
    sound = ap (record_sound n f c) H.same-record ∙ B.sound;
    stop = H.stopped;
    waits = λ a (lo, hi). H.empty a lo hi;
  }
