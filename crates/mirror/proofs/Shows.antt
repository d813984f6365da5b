-- What the bytes of a cluster show after each change of an event: a message taken off, a step taken, entries let out.
use Prim.Native.Nat.{ℕ, ◌+◌, ◌<◌, ◌≤◌}
use native.Mathlib.Omega.{arith}
use native.Mathlib.Decide.{ℕ_discrete}
use mathlib.Core.Path.{◌≡◌, refl, sym, ap, ◌∙◌, subst}
use mathlib.Core.Logic.{◌≢◌, inl, inr}
use mathlib.Core.Bool.{Bool, true, false, cond}
use mathlib.Core.List.{List, [], ◌∷◌, ◌++◌, append-nil}
use lib.ListN.{length}
use Rattle.logs.specs.Update.{upd, upd2}
use Rattle.logs.proofs.Update.{upd_same, upd_other, upd2-same, upd2-other}
use Rattle.view.specs.Size.{is_size, nodes}
use Rattle.view.specs.View.{view_bytes}
use Rattle.wire.specs.Layout.{allowed}
use Rattle.record.specs.Usable.{usable}
use Rattle.record.specs.declared.Node.{Node}
use Rattle.region.specs.Channel.{capacity}
use Rattle.block.specs.Block.{take_off, receive, keep_record, halt}
use Rattle.outgoing.specs.Entries.{Entry, go_to, slot}
use Rattle.layout.specs.Layout.{cluster_size, block, on_block}
use Rattle.outgoing.specs.Outgoing.{stepped, send}
use Rattle.outgoing.specs.declared.Extent.{Extent}
use Rattle.outgoing.specs.declared.Extent.TheVariants.{Whole, Cut}
use Rattle.history.specs.Message as M
use Rattle.history.specs.Order.{OneTo}
use Rattle.algorithm.specs.Algorithm as A
use Rattle.eqaso.specs.Cluster as K
use Rattle.refine.specs.Meaning.{message_of}
use Rattle.refine.specs.Follows.{Follows}
use Rattle.mirror.specs.Mirrors.{mail, extent_of, Says, Shows}
use Rattle.layout.proofs.Blocks.{length-on_block, stated-on_block, faults-on_block, block_same, block-other}
use Rattle.mirror.proofs.Slots.{slot-size, slot-says}
use Rattle.mirror.proofs.Says.{says_same, says-keep_record, says-take, says-receive, says-drop, says-halt}
use Rattle.mirror.proofs.Channels.{channel-stopped, channel-own, channel-other, sent-here, sent-elsewhere}
use Rattle.mirror.proofs.Channels.{sent-none}

abbrev Nodes : Type 0
Nodes = ℕ → A.Node

abbrev Flags : Type 0
Flags = ℕ → Bool

abbrev Channel : Type 0
Channel = ℕ → ℕ → List M.Message

-- Nothing waits for a node that has stopped.
abbrev pub Gone : Flags → Channel → Type 0
Gone s q = (a d : ℕ) → s d ≡ true → q a d ≡ []

-- An entry that stands for a message of the layout, to one of the nodes.
pub record Fit (n : ℕ) (e : Entry) : Type 0 where
  pub to : OneTo n e.to
  pub layout : allowed n e.message (view_bytes n e.view) ≡ true

-- Every channel from c can take the entries to its node.
abbrev pub Room : (n c : ℕ) → Flags → Channel → List Entry → Type 0
Room n c s q l = (d : ℕ) → OneTo n d → s d ≡ false → length (q c d) + go_to d l ≤ capacity

-- The same of node d after a change that concerns other nodes.
record Untouched (n d : ℕ) (ν ν' : Nodes) (s s' : Flags) (q q' : Channel) : Type 0 where
  node : ν d ≡ ν' d
  stop : s d ≡ s' d
  waits : (a : ℕ) → OneTo n a → q a d ≡ q' a d

module _ {n f : ℕ} (small : n ≤ nodes) where
  untouched : {d : ℕ} {ν ν' : Nodes} {s s' : Flags} {q q' : Channel} {k : List ℕ} → Untouched n d ν ν' s s' q q'
      → Says n f d k (ν d) (s d) (λ a. q a d) → Says n f d k (ν' d) (s' d) (λ a. q' a d)
  untouched {d} {ν} {ν'} {s} {s'} {q} {q'} {k} U B =
      subst (λ x. Says n f d k x (s' d) (λ a. q' a d)) U.node
      (subst (λ x. Says n f d k (ν d) x (λ a. q' a d)) U.stop (says_same small B U.waits))

  module _ {b : List ℕ} {ν : Nodes} {s : Flags} {q : Channel} (S : Shows n f b ν s q) where
    -- All is said as before, in other words.
    pub shows_same : {q' : Channel} → ((a d : ℕ) → OneTo n a → OneTo n d → q a d ≡ q' a d) → Shows n f b ν s q'
    shows_same e = record {
      long = S.long;
      states = S.states;
      faults = S.faults;
      says = λ c o. says_same small (S.says c o)
          (λ a p. e a c p o);
    }

    there : (c : ℕ) → OneTo n c → cluster_size c ≤ length b
    there c o = omega (arith, S.long)

    -- A change of the block of node c.
    shows-on : (c : ℕ) → OneTo n c → (g : List ℕ → List ℕ) (ν' : Nodes) (s' : Flags) (q' : Channel)
        → Says n f c (g (block b c)) (ν' c) (s' c) (λ a. q' a c)
        → ((d : ℕ) → OneTo n d → d ≢ c → Untouched n d ν ν' s s' q q') → Shows n f (on_block c g b) ν' s' q'
    shows-on c o g ν' s' q' B rest = record {
      long = length-on_block b c o.0 (there c o) g B.size ∙ S.long;
      states = stated-on_block b c o.0 (there c o) g B.size ∙ S.states;
      faults = faults-on_block b c o.0 (there c o) g B.size ∙ S.faults;
      says = λ d p. elim (ℕ_discrete d c) [
        | yes e ↦ subst (λ x. Says n f x (block (on_block c g b) x) (ν' x) (s' x) (λ a. q' a x)) (sym e)
            (subst (λ k. Says n f c k (ν' c) (s' c) (λ a. q' a c))
            (sym (block_same b c o.0 (there c o) g B.size)) B)
        | no e ↦ subst (λ k. Says n f d k (ν' d) (s' d) (λ a. q' a d))
            (sym (block-other b c o.0 (there c o) g B.size d p.0 e))
            (untouched (rest d p e) (S.says d p))
      ];
    }

    -- The oldest message from a is taken off.
    pub shows-take : (a c : ℕ) → OneTo n a → OneTo n c → {m : M.Message} {rest : List M.Message} → q a c ≡ m ∷ rest
        → Shows n f (on_block c (take_off a) b) ν s (upd2 q a c rest)
    shows-take a c p o {m} {rest} e = shows-on c o (take_off a) ν s (upd2 q a c rest)
        (says_same small (says-take small (S.says c o) a p e) (λ x h. at x (ℕ_discrete x a)))
        (λ d h ne. record { node = refl; stop = refl; waits = λ x y. sym (upd2-other q a c rest x d (inr ne)) })
      where
        at : (x : ℕ) → Dec (x ≡ a) → upd (λ x. q x c) a rest x ≡ upd2 q a c rest x c
        at x (yes e) = rw e (upd_same (λ x. q x c) a rest ∙ sym (upd2-same q a c rest))
        at x (no e) = upd_other (λ x. q x c) a rest x e ∙ sym (upd2-other q a c rest x c (inl e))

    quiet : Gone s q → (a d : ℕ) → q a d ≡ cond (s d) [] (q a d)
    quiet gone a d = go (s d) refl
      where
        go : (y : Bool) → s d ≡ y → q a d ≡ cond y [] (q a d)
        go true e = gone a d e
        go false e = refl

    -- Node c has another record.
    shows-keep_record : (c : ℕ) → OneTo n c → {d : Node} {μ : A.Node} → Follows n f c μ d → usable d ≡ true
        → Shows n f (on_block c (keep_record d) b) (upd ν c μ) s q
    shows-keep_record c o {d} {μ} F u = shows-on c o (keep_record d) (upd ν c μ) s q
        (rw (upd_same ν c μ) (says-keep_record small (S.says c o) F u))
        (λ k p ne. record { node = sym (upd_other ν c μ k ne); stop = refl; waits = λ a h. refl })

    -- Node c stops.
    pub shows-halt : (c : ℕ) → OneTo n c → Gone s q
        → Shows n f (on_block c (halt n) b) ν (upd s c true) (λ a d. cond (upd s c true d) [] (q a d))
    shows-halt c o gone = shows-on c o (halt n) ν (upd s c true) (λ a d. cond (upd s c true d) [] (q a d))
        (rw (upd_same s c true) (says-halt small (S.says c o)))
        (λ d p ne. record {
          node = refl;
          stop = sym (upd_other s c true d ne);
          waits = λ a h. quiet gone a d ∙ ap (λ y. cond y [] (q a d)) (sym (upd_other s c true d ne));
        })

  -- Node c takes a step, and stops if it is cut.
  pub shows-step : {b : List ℕ} {ν : Nodes} {s : Flags} {q : Channel} → Shows n f b ν s q → (c : ℕ) → OneTo n c
      → (x : Extent) {d : Node} {μ : A.Node} → Follows n f c μ d → usable d ≡ true → Gone s q
      → Shows n f (stepped n c x d b) (upd ν c μ) (K.halted (extent_of x) c s)
      (λ a d. cond (K.halted (extent_of x) c s d) [] (q a d))
  shows-step S c o Whole F u gone = shows_same (shows-keep_record S c o F u) (λ a d p h. quiet S gone a d)
  shows-step S c o (Cut m) F u gone = shows-halt (shows-keep_record S c o F u) c o gone

  module _ (sized : is_size n ≡ true) (c : ℕ) (node : OneTo n c) {ν : Nodes} {s : Flags} where
    pub shows-send : {b : List ℕ} {q : Channel} → Shows n f b ν s q → Gone s q → (e : Entry) → Fit n e
        → (s e.to ≡ false → length (q c e.to) < capacity)
        → Shows n f (send n c e b) ν s (K.channels s c (mail n e ∷ []) q)
    shows-send {b} {q} S gone e fit room = shows-on S d fit.to (receive c x) ν s q' here other
      where
        d : ℕ
        d = e.to

        x : List ℕ
        x = slot n e.message e.view

        q' : Channel
        q' = K.channels s c (mail n e ∷ []) q

        m : M.Message
        m = message_of n d e.view e.message

        at : s d ≡ false → (a : ℕ) → Dec (a ≡ c) → upd (λ a. q a d) c (q c d ++ (m ∷ [])) a ≡ q' a d
        at f a (yes h) = rw h (upd_same (λ a. q a d) c (q c d ++ (m ∷ []))
            ∙ ap (λ l. q c d ++ l) (sym (sent-here d (mail n e) [] refl ∙ ap (λ l. m ∷ l) (sent-none d)))
            ∙ sym (channel-own s c (mail n e ∷ []) q c d f refl))
        at f a (no h) = upd_other (λ a. q a d) c (q c d ++ (m ∷ [])) a h
            ∙ sym (channel-other s c (mail n e ∷ []) q a d f h)

        go : (y : Bool) → s d ≡ y → Says n f d (receive c x (block b d)) (ν d) (s d) (λ a. q' a d)
        go true f = says_same small (says-drop small (S.says d fit.to) c x f)
            (λ a h. gone a d f ∙ sym (channel-stopped s c (mail n e ∷ []) q a d f))
        go false f = says_same small (says-receive small (S.says d fit.to) c node x m
            (slot-size n small sized d e.message e.view fit.layout)
            (slot-says n small sized d e.message e.view fit.layout)
            f (room f))
            (λ a h. at f a (ℕ_discrete a c))

        here : Says n f d (receive c x (block b d)) (ν d) (s d) (λ a. q' a d)
        here = go (s d) refl

        same : (k : ℕ) → k ≢ d → (y : Bool) → s k ≡ y → (a : ℕ) → Dec (a ≡ c) → q a k ≡ q' a k
        same k ne true f a h = gone a k f ∙ sym (channel-stopped s c (mail n e ∷ []) q a k f)
        same k ne false f a (yes h) = sym (channel-own s c (mail n e ∷ []) q a k f h
            ∙ ap (λ l. q a k ++ l) (sent-elsewhere k (mail n e) [] (λ z. ne (sym z)) ∙ sent-none k)
            ∙ append-nil (q a k))
        same k ne false f a (no h) = sym (channel-other s c (mail n e ∷ []) q a k f h)

        other : (k : ℕ) → OneTo n k → k ≢ d → Untouched n k ν ν s s q q'
        other k p ne = record { node = refl; stop = refl; waits = λ a h. same k ne (s k) refl a (ℕ_discrete a c) }
