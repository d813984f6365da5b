-- The channels of a cluster by the logs of its nodes: what was let out to a node that stands is a log up to some state,
-- and what has been handed over is the log up to an earlier one.
use Prim.Native.Nat.{ℕ}
use native.Mathlib.Decide.{ℕ_discrete}
use mathlib.Core.Path.{◌≡◌, refl, ap, sym, subst, ◌∙◌}
use mathlib.Core.Logic.{◌≢◌}
use mathlib.Core.Bool.{Bool, true, false, cond, decide, true≢false, false≢true}
use mathlib.Core.List.{List, [], ◌∷◌, ◌++◌}
use Rattle.logs.specs.Update.{upd, upd2}
use Rattle.logs.proofs.Update.{upd_same, upd_other, upd-self, upd-all, upd-both, upd2-both}
use Rattle.logs.specs.Log.{◌⊑◌, here, push}
use Rattle.logs.proofs.Log.{⊑_trans, push-up}
use Rattle.history.specs.Message.{Message}
use Rattle.history.specs.Event.{Extent, whole, cut, Sent, sent_to}
use Rattle.history.specs.Order.{OneTo}
use Rattle.algorithm.proofs.Cert.{Logs}
use Rattle.eqaso.specs.Cluster.{entries, shortened, halted, channels}
use Rattle.eqaso.proofs.Between.{Between, nothing-between, between_more, Handed, hand-over, handed-at}
use Rattle.eqaso.proofs.Front.{first, front, front-is, front-up}

abbrev pub Channels : Type 0
Channels = ℕ → ℕ → List Message

-- out a is the log of node a, gone a b how far it was let out towards b, got b a how far it has been handed to b.
pub record Fits (n : ℕ) (stopped : ℕ → Bool) (channel : Channels) (out : Logs) (gone got : ℕ → Logs) : Type 0 where
  pub gone-in : (a b : ℕ) → gone a b ⊑ out a
  pub gone-all : (a b : ℕ) → stopped a ≡ false → gone a b ≡ out a
  pub got_in : (a b : ℕ) → got b a ⊑ gone a b
  pub waiting : (a b : ℕ) → OneTo n b → stopped b ≡ false → Between b (got b a) (channel a b) (gone a b)
  pub emptied : (a b : ℕ) → stopped b ≡ true → channel a b ≡ []

pub fits-start : (n : ℕ) → Fits n (λ c. false) (λ a b. []) (λ a. []) (λ a b. []) (λ b a. [])
fits-start n = record {
  gone-in = λ a b. here;
  gone-all = λ a b s. refl;
  got_in = λ a b. here;
  waiting = λ a b h s. nothing-between b [];
  emptied = λ a b s. absurd (false≢true s);
}

-- The channels after an act of node c.
module _ (stopped : ℕ → Bool) (c : ℕ) (l : List Sent) (channel : Channels) where
  pub channels-from : (b : ℕ) → stopped b ≡ false → channels stopped c l channel c b ≡ channel c b ++ sent_to b l
  unfolding decide
  channels-from b s = rw s (go (ℕ_discrete c c))
    where
      go : (d : Dec (c ≡ c)) → cond (decide d) (channel c b ++ sent_to b l) (channel c b) ≡ channel c b ++ sent_to b l
      go (yes e) = refl
      go (no e) = absurd (e refl)

  pub channels-other : (a b : ℕ) → stopped b ≡ false → a ≢ c → channels stopped c l channel a b ≡ channel a b
  unfolding decide
  channels-other a b s h = rw s (go (ℕ_discrete a c))
    where
      go : (d : Dec (a ≡ c)) → cond (decide d) (channel a b ++ sent_to b l) (channel a b) ≡ channel a b
      go (yes e) = absurd (h e)
      go (no e) = refl

  pub channels-stopped : (a b : ℕ) → stopped b ≡ true → channels stopped c l channel a b ≡ []
  channels-stopped a b s = rw s refl

-- Who stands after an event stood before it.
pub stood : (x : Extent) (c : ℕ) (stopped : ℕ → Bool) (b : ℕ) → halted x c stopped b ≡ false → stopped b ≡ false
stood whole c stopped b s = s
stood (cut k) c stopped b s = go (ℕ_discrete b c)
  where
    go : Dec (b ≡ c) → stopped b ≡ false
    go (yes e) = absurd (true≢false (sym (upd_same stopped c true) ∙ subst (λ z. upd stopped c true z ≡ false) e s))
    go (no e) = sym (upd_other stopped c true b e) ∙ s

module _ {n : ℕ} {stopped : ℕ → Bool} {channel : Channels} {out : Logs} {gone got : ℕ → Logs}
    (F : Fits n stopped channel out gone got) where
  -- The message that has waited longest on a channel is handed over.
  pub fits-hand : (a b : ℕ) {m : Message} {rest : List Message} → OneTo n b → stopped b ≡ false → channel a b ≡ m ∷ rest
      → (d : Handed b (got b a) m rest (gone a b))
      × Fits n stopped (upd2 channel a b rest) out gone (upd2 got b a (m ∷ d.place))
  fits-hand a b {m} {rest} node stands e = (
    d,
    record {
      gone-in = F.gone-in;
      gone-all = F.gone-all;
      got_in = upd2-both (λ a b c g. g ⊑ gone a b) channel got a b rest (m ∷ d.place) F.got_in (handed-at d);
      waiting = upd2-both (λ a b c g. OneTo n b → stopped b ≡ false → Between b g c (gone a b)) channel got a b rest
          (m ∷ d.place) F.waiting (λ h s. d.left);
      emptied = upd2-both (λ a b c g. stopped b ≡ true → c ≡ []) channel got a b rest
          (m ∷ d.place) F.emptied (λ s. absurd (true≢false (sym s ∙ stands)));
    },
  )
    where
      d : Handed b (got b a) m rest (gone a b)
      d = hand-over (subst (λ c. Between b (got b a) c (gone a b)) e (F.waiting a b node stands))

  -- Node c takes a step.
  pub fits-act : (c : ℕ) (x : Extent) (new : List Message) → stopped c ≡ false
      → Fits n (halted x c stopped) (channels (halted x c stopped) c (shortened x (entries n new)) channel)
      (upd out c (push new (out c))) (upd gone c (λ b. push (front n x b new) (gone c b))) got
  fits-act c x new stands = record {
    gone-in = λ a b. upd-both (λ a o g. g b ⊑ o) out gone c _ _ (λ a h. F.gone-in a b)
        (rw (F.gone-all c b stands) (front-up n x b new (out c))) a;
    gone-all = λ a b. upd-both (λ a o g. halted x c stopped a ≡ false → g b ≡ o) out gone c _ _
        (λ a h s. F.gone-all a b (stood x c stopped a s)) (all x b) a;
    got_in = λ a b. upd-all (λ a g. got b a ⊑ g b) gone c _ (λ a h. F.got_in a b)
        (⊑_trans (F.got_in c b) (push-up (front n x b new) (gone c b))) a;
    waiting = λ a b h s. upd-all (λ a g. Between b (got b a) (channels after c sent channel a b) (g b)) gone c _
        (λ a o. rw (channels-other after c sent channel a b s o) (F.waiting a b h (stood x c stopped b s)))
        (rw (channels-from after c sent channel b s, front-is n b h x new)
        (between_more (front n x b new) (F.waiting c b h (stood x c stopped b s)))) a;
    emptied = channels-stopped after c sent channel;
  }
    where
      after : ℕ → Bool
      after = halted x c stopped

      sent : List Sent
      sent = shortened x (entries n new)

      all : (x : Extent) (b : ℕ) → halted x c stopped c ≡ false → push (front n x b new) (gone c b) ≡ push new (out c)
      all whole b s = ap (push new) (F.gone-all c b stands)
      all (cut k) b s = absurd (true≢false (sym (upd_same stopped c true) ∙ s))

  -- Node c stops and lets out nothing.
  pub fits-stop : (c : ℕ) → stopped c ≡ false
      → Fits n (upd stopped c true) (channels (upd stopped c true) c [] channel) out gone got
  unfolding first
  fits-stop c stands =
      let after : ℕ → Bool = upd stopped c true in
      let left : Channels = channels after c [] channel in
      subst (λ o. Fits n after left o gone got) (upd-self out c)
      (subst (λ g. Fits n after left (upd out c (out c)) g got) (upd-self gone c) (fits-act c (cut 0) [] stands))
