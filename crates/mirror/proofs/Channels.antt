-- The channels of the algorithm's cluster after an event, one by one, and the entries of a step on both sides.
use Prim.Native.Nat.{ℕ, zero, suc}
use native.Mathlib.Omega.{arith}
use native.Mathlib.Decide.{ℕ_discrete}
use mathlib.Core.Path.{◌≡◌, refl, sym, ap, ap₂, ◌∙◌, fun_ext}
use mathlib.Core.Logic.{◌≢◌}
use mathlib.Core.Bool.{Bool, true, false, cond, decide}
use mathlib.Core.List.{List, [], ◌∷◌, ◌++◌, map, map-append, append-nil, append_assoc}
use lib.ListN.{length, take}
use borrow.Author.Tests.{eq-eqb, ne_eqb}
use Rattle.table.specs.Loop.{numbered}
use Rattle.view.specs.declared.View.{View}
use Rattle.wire.specs.declared.Message.{Message}
use Rattle.wire.specs.declared.Message.TheVariants.{Read, ReadAnswer, Write, WriteAnswer, Echo, Value, Good}
use Rattle.outgoing.specs.Entries.{Entry, entry, addressed, entries_of, go_to}
use Rattle.history.specs.Message as M
use Rattle.history.specs.Event as H
use Rattle.algorithm.specs.Algorithm as A
use Rattle.eqaso.specs.Cluster as K
use Rattle.refine.specs.Meaning.{message_of}
use Rattle.mirror.specs.Mirrors.{mail}

abbrev pub Channel : Type 0
Channel = ℕ → ℕ → List M.Message

module _ (s : ℕ → Bool) (c : ℕ) (l : List H.Sent) (q : Channel) (a d : ℕ) where
  pub channel-stopped : s d ≡ true → K.channels s c l q a d ≡ []
  channel-stopped e = rw e refl

  pub channel-own : s d ≡ false → a ≡ c → K.channels s c l q a d ≡ q a d ++ H.sent_to d l
  unfolding decide
  channel-own e h = rw e (go (ℕ_discrete a c))
    where
      go : (x : Dec (a ≡ c)) → cond (decide x) (q a d ++ H.sent_to d l) (q a d) ≡ q a d ++ H.sent_to d l
      go (yes p) = refl
      go (no p) = absurd (p h)

  pub channel-other : s d ≡ false → a ≢ c → K.channels s c l q a d ≡ q a d
  unfolding decide
  channel-other e h = rw e (go (ℕ_discrete a c))
    where
      go : (x : Dec (a ≡ c)) → cond (decide x) (q a d ++ H.sent_to d l) (q a d) ≡ q a d
      go (yes p) = absurd (h p)
      go (no p) = refl

-- What one entry more brings to a node.
module _ (d : ℕ) (e : H.Sent) (l : List H.Sent) where
  pub sent-here : e.to ≡ d → H.sent_to d (e ∷ l) ≡ e.message ∷ H.sent_to d l
  unfolding H.sent_to decide
  sent-here h = go (ℕ_discrete e.to d)
    where
      go : (x : Dec (e.to ≡ d)) → cond (decide x) (e.message ∷ H.sent_to d l) (H.sent_to d l)
          ≡ e.message ∷ H.sent_to d l
      go (yes p) = refl
      go (no p) = absurd (p h)

  pub sent-elsewhere : e.to ≢ d → H.sent_to d (e ∷ l) ≡ H.sent_to d l
  unfolding H.sent_to decide
  sent-elsewhere h = go (ℕ_discrete e.to d)
    where
      go : (x : Dec (e.to ≡ d)) → cond (decide x) (e.message ∷ H.sent_to d l) (H.sent_to d l) ≡ H.sent_to d l
      go (yes p) = absurd (h p)
      go (no p) = refl

pub sent-none : (d : ℕ) → H.sent_to d [] ≡ []
unfolding H.sent_to
sent-none d = refl

pub sent-first : (d : ℕ) (e : H.Sent) (l : List H.Sent) → H.sent_to d (e ∷ l) ≡ H.sent_to d (e ∷ []) ++ H.sent_to d l
sent-first d e l = elim (ℕ_discrete e.to d) [
  | yes h ↦ sent-here d e l h ∙ sym (ap (λ x. x ++ H.sent_to d l)
      (sent-here d e [] h ∙ ap (λ x. e.message ∷ x) (sent-none d)))
  | no h ↦ sent-elsewhere d e l h ∙ sym (ap (λ x. x ++ H.sent_to d l) (sent-elsewhere d e [] h ∙ sent-none d))
]

-- One entry after another, as one list.
pub channels-more : (s : ℕ → Bool) (c : ℕ) (e : H.Sent) (l : List H.Sent) (q : Channel) (a d : ℕ)
    → K.channels s c l (K.channels s c (e ∷ []) q) a d ≡ K.channels s c (e ∷ l) q a d
channels-more s c e l q a d = go (s d) refl (ℕ_discrete a c)
  where
    q₁ : Channel
    q₁ = K.channels s c (e ∷ []) q

    go : (y : Bool) → s d ≡ y → Dec (a ≡ c) → K.channels s c l q₁ a d ≡ K.channels s c (e ∷ l) q a d
    go true p h = channel-stopped s c l q₁ a d p ∙ sym (channel-stopped s c (e ∷ l) q a d p)
    go false p (yes h) = channel-own s c l q₁ a d p h ∙ ap (λ x. x ++ H.sent_to d l) (channel-own s c (e ∷ []) q a d p
        h)
        ∙ append_assoc (q a d) (H.sent_to d (e ∷ [])) (H.sent_to d l) ∙ ap (λ x. q a d ++ x) (sym (sent-first d e l))
        ∙ sym (channel-own s c (e ∷ l) q a d p h)
    go false p (no h) = channel-other s c l q₁ a d p h ∙ channel-other s c (e ∷ []) q a d p h
        ∙ sym (channel-other s c (e ∷ l) q a d p h)

-- How many entries go to a node.
pub same-go_to : (n d : ℕ) (l : List Entry) → go_to d l ≡ length (H.sent_to d (map (mail n) l))
unfolding go_to
same-go_to n d [] = ap length (sym (sent-none d))
same-go_to n d (e ∷ l) = elim (ℕ_discrete e.to d) [
  | yes h ↦ rw (eq-eqb e.to d h, same-go_to n d l)
      (omega (arith, ap length (sent-here d (mail n e) (map (mail n) l) h)))
  | no h ↦ rw (ne_eqb e.to d h, same-go_to n d l) (ap length (sym (sent-elsewhere d (mail n e) (map (mail n) l) h)))
]

-- The entries of messages are the same.
same-numbered : (n m : ℕ) (f : ℕ → Entry) → map (mail m) (numbered n f) ≡ A.table (λ b. mail m (f b)) n
unfolding numbered A.table
same-numbered zero m f = refl
same-numbered (suc n) m f = map-append (mail m) (numbered n f) (f (suc n) ∷ [])
    ∙ ap (λ l. l ++ (mail m (f (suc n)) ∷ [])) (same-numbered n m f)

same-addressed : (n a : ℕ) (v : View) (m : Message)
    → map (mail n) (addressed n a v m) ≡ K.addressed n (message_of n a v m)
unfolding addressed
same-addressed n a v (Read q) = same-numbered n n (entry v (Read q))
same-addressed n a v (ReadAnswer q t) = refl
same-addressed n a v (Write q t) = same-numbered n n (entry v (Write q t))
same-addressed n a v (WriteAnswer q t) = refl
same-addressed n a v (Echo t) = same-numbered n n (entry v (Echo t))
same-addressed n a v (Value t w p) = same-numbered n n (entry v (Value t w p))
same-addressed n a v (Good t) = same-numbered n n (entry v (Good t))

pub same_entries : (n a : ℕ) (v : View) (l : List Message)
    → map (mail n) (entries_of n a v l) ≡ K.entries n (map (message_of n a v) l)
unfolding entries_of K.entries
same_entries n a v [] = refl
same_entries n a v (m ∷ l) = map-append (mail n) (addressed n a v m) (entries_of n a v l)
    ∙ ap₂ (λ x y. x ++ y) (same-addressed n a v m) (same_entries n a v l)

pub map-take : {X Y : Type 0} (g : X → Y) (m : ℕ) (l : List X) → map g (take m l) ≡ take m (map g l)
map-take g zero l = refl
map-take g (suc m) [] = refl
map-take g (suc m) (x ∷ l) = ap (λ r. g x ∷ r) (map-take g m l)

pub channels-none : (s : ℕ → Bool) (c : ℕ) (q : Channel) → ((a d : ℕ) → s d ≡ true → q a d ≡ []) → (a d : ℕ)
    → K.channels s c [] q a d ≡ q a d
channels-none s c q gone a d = go (s d) refl (ℕ_discrete a c)
  where
    go : (y : Bool) → s d ≡ y → Dec (a ≡ c) → K.channels s c [] q a d ≡ q a d
    go true e h = channel-stopped s c [] q a d e ∙ sym (gone a d e)
    go false e (yes h) = channel-own s c [] q a d e h ∙ ap (λ l. q a d ++ l) (sent-none d) ∙ append-nil (q a d)
    go false e (no h) = channel-other s c [] q a d e h

-- The channels to stopped nodes may be emptied before or after.
abbrev pub emptied : (ℕ → Bool) → Channel → Channel
emptied s q a d = cond (s d) [] (q a d)

pub channels-emptied : (s : ℕ → Bool) (c : ℕ) (l : List H.Sent) (q : Channel)
    → K.channels s c l (emptied s q) ≡ K.channels s c l q
channels-emptied s c l q = fun_ext (λ a. fun_ext (λ d. go a d (s d) refl (ℕ_discrete a c)))
  where
    go : (a d : ℕ) (y : Bool) → s d ≡ y → Dec (a ≡ c) → K.channels s c l (emptied s q) a d ≡ K.channels s c l q a d
    go a d true e h = channel-stopped s c l (emptied s q) a d e ∙ sym (channel-stopped s c l q a d e)
    go a d false e (yes h) = channel-own s c l (emptied s q) a d e h ∙ ap (λ y. cond y [] (q a d) ++ H.sent_to d l) e
        ∙ sym (channel-own s c l q a d e h)
    go a d false e (no h) = channel-other s c l (emptied s q) a d e h ∙ ap (λ y. cond y [] (q a d)) e
        ∙ sym (channel-other s c l q a d e h)

pub emptied-gone : (s : ℕ → Bool) (q : Channel) (a d : ℕ) → s d ≡ true → emptied s q a d ≡ []
emptied-gone s q a d e = rw e refl
