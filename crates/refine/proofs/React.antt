-- The handlers: what a message does at a node, whatever the node waits for, is the same.
use Prim.Native.Nat.{ℕ, ◌≤◌, ◌<◌}
use native.Mathlib.Omega.{arith}
use native.Mathlib.Decide.{dec_lt}
use mathlib.Core.Path.{◌≡◌, refl, sym, ◌∙◌}
use mathlib.Core.Logic.{ite}
use mathlib.Core.Bool.{Bool, true, false, cond, true≢false}
use mathlib.Core.List.{List, [], ◌∷◌}
use lib.Dec.{ltb}
use borrow.Author.Tests.{lt-ltb, le-ltb}
use Rattle.logs.specs.Update.{upd}
use Rattle.logs.specs.Log.{◌∈◌}
use Rattle.view.specs.declared.Report.{Report}
use Rattle.view.specs.declared.View.{View}
use Rattle.wire.specs.declared.Message.{Message}
use Rattle.wire.specs.declared.Message.TheVariants.{Read, ReadAnswer, Write, WriteAnswer, Echo, Value, Good}
use Rattle.octets.specs.Test.{pick}
use Rattle.view.specs.Size.{nodes}
use Rattle.record.specs.declared.Node.{Node}
use Rattle.step.specs.declared.Sent.{Sent}
use Rattle.step.specs.declared.Sent.TheVariants.{Nothing, One, Two}
use Rattle.step.specs.Step.{started}
use Rattle.step.specs.React.{react, raised, is_new, received}
use Rattle.history.specs.Message as M
use Rattle.history.specs.Order.{OneTo}
use Rattle.algorithm.specs.Algorithm as A
use Rattle.algorithm.specs.Algorithm.{◌then◌}
use Rattle.algorithm.specs.Node.{topping, holding}
use Rattle.algorithm.proofs.Sets.{has-to, has_of}
use Rattle.eqaso.specs.Bounded.{BoundedNode}
use Rattle.eqaso.specs.Bounded.{Expected}
use Rattle.eqaso.proofs.BoundedStep.{reacts}
use Rattle.refine.specs.Meaning.{message_of}
use Rattle.refine.specs.Follows.{Sized, Follows}
use Rattle.refine.proofs.Answered.{read-answered, write-answered}
use Rattle.refine.proofs.Raised.{raised-higher, raised-not, kept-follows}
use Rattle.refine.proofs.Received.{value_of, not_new, is-new, received-again, received-new}
use Rattle.refine.proofs.Lockstep.{Means, Handled, Together}

module _ {n f i : ℕ} (small : n ≤ nodes) {ν : A.Node} {c : Node} (F : Follows n f i ν c) (b : BoundedNode n ν) (k : ℕ)
    (sender : OneTo n k) where
  -- What a handler does and sends, the sets staying bounded.
  abbrev Same : Node → Sent → A.Step → Type 0
  Same d m t = BoundedNode n t.node → Together n f i k (Handled n) (started d k m) t

  sends : (m : Sent) (l : List M.Message) {d : Node} {μ : A.Node} → Follows n f i μ d → Means n k m l
      → Same d m (A.sending l μ)
  sends m l G h bounded = record {
    sent = record { handler = h; reading = refl; comparing = refl };
    to = refl;
    ending = refl;
    node = G;
    bounded = bounded;
    over = tt;
  }

  written : (q t : ℕ) → Same (raised c t)
      (pick (ltb c.maxtag t) (Two (Echo t) (WriteAnswer q t)) (One (WriteAnswer q t)))
      (A.raise t ν then A.sending (M.write_answer k q t ∷ []))
  written q t = go (dec_lt ν.maxtag t)
    where
      go : (d : Dec (ν.maxtag < t)) → Same (raised c t)
          (pick (ltb c.maxtag t) (Two (Echo t) (WriteAnswer q t)) (One (WriteAnswer q t)))
          (ite d (A.sending (M.echo t ∷ []) (topping t ν)) (A.still ν) then A.sending (M.write_answer k q t ∷ []))
      go (yes h) = rw (lt-ltb c.maxtag t (omega (arith, F.maxtag)))
          (sends (Two (Echo t) (WriteAnswer q t)) (M.echo t ∷ M.write_answer k q t ∷ []) (raised-higher F t small b h)
          (λ v. refl))
      go (no h) = rw (le-ltb c.maxtag t (omega (arith, F.maxtag)))
          (sends (One (WriteAnswer q t)) (M.write_answer k q t ∷ []) (raised-not F t h) (λ v. refl))

  echoed : (t : ℕ) → Same (raised c t) (pick (ltb c.maxtag t) (One (Echo t)) Nothing) (A.raise t ν)
  echoed t = go (dec_lt ν.maxtag t)
    where
      go : (d : Dec (ν.maxtag < t)) → Same (raised c t) (pick (ltb c.maxtag t) (One (Echo t)) Nothing)
          (ite d (A.sending (M.echo t ∷ []) (topping t ν)) (A.still ν))
      go (yes h) = rw (lt-ltb c.maxtag t (omega (arith, F.maxtag)))
          (sends (One (Echo t)) (M.echo t ∷ []) (raised-higher F t small b h) (λ v. refl))
      go (no h) = rw (le-ltb c.maxtag t (omega (arith, F.maxtag))) (sends Nothing [] (raised-not F t h) (λ v. refl))

  valued : (t w : ℕ) (p : Report) → Expected n k ν (M.value (value_of t w p))
      → Same (received c k w t p) (pick (is_new c w t) (One (Value t w p)) Nothing) (A.receive k (value_of t w p) ν)
  valued t w p a = go (A.has ν.all v) refl
    where
      v : M.Value
      v = value_of t w p

      from : ℕ → List M.Value
      from = upd ν.from k (v ∷ ν.from k)

      go : (y : Bool) → A.has ν.all v ≡ y → Same (received c k w t p)
          (pick (is_new c w t) (One (Value t w p)) Nothing)
          (cond y (A.still (holding ν.all from ν)) (A.sending (M.value v ∷ []) (holding (v ∷ ν.all) from ν)))
      go true e = let m : v ∈ ν.all = has-to ν.all v e in
          rw (not_new small F k w t p sender a m)
          (sends Nothing [] (received-again small F k w t p sender a m) (λ x. refl))
      go false e = let new : ¬ (v ∈ ν.all) = λ m. true≢false (sym (has_of m) ∙ e) in
          rw (is-new small F k w t p sender a new)
          (sends (One (Value t w p)) (M.value v ∷ []) (received-new small F k w t p sender a new) (λ x. refl))

  pub react-follows : (m : Message) (v : View) → Sized v → Expected n k ν (message_of n i v m)
      → Together n f i k (Handled n) (react c k m v) (A.react k (message_of n i v m) ν)
  unfolding react
  react-follows m v z a = by m a (reacts n k (message_of n i v m) ν b a)
    where
      by : (m : Message) → Expected n k ν (message_of n i v m) → BoundedNode n (A.react k (message_of n i v m) ν).node
          → Together n f i k (Handled n) (react c k m v) (A.react k (message_of n i v m) ν)
      by (Read q) a = sends (One (ReadAnswer q c.maxtag)) (M.read_answer k q ν.maxtag ∷ []) F
          (λ x. rw F.maxtag refl)
      by (ReadAnswer q t) a = sends Nothing [] (read-answered F k q t sender refl F.wait) (λ x. refl)
      by (Write q t) a = written q t
      by (WriteAnswer q t) a = sends Nothing [] (write-answered F k q t sender refl refl F.wait) (λ x. refl)
      by (Echo t) a = echoed t
      by (Value t w p) a = valued t w p a
      by (Good t) a = sends Nothing [] (kept-follows F t v z) (λ x. refl)
