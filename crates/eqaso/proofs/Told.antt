-- What a trace shows as let out to a node is what the log of its sender holds for it, as far as it was let out.
use Prim.Native.Nat.{ℕ}
use mathlib.Core.Path.{◌≡◌}
use mathlib.Core.List.{List, [], ◌∷◌, ◌++◌, append-nil}
use Rattle.logs.specs.Update.{upd}
use Rattle.logs.proofs.Update.{upd-all}
use Rattle.logs.specs.Log.{◌∈◌, push}
use Rattle.history.specs.Message.{Message}
use Rattle.history.specs.Event.{Extent}
use Rattle.history.specs.Trace.{Seen, Trace, handler, let_out_to}
use Rattle.history.specs.Order.{OneTo}
use Rattle.algorithm.proofs.Cert.{Logs}
use Rattle.algorithm.proofs.Meant.{Meant}
use Rattle.eqaso.specs.Cluster.{entries, shortened}
use Rattle.eqaso.proofs.Between.{Between, nothing-between, between_more, between_in}
use Rattle.eqaso.proofs.Front.{front, front-is}
use Rattle.eqaso.proofs.Snoc.{passed-own, passed-other, passed_none, let_out_to-snoc}

pub record Told (n : ℕ) (tr : Trace) (gone : ℕ → Logs) : Type 0 where
  pub lets : (a b : ℕ) → OneTo n b → Between b [] (let_out_to tr a b) (gone a b)

pub told-start : (n : ℕ) → Told n [] (λ a b. [])
unfolding let_out_to
told-start n = record { lets = λ a b h. nothing-between b [] }

-- An event that lets nothing out.
pub told_none : {n : ℕ} {tr : Trace} {gone : ℕ → Logs} (o : Seen) → o.sent ≡ [] → Told n tr gone
    → Told n (tr ++ (o ∷ [])) gone
told_none {n} {tr} {gone} o e t = record {
  lets = λ a b h. rw (let_out_to-snoc tr o a b, passed_none o a b e, append-nil (let_out_to tr a b)) (t.lets a b h);
}

-- An event that lets out what its extent says of a list of messages.
pub told-act : {n : ℕ} {tr : Trace} {gone : ℕ → Logs} (o : Seen) (x : Extent) (new : List Message)
    → o.sent ≡ shortened x (entries n new) → Told n tr gone
    → Told n (tr ++ (o ∷ []))
    (upd gone (handler o.event) (λ b. push (front n x b new) (gone (handler o.event) b)))
told-act {n} {tr} {gone} o x new e t = record {
  lets = λ a b h. upd-all (λ a g. Between b [] (let_out_to (tr ++ (o ∷ [])) a b) (g b)) gone c _
      (λ a ne. rw (let_out_to-snoc tr o a b, passed-other o a b ne, append-nil (let_out_to tr a b)) (t.lets a b h))
      (rw (let_out_to-snoc tr o c b, passed-own o b, e, front-is n b h x new)
      (between_more (front n x b new) (t.lets c b h))) a;
}
  where
    c : ℕ
    c = handler o.event

module _ {n : ℕ} {tr : Trace} {gone : ℕ → Logs} (t : Told n tr gone) where
  pub told_in : (a b : ℕ) (m : Message) → OneTo n b → m ∈ let_out_to tr a b → (m ∈ gone a b) × Meant b m
  told_in a b m h i = between_in (t.lets a b h) m i
