-- What a step leaves: the invariant, and with an ending the certificate of its view.
use Prim.Native.Nat.{ℕ, suc, ◌≤◌}
use mathlib.Core.Path.{◌≡◌}
use mathlib.Core.List.{List}
use Rattle.logs.specs.Update.{upd}
use Rattle.logs.specs.Log.{◌∈◌, push}
use Rattle.logs.proofs.Log.{push-append}
use Rattle.history.specs.Message.{Value, of, View}
use Rattle.history.specs.Event.{Operation, update, scan, Ending, none, done, shown, spent}
use Rattle.algorithm.specs.Algorithm.{Node, Step, still, then_by, ◌then◌, view_upto}
use Rattle.algorithm.proofs.Cert.{Log, Logs, Inside, Cert}
use Rattle.algorithm.proofs.Local.{Past, Settled, Local}

module _ (n f : ℕ) where
  -- A view at an ending: that of a certificate which covers every certificate of before the begin.
  pub record Final (lg base : Logs) (view : View) (T : ℕ) (A : List Value) : Type 0 where
    pub is : view ≡ view_upto n T A
    pub cert : Cert n f lg T A
    pub covers : (U : ℕ) (B : List Value) → Cert n f base U B → Inside U B T A

  -- An update at its ending: its own value is in its view, and a quorum has it.
  pub record Done (lg base : Logs) (v : Value) (view : View) : Type 0 where
    pub T : ℕ
    pub A : List Value
    pub final : Final lg base view T A
    pub own : v ∈ A
    pub low : v.tag ≤ T
    pub settled : Settled n f lg v

  abbrev pub Ended : (lg base : Logs) (i r : ℕ) → Operation → Ending → Type 0
  Ended lg base i r op none = Unit {0}
  Ended lg base i r (update p) (done rule view) = Done lg base (of (suc r) i p) view
  Ended lg base i r (update p) (shown rule view) = ⊥
  Ended lg base i r (update p) spent = Unit {0}
  Ended lg base i r scan (done rule view) = ⊥
  Ended lg base i r scan (shown rule view) = (T : ℕ) × (A : List Value) × Final lg base view T A
  Ended lg base i r scan spent = ⊥

  pub record Fine (out : Logs) (γ : Past) (i r : ℕ) (op : Operation) (l : Log) (s : Step) : Type 0 where
    pub kept : Local n f out γ i r op s.node (push s.sent l)
    pub ended : Ended (upd out i (push s.sent l)) γ.base i r op s.ending

  module _ {out : Logs} {γ : Past} {i r : ℕ} {op : Operation} {l : Log} where
    -- Nothing has happened.
    pub fine-still : {ν : Node} → Local n f out γ i r op ν l → Fine out γ i r op l (still ν)
    fine-still c = record { kept = c; ended = tt }

    -- One part of a step after another.
    pub chain : (s : Step) (part : Node → Step) → Fine out γ i r op l s
        → (Local n f out γ i r op s.node (push s.sent l) → Fine out γ i r op (push s.sent l) (part s.node))
        → Fine out γ i r op l (s then part)
    chain s part x next = go s.ending
      where
        t : Step
        t = part s.node

        y : Fine out γ i r op (push s.sent l) t
        y = next x.kept

        go : (e : Ending) → Fine out γ i r op l (then_by s t e)
        go none = record {
          kept = rw (push-append s.sent t.sent l) y.kept;
          ended = rw (push-append s.sent t.sent l) y.ended;
        }
        go (done rule v) = x
        go (shown rule v) = x
        go spent = x
