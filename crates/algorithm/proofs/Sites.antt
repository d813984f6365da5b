-- A node with all that the proof remembers of it, and how a step changes that.
use Prim.Native.Nat.{ℕ, suc}
use mathlib.Core.Logic.{◌⊎◌}
use mathlib.Core.List.{[], ◌∷◌}
use Rattle.logs.specs.Update.{upd}
use Rattle.logs.specs.Log.{◌∈◌, ◌⊑◌, push}
use Rattle.history.specs.Message.{Message}
use Rattle.history.specs.Event.{Operation, scan}
use Rattle.algorithm.specs.Algorithm.{nobody, reading, Node, fresh, asking, react, message_step, begin_step}
use Rattle.algorithm.proofs.Cert.{Log, Logs}
use Rattle.algorithm.proofs.Local.{Past}
use Rattle.algorithm.proofs.Meant.{Meant, Others}
use Rattle.algorithm.proofs.Change.{handing}
use Rattle.algorithm.proofs.Read.{read_tag}

-- A node with all that the proof remembers of it: what it has sent, what it was handed, its last operation, and the tag
-- that this has read.
pub record Site : Type 0 where
  pub node : Node
  pub log : Log
  pub past : Past
  pub op : Operation
  pub tag : ℕ

abbrev pub Sites : Type 0
Sites = ℕ → Site

abbrev pub logs : Sites → Logs
logs σ k = (σ k).log

abbrev pub new : Site
new = record { node = fresh; log = []; past = record { got = λ k. []; base = λ k. []; first = 0 }; op = scan; tag = 0 }

-- Node i after it was handed message m from node k, whose log before m is p.
abbrev pub handed : (n f i k : ℕ) → Message → Log → Site → Site
handed n f i k m p s = record {
  node = (message_step n f i k m s.node).node;
  log = push (message_step n f i k m s.node).sent s.log;
  past = handing (upd s.past.got k (m ∷ p)) s.past;
  op = s.op;
  tag = read_tag n f s.tag (react k m s.node).node (react k m s.node).node.wait;
}

-- Node i after the begin of an operation, when the logs are those of base.
abbrev pub begun : (n f i : ℕ) → Operation → Logs → Site → Site
begun n f i op base s = record {
  node = (begin_step n f i op s.node).node;
  log = push (begin_step n f i op s.node).sent s.log;
  past = record { got = s.past.got; base = base; first = suc s.node.request };
  op = op;
  tag = read_tag n f 0 (asking (reading op nobody 0) s.node) (reading op nobody 0);
}

-- Message m of the log of node k is handed to node i. What stands before it has been handed over, or is for others.
pub record Comes (σ : Sites) (i k : ℕ) (m : Message) (p : Log) : Type 0 where
  pub meant : Meant i m
  pub late : (σ i).past.got k ⊑ p
  pub skipped : (x : Message) → x ∈ p → (x ∈ (σ i).past.got k) ⊎ Others i x
  pub at : (m ∷ p) ⊑ (σ k).log
