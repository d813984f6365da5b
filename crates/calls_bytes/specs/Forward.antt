-- Document 02, [5]: what a node forwards is, byte for byte, the value message that it received. Assumes nothing.
use Rattle.std.specs.Prelude.{ℕ, ◌≤◌, ◌≡◌, true, false, List, [], ◌∷◌, ◌++◌, leb, length, take}
use Rattle.octets.specs.Answer.{returned}
use Rattle.octets.specs.Test.{pick, both}
use Rattle.view.specs.View.{no_view, view_bytes}
use Rattle.view.specs.declared.Report.{Report}
use Rattle.view.specs.declared.View.{View}
use Rattle.wire.specs.Codec.{decode}
use Rattle.wire.specs.Layout.{encode, allowed}
use Rattle.wire.specs.declared.Message.{Message}
use Rattle.wire.specs.declared.Message.TheVariants.{Value}
use Rattle.record.specs.Usable.{sizes_within, is_open}
use Rattle.record.specs.declared.Node.{Node}
use Rattle.step.specs.declared.Ending.{Ending}
use Rattle.step.specs.declared.Ending.TheVariants.{None}
use Rattle.step.specs.declared.Outbox.{Outbox}
use Rattle.step.specs.Move.{message_step}
use Rattle.step.specs.React.{is_new, react}
use Rattle.step.specs.Step.{listed}
use Rattle.calls.specs.Bytes.{run}
use Rattle.calls.specs.Entry as N
use Rattle.region.specs.Record.{record_size, record_of}
use Rattle.calls_bytes.specs.Entry.{fresh, message}

-- what the open operation sends in a step, in bytes: what is there beside the handler's messages
abbrev pub operation_bytes : ℕ → Outbox → List ℕ
operation_bytes n o = run (view_bytes n o.view) (listed o.reading ++ listed o.comparing)

-- All that a value from node s, received as the bytes b, makes a node send: where it is new to the record those very
-- bytes, and then what the open operation sends.
abbrev pub sent_on : Node → (s : ℕ) (b : List ℕ) (t w : ℕ) → Report → List ℕ
sent_on c s b t w p =
    pick (is_new c w t) b [] ++ operation_bytes c.n (message_step c.f c s (Value t w p) no_view).outbox

pub record Forwards : Type 0 where
  -- Where a value is accepted, that is what is sent: by the call by value ..
  pub by_value : (c : Node) (s : ℕ) (b out : List ℕ) (x : Ending) (t w : ℕ) (p : Report)
      → (N.message c s b out).ending ≡ returned x → decode c.n b ≡ returned (Value t w p)
      → take (N.message c s b out).length (N.message c s b out).out ≡ sent_on c s b t w p
  -- .. and by the call on lent bytes.
  pub on-bytes : (r : List ℕ) (s : ℕ) (b out : List ℕ) (x : Ending) (t w : ℕ) (p : Report)
      → (message r s b out).ending ≡ returned x → decode (record_of r).n b ≡ returned (Value t w p)
      → take (message r s b out).length (message r s b out).out ≡ sent_on (record_of r) s b t w p
  -- Where no operation is open, the bytes received are all of it, or nothing is.
  pub alone : (c : Node) (s : ℕ) (b : List ℕ) (t w : ℕ) (p : Report) → is_open c.wait ≡ false
      → sent_on c s b t w p ≡ pick (is_new c w t) b []
  -- A handler sends no other value than the one that it handles, and the open operation none but the node's own.
  pub no_other : (c : Node) (s : ℕ) (m : Message) (v : View) (t w : ℕ) (p : Report) (before later : List Message)
      → listed (react c s m v).outbox.handler ≡ before ++ Value t w p ∷ later → m ≡ Value t w p
  pub own-only : (f : ℕ) (c : Node) (s : ℕ) (m : Message) (v : View) (t w : ℕ) (p : Report)
      (before later : List Message)
      → listed (message_step f c s m v).outbox.reading ++ listed (message_step f c s m v).outbox.comparing
      ≡ before ++ Value t w p ∷ later
      → w ≡ c.own
  -- There is such a call: a fresh record takes every value that is allowed, from every sender; it is new, and its bytes
  -- are all that is sent.
  pub at-fresh : (n f own s t w : ℕ) (p : Report) (r out : List ℕ) → sizes_within n f own ≡ true
      → both (leb 1 s) (leb s n) ≡ true → allowed n (Value t w p) [] ≡ true → length r ≡ record_size
      → N.least_output ≤ length out
      → ((message (fresh n f own r).bytes s (encode (Value t w p) []) out).ending ≡ returned None)
      × (is_new (record_of (fresh n f own r).bytes) w t ≡ true)
      × (take (message (fresh n f own r).bytes s (encode (Value t w p) []) out).length
      (message (fresh n f own r).bytes s (encode (Value t w p) []) out).out ≡ encode (Value t w p) [])
