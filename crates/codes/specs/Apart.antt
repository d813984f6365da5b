-- The codes at the border to C are told apart: a refusal's number is below those of done and never the code of an
-- ending, and from a code, with the view beside it, is read back what the event told and by which rule.
use Rattle.std.specs.Prelude.{ℕ, ◌-◌, ◌≤◌, ◌<◌, ◌≡◌, List, eqb, ltb}
use Rattle.octets.specs.Answer.{Answer, returned, refused}
use Rattle.octets.specs.Test.{pick}
use Rattle.view.specs.declared.View.{View}
use Rattle.wire.specs.Codec.{front, decode, answer}
use Rattle.wire.specs.declared.Message.{Message}
use Rattle.figures.specs.Figures.{figures_of}
use Rattle.page.specs.Page.{page_in}
use Rattle.record.specs.declared.Operation.{Operation}
use Rattle.step.specs.declared.Ending.{Ending}
use Rattle.step.specs.Told.{Told, refusal, nothing, done, scan, spent, spent_number, told, told_view}
use Rattle.outgoing.specs.declared.Extent.{Extent}
use Rattle.events.specs.Event.{Result, fresh, begin, deliver}
use Rattle.events.specs.Outcome.{told_of}
use Rattle.events.specs.Stop.{stop}
use Rattle.calls_bytes.specs.Entry as L
use Rattle.calls_bytes.specs.Frame.{frame}
use Rattle.codes.specs.Code.{last_refusal, frame_refusal, page_refusal, done_from, scan_from, event_code, rule_in}
use Rattle.codes.specs.Code.{code_of, lent_code}

-- What a code means, v the view beside it, and the rule in it. It names no refusal, so that it stands where others
-- come.
abbrev pub meant : ℕ → View → Told
meant k v =
    pick (eqb k 0) nothing
    (pick (eqb k spent_number) (spent k)
    (pick (ltb k done_from) (refusal k)
    (pick (ltb k scan_from) done (scan v))))

abbrev pub rule_meant : ℕ → ℕ
rule_meant k = pick (ltb k scan_from) (k - done_from) (k - scan_from)

-- The events of the calls, on any numbers and any bytes.
pub data EventCall : Result → Type 0 where
  by-fresh : (n f : ℕ) (b : List ℕ) → EventCall (fresh n f b)
  by-begin : (c : ℕ) (o : Operation) (x : Extent) (b : List ℕ) → EventCall (begin c o x b)
  by-deliver : (a c : ℕ) (x : Extent) (b : List ℕ) → EventCall (deliver a c x b)
  by-stop : (c : ℕ) (b : List ℕ) → EventCall (stop c b)

-- The calls at one node on lent bytes.
pub data NodeCall : L.LentResult → Type 0 where
  by-fresh-node : (n f own : ℕ) (r : List ℕ) → NodeCall (L.fresh n f own r)
  by-begin-node : (r : List ℕ) (o : Operation) (out : List ℕ) → NodeCall (L.begin r o out)
  by-message : (r : List ℕ) (s : ℕ) (b out : List ℕ) → NodeCall (L.message r s b out)
  by-frame : (r : List ℕ) (s : ℕ) (b out : List ℕ) → NodeCall (frame r s b out)

-- The greatest refusal of each: 12, and 14 of a frame.
abbrev pub last_of : {e : L.LentResult} → NodeCall e → ℕ
last_of (by-fresh-node n f own r) = last_refusal
last_of (by-begin-node r o out) = last_refusal
last_of (by-message r s b out) = last_refusal
last_of (by-frame r s b out) = frame_refusal

-- If an answer is a refusal, its number is 1 to `last`, below the codes of done, and not spent's.
pub record Numbered {A : Type 0} (last : ℕ) (a : Answer A) : Type 0 where
  pub number : (k : ℕ) → a ≡ refused k → (1 ≤ k) × (k ≤ last) × (k < done_from) × (k ≡ spent_number → ⊥)

pub record Apart : Type 0 where
  -- The refusals of events, each its own code, and those of the other calls, of which 0 says that there is a result.
  pub refusals : {e : Result} → EventCall e → Numbered last_refusal e.answer
  pub own_code : (e : Result) (k : ℕ) → e.answer ≡ refused k → code_of e ≡ k
  pub node-refusals : {e : L.LentResult} (c : NodeCall e) → Numbered (last_of c) e.ending
  pub reading : (n : ℕ) (b : List ℕ) → Numbered last_refusal (decode n b)
  pub walking : (n : ℕ) (b : List ℕ) → Numbered last_refusal (front n b)
  pub writing : (n : ℕ) (m : Message) (v : List ℕ) (room : ℕ) → Numbered last_refusal (answer n m v room)
  pub counting : (n : ℕ) (v : List ℕ) → Numbered last_refusal (figures_of n v)
  pub printing : (n : ℕ) (v : List ℕ) (room : ℕ) → Numbered page_refusal (page_in n v room)
  -- No ending has a refusal's code, nor any other that is left for one: below those of done, and not spent's.
  pub endings : (k : ℕ) → 1 ≤ k → k < done_from → (k ≡ spent_number → ⊥) → (x : Ending) (v : View)
      → event_code (refusal k) 0 ≡ event_code (told (returned x) v) (rule_in (returned x)) → ⊥
  -- What is told is read back, so that no two tellings have one code, but scans with two views, which are beside it.
  pub read_back : {e : Result} → EventCall e → meant (code_of e) e.view ≡ told_of e
  pub rule-back : {e : Result} → EventCall e → rule_meant (code_of e) ≡ rule_in e.answer
  pub node-read-back : {e : L.LentResult} → NodeCall e → meant (lent_code e) (told_view e.answer) ≡ e.answer
  pub node-rule-back : {e : L.LentResult} → NodeCall e → rule_meant (lent_code e) ≡ rule_in e.ending
