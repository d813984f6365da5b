-- What is forwarded of a frame is the value message as it lies there: the claims of specs/Forward. Assumes nothing.
use Prim.Native.Nat.{ℕ}
use mathlib.Core.Path.{◌≡◌, refl, sym, ap, ◌∙◌, subst}
use mathlib.Core.List.{List, [], ◌∷◌, ◌++◌, append_assoc}
use lib.ListN.{length, take}
use Rattle.octets.specs.Answer.{returned}
use Rattle.octets.specs.Bytes.{part}
use Rattle.octets.proofs.Put.{part-seam}
use Rattle.view.specs.declared.Report.{Report}
use Rattle.wire.specs.Codec.{decode, view_part}
use Rattle.wire.specs.Layout.{encode, value_size}
use Rattle.wire.specs.declared.Message.{Message}
use Rattle.wire.specs.declared.Message.TheVariants.{Value}
use Rattle.wire.proofs.RoundTrip.{read_only}
use Rattle.record.specs.declared.Node.{Node}
use Rattle.step.specs.declared.Ending.{Ending}
use Rattle.step.specs.declared.Step.{Step}
use Rattle.step.specs.Move.{message_step}
use Rattle.step.proofs.Theorems.{message-n}
use Rattle.calls.specs.Bytes.{out_bytes}
use Rattle.calls.specs.Entry as N
use Rattle.region.specs.Record.{record_of}
use Rattle.calls_bytes.specs.Entry.{fresh}
use Rattle.calls_bytes.specs.Forward.{sent_on}
use Rattle.calls_bytes.specs.Frame.{packed, frame}
use Rattle.calls_bytes.specs.Walk.{Piece, AllRead, walk}
use Rattle.calls_bytes.proofs.Claims.{packing}
use Rattle.calls_bytes.proofs.Handled.{step-sends}
use Rattle.calls_bytes.proofs.Walk.{packed-both}
use Rattle.frame_bytes.specs.Frames.{step_on, steps_on, bytes_sent}
use Rattle.frame_bytes.specs.Forward as claim
use Rattle.frame_bytes.specs.Forward.{left_by}
use Rattle.frame_bytes.proofs.Frames.{frames}
use Rattle.frame_bytes.proofs.Twice.{once}

-- ---- steps one after the other

steps-both : (s : ℕ) (c : Node) (xs ys : List Piece)
    → steps_on s c (xs ++ ys) ≡ steps_on s c xs ++ steps_on s (left_by s c xs) ys
unfolding steps_on
steps-both s c [] ys = refl
steps-both s c (m ∷ xs) ys = ap (λ (z : List Step). step_on s c m ∷ z) (steps-both s (step_on s c m).node xs ys)

sent-both : (n : ℕ) (xs ys : List Step) → bytes_sent n (xs ++ ys) ≡ bytes_sent n xs ++ bytes_sent n ys
sent-both n [] ys = refl
sent-both n (t ∷ xs) ys =
    ap (λ (z : List ℕ). out_bytes n t.outbox ++ z) (sent-both n xs ys)
    ∙ sym (append_assoc (out_bytes n t.outbox) (bytes_sent n xs) (bytes_sent n ys))

left-n : (s : ℕ) (c : Node) (ms : List Piece) → (left_by s c ms).n ≡ c.n
unfolding steps_on
left-n s c [] = refl
left-n s c (m ∷ ms) = left-n s (step_on s c m).node ms ∙ message-n c.f c s m.message _

-- a value in turn
value-sends : (n s : ℕ) (c : Node) (m : Piece) (t w : ℕ) (p : Report) → c.n ≡ n → m.message ≡ Value t w p
    → decode n m.bytes ≡ returned m.message → out_bytes n (step_on s c m).outbox ≡ sent_on c s m.bytes t w p
value-sends n s c m t w p e v d =
    let q : decode c.n m.bytes ≡ returned (Value t w p) =
    ap (λ (j : ℕ). decode j m.bytes) e ∙ d ∙ ap returned v in
    ap (λ (j : ℕ). out_bytes j (step_on s c m).outbox) (sym e)
    ∙ ap (λ (z : Message). out_bytes c.n (message_step c.f c s z (N.beside c.n (view_part c.n m.bytes) z)
    ).outbox) v
    ∙ step-sends c s m.bytes t w p q

value-long : (n : ℕ) (b : List ℕ) (t w : ℕ) (p : Report) → decode n b ≡ returned (Value t w p) → length b ≡ value_size
unfolding encode
value-long n b t w p d = ap (λ (z : List ℕ). length z) (read_only n b (Value t w p) d).bytes

-- the message after others
read_at : (n : ℕ) (ms : List Piece) (m : Piece) (later : List Piece) → AllRead n (ms ++ m ∷ later)
    → decode n m.bytes ≡ returned m.message
read_at n [] m later h = h.0
read_at n (z ∷ ms) m later h = read_at n ms m later h.1

-- ---- a value in its place

module _ (r : List ℕ) (s : ℕ) (b out : List ℕ) (x : Ending) (ms : List Piece) (m : Piece) (later : List Piece)
    (t w : ℕ) (p : Report) (e : (frame r s b out).ending ≡ returned x) (met : walk (record_of r).n b ≡ ms ++ m ∷ later)
    (v : m.message ≡ Value t w p) where
  abbrev n : ℕ
  n = (record_of r).n

  whole : (packed (walk n b) ≡ b) × AllRead n (walk n b)
  whole = packing.unpacks n b (frames.one-by-one r s b out x e).0.whole

  read : decode n m.bytes ≡ returned m.message
  read = read_at n ms m later (subst (AllRead n) met whole.1)

  lies : m.bytes ≡ part b (length (packed ms)) value_size
  lies =
      let i : packed ms ++ m.bytes ++ packed later ≡ b =
      append_assoc (packed ms) m.bytes (packed later) ∙ sym (packed-both ms (m ∷ later)) ∙ ap packed (sym met)
      ∙ whole.0 in
      sym (part-seam (packed ms) m.bytes (packed later) (length (packed ms)) value_size refl
      (value-long n m.bytes t w p (read ∙ ap returned v)))
      ∙ ap (λ (z : List ℕ). part z (length (packed ms)) value_size) i

  abbrev c : Node
  c = left_by s (record_of r) ms

  sends : take (frame r s b out).length (frame r s b out).out
      ≡ bytes_sent n (steps_on s (record_of r) ms) ++ sent_on c s m.bytes t w p
      ++ bytes_sent n (steps_on s (step_on s c m).node later)
  unfolding steps_on
  sends =
      let before = bytes_sent n (steps_on s (record_of r) ms) in
      let rest = bytes_sent n (steps_on s (step_on s c m).node later) in
      (frames.frame-does r s b out x e).sent
      ∙ ap (λ (z : List Piece). bytes_sent n (steps_on s (record_of r) z)) met
      ∙ ap (bytes_sent n) (steps-both s (record_of r) ms (m ∷ later))
      ∙ sent-both n (steps_on s (record_of r) ms) (steps_on s c (m ∷ later))
      ∙ ap (λ (z : List ℕ). before ++ (z ++ rest))
      (value-sends n s c m t w p (left-n s (record_of r) ms) v read)
      ∙ sym (append_assoc before (sent_on c s m.bytes t w p) rest)

pub frame-forwards : claim.FrameForwards
frame-forwards = record {
  in_place = λ r s b out x ms m later t w p e met v. (
    lies r s b out x ms m later t w p e met v,
    sends r s b out x ms m later t w p e met v,
  );
  once = λ n f own s t w p r b out h k a l j e.
      subst (λ (z : List ℕ). (x : Ending) × ((frame (fresh n f own r).bytes s (z ++ z) out).ending ≡ returned x)
      × (take (frame (fresh n f own r).bytes s (z ++ z) out).length (frame (fresh n f own r).bytes s (z ++ z) out
      ).out ≡ z)) (sym e) (once n f own s t w p r out h k a l j);
}
