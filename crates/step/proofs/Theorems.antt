-- What holds of every step of a usable record: the claims of specs/Theorems. Assumes nothing.
use mathlib.Core.Path.{◌≡◌, refl, sym, ap, ◌∙◌, subst}
use mathlib.Core.Bool.{true, false}
use mathlib.Core.Logic.{◌⊎◌, inl, inr}
use mathlib.Core.List.{List, ◌++◌}
use Prim.Native.Nat.{ℕ, ◌-◌, ◌≤◌}
use native.Mathlib.Omega.{arith}
use lib.Dec.{ltb, eqb}
use borrow.Author.Tests.{ltb-true, ltb-false, ne_eqb, eq-eqb}
use Rattle.octets.specs.Test.{pick}
use Rattle.octets.proofs.Test.{pick_same, true-false}
use Rattle.view.specs.Size.{limit, nodes}
use Rattle.view.specs.View.{AbsentPast}
use Rattle.view.proofs.First.{none-absent}
use Rattle.view.specs.declared.View.{View}
use Rattle.wire.specs.Layout.{message_size}
use Rattle.wire.specs.declared.Message.{Message}
use Rattle.wire.specs.declared.Message.TheVariants.{Read, ReadAnswer, Write, WriteAnswer, Echo, Value, Good}
use Rattle.table.proofs.Sets.{members_in-with}
use Rattle.record.specs.Record.{with_wait}
use Rattle.record.specs.declared.Node.{Node}
use Rattle.record.specs.declared.Wait.{Wait}
use Rattle.record.specs.declared.Wait.TheVariants.{Idle, Reading, Writing, Comparing, Borrowing}
use Rattle.record.proofs.Parts.{parts, usable-of}
use Rattle.step.specs.declared.Sent.{Sent}
use Rattle.step.specs.declared.Sent.TheVariants.{Nothing}
use Rattle.step.specs.declared.Step.{Step}
use Rattle.step.specs.Step.{listed, messages, started}
use Rattle.step.specs.Claims.{Echoed, is_reading, is_writing}
use Rattle.step.specs.React.{react, raised, received, keep, read_wait, write_wait}
use Rattle.step.specs.Move.{move_on, message_step, begun, begin_step}
use Rattle.step.specs.Theorems as claim
use Rattle.step.proofs.Numbers.{on-picks}
use Rattle.step.proofs.Safe.{move-on-parts}
use Rattle.step.proofs.Shown.{move-on-shows}
use Rattle.step.proofs.Handled.{react-parts, begun-parts}
use Rattle.step.proofs.Same.{move-on-keeps, react-keeps}
use Rattle.step.proofs.Waits.{must-wait, begin-asks}
use Rattle.step.proofs.Lawful.{Sends, react-sends, react-started, begun-sends, move-on-sends, all-lawful}
use Rattle.step.proofs.Lawful.{four-most, bytes_most}
use Rattle.step.proofs.Exclusive.{one-empty, handler-first}

react-n : (c : Node) (s : ℕ) (m : Message) (v : View) → (react c s m v).node.n ≡ c.n
unfolding raised received keep
react-n c s m v = react-keeps (λ (d : Node). d.n) (λ d q w u. refl) c s m v (λ t. refl) (λ w t p. refl) (λ t. refl)

pub message-n : claim.MessageKeepsN
unfolding message_step
message-n f c s m v = move-on-keeps (λ (d : Node). d.n) (λ d q w u. refl) f (react c s m v) ∙ react-n c s m v

pub begin-n : claim.BeginKeepsN
unfolding begin_step begun
begin-n f c o = move-on-keeps (λ (d : Node). d.n) (λ d q w u. refl) f (begun c o)

-- what is shown

pub message-absent : claim.MessageAbsent
unfolding message_step
message-absent f c s m v h =
    let e = react-n c s m v in
    let d = react c s m v in
    let n : d.node.n ≤ nodes = rw e h in
    subst (λ (k : ℕ). AbsentPast k (move_on f d).view) e
    (move-on-shows f d n (rw (react-started c s m v) (none-absent d.node.n n)))

pub begin-absent : claim.BeginAbsent
unfolding begin_step begun
begin-absent f c o h = move-on-shows f (begun c o) h (none-absent c.n h)

-- ---- a message is handled

pub message-usable : claim.MessageUsable
unfolding message_step
message-usable f c s m v u h z l k =
    usable-of _ (move-on-parts f (react c s m v) (react-parts c s m v (parts c u) z l k h))

message-sends : claim.AtUsable (λ f c s m v. Sends c.n (message_step f c s m v))
unfolding message_step
message-sends f c s m v u h z l k =
    let e = react-n c s m v in
    subst (λ (n : ℕ). Sends n (move_on f (react c s m v))) e
    (move-on-sends f (react c s m v) (react-parts c s m v (parts c u) z l k h)
    (subst (λ (n : ℕ). Sends n (react c s m v)) (sym e) (react-sends c s m v (parts c u) h)))

pub message-lawful : claim.MessageLawful
message-lawful f c s m v u h z l k = all-lawful c.n (message_step f c s m v) (message-sends f c s m v u h z l k)

pub message-fits : claim.MessageFits
unfolding message_step
message-fits f c s m v u h z l k g =
    let d = react c s m v in
    let e = one-empty f d (rw (react-n c s m v) g) (ap (λ (x : Step). x.outbox.reading) (react-started c s m v))
    (ap (λ (x : Step). x.outbox.comparing) (react-started c s m v)) in
    (four-most (move_on f d) e, bytes_most c.n (move_on f d) (parts c u).n-high (message-sends f c s m v u h z l k) e)

pub message-waits : claim.MessageWaits
unfolding message_step
message-waits f c s m v g = must-wait f (react c s m v) (rw (react-n c s m v) g)

pub value-max : claim.ValueKeepsMaxtag
unfolding message_step react received
value-max f c s t w p v = move-on-keeps (λ (d : Node). d.maxtag) (λ d q x u. refl) f (react c s (Value t w p) v)

-- from what the handler leaves, whatever the operation sends after it
carried : (f : ℕ) (old : ℕ) (d : Step)
    → ((b e : List Message) → Echoed old d.node.maxtag (listed d.outbox.handler ++ b ++ e))
    → Echoed old (move_on f d).node.maxtag (messages (move_on f d).outbox)
carried f old d x =
    let o = (move_on f d).outbox in
    let a : (move_on f d).node.maxtag ≡ d.node.maxtag = move-on-keeps (λ (c : Node). c.maxtag) (λ c q x u. refl) f
    d in
    subst (λ (n : ℕ). Echoed old n (messages o)) (sym a)
    (subst (λ (h : Sent). Echoed old d.node.maxtag (listed h ++ listed o.reading ++ listed o.comparing))
    (sym (handler-first f d)) (x (listed o.reading) (listed o.comparing)))

pub growth-echoed : claim.GrowthEchoed
unfolding message_step react raised received keep
growth-echoed f c s (Read q) v = carried f c.maxtag (react c s (Read q) v) (λ b e. inl refl)
growth-echoed f c s (ReadAnswer q t) v = carried f c.maxtag (react c s (ReadAnswer q t) v) (λ b e. inl refl)
growth-echoed f c s (Write q t) v = carried f c.maxtag (react c s (Write q t) v) (λ b e.
    on-picks (λ (n : ℕ) (h : Sent). Echoed c.maxtag n (listed h ++ b ++ e)) (ltb c.maxtag t) t c.maxtag _ _
    (λ g. inr (ltb-true c.maxtag t g, (_, refl))) (λ g. inl refl))
growth-echoed f c s (WriteAnswer q t) v = carried f c.maxtag (react c s (WriteAnswer q t) v) (λ b e. inl refl)
growth-echoed f c s (Echo t) v = carried f c.maxtag (react c s (Echo t) v) (λ b e.
    on-picks (λ (n : ℕ) (h : Sent). Echoed c.maxtag n (listed h ++ b ++ e)) (ltb c.maxtag t) t c.maxtag _ _
    (λ g. inr (ltb-true c.maxtag t g, (_, refl))) (λ g. inl refl))
growth-echoed f c s (Value t w p) v = carried f c.maxtag (react c s (Value t w p) v) (λ b e. inl refl)
growth-echoed f c s (Good t) v = carried f c.maxtag (react c s (Good t) v) (λ b e. inl refl)

-- ---- answers

-- a handler that leaves the wait
left : (c : Node) (s : ℕ) {w : Wait} → w ≡ c.wait → started (with_wait c w) s Nothing ≡ started c s Nothing
left c s e = ap (λ (w : Wait). started (with_wait c w) s Nothing) e

pub read-unawaited : claim.ReadUnawaited
unfolding react
read-unawaited c s q t v h = left c s (go c.wait h)
  where
    go : (w : Wait) → (is_reading w ≡ false) ⊎ (q ≡ c.request → ⊥) → read_wait c.request s q t w ≡ w
    go (Reading o a m) (inl e) = true-false true refl e
    go (Reading o a m) (inr d) = rw (ne_eqb q c.request d)
    go Idle d = refl
    go (Writing k i r a) d = refl
    go (Comparing k i r) d = refl
    go (Borrowing k r) d = refl

pub write-unawaited : claim.WriteUnawaited
unfolding react
write-unawaited c s q t v h = left c s (go c.wait h)
  where
    go : (w : Wait) → (is_writing w ≡ false) ⊎ (q ≡ c.request → ⊥) → write_wait c.request s q t w ≡ w
    go (Writing k i r a) (inl e) = true-false true refl e
    go (Writing k i r a) (inr d) = rw (ne_eqb q c.request d)
    go Idle d = refl
    go (Reading o a m) d = refl
    go (Comparing k i r) d = refl
    go (Borrowing k r) d = refl

pub read_again : claim.ReadAgain
unfolding react
read_again c s q t v o a m e h =
    left c s (ap (read_wait c.request s q t) e ∙ rw h (pick_same (eqb q c.request) (Reading o a m)) ∙ sym e)

pub read-counts : claim.ReadCounts
unfolding react
read-counts c s q t v o a m e n h l k = (
  ap (λ (w : Wait). started (with_wait c w) s Nothing)
      (ap (read_wait c.request s q t) e ∙ rw (eq-eqb q c.request n, h)),
  members_in-with c.n a s l k h,
)

pub write_again : claim.WriteAgain
unfolding react
write_again c s q t v k i r a e h =
    let w = Writing k i r a in
    left c s (ap (write_wait c.request s q t) e
    ∙ rw h (ap (λ (x : Wait). pick (eqb q c.request) x w) (pick_same (eqb t r) w) ∙ pick_same (eqb q c.request) w)
    ∙ sym e)

pub write-other-tag : claim.WriteOtherTag
unfolding react
write-other-tag c s q t v k i r a e d =
    left c s (ap (write_wait c.request s q t) e
    ∙ rw (ne_eqb t r d) (pick_same (eqb q c.request) (Writing k i r a)) ∙ sym e)

pub write-counts : claim.WriteCounts
unfolding react
write-counts c s q t v k i r a e n y h l z = (
  ap (λ (w : Wait). started (with_wait c w) s Nothing)
      (ap (write_wait c.request s q t) e ∙ rw (eq-eqb q c.request n, eq-eqb t r y, h)),
  members_in-with c.n a s l z h,
)

-- ---- the begin

pub begin-usable : claim.BeginUsable
unfolding begin_step
begin-usable f c o u i j = usable-of _ (move-on-parts f (begun c o) (begun-parts c o (parts c u) i j))

pub begin-asks-only : claim.BeginAsks
unfolding begun
begin-asks-only f c o u i j h =
    (ap (λ (x : Step). x.ending) (begin-asks f c o h), ap (λ (x : Step). messages x.outbox) (begin-asks f c o h))

pub begin-lawful : claim.BeginLawful
unfolding begin_step begun
begin-lawful f c o u i j =
    all-lawful c.n (begin_step f c o)
    (move-on-sends f (begun c o) (begun-parts c o (parts c u) i j)
    (begun-sends c o (let five : 5 ≤ limit - c.request = ltb-false (limit - c.request) 5 j in omega arith)))

pub begin-waits : claim.BeginWaits
unfolding begin_step begun
begin-waits f c o u i j h = must-wait f (begun c o) h

pub begin-fits : claim.BeginFits
unfolding message_size
begin-fits f c o u i j h = rw (begin-asks-only f c o u i j h).1 (omega arith)
