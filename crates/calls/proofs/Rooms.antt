-- A step of a usable record fits in the least output. Assumes nothing.
use mathlib.Core.Path.{◌≡◌, sym, subst}
use mathlib.Core.Bool.{true, false}
use Prim.Native.Nat.{ℕ, ◌≤◌, ◌<◌}
use native.Mathlib.Omega.{arith}
use Rattle.view.specs.declared.View.{View}
use Rattle.wire.specs.declared.Message.{Message}
use Rattle.record.specs.Usable.{usable, is_open, full}
use Rattle.record.specs.declared.Node.{Node}
use Rattle.record.specs.declared.Operation.{Operation}
use Rattle.record.proofs.Parts.{parts}
use Rattle.step.specs.declared.Step.{Step}
use Rattle.step.specs.Step.{messages}
use Rattle.step.specs.Allowed.{lawful}
use Rattle.step.specs.Claims.{step_most, Long, AllLawful, sizes}
use Rattle.step.specs.Move.{message_step, begin_step}
use Rattle.step.proofs.Theorems.{message-n, message-lawful, message-fits, begin-n, begin-lawful, begin-fits}
use Rattle.calls.specs.Entry.{least_output}
use Rattle.view.specs.Size.{nodes}

-- f of a usable record is below its n
pub faults-below : (c : Node) → usable c ≡ true → c.f < c.n
faults-below c u = let h = (parts c u).half in omega arith

-- what the writer asks of a step
abbrev pub Fit : Step → ℕ → Type 0
Fit s room =
    (1 ≤ s.node.n) × (s.node.n ≤ nodes) × AllLawful s.node.n s.outbox.view (messages s.outbox)
    × (sizes s.node.n (messages s.outbox) ≤ room)

fit_of : (n : ℕ) (s : Step) (room : ℕ) → s.node.n ≡ n → 1 ≤ n → n ≤ nodes
    → AllLawful n s.outbox.view (messages s.outbox)
    → sizes n (messages s.outbox) ≤ room → Fit s room
fit_of n s room e a b l k =
    subst (λ (x : ℕ). (1 ≤ x) × (x ≤ nodes) × AllLawful x s.outbox.view (messages s.outbox)
    × (sizes x (messages s.outbox) ≤ room)) (sym e) (a, b, l, k)

pub begin-fit : (c : Node) (o : Operation) (s : Step) (room : ℕ) → s ≡ begin_step c.f c o → usable c ≡ true
    → is_open c.wait ≡ false → full c ≡ false → least_output ≤ room → Fit s room
begin-fit c o s room e u i j h =
    let p = parts c u in
    let f = c.f in
    subst (λ (x : Step). Fit x room) (sym e)
    (fit_of c.n (begin_step f c o) room (begin-n f c o) p.n-low p.n-high (begin-lawful f c o u i j)
    (let q : sizes c.n (messages (begin_step f c o).outbox) ≤ step_most =
    begin-fits f c o u i j (faults-below c u) in omega arith))

pub message-fit : (c : Node) (k : ℕ) (m : Message) (v : View) (s : Step) (room : ℕ) → s ≡ message_step c.f c k m v
    → usable c ≡ true → lawful c.n m v ≡ true → Long c → 1 ≤ k → k ≤ c.n → least_output ≤ room → Fit s room
message-fit c k m v s room e u w z a b h =
    let p = parts c u in
    let f = c.f in
    subst (λ (x : Step). Fit x room) (sym e)
    (fit_of c.n (message_step f c k m v) room (message-n f c k m v) p.n-low p.n-high
    (message-lawful f c k m v u w z a b)
    (let q : sizes c.n (messages (message_step f c k m v).outbox) ≤ step_most =
    (message-fits f c k m v u w z a b (faults-below c u)).1 in omega arith))
