-- `session_line::run_at` meets its contract.
use borrow.Author.Rules.{rules}
use Prim.Native.Nat.{ℕ}
use mathlib.Core.Path.{◌≡◌, refl, sym, ap, ap₂, ◌∙◌}
use mathlib.Core.List.{List}
use Rattle.std.specs.Prelude.{Option, Some}
use Rattle.octets.specs.Answer.{Answer, returned, refused}
use Rattle.view.specs.declared.View.{View}
use Rattle.step.specs.declared.Ending.{Ending}
use Rattle.step.specs.declared.Ending.TheVariants.{None as Nothing, Done, Scan, Spent}
use Rattle.step.specs.Told.{Told, told, told_view}
use Rattle.layout.specs.Layout.{stated}
use Rattle.events.specs.Outcome.{Reply, answer_of, view_by, Tells, told_by, told_of}
use Rattle.lines.specs.declared.Command.{Command}
use Rattle.answers.specs.declared.Printed.{Printed}
use Rattle.answers.specs.Answer.{line}
use Rattle.session_reply.specs.Reply.{handler, printed_for}
use Rattle.session_line.specs.Act.{ran, printed}
use Rattle.session_line.proofs.run_at.Goals as goal

-- only a scan's view is printed
seen : (e c n : ℕ) (x : Answer Ending) (v : View)
    → line e (printed_for c (told x v)) n v ≡ line e (printed_for c (told x v)) n (told_view (told x v))
unfolding line
seen e c n (refused i) v = refl
seen e c n (returned Nothing) v = refl
seen e c n (returned (Done i)) v = refl
seen e c n (returned (Scan i)) v = refl
seen e c n (returned Spent) v = refl

-- what is printed, from what was answered
says : (e : ℕ) (l : Option Command) (b k : List ℕ) {c n : ℕ} (a : Reply) {r : Option Printed} → n ≡ stated b
    → c ≡ handler l → r ≡ printed_for c (told_by a) → Tells a k (ran l b) → line e r n (view_by a) ≡ printed e l b
unfolding printed
says e l b k {c} {n} a {r} p q s t =
    let u : told_by a ≡ told_of (ran l b) = t.0 in
    ap (λ (x : Option Printed). line e x n (view_by a)) s ∙ seen e c n (answer_of a) (view_by a)
    ∙ ap (λ (x : Told). line e (printed_for c x) n (told_view x)) u
    ∙ ap₂ (λ (i j : ℕ). line e (printed_for i (told_of (ran l b))) j (told_view (told_of (ran l b)))) q p

pub returns-in-Some : goal.returns-in-Some
returns-in-Some c =
    let x = c.args in
    let a = c.act-a.ensures in
    let p = c.put_line.ensures in
    let s = says x.e (Some c.in-Some.c) x.b.now _ c.act-a.result c.nodes_in-n.ensures c.handler.ensures
    c.printed_at.ensures a in
    let v : c.map_or-view.result ≡ view_by c.act-a.result = search rules in
    rw (c.in-Some.is, sym s, sym v) (a.3, p.0, p.1)

-- a bad line prints the same of every cluster
pub returns-in-None : goal.returns-in-None
unfolding printed line
returns-in-None c = let p = c.put_line-in-None.ensures in rw c.in-None.is (refl, p.0, p.1)
