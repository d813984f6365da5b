-- What lines print is what is seen of the events that they are.
use Prim.Native.Nat.{ℕ, zero, suc, ◌-◌, ◌≤◌, min}
use mathlib.Core.Path.{◌≡◌, refl, sym, ap, ap₂, ◌∙◌}
use mathlib.Core.List.{List, [], ◌∷◌, ◌++◌, append_assoc, append-nil}
use native.Mathlib.Omega.{arith}
use Rattle.octets.specs.Loop.{join}
use Rattle.octets.specs.Answer.{Answer, returned, refused}
use Rattle.view.specs.Size.{nodes}
use Rattle.view.specs.declared.View.{View}
use Rattle.step.specs.declared.Ending.{Ending}
use Rattle.step.specs.declared.Ending.TheVariants.{None as Nothing, Done, Scan as Scanned, Spent}
use Rattle.step.specs.Told.{told, told_view}
use Rattle.layout.specs.Layout.{stated}
use Rattle.std.specs.Prelude.{Option, Some, None}
use Rattle.lines.specs.declared.Command.{Command}
use Rattle.lines.specs.declared.Command.TheVariants.{Update, Scan, Deliver, Stop}
use Rattle.answers.specs.Answer.{entry_at, entries, line}
use Rattle.history.specs.Message as M
use Rattle.algorithm.specs.Algorithm as A
use Rattle.refine.specs.Meaning.{entry_of, rule_of, view_meaning}
use Rattle.mirror.specs.SameResult.{response_of}
use Rattle.mirror.specs.Run.{trace_from}
use Rattle.session_progress.specs.Progress.{next}
use Rattle.session_reply.specs.Reply.{handler, printed_for}
use Rattle.session_line.specs.Act.{ran, printed}
use Rattle.session.specs.Text.{left_by, printed_by}
use Rattle.session_order.specs.Lines.{events_of, printed_of, reports, Shows, silence, done, scan, spent, refusal}
use Rattle.session_order.specs.Lines.{Lines, none, bad, event}

-- ---- a view by value prints the reports of the view that it means

reports-append : (v w : M.View) → reports (v ++ w) ≡ reports v ++ reports w
reports-append [] w = refl
reports-append (x ∷ v) w =
    ap (λ (r : List ℕ). printed_of x ++ r) (reports-append v w)
    ∙ sym (append_assoc (printed_of x) (reports v) (reports w))

join-reports : (n : ℕ) (v : View) → join n (entry_at v) ≡ reports (view_meaning n v)
unfolding join A.table
join-reports zero v = refl
join-reports (suc n) v =
    let place : n ≡ suc n - 1 = omega arith in
    ap₂ (λ (r : List ℕ) (i : ℕ). r ++ entry_at v i) (join-reports n v) place
    ∙ ap (λ (r : List ℕ). reports (view_meaning n v) ++ r) (sym (append-nil (entry_at v (suc n - 1))))
    ∙ sym (reports-append (view_meaning n v) (entry_of v (suc n) ∷ []))

entries-reports : (n : ℕ) → n ≤ nodes → (v : View) → entries n v ≡ reports (view_meaning n v)
unfolding entries
entries-reports n most v =
    let all : min n nodes ≡ n = omega (arith, most) in
    ap (λ (k : ℕ). join k (entry_at v)) all ∙ join-reports n v

-- ---- a cluster of n nodes

module _ (n : ℕ) (most : n ≤ nodes) where
  shows : (e c : ℕ) (a : Answer Ending) (v : View)
      → Shows e c (response_of n v a) (line e (printed_for c (told a v)) n (told_view (told a v)))
  unfolding line
  shows e c (refused k) v = refusal k
  shows e c (returned Nothing) v = silence
  shows e c (returned (Done r)) v = done (rule_of r) (view_meaning n v)
  shows e c (returned (Scanned r)) v = rw (entries-reports n most v) (scan (rule_of r) (view_meaning n v))
  shows e c (returned Spent) v = spent

  says : (e : ℕ) (l : Option Command) (b : List ℕ) → stated b ≡ n
      → Shows e (handler l) (response_of n (ran l b).view (ran l b).answer) (printed e l b)
  unfolding printed
  says e l b h = rw h (shows e (handler l) (ran l b).answer (ran l b).view)

  -- from bytes b that state n whatever lines are run
  pub lines-print : (e : ℕ) (b : List ℕ) (ls : List (Option Command))
      → ((ks : List (Option Command)) → stated (left_by b ks) ≡ n)
      → Lines e ls (trace_from n b (events_of ls)) (printed_by e b ls)
  unfolding trace_from printed_by printed line left_by
  lines-print e b [] h = none
  lines-print e b (None ∷ ls) h = bad (lines-print (next e) b ls h)
  lines-print e b (Some (Update c p x) ∷ ls) h =
      let l : Option Command = Some (Update c p x) in
      event _ refl refl (says e l b (h [])) (lines-print (next e) (ran l b).bytes ls (λ ks. h (l ∷ ks)))
  lines-print e b (Some (Scan c x) ∷ ls) h =
      let l : Option Command = Some (Scan c x) in
      event _ refl refl (says e l b (h [])) (lines-print (next e) (ran l b).bytes ls (λ ks. h (l ∷ ks)))
  lines-print e b (Some (Deliver a c x) ∷ ls) h =
      let l : Option Command = Some (Deliver a c x) in
      event _ refl refl (says e l b (h [])) (lines-print (next e) (ran l b).bytes ls (λ ks. h (l ∷ ks)))
  lines-print e b (Some (Stop c) ∷ ls) h =
      let l : Option Command = Some (Stop c) in
      event _ refl refl (says e l b (h [])) (lines-print (next e) (ran l b).bytes ls (λ ks. h (l ∷ ks)))
