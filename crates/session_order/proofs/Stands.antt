-- Where a session stands after the lines that have ended: its stage, the cluster in its memory, and what is printed.
use Prim.Native.Nat.{ℕ}
use mathlib.Core.Path.{◌≡◌, refl, sym, ap, subst, ◌∙◌}
use mathlib.Core.List.{List, [], ◌∷◌, ◌++◌, map, append-nil, map-append}
use lib.ListN.{length}
use Rattle.layout.specs.Layout.{cluster_size}
use Rattle.events.specs.Event.{fresh}
use Rattle.lines.specs.Grammar.{event_of, first_of}
use Rattle.lines.specs.declared.Opening.{Opening}
use Rattle.std.specs.Prelude.{Option, Some, None}
use Rattle.lines.specs.declared.Command.{Command}
use Rattle.input.specs.Carry.{carry_of, event_in, first_in}
use Rattle.input.specs.declared.Carry.{Carry}
use Rattle.input.proofs.Kept.{event-carry, first-carry}
use Rattle.session_progress.specs.Progress.{next, bad_line}
use Rattle.session_progress.specs.declared.Stage.{Stage}
use Rattle.session_progress.specs.declared.Stage.TheVariants.{First, Events, Over}
use Rattle.session_line.specs.Act.{ran}
use Rattle.session_byte.specs.Memory.{LineEffect, memory_size, lent, cluster, opened, acted, line_effect}
use Rattle.session.specs.Text.{left_by, printed_by, fresh_of}
use Rattle.session_order.proofs.Memory.{lent_is, length-cluster, cluster-on, length-on}
use Rattle.session_order.proofs.Opening.{Within, opening-within}
use Rattle.session_order.proofs.Folds.{counted, counted-more, left-more, printed-more, fresh-is, left-long}

-- among the events, after the lines ls: n and f, the number of the next event, the cluster and what is printed
pub record Among (n f e : ℕ) (ls : List (Option Command)) (m o : List ℕ) : Type 0 where
  pub within : Within n f
  pub number : e ≡ counted 1 ls
  pub bytes : cluster n m ≡ left_by (fresh_of n f) ls
  pub shown : o ≡ printed_by 1 (fresh_of n f) ls

pub data Stands (m o : List ℕ) : List (List ℕ) → Stage → Type 0 where
  first : o ≡ [] → Stands m o [] First
  over : {l : List ℕ} {ls : List (List ℕ)} → first_of l ≡ None → o ≡ bad_line 0 → Stands m o (l ∷ ls) Over
  among : {l : List ℕ} {ls : List (List ℕ)} {n f e : ℕ} → first_of l ≡ Some (record { nodes = n; faults = f })
      → Among n f e (map event_of ls) m o → Stands m o (l ∷ ls) (Events n e)

-- the same after a line that has ended
abbrev Next : (o : List ℕ) → List (List ℕ) → LineEffect → Type 0
Next o ls τ = (length τ.memory ≡ memory_size) × Stands τ.memory (o ++ τ.text) ls τ.stage

module _ (m o : List ℕ) (long : length m ≡ memory_size) where
  -- the first line
  opens : (l : List ℕ) → o ≡ [] → Next o (l ∷ []) (opened (first_of l) m)
  unfolding counted left_by printed_by
  opens l e = cases (first_of l) refl
    where
      cases : (k : Option Opening) → first_of l ≡ k → Next o (l ∷ []) (opened k m)
      cases None z = (long, over z (ap (λ (r : List ℕ). r ++ bad_line 0) e))
      cases (Some k) z =
          let n : ℕ = k.nodes in
          let f : ℕ = k.faults in
          let w : Within n f = opening-within l k z in
          let b : List ℕ = cluster n m in
          let is : lent n ≡ cluster_size n = lent_is n w.low w.high in
          let made : (fresh n f b).bytes ≡ fresh_of n f = fresh-is n f w b (length-cluster n m long ∙ is) in
          let same : length (fresh n f b).bytes ≡ lent n = ap length made ∙ left-long n f w [] ∙ sym is in (
            length-on n m long (λ c. (fresh n f c).bytes) same,
            among z (record {
              within = w;
              number = refl;
              bytes = cluster-on n m long (λ c. (fresh n f c).bytes) same ∙ made;
              shown = append-nil o ∙ e;
            }),
          )

  -- the line of an event
  acts : {n f e : ℕ} (ls : List (Option Command)) → Among n f e ls m o → (l : Option Command)
      → (length (acted n e l m).memory ≡ memory_size)
      × Among n f (next e) (ls ++ (l ∷ [])) (acted n e l m).memory (o ++ (acted n e l m).text)
  acts {n} {f} {e} ls a l =
      let w : Within n f = a.within in
      let g : List ℕ → List ℕ = λ c. (ran l c).bytes in
      let step : g (cluster n m) ≡ left_by (fresh_of n f) (ls ++ (l ∷ [])) =
      ap g a.bytes ∙ sym (left-more (fresh_of n f) ls l) in
      let same : length (g (cluster n m)) ≡ lent n =
      ap length step ∙ left-long n f w (ls ++ (l ∷ [])) ∙ sym (lent_is n w.low w.high) in (
        length-on n m long g same,
        record {
          within = w;
          number = ap next a.number ∙ sym (counted-more 1 ls l);
          bytes = cluster-on n m long g same ∙ step;
          shown = rw (a.shown, a.number, a.bytes) (sym (printed-more 1 (fresh_of n f) ls l));
        },
      )

  -- any line w, of which c is kept
  pub stands-more : {ls : List (List ℕ)} {s : Stage} → Stands m o ls s → (w : List ℕ) {c : Carry} → c ≡ carry_of w
      → Next o (ls ++ (w ∷ [])) (line_effect s c m)
  unfolding line_effect
  stands-more (first e) w q =
      subst (λ (k : Option Opening). Next o (w ∷ []) (opened k m)) (sym (ap first_in q ∙ first-carry w)) (opens w e)
  stands-more (over z e) w q = (long, over z (append-nil o ∙ e))
  stands-more (among {l} {ls} {n} {f} {e} z a) w {c} q =
      let r = acts (map event_of ls) a (event_of w) in
      let says : event_in c ≡ event_of w = ap event_in q ∙ event-carry w in
      let all : map event_of ls ++ (event_of w ∷ []) ≡ map event_of (ls ++ (w ∷ [])) = sym
      (map-append event_of ls (w ∷ [])) in
      subst (λ (v : Option Command). Next o (l ∷ (ls ++ (w ∷ []))) (acted n e v m)) (sym says) (
        r.0,
        among z (subst (λ (v : List (Option Command)). Among n f (next e) v (acted n e (event_of w) m).memory
            (o ++ (acted n e (event_of w) m).text)) all r.1),
      )
