-- The lines of a session one after the other: what one more does, and that the cluster after them is that after the
-- events that they are.
use Prim.Native.Nat.{ℕ, ◌≤◌}
use mathlib.Core.Path.{◌≡◌, refl, sym, ap, subst, ◌∙◌}
use mathlib.Core.List.{List, [], ◌∷◌, ◌++◌, map, append-nil, append_assoc}
use native.Mathlib.Omega.{arith}
use lib.ListN.{length, replicate, length-replicate}
use Rattle.view.specs.Size.{nodes}
use Rattle.layout.specs.Layout.{cluster_size, stated}
use Rattle.events.specs.Event.{Result, fresh, fresh_bytes}
use Rattle.std.specs.Prelude.{Option, Some, None}
use Rattle.lines.specs.declared.Command.{Command}
use Rattle.lines.specs.declared.Command.TheVariants.{Update, Scan, Deliver, Stop}
use Rattle.eqaso.specs.Cluster as K
use Rattle.mirror.specs.Mirrors.{channel_room, Mirrors}
use Rattle.mirror.specs.Run.{after, meaning}
use Rattle.mirror.proofs.Run.{fresh-taken, run-mirrors}
use Rattle.session_progress.specs.Progress.{next}
use Rattle.session_line.specs.Act.{ran, printed}
use Rattle.session.specs.Text.{left_by, printed_by, fresh_of}
use Rattle.session_order.specs.Lines.{events_of}
use Rattle.session_order.proofs.Opening.{Within}

-- the number of the event after some lines
unfoldable pub counted : ℕ → List (Option Command) → ℕ
counted e [] = e
counted e (l ∷ ls) = counted (next e) ls

pub counted-more : (e : ℕ) (ls : List (Option Command)) (l : Option Command)
    → counted e (ls ++ (l ∷ [])) ≡ next (counted e ls)
unfolding counted
counted-more e [] l = refl
counted-more e (k ∷ ls) l = counted-more (next e) ls l

pub left-more : (b : List ℕ) (ls : List (Option Command)) (l : Option Command)
    → left_by b (ls ++ (l ∷ [])) ≡ (ran l (left_by b ls)).bytes
unfolding left_by
left-more b [] l = refl
left-more b (k ∷ ls) l = left-more (ran k b).bytes ls l

pub printed-more : (e : ℕ) (b : List ℕ) (ls : List (Option Command)) (l : Option Command)
    → printed_by e b (ls ++ (l ∷ [])) ≡ printed_by e b ls ++ printed (counted e ls) l (left_by b ls)
unfolding printed_by left_by counted
printed-more e b [] l = append-nil (printed e l b)
printed-more e b (k ∷ ls) l =
    ap (λ (r : List ℕ). printed e k b ++ r) (printed-more (next e) (ran k b).bytes ls l)
    ∙ sym (append_assoc (printed e k b) (printed_by (next e) (ran k b).bytes ls)
    (printed (counted (next e) ls) l (left_by (ran k b).bytes ls)))

-- a bad line changes nothing
pub left-events : (b : List ℕ) (ls : List (Option Command)) → left_by b ls ≡ after b (events_of ls)
unfolding left_by after
left-events b [] = refl
left-events b (Some (Update c p x) ∷ ls) = left-events (ran (Some (Update c p x)) b).bytes ls
left-events b (Some (Scan c x) ∷ ls) = left-events (ran (Some (Scan c x)) b).bytes ls
left-events b (Some (Deliver a c x) ∷ ls) = left-events (ran (Some (Deliver a c x)) b).bytes ls
left-events b (Some (Stop c) ∷ ls) = left-events (ran (Some (Stop c)) b).bytes ls
left-events b (None ∷ ls) = left-events b ls

module _ (n f : ℕ) (w : Within n f) where
  small : n ≤ nodes
  small = omega (arith, w.high)

  pub fresh-is : (b : List ℕ) → length b ≡ cluster_size n → (fresh n f b).bytes ≡ fresh_of n f
  fresh-is b long =
      ap (λ (r : Result). r.bytes) (fresh-taken n f w.low small w.half b long)
      ∙ ap (λ (k : ℕ). fresh_bytes n f k) long

  -- the bytes after some lines mirror a cluster of the algorithm
  left-mirrors : (ls : List (Option Command))
      → Mirrors n f (left_by (fresh_of n f) ls) (K.after n f channel_room K.start (map meaning (events_of ls)))
  left-mirrors ls =
      let b : List ℕ = replicate (cluster_size n) 0 in
      let long : length b ≡ cluster_size n = length-replicate (cluster_size n) 0 in
      let same : after (fresh n f b).bytes (events_of ls) ≡ left_by (fresh_of n f) ls =
      ap (λ (c : List ℕ). after c (events_of ls)) (fresh-is b long) ∙ sym (left-events (fresh_of n f) ls) in
      subst (λ (c : List ℕ). Mirrors n f c (K.after n f channel_room K.start (map meaning (events_of ls)))) same
      (run-mirrors n f w.low small w.half b long (events_of ls))

  -- so they stay as many, and state n
  pub left-long : (ls : List (Option Command)) → length (left_by (fresh_of n f) ls) ≡ cluster_size n
  left-long ls = (left-mirrors ls).shows.long

  pub left-states : (ls : List (Option Command)) → stated (left_by (fresh_of n f) ls) ≡ n
  left-states ls = (left-mirrors ls).shows.states
