-- What the loops over a frame keep: how the message at its front was judged, or handled, and what is left of the frame.
-- Assumes nothing.
use Prim.Native.Nat.{ℕ, ◌≤◌, ◌<◌}
use mathlib.Core.Path.{◌≡◌, refl, sym, ap, ap₂, ◌∙◌}
use mathlib.Core.Bool.{Bool, true, false}
use mathlib.Core.List.{List, [], ◌∷◌}
use native.Mathlib.Omega.{arith}
use lib.Dec.{leb}
use lib.ListN.{length, take, drop}
use Rattle.octets.specs.Answer.{returned, refused}
use Rattle.octets.specs.Test.{pick, both}
use Rattle.octets.proofs.Test.{both_right}
use Rattle.view.specs.Size.{nodes}
use Rattle.view.specs.View.{view_of}
use Rattle.wire.specs.Codec.{front, front_part, view_part}
use Rattle.wire.specs.Layout.{encode, allowed, is_tag}
use Rattle.wire.specs.declared.Message.{Message}
use Rattle.wire.specs.declared.Message.TheVariants.{Read, ReadAnswer, Write, WriteAnswer, Echo, Value, Good}
use Rattle.wire.proofs.RoundTrip.{front-alone, alone-view, read_only}
use Rattle.table.specs.Loop.{either}
use Rattle.record.specs.declared.Node.{Node}
use Rattle.step.specs.React.{react}
use Rattle.step.specs.Stale.{stale_message, writer_within}
use Rattle.calls.proofs.Rim.{read-writer}
use Rattle.emit.proofs.NoGood.{either-false}
use Rattle.calls_bytes.specs.Walk.{Piece, walk_by, walk}
use Rattle.calls_bytes.proofs.Walk.{walk_more, whole-none, whole-more}
use Rattle.frame_bytes.specs.Judged.{any_stale, verdict_after}

-- nothing is left
pub empty : (t : List ℕ) → length t ≤ 0 → t ≡ []
empty [] h = refl
empty (x ∷ t) h = absurd (omega (arith, h))

allowed-writer : (n : ℕ) (m : Message) (v : List ℕ) → allowed n m v ≡ true → writer_within n m ≡ true
unfolding allowed
allowed-writer n (Value t w p) v h = both_right (both (leb 1 t) (is_tag t)) (both (leb 1 w) (leb w n)) h
allowed-writer n (Read q) v h = refl
allowed-writer n (ReadAnswer q t) v h = refl
allowed-writer n (Write q t) v h = refl
allowed-writer n (WriteAnswer q t) v h = refl
allowed-writer n (Echo t) v h = refl
allowed-writer n (Good t) v h = refl

-- ---- the message at the front of t, whose view is v

module _ (n : ℕ) (t : List ℕ) (m : Message) (k : ℕ) (e : front n t ≡ returned (m, k)) (v : List ℕ)
    (w : v ≡ front_part n t) where
  pub view-alone : v ≡ view_part n (take k t)
  view-alone = w ∙ sym (alone-view n t m k e)

  pub found-allowed : allowed n m v ≡ true
  found-allowed =
      ap (λ (z : List ℕ). allowed n m z) view-alone ∙ (read_only n (take k t) m (front-alone n t m k e)).allowed-is

  -- where it lies in the frame are its bytes
  pub found-bytes : take k t ≡ encode m v
  found-bytes = (read_only n (take k t) m (front-alone n t m k e)).bytes ∙ ap (encode m) (sym view-alone)

  pub found-writer : writer_within n m ≡ true
  found-writer = allowed-writer n m v found-allowed

  pub found-any : n ≤ nodes → writer_within nodes m ≡ true
  found-any = read-writer n v m found-allowed

-- ---- judged

either-assoc : (x y z : Bool) → either (either x y) z ≡ either x (either y z)
either-assoc true y z = refl
either-assoc false y z = refl

module _ (before : Bool) (n s : ℕ) (c : Node) (t : List ℕ) where
  pub judged-none : (j : ℕ) → front n t ≡ refused j → 0 < length t → 7 ≡ verdict_after before n s c t
  judged-none j e l = rw (whole-none n t j e (omega (arith, l))) refl

  pub judged-end : t ≡ [] → verdict_after before n s c t ≡ pick before 9 0
  unfolding any_stale walk_by
  judged-end e = rw e (ap (λ (z : Bool). pick {A = ℕ} z 9 0) (either-false before))

  module _ (m : Message) (k : ℕ) (e : front n t ≡ returned (m, k)) (v : List ℕ) (w : v ≡ front_part n t) where
    pub judged-more : verdict_after (either before (stale_message c s m)) n s (react c s m (view_of n v)).node
        (drop k t)
        ≡ verdict_after before n s c t
    unfolding any_stale
    judged-more =
        ap₂ (λ (x y : Bool). pick x (pick y 9 0) 7) (sym (whole-more n t m k e))
        (either-assoc before (stale_message c s m) (any_stale n s (react c s m (view_of n v)).node (walk n (drop k t)))
        ∙ ap (λ (z : List ℕ). either before (either (stale_message c s m)
        (any_stale n s (react c s m (view_of n z)).node (walk n (drop k t))))) (view-alone n t m k e v w)
        ∙ ap (λ (z : List Piece). either before (any_stale n s c z)) (sym (walk_more n t m k e)))
