-- What waits on a channel, by the log of its sender: the messages for the receiver between two states of that log, the
-- one up to which it has been handed all, and the one up to which all was let out to it.
use Prim.Native.Nat.{ℕ}
use mathlib.Core.Path.{◌≡◌, refl, ap, sym, subst, ◌∙◌}
use mathlib.Core.Logic.{◌⊎◌, inl, inr}
use mathlib.Core.List.Memᴰ
use mathlib.Core.List.{List, [], ◌∷◌, ◌++◌, nil≢cons}
use Rattle.logs.specs.Log.{◌∈◌, ◌⊑◌, here, more, push}
use Rattle.logs.proofs.Log.{⊑_trans, ⊑-cons, placed, push-append, push-up, push-new, push-or}
use Rattle.history.specs.Message.{Message}
use Rattle.algorithm.proofs.Cert.{Log}
use Rattle.algorithm.proofs.Meant.{Meant, Others, whose, keep-by, pick, pick-append, pick-in, pick-of}

-- The channel ch to node b holds, oldest first, what is for b in the log gone and not yet in its earlier state got.
pub record Between (b : ℕ) (got : Log) (ch : List Message) (gone : Log) : Type 0 where
  -- Everything from got to gone, oldest first.
  pub pending : List Message
  pub until : push pending got ≡ gone
  pub picked : pick b pending ≡ ch

pub nothing-between : (b : ℕ) (l : Log) → Between b l [] l
unfolding pick
nothing-between b l = record { pending = []; until = refl; picked = refl }

pub between-up : {b : ℕ} {got : Log} {ch : List Message} {gone : Log} → Between b got ch gone → got ⊑ gone
between-up {b} {got} c = subst (λ l. got ⊑ l) c.until (push-up c.pending got)

-- More is let out.
pub between_more : {b : ℕ} {got : Log} {ch : List Message} {gone : Log} (new : List Message) → Between b got ch gone
    → Between b got (ch ++ pick b new) (push new gone)
between_more {b} {got} new c = record {
  pending = c.pending ++ new;
  until = push-append c.pending new got ∙ ap (push new) c.until;
  picked = pick-append b c.pending new ∙ ap (λ l. l ++ pick b new) c.picked;
}

-- The first message of a channel is handed over: it stands in the log at a place, and what was skipped is for others.
pub record Handed (b : ℕ) (got : Log) (m : Message) (rest : List Message) (gone : Log) : Type 0 where
  pub place : Log
  pub meant : Meant b m
  pub late : got ⊑ place
  pub skipped : (x : Message) → x ∈ place → (x ∈ got) ⊎ Others b x
  pub left : Between b (m ∷ place) rest gone

hand-from : {b : ℕ} {m : Message} {rest : List Message} (pending : List Message) (got : Log) → pick b pending ≡ m ∷ rest
    → Handed b got m rest (push pending got)
unfolding pick
hand-from [] got e = absurd (nil≢cons e)
hand-from {b} {m} {rest} (x ∷ l) got e = go (whose b x) e (hand-from l (x ∷ got))
  where
    go : (w : Meant b x ⊎ Others b x) → keep-by w x (pick b l) ≡ m ∷ rest
        → (pick b l ≡ m ∷ rest → Handed b (x ∷ got) m rest (push l (x ∷ got))) → Handed b got m rest (push l (x ∷ got))
    go (inl h) e later =
        let same : x ≡ m = cc e in
        record {
          place = got;
          meant = subst (Meant b) same h;
          late = here;
          skipped = λ y i. inl i;
          left = record { pending = l; until = ap (λ z. push l (z ∷ got)) (sym same); picked = cc e };
        }
    go (inr o) e later = skip (later e)
      where
        skip : Handed b (x ∷ got) m rest (push l (x ∷ got)) → Handed b got m rest (push l (x ∷ got))
        skip d = record {
          place = d.place;
          meant = d.meant;
          late = ⊑_trans (more here) d.late;
          skipped = λ y i. elim (d.skipped y i) [ inl j ↦ member y j | inr z ↦ inr z ];
          left = d.left;
        }
          where
            member : (y : Message) → y ∈ (x ∷ got) → (y ∈ got) ⊎ Others b y
            member y (Memᴰ.head s) = inr (subst (Others b) (sym s) o)
            member y (Memᴰ.tail j) = inl j

pub hand-over : {b : ℕ} {got : Log} {m : Message} {rest : List Message} {gone : Log} → Between b got (m ∷ rest) gone
    → Handed b got m rest gone
hand-over {b} {got} {m} {rest} c = subst (Handed b got m rest) c.until (hand-from c.pending got c.picked)

-- The place of a message that is handed over.
pub handed-at : {b : ℕ} {got : Log} {m : Message} {rest : List Message} {gone : Log} (d : Handed b got m rest gone)
    → (m ∷ d.place) ⊑ gone
handed-at d = between-up d.left

-- A message of a channel stands in the log after those before it on the channel.
pub between-place : {b : ℕ} {got : Log} (l : List Message) (m : Message) (rest : List Message) {gone : Log}
    → Between b got (l ++ (m ∷ rest)) gone
    → (p : Log) × (got ⊑ p) × ((m ∷ p) ⊑ gone) × ((x : Message) → x ∈ l → x ∈ p)
between-place [] m rest c = let d = hand-over c in (d.place, d.late, handed-at d, λ x i. elim i [ ])
between-place {got} (y ∷ l) m rest c =
    let d = hand-over c in
    let (p, up, at, in_p) = between-place {got = y ∷ d.place} l m rest d.left in
    (p, ⊑_trans d.late (⊑-cons up), at, λ x i. go up in_p x i)
  where
    go : {q p : Log} → (y ∷ q) ⊑ p → ((x : Message) → x ∈ l → x ∈ p) → (x : Message) → x ∈ (y ∷ l) → x ∈ p
    go {q} {p} up in_p x (Memᴰ.head e) = subst (λ z. z ∈ p) (sym e) (placed up)
    go up in_p x (Memᴰ.tail i) = in_p x i

-- What is on a channel was let out and is for its receiver; what was let out for it has been handed over
-- or is on the channel.
pub between_in : {b : ℕ} {got : Log} {ch : List Message} {gone : Log} → Between b got ch gone → (m : Message) → m ∈ ch
    → (m ∈ gone) × Meant b m
between_in {b} {got} c m i =
    let (j, h) = pick-in b c.pending (subst (λ l. m ∈ l) (sym c.picked) i) in
    (subst (λ l. m ∈ l) c.until (push-new got j), h)

pub between-of : {b : ℕ} {got : Log} {ch : List Message} {gone : Log} → Between b got ch gone → (m : Message) → m ∈ gone
    → Meant b m → (m ∈ got) ⊎ (m ∈ ch)
between-of {b} {got} c m i h = elim (push-or c.pending got (subst (λ l. m ∈ l) (sym c.until) i))
    [ inl j ↦ inr (subst (λ l. m ∈ l) c.picked (pick-of b j h)) | inr j ↦ inl j ]

-- So on an empty channel all that was let out for its receiver has been handed over.
pub all-handed : {b : ℕ} {got gone : Log} → Between b got [] gone → (m : Message) → m ∈ gone → Meant b m → m ∈ got
all-handed c m i h = elim (between-of c m i h) [ inl j ↦ j | inr j ↦ elim j [ ] ]
