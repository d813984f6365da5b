-- However a session is read: what is kept of the line that is being read, and where the session stands, are those of
-- the text so far.
use Prim.Native.Nat.{ℕ}
use mathlib.Core.Path.{◌≡◌, refl, sym, ap, subst, ◌∙◌}
use mathlib.Core.Bool.{Bool, true, false}
use mathlib.Core.List.{List, [], ◌∷◌, ◌++◌, append-nil, append_assoc}
use lib.ListN.{length}
use lib.Dec.{eqb}
use lib.Seq.{append_snoc}
use borrow.Author.Tests.{eqb-true}
use Rattle.octets.specs.Test.{pick}
use Rattle.input.specs.Input.{feed, lines_from, rest_from, lines_of, rest_of}
use Rattle.input.specs.Carry.{carry_of, push}
use Rattle.input.proofs.Kept.{push-carry}
use Rattle.input.proofs.Pieces.{lines-line, rest-line, lines-byte, rest-byte}
use Rattle.session_progress.specs.Progress.{begun}
use Rattle.session_progress.specs.declared.Progress.{Progress}
use Rattle.session_byte.specs.Memory.{memory_size}
use Rattle.session_byte.specs.Byte.{Turned, ended, kept, stepped}
use Rattle.session.specs.Turn.{turned}
use Rattle.session.specs.Reading.{Reading, begins, takes}
use Rattle.session_order.proofs.Stands.{Stands, first, stands-more}

pub record Holds (t : List ℕ) (p : Progress) (m o : List ℕ) : Type 0 where
  pub carry : p.carry ≡ carry_of (rest_of t)
  pub long : length m ≡ memory_size
  pub stands : Stands m o (lines_of t) p.stage

-- after a byte x
module _ {t m o : List ℕ} {p : Progress} (h : Holds t p m o) (x : ℕ) where
  abbrev After : Turned → Type 0
  After r = Holds (t ++ (x ∷ [])) r.progress r.memory (o ++ r.text)

  no_line : eqb x feed ≡ false → After (kept p x m)
  no_line e =
      record {
        carry = ap (λ c. push c x) h.carry ∙ push-carry (rest_of t) x ∙ ap carry_of (sym (rest-byte t x e));
        long = h.long;
        stands = rw (lines-byte t x e, append-nil) h.stands;
      }

  one_line : x ≡ feed → After (ended p m)
  one_line e =
      let r = stands-more m o h.long h.stands (rest_of t) h.carry in
      rw e (record { carry = ap carry_of (sym (rest-line t)); long = r.0; stands = rw (lines-line t) r.1 })

  holds-byte : After (stepped p x m)
  unfolding stepped
  holds-byte = cases (eqb x feed) refl
    where
      cases : (b : Bool) → eqb x feed ≡ b → After (pick b (ended p m) (kept p x m))
      cases true e = one_line (eqb-true x feed e)
      cases false e = no_line e

-- after a piece s
holds-piece : (s : List ℕ) {t m o : List ℕ} {p : Progress} → Holds t p m o
    → Holds (t ++ s) (turned p s m).progress (turned p s m).memory (o ++ (turned p s m).text)
unfolding turned
holds-piece [] h = rw (append-nil, append-nil) h
holds-piece (x ∷ s) {t} {m} {o} {p} h =
    let v : Turned = stepped p x m in
    let w : Turned = turned v.progress s v.memory in
    let r : Holds ((t ++ (x ∷ [])) ++ s) w.progress w.memory ((o ++ v.text) ++ w.text) =
    holds-piece s (holds-byte h x) in
    subst (λ (u : List ℕ). Holds (t ++ x ∷ s) w.progress w.memory u) (append_assoc o v.text w.text)
    (subst (λ (u : List ℕ). Holds u w.progress w.memory ((o ++ v.text) ++ w.text)) (append_snoc t x s) r)

pub holds : {t m o : List ℕ} {p : Progress} → Reading t p m o → Holds t p m o
unfolding begun lines_from rest_from
holds (begins long) = record { carry = refl; long = long; stands = first refl }
holds (takes r s) = holds-piece s (holds r)
