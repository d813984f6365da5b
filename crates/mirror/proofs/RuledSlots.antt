-- For each clause about what a slot of a channel holds, bytes and a message that this clause rules out and the other
-- two would allow.
use Prim.Native.Nat.{ℕ}
use native.Mathlib.Omega.{arith}
use mathlib.Core.Path.{◌≡◌, sym, ap, subst}
use mathlib.Core.Bool.{true, false≢true}
use mathlib.Core.List.{List, []}
use lib.ListN.{length, get_or, take}
use Rattle.view.specs.View.{view_of}
use Rattle.view.specs.declared.View.{View}
use Rattle.wire.specs.Layout.{encode, allowed}
use Rattle.wire.specs.declared.Message.{Message}
use Rattle.wire.specs.declared.Message.TheVariants.{Read, ReadAnswer, Write, WriteAnswer, Echo, Value, Good}
use Rattle.history.specs.Message as M
use Rattle.refine.specs.Meaning.{message_of}
use Rattle.mirror.specs.Encodes.{Encodes}
use Rattle.mirror.proofs.Encoded.{IsNil}

abbrev IsRead : M.Message → Type 0
IsRead (M.read q) = Unit {0}
IsRead (M.read_answer to q t) = ⊥
IsRead (M.write q t) = ⊥
IsRead (M.write_answer to q t) = ⊥
IsRead (M.echo t) = ⊥
IsRead (M.value v) = ⊥
IsRead (M.good t v) = ⊥

-- Only a read means a read.
message-read : (q : ℕ) (v : View) (m : Message) → message_of 1 1 v m ≡ M.read q → m ≡ Read q
message-read q v (Read r) e = let h : r ≡ q = cc e in ap Read h
message-read q v (ReadAnswer r t) e = absurd (subst IsRead (sym e) tt)
message-read q v (Write r t) e = absurd (subst IsRead (sym e) tt)
message-read q v (WriteAnswer r t) e = absurd (subst IsRead (sym e) tt)
message-read q v (Echo t) e = absurd (subst IsRead (sym e) tt)
message-read q v (Value t w p) e = absurd (subst IsRead (sym e) tt)
message-read q v (Good t) e = absurd (subst IsRead (sym e) tt)

-- A slot without bytes. A read with number 1 is allowed and means what it should, but is not there.
pub bytes-out : ¬ Encodes 1 1 [] (M.read 1)
unfolding encode
bytes-out e = none e.message e.view e.bytes
  where
    none : (m : Message) (v : List ℕ) → take (length (encode m v)) [] ≡ encode m v → ⊥
    none (Read q) v h = subst IsNil h tt
    none (ReadAnswer q t) v h = subst IsNil h tt
    none (Write q t) v h = subst IsNil h tt
    none (WriteAnswer q t) v h = subst IsNil h tt
    none (Echo t) v h = subst IsNil h tt
    none (Value t w p) v h = subst IsNil h tt
    none (Good t) v h = subst IsNil h tt

-- A read with number 2, where one with number 1 waits. It is allowed, and there.
pub means-out : ¬ Encodes 1 1 (encode (Read 2) []) (M.read 1)
unfolding encode
means-out e = other e.view (subst (λ m. take (length (encode m e.view)) (encode (Read 2) []) ≡ encode m e.view)
    (message-read 1 (view_of 1 e.view) e.message e.means) e.bytes)
  where
    other : (v : List ℕ) → take (length (encode (Read 1) v)) (encode (Read 2) []) ≡ encode (Read 1) v → ⊥
    other v h = let last : ◌≡◌ {A = ℕ} 2 1 = ap (λ l. get_or l 14 0) h in omega (arith, last)

-- A read with number 0. It is there and means what it should, but no request number is 0.
pub layout-out : ¬ Encodes 1 1 (encode (Read 0) []) (M.read 0)
unfolding allowed
layout-out e = zero e.view (subst (λ m. allowed 1 m e.view ≡ true)
    (message-read 0 (view_of 1 e.view) e.message e.means) e.layout)
  where
    zero : (v : List ℕ) → allowed 1 (Read 0) v ≡ true → ⊥
    zero v h = false≢true h
