-- The slot that a message takes in a channel says that message.
use Prim.Native.Nat.{ℕ, ◌+◌, ◌-◌, ◌<◌, ◌≤◌}
use native.Mathlib.Omega.{arith}
use mathlib.Core.Path.{◌≡◌, refl, sym, ap, ap₂, ◌∙◌}
use mathlib.Core.Bool.{true}
use mathlib.Core.List.{List, [], ◌++◌, append_assoc, append-nil}
use lib.ListN.{length, drop, replicate, length-replicate}
use borrow.Author.Tests.{le-leb}
use Rattle.octets.specs.Answer.{returned}
use Rattle.octets.specs.Bytes.{put}
use Rattle.octets.proofs.Put.{length-put}
use Rattle.octets.proofs.Table.{get_d-padded}
use Rattle.view.specs.Report.{no_report}
use Rattle.view.specs.Size.{is_size, nodes}
use Rattle.view.specs.View.{tag_at, report_at, view_bytes, view_of}
use Rattle.view.specs.declared.View.{View}
use Rattle.view.proofs.ViewBytes.{tag-written, report-written}
use Rattle.wire.specs.Codec.{front, answer}
use Rattle.wire.specs.Layout.{encode, allowed, message_size}
use Rattle.wire.specs.declared.Message.{Message}
use Rattle.wire.specs.declared.Message.TheVariants.{Read, ReadAnswer, Write, WriteAnswer, Echo, Value, Good}
use Rattle.wire.proofs.Numbers.{length-encode}
use Rattle.wire.proofs.RoundTrip.{front-back, view-place}
use Rattle.region.specs.Channel.{slot_size}
use Rattle.outgoing.specs.Entries.{slot}
use Rattle.history.specs.Message as M
use Rattle.history.specs.Order.{OneTo}
use Rattle.refine.specs.Meaning as R
use Rattle.refine.proofs.Tables.{same-table}
use Rattle.mirror.specs.Mirrors.{meant}

module _ (n : ℕ) (small : n ≤ nodes) where
  -- No message is longer than a slot.
  message_size-most : (m : Message) → message_size n m ≤ slot_size
  unfolding message_size
  message_size-most (Read r) = omega arith
  message_size-most (ReadAnswer r t) = omega arith
  message_size-most (Write r t) = omega arith
  message_size-most (WriteAnswer r t) = omega arith
  message_size-most (Echo t) = omega arith
  message_size-most (Value t w p) = omega arith
  message_size-most (Good t) = omega arith

  -- The view that bytes are has the entries that were written.
  entry-same : (v : View) (w : ℕ) → OneTo n w → R.entry_of (view_of n (view_bytes n v ++ [])) w ≡ R.entry_of v w
  unfolding view_of
  entry-same v w (lo, hi) =
      let i : w - 1 < n = omega arith in
      ap₂ (λ t p. record { tag = t; report = R.code p })
      (get_d-padded n nodes (tag_at (view_bytes n v ++ [])) (w - 1) 0 i ∙ tag-written n v [] (w - 1) i)
      (get_d-padded n nodes (report_at (view_bytes n v ++ [])) (w - 1) no_report i ∙ report-written n v [] (w - 1) i)

  view-same : (v : View) → R.view_meaning n (view_of n (view_bytes n v)) ≡ R.view_meaning n v
  view-same v = ap (λ b. R.view_meaning n (view_of n b)) (sym (append-nil (view_bytes n v)))
      ∙ same-table n (R.entry_of (view_of n (view_bytes n v ++ []))) (R.entry_of v) (entry-same v)

  read-says : (c : ℕ) (m : Message) (v : View) → allowed n m (view_bytes n v) ≡ true → (rest : List ℕ) {k : ℕ}
      → front n (encode m (view_bytes n v) ++ rest) ≡ returned (m, k)
      → meant n c (encode m (view_bytes n v) ++ rest) ≡ returned (R.message_of n c v m)
  read-says c (Read r) v ok rest e = rw e refl
  read-says c (ReadAnswer r t) v ok rest e = rw e refl
  read-says c (Write r t) v ok rest e = rw e refl
  read-says c (WriteAnswer r t) v ok rest e = rw e refl
  read-says c (Echo t) v ok rest e = rw e refl
  read-says c (Value t w p) v ok rest e = rw e refl
  read-says c (Good t) v ok rest e = rw (e, view-place n t (view_bytes n v) rest ok)
      (ap (λ l. returned (M.good t l)) (view-same v))

  module _ (sized : is_size n ≡ true) (c : ℕ) (m : Message) (v : View) (ok : allowed n m (view_bytes n v) ≡ true) where
    abbrev bytes : List ℕ
    bytes = encode m (view_bytes n v)

    fits : length bytes ≤ slot_size
    fits = rw (length-encode n m (view_bytes n v) ok) (message_size-most m)

    slot_is : slot n m v ≡ put (replicate slot_size 0) 0 bytes
    unfolding slot answer
    slot_is = rw (sized, ok, le-leb (length bytes) slot_size fits) refl

    pub slot-size : length (slot n m v) ≡ slot_size
    slot-size = ap length slot_is ∙ length-put (replicate slot_size 0) 0 bytes
        (omega (arith, fits, length-replicate {A = ℕ} slot_size 0))
        ∙ length-replicate {A = ℕ} slot_size 0

    slot-front : (rest : List ℕ) → slot n m v ++ rest ≡ bytes ++
        (drop (0 + length bytes) (replicate slot_size 0) ++ rest)
    unfolding put
    slot-front rest = ap (λ s. s ++ rest) slot_is
        ∙ append_assoc bytes (drop (0 + length bytes) (replicate slot_size 0)) rest

    pub slot-says : (rest : List ℕ) → meant n c (slot n m v ++ rest) ≡ returned (R.message_of n c v m)
    slot-says rest = ap (meant n c) (slot-front rest)
        ∙ read-says c m v ok (drop (0 + length bytes) (replicate slot_size 0) ++ rest)
        (front-back n m (view_bytes n v) (drop (0 + length bytes) (replicate slot_size 0) ++ rest) sized ok)
