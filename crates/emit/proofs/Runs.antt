-- Laws of messages one after the other in bytes. Assumes nothing.
use mathlib.Core.Path.{◌≡◌, refl, sym, ap, ap₂, ◌∙◌, subst}
use mathlib.Core.Bool.{Bool, true}
use mathlib.Core.List.{List, [], ◌∷◌, ◌++◌, append_assoc, append-nil}
use Prim.Native.Nat.{ℕ, ◌+◌, ◌-◌, ◌*◌, ◌≤◌}
use native.Mathlib.Nat.{add-zero, add_assoc}
use native.Mathlib.Omega.{arith}
use lib.ListN.{length, take, drop, length-append, length-take, length-drop}
use lib.Seq.{length-take-le, take_at}
use lib.Dec.{leb}
use borrow.Author.Tests.{le-leb}
use Rattle.octets.specs.Answer.{Answer, returned, refused}
use Rattle.octets.specs.Bytes.{put}
use Rattle.octets.specs.Test.{pick}
use Rattle.octets.proofs.Lent.{lent_back}
use Rattle.octets.proofs.Put.{length-put, put-inside, put-nil, put-over, put_then}
use Rattle.octets.proofs.Test.{both_true}
use Rattle.refusal.specs.Refusal.{answer}
use Rattle.refusal.specs.declared.Refusal.{Refusal}
use Rattle.std.specs.Prelude.{Result, Ok, Err}
use Rattle.view.specs.Size.{nodes, is_size}
use Rattle.view.specs.View.{view_bytes}
use Rattle.view.specs.declared.View.{View}
use Rattle.view.proofs.ViewBytes.{length-view_bytes}
use Rattle.wire.specs.Codec.{after}
use Rattle.wire.specs.Layout.{kind, tag, view, encode, allowed}
use Rattle.wire.specs.declared.Message.{Message}
use Rattle.wire.specs.declared.Message.TheVariants.{Good}
use Rattle.wire.proofs.Numbers.{length-encode}
use Rattle.step.specs.Claims.{AllLawful, sizes}
use Rattle.step.specs.Step.{listed, messages}
use Rattle.step.specs.declared.Outbox.{Outbox}
use Rattle.step.specs.declared.Sent.{Sent}
use Rattle.step.specs.declared.Sent.TheVariants.{Nothing, One, Two}
use Rattle.step.proofs.Allowed.{lawful-allowed}
use Rattle.calls.specs.Bytes.{run}
use Rattle.emit.specs.Room.{AllAllowed, Room}

pub run_none : (v : List ℕ) → run v [] ≡ []
unfolding run
run_none v = refl

pub run-one : (v : List ℕ) (a : Message) → run v (a ∷ []) ≡ encode a v
unfolding run
run-one v a = append-nil (encode a v)

pub run-two : (v : List ℕ) (a b : Message) → run v (a ∷ b ∷ []) ≡ encode a v ++ encode b v
unfolding run
run-two v a b = ap (λ (t : List ℕ). encode a v ++ t) (append-nil (encode b v))

pub run-append : (v : List ℕ) (a b : List Message) → run v (a ++ b) ≡ run v a ++ run v b
unfolding run
run-append v [] b = refl
run-append v (m ∷ a) b =
    ap (λ (t : List ℕ). encode m v ++ t) (run-append v a b) ∙ sym (append_assoc (encode m v) (run v a) (run v b))

pub run_length : (n : ℕ) (v : List ℕ) (ms : List Message) → AllAllowed n v ms → length (run v ms) ≡ sizes n ms
unfolding run
run_length n v [] h = refl
run_length n v (m ∷ ms) h =
    length-append (encode m v) (run v ms) ∙ ap₂ (λ (a b : ℕ). a + b) (length-encode n m v h.0)
    (run_length n v ms h.1)

-- the parts of a list that is allowed
pub allowed-left : (n : ℕ) (v : List ℕ) (a b : List Message) → AllAllowed n v (a ++ b) → AllAllowed n v a
allowed-left n v [] b h = tt
allowed-left n v (m ∷ a) b h = (h.0, allowed-left n v a b h.1)

pub allowed-right : (n : ℕ) (v : List ℕ) (a b : List Message) → AllAllowed n v (a ++ b) → AllAllowed n v b
allowed-right n v [] b h = h
allowed-right n v (m ∷ a) b h = allowed-right n v a b h.1

-- ---- bytes e written into the buffer o from a place on

module _ (o e : List ℕ) (at : ℕ) (k : at + length e ≤ length o) where
  -- the part that is lent
  abbrev rest : List ℕ
  rest = take (length o - at) (drop at o)

  rest-length : length rest ≡ length o - at
  rest-length = simp (length-take, length-drop) (omega arith)

  pub rest-room : length e ≤ length rest
  rest-room = rw rest-length (omega arith)

  pub rest_put : (t : List ℕ) → t ≡ put rest 0 e → take at o ++ (t ++ drop (length o - at) (drop at o)) ≡ put o at e
  rest_put t p =
      let l : length t ≡ length rest =
      ap (λ (x : List ℕ). length x) p ∙ length-put rest 0 e (omega (arith, rest-room)) in
      lent_back o at (length o - at) (λ (x : List ℕ). put x 0 e) (omega arith) (omega arith) l p
      ∙ sym (put-inside o at (length o - at) 0 e (omega arith) (omega arith))
      ∙ ap (λ (x : ℕ). put o x e) (add-zero at)

-- a good message
module _ (t : ℕ) (v o : List ℕ) (at : ℕ) (k : at + length (encode (Good t) v) ≤ length o) where
  abbrev bytes : List ℕ
  bytes = kind 7 ++ tag t ++ view v

  abbrev room : ℕ
  room = length (take (length o - at) (drop at o))

  good-fits : length bytes ≤ room
  unfolding encode
  good-fits = rest-room o bytes at k

  pub emitted : (r : Result ℕ Refusal) (u : List ℕ)
      → answer r ≡ pick (leb (length bytes) room) (returned (length bytes)) (refused 12)
      → u ≡ after (answer r) bytes (take (length o - at) (drop at o))
      → (answer r ≡ returned (length (encode (Good t) v)))
      × (take at o ++ (u ++ drop (length o - at) (drop at o)) ≡ put o at (encode (Good t) v))
  unfolding encode
  emitted r u e q =
      let w : answer r ≡ returned (length bytes) =
      e ∙ ap (λ (x : Bool). pick x (returned (length bytes)) (refused 12)) (le-leb (length bytes) room good-fits) in (
        w,
        rest_put o bytes at k u (q ∙ ap (λ (x : Answer ℕ). after x bytes (take (length o - at) (drop at o))) w),
      )

-- what is answered where it is a length
same : {a b : ℕ} → returned a ≡ returned b → a ≡ b
same h = cc

pub answered : (r : Result ℕ Refusal) (l : ℕ) → answer r ≡ returned l → r ≡ Ok l
answered (Ok k) l w = ap Ok (same w)
answered (Err k) l w = absurd (let z : ◌≡◌ {A = ℕ} 0 1 = cc in omega arith)

pub same-length : (r : Result ℕ Refusal) {k l : ℕ} → r ≡ Ok k → answer r ≡ returned l → k ≡ l
same-length r e w = same (sym (ap answer e) ∙ w)

-- ---- what one part of a step sends, by cases

module _ (v : List ℕ) (at : ℕ) (m : Sent) where
  -- the place after it, and the buffer
  abbrev pub Sent-at : ℕ → List ℕ → List ℕ → Type 0
  Sent-at r o t = (r ≡ at + length (run v (listed m))) × (t ≡ put o at (run v (listed m)))

  pub sent-none : (o : List ℕ) → m ≡ Nothing → Sent-at at o o
  sent-none o e = rw (e, run_none v) (sym (add-zero at), sym (put-nil o at))

  pub sent-one : (o t : List ℕ) (r : ℕ) {a : Message} → m ≡ One a → r ≡ at + length (encode a v)
      → t ≡ put o at (encode a v) → Sent-at r o t
  sent-one o t r {a} e p q = rw (e, run-one v a) (p, q)

  pub sent-two : (o t u : List ℕ) (r i : ℕ) {a b : Message} → m ≡ Two a b → at ≤ length o
      → r ≡ at + length (encode a v) → t ≡ put o at (encode a v)
      → i ≡ r + length (encode b v) → u ≡ put t r (encode b v) → Sent-at i o u
  sent-two o t u r i {a} {b} e h p q x y =
      rw (e, run-two v a b) (
        x ∙ ap (λ (k : ℕ). k + length (encode b v)) p ∙ add_assoc at (length (encode a v)) (length (encode b v))
            ∙ ap (λ (k : ℕ). at + k) (sym (length-append (encode a v) (encode b v))),
        put_then o at (encode a v) (encode b v) r h (sym p) q y,
      )

  -- there is room for each
  pub room-one : (n room : ℕ) {a : Message} → Room n v (listed m) at room → m ≡ One a
      → (is_size n ≡ true) × (allowed n a v ≡ true) × (at + length (encode a v) ≤ room)
  room-one n room {a} h e =
      let k : Room n v (a ∷ []) at room = subst (λ (x : Sent). Room n v (listed x) at room) e h in
      (k.sized, k.fit.0, rw (run-one v a) at k.enough)

  pub room-two : (n room : ℕ) {a b : Message} → Room n v (listed m) at room → m ≡ Two a b
      → (is_size n ≡ true) × (allowed n a v ≡ true) × (allowed n b v ≡ true)
      × (at + length (encode a v) + length (encode b v) ≤ room)
  room-two n room {a} {b} h e =
      let k : Room n v (a ∷ b ∷ []) at room = subst (λ (x : Sent). Room n v (listed x) at room) e h in
      let l : at + (length (encode a v) + length (encode b v)) ≤ room =
      rw (run-two v a b, length-append (encode a v) (encode b v)) at k.enough in
      (k.sized, k.fit.0, k.fit.1.0, omega arith)

-- ---- three parts one after the other

-- a buffer of the same length has the same room
pub room_as : (n : ℕ) (v : List ℕ) (ms : List Message) (at : ℕ) {r s : ℕ} → s ≡ r → Room n v ms at r → Room n v ms at s
room_as n v ms at e h = record { sized = h.sized; fit = h.fit; enough = rw e h.enough }

module _ (n : ℕ) (v : List ℕ) (a b d : List Message) (room : ℕ) (h : Room n v (a ++ b ++ d) 0 room) where
  all-run : run v (a ++ b ++ d) ≡ run v a ++ run v b ++ run v d
  all-run = run-append v (a ++ b) d ∙ ap (λ (t : List ℕ). t ++ run v d) (run-append v a b)

  all-long : length (run v a) + length (run v b) + length (run v d) ≤ room
  all-long =
      let e : 0 + length (run v a ++ run v b ++ run v d) ≤ room = rw all-run at h.enough in
      omega (arith, e, length-append (run v a ++ run v b) (run v d), length-append (run v a) (run v b))

  pub room-first : Room n v a 0 room
  room-first =
      record {
        sized = h.sized;
        fit = allowed-left n v a b (allowed-left n v (a ++ b) d h.fit);
        enough = omega (arith, all-long);
      }

  module _ (i : ℕ) (p : i ≡ length (run v a)) where
    pub room-second : Room n v b i room
    room-second =
        record {
          sized = h.sized;
          fit = allowed-right n v a b (allowed-left n v (a ++ b) d h.fit);
          enough = omega (arith, all-long);
        }

    module _ (j : ℕ) (q : j ≡ i + length (run v b)) where
      pub room-third : Room n v d j room
      room-third = record {
        sized = h.sized;
        fit = allowed-right n v (a ++ b) d h.fit;
        enough = omega (arith, all-long);
      }

      pub three-long : (k : ℕ) → k ≡ j + length (run v d) → k ≡ length (run v (a ++ b ++ d))
      three-long k e =
          rw all-run
          (omega (arith, e, length-append (run v a ++ run v b) (run v d), length-append (run v a) (run v b)))

      pub three-put : (o t u w : List ℕ) → t ≡ put o 0 (run v a) → u ≡ put t i (run v b) → w ≡ put u j (run v d)
          → w ≡ put o 0 (run v (a ++ b ++ d))
      three-put o t u w e f g =
          put_then o 0 (run v a ++ run v b) (run v d) j (omega arith)
          (let z : 0 + length (run v a ++ run v b) ≡ j = omega (arith, length-append (run v a) (run v b)) in z)
          (put_then o 0 (run v a) (run v b) i (omega arith)
          (let z : 0 + length (run v a) ≡ i = omega arith in z) e f) g
          ∙ ap (λ (x : List ℕ). put o 0 x) (sym all-run)

-- ---- the view's bytes at the front of an array z of 256, whose first 16n were lent and came back as t

module _ (n : ℕ) (z : List ℕ) (l : length z ≡ 256) (h : n ≤ nodes) where
  pub front_length : 16 * n ≡ length (take (16 * n) z)
  front_length = sym (length-take-le (16 * n) z (omega arith))

  module _ (t : List ℕ) (m : length t ≡ length (take (16 * n) z)) where
    pub front-most : 16 * n ≤ length (t ++ drop (16 * n) z)
    front-most = omega (arith, length-append t (drop (16 * n) z), front_length)

    pub again-length : 16 * n ≡ length (take (16 * n) (t ++ drop (16 * n) z))
    again-length = sym (length-take-le (16 * n) (t ++ drop (16 * n) z) front-most)

    pub front-is : (v : View) → t ≡ put (take (16 * n) z) 0 (view_bytes n v) → take (16 * n) (t ++ drop (16 * n) z)
        ≡ view_bytes n v
    front-is v e =
        take_at t (drop (16 * n) z) (16 * n) (m ∙ sym front_length)
        ∙ e ∙ put-over (take (16 * n) z) (view_bytes n v) (length-view_bytes n v ∙ front_length)

-- what is lawful with a view is allowed with its bytes
all-allowed : (n : ℕ) (v : View) (ms : List Message) → n ≤ nodes → AllLawful n v ms
    → AllAllowed n (view_bytes n v) ms
all-allowed n v [] l h = tt
all-allowed n v (m ∷ ms) l h = (lawful-allowed n m v l h.0, all-allowed n v ms l h.1)

-- there is room for what is lawful
pub room_of : (n : ℕ) (v : View) (w : List ℕ) (ms : List Message) (room : ℕ) → w ≡ view_bytes n v → 1 ≤ n → n ≤ nodes
    → AllLawful n v ms → sizes n ms ≤ room → Room n w ms 0 room
room_of n v w ms room e a b h k =
    let f : AllAllowed n (view_bytes n v) ms = all-allowed n v ms b h in
    subst (λ (x : List ℕ). Room n x ms 0 room) (sym e)
    (record {
      sized = both_true (le-leb 1 n a) (le-leb n 16 b);
      fit = f;
      enough = let q : length (run (view_bytes n v) ms) ≡ sizes n ms = run_length n (view_bytes n v) ms f in omega
          arith;
    })

-- ---- a step that sends nothing after what its handler sends

pub handler-alone : (o : Outbox) → o.reading ≡ Nothing → o.comparing ≡ Nothing → messages o ≡ listed o.handler
handler-alone o p q =
    rw (p, q) (append-nil (listed o.handler ++ []) ∙ append-nil (listed o.handler))
