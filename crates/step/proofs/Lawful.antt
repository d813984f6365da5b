-- Every message that a step of a usable record sends is of the layout, and a step sends at most four of them, of at
-- most `step_most` bytes. Assumes nothing.
use mathlib.Core.Path.{◌≡◌, refl, sym, ap, ◌∙◌, subst}
use mathlib.Core.Bool.{true}
use mathlib.Core.Logic.{◌⊎◌, ⊎_elim}
use mathlib.Core.List.{List, [], ◌∷◌, ◌++◌}
use Prim.Native.Nat.{ℕ, ◌+◌, ◌-◌, ◌≤◌, ◌<◌, max}
use native.Mathlib.Nat.{add_assoc}
use native.Mathlib.Omega.{arith}
use lib.Arith.{lt_of_le-ne}
use lib.Dec.{leb, ltb, eqb}
use lib.ListN.{length, length-append}
use borrow.Author.Tests.{le-leb, ltb-true, eqb-true, eqb-false}
use Rattle.octets.proofs.Test.{both_right, both_true}
use Rattle.view.specs.Size.{nodes, limit}
use Rattle.view.specs.View.{no_view}
use Rattle.view.specs.declared.View.{View}
use Rattle.wire.specs.Layout.{two_size, message_size, is_request, is_tag}
use Rattle.wire.specs.declared.Message.{Message}
use Rattle.wire.specs.declared.Message.TheVariants.{Read, ReadAnswer, Write, WriteAnswer, Echo, Value, Good}
use Rattle.table.specs.Quorum.{members_in, is_quorum, agreeing}
use Rattle.table.proofs.Entries.{view_within-first}
use Rattle.record.specs.Record.{with_wait}
use Rattle.record.specs.declared.Node.{Node}
use Rattle.record.specs.declared.Operation.{Operation}
use Rattle.record.specs.declared.Operation.TheVariants.{Update, Scan}
use Rattle.record.specs.declared.Wait.{Wait}
use Rattle.record.specs.declared.Wait.TheVariants.{Idle, Reading, Writing, Comparing, Borrowing}
use Rattle.record.proofs.Parts.{Parts, Round, reading-ok, round-parts}
use Rattle.step.specs.declared.Sent.{Sent}
use Rattle.step.specs.declared.Sent.TheVariants.{Nothing, One, Two}
use Rattle.step.specs.declared.Step.{Step}
use Rattle.step.specs.Step.{listed, messages, started}
use Rattle.step.specs.Allowed.{lawful}
use Rattle.step.specs.Claims.{AllLawful, sizes, handler_most, reading_most, comparing_most, step_most}
use Rattle.step.specs.React.{is_new, react}
use Rattle.step.specs.Move.{after_read, read_pass, write_pass, next_tag, held_view, after_good, after_failed}
use Rattle.step.specs.Move.{compare_pass}
use Rattle.step.specs.Move.{borrow_pass, reads, writes, compares, borrows, move_on, begun}
use Rattle.step.proofs.Numbers.{max-most, on-pick}
use Rattle.step.proofs.Safe.{reads-parts, writes-parts, next-high}
use Rattle.step.proofs.Same.{reads-keep, writes-keep, compares-keep}

-- what one part of a step sends is of the layout, and of at most b bytes
pub record Part (n : ℕ) (v : View) (b : ℕ) (m : Sent) : Type 0 where
  pub lawful-all : AllLawful n v (listed m)
  pub small : sizes n (listed m) ≤ b

nothing : (n : ℕ) (v : View) (b : ℕ) → Part n v b Nothing
nothing n v b = record { lawful-all = tt; small = omega arith }

-- the three parts of a step for n nodes
pub record Sends (n : ℕ) (s : Step) : Type 0 where
  pub handler : (u : View) → Part n u handler_most s.outbox.handler
  pub reading : (u : View) → Part n u reading_most s.outbox.reading
  pub comparing : Part n s.outbox.view (comparing_most n) s.outbox.comparing

-- ---- what is in the limits

is-request : (q : ℕ) → q + 1 ≤ limit → is_request (q + 1) ≡ true
is-request q h = both_true (le-leb 1 (q + 1) (omega arith)) (le-leb (q + 1) limit h)

write-lawful : (n : ℕ) (v : View) (q t : ℕ) → q + 1 ≤ limit → t ≤ limit → lawful n (Write (q + 1) t) v ≡ true
write-lawful n v q t h k = both_true (is-request q h) (le-leb t limit k)

one-write : (n : ℕ) (v : View) (q t b : ℕ) → q + 1 ≤ limit → t ≤ limit → two_size ≤ b
    → Part n v b (One (Write (q + 1) t))
unfolding message_size
one-write n v q t b h k l = record { lawful-all = (write-lawful n v q t h k, tt); small = omega arith }

-- ---- the handlers

module _ (c : Node) (s : ℕ) (v u : View) (p : Parts c) where
  handler-part : (m : Message) → lawful c.n m v ≡ true → Part c.n u handler_most (react c s m v).outbox.handler
  unfolding react message_size
  handler-part (Read q) h = record {
    lawful-all = (both_true h (le-leb c.maxtag limit p.max-high), tt);
    small = omega arith;
  }
  handler-part (ReadAnswer q t) h = nothing c.n u handler_most
  handler-part (Write q t) h = on-pick (Part c.n u handler_most) (ltb c.maxtag t) _ _
      (λ e. let l : c.maxtag < t = ltb-true c.maxtag t e in
      record {
        lawful-all = (both_true (le-leb 1 t (omega arith)) (both_right (is_request q) (is_tag t) h), (h, tt));
        small = omega arith;
      })
      (λ e. record { lawful-all = (h, tt); small = omega arith })
  handler-part (WriteAnswer q t) h = nothing c.n u handler_most
  handler-part (Echo t) h = on-pick (Part c.n u handler_most) (ltb c.maxtag t) _ _
      (λ e. record { lawful-all = (h, tt); small = omega arith }) (λ e. nothing c.n u handler_most)
  handler-part (Value t w r) h = on-pick (Part c.n u handler_most) (is_new c w t) _ _
      (λ e. record { lawful-all = (h, tt); small = omega arith }) (λ e. nothing c.n u handler_most)
  handler-part (Good t) h = nothing c.n u handler_most

-- a handler's step has sent nothing else yet
pub react-started : (c : Node) (s : ℕ) (m : Message) (v : View) → react c s m v
    ≡ started (react c s m v).node s (react c s m v).outbox.handler
unfolding react
react-started c s (Read q) v = refl
react-started c s (ReadAnswer q t) v = refl
react-started c s (Write q t) v = refl
react-started c s (WriteAnswer q t) v = refl
react-started c s (Echo t) v = refl
react-started c s (Value t w r) v = refl
react-started c s (Good t) v = refl

started-sends : (n : ℕ) (c : Node) (s : ℕ) (m : Sent) → ((u : View) → Part n u handler_most m) → Sends n (started c s m)
started-sends n c s m h = record {
  handler = h;
  reading = λ u. nothing n u reading_most;
  comparing = nothing n no_view
      (comparing_most n);
}

pub react-sends : (c : Node) (s : ℕ) (m : Message) (v : View) → Parts c → lawful c.n m v ≡ true
    → Sends c.n (react c s m v)
react-sends c s m v p h = rw (react-started c s m v)
    (started-sends c.n (react c s m v).node s (react c s m v).outbox.handler (λ u. handler-part c s v u p m h))

-- ---- the passes

module _ (f : ℕ) (s : Step) (k : Sends s.node.n s) where
  read-sends : (w : Wait) → Parts (with_wait s.node w) → Sends s.node.n (read_pass f s (with_wait s.node w) w)
  unfolding read_pass after_read message_size
  read-sends (Reading (Update r) a m) p =
      let c = s.node in
      let t : ℕ = max m c.maxtag in
      let l : t ≤ limit = max-most m c.maxtag limit (reading-ok c.n (Update r) a m p.wait-ok).1
      p.max-high in
      let four : 4 ≤ limit - c.request = p.enough in
      on-pick (Sends c.n) (is_quorum c.n f (members_in c.n a)) _ _
      (λ e. on-pick (Sends c.n) (eqb t limit) _ _
      (λ z. record { handler = k.handler; reading = k.reading; comparing = k.comparing })
      (λ z. let below : t < limit = lt_of_le-ne l (eqb-false t limit z) in
      record {
        handler = k.handler;
        reading = λ u.
            record {
              lawful-all = (
                both_true (both_true (le-leb 1 (t + 1) (omega arith)) (le-leb (t + 1) limit (omega arith)))
                    (both_true (le-leb 1 c.own p.own-low) (le-leb c.own c.n p.own-high)),
                (write-lawful c.n u c.request t (omega arith) l, tt),
              );
              small = omega arith;
            };
        comparing = k.comparing;
      }))
      (λ e. k)
  read-sends (Reading Scan a m) p =
      let c = s.node in
      let three : 3 ≤ limit - c.request = p.enough in
      on-pick (Sends c.n) (is_quorum c.n f (members_in c.n a)) _ _
      (λ e. record {
        handler = k.handler;
        reading = λ u. one-write c.n u c.request (max m c.maxtag) 56 (omega arith)
            (max-most m c.maxtag limit (reading-ok c.n Scan a m p.wait-ok).1 p.max-high) (omega arith);
        comparing = k.comparing;
      })
      (λ e. k)
  read-sends Idle p = k
  read-sends (Writing kd i r a) p = k
  read-sends (Comparing kd i r) p = k
  read-sends (Borrowing kd r) p = k

  write-sends : (w : Wait) → Sends s.node.n (write_pass f s s.node w)
  unfolding write_pass
  write-sends (Writing kd i r a) =
      on-pick (Sends s.node.n) (is_quorum s.node.n f (members_in s.node.n a)) _ _
      (λ e. record { handler = k.handler; reading = k.reading; comparing = k.comparing }) (λ e. k)
  write-sends Idle = k
  write-sends (Reading o a m) = k
  write-sends (Comparing kd i r) = k
  write-sends (Borrowing kd r) = k

  compare-sends : (w : Wait) → Parts (with_wait s.node w) → Sends s.node.n
      (compare_pass f s (with_wait s.node w) w)
  unfolding compare_pass after_good after_failed message_size
  compare-sends (Comparing kd i r) p =
      let c = with_wait s.node (Comparing kd i r) in
      let o : Round i r = round-parts i r p.wait-ok in
      let n = s.node.n in
      let good : lawful n (Good r) (held_view c) ≡ true =
      both_true (le-leb r limit o.tag) (view_within-first n r c.atround p.round-ok) in
      on-pick (Sends n) (is_quorum n f (agreeing n c.own c.heard c.atround.tags)) _ _
      (λ e. on-pick (Sends n) (leb c.maxtag r) _ _
      (λ e. on-pick (Sends n) (eqb i 0) _ _
      (λ z. let zero : i ≡ 0 = eqb-true i 0 z in
      let left : 3 - i ≤ limit - c.request = p.enough in
      record {
        handler = k.handler;
        reading = k.reading;
        comparing =
            record {
              lawful-all = (
                good,
                (
                  write-lawful n (held_view c) c.request (next_tag c.maxtag 0 r) (omega arith)
                      (next-high c 0 r p (rw zero at o)),
                  tt,
                ),
              );
              small = omega arith;
            };
      })
      (λ z. record {
        handler = k.handler;
        reading = k.reading;
        comparing = record
            { lawful-all = (good, tt); small = omega arith };
      }))
      (λ e. on-pick (Sends n) (ltb i 3) _ _
      (λ z. let below : i < 3 = ltb-true i 3 z in
      let left : 3 - i ≤ limit - c.request = p.enough in
      record {
        handler = k.handler;
        reading = k.reading;
        comparing = one-write n _ c.request (next_tag c.maxtag i r) (comparing_most n) (omega arith)
            (next-high c i r p o) (omega arith);
      })
      (λ z. record { handler = k.handler; reading = k.reading; comparing = nothing _ _ _ })))
      (λ e. k)
  compare-sends Idle p = k
  compare-sends (Reading o a m) p = k
  compare-sends (Writing kd i r a) p = k
  compare-sends (Borrowing kd r) p = k

  borrow-sends : (w : Wait) → Sends s.node.n (borrow_pass s s.node w)
  unfolding borrow_pass
  borrow-sends (Borrowing kd r) =
      on-pick (Sends s.node.n) (leb r s.node.kept) _ _
      (λ e. record { handler = k.handler; reading = k.reading; comparing = k.comparing }) (λ e. k)
  borrow-sends Idle = k
  borrow-sends (Reading o a m) = k
  borrow-sends (Writing kd i r a) = k
  borrow-sends (Comparing kd i r) = k

-- the four passes
pub move-on-sends : (f : ℕ) (s : Step) → Parts s.node → Sends s.node.n s → Sends s.node.n (move_on f s)
unfolding move_on
move-on-sends f s p k =
    let a = reads f s in
    let b = writes f a in
    let d = compares f b in
    let ea : a.node.n ≡ s.node.n = reads-keep (λ (c : Node). c.n) (λ c q w v. refl) f s in
    let eb : b.node.n ≡ a.node.n = writes-keep (λ (c : Node). c.n) (λ c q w v. refl) f a in
    let ed : d.node.n ≡ b.node.n = compares-keep (λ (c : Node). c.n) (λ c q w v. refl) f b in
    let pa : Parts a.node = reads-parts f s p in
    let ka : Sends a.node.n a = subst (λ (n : ℕ). Sends n a) (sym ea) (read-sends f s k s.node.wait p) in
    let kb : Sends b.node.n b = subst (λ (n : ℕ). Sends n b) (sym eb) (write-sends f a ka a.node.wait) in
    let kd : Sends d.node.n d = subst (λ (n : ℕ). Sends n d) (sym ed)
    (compare-sends f b kb b.node.wait (writes-parts f a pa)) in
    subst (λ (n : ℕ). Sends n (borrows d)) (ed ∙ eb ∙ ea) (borrow-sends f d kd d.node.wait)

pub begun-sends : (c : Node) (o : Operation) → c.request + 1 ≤ limit → Sends c.n (begun c o)
unfolding begun message_size
begun-sends c o h = started-sends c.n (begun c o).node c.own (One (Read (c.request + 1)))
    (λ u. record { lawful-all = (is-request c.request h, tt); small = omega arith })

-- ---- all messages together

lawful-append : (n : ℕ) (v : View) (a b : List Message) → AllLawful n v a → AllLawful n v b → AllLawful n v (a ++ b)
lawful-append n v [] b x y = y
lawful-append n v (m ∷ a) b x y = (x.0, lawful-append n v a b x.1 y)

pub sizes-append : (n : ℕ) (a b : List Message) → sizes n (a ++ b) ≡ sizes n a + sizes n b
sizes-append n [] b = omega arith
sizes-append n (m ∷ a) b = ap (λ (x : ℕ). message_size n m + x) (sizes-append n a b)
    ∙ sym (add_assoc (message_size n m) (sizes n a) (sizes n b))

pub all-lawful : (n : ℕ) (s : Step) → Sends n s → AllLawful n s.outbox.view (messages s.outbox)
all-lawful n s k =
    let v = s.outbox.view in
    lawful-append n v (listed s.outbox.handler ++ listed s.outbox.reading) (listed s.outbox.comparing)
    (lawful-append n v (listed s.outbox.handler) (listed s.outbox.reading) (k.handler v).lawful-all
    (k.reading v).lawful-all)
    k.comparing.lawful-all

-- of the parts after the handler's one is empty
abbrev pub One-empty : Step → Type 0
One-empty s = (s.outbox.reading ≡ Nothing) ⊎ (s.outbox.comparing ≡ Nothing)

two-most : (m : Sent) → length (listed m) ≤ 2
two-most Nothing = omega arith
two-most (One a) = omega arith
two-most (Two a b) = omega arith

pub four-most : (s : Step) → One-empty s → length (messages s.outbox) ≤ 4
four-most s e =
    let o = s.outbox in
    let a = listed o.handler in
    let b = listed o.reading in
    let d = listed o.comparing in
    let x : length a ≤ 2 = two-most o.handler in
    let y : length b ≤ 2 = two-most o.reading in
    let z : length d ≤ 2 = two-most o.comparing in
    rw (length-append (a ++ b) d, length-append a b)
    (⊎_elim (λ r. let q : length b ≡ 0 = ap (λ (m : Sent). length (listed m)) r in omega arith)
    (λ r. let q : length d ≡ 0 = ap (λ (m : Sent). length (listed m)) r in omega arith) e)

pub bytes_most : (n : ℕ) (s : Step) → n ≤ nodes → Sends n s → One-empty s → sizes n (messages s.outbox) ≤ step_most
bytes_most n s h k e =
    let o = s.outbox in
    let a = listed o.handler in
    let b = listed o.reading in
    let d = listed o.comparing in
    let x : sizes n a ≤ handler_most = (k.handler o.view).small in
    let y : sizes n b ≤ reading_most = (k.reading o.view).small in
    let z : sizes n d ≤ comparing_most n = k.comparing.small in
    rw (sizes-append n (a ++ b) d, sizes-append n a b)
    (⊎_elim (λ r. let q : sizes n b ≡ 0 = ap (λ (m : Sent). sizes n (listed m)) r in omega arith)
    (λ r. let q : sizes n d ≡ 0 = ap (λ (m : Sent). sizes n (listed m)) r in omega arith) e)
