-- How the open operation moves on from each wait: all four passes at once, as the code on the bytes branches.
use mathlib.Core.Path.{◌≡◌, refl, sym, ap, ◌∙◌, subst}
use mathlib.Core.Bool.{Bool, true, false}
use mathlib.Core.List.{List}
use Prim.Native.Nat.{ℕ, ◌+◌, ◌≤◌, ◌<◌, max}
use native.Mathlib.Omega.{arith}
use lib.Dec.{leb, eqb}
use lib.ListN.{length}
use Rattle.octets.specs.Bytes.{Bytes, put}
use Rattle.octets.specs.Word.{word, words}
use Rattle.view.specs.Size.{limit}
use Rattle.wire.specs.declared.Message.TheVariants.{Read}
use Rattle.table.specs.Table.{cells}
use Rattle.table.specs.Quorum.{members_in, is_quorum, agreeing}
use Rattle.record.specs.Record.{with_wait, closed}
use Rattle.record.specs.Usable.{wait_ok}
use Rattle.record.specs.declared.Node.{Node}
use Rattle.record.specs.declared.Operation.{Operation}
use Rattle.record.specs.declared.Operation.TheVariants.{Update, Scan}
use Rattle.record.specs.declared.Kind.{Kind}
use Rattle.record.specs.declared.Wait.{Wait}
use Rattle.record.specs.declared.Wait.TheVariants.{Idle, Reading, Writing, Comparing, Borrowing}
use Rattle.record.proofs.Parts.{Parts, writing-ok}
use Rattle.step.specs.declared.Sent.TheVariants.{One}
use Rattle.step.specs.declared.Step.{Step}
use Rattle.step.specs.declared.Rule.TheVariants.{Borrowed}
use Rattle.step.specs.Claims.{MustWait}
use Rattle.step.specs.Step.{started, ended, ending_of}
use Rattle.step.specs.Move.{agreement, opened, after_read, lent_view, after_good, after_failed, move_on, begun}
use Rattle.step.specs.Move.{read_pass, write_pass, compare_pass, borrow_pass, reads, writes, compares, borrows}
use Rattle.step.proofs.Numbers.{on-pick}
use Rattle.step.proofs.Turns.{reads_on}
use Rattle.step.proofs.Waits.{no-quorum, waits-still}
use Rattle.region.specs.Record.{record_size, heard_place, view_in, wait_in, record_of, n_place, own_place, head_of}
use Rattle.region.specs.Record.{maxtag_place, kept_place, atround_in, head_bytes, with_request}
use Rattle.region.specs.Record.{with_wait as head_with_wait}
use Rattle.region.specs.declared.head.Head.{Head}
use Rattle.react_bytes.proofs.Sections.{tables-of, assembled}
use Rattle.step_bytes.specs.declared.Effect.{Effect}
use Rattle.step_bytes.specs.declared.Plan.TheVariants.{Rest}
use Rattle.step_bytes.specs.Moved.{IsStep, rested_of, after_agreement, Leads}

module _ (f : ℕ) (s : Step) where
  -- where it must wait, it does not move
  pub stays : (w : Wait) → s.node.wait ≡ w → MustWait f s.node w → move_on f s ≡ s
  unfolding move_on
  stays w e m =
      let q = waits-still f s s.node.wait (subst (MustWait f s.node) (sym e) m) in
      rw (q.0, q.1, q.2, q.3) refl

  -- what follows the read must wait: it is over, or nobody has answered the round that opens
  read-waits : f < s.node.n → (o : Operation) (t : ℕ)
      → MustWait f (after_read s s.node o t).node (after_read s s.node o t).node.wait
  unfolding after_read opened
  read-waits h (Update p) t =
      on-pick (λ (u : Step). MustWait f u.node u.node.wait) (eqb t limit) _ _ (λ e. tt)
      (λ e. no-quorum s.node.n f h)
  read-waits h Scan t = no-quorum s.node.n f h

  pub read-on : f < s.node.n → {o : Operation} {a m t : ℕ} → s.node.wait ≡ Reading o a m
      → is_quorum s.node.n f (members_in s.node.n a) ≡ true → t ≡ max m s.node.maxtag
      → move_on f s ≡ after_read s s.node o t
  unfolding move_on
  read-on h {o} {a} {m} {t} e q z =
      let u = after_read s s.node o t in
      let p = waits-still f u u.node.wait (read-waits h o t) in
      ap (λ (v : Step). borrows (compares f (writes f v))) (sym (reads_on f s s.node e q z))
      ∙ ap (λ (v : Step). borrows (compares f v)) p.1 ∙ ap borrows p.2 ∙ p.3

  -- the reads do nothing, and the writes lead to t
  past : {t : Step} → reads f s ≡ s → writes f s ≡ t → move_on f s ≡ borrows (compares f t)
  unfolding move_on
  past p q = ap (λ (v : Step). borrows (compares f (writes f v))) p ∙ ap (λ (v : Step). borrows (compares f v)) q

  -- a quorum has answered round i with tag r: it is compared, and what follows is in the same step
  module _ (k : Kind) (i r : ℕ) where
    abbrev compared : Step
    compared = borrows (compares f (ended s (with_wait s.node (Comparing k i r)) s.ending s.view))

    still : borrows (after_good s s.node k i r) ≡ after_good s s.node k i r
    unfolding after_good opened borrow_pass
    still = on-pick (λ (u : Step). borrows u ≡ u) (eqb i 0) _ _ (λ e. refl) (λ e. refl)

    compared-good : agreement f s.node ≡ true → leb s.node.maxtag r ≡ true
        → compared ≡ after_good s s.node k i r
    unfolding compare_pass after_good opened
    compared-good q h = rw (q, h) still

    compared-failed : agreement f s.node ≡ true → leb s.node.maxtag r ≡ false
        → compared ≡ borrows (after_failed s s.node k i r)
    unfolding compare_pass after_failed opened
    compared-failed q h = rw (q, h) refl

    compared-agreed : agreement f s.node ≡ true → compared ≡ after_agreement s k i r
    compared-agreed q =
        on-pick (λ (u : Step). compared ≡ u) (leb s.node.maxtag r) _ _ (compared-good q) (compared-failed q)

    compared-not : agreement f s.node ≡ false
        → compared ≡ ended s (with_wait s.node (Comparing k i r)) s.ending s.view
    unfolding compare_pass borrow_pass
    compared-not q = rw q refl

    module _ {a : ℕ} (e : s.node.wait ≡ Writing k i r a)
        (q : is_quorum s.node.n f (members_in s.node.n a) ≡ true) where
      write-on : move_on f s ≡ compared
      unfolding read_pass write_pass
      write-on = past (ap (read_pass f s s.node) e) (ap (write_pass f s s.node) e ∙ rw q)

      pub write-agrees : agreement f s.node ≡ true → move_on f s ≡ after_agreement s k i r
      write-agrees g = write-on ∙ compared-agreed g

      pub write-compares : agreement f s.node ≡ false
          → move_on f s ≡ ended s (with_wait s.node (Comparing k i r)) s.ending s.view
      write-compares g = write-on ∙ compared-not g

    -- or had answered it before
    pub compare-agrees : s.node.wait ≡ Comparing k i r → agreement f s.node ≡ true
        → move_on f s ≡ after_agreement s k i r
    unfolding read_pass write_pass
    compare-agrees e g =
        past (ap (read_pass f s s.node) e) (ap (write_pass f s s.node) e)
        ∙ ap (λ (x : Wait). borrows (compares f (ended s (with_wait s.node x) s.ending s.view))) e
        ∙ compared-agreed g

  -- the view kept is borrowed
  pub borrow-on : {k : Kind} {r : ℕ} → s.node.wait ≡ Borrowing k r → leb r s.node.kept ≡ true
      → move_on f s ≡ ended s (closed s.node Idle) (ending_of k Borrowed) (lent_view s.node)
  unfolding read_pass write_pass compare_pass borrow_pass
  borrow-on e q =
      past (ap (read_pass f s s.node) e) (ap (write_pass f s s.node) e)
      ∙ ap borrows (ap (compare_pass f s s.node) e) ∙ ap (borrow_pass s s.node) e ∙ rw q

-- after agreement the round is good or has failed
module _ (s : Step) (k : Kind) (i t : ℕ) where
  pub agreed-good : leb s.node.maxtag t ≡ true → after_agreement s k i t ≡ after_good s s.node k i t
  agreed-good h = rw h refl

  pub agreed-failed : leb s.node.maxtag t ≡ false
      → after_agreement s k i t ≡ borrows (after_failed s s.node k i t)
  agreed-failed h = rw h refl

-- ---- the begin

-- the head of a record that begins o
abbrev asking : Head → Operation → Head
asking h o = head_with_wait (with_request h (h.request + 1)) (Reading o 0 0)

-- what the code sends, and that head written over the bytes
pub begins : (r : List ℕ) → Bytes r → length r ≡ record_size → (o : Operation) {h g : Head} {b : List ℕ} → h ≡ head_of r
    → g ≡ asking h o → b ≡ put r n_place (head_bytes g)
    → IsStep (rested_of (record_of r).own (One (Read (h.request + 1)))) b (begun (record_of r) o)
unfolding record_of begun
begins r y l o q g z = (
  ap (λ (h : Head). rested_of (word r own_place) (One (Read (h.request + 1)))) q,
  z ∙ ap (λ (h : Head). put r n_place (head_bytes h)) (g ∙ ap (λ (h : Head). asking h o) q)
      ∙ assembled (begun (record_of r) o).node (tables-of r y l),
)

-- the tag of a round keeps the limit
pub writing-most : (c : Node) {k : Kind} {i r a : ℕ} → Parts c → c.wait ≡ Writing k i r a → r ≤ limit
writing-most c {k} {i} {r} {a} p e = (writing-ok c.n k i r a (sym (ap (wait_ok c.n) e) ∙ p.wait-ok)).1.tag

-- ---- the fields that the code reads in the bytes

pub wait-of : (r : List ℕ) → wait_in r ≡ (record_of r).wait
unfolding record_of
wait-of r = refl

pub maxtag-of : (r : List ℕ) → word r maxtag_place ≡ (record_of r).maxtag
unfolding record_of
maxtag-of r = refl

pub kept_of : (r : List ℕ) → word r kept_place ≡ (record_of r).kept
unfolding record_of
kept_of r = refl

-- the quorums as the code counts them, of those who answered and of those who agree
module _ (r : List ℕ) (f : ℕ) {n k : ℕ} {b : Bool} (m : (record_of r).n ≡ n) (p : b ≡ is_quorum n f k) where
  pub answered-of : (a : ℕ) → k ≡ members_in n a → b ≡ is_quorum (record_of r).n f (members_in (record_of r).n a)
  answered-of a q = p ∙ ap (is_quorum n f) q ∙ ap (λ (x : ℕ). is_quorum x f (members_in x a)) (sym m)

  pub agreed-of : {own : ℕ} → k ≡ agreeing n own (words cells r heard_place) (view_in r atround_in).tags → own
      ≡ word r own_place → b ≡ agreement f (record_of r)
  unfolding record_of
  agreed-of q o =
      p ∙ ap (is_quorum n f) (q ∙ ap (λ (x : ℕ). agreeing n x (words cells r heard_place) (view_in r atround_in).tags)
      o)
      ∙ ap (λ (x : ℕ). is_quorum x f (agreeing x (word r own_place) (words cells r heard_place)
      (view_in r atround_in).tags)) (sym m)

-- an effect and bytes of one step are those of its equal
pub as_step : {s t : Step} {e : Effect} {b : List ℕ} → s ≡ t → IsStep e b t → IsStep e b s
as_step {s} {t} {e} {b} q h = subst (IsStep e b) (sym q) h

-- where it must wait, it rests
pub must-rest : (f : ℕ) (c : Node) {w : Wait} → c.wait ≡ w → MustWait f c w → Leads f Rest c
must-rest f c {w} q m = (λ to sent. stays f (started c to sent) w q m, omega arith)
