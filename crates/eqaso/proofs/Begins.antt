-- A begin is noted: the operation at the new index is the open one of its node.
use Prim.Native.Nat.{ℕ, ◌+◌, ◌<◌}
use native.Mathlib.Omega.{arith}
use mathlib.Core.Path.{◌≡◌, refl, ◌∙◌, ap}
use mathlib.Core.Bool.{Bool, false}
use lib.ListN.{length}
use Rattle.logs.specs.Update.{upd}
use Rattle.logs.proofs.Update.{upd_same}
use Rattle.history.specs.Event.{Operation, update, scan, Ending, none, Extent, begin, accepted}
use Rattle.history.specs.Trace.{Seen, Trace, begun_by}
use Rattle.history.specs.Order.{OneTo}
use Rattle.algorithm.specs.Algorithm.{Step, begin_step}
use Rattle.algorithm.proofs.Cert.{Logs}
use Rattle.algorithm.proofs.Sites.{Site, Sites, logs, begun}
use Rattle.eqaso.specs.Cluster.{entries, shortened, halted, given}
use Rattle.eqaso.proofs.Front.{front-in}
use Rattle.eqaso.proofs.Course.{Rests, Reads, Only}
use Rattle.eqaso.proofs.Act.{begin-course}
use Rattle.eqaso.proofs.Book.{Book, book_of, begins, At, IdleAt}
use Rattle.eqaso.proofs.Facts.{Facts}
use Rattle.eqaso.proofs.Modes.{begin-opens}
use Rattle.eqaso.proofs.Kept.{Kept, Next, Told, next-begin}
use Rattle.eqaso.proofs.History.{kind_of, left_up, Runs, History, mode-rests, mode-reads}
use Rattle.eqaso.proofs.Later.{Later, later_same, later-begin, apart-begin, left-begin, blank-fate}
use Rattle.eqaso.proofs.Recorded.{own-from, logs-grow, history-next}
use Rattle.eqaso.proofs.Deliver.{letting}
use Rattle.eqaso.proofs.Tagging.{given-none}

begun-kind : (c : ℕ) (op : Operation) (x : Extent) (e : Ending) → begun_by (begin c op x) (accepted e) ≡ kind_of c op
begun-kind c (update p) x e = refl
begun-kind c scan x e = refl

kind_at : (c : ℕ) (op : Operation) → At (kind_of c op) c
kind_at c (update p) = refl
kind_at c scan = refl

abbrev pub beginning : (n c : ℕ) → Operation → Extent → Step → Seen
beginning n c op x s =
    record { event = begin c op x; answer = accepted (given x s.ending); sent = shortened x (entries n s.sent) }

module _ {n f : ℕ} (half : f + f < n) {stopped : ℕ → Bool} {σ : Sites} {gone : ℕ → Logs} {tr : Trace} (kept : Kept n tr)
    (H : History n f stopped σ gone (book_of tr)) (c : ℕ) (one : OneTo n c) (stands : stopped c ≡ false)
    (op : Operation)
    (x : Extent)
    (rests : Rests (σ c).node.wait) where
  abbrev B : Book
  B = book_of tr

  abbrev step : Step
  step = begin_step n f c op (σ c).node

  abbrev site : Site
  site = begun n f c op (logs σ) (σ c)

  course : (step.ending ≡ none) × Reads step.node.wait × Only (λ v. ⊥) step.sent
  course = begin-course n f c half op (σ c).node

  free : IdleAt B c
  free = (mode-rests n f B c (σ c).op (σ c).tag (σ c).past.base (σ c).node.wait rests).0 (H.modes c stands)

  B' : Book
  B' = begins (length tr) (kind_of c op) B

  pub begin-noted : (B' : Book) × Next n tr (beginning n c op x step) B'
      × History n f (halted x c stopped) (upd σ c site) (letting n c x step.sent gone) B'
  unfolding B'
  begin-noted = (
    B',
    next-begin tr (beginning n c op x step) kept (kind_of c op) (begun-kind c op x (given x step.ending))
        (kind_at c op)
        (ap (given x) course.0 ∙ given-none x) told one free,
    history-next n f H F L c x step.sent site refl
        (λ d ne. apart-begin n f F (kind_of c op) c d (kind_at c op) ne)
        (left-begin n f F (logs (upd σ c site)) (kind_of c op) (λ a. left_up n f
        (logs-grow n f H F (later_same (length tr) B) c x step.sent site refl) (B.begun a) (B.fate a) (B.tag a)
        (H.left a)))
        (λ b v one m. absurd (course.2 v (front-in n x b step.sent m)))
        (λ h. (mode-reads n f B' c op site.tag (logs σ) step.node.wait
        course.1).1 (length tr, runs, (blank-fate n f F).1))
        (λ u y k d p q t eu ey h tu ty. absurd (t ty)),
  )
    where
      F : Facts n (length tr) B
      F = kept.facts

      L : Later (length tr) B (begins (length tr) (kind_of c op) B)
      L = later-begin n f F (kind_of c op)

      told : Told B (beginning n c op x step)
      told t i = let (v, m, w, e) = own-from n c x step.sent i in absurd (course.2 v m)

      runs : Runs n f (begins (length tr) (kind_of c op) B) c op (logs σ) (length tr)
      runs = record {
        unended = begin-opens B (length tr) c (kind_of c op) (F.blank (length tr) (omega arith)) (kind_at c op)
            (blank-fate n f F).0 free;
        kind = upd_same B.begun (length tr) (kind_of c op);
        prior = λ a h. left-begin n f F (logs σ) (kind_of c op) H.left a;
      }
