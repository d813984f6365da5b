-- The clauses of the points that follow from others, of any calls: from which single fact. They say a case in the
-- documents' words, and rule out no call that that fact does not. In the law on channels `only` follows from `full`, by
-- `only-if-full`; the clauses on calls waiting follow from that on figures, by `shows-five`, `shows-none`, and those on
-- the stop of one node, of the second of three and with f = 0 from `full`, by `alone`, `second-stop`, `none-stops`.
use Prim.Native.Nat.{ℕ, ◌+◌, ◌*◌, ◌≤◌, ◌<◌}
use native.Mathlib.Omega.{arith}
use mathlib.Core.Path.{◌≡◌, refl, sym, ap, ◌∙◌}
use mathlib.Core.Bool.{true, false}
use mathlib.Core.List.{List, [], ◌∷◌, map}
use lib.ListN.{length, replicate, length-replicate}
use Rattle.octets.specs.Answer.{Answer, returned}
use Rattle.octets.specs.Bytes.{part, put}
use Rattle.octets.specs.Loop.{up_to, all_to}
use Rattle.octets.proofs.Put.{put-over}
use Rattle.view.specs.Report.{report_of}
use Rattle.view.specs.Size.{limit}
use Rattle.view.specs.View.{no_view, view_ok}
use Rattle.view.specs.declared.Report.{Report}
use Rattle.wire.specs.Layout.{encode, allowed, message_size}
use Rattle.wire.specs.declared.Message.{Message}
use Rattle.wire.specs.declared.Message.TheVariants.{Read, Write, Good}
use Rattle.wire.proofs.Numbers.{length-encode}
use Rattle.figures.specs.Figures.{totals}
use Rattle.record.specs.Record.{blank}
use Rattle.record.specs.Usable.{is_open}
use Rattle.record.specs.declared.Node.{Node}
use Rattle.record.specs.declared.Operation.{Operation}
use Rattle.record.specs.declared.Operation.TheVariants.{Update}
use Rattle.step.specs.declared.Ending.TheVariants.{None}
use Rattle.step.specs.Told.{nothing}
use Rattle.calls.specs.CallResult.{CallResult}
use Rattle.region.specs.Channel.{count_of}
use Rattle.outgoing.specs.Entries.{go_to}
use Rattle.layout.specs.Layout.{stated, stopped, node, channel}
use Rattle.events.specs.Event.{Result, refuse, fresh_bytes}
use Rattle.outgoing.specs.declared.Extent.TheVariants.{Whole}
use Rattle.history.specs.Message.{absent}
use Rattle.history.specs.Event as H
use Rattle.history.specs.Trace as T
use Rattle.history.specs.Order.{OneTo, Finished}
use Rattle.points.specs.Absences.{Delivery, scan_then, AllWhole, NothingWaits, ShowsNone}
use Rattle.points.specs.Calls.{Calls, trace_from, trace_of}
use Rattle.points.specs.Channels.{MayBegin, MayDeliver, StandsAfter, Room, waits, still_waits, begun, handled}
use Rattle.points.specs.Channels.{Filled}
use Rattle.points.specs.LastTag.{LastAnswer, used, spent_by}
use Rattle.points.specs.Faults.{Made}
use Rattle.points.specs.Messages.{zeros, read_one}
use Rattle.points.proofs.Absences.{stands}
use Rattle.points.proofs.Begins.{still-stands, one_each, no_room}
use Rattle.points.proofs.Channels.{own-count, no_place}
use Rattle.points.proofs.Figures.{FiguresOf}
use Rattle.points.proofs.LastTag.{used-by-answer, used-by-own}

module _ (calls : Calls) where
  -- ---- n, f and messages

  absent-one : FiguresOf calls 1 → calls.figures 1 (replicate 16 0) ≡ returned zeros
  unfolding view_ok up_to all_to totals report_of part
  absent-one figures = figures (replicate 16 0) refl refl

  absent-sixteen : FiguresOf calls 16 → calls.figures 16 (replicate 256 0) ≡ returned zeros
  unfolding view_ok up_to all_to totals report_of part
  absent-sixteen figures = figures (replicate 256 0) refl refl

  values : ((n : ℕ) → 1 ≤ n → (2 * calls.most_faults n < n) × (n ≤ 2 * (calls.most_faults n + 1)))
      → map calls.most_faults (1 ∷ 2 ∷ 3 ∷ 4 ∷ 5 ∷ 16 ∷ []) ≡ 0 ∷ 0 ∷ 1 ∷ 1 ∷ 2 ∷ 7 ∷ []
  values largest = rw (
    is 1 0 (omega arith) (omega arith),
    is 2 0 (omega arith) (omega arith),
    is 3 1 (omega arith) (omega arith),
    is 4 1 (omega arith) (omega arith),
    is 5 2 (omega arith) (omega arith),
    is 16 7 (omega arith) (omega arith),
  ) refl
    where
      is : (n f : ℕ) → 2 * f < n → n ≤ 2 * (f + 1) → calls.most_faults n ≡ f
      is n f lo hi = omega (arith, (largest n (omega arith)).0, (largest n (omega arith)).1)

  -- The cases of the f that are taken; those of the others are cases of one clause.
  made : (n : ℕ) → ((f own : ℕ) → f + f < n → OneTo n own → calls.fresh-node n f own
      ≡ record { answer = nothing; ending = returned None; node = blank n f own; length = 0; out = [] })
      → ((f : ℕ) (b : List ℕ) → f + f < n → length b ≡ calls.size n → calls.fresh n f b
      ≡ record { bytes = fresh_bytes n f (length b); answer = returned None; view = no_view; sent = [] })
      → (f : ℕ) → f + f < n → Made calls n f
  made n node cluster f half = record {
    node = λ own o. ap (λ (r : CallResult). r.answer) (node f own half o);
    cluster = λ b e. ap (λ (r : Result). r.answer) (cluster f b half e);
  }

  read-one : {n : ℕ} → ((m : Message) (v : List ℕ) → allowed n m v ≡ true → calls.read n (encode m v) ≡ returned m)
      → calls.read n read_one ≡ returned (Read 1)
  unfolding allowed encode
  read-one read = read (Read 1) [] refl

  module _ {n : ℕ} (write : (m : Message) (v out : List ℕ) → allowed n m v ≡ true → length (encode m v) ≤ length out
      → calls.write n m v out ≡ (returned (length (encode m v)), put out 0 (encode m v))) where
    written : (v out : List ℕ) → length out ≡ 15 → calls.write n (Read 1) v out ≡ (returned 15, read_one)
    unfolding allowed encode
    written v out e = write (Read 1) v out refl (omega arith) ∙ ap (λ l. (returned 15, l))
        (put-over out read_one (sym e))

    long : (t : ℕ) (v out : List ℕ) → allowed n (Good t) v ≡ true → 18 + 16 * n ≤ length out
        → (calls.write n (Good t) v out).0 ≡ returned (18 + 16 * n)
    unfolding message_size
    long t v out h l =
        let e : length (encode (Good t) v) ≡ 18 + 16 * n = length-encode n (Good t) v h in
        ap (λ (p : Answer ℕ × List ℕ). p.0) (write (Good t) v out h (omega (arith, e))) ∙ ap returned e

  -- ---- the largest tag

  module _ (spent : (c : Node) (p : Report) (m s t : ℕ) (b out : List ℕ) → LastAnswer c (Update p) m s t b out
      → used c m t ≡ limit → calls.message c s b out ≡ spent_by c out) where
    by_answer : (c : Node) (p : Report) (m s t : ℕ) (b out : List ℕ) → LastAnswer c (Update p) m s t b out
        → t ≡ limit → calls.message c s b out ≡ spent_by c out
    by_answer c p m s t b out L h = spent c p m s t b out L (used-by-answer c p m s t b out L h)

    by-own : (c : Node) (p : Report) (m s t : ℕ) (b out : List ℕ) → LastAnswer c (Update p) m s t b out
        → c.maxtag ≡ limit → calls.message c s b out ≡ spent_by c out
    by-own c p m s t b out L h = spent c p m s t b out L (used-by-own c p m s t b out L h)

  -- ---- absences

  module _ (n f c : ℕ) (b : List ℕ) (ds : List Delivery) where
    abbrev tr : T.Trace
    tr = trace_of calls n f b (scan_then c ds)

    -- A view with an entry was given by an ending, and what ended has begun.
    finished : 1 ≤ n → T.scan_view (T.fate tr 0) ≡ replicate n absent → Finished (T.fate tr 0)
    finished h e = go (T.fate tr 0) (ap length e ∙ length-replicate n absent)
      where
        go : (x : T.Fate) → length (T.scan_view x) ≡ n → Finished x
        go T.unfinished z = absurd (omega arith)
        go (T.ended k y) z = tt

    is-begun : Finished (T.fate tr 0) → T.begun tr 0 ≡ T.scanning c
    unfolding trace_from
    is-begun z = go (T.at tr 0).answer z
      where
        go : (y : H.Response) → Finished (T.fate_of tr 0 (T.begun_by (H.begin c H.scan H.whole) y))
            → T.begun_by (H.begin c H.scan H.whole) y ≡ T.scanning c
        go (H.refused k) z = absurd z
        go (H.accepted e) z = refl

    whole : (T.stopped tr c ≡ false → NothingWaits n tr → ShowsNone calls n f c b ds) → AllWhole ds
        → NothingWaits n tr → ShowsNone calls n f c b ds
    whole cut w quiet = cut (stands calls n f ds w b c) quiet

  -- ---- channels

  module _ (b : List ℕ) (c d : ℕ) (o : Operation) (M : MayBegin b c Whole) (at : OneTo (stated b) d)
      (up : stopped b d ≡ false) where
    sixteenth-waits : ((k : ℕ) → StandsAfter b c Whole k → count_of (channel (calls.begin c o Whole b).bytes c k)
        ≡ waits b c k + go_to k (begun b c o Whole)) → count_of (channel b c d) ≡ 15
        → count_of (channel (calls.begin c o Whole b).bytes c d) ≡ 16
    sixteenth-waits holds e = omega (arith, holds d (still-stands b c d at up), one_each b c o M d at)

    seventeenth : ((Room b c Whole (waits b c) (begun b c o Whole) → ⊥) → calls.begin c o Whole b ≡ refuse 11 b)
        → count_of (channel b c d) ≡ 16 → calls.begin c o Whole b ≡ refuse 11 b
    seventeenth full e = full (no_room b c o M d at up e)

  own-waits : (b : List ℕ) (c q : ℕ) → MayDeliver b c c Whole (Read q) → is_open (node b c).wait ≡ false
      → ((k : ℕ) → StandsAfter b c Whole k → count_of (channel (calls.deliver c c Whole b).bytes c k)
      ≡ still_waits b c c k + go_to k (handled b c c Whole (Read q))) → count_of (channel b c c) ≡ 16
      → count_of (channel (calls.deliver c c Whole b).bytes c c) ≡ 16
  own-waits b c q M idle holds e = holds c (still-stands b c c M.receiver M.stands) ∙ own-count b c q M idle ∙ e

  overflow : (b : List ℕ) → Filled 1 0 1 16 (Write 1 1) b
      → ((Room b 1 Whole (still_waits b 1 1) (handled b 1 1 Whole (Write 1 1)) → ⊥)
      → calls.deliver 1 1 Whole b ≡ refuse 11 b) → calls.deliver 1 1 Whole b ≡ refuse 11 b
  overflow b F full = full (no_place b F)
