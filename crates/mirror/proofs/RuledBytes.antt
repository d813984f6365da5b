-- For each clause of demand 2 on the bytes, a house that it rules out. It is the house of the code but for the bytes
-- that it shows, which differ in one thing.
use Prim.Native.Nat.{ℕ, ◌+◌, ◌≤◌, ◌<◌}
use native.Mathlib.Decide.{ℕ_discrete, dec_le, dec_lt}
use native.Mathlib.Omega.{arith}
use mathlib.Core.Path.{◌≡◌, refl, sym, ap, ◌∙◌, subst}
use mathlib.Core.Bool.{true, false, decide, false≢true}
use mathlib.Core.List.{List, [], ◌∷◌, map}
use lib.ListN.{length, get_or, set, length-set}
use lib.Seq.{get_or-set_same}
use lib.Dec.{ltb}
use Rattle.logs.specs.Count.{count}
use Rattle.logs.specs.Update.{upd, upd2}
use Rattle.octets.specs.Test.{pick}
use Rattle.view.specs.Size.{nodes}
use Rattle.view.specs.Report.{no_report}
use Rattle.table.specs.Table.{tag_of, cells}
use Rattle.record.specs.Record.{blank}
use Rattle.record.specs.declared.Operation.TheVariants.{Update, Scan}
use Rattle.region.specs.Channel.{channel_size, clear, waiting}
use Rattle.region.specs.Record.{record_of}
use Rattle.region.proofs.Back.{record-back}
use Rattle.region.proofs.Waiting.{waiting-clear, length-clear, length-waiting}
use Rattle.block.specs.Block.{block_size, has_stopped, record_in, channel_in, on_channel, keep_record}
use Rattle.block.proofs.Changes.{channel-length, channel-same, keep_record-length, keep_record-record}
use Rattle.layout.specs.Layout.{cluster_size, faults_place, block, node, on_block}
use Rattle.layout.proofs.Blocks.{block_same}
use Rattle.outgoing.specs.declared.Extent.TheVariants.{Whole}
use Rattle.history.specs.Message as M
use Rattle.history.specs.Event as H
use Rattle.history.specs.Trace.{stopped, let_out_to, handed_over, waits}
use Rattle.history.specs.Order.{OneTo}
use Rattle.algorithm.specs.Algorithm.{same, limit, table, has, newest, highest, latest, fresh, move_on}
use Rattle.eqaso.specs.Cluster as K
use Rattle.eqaso.specs.Cluster.{trace_from, trace}
use Rattle.refine.proofs.Turned.{follows-fresh}
use Rattle.mirror.specs.Mirrors.{channel_room}
use Rattle.mirror.specs.Encodes.{EachEncodes}
use Rattle.mirror.specs.Run.{Event, begin, deliver, stop, meaning, trace_of}
use Rattle.mirror.specs.Demand2.{bytes_after, House, house_of, Demand2Of}
use Rattle.mirror.proofs.Halted.{channel-size}
use Rattle.mirror.proofs.Run.{run-mirrors, run-trace}
use Rattle.mirror.proofs.Says.{sized-node}

-- The house with other bytes shown. Its events act on its own.
abbrev showing : (List ℕ → List ℕ) → House → House
showing f h = record { opened = h.opened; bytes = λ es. f (h.bytes es); next = h.next; seen = h.seen }

-- The block of a node after some events, and the same changed.
module _ (n f : ℕ) (low : 1 ≤ n) (small : n ≤ nodes) (half : f + f < n) (b : List ℕ) (long : length b ≡ cluster_size n)
    (es : List Event) (c : ℕ) (is-node : OneTo n c) where
  block-size : length (block (bytes_after n f b es) c) ≡ block_size
  block-size = ((run-mirrors n f low small half b long es).shows.says c is-node).size

  block-stop : has_stopped (block (bytes_after n f b es) c)
      ≡ (K.after n f channel_room K.start (map meaning es)).stopped c
  block-stop = ((run-mirrors n f low small half b long es).shows.says c is-node).stop

  changed : (g : List ℕ → List ℕ) → length (g (block (bytes_after n f b es) c)) ≡ block_size
      → block (on_block c g (bytes_after n f b es)) c ≡ g (block (bytes_after n f b es) c)
  changed g size = block_same (bytes_after n f b es) c is-node.0
      (omega (arith, (run-mirrors n f low small half b long es).shows.long)) g size

-- One node begins a scan: it stands, and its read waits.
abbrev scanning : List Event
scanning = begin 1 Scan Whole ∷ []

read-waits : waits (trace 1 0 channel_room (map meaning scanning)) 1 1 ≡ M.read 1 ∷ []
unfolding trace_from K.event K.roomy H.sent_to K.entries move_on table limit upd upd2 count ℕ_discrete dec_le dec_lt
    decide
    let_out_to handed_over
read-waits = refl

none-stops : stopped (trace 1 0 channel_room (map meaning scanning)) 1 ≡ false
unfolding trace_from stopped K.event K.roomy H.sent_to K.entries move_on table limit upd upd2 count ℕ_discrete dec_le
    dec_lt
    decide
none-stops = refl

-- One node updates and gets its own value: that is its last report then, with tag 1, and there was none before.
abbrev posting : List Event
posting = begin 1 (Update no_report) Whole ∷ deliver 1 1 Whole ∷ deliver 1 1 Whole ∷ deliver 1 1 Whole ∷ []

last-tag : (latest 1 ((K.after 1 0 channel_room K.start (map meaning posting)).nodes 1).all).tag ≡ 1
unfolding K.after K.event K.roomy H.sent_to K.entries move_on table limit newest highest has same upd upd2 count
    ℕ_discrete dec_le dec_lt decide
last-tag = refl

no_last : (latest 1 fresh.all).tag ≡ 0
unfolding newest highest
no_last = refl

module _ (b : List ℕ) (long : length b ≡ cluster_size 1) where
  one : OneTo 1 1
  one = (omega arith, omega arith)

  abbrev k : List ℕ
  k = block (bytes_after 1 0 b scanning) 1

  size : length k ≡ block_size
  size = block-size 1 0 (omega arith) (omega arith) (omega arith) b long scanning 1 one

  there : (f : List ℕ → List ℕ) → length (f k) ≡ block_size → block (on_block 1 f (bytes_after 1 0 b scanning)) 1 ≡ f k
  there = changed 1 0 (omega arith) (omega arith) (omega arith) b long scanning 1 one

  stands : stopped (trace_of 1 0 b scanning) 1 ≡ false
  stands = ap (λ tr. stopped tr 1) (run-trace 1 0 (omega arith) (omega arith) (omega arith) b long scanning)
      ∙ none-stops

  -- The stop byte says that the node has stopped. Its record and its channels are as they were.
  abbrev flagged : List ℕ → List ℕ
  flagged t = set t 0 1

  pub stops-out : ¬ Demand2Of 1 0 (showing (on_block 1 flagged) (house_of 1 0 b))
  stops-out d = false≢true (sym (d.stops scanning 1 one ∙ stands)
      ∙ ap has_stopped (there flagged (length-set k 0 1 ∙ size))
      ∙ ap (ltb 0) (get_or-set_same k 0 1 0 (omega (arith, size))))

  -- What waits for the node is lost. Its record and its stop byte are as they were.
  abbrev lost : List ℕ → List ℕ
  lost = on_channel 1 clear

  pub holds-out : ¬ Demand2Of 1 0 (showing (on_block 1 lost) (house_of 1 0 b))
  holds-out d = subst (EachEncodes 1 1 [])
      (ap (λ tr. waits tr 1 1) (run-trace 1 0 (omega arith) (omega arith) (omega arith) b long scanning) ∙ read-waits)
      (subst (λ l. EachEncodes 1 1 l (waits (trace_of 1 0 b scanning) 1 1)) none (d.holds scanning 1 1 one one stands))
    where
      keeps : (t : List ℕ) → length t ≡ channel_size → length (clear t) ≡ channel_size
      keeps t e = length-clear t ∙ e

      is : block (on_block 1 lost (bytes_after 1 0 b scanning)) 1 ≡ lost k
      is = there lost (channel-length k size clear keeps 1 (omega arith) (omega arith))

      none : waiting (λ s. s) (channel_in (block (on_block 1 lost (bytes_after 1 0 b scanning)) 1) 1) ≡ []
      none = ap (λ t. waiting (λ s. s) (channel_in t 1)) is
          ∙ ap (waiting (λ s. s)) (channel-same k size clear keeps 1 (omega arith) (omega arith))
          ∙ waiting-clear (λ s. s) (channel_in k 1) (omega (arith, channel-size k size 1 (omega arith) (omega arith)))

  -- The record is always the fresh one, with no report in it. The stop byte and the channels are as they were.
  pub remembers-out : ¬ Demand2Of 1 0 (showing (on_block 1 (keep_record (blank 1 0 1))) (house_of 1 0 b))
  remembers-out d =
      let wrong : ◌≡◌ {A = ℕ} 0 1 = sym (ap (λ e. e.tag) ((follows-fresh 1 0 1).last 1 one) ∙ no_last)
      ∙ ap (λ c. tag_of c.last 1) (sym is) ∙ ap (λ e. e.tag) ((d.remembers posting 1 one).last 1 one) ∙ last-tag in
      omega (arith, wrong)
    where
      heard : length (blank 1 0 1).heard ≡ cells
      heard = (follows-fresh 1 0 1).heard-size

      size-posted : length (block (bytes_after 1 0 b posting) 1) ≡ block_size
      size-posted = block-size 1 0 (omega arith) (omega arith) (omega arith) b long posting 1 one

      is : node (on_block 1 (keep_record (blank 1 0 1)) (bytes_after 1 0 b posting)) 1 ≡ blank 1 0 1
      is = ap (λ t. record_of (record_in t)) (changed 1 0 (omega arith) (omega arith) (omega arith) b long posting 1 one
          (keep_record (blank 1 0 1))
          (keep_record-length (block (bytes_after 1 0 b posting) 1) size-posted (blank 1 0 1) heard))
          ∙ ap record_of (keep_record-record (block (bytes_after 1 0 b posting) 1) size-posted (blank 1 0 1) heard)
          ∙ record-back (blank 1 0 1) (sized-node (follows-fresh 1 0 1))

-- The record of node 1 of three says that none may stop, and the house was made with f = 1.
module _ (b : List ℕ) (long : length b ≡ cluster_size 3) where
  first : OneTo 3 1
  first = (omega arith, omega arith)

  pub faults-out : ¬ Demand2Of 3 1 (showing (on_block 1 (keep_record (blank 3 0 1))) (house_of 3 1 b))
  faults-out d =
      let wrong : ◌≡◌ {A = ℕ} 0 1 = ap (λ c. c.f) (sym is) ∙ (d.remembers [] 1 first).faults in omega (arith, wrong)
    where
      heard : length (blank 3 0 1).heard ≡ cells
      heard = (follows-fresh 3 0 1).heard-size

      start-size : length (block (bytes_after 3 1 b []) 1) ≡ block_size
      start-size = block-size 3 1 (omega arith) (omega arith) (omega arith) b long [] 1 first

      is : node (on_block 1 (keep_record (blank 3 0 1)) (bytes_after 3 1 b [])) 1 ≡ blank 3 0 1
      is = ap (λ t. record_of (record_in t)) (changed 3 1 (omega arith) (omega arith) (omega arith) b long [] 1 first
          (keep_record (blank 3 0 1)) (keep_record-length (block (bytes_after 3 1 b []) 1) start-size (blank 3 0 1)
          heard))
          ∙ ap record_of (keep_record-record (block (bytes_after 3 1 b []) 1) start-size (blank 3 0 1) heard)
          ∙ record-back (blank 3 0 1) (sized-node (follows-fresh 3 0 1))

  -- The house's own bytes say so, and its records do not.
  abbrev forgetful : List ℕ → List ℕ
  forgetful t = set t faults_place 0

  pub states-out : ¬ Demand2Of 3 1 (showing forgetful (house_of 3 1 b))
  states-out d =
      let wrong : ◌≡◌ {A = ℕ} 0 1 = sym (get_or-set_same (bytes_after 3 1 b []) faults_place 0 0
      (omega (arith, (run-mirrors 3 1 (omega arith) (omega arith) (omega arith) b long []).shows.long)))
      ∙ (d.states []).1 in omega (arith, wrong)

-- Something is left in the channel from node 1 to node 2 of three where node 2 has stopped.
abbrev counted : List ℕ → List ℕ
counted t = set t 0 1

abbrev left : List ℕ → List ℕ
left k = pick (has_stopped k) (on_channel 1 counted k) k

two-stops : (K.after 3 1 channel_room K.start (H.stop 2 ∷ [])).stopped 2 ≡ true
unfolding K.after K.event upd count ℕ_discrete dec_le dec_lt decide
two-stops = refl

two-stopped : stopped (trace 3 1 channel_room (H.stop 2 ∷ [])) 2 ≡ true
unfolding trace_from stopped K.event upd count ℕ_discrete dec_le dec_lt decide
two-stopped = refl

module _ (b : List ℕ) (long : length b ≡ cluster_size 3) where
  abbrev es : List Event
  es = stop 2 ∷ []

  two : OneTo 3 2
  two = (omega arith, omega arith)

  abbrev k2 : List ℕ
  k2 = block (bytes_after 3 1 b es) 2

  pub empty-out : ¬ Demand2Of 3 1 (showing (on_block 2 left) (house_of 3 1 b))
  empty-out d =
      let none = d.empty es 1 2 (omega arith, omega arith) two
      (ap (λ tr. stopped tr 2) (run-trace 3 1 (omega arith) (omega arith) (omega arith) b long es) ∙ two-stopped) in
      let wrong : ◌≡◌ {A = ℕ} 0 1 = ap length (sym none)
      ∙ length-waiting (λ s. s) (channel_in (block (on_block 2 left (bytes_after 3 1 b es)) 2) 1) ∙ some in
      omega (arith, wrong)
    where
      size2 : length k2 ≡ block_size
      size2 = block-size 3 1 (omega arith) (omega arith) (omega arith) b long es 2 two

      keeps : (t : List ℕ) → length t ≡ channel_size → length (counted t) ≡ channel_size
      keeps t e = length-set t 0 1 ∙ e

      down : has_stopped k2 ≡ true
      down = block-stop 3 1 (omega arith) (omega arith) (omega arith) b long es 2 two ∙ two-stops

      left_is : left k2 ≡ on_channel 1 counted k2
      left_is = ap (λ s. pick s (on_channel 1 counted k2) k2) down

      is : block (on_block 2 left (bytes_after 3 1 b es)) 2 ≡ on_channel 1 counted k2
      is = changed 3 1 (omega arith) (omega arith) (omega arith) b long es 2 two left
          (ap length left_is ∙ channel-length k2 size2 counted keeps 1 (omega arith) (omega arith)) ∙ left_is

      some : get_or (channel_in (block (on_block 2 left (bytes_after 3 1 b es)) 2) 1) 0 0 ≡ 1
      some = ap (λ t. get_or (channel_in t 1) 0 0) is
          ∙ ap (λ t. get_or t 0 0) (channel-same k2 size2 counted keeps 1 (omega arith) (omega arith))
          ∙ get_or-set_same (channel_in k2 1) 0 1 0 (omega (arith, channel-size k2 size2 1 (omega arith) (omega arith)))
