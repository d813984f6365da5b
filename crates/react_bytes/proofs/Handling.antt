-- What the bytes of a record are after each handler: those of the record by value after it.
use Prim.Native.Nat.{ℕ, ◌+◌, ◌-◌, ◌*◌, ◌≤◌}
use mathlib.Core.Path.{◌≡◌, refl, sym, ap, ap₂, ◌∙◌}
use mathlib.Core.Bool.{Bool, true, false}
use mathlib.Core.List.{List, [], ◌∷◌, ◌++◌}
use native.Mathlib.Omega.{arith}
use lib.ListN.{length, take, drop, length-set, take-append-drop}
use lib.Dec.{ltb, leb}
use Rattle.octets.specs.Test.{pick, both}
use Rattle.octets.specs.Bytes.{Bytes, part, put}
use Rattle.octets.specs.Loop.{tab, join}
use Rattle.octets.specs.Word.{word, words, word_size, word_bytes}
use Rattle.octets.proofs.Put.{put-after}
use Rattle.octets.proofs.Table.{length-tab}
use Rattle.view.specs.Size.{nodes, view_size}
use Rattle.view.specs.View.{view_bytes}
use Rattle.view.specs.declared.Report.{Report}
use Rattle.view.specs.declared.View.{View}
use Rattle.table.specs.Table.{cell, newest, put_entry, cells}
use Rattle.table.proofs.Laws.{length-numbered}
use Rattle.wire.specs.declared.Message.{Message}
use Rattle.wire.specs.declared.Message.TheVariants.{Read, ReadAnswer, Write, WriteAnswer, Echo, Value, Good}
use Rattle.record.specs.Record.{set_top, set_kept, with_wait}
use Rattle.record.specs.declared.Node.{Node}
use Rattle.record.specs.declared.Wait.{Wait}
use Rattle.step.specs.React.{raised, round_holds, is_new, received, keep, react}
use Rattle.step.specs.Step.{started}
use Rattle.step.specs.declared.Sent.{Sent}
use Rattle.step.proofs.Lawful.{react-started}
use Rattle.region.specs.Record.{record_size, heard_place, view_place, view_in, wait_in, record_of, record_bytes}
use Rattle.region.specs.Record.{n_place}
use Rattle.region.specs.Record.{maxtag_place, kept_place, last_in, atmax_in, atround_in, kept_in}
use Rattle.octets.proofs.Word.{length-word_bytes}
use Rattle.region.specs.Record.{head_of, head_bytes, with_maxtag, with_kept, with_wait as head_with_wait}
use Rattle.region.specs.Record.{code_place, wait_bytes, numbers}
use Rattle.region.proofs.Back.{Sized, SizedNode, sized-view, sized_of, record-back}
use Rattle.react_bytes.specs.Handled.{entered}
use Rattle.react_bytes.proofs.Sections.{Tables, words-there, tables-of, heard-put, view-put}
use Rattle.react_bytes.proofs.Sections.{view-entry, assembled}

module _ (r : List ℕ) (h : Bytes r) (l : length r ≡ record_size) where
  T : Tables r (words cells r heard_place)
      (view_in r last_in ∷ view_in r atmax_in ∷ view_in r atround_in ∷ view_in r kept_in ∷ [])
  T = tables-of r h l

  with_wait-bytes : (w : Wait) → put r n_place (head_bytes (head_with_wait (head_of r) w))
      ≡ record_bytes (with_wait (record_of r) w)
  unfolding record_of
  with_wait-bytes w = assembled (with_wait (record_of r) w) T

  -- the numbers before the wait stand as they are
  numbers-there : put r n_place (word_bytes (numbers (head_of r))) ≡ r
  unfolding put tab part join
  numbers-there =
      ap (λ (t : List ℕ). take n_place r ++ t ++ drop (n_place + code_place) r)
      (words-there r h (length (numbers (head_of r))) n_place (omega arith)) ∙ take-append-drop code_place r

  -- so that another wait is written alone
  pub wait-bytes : (w : Wait) → put r code_place (wait_bytes w) ≡ record_bytes (with_wait (record_of r) w)
  wait-bytes w =
      ap (λ (t : List ℕ). put t code_place (wait_bytes w)) (sym numbers-there)
      ∙ put-after r n_place (word_bytes (numbers (head_of r))) (wait_bytes w) code_place (omega arith)
      (omega (arith, length-word_bytes (numbers (head_of r)))) ∙ with_wait-bytes w

  -- where a tag is not above, the record is written as it is
  pub raised-same : (t : ℕ) → ltb (word r maxtag_place) t ≡ false
      → record_bytes (with_wait (record_of r) (wait_in r)) ≡ record_bytes (raised (record_of r) t)
  unfolding record_of raised
  raised-same t e = rw e refl

  pub kept_same : (t : ℕ) (v : View) → ltb (word r kept_place) t ≡ false
      → record_bytes (with_wait (record_of r) (wait_in r)) ≡ record_bytes (keep (record_of r) t v)
  unfolding record_of keep
  kept_same t v e = rw e refl

  pub raised-bytes : (t : ℕ) (b : Bool) → ltb (word r maxtag_place) t ≡ b
      → put (pick b (put r (view_place atmax_in)
      (view_bytes nodes (newest t (view_in r last_in) (view_in r atmax_in)))) r)
      n_place
      (head_bytes (pick b (with_maxtag (head_of r) t) (head_of r)))
      ≡ record_bytes (raised (record_of r) t)
  unfolding record_of raised
  raised-bytes t b e = go b ∙ ap (λ (x : Bool). record_bytes (grown x)) (sym e)
    where
      grown : Bool → Node
      grown x = set_top (record_of r) (pick x t (word r maxtag_place))
          (pick x (newest t (view_in r last_in) (view_in r atmax_in)) (view_in r atmax_in))

      go : (x : Bool)
          → put (pick x (put r (view_place atmax_in)
          (view_bytes nodes (newest t (view_in r last_in) (view_in r atmax_in)))) r)
          n_place
          (head_bytes (pick x (with_maxtag (head_of r) t) (head_of r)))
          ≡ record_bytes (grown x)
      go true = assembled (grown true)
          (view-put T atmax_in (omega arith) (newest t (view_in r last_in) (view_in r atmax_in)))
      go false = assembled (grown false) T

  pub kept-bytes : (t : ℕ) (v : View) (b : Bool) → ltb (word r kept_place) t ≡ b
      → put (pick b (put r (view_place kept_in) (view_bytes nodes v)) r) n_place
      (head_bytes (pick b (with_kept (head_of r) t) (head_of r)))
      ≡ record_bytes (keep (record_of r) t v)
  unfolding record_of keep
  kept-bytes t v b e = go b ∙ ap (λ (x : Bool). record_bytes (grown x)) (sym e)
    where
      grown : Bool → Node
      grown x = set_kept (record_of r) (pick x t (word r kept_place)) (pick x v (view_in r kept_in))

      go : (x : Bool) → put (pick x (put r (view_place kept_in) (view_bytes nodes v)) r) n_place
          (head_bytes (pick x (with_kept (head_of r) t) (head_of r))) ≡ record_bytes (grown x)
      go true = assembled (grown true) (view-put T kept_in (omega arith) v)
      go false = assembled (grown false) T

  pub received-bytes : (s w t : ℕ) (p : Report) → 1 ≤ s → s ≤ nodes → 1 ≤ w → w ≤ nodes
      → put (entered s w t p (is_new (record_of r) w t) (both (is_new (record_of r) w t) (leb t (word r maxtag_place)))
      (both (is_new (record_of r) w t) (round_holds (wait_in r) t)) r) n_place (head_bytes (head_of r))
      ≡ record_bytes (received (record_of r) s w t p)
  unfolding record_of received entered
  received-bytes s w t p ls hs lw hw =
      let new = is_new (record_of r) w t in
      let z : (i : ℕ) → Sized (view_in r i) = λ i. sized-view nodes (part r (view_place i) (view_size nodes))
      (omega arith) in
      assembled (received (record_of r) s w t p)
      (view-entry (view-entry (view-entry (heard-put T (cell s w) t (omega arith)
      (length-tab cells (λ i. word r (heard_place + word_size * i))))
      last_in (omega arith) new w t p (z last_in) lw hw)
      atmax_in (omega arith) (both new (leb t (word r maxtag_place))) w t p (z atmax_in) lw hw)
      atround_in (omega arith) (both new (round_holds (wait_in r) t)) w t p (z atround_in) lw hw)

-- ---- the sizes of the tables after a handler, so that the record is read back

sized-pick : (b : Bool) (u v : View) → Sized u → Sized v → Sized (pick b u v)
sized-pick true u v p q = p
sized-pick false u v p q = q

sized-entry : (v : View) (w t : ℕ) (p : Report) → Sized v → Sized (put_entry v w t p)
sized-entry v w t p z =
    record { tags = length-set v.tags (w - 1) t ∙ z.tags; reports = length-set v.reports (w - 1) p ∙ z.reports }

pub sized-newest : (t : ℕ) (last held : View) → Sized (newest t last held)
unfolding newest
sized-newest t last held = record { tags = length-numbered nodes _; reports = length-numbered nodes _ }

module _ (c : Node) (z : SizedNode c) where
  sized-with_wait : (w : Wait) → SizedNode (with_wait c w)
  sized-with_wait w =
      record { heard = z.heard; last = z.last; atmax = z.atmax; atround = z.atround; keptview = z.keptview }

  sized-raised : (t : ℕ) → SizedNode (raised c t)
  unfolding raised
  sized-raised t =
      record {
        heard = z.heard;
        last = z.last;
        atmax = sized-pick (ltb c.maxtag t) (newest t c.last c.atmax) c.atmax
            (sized-newest t c.last c.atmax) z.atmax;
        atround = z.atround;
        keptview = z.keptview;
      }

  sized-received : (s w t : ℕ) (p : Report) → SizedNode (received c s w t p)
  unfolding received
  sized-received s w t p =
      record {
        heard = length-set c.heard (cell s w) t ∙ z.heard;
        last = sized-pick (is_new c w t) (put_entry c.last w t p)
            c.last (sized-entry c.last w t p z.last) z.last;
        atmax = sized-pick (both (is_new c w t) (leb t c.maxtag)) (put_entry c.atmax w t p)
            c.atmax (sized-entry c.atmax w t p z.atmax) z.atmax;
        atround = sized-pick (both (is_new c w t) (round_holds c.wait t)) (put_entry c.atround w t p)
            c.atround (sized-entry c.atround w t p z.atround) z.atround;
        keptview = z.keptview;
      }

  sized-keep : (t : ℕ) (v : View) → Sized v → SizedNode (keep c t v)
  unfolding keep
  sized-keep t v s =
      record {
        heard = z.heard;
        last = z.last;
        atmax = z.atmax;
        atround = z.atround;
        keptview = sized-pick (ltb c.kept t) v c.keptview s z.keptview;
      }

  pub sized-react : (s : ℕ) (m : Message) (v : View) → Sized v → SizedNode (react c s m v).node
  unfolding react
  sized-react s (Read q) v h = z
  sized-react s (ReadAnswer q t) v h = sized-with_wait _
  sized-react s (Write q t) v h = sized-raised t
  sized-react s (WriteAnswer q t) v h = sized-with_wait _
  sized-react s (Echo t) v h = sized-raised t
  sized-react s (Value t w p) v h = sized-received s w t p
  sized-react s (Good t) v h = sized-keep t v h

react-n : (c : Node) (s : ℕ) (m : Message) (v : View) → (react c s m v).node.n ≡ c.n
unfolding react raised received keep
react-n c s (Read q) v = refl
react-n c s (ReadAnswer q t) v = refl
react-n c s (Write q t) v = refl
react-n c s (WriteAnswer q t) v = refl
react-n c s (Echo t) v = refl
react-n c s (Value t w p) v = refl
react-n c s (Good t) v = refl

-- The bytes that a handler leaves are the record that it leaves, and with what it sends they are its step.
module _ (r r' : List ℕ) (s : ℕ) (m : Message) (v : View) (h : Sized v)
    (e : r' ≡ record_bytes (react (record_of r) s m v).node) where
  pub reacted : record_of r' ≡ (react (record_of r) s m v).node
  reacted = ap record_of e ∙ record-back (react (record_of r) s m v).node (sized-react (record_of r) (sized_of r) s m v
      h)

  pub reacted-n : (record_of r').n ≡ (record_of r).n
  reacted-n = ap (λ (d : Node). d.n) reacted ∙ react-n (record_of r) s m v

  pub reacted-bytes : r' ≡ record_bytes (record_of r')
  reacted-bytes = e ∙ ap record_bytes (sym reacted)

  pub reacted-step : {x : Sent} → x ≡ (react (record_of r) s m v).outbox.handler → started (record_of r') s x
      ≡ react (record_of r) s m v
  reacted-step q = ap₂ (λ (d : Node) (y : Sent). started d s y) reacted q ∙ sym (react-started (record_of r) s m v)
