-- `answers::put_entry` meets its contract.
use borrow.Author.Rules.{rules}
use Prim.Native.Nat.{ℕ, ◌+◌}
use mathlib.Core.Path.{◌≡◌, refl, sym, ap, ◌∙◌}
use mathlib.Core.Bool.{true, false}
use mathlib.Core.List.{List, [], ◌∷◌}
use native.Mathlib.Omega.{arith}
use lib.ListN.{length, set}
use lib.Dec.{eqb}
use borrow.Author.Tests.{eq-eqb, ne_eqb}
use Rattle.octets.specs.Bytes.{be, put}
use Rattle.octets.proofs.Put.{put_then, put_one}
use Rattle.view.specs.Size.{report_size}
use Rattle.view.specs.Report.{report_number}
use Rattle.view.proofs.ReportBytes.{number-bytes}
use Rattle.digits.specs.Hex.{hex_text}
use Rattle.digits.proofs.HexBack.{length-text}
use Rattle.answers.specs.Answer.{entry, entry_room}
use Rattle.answers.proofs.put_entry.Goals as goal

pub returns-then-tag-eq0 : goal.returns-then-tag-eq0
unfolding entry
returns-then-tag-eq0 c =
    let e : eqb c.args.tag 0 ≡ true = eq-eqb _ _
    c.if-tag-eq0.true in
    rw e (c.put_bytes.ensures, refl, search rules)

pub returns : goal.returns
unfolding entry
returns c =
    let a = c.args in
    let o = a.out.now in
    let e : eqb a.tag 0 ≡ false = ne_eqb _ _ c.if-tag-eq0.false in
    let b : List ℕ = be report_size (report_number a.p) in
    let same = number-bytes a.p
    (record { extensions = search rules; lines = search rules; waiting = search rules; wakeups = search rules }) in
    let h : List ℕ = hex_text 8 b in
    let l : a.at + entry_room ≡ a.at + length (32 ∷ h) = omega (arith, length-text report_size b) in
    rw e (
      put_then o a.at (32 ∷ []) h (a.at + 1) (search rules) refl (put_one o a.at 32 (search rules))
          (c.put_bytes-2.ensures ∙ ap (λ (s : List ℕ). put (set o a.at 32) (a.at + 1) s) (c.hex_text.ensures
          ∙ ap (λ (s : List ℕ). hex_text 8 s) (c.report_bytes.ensures ∙ sym same))),
      l,
      search rules,
    )
