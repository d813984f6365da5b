-- `answers::put_line` meets its contract.
use Prim.Native.Nat.{ℕ, ◌+◌}
use mathlib.Core.Path.{◌≡◌, sym, ◌∙◌}
use mathlib.Core.List.{List, ◌++◌}
use native.Mathlib.Nat.{add-zero}
use native.Mathlib.Omega.{arith}
use lib.ListN.{length, length-append}
use borrow.Author.Rules.{rules}
use Rattle.std.specs.Prelude.{Some, None}
use Rattle.answers.specs.declared.Printed.TheVariants.{Scan}
use Rattle.octets.specs.Loop.{join}
use Rattle.octets.proofs.Put.{put-nil, put_then}
use Rattle.answers.specs.Answer.{scan_is, start, entry_at, entries, feed, line}
use Rattle.answers.proofs.put_line.Goals as goal

pub returns-in-Scan : goal.returns-in-Scan
unfolding line entries
returns-in-Scan c =
    let a = c.args in
    let o = a.out.now in
    let node : ℕ = c.in-Scan.c in
    let s : List ℕ = start a.event scan_is node in
    let m : ℕ = c.min.result in
    let p = c.put_start-k.ensures in
    let q = c.put_entries-e.ensures in
    let r = c.put_feed.ensures in
    let t : List ℕ = s ++ join m (entry_at a.v) in
    let l : a.at + length s ≡ c.put_start-k.result = omega (arith, p.1) in
    let z : c.put_entries-e.result + 1
    ≡ a.at + length (t ++ feed) = simp length-append (omega (
      arith,
      p.1,
      q.1,
    )) in
    let n : a.at + length t
    ≡ c.put_entries-e.result = simp length-append
    (omega (arith, p.1, q.1)) in
    let e : a.reply ≡ Some (Scan node) = search rules in
    rw (e, sym c.min.ensures) (
      put_then o a.at t feed c.put_entries-e.result (omega arith) n
          (put_then o a.at s (join m (entry_at a.v))
          c.put_start-k.result
          (omega arith) l p.0 q.0) r.0,
      r.1 ∙ z,
    )

pub returns-in_default : goal.returns-in_default
unfolding line
returns-in_default c =
    let a = c.args in
    let e : a.reply ≡ None = search rules in
    rw e (sym (put-nil a.out.now a.at), sym (add-zero a.at))
