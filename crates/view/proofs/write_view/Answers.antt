-- `view::write_view` meets its contract.
use Prim.Native.Nat.{ℕ, ◌+◌, ◌*◌}
use mathlib.Core.Path.{◌≡◌, refl, sym, ap, ◌∙◌}
use mathlib.Core.List.{List, ◌++◌, append_assoc}
use native.Mathlib.Omega.{arith}
use lib.ListN.{length, get_or, length-append}
use Rattle.octets.specs.Bytes.{be, put}
use Rattle.octets.specs.Loop.{join}
use Rattle.octets.proofs.Put.{put-nil, put_then}
use Rattle.octets.proofs.Table.{join-none, join_more, length-join}
use Rattle.view.specs.Size.{tag_size, entry_size}
use Rattle.view.specs.Report.{no_report, report_bytes}
use Rattle.view.specs.View.{view_bytes, entry_bytes}
use Rattle.view.specs.declared.View.{View}
use Rattle.view.proofs.write_view.Goals as goal

abbrev entry : View → ℕ → List ℕ
entry v j = entry_bytes (get_or v.tags j 0) (get_or v.reports j no_report)

pub loop-i-init : goal.loop-i-init
loop-i-init c =
    let o = c.args.out.now in (
      sym (put-nil o 0) ∙ ap (λ (t : List ℕ). put o 0 t)
          (sym (join-none (entry c.args.v))),
      refl,
    )

pub loop-i-preserved : goal.loop-i-preserved
loop-i-preserved c =
    let a = c.args in
    let i = c.loop-i.i in
    let o = a.out.now in
    let f = entry a.v in
    let t = be tag_size (get_or a.v.tags i 0) in
    let p = report_bytes (get_or a.v.reports i no_report) in
    let l : length (join i f) ≡ entry_size * i = length-join i entry_size f (λ j. refl) in
    let m : 0 + length (join i f ++ t) ≡ entry_size * i + tag_size = simp length-append (omega arith) in
    let tag : c.put_word.new.b ≡ put o 0
    (join i f ++ t) =
    put_then o 0 (join i f) t (entry_size * i) (omega arith) (omega arith)
    c.loop-i.invariant.0
    c.put_word.ensures in
    let both : c.put_bytes.new.b ≡ put o 0 (join i f ++ t ++ p) =
    put_then o 0 (join i f ++ t) p (entry_size * i + tag_size) (omega arith) m tag
    (c.put_bytes.ensures ∙ ap (λ (r : List ℕ). put
    c.put_word.new.b
    (entry_size * i + tag_size) r)
    c.report_bytes.ensures) in (
      both ∙ ap (λ (r : List ℕ). put o 0 r) (append_assoc (join i f) t p ∙ sym (join_more i f)),
      c.put_bytes.auto.b ∙ c.put_word.auto.b ∙ c.loop-i.invariant.1,
    )

pub returns : goal.returns
unfolding view_bytes
returns c =
    let a = c.args in
    let e : c.loop-i.i ≡ a.n = omega arith in
    c.loop-i.invariant.0 ∙ ap (λ (k : ℕ). put a.out.now 0 (join k (entry a.v))) e
