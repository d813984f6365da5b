-- `react_bytes::tables::put_newest` meets its contract.
use Prim.Native.Nat.{ℕ, ◌*◌}
use mathlib.Core.Path.{◌≡◌, refl, sym, ap, ◌∙◌}
use native.Mathlib.Omega.{arith}
use lib.ListN.{length}
use Rattle.octets.specs.Bytes.{put}
use Rattle.octets.specs.Loop.{join}
use Rattle.octets.proofs.Put.{put-nil, put_then, put-over}
use Rattle.octets.proofs.Lent.{lent}
use Rattle.octets.proofs.Table.{join-none, join_more, length-join}
use Rattle.view.specs.Size.{nodes, entry_size}
use Rattle.region.specs.Record.{view_in, last_in, atmax_in}
use Rattle.react_bytes.proofs.Sections.{newest-bytes}
use Rattle.react_bytes.proofs.tables.put_newest.Invariants.{entry}
use Rattle.react_bytes.proofs.tables.put_newest.Goals as goal

pub loop-i-init : goal.loop-i-init
loop-i-init c =
    let a = c.args in
    let o = a.out.now in (
      sym (put-nil o 0) ∙ ap (put o 0) (sym (join-none (entry a.r.now a.t))),
      refl,
    )

pub loop-i-preserved : goal.loop-i-preserved
loop-i-preserved c =
    let a = c.args in
    let i = c.loop-i.i in
    let f = entry a.r.now a.t in
    let l : length (join i f) ≡ entry_size * i = length-join i entry_size f (λ j. refl) in
    let e = c.put_bytes.ensures ∙ ap (put c.loop-i.out (entry_size * i)) (lent a.r.now _ entry_size refl
    ∙ c.newest_at-x.ensures.1) in (
      put_then a.out.now 0 (join i f) (f i) (entry_size * i) (omega arith) (omega arith) c.loop-i.invariant.0 e
          ∙ ap (put a.out.now 0) (sym (join_more i f)),
      c.put_bytes.auto.b ∙ c.loop-i.invariant.1,
    )

pub returns : goal.returns
returns c =
    let a = c.args in
    let r = a.r.now in
    let f = entry r a.t in
    let e : c.loop-i.i ≡ nodes = omega arith in
    c.loop-i.invariant.0 ∙ ap (λ (k : ℕ). put a.out.now 0 (join k f)) e
    ∙ put-over a.out.now (join nodes f) (length-join nodes entry_size f (λ j. refl) ∙ sym c.requires.1)
    ∙ newest-bytes a.t (view_in r last_in) (view_in r atmax_in)
