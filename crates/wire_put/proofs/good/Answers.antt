-- `wire_put::good` meets its contract.
use Rattle.std.proofs.Common.{◌≡◌, ◌∙◌, ℕ, ◌+◌, ◌/◌, ◌%◌, ◌^◌, ◌≤◌, List, [], ◌∷◌, ◌++◌, length, get_or}
use Rattle.std.proofs.Common.{refl, ap, ap₂, arith}
use borrow.Author.Tests.{le-leb}
use Rattle.octets.specs.Bytes.{be, put}
use Rattle.octets.proofs.Put.{put_then}
use Rattle.view.specs.Size.{nodes, view_size}
use Rattle.wire.specs.Layout.{kind, tag, view, second_head, good_head}
use Rattle.wire_put.proofs.good.Goals as goal

pub returns : goal.returns
returns c =
    let a = c.args in
    let o = a.out.now in
    let n = length a.v.now in
    let short : n ≤ view_size nodes = c.requires in
    let room : good_head + n ≤ length o = c.if-out-end.false in
    let u = kind 7 ++ tag a.t in
    let h : List ℕ = 6 ∷ be 2 n in
    let k : length (u ++ view a.v.now) ≡ good_head + n = omega arith in
    let high : n / 256 % 256 ≡ n / 2 ^ 8 = omega arith in
    let low : n % 256 ≡ n % 2 ^ 8 / 2 ^ 0 = omega arith in
    let z = c.put_one.new.out in
    let q : c.put_bytes.new.b ≡ put z second_head h =
    c.put_bytes.ensures
    ∙ ap (λ (d : List ℕ). put z second_head (6 ∷ get_or d 0 0 ∷ get_or d 1 0 ∷ [])) c.to_be_bytes.ensures
    ∙ ap₂ (λ (x y : ℕ). put z second_head (6 ∷ x ∷ y ∷ [])) high low in (
      simp (k, le-leb _ _ room),
      put_then o 0 (u ++ h) a.v.now good_head (omega arith) refl
          (put_then o 0 u h second_head (omega arith) refl c.put_one.ensures.1 q) c.put_bytes-2.ensures,
    )
