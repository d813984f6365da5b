-- `octets::put_halves` meets its contract.
use Rattle.std.proofs.Common.{◌≡◌, ◌∙◌, ◌+◌, ◌/◌, ◌++◌, refl, ap, length, arith}
use Rattle.std.proofs.lemmas.List.{take-append-drop}
use Rattle.octets.specs.Bytes.{put}
use Rattle.octets.proofs.Put.{put_then}
use Rattle.octets.proofs.put_halves.Goals as goal

pub returns : goal.returns
returns c =
    let a = c.args in
    let b = a.b.now in
    let s = a.s.now in
    let first = c.split_at.result.0.now in
    let second = c.split_at.result.1.now in
    let whole : first ++ second ≡ s =
    rw (c.split_at.ensures.front, c.split_at.ensures.back) (take-append-drop (length s / 2) s) in
    put_then b a.at first second (a.at + length first) (omega arith) refl c.put_bytes.ensures c.put_bytes-2.ensures
    ∙ ap (put b a.at) whole
