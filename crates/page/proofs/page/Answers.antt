-- `page::page` meets its contract.
use Rattle.std.proofs.Common.{◌≡◌, ℕ, ◌+◌, ◌*◌, ◌≤◌, ◌<◌, Bool, true, List, length, eqb, refl, sym, ap, ◌∙◌, arith}
use borrow.Author.Tests.{eqb-true}
use Rattle.octets.specs.Answer.{returned}
use Rattle.octets.specs.Bytes.{Bytes}
use Rattle.view.specs.Size.{nodes, limit, entry_size}
use Rattle.view.specs.View.{view_ok}
use Rattle.figures.specs.Figures.{totals}
use Rattle.figures.proofs.Accepted.{Accepted, refused-12, refused-1, refused-7}
use Rattle.figures.proofs.Bounds.{a-size, not-size}
use Rattle.page.specs.Page.{line_size}
use Rattle.page.proofs.Pages.{page-length, in-room, too_long, in-refused}
use Rattle.page.proofs.page.Goals as goal

-- a view that passed the three tests has figures
passed : (n : ℕ) (v : List ℕ) {x y : Bool} → x ≡ eqb (length v) (entry_size * n) → x ≡ true → 1 ≤ n → n ≤ nodes
    → y ≡ view_ok n limit v → y ≡ true → Accepted n v (totals n v)
passed n v e x l m g y =
    record {
      sized = a-size n l m;
      long = eqb-true (length v) (entry_size * n) (sym e ∙ x);
      ok = sym g ∙ y;
      are = refl;
    }

pub returns-then-not-is_long : goal.returns-then-not-is_long
returns-then-not-is_long c =
    let a = c.args in
    let e = refused-12 a.n a.v.now (sym c.is_long.ensures ∙ c.if-not-is_long.true) in
    rw (in-refused a.n a.v.now 12 e (length a.out.now)) (refl, refl)

pub returns-then-n-lt1 : goal.returns-then-n-lt1
returns-then-n-lt1 c =
    let a = c.args in
    let e = refused-1 a.n a.v.now (sym c.is_long.ensures ∙ c.if-not-is_long.false) (not-size a.n c.then-n-lt1.either) in
    rw (in-refused a.n a.v.now 1 e (length a.out.now)) (refl, refl)

pub returns-then-not-view_ok : goal.returns-then-not-view_ok
returns-then-not-view_ok c =
    let a = c.args in
    let e = refused-7 a.n a.v.now (sym c.is_long.ensures ∙ c.if-not-is_long.false)
    (a-size a.n c.if-n-lt1.false c.if-n-gt-NODES.false) (sym c.view_ok.ensures ∙ c.if-not-view_ok.true) in
    rw (in-refused a.n a.v.now 7 e (length a.out.now)) (refl, refl)

pub returns-then-out-size : goal.returns-then-out-size
returns-then-out-size c =
    let a = c.args in
    let v = a.v.now in
    let n = a.n in
    let h = passed n v c.is_long.ensures c.if-not-is_long.false c.if-n-lt1.false c.if-n-gt-NODES.false c.view_ok.ensures
    c.if-not-view_ok.false in
    let l : length a.out.now < line_size * n + line_size = omega (arith, c.if-out-size.true) in
    rw (too_long n v (totals n v) h (length a.out.now) (λ k. (c.type_inv.v k).fits) l) (refl, refl)

pub returns : goal.returns
returns c =
    let a = c.args in
    let v = a.v.now in
    let n = a.n in
    let t = totals n v in
    let b : Bytes v = λ k. (c.type_inv.v k).fits in
    let h = passed n v c.is_long.ensures c.if-not-is_long.false c.if-n-lt1.false c.if-n-gt-NODES.false c.view_ok.ensures
    c.if-not-view_ok.false in
    let e : line_size * (n + 1) ≡ line_size * n + line_size = omega arith in
    rw (in-room n v t h (length a.out.now) b (omega (arith, c.if-out-size.false)))
    (ap returned (e ∙ sym (page-length n v t h b)), c.put_page.ensures)
