-- `lexer::letters::wide_letter` meets its contract.
use mathlib.Core.Path.{sym, ap}
use Rattle.text.proofs.Utf8Laws.{point_inside}
use Rattle.lexer.proofs.AlphabeticLaws.{wide_at}
use native.Mathlib.Omega.{arith}
use Rattle.lexer.proofs.letters.wide_letter.Goals as goal

pub overflow_add-at : goal.overflow_add-at
overflow_add-at c =
    omega (arith, ap (λ q. q.width) c.code_point-p.ensures, point_inside c.args.s.now c.args.at (omega arith))

pub returns : goal.returns
returns c =
    let s = c.args.s.now in
    let at = c.args.at in
    let w = ap (λ q. q.width) c.code_point-p.ensures in
    (rw (c.new.ensures, c.code_point-p.ensures) (sym (wide_at s at c.requires.0 c.requires.1)), rw c.new.ensures (omega (arith, w, point_inside s at (omega arith))))
