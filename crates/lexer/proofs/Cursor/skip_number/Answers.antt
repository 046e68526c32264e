use mathlib.Core.Path.{sym, ◌∙◌}
use Rattle.lexer.proofs.RunLaws.{number_digit, number_period, number_other, number_second, number_end}
use native.Mathlib.Omega.{arith}
use Rattle.lexer.proofs.Cursor.skip_number.Goals as goal
use Rattle.lexer.proofs.Cursor.skip_number.Goals.{then-b-ne46-via-then-b-ne46, then-b-ne46-via-else-b-ne46+then-has_period}

pub loop-i-preserved-then-is_digit : goal.loop-i-preserved-then-is_digit
loop-i-preserved-then-is_digit c =
    let l = c.loop-i in
    omega (arith, l.invariant, number_digit l.has_period c.args.s.now l.i c.loop-i-test.true (sym c.is_digit.ensures ∙ c.if-is_digit.true))

pub returns-then-b-ne46 : goal.returns-then-b-ne46
returns-then-b-ne46 c =
    let l = c.loop-i in
    let s = c.args.s.now in
    elim c.then-b-ne46.branch [
      | then-b-ne46-via-then-b-ne46 w ↦
          (omega (arith, l.invariant, number_other l.has_period s l.i c.loop-i-test.true (sym c.is_digit.ensures ∙ c.if-is_digit.false) w.if-b-ne46.true), omega arith)
      | then-b-ne46-via-else-b-ne46+then-has_period w ↦
          let e = rw w.if-has_period.true at l.invariant in
          (omega (arith, e, number_second s l.i c.loop-i-test.true w.if-b-ne46.false), omega arith)
    ]

pub loop-i-preserved : goal.loop-i-preserved
loop-i-preserved c =
    let l = c.loop-i in
    let e = rw c.if-has_period.false at l.invariant in
    omega (arith, e, number_period c.args.s.now l.i c.loop-i-test.true c.if-b-ne46.false)

pub returns : goal.returns
returns c =
    let l = c.loop-i in
    (omega (arith, l.invariant, number_end l.has_period c.args.s.now l.i c.loop-i-test.false), omega arith)
