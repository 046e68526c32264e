use mathlib.Core.Path.{sym}
use Rattle.lexer.proofs.RunLaws.{run_more, run_stop, run_end}
use native.Mathlib.Omega.{arith}
use Rattle.lexer.proofs.Cursor.skip.Goals as goal

pub returns-then-not-passes-clause-run : goal.returns-then-not-passes-clause-run
returns-then-not-passes-clause-run g c =
    λ test is. omega (arith, c.loop-i.invariant test is, run_stop test c.args.s.now c.loop-i.i c.loop-i-test.true (sym (is _ _ c.if-not-passes.ensures)))

pub loop-i-preserved : goal.loop-i-preserved
loop-i-preserved g c =
    λ test is. omega (arith, c.loop-i.invariant test is, run_more test c.args.s.now c.loop-i.i c.loop-i-test.true (sym (is _ _ c.if-not-passes.ensures)))

pub returns-clause-run : goal.returns-clause-run
returns-clause-run g c =
    λ test is. omega (arith, c.loop-i.invariant test is, run_end test c.args.s.now c.loop-i.i c.loop-i-test.false)
