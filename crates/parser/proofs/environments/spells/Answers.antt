-- `parser::environments::spells` meets its contract.
use mathlib.Core.Path.{sym, ◌∙◌}
use Rattle.parser.proofs.EnvironmentLaws.{comparing_none, comparing_short, comparing_other, comparing_more, comparing_all}
use native.Mathlib.Omega.{arith}
use Rattle.parser.proofs.environments.spells.Goals as goal

pub loop-b-init : goal.loop-b-init
loop-b-init c = comparing_none c.args.t.now c.args.name.now

pub returns-in_default : goal.returns-in_default
returns-in_default c =
    sym (comparing_other c.loop-b.invariant c.in-Some.letter c.in-Some.ensures (omega (arith, c.loop-b-test.true)) (λ e. c.if-letter-from.false (e ∙ sym c.from.ensures)))

pub returns-in_default-2 : goal.returns-in_default-2
returns-in_default-2 c =
    sym (comparing_short c.loop-b.invariant c.in_default.ensures (omega (arith, c.loop-b-test.true)))

pub loop-b-preserved : goal.loop-b-preserved
loop-b-preserved c =
    comparing_more c.loop-b.invariant c.in-Some.letter c.in-Some.ensures (omega (arith, c.loop-b-test.true)) (c.if-letter-from.true ∙ c.from.ensures)

pub returns : goal.returns
returns c =
    comparing_all c.loop-b.invariant _ c.letter_at-2.ensures _ c.is_none.ensures (omega (arith, c.loop-b-test.false))
