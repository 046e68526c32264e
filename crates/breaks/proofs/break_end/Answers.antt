use mathlib.Core.Path.{refl, sym, ◌∙◌}
use Rattle.breaks.proofs.BreakLaws.{end_here, end_past}
use native.Mathlib.Omega.{arith}
use Rattle.breaks.proofs.break_end.Goals as goal

pub loop-w-preserved : goal.loop-w-preserved
loop-w-preserved c =
    let l = c.loop-w in
    let end = c.in-Some.ensures in
    (l.invariant.0 ∙ end_past c.args.s.now l.i _ end.0, omega arith, end.2)

pub returns : goal.returns
returns c =
    let l = c.loop-w in
    (sym (l.invariant.0 ∙ end_here c.args.s.now l.i 0 (sym c.in_default.ensures) refl), l.invariant.1, l.invariant.2)
