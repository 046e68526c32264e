use mathlib.Core.Path.{refl, sym, ◌∙◌}
use native.Mathlib.Omega.{arith}
use Rattle.dollars.specs.Dollars.{two_dollars}
use Rattle.dollars.proofs.DollarLaws.{odd_none, odd_next, false_xor}
use Rattle.dollars.proofs.odd_windows.Goals as goal

pub loop-first-init : goal.loop-first-init
loop-first-init c = (false_xor _, omega arith)

pub loop-first-preserved : goal.loop-first-preserved
loop-first-preserved c =
    let l = c.loop-first in
    let d = c.in-Some.ensures in
    (l.invariant.0 ∙ odd_next two_dollars c.args.s.now _ _ l.is_odd l.invariant.1 d.0.0 d.1, omega arith)

pub returns : goal.returns
returns c =
    let l = c.loop-first in
    sym (l.invariant.0 ∙ odd_none two_dollars c.args.s.now _ _ l.is_odd l.invariant.1 (sym c.in_default.ensures) refl)
