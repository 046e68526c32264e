-- `latex2mathml::translate::math_len` meets its contract.
use Rattle.latex2mathml.proofs.MathLaws.{wrapper_small, math_measured}
use native.Mathlib.Omega.{arith}
use Rattle.latex2mathml.proofs.translate.math_len.Goals as goal

pub overflow_add-result : goal.overflow_add-result
overflow_add-result c =
    let w = c.wrapper_len.ensures in
    let m = c.measure.ensures.small in
    omega (arith, wrapper_small c.args.display)

pub returns : goal.returns
returns c = math_measured c.args.display c.wrapper_len.ensures c.measure.ensures
