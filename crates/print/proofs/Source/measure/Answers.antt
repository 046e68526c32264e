-- `print::Source::measure` meets its contract.
use mathlib.Core.Path.{◌≡◌}
use Rattle.print.proofs.MeasureLaws.{summed_none, all_length, all_errors, all_small, length_sum, errors_sum}
use native.Mathlib.Omega.{arith}
use Rattle.print.proofs.Source.measure.Goals as goal

pub loop-k-init : goal.loop-k-init
loop-k-init c = summed_none c.args.self.now.dialect c.args.self.now.body.now c.args.self.now.store.now c.args.top {sums = c.default-sums.result} c.default-sums.ensures

pub overflow_sub-result : goal.overflow_sub-result
overflow_sub-result c =
    let e : c.loop-k.k ≡ c.args.top = omega arith in
    let l = all_length c.requires (rw e at c.loop-k.invariant) in
    omega arith

pub overflow_sub-result-2 : goal.overflow_sub-result-2
overflow_sub-result-2 c =
    let e : c.loop-k.k ≡ c.args.top = omega arith in
    all_errors c.requires (rw e at c.loop-k.invariant)

pub returns : goal.returns
returns c =
    let e : c.loop-k.k ≡ c.args.top = omega arith in
    let g = rw e at c.loop-k.invariant in
    let z = all_small c.requires g in
    record { long = length_sum c.requires g; faults = errors_sum c.requires g; small = omega arith }
