-- `print::Source::measure` meets its contract.
use Rattle.print.specs.Measure.{Summed}
use Rattle.print.proofs.Source.measure.Given as goal

abbrev pub invariant-loop-k : goal.invariant-loop-k
invariant-loop-k l = Summed l.self.dialect l.self.body.now l.self.store.now l.top l.k l.sums
