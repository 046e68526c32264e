-- `parser::past_letters` meets its contract.
use Prim.Native.Nat.{◌-◌}
use lib.ListN.{length}
use Rattle.parser.proofs.TextLaws.{Passing}
use Rattle.parser.proofs.past_letters.Given as goal

abbrev pub invariant-loop-l : goal.invariant-loop-l
invariant-loop-l l = Passing l.s l.from l.l

abbrev pub decreases-loop-l : goal.decreases-loop-l
decreases-loop-l l = length l.s - l.l.start
