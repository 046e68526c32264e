-- `parser::environments::spells` meets its contract. The loop's invariant: the letters before the place i are the part of the name that is compared.
use Rattle.parser.proofs.EnvironmentLaws.{Comparing}
use Rattle.parser.proofs.environments.spells.Given as goal

abbrev pub invariant-loop-b : goal.invariant-loop-b
invariant-loop-b l = Comparing l.t l.name l.i l.b-index
