-- `dollars::odd_dollars` meets its contract. The invariant: the dollars so far are odd in number or not, as `is_odd` says.
use mathlib.Core.Path.{◌≡◌}
use mathlib.Core.Bool.{xor}
use lib.ListN.{drop}
use Rattle.dollars.specs.Dollars.{dollar}
use Rattle.dollars.specs.Places.{places, odd}
use Rattle.dollars.proofs.odd_dollars.Given as goal

abbrev pub invariant-loop-b : goal.invariant-loop-b
invariant-loop-b l = odd (places dollar 0 l.s) ≡ xor l.is_odd (odd (places dollar l.b-index (drop l.b-index l.s)))
