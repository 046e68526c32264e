-- `dollars::three_dollars` meets its contract. The invariant: three dollars stand nowhere before i.
use mathlib.Core.Path.{◌≡◌}
use Prim.Native.Nat.{◌-◌, ◌≤◌}
use lib.ListN.{length, drop}
use Rattle.dollars.specs.Dollars.{three_dollars}
use Rattle.dollars.specs.Places.{places}
use Rattle.dollars.proofs.three_dollars.Given as goal

abbrev pub invariant-loop-first : goal.invariant-loop-first
invariant-loop-first l =
    (places three_dollars 0 l.s ≡ places three_dollars l.i (drop l.i l.s)) × (l.i ≤ length l.s)

abbrev pub decreases-loop-first : goal.decreases-loop-first
decreases-loop-first l = length l.s - l.i
