-- `dollars::odd_windows` meets its contract. The invariant: the windows before i are odd in number or not, as `is_odd` says.
use mathlib.Core.Path.{◌≡◌}
use mathlib.Core.Bool.{xor}
use Prim.Native.Nat.{◌-◌, ◌≤◌}
use lib.ListN.{length, drop}
use Rattle.dollars.specs.Dollars.{two_dollars}
use Rattle.dollars.specs.Places.{places, odd}
use Rattle.dollars.proofs.odd_windows.Given as goal

abbrev pub invariant-loop-first : goal.invariant-loop-first
invariant-loop-first l =
    (odd (places two_dollars 0 l.s) ≡ xor l.is_odd (odd (places two_dollars l.i (drop l.i l.s)))) × (l.i ≤ length l.s)

abbrev pub decreases-loop-first : goal.decreases-loop-first
decreases-loop-first l = length l.s - l.i
