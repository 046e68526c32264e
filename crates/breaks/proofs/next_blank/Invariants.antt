-- `breaks::next_blank` meets its contract. The invariant: the next such line feed from i on is the next from the beginning on.
use mathlib.Core.Path.{◌≡◌}
use Prim.Native.Nat.{◌-◌, ◌≤◌}
use lib.ListN.{length, drop}
use Rattle.dollars.specs.Places.{next_place}
use Rattle.breaks.proofs.BreakLaws.{blank_behind}
use Rattle.breaks.proofs.next_blank.Given as goal

abbrev pub invariant-loop-feed : goal.invariant-loop-feed
invariant-loop-feed l =
    (next_place blank_behind l.initial.i (drop l.initial.i l.s) ≡ next_place blank_behind l.i (drop l.i l.s)) × (l.initial.i ≤ l.i) × (l.i ≤ length l.s)

abbrev pub decreases-loop-feed : goal.decreases-loop-feed
decreases-loop-feed l = length l.s - l.i
