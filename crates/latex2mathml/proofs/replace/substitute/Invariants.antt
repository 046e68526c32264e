-- `latex2mathml::replace::substitute` meets its contract. The invariant: the text up to `from` is laid up to the place `at`.
use mathlib.Core.Path.{◌≡◌}
use Prim.Native.Nat.{◌-◌}
use lib.ListN.{length}
use Rattle.latex2mathml.specs.Laid.{display_of}
use Rattle.latex2mathml.proofs.PassLaws.{Passing}
use Rattle.latex2mathml.proofs.replace.substitute.Given as goal

abbrev pub invariant-loop-a : goal.invariant-loop-a
invariant-loop-a l =
    Passing l.manner (length l.initial.store) (display_of l.delimiter) l.delimiter l.s l.width l.initial.out l.out l.start l.at l.from × (length l.store ≡ length l.initial.store)

abbrev pub decreases-loop-a : goal.decreases-loop-a
decreases-loop-a l = length l.s - l.from
