-- `ast::variant::set_variant` meets its contract; the measure is what is left of the height.
use mathlib.Core.Path.{◌≡◌}
use lib.ListN.{length}
use Rattle.ast.proofs.VariantLaws.{Goes}
use Rattle.ast.proofs.variant.+set_variant.Given as goal

abbrev pub decreases-set_variant : goal.decreases-set_variant
decreases-set_variant l = l.left

abbrev pub invariant-loop : goal.invariant-loop
invariant-loop l =
    (length l.store ≡ length l.initial.store) × Goes l.initial.store l.i l.v l.store l.k l.n l.counter
