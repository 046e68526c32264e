-- `Shape::from`, of a record's numbers, meets its contract.
use lib.ListN.{get_or-eq_default}
use mathlib.Core.Path.{sym, ap}
use Prim.Native.Nat.{◌≤◌}
use native.Mathlib.Omega.{arith}
use Rattle.ast.specs.Shape.{shapes, matrix_shape, shape_of}
use Rattle.ast.proofs.codes.ShapeFromFields.from.Goals as goal

pub returns-in-2 : goal.returns-in-2
unfolding shape_of shapes
returns-in-2 c = rw c.in-2.is

pub returns-in_default : goal.returns-in_default
unfolding shape_of shapes
returns-in_default c =
    let last : 36 ≤ c.args.f.tag = omega arith in
    rw c.from-in_default.ensures (sym (ap (λ g. g c.args.f.attr c.args.f.x c.args.f.y) (get_or-eq_default shapes matrix_shape last)))
