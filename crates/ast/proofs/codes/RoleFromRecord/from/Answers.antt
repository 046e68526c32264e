-- `Role::from`, of a record, meets its contract.
use mathlib.Core.Path.{sym}
use native.Mathlib.Omega.{arith}
use Rattle.ast.specs.Shape.{shapes, shape_of}
use Rattle.ast.proofs.ShapeLaws.{other_role}
use Rattle.ast.proofs.codes.RoleFromRecord.from.Goals as goal

pub returns-in-2 : goal.returns-in-2
unfolding shape_of shapes
returns-in-2 c = rw c.in-2.is

pub returns-in_default : goal.returns-in_default
returns-in_default c =
    let r = c.args.r in
    sym (other_role r.tag r.attr r.x r.y ((((tt, λ e. omega arith), λ e. omega arith), λ e. omega arith), λ e. omega arith))
