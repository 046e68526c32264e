-- `make::make_stretched` meets its contract.
use borrow.Enum.Refused.{opened}
use Rattle.make.proofs.MakeLaws.{role_read, stretched_as, stretched_none, operand_read, operator_of, fixed_of}
use Rattle.parser.specs.Parse.{stretched}
use mathlib.Core.Path.{◌∙◌}
use Rattle.ast.specs.declared.Leaf.{Leaf}
use Rattle.make.proofs.make_stretched.Goals as goal

pub returns-in-Operator : goal.returns-in-Operator
unfolding stretched
returns-in-Operator c =
    λ lo n h. rw (stretched_as c.args.store.now c.args.i c.get_record.ensures.0 c.from.ensures _ c.in-Operator.is lo n h.here) (c.make_leaf.ensures lo (operand_read c.args.store.now c.args.i c.get_record.ensures.0 c.from.ensures (Leaf.Operator c.in-Operator.c) c.in-Operator.is lo n c.args.p.made h (operator_of n c.in-Operator.c (role_read c.args.store.now c.args.i c.get_record.ensures.0 c.from.ensures lo n h.here ∙ c.in-Operator.is))))

pub returns-in-OtherOperator : goal.returns-in-OtherOperator
unfolding stretched
returns-in-OtherOperator c =
    λ lo n h. rw (stretched_as c.args.store.now c.args.i c.get_record.ensures.0 c.from.ensures _ c.in-OtherOperator.is lo n h.here) (c.make_leaf-in-OtherOperator.ensures lo (operand_read c.args.store.now c.args.i c.get_record.ensures.0 c.from.ensures (Leaf.OtherOperator c.in-OtherOperator.t) c.in-OtherOperator.is lo n c.args.p.made h (fixed_of n c.in-OtherOperator.t (role_read c.args.store.now c.args.i c.get_record.ensures.0 c.from.ensures lo n h.here ∙ c.in-OtherOperator.is))))

pub returns-in_default : goal.returns-in_default
unfolding stretched
returns-in_default c =
    λ lo n h. rw (stretched_none c.args.store.now c.args.i c.get_record.ensures.0 c.from.ensures (opened c.in_default.in_default-own.keys3) lo n h.here)
