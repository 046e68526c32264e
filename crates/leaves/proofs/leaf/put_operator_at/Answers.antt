-- `leaves::leaf::put_operator_at` meets its contract.
use mathlib.Core.Path.{refl}
use borrow.Enum.Refused.{opened}
use Rattle.text.specs.Examples.{text_opens}
use Rattle.text.proofs.PutLaws.{room_as, puts_as}
use Rattle.ast.specs.declared.Leaf.{Leaf}
use Rattle.markup.specs.Print.{operator_text, slash_leaf, slash, cell_leaf, at_place, operator_markup}
use Rattle.leaves.proofs.LeafLaws.{no_slash}
use Rattle.leaves.proofs.leaf.put_operator_at.Goals as goal

pub put_character_in-requires : goal.put_character_in-requires
unfolding text_opens at_place slash slash_leaf operator_text
put_character_in-requires c = rw c.operator_in.ensures (rw c.in-Slashed.is at c.requires)

pub put_operator-requires : goal.put_operator-requires
unfolding text_opens cell_leaf
put_operator-requires c = room_as (no_slash c.args.dialect c.args.place (Leaf.Operator c.args.c) (operator_markup c.args.dialect c.args.c) (opened c.in_default.in_default-own.keys2) refl) c.requires

pub returns-in-Slashed : goal.returns-in-Slashed
unfolding text_opens at_place slash slash_leaf operator_text
returns-in-Slashed c = rw c.in-Slashed.is (rw c.operator_in.ensures at c.put_character_in.ensures)

pub returns-in_default : goal.returns-in_default
unfolding text_opens cell_leaf
returns-in_default c = puts_as (no_slash c.args.dialect c.args.place (Leaf.Operator c.args.c) (operator_markup c.args.dialect c.args.c) (opened c.in_default.in_default-own.keys2) refl) c.put_operator.ensures
