-- `leaves::leaf::put_operator` meets its contract.
use Rattle.text.specs.Examples.{text_opens}
use Rattle.text.proofs.PutLaws.{room_as, puts_as}
use Rattle.markup.specs.Print.{operator_text, operator_markup}
use Rattle.markup.proofs.PrintLaws.{other_operator}
use Rattle.leaves.proofs.leaf.put_operator.Goals as goal

pub put-requires : goal.put-requires
unfolding text_opens operator_markup
put-requires c = rw c.in-8706.is at c.requires

pub put_character_in-requires : goal.put_character_in-requires
unfolding text_opens operator_text
put_character_in-requires c = rw c.operator_in.ensures (room_as (other_operator c.args.dialect c.args.c c.in_default.in_default-own.rest.1) c.requires)

pub returns-in-8706 : goal.returns-in-8706
unfolding text_opens operator_markup
returns-in-8706 c = rw c.in-8706.is c.put.ensures

pub returns-in_default : goal.returns-in_default
unfolding text_opens operator_text
returns-in_default c = puts_as (other_operator c.args.dialect c.args.c c.in_default.in_default-own.rest.1) (rw c.operator_in.ensures at c.put_character_in.ensures)
