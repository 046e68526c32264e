-- `leaves::leaf::put_stretched` meets its contract.
use Rattle.text.specs.Examples.{text_opens}
use Rattle.markup.specs.Print.{operator_text, stretched_text}
use Rattle.leaves.proofs.leaf.put_stretched.Goals as goal

pub put_character_in-requires : goal.put_character_in-requires
unfolding text_opens stretched_text operator_text
put_character_in-requires c = rw c.operator_in.ensures (rw c.in-Character.is at c.requires)

pub put_in-requires : goal.put_in-requires
unfolding text_opens stretched_text
put_in-requires c = rw c.fixed_text.ensures (rw c.in-Fixed.is at c.requires)

pub returns-in-Character : goal.returns-in-Character
unfolding text_opens stretched_text operator_text
returns-in-Character c = rw c.in-Character.is (rw c.operator_in.ensures at c.put_character_in.ensures)

pub returns-in-Fixed : goal.returns-in-Fixed
unfolding text_opens stretched_text
returns-in-Fixed c = rw c.in-Fixed.is (rw c.fixed_text.ensures at c.put_in.ensures)
