-- `leaves::fronts::put_accented` meets its contract.
use Rattle.attribute.specs.Names.{accent}
use Rattle.markup.specs.Print.{character}
use Rattle.markup.specs.Fronts.{accent_text}
use Rattle.text.specs.Text.{bytes}
use Rattle.text.specs.Examples.{text_opens}
use Rattle.leaves.proofs.LeafLaws.{five_1, five_2, five_3, five_4, five_5, puts_5}
use Rattle.leaves.proofs.fronts.put_accented.Goals as goal

pub put-requires : goal.put-requires
unfolding text_opens character accent_text
put-requires c = five_1 (bytes "<mo accent=\"") (bytes (accent c.args.a)) (bytes "\">") (character c.args.dialect c.args.c) c.args.end.now c.requires

pub put-requires-2 : goal.put-requires-2
unfolding text_opens character accent_text
put-requires-2 c = rw c.name.ensures (five_2 (bytes "<mo accent=\"") (bytes (accent c.args.a)) (bytes "\">") (character c.args.dialect c.args.c) c.args.end.now c.requires c.put.ensures)

pub put-requires-3 : goal.put-requires-3
unfolding text_opens character accent_text
put-requires-3 c = five_3 (bytes "<mo accent=\"") (bytes (accent c.args.a)) (bytes "\">") (character c.args.dialect c.args.c) c.args.end.now c.requires c.put.ensures (rw c.name.ensures at c.put-2.ensures)

pub put_character-requires : goal.put_character-requires
unfolding text_opens character accent_text
put_character-requires c = five_4 (bytes "<mo accent=\"") (bytes (accent c.args.a)) (bytes "\">") (character c.args.dialect c.args.c) c.args.end.now c.requires c.put.ensures (rw c.name.ensures at c.put-2.ensures) c.put-3.ensures

pub put-requires-4 : goal.put-requires-4
unfolding text_opens character accent_text
put-requires-4 c = five_5 (bytes "<mo accent=\"") (bytes (accent c.args.a)) (bytes "\">") (character c.args.dialect c.args.c) c.args.end.now c.requires c.put.ensures (rw c.name.ensures at c.put-2.ensures) c.put-3.ensures c.put_character.ensures

pub returns : goal.returns
unfolding text_opens character accent_text
returns c = puts_5 (bytes "<mo accent=\"") (bytes (accent c.args.a)) (bytes "\">") (character c.args.dialect c.args.c) c.args.end.now c.requires c.put.ensures (rw c.name.ensures at c.put-2.ensures) c.put-3.ensures c.put_character.ensures c.put-4.ensures
