-- `leaves::leaf::put_variant_letter` meets its contract.
use Rattle.text.proofs.PutLaws.{room_as, puts_as}
use Rattle.attribute.specs.Names.{variant}
use Rattle.markup.specs.Print.{character}
use Rattle.markup.proofs.PrintLaws.{variant_pieces}
use Rattle.text.specs.Text.{bytes}
use Rattle.text.specs.Examples.{text_opens}
use Rattle.leaves.proofs.LeafLaws.{five_1, five_2, five_3, five_4, five_5, puts_5}
use Rattle.leaves.proofs.leaf.put_variant_letter.Goals as goal

pub put-requires : goal.put-requires
unfolding text_opens character
put-requires c = five_1 (bytes "<mi mathvariant=\"") (bytes (variant c.args.v)) (bytes "\">") (character c.args.dialect c.args.c) c.args.end.now (room_as (variant_pieces c.args.dialect c.args.c c.args.v c.args.end.now) c.requires)

pub put-requires-2 : goal.put-requires-2
unfolding text_opens character
put-requires-2 c = rw c.name.ensures (five_2 (bytes "<mi mathvariant=\"") (bytes (variant c.args.v)) (bytes "\">") (character c.args.dialect c.args.c) c.args.end.now (room_as (variant_pieces c.args.dialect c.args.c c.args.v c.args.end.now) c.requires) c.put.ensures)

pub put-requires-3 : goal.put-requires-3
unfolding text_opens character
put-requires-3 c = five_3 (bytes "<mi mathvariant=\"") (bytes (variant c.args.v)) (bytes "\">") (character c.args.dialect c.args.c) c.args.end.now (room_as (variant_pieces c.args.dialect c.args.c c.args.v c.args.end.now) c.requires) c.put.ensures (rw c.name.ensures at c.put-2.ensures)

pub put_character-requires : goal.put_character-requires
unfolding text_opens character
put_character-requires c = five_4 (bytes "<mi mathvariant=\"") (bytes (variant c.args.v)) (bytes "\">") (character c.args.dialect c.args.c) c.args.end.now (room_as (variant_pieces c.args.dialect c.args.c c.args.v c.args.end.now) c.requires) c.put.ensures (rw c.name.ensures at c.put-2.ensures) c.put-3.ensures

pub put-requires-4 : goal.put-requires-4
unfolding text_opens character
put-requires-4 c = five_5 (bytes "<mi mathvariant=\"") (bytes (variant c.args.v)) (bytes "\">") (character c.args.dialect c.args.c) c.args.end.now (room_as (variant_pieces c.args.dialect c.args.c c.args.v c.args.end.now) c.requires) c.put.ensures (rw c.name.ensures at c.put-2.ensures) c.put-3.ensures c.put_character.ensures

pub returns : goal.returns
unfolding text_opens character
returns c = puts_as (variant_pieces c.args.dialect c.args.c c.args.v c.args.end.now) (puts_5 (bytes "<mi mathvariant=\"") (bytes (variant c.args.v)) (bytes "\">") (character c.args.dialect c.args.c) c.args.end.now (room_as (variant_pieces c.args.dialect c.args.c c.args.v c.args.end.now) c.requires) c.put.ensures (rw c.name.ensures at c.put-2.ensures) c.put-3.ensures c.put_character.ensures c.put-4.ensures)
