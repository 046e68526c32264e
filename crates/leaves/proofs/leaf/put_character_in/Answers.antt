-- `leaves::leaf::put_character_in` meets its contract.
use Rattle.markup.specs.Print.{character}
use Rattle.text.proofs.PutLaws.{room_2, room_3, puts_3}
use Rattle.leaves.proofs.leaf.put_character_in.Goals as goal

pub put_character-requires : goal.put_character-requires
unfolding character
put_character-requires c = room_2 (c.args.front.now) (character c.args.dialect c.args.c) (c.args.back.now) c.requires c.put.ensures

pub put-requires-2 : goal.put-requires-2
unfolding character
put-requires-2 c = room_3 (c.args.front.now) (character c.args.dialect c.args.c) (c.args.back.now) c.requires c.put.ensures c.put_character.ensures

pub returns : goal.returns
unfolding character
returns c = puts_3 (c.args.front.now) (character c.args.dialect c.args.c) (c.args.back.now) c.requires c.put.ensures c.put_character.ensures c.put-2.ensures
