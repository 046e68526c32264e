-- `leaves::leaf::put_letters_in` meets its contract.
use Rattle.text.specs.Xml.{in_text}
use Rattle.lexer.specs.Letters.{letters, encode_all}
use Rattle.text.proofs.PutLaws.{room_2, room_3, puts_3}
use Rattle.leaves.proofs.leaf.put_letters_in.Goals as goal

pub put_letters-requires : goal.put_letters-requires
put_letters-requires c = room_2 (c.args.front.now) (in_text c.args.dialect (encode_all (letters c.args.text.now))) (c.args.back.now) c.requires c.put.ensures

pub put-requires-2 : goal.put-requires-2
put-requires-2 c = room_3 (c.args.front.now) (in_text c.args.dialect (encode_all (letters c.args.text.now))) (c.args.back.now) c.requires c.put.ensures c.put_letters.ensures

pub returns : goal.returns
returns c = puts_3 (c.args.front.now) (in_text c.args.dialect (encode_all (letters c.args.text.now))) (c.args.back.now) c.requires c.put.ensures c.put_letters.ensures c.put-2.ensures
