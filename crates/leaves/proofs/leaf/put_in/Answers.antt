-- `leaves::leaf::put_in` meets its contract.
use Rattle.text.proofs.PutLaws.{room_2, room_3, puts_3}
use Rattle.leaves.proofs.leaf.put_in.Goals as goal

pub put-requires-2 : goal.put-requires-2
put-requires-2 c = room_2 (c.args.front.now) (c.args.text.now) (c.args.back.now) c.requires c.put.ensures

pub put-requires-3 : goal.put-requires-3
put-requires-3 c = room_3 (c.args.front.now) (c.args.text.now) (c.args.back.now) c.requires c.put.ensures c.put-2.ensures

pub returns : goal.returns
returns c = puts_3 (c.args.front.now) (c.args.text.now) (c.args.back.now) c.requires c.put.ensures c.put-2.ensures c.put-3.ensures
