-- `print::put_front_matrix` meets its contract.
use Rattle.text.specs.Text.{bytes}
use Rattle.text.specs.Examples.{text_opens}
use Rattle.text.proofs.PutLaws.{room_1, room_2, room_3, puts_3}
use Rattle.markup.specs.Print.{align_text}
use Rattle.print.proofs.put_front_matrix.Goals as goal

pub put-requires : goal.put-requires
unfolding text_opens
put-requires c = room_1 (bytes "<mtable") (align_text c.args.dialect c.args.align) (bytes "><mtr><mtd>") c.requires

pub put-requires-2 : goal.put-requires-2
unfolding text_opens
put-requires-2 c = rw c.align_text.ensures (room_2 (bytes "<mtable") (align_text c.args.dialect c.args.align) (bytes "><mtr><mtd>") c.requires c.put.ensures)

pub put-requires-3 : goal.put-requires-3
unfolding text_opens
put-requires-3 c = room_3 (bytes "<mtable") (align_text c.args.dialect c.args.align) (bytes "><mtr><mtd>") c.requires c.put.ensures (rw c.align_text.ensures at c.put-2.ensures)

pub returns : goal.returns
unfolding text_opens
returns c = puts_3 (bytes "<mtable") (align_text c.args.dialect c.args.align) (bytes "><mtr><mtd>") c.requires c.put.ensures (rw c.align_text.ensures at c.put-2.ensures) c.put-3.ensures
