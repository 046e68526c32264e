-- `page_main::put_refusal` meets its contract.
use mathlib.Core.Path.{sym, ◌∙◌}
use Rattle.text.specs.Text.{bytes}
use Rattle.text.specs.Examples.{text_opens}
use Rattle.text.proofs.PutLaws.{room_1, room_2, room_3, puts_3}
use Rattle.error.specs.Numbers.{number}
use Rattle.page_main.specs.Program.{decimal, refusal}
use Rattle.latex2mathml.proofs.OutcomeLaws.{number_range}
use Rattle.page_main.proofs.ProgramLaws.{output_room, output_puts}
use Rattle.page_main.proofs.put_refusal.Goals as goal

pub put-requires : goal.put-requires
unfolding text_opens refusal
put-requires c =
    let room = output_room c.new-output.result c.new-output.ensures.bytes c.new-output.ensures.place c.requires in
    room_1 (bytes "refused ") (decimal (number c.args.r)) (bytes "\n") room

pub put_decimal-requires : goal.put_decimal-requires
unfolding text_opens refusal
put_decimal-requires c =
    let room = output_room c.new-output.result c.new-output.ensures.bytes c.new-output.ensures.place c.requires in
    rw c.from.ensures
    (record {
      n_bound = (number_range c.args.r).1;
      room = room_2 (bytes "refused ") (decimal (number c.args.r)) (bytes "\n") room c.put.ensures;
    })

pub put-requires-2 : goal.put-requires-2
unfolding text_opens refusal
put-requires-2 c =
    let room = output_room c.new-output.result c.new-output.ensures.bytes c.new-output.ensures.place c.requires in
    room_3 (bytes "refused ") (decimal (number c.args.r)) (bytes "\n") room c.put.ensures (rw c.from.ensures at c.put_decimal.ensures)

pub returns : goal.returns
unfolding text_opens refusal
returns c =
    let room = output_room c.new-output.result c.new-output.ensures.bytes c.new-output.ensures.place c.requires in
    let puts = puts_3 (bytes "refused ") (decimal (number c.args.r)) (bytes "\n") room c.put.ensures (rw c.from.ensures at c.put_decimal.ensures) c.put-2.ensures in
    rw (c.out-1.given.1.1 (sym (puts.same ∙ c.new-output.ensures.same))) (output_puts c.new-output.result c.new-output.ensures.bytes c.new-output.ensures.place puts)
