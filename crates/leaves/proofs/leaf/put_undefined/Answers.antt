-- `leaves::leaf::put_undefined` meets its contract.
use Rattle.text.specs.Text.{bytes}
use Rattle.text.specs.Xml.{in_text}
use Rattle.text.specs.Examples.{text_opens}
use Rattle.text.proofs.PutLaws.{room_1, room_2, room_3, puts_3, room_as, puts_as}
use Rattle.token.specs.Debug.{escape, debug}
use Rattle.markup.specs.Print.{undefined_markup}
use Rattle.markup.proofs.PrintLaws.{undefined_pieces}
use Rattle.leaves.proofs.leaf.put_undefined.Goals as goal

pub put-requires : goal.put-requires
unfolding text_opens undefined_markup
put-requires c = room_1 (bytes "<mtext>[PARSE ERROR: Undefined(\"") (in_text c.args.dialect (escape (debug c.args.s.now c.args.u))) (bytes "\")]</mtext>") (room_as (undefined_pieces c.args.dialect (escape (debug c.args.s.now c.args.u))) c.requires.1)

pub put_debug-requires : goal.put_debug-requires
unfolding text_opens undefined_markup
put_debug-requires c = (c.requires.0, room_2 (bytes "<mtext>[PARSE ERROR: Undefined(\"") (in_text c.args.dialect (escape (debug c.args.s.now c.args.u))) (bytes "\")]</mtext>") (room_as (undefined_pieces c.args.dialect (escape (debug c.args.s.now c.args.u))) c.requires.1) c.put.ensures)

pub put-requires-2 : goal.put-requires-2
unfolding text_opens undefined_markup
put-requires-2 c = room_3 (bytes "<mtext>[PARSE ERROR: Undefined(\"") (in_text c.args.dialect (escape (debug c.args.s.now c.args.u))) (bytes "\")]</mtext>") (room_as (undefined_pieces c.args.dialect (escape (debug c.args.s.now c.args.u))) c.requires.1) c.put.ensures c.put_debug.ensures

pub returns : goal.returns
unfolding text_opens undefined_markup
returns c = puts_as (undefined_pieces c.args.dialect (escape (debug c.args.s.now c.args.u))) (puts_3 (bytes "<mtext>[PARSE ERROR: Undefined(\"") (in_text c.args.dialect (escape (debug c.args.s.now c.args.u))) (bytes "\")]</mtext>") (room_as (undefined_pieces c.args.dialect (escape (debug c.args.s.now c.args.u))) c.requires.1) c.put.ensures c.put_debug.ensures c.put-2.ensures)
