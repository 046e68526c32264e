-- `token::debug::put_command` meets its contract.
use Rattle.text.specs.Text.{bytes}
use Rattle.text.specs.Xml.{in_text}
use Rattle.text.specs.Examples.{text_opens}
use Rattle.text.proofs.PutLaws.{room_1, room_2, room_3, puts_3, room_as, puts_as}
use Rattle.token.specs.Debug.{escapes, escape_by, escape, control, or_nul}
use Rattle.token.proofs.DebugLaws.{command_pieces}
use Rattle.token.proofs.debug.put_command.Goals as goal

pub put-requires : goal.put-requires
unfolding text_opens escapes escape_by escape control
put-requires c =
    let name = in_text c.args.dialect (escape (escape (or_nul c.args.name.now))) in
    room_1 (escape (bytes "Command(\"")) name (escape (bytes "\")")) (room_as (command_pieces c.args.dialect c.args.name.now) c.requires)

pub put_name-requires : goal.put_name-requires
unfolding text_opens escapes escape_by escape control
put_name-requires c =
    let name = in_text c.args.dialect (escape (escape (or_nul c.args.name.now))) in
    room_2 (escape (bytes "Command(\"")) name (escape (bytes "\")")) (room_as (command_pieces c.args.dialect c.args.name.now) c.requires) c.put.ensures

pub put-requires-2 : goal.put-requires-2
unfolding text_opens escapes escape_by escape control
put-requires-2 c =
    let name = in_text c.args.dialect (escape (escape (or_nul c.args.name.now))) in
    room_3 (escape (bytes "Command(\"")) name (escape (bytes "\")")) (room_as (command_pieces c.args.dialect c.args.name.now) c.requires) c.put.ensures c.put_name.ensures

pub returns : goal.returns
unfolding text_opens escapes escape_by escape control
returns c =
    let name = in_text c.args.dialect (escape (escape (or_nul c.args.name.now))) in
    let pieces = command_pieces c.args.dialect c.args.name.now in
    puts_as pieces
    (puts_3 (escape (bytes "Command(\"")) name (escape (bytes "\")")) (room_as pieces c.requires) c.put.ensures c.put_name.ensures c.put-2.ensures)
