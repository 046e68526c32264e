-- `token::debug::put_debug` meets its contract.
use Rattle.text.proofs.PutLaws.{room_as, puts_as}
use Rattle.token.proofs.DebugLaws.{plain_debug, command_debug}
use Rattle.token.proofs.debug.put_debug.Goals as goal

pub put_command-requires : goal.put_command-requires
put_command-requires c =
    let room = rw c.in-Command.is at c.requires.1 in
    room_as (command_debug c.args.dialect c.args.s.now c.in-Command.a c.in-Command.e) room

pub put-requires : goal.put-requires
put-requires c =
    rw c.name.ensures (room_as (plain_debug c.args.dialect c.args.s.now c.args.u c.in_default.not-Command) c.requires.1)

pub returns-in-Command : goal.returns-in-Command
returns-in-Command c =
    rw c.in-Command.is (puts_as (command_debug c.args.dialect c.args.s.now c.in-Command.a c.in-Command.e) c.put_command.ensures)

pub returns-in_default : goal.returns-in_default
returns-in_default c =
    puts_as (plain_debug c.args.dialect c.args.s.now c.args.u c.in_default.not-Command) (rw c.name.ensures at c.put.ensures)
