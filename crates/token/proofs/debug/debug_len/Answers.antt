-- `token::debug::debug_len` meets its contract.
use mathlib.Core.Path.{sym, ap, ◌∙◌}
use Rattle.std.specs.Prelude.{length}
use Rattle.token.proofs.DebugLaws.{plain_debug, command_long}
use native.Mathlib.Omega.{arith}
use Rattle.token.proofs.debug.debug_len.Goals as goal

pub name_len-requires : goal.name_len-requires
name_len-requires c =
    let small = rw c.in-Command.is at c.requires.1 in
    omega (arith, command_long c.args.dialect c.args.s.now c.in-Command.a c.in-Command.e)

pub overflow_add-result : goal.overflow_add-result
overflow_add-result c =
    let small = rw c.in-Command.is at c.requires.1 in
    omega (arith, command_long c.args.dialect c.args.s.now c.in-Command.a c.in-Command.e, c.name_len.ensures)

pub returns-in-Command : goal.returns-in-Command
returns-in-Command c =
    rw c.in-Command.is (omega (arith, command_long c.args.dialect c.args.s.now c.in-Command.a c.in-Command.e, c.name_len.ensures))

pub returns-in_default : goal.returns-in_default
returns-in_default c =
    ap length (c.name.ensures ∙ sym (plain_debug c.args.dialect c.args.s.now c.args.u c.in_default.not-Command))
