-- `leaves::lengths::undefined_len` meets its contract.
use mathlib.Core.Path.{sym}
use Rattle.leaves.proofs.LengthLaws.{undefined_long}
use native.Mathlib.Omega.{arith}
use Rattle.leaves.proofs.lengths.undefined_len.Goals as goal

pub debug_len-requires : goal.debug_len-requires
debug_len-requires c =
    let fits = rw (undefined_long c.args.dialect c.args.s.now c.args.u) at c.requires.1 in
    (c.requires.0, omega arith)

pub overflow_add-result : goal.overflow_add-result
overflow_add-result c =
    let e = c.debug_len.ensures in
    let fits = rw (undefined_long c.args.dialect c.args.s.now c.args.u) at c.requires.1 in
    omega arith

pub returns : goal.returns
returns c = rw c.debug_len.ensures (sym (undefined_long c.args.dialect c.args.s.now c.args.u))
