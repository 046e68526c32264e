-- `text::code_point` meets its contract: the end, an ASCII byte, and any other.
use mathlib.Core.Path.{sym}
use Prim.Native.Nat.{◌+◌}
use lib.ListN.{drop_of_length-le}
use Rattle.std.proofs.lemmas.List.{take_rest}
use Rattle.text.specs.Utf8.{code_point}
use Rattle.text.proofs.Utf8Laws.{ascii_point}
use Rattle.text.proofs.FollowLaws.{byte_at}
use Rattle.text.proofs.code_point.Goals as goal

pub returns-in_default : goal.returns-in_default
unfolding code_point
returns-in_default c = rw (drop_of_length-le c.args.s.now c.in_default.ensures.lookup.3)

pub returns-then-b-lt128 : goal.returns-then-b-lt128
returns-then-b-lt128 c =
    let k = c.in-Some.ensures.lookup.3 in
    rw (byte_at c.args.s.now c.args.at k.0, ← k.1 0, c.from.ensures) (sym (ascii_point _ _ c.if-b-lt128.true))

pub returns : goal.returns
returns c =
    let s = c.args.s.now in
    let k = c.in-Some.ensures.lookup.3 in
    rw (byte_at s c.args.at k.0, ← k.1 0, c.from_first.ensures, take_rest s (c.args.at + 1))
