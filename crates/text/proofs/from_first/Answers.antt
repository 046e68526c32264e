-- `text::from_first` meets its contract: a byte of no row, and the bytes after a first byte.
use mathlib.Core.Path.{sym, ◌∙◌}
use native.Mathlib.Omega.{arith}
use Rattle.text.proofs.Utf8Laws.{point_none}
use Rattle.text.proofs.FollowLaws.{begun, point_read}
use Rattle.text.proofs.from_first.Goals as goal

pub returns-in_default : goal.returns-in_default
returns-in_default c = c.replacement.ensures ∙ sym (point_none _ _ (rw c.in_default.is at c.first_byte.ensures))

pub lead-requires : goal.lead-requires
lead-requires c = (begun _ _ _ _ (rw c.in-Some.is at c.first_byte.ensures)).few

pub overflow_sub-b : goal.overflow_sub-b
overflow_sub-b c =
    let g = begun _ _ _ _ (rw c.in-Some.is at c.first_byte.ensures) in
    rw c.lead.ensures g.marked

pub tail-requires : goal.tail-requires
tail-requires c =
    let g = begun _ _ _ _ (rw c.in-Some.is at c.first_byte.ensures) in
    (g.few, g.high, omega arith)

pub returns : goal.returns
returns c =
    let e = rw c.in-Some.is at c.first_byte.ensures in
    rw (c.tail.ensures, c.from-bits.ensures, c.lead.ensures) (sym (point_read _ _ _ _ _ e))
