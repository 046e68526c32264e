-- `print::place_of` meets its contract.
use Rattle.print.specs.Shown.{place_of}
use Rattle.print.proofs.ShownLaws.{plain_part}
use Rattle.print.proofs.place_of.Goals as goal

pub returns-in-Slashed : goal.returns-in-Slashed
unfolding place_of
returns-in-Slashed c = rw c.in-Slashed.is

pub returns-in_default : goal.returns-in_default
returns-in_default c = plain_part c.args.k c.in_default.not-Slashed
