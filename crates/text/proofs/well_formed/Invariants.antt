-- `text::well_formed` meets its contract. The invariant: the bytes are well-formed if those from the index on go on with what is pending.
use mathlib.Core.Path.{◌≡◌}
use lib.ListN.{drop}
use Rattle.text.specs.Utf8.{goes_on, well_formed}
use Rattle.text.specs.Follow.{pending}
use Rattle.text.proofs.well_formed.Given as goal

abbrev pub invariant-loop-b : goal.invariant-loop-b
invariant-loop-b l = well_formed l.s ≡ goes_on (pending l.next.left l.next.low l.next.high) (drop l.b-index l.s)
