-- `dollars::next_mark` meets its contract.
use Rattle.dollars.proofs.DollarLaws.{dollar_starts, two_pair}
use Rattle.dollars.proofs.next_mark.Goals as goal

pub returns-in-Single : goal.returns-in-Single
returns-in-Single c = rw (c.in-Single.is, dollar_starts) c.next_byte.ensures

pub returns-in-Double : goal.returns-in-Double
returns-in-Double c = rw (c.in-Double.is, two_pair) c.next_pair.ensures
