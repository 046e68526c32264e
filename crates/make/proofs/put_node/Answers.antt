-- `make::put_node` meets its contract.
use Rattle.parser.specs.Built.{node_record}
use Rattle.make.proofs.put_node.Goals as goal

pub returns : goal.returns
unfolding node_record
returns c = c.put_record.ensures
