-- `parse::body::parse` meets its contract.
use lib.ListN.{length}
use Rattle.parse.proofs.BodyLaws.{too_long, too_small, within}
use Rattle.parse.proofs.body.parse.Goals as goal

pub returns-then-s-gt4096 : goal.returns-then-s-gt4096
returns-then-s-gt4096 c = too_long c.args.depth c.args.s.now _ c.if-s-gt4096.true

pub returns-then-store-s : goal.returns-then-store-s
returns-then-store-s c = too_small c.args.depth c.args.s.now _ c.if-s-gt4096.false c.if-store-s.true

pub returns : goal.returns
returns c =
    rw (within c.args.depth c.args.s.now (length c.args.store.now) c.if-s-gt4096.false c.if-store-s.false) c.parse_nodes.ensures
