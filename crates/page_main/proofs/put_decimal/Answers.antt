-- `page_main::put_decimal` meets its contract.
use Rattle.page_main.proofs.ProgramLaws.{one_digit, two_digits}
use Rattle.page_main.proofs.put_decimal.Goals as goal

pub put-requires : goal.put-requires
put-requires c = rw (one_digit c.args.n c.if-n-lt10.true) at c.requires.room

pub returns-then-n-lt10 : goal.returns-then-n-lt10
returns-then-n-lt10 c = rw (one_digit c.args.n c.if-n-lt10.true) c.put.ensures

pub put-requires-else-n-lt10 : goal.put-requires-else-n-lt10
put-requires-else-n-lt10 c = rw (two_digits c.args.n c.if-n-lt10.false) at c.requires.room

pub returns-else-n-lt10 : goal.returns-else-n-lt10
returns-else-n-lt10 c = rw (two_digits c.args.n c.if-n-lt10.false) c.put-else-n-lt10.ensures
