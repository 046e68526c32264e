-- `leaves::fronts::put_back_one` meets its contract.
use Rattle.text.specs.Examples.{text_opens}
use Rattle.text.proofs.PutLaws.{puts_nothing}
use Rattle.markup.specs.Fronts.{back_one}
use Rattle.leaves.proofs.fronts.put_back_one.Goals as goal

pub put_accented-requires : goal.put_accented-requires
unfolding text_opens back_one
put_accented-requires c = rw c.in-OverOp.is at c.requires

pub put_accented-requires-in-UnderOp : goal.put_accented-requires-in-UnderOp
unfolding text_opens back_one
put_accented-requires-in-UnderOp c = rw c.in-UnderOp.is at c.requires

pub put-requires : goal.put-requires
unfolding text_opens back_one
put-requires c = rw c.in-Sqrt.is at c.requires

pub put_in-requires : goal.put_in-requires
unfolding text_opens back_one
put_in-requires c = rw c.fixed_text.ensures (rw c.in-Fenced.is at c.requires)

pub put-requires-in-Style : goal.put-requires-in-Style
unfolding text_opens back_one
put-requires-in-Style c = rw c.in-Style.is at c.requires

pub returns-in-OverOp : goal.returns-in-OverOp
unfolding text_opens back_one
returns-in-OverOp c = rw c.in-OverOp.is c.put_accented.ensures

pub returns-in-UnderOp : goal.returns-in-UnderOp
unfolding text_opens back_one
returns-in-UnderOp c = rw c.in-UnderOp.is c.put_accented-in-UnderOp.ensures

pub returns-in-Sqrt : goal.returns-in-Sqrt
unfolding text_opens back_one
returns-in-Sqrt c = rw c.in-Sqrt.is c.put.ensures

pub returns-in-Fenced : goal.returns-in-Fenced
unfolding text_opens back_one
returns-in-Fenced c = rw c.in-Fenced.is (rw c.fixed_text.ensures at c.put_in.ensures)

pub returns-in-Slashed : goal.returns-in-Slashed
unfolding text_opens back_one
returns-in-Slashed c = rw c.in-Slashed.is (puts_nothing c.args.out.now)

pub returns-in-Style : goal.returns-in-Style
unfolding text_opens back_one
returns-in-Style c = rw c.in-Style.is c.put-in-Style.ensures
