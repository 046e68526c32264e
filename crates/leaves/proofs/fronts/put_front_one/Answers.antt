-- `leaves::fronts::put_front_one` meets its contract.
use Rattle.text.specs.Examples.{text_opens}
use Rattle.text.proofs.PutLaws.{puts_nothing}
use Rattle.markup.specs.Print.{display_text}
use Rattle.markup.specs.Fronts.{style_front, front_one}
use Rattle.leaves.proofs.fronts.put_front_one.Goals as goal

pub put-requires : goal.put-requires
unfolding text_opens front_one style_front display_text
put-requires c = rw c.in-OverOp.is at c.requires

pub put-requires-in-UnderOp : goal.put-requires-in-UnderOp
unfolding text_opens front_one style_front display_text
put-requires-in-UnderOp c = rw c.in-UnderOp.is at c.requires

pub put-requires-in-Sqrt : goal.put-requires-in-Sqrt
unfolding text_opens front_one style_front display_text
put-requires-in-Sqrt c = rw c.in-Sqrt.is at c.requires

pub put_in-requires : goal.put_in-requires
unfolding text_opens front_one style_front display_text
put_in-requires c = rw c.fixed_text.ensures (rw c.in-Fenced.is at c.requires)

pub put-requires-in-Style-Block : goal.put-requires-in-Style-Block
unfolding text_opens front_one style_front display_text
put-requires-in-Style-Block c = rw (c.in-Style-Block.is, rw c.in-Style-Block.is at c.in-Style-Block.field-0-is) at c.requires

pub put-requires-in-Style-Inline : goal.put-requires-in-Style-Inline
unfolding text_opens front_one style_front display_text
put-requires-in-Style-Inline c = rw (c.in-Style-Inline.is, rw c.in-Style-Inline.is at c.in-Style-Inline.field-0-is) at c.requires

pub returns-in-OverOp : goal.returns-in-OverOp
unfolding text_opens front_one style_front display_text
returns-in-OverOp c = rw c.in-OverOp.is c.put.ensures

pub returns-in-UnderOp : goal.returns-in-UnderOp
unfolding text_opens front_one style_front display_text
returns-in-UnderOp c = rw c.in-UnderOp.is c.put-in-UnderOp.ensures

pub returns-in-Sqrt : goal.returns-in-Sqrt
unfolding text_opens front_one style_front display_text
returns-in-Sqrt c = rw c.in-Sqrt.is c.put-in-Sqrt.ensures

pub returns-in-Fenced : goal.returns-in-Fenced
unfolding text_opens front_one style_front display_text
returns-in-Fenced c = rw c.in-Fenced.is (rw c.fixed_text.ensures at c.put_in.ensures)

pub returns-in-Slashed : goal.returns-in-Slashed
unfolding text_opens front_one style_front display_text
returns-in-Slashed c = rw c.in-Slashed.is (puts_nothing c.args.out.now)

pub returns-in-Style-Block : goal.returns-in-Style-Block
unfolding text_opens front_one style_front display_text
returns-in-Style-Block c = rw (c.in-Style-Block.is, rw c.in-Style-Block.is at c.in-Style-Block.field-0-is) c.put-in-Style-Block.ensures

pub returns-in-Style-Inline : goal.returns-in-Style-Inline
unfolding text_opens front_one style_front display_text
returns-in-Style-Inline c = rw (c.in-Style-Inline.is, rw c.in-Style-Inline.is at c.in-Style-Inline.field-0-is) c.put-in-Style-Inline.ensures
