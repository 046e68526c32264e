-- `leaves::leaf::fixed_text` meets its contract.
use Rattle.markup.specs.Print.{fixed_text}
use Rattle.leaves.proofs.leaf.fixed_text.Goals as goal

pub returns : goal.returns
unfolding fixed_text
returns c = rw c.text_in.ensures at c.text_of.ensures
