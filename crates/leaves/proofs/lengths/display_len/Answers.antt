-- `leaves::lengths::display_len` meets its contract.
use Rattle.text.specs.Examples.{text_opens}
use Rattle.markup.specs.Print.{display_text}
use Rattle.leaves.proofs.lengths.display_len.Goals as goal

pub returns-in-Block : goal.returns-in-Block
unfolding text_opens display_text
returns-in-Block c = rw c.in-Block.is

pub returns-in-Inline : goal.returns-in-Inline
unfolding text_opens display_text
returns-in-Inline c = rw c.in-Inline.is
