-- `latex2mathml::translate::wrapper_len` meets its contract.
use Rattle.text.specs.Examples.{text_opens}
use Rattle.attribute.specs.Names.{display_style}
use Rattle.latex2mathml.specs.Translate.{in_math}
use Rattle.latex2mathml.proofs.translate.wrapper_len.Goals as goal

pub returns-in-Block : goal.returns-in-Block
unfolding text_opens in_math display_style
returns-in-Block c = rw c.in-Block.is

pub returns-in-Inline : goal.returns-in-Inline
unfolding text_opens in_math display_style
returns-in-Inline c = rw c.in-Inline.is
