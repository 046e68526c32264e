-- `token::Undefined::name` meets its contract.
use mathlib.Core.Path.{refl}
use Rattle.text.specs.Examples.{text_opens}
use Rattle.token.specs.Debug.{variant_name}
use Rattle.token.proofs.Undefined.name.Goals as goal

pub returns-in-EOF : goal.returns-in-EOF
unfolding text_opens variant_name
returns-in-EOF c = rw c.in-EOF.is refl

pub returns-in-End : goal.returns-in-End
unfolding text_opens variant_name
returns-in-End c = rw c.in-End.is refl

pub returns-in-Right : goal.returns-in-Right
unfolding text_opens variant_name
returns-in-Right c = rw c.in-Right.is refl

pub returns-in-RBrace : goal.returns-in-RBrace
unfolding text_opens variant_name
returns-in-RBrace c = rw c.in-RBrace.is refl

pub returns-in-Underscore : goal.returns-in-Underscore
unfolding text_opens variant_name
returns-in-Underscore c = rw c.in-Underscore.is refl

pub returns-in-Circumflex : goal.returns-in-Circumflex
unfolding text_opens variant_name
returns-in-Circumflex c = rw c.in-Circumflex.is refl

pub returns-in-Command : goal.returns-in-Command
unfolding text_opens variant_name
returns-in-Command c = rw c.in-Command.is refl
