-- `token::texts::text_in` meets its contract.
use mathlib.Core.Path.{sym, ap}
use Rattle.text.specs.declared.Dialect.{Dialect}
use Rattle.token.specs.Texts.{texts, text, text_in}
use Rattle.token.proofs.TextsLaws.{strict_same}
use Rattle.token.proofs.texts.text_in.Goals as goal

pub returns-in-Old : goal.returns-in-Old
unfolding text_in
returns-in-Old c = rw c.in-Old.is

pub returns-in-7 : goal.returns-in-7
unfolding text_in text texts
returns-in-7 c = rw c.in-Strict.is (ap (text_in Dialect.Strict) (sym c.in-7.is))

pub returns-in-8 : goal.returns-in-8
unfolding text_in text texts
returns-in-8 c = rw c.in-Strict.is (ap (text_in Dialect.Strict) (sym c.in-8.is))

pub returns-in_default : goal.returns-in_default
returns-in_default c =
    rw c.in-Strict.is (strict_same c.args.n c.in_default.in_default-own.rest.0.1 c.in_default.in_default-own.rest.1)
