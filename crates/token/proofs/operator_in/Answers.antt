-- `token::operator_in` meets its contract.
use mathlib.Core.Path.{sym, ap}
use borrow.Author.Tests.{ne_eqb}
use Rattle.text.specs.declared.Dialect.{Dialect}
use Rattle.token.specs.Command.{operator_in}
use Rattle.token.proofs.operator_in.Goals as goal

pub returns-in-8715 : goal.returns-in-8715
unfolding operator_in
returns-in-8715 c = rw c.in-Old.is (ap (operator_in Dialect.Old) (sym c.in-8715.is))

pub returns-in_default : goal.returns-in_default
unfolding operator_in
returns-in_default c = rw (c.in-Old.is, operator_in, ne_eqb _ 0x220b c.in_default.in_default-own.rest.1)

pub returns-in-Strict : goal.returns-in-Strict
unfolding operator_in
returns-in-Strict c = rw c.in-Strict.is
