-- `dollars::first_mark` meets its contract.
use mathlib.Core.Path.{sym, ◌∙◌, ap}
use mathlib.Core.Bool.{not}
use Rattle.text.proofs.PlainLaws.{plain_is}
use Rattle.dollars.proofs.DollarLaws.{plain_none}
use Rattle.dollars.proofs.first_mark.Goals as goal

pub returns-then-not-contains : goal.returns-then-not-contains
returns-then-not-contains c =
    let a = c.args in
    plain_none a.delimiter a.s.now (plain_is a.s.now ∙ ap not (sym c.contains.ensures ∙ c.if-not-contains.true))
