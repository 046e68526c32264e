-- `token::table::start` meets its contract: what the definition counts is the static.
use mathlib.Core.Path.{sym, ◌∙◌}
use Rattle.std.proofs.lemmas.List.{get_or_past}
use Rattle.token.specs.Table.{entries}
use Rattle.token.specs.Key.{starts, start}
use Rattle.token.proofs.table.start.Goals as goal

pub returns-in-Some : goal.returns-in-Some
unfolding start starts entries
returns-in-Some c = c.from.ensures ∙ c.in-Some.ensures.lookup.3.1 474

pub returns-in-None : goal.returns-in-None
unfolding start starts
returns-in-None c = sym (get_or_past starts c.args.b 474 c.in-None.ensures.lookup.3)
