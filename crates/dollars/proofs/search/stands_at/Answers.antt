-- `dollars::search::stands_at` meets its contract.
use mathlib.Core.Path.{refl, ◌∙◌}
use Rattle.dollars.proofs.SearchLaws.{starts_found}
use Rattle.dollars.proofs.search.stands_at.Goals as goal

pub returns : goal.returns
returns c = c.eq.ensures ∙ starts_found c.args.b c.args.s.now c.args.i c.get.result _ refl c.get.ensures.lookup.0 c.get.ensures.lookup.1
