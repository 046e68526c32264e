-- `text::contains` meets its contract.
use mathlib.Core.Path.{◌∙◌}
use lib.Dec.{eqb}
use Rattle.text.proofs.AnyLaws.{any_list}
use Rattle.text.proofs.contains.Goals as goal

pub returns : goal.returns
returns c = c.contains.ensures.value ∙ any_list (λ b. eqb b c.args.b) c.args.s.now
