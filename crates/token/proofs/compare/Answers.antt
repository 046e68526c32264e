use mathlib.Core.Path.{◌∙◌}
use native.Mathlib.Omega.{arith}
use Rattle.token.proofs.SearchLaws.{by_lengths}
use Rattle.token.proofs.compare.Goals as goal

pub returns : goal.returns
returns c = by_lengths c.args.row.now c.args.name.now c.loop-i.i c.cmp.result (omega arith) c.cmp.ensures ∙ c.loop-i.invariant
