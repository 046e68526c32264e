-- `token::table::table` meets its contract: what the definition computes to is the static.
use mathlib.Core.Path.{refl}
use Rattle.token.specs.Texts.{texts, text, widths, width}
use Rattle.token.specs.Table.{entries}
use Rattle.token.specs.Key.{rows}
use Rattle.token.proofs.table.table.Goals as goal

pub returns : goal.returns
unfolding rows entries texts text widths width
returns c = refl
