-- `leaves::leaf::put_ampersand` meets its contract.
use mathlib.Core.Path.{refl, ◌∙◌}
use borrow.Enum.Refused.{opened}
use Rattle.text.specs.Examples.{text_opens}
use Rattle.text.specs.Text.{bytes}
use Rattle.text.proofs.PutLaws.{room_as, puts_as}
use Rattle.ast.specs.declared.Leaf.{Leaf}
use Rattle.markup.specs.Print.{slash_leaf, cell_leaf, cell, at_place, parse_error}
use Rattle.markup.proofs.PrintLaws.{error_ampersand}
use Rattle.leaves.proofs.LeafLaws.{no_cell}
use Rattle.leaves.proofs.leaf.put_ampersand.Goals as goal

pub put-requires : goal.put-requires
unfolding text_opens at_place cell cell_leaf
put-requires c = rw c.in-Cell.is at c.requires

pub put-requires-in_default : goal.put-requires-in_default
unfolding text_opens slash_leaf
put-requires-in_default c = room_as (no_cell c.args.dialect c.args.place Leaf.Ampersand (parse_error c.args.dialect (bytes "Ampersand")) (opened c.in_default.in_default-own.keys2) refl ∙ error_ampersand c.args.dialect) c.requires

pub returns-in-Cell : goal.returns-in-Cell
unfolding text_opens at_place cell cell_leaf
returns-in-Cell c = rw c.in-Cell.is c.put.ensures

pub returns-in_default : goal.returns-in_default
unfolding text_opens slash_leaf
returns-in_default c = puts_as (no_cell c.args.dialect c.args.place Leaf.Ampersand (parse_error c.args.dialect (bytes "Ampersand")) (opened c.in_default.in_default-own.keys2) refl ∙ error_ampersand c.args.dialect) c.put-in_default.ensures
