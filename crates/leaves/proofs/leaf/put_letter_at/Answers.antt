-- `leaves::leaf::put_letter_at` meets its contract.
use mathlib.Core.Path.{refl}
use borrow.Enum.Refused.{opened}
use Rattle.text.specs.Examples.{text_opens}
use Rattle.text.proofs.PutLaws.{room_as, puts_as}
use Rattle.ast.specs.declared.Leaf.{Leaf}
use Rattle.markup.specs.Print.{slash_leaf, slash, cell_leaf, at_place, letter_markup}
use Rattle.leaves.proofs.LeafLaws.{no_slash}
use Rattle.leaves.proofs.leaf.put_letter_at.Goals as goal

pub put_variant_letter-requires : goal.put_variant_letter-requires
unfolding text_opens at_place slash slash_leaf
put_variant_letter-requires c = rw c.in-Slashed.is at c.requires

pub put_letter-requires : goal.put_letter-requires
unfolding text_opens cell_leaf
put_letter-requires c = room_as (no_slash c.args.dialect c.args.place (Leaf.Letter c.args.c c.args.v) (letter_markup c.args.dialect c.args.c c.args.v) (opened c.in_default.in_default-own.keys2) refl) c.requires

pub returns-in-Slashed : goal.returns-in-Slashed
unfolding text_opens at_place slash slash_leaf
returns-in-Slashed c = rw c.in-Slashed.is c.put_variant_letter.ensures

pub returns-in_default : goal.returns-in_default
unfolding text_opens cell_leaf
returns-in_default c = puts_as (no_slash c.args.dialect c.args.place (Leaf.Letter c.args.c c.args.v) (letter_markup c.args.dialect c.args.c c.args.v) (opened c.in_default.in_default-own.keys2) refl) c.put_letter.ensures
