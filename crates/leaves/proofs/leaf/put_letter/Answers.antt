-- `leaves::leaf::put_letter` meets its contract.
use mathlib.Core.Path.{sym, ◌∙◌}
use Rattle.text.specs.Examples.{text_opens}
use Rattle.text.proofs.PutLaws.{room_as, puts_as}
use Rattle.markup.proofs.PrintLaws.{italic_letter, other_letter}
use Rattle.leaves.proofs.leaf.put_letter.Goals as goal

pub put_character_in-requires : goal.put_character_in-requires
unfolding text_opens
put_character_in-requires c = room_as (italic_letter c.args.dialect c.args.c c.args.v (sym c.is_italic.ensures ∙ c.if-is_italic.true)) c.requires

pub returns-then-is_italic : goal.returns-then-is_italic
unfolding text_opens
returns-then-is_italic c = puts_as (italic_letter c.args.dialect c.args.c c.args.v (sym c.is_italic.ensures ∙ c.if-is_italic.true)) c.put_character_in.ensures

pub put_variant_letter-requires : goal.put_variant_letter-requires
unfolding text_opens
put_variant_letter-requires c = room_as (other_letter c.args.dialect c.args.c c.args.v (sym c.is_italic.ensures ∙ c.if-is_italic.false)) c.requires

pub returns : goal.returns
unfolding text_opens
returns c = puts_as (other_letter c.args.dialect c.args.c c.args.v (sym c.is_italic.ensures ∙ c.if-is_italic.false)) c.put_variant_letter.ensures
