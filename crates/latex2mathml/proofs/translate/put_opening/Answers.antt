-- `latex2mathml::translate::put_opening` meets its contract.
use Rattle.text.specs.Examples.{text_opens}
use Rattle.text.specs.Text.{bytes}
use Rattle.text.proofs.PutLaws.{room_1, room_2, room_3, puts_3}
use Rattle.attribute.specs.Names.{display_style}
use Rattle.latex2mathml.specs.Written.{opening}
use Rattle.latex2mathml.proofs.translate.put_opening.Goals as goal

pub put-requires : goal.put-requires
unfolding text_opens opening
put-requires c =
    room_1 (bytes "<math xmlns=\"http://www.w3.org/1998/Math/MathML\" display=\"") (bytes (display_style c.args.display)) (bytes "\">") c.requires

pub put-requires-2 : goal.put-requires-2
unfolding text_opens opening
put-requires-2 c =
    rw c.name.ensures (room_2 (bytes "<math xmlns=\"http://www.w3.org/1998/Math/MathML\" display=\"") (bytes (display_style c.args.display)) (bytes "\">") c.requires c.put.ensures)

pub put-requires-3 : goal.put-requires-3
unfolding text_opens opening
put-requires-3 c =
    room_3 (bytes "<math xmlns=\"http://www.w3.org/1998/Math/MathML\" display=\"") (bytes (display_style c.args.display)) (bytes "\">") c.requires c.put.ensures (rw c.name.ensures at c.put-2.ensures)

pub returns : goal.returns
unfolding text_opens opening
returns c =
    puts_3 (bytes "<math xmlns=\"http://www.w3.org/1998/Math/MathML\" display=\"") (bytes (display_style c.args.display)) (bytes "\">") c.requires c.put.ensures (rw c.name.ensures at c.put-2.ensures) c.put-3.ensures
