-- `leaves::leaf::put_sized_paren` meets its contract.
use mathlib.Core.List.{◌++◌}
use Rattle.text.specs.Text.{bytes}
use Rattle.text.specs.Examples.{text_opens}
use Rattle.text.proofs.PutLaws.{room_1, room_2, room_3, puts_3, room_as, puts_as}
use Rattle.leaves.proofs.LeafLaws.{five_1, five_2, five_3, five_4, five_5, puts_5}
use Rattle.markup.specs.Print.{fixed_text, sized_end, sized_markup}
use Rattle.markup.proofs.PrintLaws.{sized_pieces}
use Rattle.leaves.proofs.leaf.put_sized_paren.Goals as goal

pub put-requires : goal.put-requires
unfolding text_opens sized_markup
put-requires c =
    let whole = room_as (sized_pieces (fixed_text c.args.dialect c.args.z) (fixed_text c.args.dialect c.args.t) (sized_end c.args.dialect)) c.requires in
    room_1 (bytes "<mrow><mo maxsize=\"") (fixed_text c.args.dialect c.args.z) ((bytes "\" minsize=\"") ++ (fixed_text c.args.dialect c.args.z) ++ ((bytes "\">") ++ (fixed_text c.args.dialect c.args.t) ++ (sized_end c.args.dialect))) whole

pub put-requires-2 : goal.put-requires-2
unfolding text_opens sized_markup
put-requires-2 c =
    let whole = room_as (sized_pieces (fixed_text c.args.dialect c.args.z) (fixed_text c.args.dialect c.args.t) (sized_end c.args.dialect)) c.requires in
    rw c.fixed_text-size.ensures (room_2 (bytes "<mrow><mo maxsize=\"") (fixed_text c.args.dialect c.args.z) ((bytes "\" minsize=\"") ++ (fixed_text c.args.dialect c.args.z) ++ ((bytes "\">") ++ (fixed_text c.args.dialect c.args.t) ++ (sized_end c.args.dialect))) whole c.put.ensures)

pub put-requires-3 : goal.put-requires-3
unfolding text_opens sized_markup
put-requires-3 c =
    let whole = room_as (sized_pieces (fixed_text c.args.dialect c.args.z) (fixed_text c.args.dialect c.args.t) (sized_end c.args.dialect)) c.requires in
    let size = rw c.fixed_text-size.ensures at c.put-2.ensures in
    let back = room_3 (bytes "<mrow><mo maxsize=\"") (fixed_text c.args.dialect c.args.z) ((bytes "\" minsize=\"") ++ (fixed_text c.args.dialect c.args.z) ++ ((bytes "\">") ++ (fixed_text c.args.dialect c.args.t) ++ (sized_end c.args.dialect))) whole c.put.ensures size in
    five_1 (bytes "\" minsize=\"") (fixed_text c.args.dialect c.args.z) (bytes "\">") (fixed_text c.args.dialect c.args.t) (sized_end c.args.dialect) back

pub put-requires-4 : goal.put-requires-4
unfolding text_opens sized_markup
put-requires-4 c =
    let whole = room_as (sized_pieces (fixed_text c.args.dialect c.args.z) (fixed_text c.args.dialect c.args.t) (sized_end c.args.dialect)) c.requires in
    let size = rw c.fixed_text-size.ensures at c.put-2.ensures in
    let back = room_3 (bytes "<mrow><mo maxsize=\"") (fixed_text c.args.dialect c.args.z) ((bytes "\" minsize=\"") ++ (fixed_text c.args.dialect c.args.z) ++ ((bytes "\">") ++ (fixed_text c.args.dialect c.args.t) ++ (sized_end c.args.dialect))) whole c.put.ensures size in
    rw c.fixed_text-size.ensures (five_2 (bytes "\" minsize=\"") (fixed_text c.args.dialect c.args.z) (bytes "\">") (fixed_text c.args.dialect c.args.t) (sized_end c.args.dialect) back c.put-3.ensures)

pub put-requires-5 : goal.put-requires-5
unfolding text_opens sized_markup
put-requires-5 c =
    let whole = room_as (sized_pieces (fixed_text c.args.dialect c.args.z) (fixed_text c.args.dialect c.args.t) (sized_end c.args.dialect)) c.requires in
    let size = rw c.fixed_text-size.ensures at c.put-2.ensures in
    let back = room_3 (bytes "<mrow><mo maxsize=\"") (fixed_text c.args.dialect c.args.z) ((bytes "\" minsize=\"") ++ (fixed_text c.args.dialect c.args.z) ++ ((bytes "\">") ++ (fixed_text c.args.dialect c.args.t) ++ (sized_end c.args.dialect))) whole c.put.ensures size in
    let again = rw c.fixed_text-size.ensures at c.put-4.ensures in
    five_3 (bytes "\" minsize=\"") (fixed_text c.args.dialect c.args.z) (bytes "\">") (fixed_text c.args.dialect c.args.t) (sized_end c.args.dialect) back c.put-3.ensures again

pub put-requires-6 : goal.put-requires-6
unfolding text_opens sized_markup
put-requires-6 c =
    let whole = room_as (sized_pieces (fixed_text c.args.dialect c.args.z) (fixed_text c.args.dialect c.args.t) (sized_end c.args.dialect)) c.requires in
    let size = rw c.fixed_text-size.ensures at c.put-2.ensures in
    let back = room_3 (bytes "<mrow><mo maxsize=\"") (fixed_text c.args.dialect c.args.z) ((bytes "\" minsize=\"") ++ (fixed_text c.args.dialect c.args.z) ++ ((bytes "\">") ++ (fixed_text c.args.dialect c.args.t) ++ (sized_end c.args.dialect))) whole c.put.ensures size in
    let again = rw c.fixed_text-size.ensures at c.put-4.ensures in
    rw c.fixed_text.ensures (five_4 (bytes "\" minsize=\"") (fixed_text c.args.dialect c.args.z) (bytes "\">") (fixed_text c.args.dialect c.args.t) (sized_end c.args.dialect) back c.put-3.ensures again c.put-5.ensures)

pub put-requires-7 : goal.put-requires-7
unfolding text_opens sized_markup
put-requires-7 c =
    let whole = room_as (sized_pieces (fixed_text c.args.dialect c.args.z) (fixed_text c.args.dialect c.args.t) (sized_end c.args.dialect)) c.requires in
    let size = rw c.fixed_text-size.ensures at c.put-2.ensures in
    let back = room_3 (bytes "<mrow><mo maxsize=\"") (fixed_text c.args.dialect c.args.z) ((bytes "\" minsize=\"") ++ (fixed_text c.args.dialect c.args.z) ++ ((bytes "\">") ++ (fixed_text c.args.dialect c.args.t) ++ (sized_end c.args.dialect))) whole c.put.ensures size in
    let again = rw c.fixed_text-size.ensures at c.put-4.ensures in
    let text = rw c.fixed_text.ensures at c.put-6.ensures in
    rw c.sized_end.ensures (five_5 (bytes "\" minsize=\"") (fixed_text c.args.dialect c.args.z) (bytes "\">") (fixed_text c.args.dialect c.args.t) (sized_end c.args.dialect) back c.put-3.ensures again c.put-5.ensures text)

pub returns : goal.returns
unfolding text_opens sized_markup
returns c =
    let whole = room_as (sized_pieces (fixed_text c.args.dialect c.args.z) (fixed_text c.args.dialect c.args.t) (sized_end c.args.dialect)) c.requires in
    let size = rw c.fixed_text-size.ensures at c.put-2.ensures in
    let back = room_3 (bytes "<mrow><mo maxsize=\"") (fixed_text c.args.dialect c.args.z) ((bytes "\" minsize=\"") ++ (fixed_text c.args.dialect c.args.z) ++ ((bytes "\">") ++ (fixed_text c.args.dialect c.args.t) ++ (sized_end c.args.dialect))) whole c.put.ensures size in
    let again = rw c.fixed_text-size.ensures at c.put-4.ensures in
    let text = rw c.fixed_text.ensures at c.put-6.ensures in
    puts_as (sized_pieces (fixed_text c.args.dialect c.args.z) (fixed_text c.args.dialect c.args.t) (sized_end c.args.dialect)) (puts_3 (bytes "<mrow><mo maxsize=\"") (fixed_text c.args.dialect c.args.z) ((bytes "\" minsize=\"") ++ (fixed_text c.args.dialect c.args.z) ++ ((bytes "\">") ++ (fixed_text c.args.dialect c.args.t) ++ (sized_end c.args.dialect))) whole c.put.ensures size (puts_5 (bytes "\" minsize=\"") (fixed_text c.args.dialect c.args.z) (bytes "\">") (fixed_text c.args.dialect c.args.t) (sized_end c.args.dialect) back c.put-3.ensures again c.put-5.ensures text (rw c.sized_end.ensures at c.put-7.ensures)))
