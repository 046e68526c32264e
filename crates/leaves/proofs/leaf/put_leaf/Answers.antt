-- `leaves::leaf::put_leaf` meets its contract.
use mathlib.Core.Path.{refl}
use Rattle.text.specs.Examples.{text_opens}
use Rattle.text.proofs.PutLaws.{room_as, puts_as}
use Rattle.markup.specs.Print.{width_text, letter_text, slash_leaf, cell_leaf, print_leaf, parse_error}
use Rattle.leaves.proofs.LeafLaws.{anywhere}
use Rattle.leaves.proofs.leaf.put_leaf.Goals as goal

pub put_in-requires : goal.put_in-requires
unfolding text_opens print_leaf parse_error slash_leaf cell_leaf
put_in-requires c = rw c.in-Number.is at (room_as (anywhere c.args.dialect c.args.place (print_leaf c.args.dialect c.args.s.now c.args.l) c.in-Number.is refl refl) c.requires.1)

pub put_letter_at-requires : goal.put_letter_at-requires
unfolding text_opens print_leaf parse_error
put_letter_at-requires c = (rw c.in-Letter.is at c.requires).1

pub put_operator_at-requires : goal.put_operator_at-requires
unfolding text_opens print_leaf parse_error
put_operator_at-requires c = (rw c.in-Operator.is at c.requires).1

pub put_in-requires-in-Function : goal.put_in-requires-in-Function
unfolding text_opens print_leaf parse_error slash_leaf cell_leaf
put_in-requires-in-Function c = rw c.fixed_text.ensures (rw c.in-Function.is at (room_as (anywhere c.args.dialect c.args.place (print_leaf c.args.dialect c.args.s.now c.args.l) c.in-Function.is refl refl) c.requires.1))

pub put_letters_in-requires : goal.put_letters_in-requires
unfolding text_opens print_leaf parse_error slash_leaf cell_leaf letter_text
put_letters_in-requires c = rw c.in-FunctionName.is at (room_as (anywhere c.args.dialect c.args.place (print_leaf c.args.dialect c.args.s.now c.args.l) c.in-FunctionName.is refl refl) c.requires.1)

pub put_in-requires-in-Space : goal.put_in-requires-in-Space
unfolding text_opens print_leaf parse_error slash_leaf cell_leaf width_text
put_in-requires-in-Space c = rw c.width_of.ensures (rw c.in-Space.is at (room_as (anywhere c.args.dialect c.args.place (print_leaf c.args.dialect c.args.s.now c.args.l) c.in-Space.is refl refl) c.requires.1))

pub put_stretched-requires : goal.put_stretched-requires
unfolding text_opens print_leaf parse_error slash_leaf cell_leaf
put_stretched-requires c = rw c.in-StrechedOp.is at (room_as (anywhere c.args.dialect c.args.place (print_leaf c.args.dialect c.args.s.now c.args.l) c.in-StrechedOp.is refl refl) c.requires.1)

pub put_in-requires-in-OtherOperator : goal.put_in-requires-in-OtherOperator
unfolding text_opens print_leaf parse_error slash_leaf cell_leaf
put_in-requires-in-OtherOperator c = rw c.fixed_text-in-OtherOperator.ensures (rw c.in-OtherOperator.is at (room_as (anywhere c.args.dialect c.args.place (print_leaf c.args.dialect c.args.s.now c.args.l) c.in-OtherOperator.is refl refl) c.requires.1))

pub put_sized_paren-requires : goal.put_sized_paren-requires
unfolding text_opens print_leaf parse_error slash_leaf cell_leaf
put_sized_paren-requires c = rw c.in-SizedParen.is at (room_as (anywhere c.args.dialect c.args.place (print_leaf c.args.dialect c.args.s.now c.args.l) c.in-SizedParen.is refl refl) c.requires.1)

pub put_letters_in-requires-in-Text : goal.put_letters_in-requires-in-Text
unfolding text_opens print_leaf parse_error slash_leaf cell_leaf letter_text
put_letters_in-requires-in-Text c = rw c.in-Text.is at (room_as (anywhere c.args.dialect c.args.place (print_leaf c.args.dialect c.args.s.now c.args.l) c.in-Text.is refl refl) c.requires.1)

pub put_ampersand-requires : goal.put_ampersand-requires
unfolding text_opens print_leaf parse_error
put_ampersand-requires c = (rw c.in-Ampersand.is at c.requires).1

pub put_new_line-requires : goal.put_new_line-requires
unfolding text_opens print_leaf parse_error
put_new_line-requires c = (rw c.in-NewLine.is at c.requires).1

pub put_undefined-requires : goal.put_undefined-requires
unfolding text_opens print_leaf parse_error slash_leaf cell_leaf
put_undefined-requires c = (rw c.in-Undefined.is at c.requires.0, rw c.in-Undefined.is at (room_as (anywhere c.args.dialect c.args.place (print_leaf c.args.dialect c.args.s.now c.args.l) c.in-Undefined.is refl refl) c.requires.1))

pub returns-in-Number : goal.returns-in-Number
unfolding text_opens print_leaf parse_error slash_leaf cell_leaf
returns-in-Number c = puts_as (anywhere c.args.dialect c.args.place (print_leaf c.args.dialect c.args.s.now c.args.l) c.in-Number.is refl refl) (rw c.in-Number.is c.put_in.ensures)

pub returns-in-Letter : goal.returns-in-Letter
unfolding text_opens print_leaf parse_error
returns-in-Letter c = rw c.in-Letter.is c.put_letter_at.ensures

pub returns-in-Operator : goal.returns-in-Operator
unfolding text_opens print_leaf parse_error
returns-in-Operator c = rw c.in-Operator.is c.put_operator_at.ensures

pub returns-in-Function : goal.returns-in-Function
unfolding text_opens print_leaf parse_error slash_leaf cell_leaf
returns-in-Function c = puts_as (anywhere c.args.dialect c.args.place (print_leaf c.args.dialect c.args.s.now c.args.l) c.in-Function.is refl refl) (rw c.in-Function.is (rw c.fixed_text.ensures at c.put_in-in-Function.ensures))

pub returns-in-FunctionName : goal.returns-in-FunctionName
unfolding text_opens print_leaf parse_error slash_leaf cell_leaf letter_text
returns-in-FunctionName c = puts_as (anywhere c.args.dialect c.args.place (print_leaf c.args.dialect c.args.s.now c.args.l) c.in-FunctionName.is refl refl) (rw c.in-FunctionName.is c.put_letters_in.ensures)

pub returns-in-Space : goal.returns-in-Space
unfolding text_opens print_leaf parse_error slash_leaf cell_leaf width_text
returns-in-Space c = puts_as (anywhere c.args.dialect c.args.place (print_leaf c.args.dialect c.args.s.now c.args.l) c.in-Space.is refl refl) (rw c.in-Space.is (rw c.width_of.ensures at c.put_in-in-Space.ensures))

pub returns-in-StrechedOp : goal.returns-in-StrechedOp
unfolding text_opens print_leaf parse_error slash_leaf cell_leaf
returns-in-StrechedOp c = puts_as (anywhere c.args.dialect c.args.place (print_leaf c.args.dialect c.args.s.now c.args.l) c.in-StrechedOp.is refl refl) (rw c.in-StrechedOp.is c.put_stretched.ensures)

pub returns-in-OtherOperator : goal.returns-in-OtherOperator
unfolding text_opens print_leaf parse_error slash_leaf cell_leaf
returns-in-OtherOperator c = puts_as (anywhere c.args.dialect c.args.place (print_leaf c.args.dialect c.args.s.now c.args.l) c.in-OtherOperator.is refl refl) (rw c.in-OtherOperator.is (rw c.fixed_text-in-OtherOperator.ensures at c.put_in-in-OtherOperator.ensures))

pub returns-in-SizedParen : goal.returns-in-SizedParen
unfolding text_opens print_leaf parse_error slash_leaf cell_leaf
returns-in-SizedParen c = puts_as (anywhere c.args.dialect c.args.place (print_leaf c.args.dialect c.args.s.now c.args.l) c.in-SizedParen.is refl refl) (rw c.in-SizedParen.is c.put_sized_paren.ensures)

pub returns-in-Text : goal.returns-in-Text
unfolding text_opens print_leaf parse_error slash_leaf cell_leaf letter_text
returns-in-Text c = puts_as (anywhere c.args.dialect c.args.place (print_leaf c.args.dialect c.args.s.now c.args.l) c.in-Text.is refl refl) (rw c.in-Text.is c.put_letters_in-in-Text.ensures)

pub returns-in-Ampersand : goal.returns-in-Ampersand
unfolding text_opens print_leaf parse_error
returns-in-Ampersand c = rw c.in-Ampersand.is c.put_ampersand.ensures

pub returns-in-NewLine : goal.returns-in-NewLine
unfolding text_opens print_leaf parse_error
returns-in-NewLine c = rw c.in-NewLine.is c.put_new_line.ensures

pub returns-in-Undefined : goal.returns-in-Undefined
unfolding text_opens print_leaf parse_error slash_leaf cell_leaf
returns-in-Undefined c = puts_as (anywhere c.args.dialect c.args.place (print_leaf c.args.dialect c.args.s.now c.args.l) c.in-Undefined.is refl refl) (rw c.in-Undefined.is c.put_undefined.ensures)
