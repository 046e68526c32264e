-- `leaves::lengths::leaf_len` meets its contract.
use mathlib.Core.Path.{refl, ap, ◌∙◌}
use mathlib.Core.Bool.{false}
use lib.ListN.{length}
use borrow.Enum.Refused.{opened}
use Rattle.text.specs.Examples.{text_opens}
use Rattle.ast.specs.declared.Stretched.{Stretched}
use Rattle.ast.specs.declared.Leaf.{Leaf}
use Rattle.markup.specs.Print.{letter_text, slash_leaf, cell_leaf, cell, print_leaf, at_place}
use Rattle.markup.proofs.ShortLaws.{fixed_short, operator_text_short, sized_end_short}
use Rattle.leaves.proofs.LengthLaws.{at_any, letter_unslashed, operator_unslashed, ampersand_uncelled, new_line_uncelled, own_number, own_function, own_name, own_space, own_stretched, own_stretched_text, own_other, own_sized, own_text_lem, own_undefined}
use native.Mathlib.Omega.{arith}
use Rattle.leaves.proofs.lengths.leaf_len.Goals as goal
use Rattle.leaves.proofs.lengths.leaf_len.Goals.{in-Slashed, in_default}

pub returns-in-Number : goal.returns-in-Number
unfolding print_leaf slash_leaf cell_leaf
returns-in-Number c =
    let h = rw c.in-Number.is at c.requires.0 in
    rw c.in-Number.is (at_any c.args.dialect c.args.place c.args.s.now (Leaf.Number c.in-Number.a c.in-Number.e) refl refl (own_number c.args.dialect false c.args.s.now c.in-Number.a c.in-Number.e h.0 h.1))

pub returns-in-Letter : goal.returns-in-Letter
unfolding print_leaf
returns-in-Letter c =
    elim c.match-matches.branch [
      | in-Slashed w ↦ rw (c.in-Letter.is, w.in-Slashed.is) (rw w.matches-is at c.letter_len.ensures)
      | in_default w ↦ rw c.in-Letter.is ((rw w.matches-is at c.letter_len.ensures) ∙ letter_unslashed c.args.dialect c.args.place c.in-Letter.c c.in-Letter.v (opened w.in_default.in_default-own.keys2))
    ]

pub returns-in-Operator : goal.returns-in-Operator
unfolding print_leaf
returns-in-Operator c =
    elim c.match-matches.branch [
      | in-Slashed w ↦ rw (c.in-Operator.is, w.in-Slashed.is) (rw w.matches-is at c.operator_len.ensures)
      | in_default w ↦ rw c.in-Operator.is ((rw w.matches-is at c.operator_len.ensures) ∙ operator_unslashed c.args.dialect c.args.place c.in-Operator.c (opened w.in_default.in_default-own.keys2))
    ]

pub returns-in-Function : goal.returns-in-Function
unfolding print_leaf slash_leaf cell_leaf
returns-in-Function c =
    rw (c.in-Function.is, c.fixed_text.ensures) (at_any c.args.dialect c.args.place c.args.s.now (Leaf.Function c.in-Function.t) refl refl (own_function c.args.dialect false c.args.s.now c.in-Function.t))

pub letters_len-requires : goal.letters_len-requires
unfolding print_leaf slash_leaf cell_leaf letter_text
letters_len-requires c =
    let e = at_any c.args.dialect c.args.place c.args.s.now (Leaf.FunctionName c.in-FunctionName.a c.in-FunctionName.e) refl refl (own_name c.args.dialect false c.args.s.now c.in-FunctionName.a c.in-FunctionName.e) in
    let fits = rw c.in-FunctionName.is at c.requires.1 in
    omega arith

pub overflow_add-result-in-FunctionName : goal.overflow_add-result-in-FunctionName
unfolding print_leaf slash_leaf cell_leaf letter_text
overflow_add-result-in-FunctionName c =
    let e = at_any c.args.dialect c.args.place c.args.s.now (Leaf.FunctionName c.in-FunctionName.a c.in-FunctionName.e) refl refl (own_name c.args.dialect false c.args.s.now c.in-FunctionName.a c.in-FunctionName.e) in
    let n = c.letters_len.ensures in
    let fits = rw c.in-FunctionName.is at c.requires.1 in
    omega arith

pub returns-in-FunctionName : goal.returns-in-FunctionName
unfolding print_leaf slash_leaf cell_leaf letter_text
returns-in-FunctionName c =
    rw (c.in-FunctionName.is, c.letters_len.ensures) (at_any c.args.dialect c.args.place c.args.s.now (Leaf.FunctionName c.in-FunctionName.a c.in-FunctionName.e) refl refl (own_name c.args.dialect false c.args.s.now c.in-FunctionName.a c.in-FunctionName.e))

pub returns-in-Space : goal.returns-in-Space
unfolding print_leaf slash_leaf cell_leaf
returns-in-Space c =
    rw (c.in-Space.is, c.width_of.ensures) (at_any c.args.dialect c.args.place c.args.s.now (Leaf.Space c.in-Space.w) refl refl (own_space c.args.dialect false c.args.s.now c.in-Space.w))

pub overflow_add-result-in-StrechedOp-Character : goal.overflow_add-result-in-StrechedOp-Character
overflow_add-result-in-StrechedOp-Character c =
    let n = c.operator_text_len.ensures in
    omega (arith, operator_text_short c.args.dialect c.in-StrechedOp-Character.c)

pub returns-in-StrechedOp-Character : goal.returns-in-StrechedOp-Character
unfolding print_leaf slash_leaf cell_leaf
returns-in-StrechedOp-Character c =
    rw (c.in-StrechedOp-Character.is, rw c.in-StrechedOp-Character.is at c.in-StrechedOp-Character.field-0-is, c.operator_text_len.ensures) (at_any c.args.dialect c.args.place c.args.s.now (Leaf.StrechedOp (Stretched.Character c.in-StrechedOp-Character.c)) refl refl (own_stretched c.args.dialect false c.args.s.now c.in-StrechedOp-Character.c))

pub returns-in-StrechedOp-Fixed : goal.returns-in-StrechedOp-Fixed
unfolding print_leaf slash_leaf cell_leaf
returns-in-StrechedOp-Fixed c =
    rw (c.in-StrechedOp-Fixed.is, rw c.in-StrechedOp-Fixed.is at c.in-StrechedOp-Fixed.field-0-is, c.fixed_text-in-StrechedOp-Fixed.ensures) (at_any c.args.dialect c.args.place c.args.s.now (Leaf.StrechedOp (Stretched.Fixed c.in-StrechedOp-Fixed.t)) refl refl (own_stretched_text c.args.dialect false c.args.s.now c.in-StrechedOp-Fixed.t))

pub returns-in-OtherOperator : goal.returns-in-OtherOperator
unfolding print_leaf slash_leaf cell_leaf
returns-in-OtherOperator c =
    rw (c.in-OtherOperator.is, c.fixed_text-in-OtherOperator.ensures) (at_any c.args.dialect c.args.place c.args.s.now (Leaf.OtherOperator c.in-OtherOperator.t) refl refl (own_other c.args.dialect false c.args.s.now c.in-OtherOperator.t))

pub overflow_add-result-in-SizedParen-2 : goal.overflow_add-result-in-SizedParen-2
overflow_add-result-in-SizedParen-2 c =
    let e0 = ap length c.fixed_text-in-SizedParen.ensures in
    let e1 = ap length c.fixed_text-in-SizedParen-2.ensures in
    omega (arith, fixed_short c.args.dialect c.in-SizedParen.z)

pub overflow_add-result-in-SizedParen-3 : goal.overflow_add-result-in-SizedParen-3
overflow_add-result-in-SizedParen-3 c =
    let e0 = ap length c.fixed_text-in-SizedParen.ensures in
    let e1 = ap length c.fixed_text-in-SizedParen-2.ensures in
    let e2 = ap length c.fixed_text-in-SizedParen-3.ensures in
    omega (arith, fixed_short c.args.dialect c.in-SizedParen.z, fixed_short c.args.dialect c.in-SizedParen.t)

pub overflow_add-result-in-SizedParen-4 : goal.overflow_add-result-in-SizedParen-4
overflow_add-result-in-SizedParen-4 c =
    let e0 = ap length c.fixed_text-in-SizedParen.ensures in
    let e1 = ap length c.fixed_text-in-SizedParen-2.ensures in
    let e2 = ap length c.fixed_text-in-SizedParen-3.ensures in
    let e3 = ap length c.sized_end.ensures in
    omega (arith, fixed_short c.args.dialect c.in-SizedParen.z, fixed_short c.args.dialect c.in-SizedParen.t, sized_end_short c.args.dialect)

pub returns-in-SizedParen : goal.returns-in-SizedParen
unfolding print_leaf slash_leaf cell_leaf
returns-in-SizedParen c =
    rw (c.in-SizedParen.is, c.fixed_text-in-SizedParen.ensures, c.fixed_text-in-SizedParen-2.ensures, c.fixed_text-in-SizedParen-3.ensures, c.sized_end.ensures) (at_any c.args.dialect c.args.place c.args.s.now (Leaf.SizedParen c.in-SizedParen.z c.in-SizedParen.t) refl refl (own_sized c.args.dialect false c.args.s.now c.in-SizedParen.z c.in-SizedParen.t))

pub letters_len-requires-in-Text : goal.letters_len-requires-in-Text
unfolding print_leaf slash_leaf cell_leaf letter_text
letters_len-requires-in-Text c =
    let e = at_any c.args.dialect c.args.place c.args.s.now (Leaf.Text c.in-Text.a c.in-Text.e) refl refl (own_text_lem c.args.dialect false c.args.s.now c.in-Text.a c.in-Text.e) in
    let fits = rw c.in-Text.is at c.requires.1 in
    omega arith

pub overflow_add-result-in-Text : goal.overflow_add-result-in-Text
unfolding print_leaf slash_leaf cell_leaf letter_text
overflow_add-result-in-Text c =
    let e = at_any c.args.dialect c.args.place c.args.s.now (Leaf.Text c.in-Text.a c.in-Text.e) refl refl (own_text_lem c.args.dialect false c.args.s.now c.in-Text.a c.in-Text.e) in
    let n = c.letters_len-in-Text.ensures in
    let fits = rw c.in-Text.is at c.requires.1 in
    omega arith

pub returns-in-Text : goal.returns-in-Text
unfolding print_leaf slash_leaf cell_leaf letter_text
returns-in-Text c =
    rw (c.in-Text.is, c.letters_len-in-Text.ensures) (at_any c.args.dialect c.args.place c.args.s.now (Leaf.Text c.in-Text.a c.in-Text.e) refl refl (own_text_lem c.args.dialect false c.args.s.now c.in-Text.a c.in-Text.e))

pub returns-in-Cell : goal.returns-in-Cell
unfolding text_opens at_place cell cell_leaf
returns-in-Cell c =
    rw (c.in-Ampersand.is, c.in-Cell.is) refl

pub returns-in_default-place : goal.returns-in_default-place
returns-in_default-place c =
    rw c.in-Ampersand.is (ampersand_uncelled c.args.dialect c.args.place c.args.s.now (opened c.in_default-place.in_default-place-own.keys2))

pub returns-in-Cell-place : goal.returns-in-Cell-place
unfolding text_opens at_place cell cell_leaf
returns-in-Cell-place c =
    rw (c.in-NewLine.is, c.in-Cell-place.is) refl

pub returns-in_default-place-2 : goal.returns-in_default-place-2
returns-in_default-place-2 c =
    rw c.in-NewLine.is (new_line_uncelled c.args.dialect c.args.place c.args.s.now (opened c.in_default-place-2.in_default-place-2-own.keys2))

pub undefined_len-requires : goal.undefined_len-requires
unfolding print_leaf slash_leaf cell_leaf
undefined_len-requires c =
    let e = at_any c.args.dialect c.args.place c.args.s.now (Leaf.Undefined c.in-Undefined.u) refl refl (own_undefined c.args.dialect false c.args.s.now c.in-Undefined.u) in
    let fits = rw c.in-Undefined.is at c.requires.1 in
    (rw c.in-Undefined.is at c.requires.0, omega arith)

pub returns-in-Undefined : goal.returns-in-Undefined
unfolding print_leaf slash_leaf cell_leaf
returns-in-Undefined c =
    rw (c.in-Undefined.is, c.undefined_len.ensures) (at_any c.args.dialect c.args.place c.args.s.now (Leaf.Undefined c.in-Undefined.u) refl refl (own_undefined c.args.dialect false c.args.s.now c.in-Undefined.u))
