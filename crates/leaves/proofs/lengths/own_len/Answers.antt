-- `leaves::lengths::own_len` meets its contract.
use mathlib.Core.Path.{refl, sym, ap, ◌∙◌}
use lib.ListN.{length}
use Rattle.attribute.specs.Codes.{variant_of, accent_of, display_of, thickness_of, align_of}
use Rattle.text.specs.Examples.{text_opens}
use Rattle.text.proofs.Keys.{past}
use Rattle.token.specs.declared.Undefined.{Undefined}
use Rattle.ast.specs.Shape.{shapes, shape_of}
use Rattle.markup.specs.Fronts.{front_one, back_one, front_two, back_two, front_three, back_three}
use Rattle.markup.specs.Print.{character, letter_text}
use Rattle.markup.specs.Own.{own_text}
use Rattle.markup.proofs.ShortLaws.{fixed_short, character_short, operator_text_short, sized_end_short, letters_short, accent_short, display_short, align_short}
use Rattle.leaves.proofs.LengthLaws.{undefined_fits, tagged, tagged_last, own_number, own_letter, own_operator, own_function, own_name, own_space, own_stretched, own_stretched_text, own_other, own_sized, own_text_lem, own_ampersand, own_new_line, own_undefined, own_over, own_under, own_fenced, own_style, own_frac, own_matrix}
use native.Mathlib.Omega.{arith}
use Rattle.leaves.proofs.lengths.own_len.Goals as goal

pub overflow_sub-result : goal.overflow_sub-result
unfolding shape_of shapes
overflow_sub-result c = (rw c.in-0.is at c.requires.0).0

pub slice_bounds-letters_len-count : goal.slice_bounds-letters_len-count
unfolding shape_of shapes
slice_bounds-letters_len-count c = (rw c.in-4.is at c.requires.0).0

pub slice_bounds-letters_len-start : goal.slice_bounds-letters_len-start
unfolding shape_of shapes
slice_bounds-letters_len-start c = (rw c.in-4.is at c.requires.0).0

pub slice_bounds-letters_len-end : goal.slice_bounds-letters_len-end
unfolding shape_of shapes
slice_bounds-letters_len-end c = (rw c.in-4.is at c.requires.0).1

pub letters_len-requires : goal.letters_len-requires
unfolding letter_text
letters_len-requires c =
    let short = c.requires.1 in
    omega (arith, letters_short c.args.dialect c.args.s.now c.args.f.x c.args.f.y)

pub overflow_add-result-in-4 : goal.overflow_add-result-in-4
unfolding letter_text
overflow_add-result-in-4 c =
    let e0 = c.letters_len.ensures in
    let short = c.requires.1 in
    omega (arith, letters_short c.args.dialect c.args.s.now c.args.f.x c.args.f.y)

pub overflow_add-result-in-6 : goal.overflow_add-result-in-6
overflow_add-result-in-6 c =
    let e0 = c.operator_text_len.ensures in
    omega (arith, operator_text_short c.args.dialect c.args.f.x)

pub overflow_add-result-in-9-2 : goal.overflow_add-result-in-9-2
overflow_add-result-in-9-2 c =
    let e0 = ap length c.fixed_text-in-9.ensures in
    let e1 = ap length c.fixed_text-in-9-2.ensures in
    omega (arith, fixed_short c.args.dialect c.args.f.x)

pub overflow_add-result-in-9-3 : goal.overflow_add-result-in-9-3
overflow_add-result-in-9-3 c =
    let e0 = ap length c.fixed_text-in-9.ensures in
    let e1 = ap length c.fixed_text-in-9-2.ensures in
    let e2 = ap length c.fixed_text-in-9-3.ensures in
    omega (arith, fixed_short c.args.dialect c.args.f.x, fixed_short c.args.dialect c.args.f.y)

pub overflow_add-result-in-9-4 : goal.overflow_add-result-in-9-4
overflow_add-result-in-9-4 c =
    let e0 = ap length c.fixed_text-in-9.ensures in
    let e1 = ap length c.fixed_text-in-9-2.ensures in
    let e2 = ap length c.fixed_text-in-9-3.ensures in
    let e3 = ap length c.sized_end.ensures in
    omega (arith, fixed_short c.args.dialect c.args.f.x, fixed_short c.args.dialect c.args.f.y, sized_end_short c.args.dialect)

pub slice_bounds-letters_len-count-in-10 : goal.slice_bounds-letters_len-count-in-10
unfolding shape_of shapes
slice_bounds-letters_len-count-in-10 c = (rw c.in-10.is at c.requires.0).0

pub slice_bounds-letters_len-start-in-10 : goal.slice_bounds-letters_len-start-in-10
unfolding shape_of shapes
slice_bounds-letters_len-start-in-10 c = (rw c.in-10.is at c.requires.0).0

pub slice_bounds-letters_len-end-in-10 : goal.slice_bounds-letters_len-end-in-10
unfolding shape_of shapes
slice_bounds-letters_len-end-in-10 c = (rw c.in-10.is at c.requires.0).1

pub letters_len-requires-in-10 : goal.letters_len-requires-in-10
unfolding letter_text
letters_len-requires-in-10 c =
    let short = c.requires.1 in
    omega (arith, letters_short c.args.dialect c.args.s.now c.args.f.x c.args.f.y)

pub overflow_add-result-in-10 : goal.overflow_add-result-in-10
unfolding letter_text
overflow_add-result-in-10 c =
    let e0 = c.letters_len-in-10.ensures in
    let short = c.requires.1 in
    omega (arith, letters_short c.args.dialect c.args.s.now c.args.f.x c.args.f.y)

pub undefined_len-requires : goal.undefined_len-requires
undefined_len-requires c = (tt, undefined_fits c.args.dialect c.args.s.now Undefined.EOF c.requires.1)

pub undefined_len-requires-in-14 : goal.undefined_len-requires-in-14
undefined_len-requires-in-14 c = (tt, undefined_fits c.args.dialect c.args.s.now Undefined.End c.requires.1)

pub undefined_len-requires-in-15 : goal.undefined_len-requires-in-15
undefined_len-requires-in-15 c = (tt, undefined_fits c.args.dialect c.args.s.now Undefined.Right c.requires.1)

pub undefined_len-requires-in-16 : goal.undefined_len-requires-in-16
undefined_len-requires-in-16 c = (tt, undefined_fits c.args.dialect c.args.s.now Undefined.RBrace c.requires.1)

pub undefined_len-requires-in-17 : goal.undefined_len-requires-in-17
undefined_len-requires-in-17 c = (tt, undefined_fits c.args.dialect c.args.s.now Undefined.Underscore c.requires.1)

pub undefined_len-requires-in-18 : goal.undefined_len-requires-in-18
undefined_len-requires-in-18 c = (tt, undefined_fits c.args.dialect c.args.s.now Undefined.Circumflex c.requires.1)

pub undefined_len-requires-in-19 : goal.undefined_len-requires-in-19
unfolding shape_of shapes
undefined_len-requires-in-19 c = (rw c.in-19.is at c.requires.0, undefined_fits c.args.dialect c.args.s.now (Undefined.Command c.args.f.x c.args.f.y) c.requires.1)

pub overflow_add-result-in-20-2 : goal.overflow_add-result-in-20-2
unfolding character
overflow_add-result-in-20-2 c =
    let e0 = ap length c.name.ensures in
    let k0 = accent_short c.from-in-20.result in
    let e1 = c.character_len.ensures in
    let k1 = character_short c.args.dialect c.args.f.x in
    omega arith

pub overflow_add-result-in-21-2 : goal.overflow_add-result-in-21-2
unfolding character
overflow_add-result-in-21-2 c =
    let e0 = ap length c.name-in-21.ensures in
    let k0 = accent_short c.from-in-21.result in
    let e1 = c.character_len-in-21.ensures in
    let k1 = character_short c.args.dialect c.args.f.x in
    omega arith

pub overflow_add-result-in-23-2 : goal.overflow_add-result-in-23-2
overflow_add-result-in-23-2 c =
    let e0 = ap length c.fixed_text-in-23.ensures in
    let e1 = ap length c.fixed_text-in-23-2.ensures in
    omega (arith, fixed_short c.args.dialect c.args.f.x, fixed_short c.args.dialect c.args.f.y)

pub overflow_add-result-in-25 : goal.overflow_add-result-in-25
overflow_add-result-in-25 c =
    let e0 = c.display_len.ensures in
    let k0 = display_short c.from-in-25.result in
    omega arith

pub overflow_add-result-in_default : goal.overflow_add-result-in_default
overflow_add-result-in_default c =
    let e0 = ap length c.align_text.ensures in
    let k0 = align_short c.args.dialect c.from-in_default.result in
    omega arith

pub returns-in-0 : goal.returns-in-0
unfolding shape_of shapes
returns-in-0 c =
    let h = rw c.in-0.is at c.requires.0 in
    tagged c.args.dialect c.args.slashed c.args.s.now c.args.f 0 c.in-0.is (sym (own_number c.args.dialect c.args.slashed c.args.s.now c.args.f.x c.args.f.y h.0 h.1))

pub returns-in-1 : goal.returns-in-1
unfolding shapes
returns-in-1 c =
    let e = rw c.from.ensures at c.letter_len.ensures in
    tagged c.args.dialect c.args.slashed c.args.s.now c.args.f 1 c.in-1.is (e ∙ sym (own_letter c.args.dialect c.args.slashed c.args.s.now c.args.f.x (variant_of c.args.f.attr)))

pub returns-in-2 : goal.returns-in-2
unfolding shapes
returns-in-2 c =
    tagged c.args.dialect c.args.slashed c.args.s.now c.args.f 2 c.in-2.is (c.operator_len.ensures ∙ sym (own_operator c.args.dialect c.args.slashed c.args.s.now c.args.f.x))

pub returns-in-3 : goal.returns-in-3
unfolding shapes
returns-in-3 c =
    tagged c.args.dialect c.args.slashed c.args.s.now c.args.f 3 c.in-3.is (rw c.fixed_text.ensures (sym (own_function c.args.dialect c.args.slashed c.args.s.now c.args.f.x)))

pub returns-in-4 : goal.returns-in-4
unfolding shapes letter_text
returns-in-4 c =
    tagged c.args.dialect c.args.slashed c.args.s.now c.args.f 4 c.in-4.is (rw c.letters_len.ensures (sym (own_name c.args.dialect c.args.slashed c.args.s.now c.args.f.x c.args.f.y)))

pub returns-in-5 : goal.returns-in-5
unfolding shapes
returns-in-5 c =
    tagged c.args.dialect c.args.slashed c.args.s.now c.args.f 5 c.in-5.is (rw c.width_of.ensures (sym (own_space c.args.dialect c.args.slashed c.args.s.now c.args.f.x)))

pub returns-in-6 : goal.returns-in-6
unfolding shapes
returns-in-6 c =
    tagged c.args.dialect c.args.slashed c.args.s.now c.args.f 6 c.in-6.is (rw c.operator_text_len.ensures (sym (own_stretched c.args.dialect c.args.slashed c.args.s.now c.args.f.x)))

pub returns-in-7 : goal.returns-in-7
unfolding shapes
returns-in-7 c =
    tagged c.args.dialect c.args.slashed c.args.s.now c.args.f 7 c.in-7.is (rw c.fixed_text-in-7.ensures (sym (own_stretched_text c.args.dialect c.args.slashed c.args.s.now c.args.f.x)))

pub returns-in-8 : goal.returns-in-8
unfolding shapes
returns-in-8 c =
    tagged c.args.dialect c.args.slashed c.args.s.now c.args.f 8 c.in-8.is (rw c.fixed_text-in-8.ensures (sym (own_other c.args.dialect c.args.slashed c.args.s.now c.args.f.x)))

pub returns-in-9 : goal.returns-in-9
unfolding shapes
returns-in-9 c =
    tagged c.args.dialect c.args.slashed c.args.s.now c.args.f 9 c.in-9.is (rw (c.fixed_text-in-9.ensures, c.fixed_text-in-9-2.ensures, c.fixed_text-in-9-3.ensures, c.sized_end.ensures) (sym (own_sized c.args.dialect c.args.slashed c.args.s.now c.args.f.x c.args.f.y)))

pub returns-in-10 : goal.returns-in-10
unfolding shapes letter_text
returns-in-10 c =
    tagged c.args.dialect c.args.slashed c.args.s.now c.args.f 10 c.in-10.is (rw c.letters_len-in-10.ensures (sym (own_text_lem c.args.dialect c.args.slashed c.args.s.now c.args.f.x c.args.f.y)))

pub returns-in-11 : goal.returns-in-11
unfolding shapes
returns-in-11 c =
    tagged c.args.dialect c.args.slashed c.args.s.now c.args.f 11 c.in-11.is (sym (own_ampersand c.args.dialect c.args.slashed c.args.s.now))

pub returns-in-12 : goal.returns-in-12
unfolding shapes
returns-in-12 c =
    tagged c.args.dialect c.args.slashed c.args.s.now c.args.f 12 c.in-12.is (sym (own_new_line c.args.dialect c.args.slashed c.args.s.now))

pub returns-in-13 : goal.returns-in-13
unfolding shapes
returns-in-13 c =
    tagged c.args.dialect c.args.slashed c.args.s.now c.args.f 13 c.in-13.is (c.undefined_len.ensures ∙ sym (own_undefined c.args.dialect c.args.slashed c.args.s.now Undefined.EOF))

pub returns-in-14 : goal.returns-in-14
unfolding shapes
returns-in-14 c =
    tagged c.args.dialect c.args.slashed c.args.s.now c.args.f 14 c.in-14.is (c.undefined_len-in-14.ensures ∙ sym (own_undefined c.args.dialect c.args.slashed c.args.s.now Undefined.End))

pub returns-in-15 : goal.returns-in-15
unfolding shapes
returns-in-15 c =
    tagged c.args.dialect c.args.slashed c.args.s.now c.args.f 15 c.in-15.is (c.undefined_len-in-15.ensures ∙ sym (own_undefined c.args.dialect c.args.slashed c.args.s.now Undefined.Right))

pub returns-in-16 : goal.returns-in-16
unfolding shapes
returns-in-16 c =
    tagged c.args.dialect c.args.slashed c.args.s.now c.args.f 16 c.in-16.is (c.undefined_len-in-16.ensures ∙ sym (own_undefined c.args.dialect c.args.slashed c.args.s.now Undefined.RBrace))

pub returns-in-17 : goal.returns-in-17
unfolding shapes
returns-in-17 c =
    tagged c.args.dialect c.args.slashed c.args.s.now c.args.f 17 c.in-17.is (c.undefined_len-in-17.ensures ∙ sym (own_undefined c.args.dialect c.args.slashed c.args.s.now Undefined.Underscore))

pub returns-in-18 : goal.returns-in-18
unfolding shapes
returns-in-18 c =
    tagged c.args.dialect c.args.slashed c.args.s.now c.args.f 18 c.in-18.is (c.undefined_len-in-18.ensures ∙ sym (own_undefined c.args.dialect c.args.slashed c.args.s.now Undefined.Circumflex))

pub returns-in-19 : goal.returns-in-19
unfolding shapes
returns-in-19 c =
    tagged c.args.dialect c.args.slashed c.args.s.now c.args.f 19 c.in-19.is (c.undefined_len-in-19.ensures ∙ sym (own_undefined c.args.dialect c.args.slashed c.args.s.now (Undefined.Command c.args.f.x c.args.f.y)))

pub returns-in-20 : goal.returns-in-20
unfolding shapes character
returns-in-20 c =
    tagged c.args.dialect c.args.slashed c.args.s.now c.args.f 20 c.in-20.is (rw (c.name.ensures, c.from-in-20.ensures, c.character_len.ensures) (sym (own_over c.args.dialect c.args.slashed c.args.s.now c.args.f.x (accent_of c.args.f.attr))))

pub returns-in-21 : goal.returns-in-21
unfolding shapes character
returns-in-21 c =
    tagged c.args.dialect c.args.slashed c.args.s.now c.args.f 21 c.in-21.is (rw (c.name-in-21.ensures, c.from-in-21.ensures, c.character_len-in-21.ensures) (sym (own_under c.args.dialect c.args.slashed c.args.s.now c.args.f.x (accent_of c.args.f.attr))))

pub returns-in-22 : goal.returns-in-22
unfolding shapes text_opens own_text front_one back_one front_two back_two front_three back_three
returns-in-22 c = tagged c.args.dialect c.args.slashed c.args.s.now c.args.f 22 c.in-22.is (refl)

pub returns-in-23 : goal.returns-in-23
unfolding shapes
returns-in-23 c =
    tagged c.args.dialect c.args.slashed c.args.s.now c.args.f 23 c.in-23.is (rw (c.fixed_text-in-23.ensures, c.fixed_text-in-23-2.ensures) (sym (own_fenced c.args.dialect c.args.slashed c.args.s.now c.args.f.x c.args.f.y)))

pub returns-in-24 : goal.returns-in-24
unfolding shapes text_opens own_text front_one back_one front_two back_two front_three back_three
returns-in-24 c = tagged c.args.dialect c.args.slashed c.args.s.now c.args.f 24 c.in-24.is (refl)

pub returns-in-25 : goal.returns-in-25
unfolding shapes
returns-in-25 c =
    tagged c.args.dialect c.args.slashed c.args.s.now c.args.f 25 c.in-25.is (rw (c.display_len.ensures, c.from-in-25.ensures) (sym (own_style c.args.dialect c.args.slashed c.args.s.now (display_of c.args.f.attr))))

pub returns-in-26 : goal.returns-in-26
unfolding shapes text_opens own_text front_one back_one front_two back_two front_three back_three
returns-in-26 c = tagged c.args.dialect c.args.slashed c.args.s.now c.args.f 26 c.in-26.is (refl)

pub returns-in-27 : goal.returns-in-27
unfolding shapes text_opens own_text front_one back_one front_two back_two front_three back_three
returns-in-27 c = tagged c.args.dialect c.args.slashed c.args.s.now c.args.f 27 c.in-27.is (refl)

pub returns-in-28 : goal.returns-in-28
unfolding shapes text_opens own_text front_one back_one front_two back_two front_three back_three
returns-in-28 c = tagged c.args.dialect c.args.slashed c.args.s.now c.args.f 28 c.in-28.is (refl)

pub returns-in-29 : goal.returns-in-29
unfolding shapes text_opens own_text front_one back_one front_two back_two front_three back_three
returns-in-29 c = tagged c.args.dialect c.args.slashed c.args.s.now c.args.f 29 c.in-29.is (refl)

pub returns-in-30 : goal.returns-in-30
unfolding shapes text_opens own_text front_one back_one front_two back_two front_three back_three
returns-in-30 c = tagged c.args.dialect c.args.slashed c.args.s.now c.args.f 30 c.in-30.is (refl)

pub returns-in-31 : goal.returns-in-31
unfolding shapes text_opens own_text front_one back_one front_two back_two front_three back_three
returns-in-31 c = tagged c.args.dialect c.args.slashed c.args.s.now c.args.f 31 c.in-31.is (refl)

pub returns-in-32 : goal.returns-in-32
unfolding shapes
returns-in-32 c =
    tagged c.args.dialect c.args.slashed c.args.s.now c.args.f 32 c.in-32.is (rw (c.attribute.ensures, c.from-in-32.ensures) (sym (own_frac c.args.dialect c.args.slashed c.args.s.now (thickness_of c.args.f.attr))))

pub returns-in-33 : goal.returns-in-33
unfolding shapes text_opens own_text front_one back_one front_two back_two front_three back_three
returns-in-33 c = tagged c.args.dialect c.args.slashed c.args.s.now c.args.f 33 c.in-33.is (refl)

pub returns-in-34 : goal.returns-in-34
unfolding shapes text_opens own_text front_one back_one front_two back_two front_three back_three
returns-in-34 c = tagged c.args.dialect c.args.slashed c.args.s.now c.args.f 34 c.in-34.is (refl)

pub returns-in-35 : goal.returns-in-35
unfolding shapes text_opens own_text front_one back_one front_two back_two front_three back_three
returns-in-35 c = tagged c.args.dialect c.args.slashed c.args.s.now c.args.f 35 c.in-35.is (refl)

pub returns-in_default : goal.returns-in_default
returns-in_default c =
    tagged_last c.args.dialect c.args.slashed c.args.s.now c.args.f (past 36 c.args.f.tag c.in_default.in_default-own.rest) (rw (c.align_text.ensures, c.from-in_default.ensures) (sym (own_matrix c.args.dialect c.args.slashed c.args.s.now (align_of c.args.f.attr) c.args.f.x)))
