-- `ast::sum::fate_by` meets its contract.
use mathlib.Core.Path.{◌≡◌, refl, sym, ap, ◌∙◌}
use mathlib.Core.Bool.{true, false}
use Rattle.ast.specs.Shape.{shapes, shape_of, fields_of, role_of}
use Rattle.ast.specs.Held.{is_row}
use Rattle.ast.proofs.CellLaws.{stretched_fate, other_fate, matrix_fate}
use native.Mathlib.Omega.{arith}
use Rattle.ast.proofs.sum.fate_by.Goals as goal

pub returns-in-6 : goal.returns-in-6
returns-in-6 c =
    let b = c.args.behind in
    sym (stretched_fate b.tag b.attr b.x b.y _ (omega arith) (omega arith))

pub returns-in-24 : goal.returns-in-24
unfolding shape_of shapes
returns-in-24 c = rw c.in-24.is

pub returns-in-36-to-255 : goal.returns-in-36-to-255
returns-in-36-to-255 c =
    let b = c.args.behind in
    let row : true ≡ is_row (role_of (shape_of (fields_of c.args.r))) = sym c.if-is_row.true ∙ c.is_row.ensures ∙ ap (λ k. is_row k) c.from.ensures in
    rw (matrix_fate b.tag b.attr b.x b.y (is_row (role_of (shape_of (fields_of c.args.r)))) (omega arith), ← row) refl

pub returns-in_default : goal.returns-in_default
returns-in_default c =
    let b = c.args.behind in
    sym (other_fate b.tag b.attr b.x b.y _ (omega arith) (((tt, λ e. omega arith), λ e. omega arith), λ e. omega arith))

pub returns-in_default-2 : goal.returns-in_default-2
returns-in_default-2 c =
    let b = c.args.behind in
    sym (other_fate b.tag b.attr b.x b.y _ (omega arith) (((tt, λ e. omega arith), λ e. omega arith), λ e. omega arith))

pub returns-in_default-3 : goal.returns-in_default-3
returns-in_default-3 c =
    let b = c.args.behind in
    let row : false ≡ is_row (role_of (shape_of (fields_of c.args.r))) = sym c.if-is_row.false ∙ c.is_row.ensures ∙ ap (λ k. is_row k) c.from.ensures in
    rw (matrix_fate b.tag b.attr b.x b.y (is_row (role_of (shape_of (fields_of c.args.r)))) (omega arith), ← row) refl
