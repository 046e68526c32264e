-- `lexer::Cursor::skip_name` meets its contract.
use mathlib.Core.Path.{◌≡◌, sym, ◌∙◌, ap}
use native.Mathlib.Nat.{le_refl}
use Prim.Native.Nat.{◌+◌}
use borrow.Author.Tests.{ltb-true, ltb-false}
use lib.ListN.{drop}
use Rattle.std.specs.Option.{option_copied, is_some, unwrap_or}
use Rattle.text.specs.Utf8.{code_point}
use Rattle.lexer.specs.Lex.{is_alphabetic, name_length}
use Rattle.text.proofs.Utf8Laws.{point_inside}
use Rattle.lexer.proofs.NameLaws.{name_letters, name_other, name_end}
use native.Mathlib.Omega.{arith}
use Rattle.lexer.proofs.Cursor.skip_name.Goals as goal
use Rattle.lexer.proofs.Cursor.skip_name.Goals.{in_default-via-in-Some+else-is_alphabetic, in_default-via-in_default}

pub returns-in-Some : goal.returns-in-Some
returns-in-Some c =
    let s = c.args.s.now in
    let at = c.args.self.at in
    let inside = ltb-true at _ (sym c.get.ensures.lookup.0 ∙ ap is_some c.in-Some.is) in
    let stands = sym (c.get.ensures.lookup.4 (le_refl at) 0) ∙ ap (λ o. unwrap_or (option_copied o) 0) c.in-Some.is in
    (rw (name_letters s at inside (ap is_alphabetic stands ∙ sym c.is_alphabetic.ensures ∙ c.if-is_alphabetic.true)) c.skip_alphabetic.ensures.0, c.skip_alphabetic.ensures.1)

pub overflow_add-result : goal.overflow_add-result
overflow_add-result c =
    omega (arith, ap (λ q. q.width) c.code_point.ensures, point_inside c.args.s.now c.args.self.at c.requires)

pub returns-in_default : goal.returns-in_default
returns-in_default c =
    let s = c.args.s.now in
    let at = c.args.self.at in
    let w = ap (λ q. q.width) c.code_point.ensures in
    let length_of_name : name_length (drop at s) ≡ (code_point (drop at s)).width = elim c.in_default.branch [
      | in_default-via-in-Some+else-is_alphabetic w ↦
          let inside = ltb-true at _ (sym c.get.ensures.lookup.0 ∙ ap is_some w.in-Some.is) in
          let stands = sym (c.get.ensures.lookup.4 (le_refl at) 0) ∙ ap (λ o. unwrap_or (option_copied o) 0) w.in-Some.is in
          name_other s at inside (ap is_alphabetic stands ∙ sym w.is_alphabetic.ensures ∙ w.if-is_alphabetic.false)
      | in_default-via-in_default w ↦ name_end s at (ltb-false at _ (sym c.get.ensures.lookup.0 ∙ ap is_some w.in_default.is))
    ] in
    (ap (λ n. at + n) (w ∙ sym length_of_name), omega (arith, w, point_inside s at c.requires))
