-- `lexer::Cursor::token_at` meets its contract.
use mathlib.Core.Path.{◌≡◌, refl, sym, ◌∙◌, ap}
use Prim.Native.Nat.{ℕ, ◌+◌, ◌≤◌, ◌<◌}
use mathlib.Core.Bool.{true, false}
use lib.ListN.{drop}
use borrow.Author.Tests.{eqb-false}
use Rattle.text.proofs.Cases.{by_order}
use Rattle.text.proofs.Keys.{NoneOf}
use Rattle.text.proofs.Tabled.{tab}
use Rattle.text.proofs.Utf8Laws.{point_inside}
use Rattle.attribute.specs.declared.Variant.{Variant}
use Rattle.token.specs.Texts.{texts, text}
use Rattle.token.specs.declared.Token.{Token}
use Rattle.lexer.specs.Lex.{is_digit, punctuation, of_character, token_at}
use Rattle.lexer.proofs.ClassLaws.{Class, below, digits, between, upper, amid, lower, above}
use Rattle.lexer.proofs.TokenLaws.{token_character, token_number, token_command, token_colon, token_assigns, token_letter, token_operator, low_rest, high_rest, head_inside, marks}
use Rattle.lexer.proofs.AlphabeticLaws.{no_mark}
use native.Mathlib.Omega.{arith}
use Rattle.lexer.proofs.Cursor.token_at.Goals as goal
use Rattle.lexer.proofs.Cursor.token_at.Goals.{in-33-1, in_default+else-c-lt38+then-c-lt48, in_default+else-c-lt38+else-c-lt48+else-c-lt58+then-c-lt63, then-c-lt91, else-c-lt91+else-c-lt97+then-c-lt123, in_default-via-then-c-lt38, in_default-via-else-c-lt38+else-c-lt48+else-c-lt58+else-c-lt63+then-c-lt65, in_default-via-else-c-lt38+else-c-lt48+else-c-lt58+else-c-lt63+else-c-lt65+else-c-lt91+then-c-lt97, in_default-via-else-c-lt38+else-c-lt48+else-c-lt58+else-c-lt63+else-c-lt65+else-c-lt91+else-c-lt97+else-c-lt123}

pub overflow_add-end : goal.overflow_add-end
overflow_add-end c =
    omega (arith, ap (λ q. q.width) c.code_point-p.ensures, point_inside c.args.s.now c.args.self.at c.requires)

pub returns-then-assigns : goal.returns-then-assigns
unfolding text texts
returns-then-assigns c =
    c.new-then-assigns.ensures ∙ sym (token_assigns c.args.self.at (drop c.args.self.at c.args.s.now) (sym c.assigns.ensures ∙ c.if-assigns.true))

pub read_command-requires : goal.read_command-requires
read_command-requires c =
    let inside = head_inside c.args.s.now c.args.self.at (λ e. eqb-false 92 0 refl (sym c.in-92.is ∙ ap (λ q. q.code) c.code_point-p.ensures ∙ e)) in
    inside

pub returns-in-40 : goal.returns-in-40
unfolding punctuation of_character text texts
returns-in-40 c =
    c.new.ensures ∙ token_character c.args.self.at (drop c.args.self.at c.args.s.now) c.code_point-p.result c.code_point-p.ensures _ c.in-40.is refl refl refl

pub returns-in-41 : goal.returns-in-41
unfolding punctuation of_character text texts
returns-in-41 c =
    c.new-in-41.ensures ∙ token_character c.args.self.at (drop c.args.self.at c.args.s.now) c.code_point-p.result c.code_point-p.ensures _ c.in-41.is refl refl refl

pub returns-in-123 : goal.returns-in-123
unfolding punctuation of_character text texts
returns-in-123 c =
    c.new-in-123.ensures ∙ token_character c.args.self.at (drop c.args.self.at c.args.s.now) c.code_point-p.result c.code_point-p.ensures _ c.in-123.is refl refl refl

pub returns-in-125 : goal.returns-in-125
unfolding punctuation of_character text texts
returns-in-125 c =
    c.new-in-125.ensures ∙ token_character c.args.self.at (drop c.args.self.at c.args.s.now) c.code_point-p.result c.code_point-p.ensures _ c.in-125.is refl refl refl

pub returns-in-91 : goal.returns-in-91
unfolding punctuation of_character text texts
returns-in-91 c =
    c.new-in-91.ensures ∙ token_character c.args.self.at (drop c.args.self.at c.args.s.now) c.code_point-p.result c.code_point-p.ensures _ c.in-91.is refl refl refl

pub returns-in-93 : goal.returns-in-93
unfolding punctuation of_character text texts
returns-in-93 c =
    c.new-in-93.ensures ∙ token_character c.args.self.at (drop c.args.self.at c.args.s.now) c.code_point-p.result c.code_point-p.ensures _ c.in-93.is refl refl refl

pub returns-in-124 : goal.returns-in-124
unfolding punctuation of_character text texts
returns-in-124 c =
    c.new-in-124.ensures ∙ token_character c.args.self.at (drop c.args.self.at c.args.s.now) c.code_point-p.result c.code_point-p.ensures _ c.in-124.is refl refl refl

pub returns-in-95 : goal.returns-in-95
unfolding punctuation of_character text texts
returns-in-95 c =
    c.new-in-95.ensures ∙ token_character c.args.self.at (drop c.args.self.at c.args.s.now) c.code_point-p.result c.code_point-p.ensures _ c.in-95.is refl refl refl

pub returns-in-94 : goal.returns-in-94
unfolding punctuation of_character text texts
returns-in-94 c =
    c.new-in-94.ensures ∙ token_character c.args.self.at (drop c.args.self.at c.args.s.now) c.code_point-p.result c.code_point-p.ensures _ c.in-94.is refl refl refl

pub returns-in-38 : goal.returns-in-38
unfolding punctuation of_character text texts
returns-in-38 c =
    c.new-in-38.ensures ∙ token_character c.args.self.at (drop c.args.self.at c.args.s.now) c.code_point-p.result c.code_point-p.ensures _ c.in-38.is refl refl refl

pub returns-in-0 : goal.returns-in-0
unfolding punctuation of_character text texts
returns-in-0 c =
    c.new-in-0.ensures ∙ token_character c.args.self.at (drop c.args.self.at c.args.s.now) c.code_point-p.result c.code_point-p.ensures _ c.in-0.is refl refl refl

pub returns-else-assigns : goal.returns-else-assigns
returns-else-assigns c =
    c.new-in-58.ensures ∙ sym (token_colon c.args.self.at (drop c.args.self.at c.args.s.now) c.code_point-p.result c.code_point-p.ensures c.in-58.is (sym c.assigns.ensures ∙ c.if-assigns.false))

pub returns-in-92 : goal.returns-in-92
returns-in-92 c =
    c.read_command.ensures ∙ sym (token_command c.args.self.at (drop c.args.self.at c.args.s.now) c.code_point-p.result c.code_point-p.ensures c.in-92.is)

pub returns-in-48-to-57 : goal.returns-in-48-to-57
returns-in-48-to-57 c =
    let k = digits c.code_point-p.result.code (omega arith) (omega arith) in
    c.read_number.ensures ∙ sym (token_number c.args.self.at (drop c.args.self.at c.args.s.now) c.code_point-p.result c.code_point-p.ensures k.digit)

pub returns-in-33 : goal.returns-in-33
unfolding punctuation of_character
returns-in-33 c =
    let code = c.code_point-p.result.code in
    let at = c.args.self.at in
    let l = drop at c.args.s.now in
    let p = c.code_point-p.result in
    let here = c.code_point-p.ensures in
    let other : code ≡ 58 → ⊥ = λ e. omega arith in
    let back : code ≡ 92 → ⊥ = λ e. omega arith in
    let from : (low n : ℕ) → tab (λ i. of_character punctuation (low + i)) n ≡ tab (λ i. Token.Operator (low + i)) n → low ≤ code → code < low + n → is_digit code ≡ false → c.new-in-33.result ≡ token_at at l = λ low n same h k digit. c.new-in-33.ensures ∙ token_operator at l p here low n same h k other back digit in
    elim c.in-33-1.branch [
      | in-33-1 w ↦
          by_order code 39
          (λ h. from 33 1 refl (omega arith) (omega arith) (below code (omega arith)).digit)
          (λ h. from 39 1 refl (omega arith) (omega arith) (below code (omega arith)).digit)
      | in_default+else-c-lt38+then-c-lt48 w ↦
          by_order code 42
          (λ h. from 39 1 refl (omega arith) (omega arith) (below code (omega arith)).digit)
          (λ h. from 42 6 refl (omega arith) (omega arith) (below code (omega arith)).digit)
      | in_default+else-c-lt38+else-c-lt48+else-c-lt58+then-c-lt63 w ↦ from 59 4 refl (omega arith) (omega arith) (between code (omega arith) (omega arith)).digit
    ]

pub returns-in-65-to-90 : goal.returns-in-65-to-90
returns-in-65-to-90 c =
    let code = c.code_point-p.result.code in
    let k : Class code false true = elim c.in-65-to-90-1.branch [
      | then-c-lt91 w ↦ upper code (omega arith) (omega arith)
      | else-c-lt91+else-c-lt97+then-c-lt123 w ↦ lower code (omega arith) (omega arith)
    ] in
    c.new-in-65-to-90.ensures ∙ token_letter c.args.self.at (drop c.args.self.at c.args.s.now) c.code_point-p.result Variant.Italic true c.code_point-p.ensures (no_mark code k.alphabetic) k.digit k.alphabetic refl

pub returns-in_default : goal.returns-in_default
returns-in_default c =
    let code = c.code_point-p.result.code in
    let both : NoneOf marks code × Class code false false = elim c.in_default.branch [
      | in_default-via-then-c-lt38 w ↦ (low_rest code c.in_default-1.rest (omega arith), below code (omega arith))
      | in_default-via-else-c-lt38+else-c-lt48+else-c-lt58+else-c-lt63+then-c-lt65 w ↦ (high_rest code c.in_default-1.rest (omega arith), between code (omega arith) (omega arith))
      | in_default-via-else-c-lt38+else-c-lt48+else-c-lt58+else-c-lt63+else-c-lt65+else-c-lt91+then-c-lt97 w ↦ (high_rest code c.in_default-1.rest (omega arith), amid code (omega arith) (omega arith))
      | in_default-via-else-c-lt38+else-c-lt48+else-c-lt58+else-c-lt63+else-c-lt65+else-c-lt91+else-c-lt97+else-c-lt123 w ↦ (high_rest code c.in_default-1.rest (omega arith), above code (omega arith))
    ] in
    c.new-in_default.ensures ∙ token_letter c.args.self.at (drop c.args.self.at c.args.s.now) c.code_point-p.result Variant.Normal false c.code_point-p.ensures both.0 both.1.digit both.1.alphabetic refl
