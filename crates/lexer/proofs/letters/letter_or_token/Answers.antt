-- `lexer::letters::letter_or_token` meets its contract.
use mathlib.Core.Path.{sym, ◌∙◌, ap}
use native.Mathlib.Nat.{le_refl}
use borrow.Author.Tests.{ltb-true}
use Rattle.std.specs.Option.{option_copied, is_some, unwrap_or}
use Rattle.lexer.specs.Lex.{is_alphabetic}
use Rattle.lexer.proofs.AlphabeticLaws.{letter_at}
use native.Mathlib.Omega.{arith}
use Rattle.lexer.proofs.letters.letter_or_token.Goals as goal

pub returns-in-Some : goal.returns-in-Some
returns-in-Some c =
    let s = c.args.s.now in
    let at = c.args.at in
    let inside = ltb-true at _ (sym c.get.ensures.lookup.0 ∙ ap is_some c.in-Some.is) in
    let stands = sym (c.get.ensures.lookup.4 (le_refl at) 0) ∙ ap (λ o. unwrap_or (option_copied o) 0) c.in-Some.is in
    rw (c.new.ensures, c.from.ensures, ← stands) (sym (letter_at s at inside (ap is_alphabetic stands ∙ sym c.is_alphabetic.ensures ∙ c.if-is_alphabetic.true)), omega arith)
