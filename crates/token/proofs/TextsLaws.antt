-- Past the last number a list of texts gives the empty text, and the strict dialect keeps each but two.
-- Assumes nothing.
use Rattle.std.specs.Prelude.{◌≡◌, ℕ, ◌≤◌}
use borrow.Author.Tests.{ne_eqb}
use lib.ListN.{get_or-eq_default}
use Rattle.token.specs.Texts.{texts, text, text_of, text_in, printed_widths, width_of}
use Rattle.text.specs.declared.Dialect.{Dialect}

pub text_past : (n : ℕ) → 56 ≤ n → text_of n ≡ ""
unfolding text_of texts
text_past n h = get_or-eq_default texts "" h

pub width_past : (n : ℕ) → 6 ≤ n → width_of n ≡ ""
unfolding width_of printed_widths
width_past n h = get_or-eq_default printed_widths "" h

pub strict_same : (t : ℕ) → (t ≡ 7 → ⊥) → (t ≡ 8 → ⊥) → t ≡ text_in Dialect.Strict t
unfolding text_in text texts
strict_same t l r = rw (text_in, ne_eqb t 7 l, ne_eqb t 8 r)
