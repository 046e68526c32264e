-- Worked examples, which antt computes.
-- Assumes nothing.
use Rattle.std.specs.Prelude.{◌≡◌, [], ◌∷◌, map, length}
use Rattle.std.specs.Prelude.{refl}
use Prim.Native.Char.{code}
use Rattle.text.specs.Text.{bytes}
use Rattle.text.specs.Xml.{xml_escape, xml_text, in_text}
use Rattle.text.specs.Examples.{text_opens}
use Rattle.text.specs.declared.Dialect.{Dialect}
use Rattle.token.specs.declared.Token.{Token}
use Rattle.token.specs.Texts.{texts, widths, printed_widths, text, text_of, text_in, width, width_of}
use Rattle.token.specs.Arms.{arms}
use Rattle.token.specs.Command.{own_arms, from_command, operator_in, as_old, acts_on_a_digit}
use Rattle.token.specs.Roles.{mark_number, paren_mark, operator_mark, mark_of, token_is, paren_of, letter_of, fence_of}
use Rattle.token.specs.Debug.{digit, hexadecimal, control, escapes, escape_by, escape, or_nul, command_name, debug}

-- whoever unfolds this unfolds all definitions of this crate, as an example has to
unfoldable pub token_opens : Unit {0}
unfolding texts widths printed_widths text text_of text_in width width_of arms own_arms from_command operator_in as_old acts_on_a_digit mark_number paren_mark operator_mark mark_of token_is paren_of letter_of fence_of digit hexadecimal control escapes escape_by escape or_nul command_name debug
token_opens = tt

many : length arms ≡ 474
unfolding token_opens
many = refl

-- every kind of byte, and a character of more bytes, which stands as itself
escaped : escape (bytes "a\"\\\0\t\n\r\u{1}\u{1f}\u{7f} 'é") ≡ bytes "a\\\"\\\\\\0\\t\\n\\r\\u{1}\\u{1f}\\u{7f} 'é"
unfolding text_opens token_opens
escaped = refl

-- .. and escaped twice in the strict dialect, which changes what XML reads as markup
strict_escaped : in_text Dialect.Strict (escape (escape (bytes "a<\"&\u{1}>"))) ≡ bytes "a&lt;\\\\\\\"&amp;\\\\u{1}&gt;"
unfolding text_opens xml_escape xml_text in_text token_opens
strict_escaped = refl

-- `\ni` is a character of its own, which the old dialect prints as that of `\notin`
contains : (other : Token) → map (λ n. from_command (bytes n) other) ("ni" ∷ "notin" ∷ []) ≡ Token.Operator (code "∋") ∷ Token.Operator (code "∉") ∷ []
unfolding text_opens token_opens
contains other = refl

contains_in : map (λ d. operator_in d (code "∋")) (Dialect.Old ∷ Dialect.Strict ∷ []) ≡ code "∉" ∷ code "∋" ∷ []
unfolding token_opens
contains_in = refl

-- only the names of angle brackets have another text in the strict dialect
angles : map (λ t. text_of (text_in Dialect.Strict (text t))) ("&lang;" ∷ "&rang;" ∷ "(" ∷ "∥" ∷ []) ≡ "⟨" ∷ "⟩" ∷ "(" ∷ "∥" ∷ []
unfolding token_opens
angles = refl
