-- The arms, the fixed texts and the Debug texts without a dollar.
-- Assumes nothing.
use Rattle.std.specs.Prelude.{◌≡◌, ℕ, true, eqb, ltb, List}
use mathlib.Core.Path.{refl}
use mathlib.Core.Bool.{false≢true, and-eq-true_iff}
use mathlib.Core.List as L
use Prim.Native.Char.{code}
use Prim.Native.String.{String, [], ◌∷◌}
use borrow.Author.Tests.{eqb-true}
use Rattle.text.specs.Text.{bytes, part}
use Rattle.text.specs.Plain.{no_dollar, plain}
use Rattle.text.specs.Examples.{text_opens}
use Rattle.text.proofs.Cases.{by_test, both}
use Rattle.text.proofs.Utf8Laws.{every}
use Rattle.text.proofs.PlainLaws.{plain_cons, plain_append, plain_part, plain_at, text_plain, plain_bytes, joined, listed_plain}
use Rattle.token.specs.declared.Undefined.{Undefined}
use Rattle.token.specs.Spell.{spells}
use Rattle.token.specs.Arms.{arms}
use Rattle.token.specs.Command.{own_arms}
use Rattle.token.specs.Texts.{texts, printed_widths, text_of, width_of}
use Rattle.token.specs.Debug.{digit, hexadecimal, control, escapes, escape_by, escape, or_nul, command_name, debug}
use Rattle.token.proofs.FitLaws.{Asks, passing, arm_passes}

-- what is asked of tokens and trees: that no character is a dollar
abbrev pub dollarless : Asks
dollarless = passing no_dollar

-- ---- commands: one test of all the arms

-- the bytes that spell a name have a dollar where the name has
pub spelled_plain : (s : List ℕ) (t : String) → spells s t ≡ true → text_plain t ≡ plain s
unfolding plain
spelled_plain L.[] [] e = refl
spelled_plain L.[] (c ∷ t) e = absurd (false≢true e)
spelled_plain (L.◌∷◌ n s) [] e = absurd (false≢true e)
spelled_plain (L.◌∷◌ n s) (c ∷ t) e =
    let h = both (eqb n (code c)) (spells s t) e in
    rw (eqb-true n (code c) h.0, spelled_plain s t h.1)

-- so an arm that plain bytes name has a plain token
pub all_arms : every (arm_passes text_plain no_dollar) own_arms ≡ true
unfolding arms own_arms
all_arms = refl

-- ---- fixed texts

pub text_plain_lem : (t : ℕ) → text_plain (text_of t) ≡ true
unfolding text_of texts
text_plain_lem t = listed_plain texts t refl

pub width_plain : (w : ℕ) → text_plain (width_of w) ≡ true
unfolding width_of printed_widths
width_plain w = listed_plain printed_widths w refl

-- ---- Debug texts

digit_plain : (n : ℕ) → no_dollar (digit n) ≡ true
unfolding digit
digit_plain n = plain_at (bytes "0123456789abcdef") n (plain_bytes _ refl)

hexadecimal_plain : (b : ℕ) → plain (hexadecimal b) ≡ true
unfolding plain hexadecimal
hexadecimal_plain b =
    by_test (ltb b 16)
    (λ e. rw (hexadecimal, e) (simp digit_plain))
    (λ e. rw (hexadecimal, e) (simp digit_plain))

-- the escape of a byte that is no dollar, where those that have a letter of their own are plain
escaped_plain : (es : List (ℕ × List ℕ)) (b : ℕ) → every (λ e. plain e.1) es ≡ true → no_dollar b ≡ true → plain (escape_by es b) ≡ true
unfolding plain escape_by
escaped_plain L.[] b all h =
    by_test (control b)
    (λ e. rw (escape_by, e) (simp (joined, hexadecimal_plain b)))
    (λ e. rw (escape_by, e, h))
escaped_plain (L.◌∷◌ e es) b all h =
    let k = (and-eq-true_iff (plain e.1) (every (λ x. plain x.1) es)).0 all in
    by_test (eqb b e.0)
    (λ q. rw (escape_by, q) k.0)
    (λ q. rw (escape_by, q) (escaped_plain es b k.1 h))

pub escape_plain : (l : List ℕ) → plain l ≡ true → plain (escape l) ≡ true
unfolding text_opens plain escape escapes
escape_plain L.[] h = refl
escape_plain (L.◌∷◌ b l) h =
    let k = plain_cons b l h in
    simp (plain_append, escaped_plain escapes b refl k.0, escape_plain l k.1)

nul_plain : (l : List ℕ) → plain l ≡ true → plain (or_nul l) ≡ true
unfolding plain or_nul
nul_plain L.[] h = refl
nul_plain (L.◌∷◌ b l) h = h

pub debug_plain : (s : List ℕ) (u : Undefined) → plain s ≡ true → plain (debug s u) ≡ true
unfolding debug command_name
debug_plain s Undefined.EOF h = plain_bytes _ refl
debug_plain s Undefined.End h = plain_bytes _ refl
debug_plain s Undefined.Right h = plain_bytes _ refl
debug_plain s Undefined.RBrace h = plain_bytes _ refl
debug_plain s Undefined.Underscore h = plain_bytes _ refl
debug_plain s Undefined.Circumflex h = plain_bytes _ refl
debug_plain s (Undefined.Command a e) h =
    simp (joined, escape_plain (or_nul (part a e s)) (nul_plain (part a e s) (plain_part a e s h)))
