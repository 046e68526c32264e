-- The parser's state stays sound as it moves, and the letters that are passed end before the budget does.
-- Assumes nothing.
use mathlib.Core.Path.{◌≡◌, refl, sym}
use mathlib.Core.Bool.{true, false, false≢true}
use mathlib.Core.List.{List}
use mathlib.Core.Option.{Option, none, some}
use Prim.Native.Nat.{ℕ, zero, suc, ◌+◌, ◌-◌, ◌≤◌, ◌<◌, zero-le}
use native.Mathlib.Omega.{arith}
use native.Mathlib.Numerals.{sub-one}
use lib.ListN.{length}
use borrow.Author.Tests.{eqb-true}
use Rattle.text.proofs.Cases.{by_order, never}
use Rattle.std.specs.Prelude.{◌≢◌}
use Rattle.token.specs.declared.Token.{Token}
use Rattle.token.specs.declared.Token.TheVariants.{EOF, Begin, End, Ampersand, NewLine, Left, Right, Middle, Paren, LBrace, RBrace, Frac, Underscore, Circumflex, Binom, Overset, Underset, Overbrace, Underbrace, Sqrt, Integral, Lim, Space, Style, Big, Over, Under, Operator, BigOp, Letter, Number, Function, OperatorName, Slashed, Text, Command}
use Rattle.token.specs.declared.Mark.{Mark}
use Rattle.token.specs.Roles.{mark_number, mark_of, token_is, letter_of}
use Rattle.lexer.specs.declared.Lexeme.{Lexeme}
use Rattle.lexer.specs.Lex.{lexeme}
use Rattle.parser.specs.declared.Parser.{Parser}
use Rattle.parser.specs.declared.TextRead.{TextRead}
use Rattle.parser.specs.State.{next, new, past_letters, parse_text}
use Rattle.parser.specs.Sound.{least, Lies, Sound, idle}
use Rattle.parser.proofs.MarkLaws.{marks_same}
use Rattle.parser.proofs.LeastLaws.{following_lies}

-- ---- which tokens take a byte

-- only the end of the body may take none
least_none : (t : Token) → least t ≡ 0 → t ≡ EOF
unfolding least
least_none EOF e = refl
least_none Begin e = absurd (omega arith)
least_none End e = absurd (omega arith)
least_none Ampersand e = absurd (omega arith)
least_none NewLine e = absurd (omega arith)
least_none Left e = absurd (omega arith)
least_none Right e = absurd (omega arith)
least_none Middle e = absurd (omega arith)
least_none (Paren t) e = absurd (omega arith)
least_none LBrace e = absurd (omega arith)
least_none RBrace e = absurd (omega arith)
least_none Frac e = absurd (omega arith)
least_none Underscore e = absurd (omega arith)
least_none Circumflex e = absurd (omega arith)
least_none (Binom b) e = absurd (omega arith)
least_none Overset e = absurd (omega arith)
least_none Underset e = absurd (omega arith)
least_none (Overbrace c) e = absurd (omega arith)
least_none (Underbrace c) e = absurd (omega arith)
least_none Sqrt e = absurd (omega arith)
least_none (Integral c) e = absurd (omega arith)
least_none (Lim t) e = absurd (omega arith)
least_none (Space w) e = absurd (omega arith)
least_none (Style v) e = absurd (omega arith)
least_none (Big t) e = absurd (omega arith)
least_none (Over c a) e = absurd (omega arith)
least_none (Under c a) e = absurd (omega arith)
least_none (Operator c) e = absurd (omega arith)
least_none (BigOp c) e = absurd (omega arith)
least_none (Letter c v) e = absurd (omega arith)
least_none (Number a z) e = absurd (omega arith)
least_none (Function t) e = absurd (omega arith)
least_none OperatorName e = absurd (omega arith)
least_none Slashed e = absurd (omega arith)
least_none Text e = absurd (omega arith)
least_none (Command a z) e = absurd (omega arith)

takes_byte : (t : Token) → (t ≡ EOF → ⊥) → 1 ≤ least t
takes_byte t other = by_order 0 (least t) (λ h. h) (λ h. absurd (other (least_none t (omega arith))))

-- a token that is not the end takes a byte or more, ..
pub other_byte : (t : Token) → token_is t Mark.EOF ≡ false → 1 ≤ least t
unfolding token_is mark_number mark_of
other_byte t e = takes_byte t (λ q. absurd (false≢true (sym (rw q at e))))

-- .. and so does one that is a mark other than the end, and a letter
pub mark_byte : (t : Token) (m : Mark) → m ≢ Mark.EOF → token_is t m ≡ true → 1 ≤ least t
unfolding token_is mark_number mark_of
mark_byte t m some-mark e =
    takes_byte t (λ q. some-mark (sym (marks_same Mark.EOF m (eqb-true 0 (mark_number m) (rw (token_is, q) at e)))))

pub letter_byte : (t : Token) (c : ℕ) → letter_of t ≡ some c → 1 ≤ least t
unfolding letter_of
letter_byte t c e = takes_byte t (λ q. let z : ◌≡◌ {A = Option ℕ} none (some c) = rw q at e in never (cc))

-- ---- one token more

-- a token that lies from a place on lies in the body
behind : (s : List ℕ) (at : ℕ) (l : Lexeme) → Lies s at l → Lies s 0 l
behind s at l h = record { from = zero-le; wide = h.wide; inside = h.inside; places = h.places }

-- the state one token on is sound, ..
pub next_sound : (s : List ℕ) (p : Parser) → Sound s p → Sound s (next s p)
unfolding next
next_sound s p h = record {
  cur = behind s p.cur.end p.peek h.peek;
  peek = following_lies s p.peek.token p.peek.end h.peek.inside;
}

-- .. so the first one is, which has made nothing
pub new_sound : (s : List ℕ) → Sound s (new s)
unfolding new least
new_sound s =
    let nothing : Lexeme = lexeme EOF 0 0 in
    let lies : Lies s 0 nothing = record { from = zero-le; wide = zero-le; inside = zero-le; places = tt } in
    let begin : Parser = record { cur = nothing; peek = nothing; made = 0 } in
    next_sound s (next s begin) (next_sound s begin (record { cur = lies; peek = lies }))

pub new_made : (s : List ℕ) → (new s).made ≡ 0
unfolding new next
new_made s = refl

-- ---- the letters that are passed

pub by_letter : {P : Type 0} (o : Option ℕ) → (o ≡ none → P) → ((c : ℕ) → o ≡ some c → P) → P
by_letter none f g = f refl
by_letter (some c) f g = g c refl

-- no letter is passed where the current token is none
pub past_none : (k : ℕ) (s : List ℕ) (q : Parser) → letter_of q.cur.token ≡ none → past_letters k s q ≡ q
unfolding past_letters
past_none zero s q e = refl
past_none (suc k) s q e = rw (past_letters, e)

-- where the budget is enough, a letter is passed, and the budget is enough behind it
pub record Passes (k : ℕ) (s : List ℕ) (q : Parser) : Type 0 where
  pub is : past_letters k s q ≡ past_letters (k - 1) s (next s q)
  pub enough : length s ≤ (next s q).cur.start + (k - 1)
  pub less : q.cur.start < (next s q).cur.start

pub past_some : (k : ℕ) (s : List ℕ) (q : Parser) (c : ℕ) → Sound s q → length s ≤ q.cur.start + k → letter_of q.cur.token ≡ some c
    → Passes k s q
unfolding past_letters next
past_some zero s q c h enough e = let byte = letter_byte q.cur.token c e in absurd (omega arith)
past_some (suc k) s q c h enough e =
    let byte = letter_byte q.cur.token c e in
    record { is = rw (past_letters, e, sub-one); enough = omega arith; less = omega arith }

-- past letters the state is sound, and no record is made
record Past (s : List ℕ) (p q : Parser) : Type 0 where
  pub sound : Sound s q
  pub on : p.cur.start ≤ q.cur.start
  pub same : q.made ≡ p.made

past_kept : (k : ℕ) (s : List ℕ) (p : Parser) → Sound s p → Past s p (past_letters k s p)
unfolding past_letters next
past_kept zero s p h = record { sound = h; on = omega arith; same = refl }
past_kept (suc k) s p h =
    by_letter (letter_of p.cur.token)
    (λ e. rw (past_letters, e) (record { sound = h; on = omega arith; same = refl }))
    (λ c e.
    let z = past_kept k s (next s p) (next_sound s p h) in
    rw (past_letters, e) (record { sound = z.sound; on = omega arith; same = z.same }))

-- the token behind them is no letter, where the budget is enough
past_end : (k : ℕ) (s : List ℕ) (p : Parser) → Sound s p → length s ≤ p.cur.start + k → letter_of (past_letters k s p).cur.token ≡ none
unfolding past_letters
past_end zero s p h enough =
    by_letter (letter_of p.cur.token) (λ e. e) (λ c e. let byte = letter_byte p.cur.token c e in absurd (omega arith))
past_end (suc k) s p h enough =
    by_letter (letter_of p.cur.token)
    (λ e. rw (past_letters, e) e)
    (λ c e.
    let z = past_some (suc k) s p c h enough e in
    rw (past_letters, e) (past_end k s (next s p) (next_sound s p h) (omega arith)))

-- ---- a text that is read

-- the letters behind the current token lie in the body from a up to e, and no record is made
pub record ReadsText (s : List ℕ) (p : Parser) (r : TextRead) : Type 0 where
  pub sound : Sound s r.after
  pub on : p.cur.end ≤ r.a
  pub rises : r.a ≤ r.e
  pub ends : r.e ≡ r.after.cur.start
  pub inside : r.e ≤ length s
  pub same : r.after.made ≡ p.made

-- parse_text keeps all that
pub text_sound : (s : List ℕ) (p : Parser) → Sound s p → ReadsText s p (parse_text s p)
unfolding parse_text next
text_sound s p h =
    let z = past_kept (length s) s (next s p) (next_sound s p h) in
    record { sound = z.sound; on = h.peek.from; rises = z.on; ends = refl; inside = omega arith; same = z.same }

-- the token behind the letters is no letter
pub letters_end : (s : List ℕ) (p : Parser) → Sound s p → letter_of (parse_text s p).after.cur.token ≡ none
unfolding parse_text
letters_end s p h = past_end (length s) s (next s p) (next_sound s p h) (omega arith)

-- ---- what the end of the body costs

-- a record at most, ..
pub idle_le : (l : Lexeme) → idle l ≤ 1
unfolding idle
idle_le l = omega arith

-- .. and none where the token has a byte
pub idle_none : (l : Lexeme) → l.start < l.end → idle l ≡ 0
unfolding idle
idle_none l h = omega arith
