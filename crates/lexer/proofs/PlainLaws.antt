-- The letters of bytes without a dollar carry no dollar.
-- Assumes nothing.
use mathlib.Core.Path.{◌≡◌, refl, ◌∙◌}
use mathlib.Core.Bool.{true, and-eq-true_iff}
use mathlib.Core.List.{List, [], ◌∷◌}
use Prim.Native.Nat.{ℕ}
use lib.ListN.{take}
use Rattle.text.specs.Plain.{no_dollar, plain}
use Rattle.text.proofs.Utf8Laws.{every}
use Rattle.text.proofs.PlainLaws.{plain_append, plain_drop, plain_take, plain_encode, plain_point, text_plain}
use Rattle.token.proofs.PlainLaws.{spelled_plain, all_arms}
use Rattle.lexer.specs.Lex.{punctuation}
use Rattle.lexer.specs.Letters.{letters, encode_all}
use Rattle.lexer.proofs.FitLaws.{Passing, letters_fit}

pub plain_passing : Passing no_dollar (λ l. plain l ≡ true)
unfolding punctuation
plain_passing = record {
  behind = plain_drop;
  head = λ b l h. plain_point (b ∷ l) h;
  named = text_plain;
  spelled = λ n l h t e. spelled_plain (take n l) t e ∙ plain_take n l h;
  arms = all_arms;
  marks = refl;
}

encoded_plain : (cs : List ℕ) → every no_dollar cs ≡ true → plain (encode_all cs) ≡ true
unfolding plain encode_all
encoded_plain [] h = refl
encoded_plain (c ∷ cs) h =
    let k = (and-eq-true_iff (no_dollar c) (every no_dollar cs)).0 h in
    simp (plain_append, plain_encode c k.0, encoded_plain cs k.1)

-- the bytes of the letters at the head of plain bytes
pub letters_plain : (l : List ℕ) → plain l ≡ true → plain (encode_all (letters l)) ≡ true
letters_plain l h = encoded_plain (letters l) (letters_fit plain_passing l h)
