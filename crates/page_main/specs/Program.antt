-- What the page program writes for the bytes that it reads.
-- Assumes nothing.
use Rattle.std.specs.Prelude.{◌≡◌, true, false, List, [], ◌∷◌, ◌++◌, ℕ, ◌+◌, ◌/◌, ◌%◌, ◌≤◌, ltb, length, take}
use Prim.Native.Char.{code}
use Rattle.text.specs.Text.{bytes}
use Rattle.error.specs.declared.Refusal.{Refusal}
use Rattle.error.specs.Numbers.{number}
use Rattle.latex2mathml.specs.Manner.{old}
use Rattle.latex2mathml.specs.Outcome.{accepted, refused, document_limit}
use Rattle.page.specs.Page.{page}

-- how many bytes of standard input are read at most: one more than a document may have, so that a longer one is seen
unfoldable pub read_limit : ℕ
read_limit = document_limit + 1

-- a number below a hundred in decimal
unfoldable pub decimal : ℕ → List ℕ
decimal n =
    elim (ltb n 10) [
      | true ↦ (code "0" + n) ∷ []
      | false ↦ (code "0" + n / 10) ∷ (code "0" + n % 10) ∷ []
    ]

-- the line that tells a refusal
unfoldable pub refusal : Refusal → List ℕ
refusal r = bytes "refused " ++ decimal (number r) ++ bytes "\n"

-- the page, with the sizes that the program lends, or the line of its refusal
unfoldable pub program : List ℕ → List ℕ
program document = elim (page old document 61440 65536 65536) [ accepted p ↦ p.output | refused r ↦ refusal r ]

-- the first n bytes of the output o are what the program writes for the document
pub record Answers (document : List ℕ) (n : ℕ) (o : List ℕ) : Type 0 where
  pub inside : n ≤ length o
  pub size : n ≡ length (take n o)
  pub written : take n o ≡ program document
