-- What the comparison of an answer with the stored one says.
-- Assumes nothing.
use Rattle.std.specs.Prelude.{◌≡◌, List, ℕ, take, ⊤, Result, Ok, Err}
use Rattle.vectors.specs.declared.case.Case.{Case}
use Rattle.vectors.specs.declared.case.Numbers.{Numbers}

-- the numbers of an answer are those of the case
pub record Agrees (case : Case) (got : Numbers) (n : ℕ) : Type 0 where
  pub number : got.number ≡ case.expected.number
  pub size : got.length ≡ n
  pub paragraphs : got.paragraphs ≡ case.expected.paragraphs
  pub left : got.left ≡ case.expected.left

-- only an answer with the case's numbers and the wanted bytes is the same; of another the number is told
abbrev pub Judged : Case → Numbers → ℕ → List ℕ → List ℕ → ℕ → Result ⊤ ℕ → Type 0
Judged case got n out want end (Ok _) = Agrees case got n × (take end out ≡ take end want)
Judged case got n out want end (Err m) = m ≡ got.number
