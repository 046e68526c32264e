-- What an operation gives, and the limits of document 01.
-- Assumes nothing.
use Rattle.std.specs.Prelude.{Bool, true, false, List, [], ℕ}
use Rattle.error.specs.declared.Refusal.{Refusal}
use Rattle.error.specs.Numbers.{number}

-- the bytes of a body, the bytes of a document, the calls of parse_node and parse_single_node open together, the bytes of a record
unfoldable pub body_limit : ℕ
body_limit = 4096

unfoldable pub document_limit : ℕ
document_limit = 32768

unfoldable pub depth_limit : ℕ
depth_limit = 256

unfoldable pub record_size : ℕ
record_size = 24

pub data Outcome (A : Type 0) : Type 0 where
  accepted : A → Outcome A
  refused : Refusal → Outcome A

-- the first refusal met is the answer
infixl 10 ◌>>=◌
unfoldable pub ◌>>=◌ : {A B : Type 0} → Outcome A → (A → Outcome B) → Outcome B
accepted a >>= k = k a
refused r >>= k = refused r

-- refused if the test holds
unfoldable pub refuse : Bool → Refusal → Outcome (Unit {0})
refuse true r = refused r
refuse false r = accepted tt

-- the number that is returned
unfoldable pub number_of : {A : Type 0} → Outcome A → ℕ
number_of (accepted a) = 0
number_of (refused r) = number r

-- the bytes with which a buffer begins afterwards; what lies behind them is unchanged
unfoldable pub bytes_of : Outcome (List ℕ) → List ℕ
bytes_of (accepted l) = l
bytes_of (refused r) = []
