-- Digits and ASCII letters as ranges.
-- Assumes nothing.
use mathlib.Core.Path.{◌≡◌}
use mathlib.Core.Bool.{Bool, true, false}
use Prim.Native.Nat.{ℕ, ◌≤◌, ◌<◌}
use native.Mathlib.Omega.{arith}
use borrow.Author.Tests.{le-leb, lt-leb}
use Rattle.lexer.specs.Lex.{is_digit, is_alphabetic}

-- what the two tests say of a character
pub record Class (c : ℕ) (d a : Bool) : Type 0 where
  pub digit : is_digit c ≡ d
  pub alphabetic : is_alphabetic c ≡ a

pub below : (c : ℕ) → c < 48 → Class c false false
below c h = record {
  digit = simp (lt-leb 48 c h);
  alphabetic = simp (lt-leb 97 c (omega arith), lt-leb 65 c (omega arith));
}

pub digits : (c : ℕ) → 48 ≤ c → c < 58 → Class c true false
digits c low high = record {
  digit = simp (le-leb 48 c low, le-leb c 57 (omega arith));
  alphabetic = simp (lt-leb 97 c (omega arith), lt-leb 65 c (omega arith));
}

pub between : (c : ℕ) → 58 ≤ c → c < 65 → Class c false false
between c low high = record {
  digit = simp (le-leb 48 c (omega arith), lt-leb c 57 (omega arith));
  alphabetic = simp (lt-leb 97 c (omega arith), lt-leb 65 c high);
}

pub upper : (c : ℕ) → 65 ≤ c → c < 91 → Class c false true
upper c low high = record {
  digit = simp (le-leb 48 c (omega arith), lt-leb c 57 (omega arith));
  alphabetic = simp (lt-leb 97 c (omega arith), le-leb 65 c low, le-leb c 90 (omega arith));
}

pub amid : (c : ℕ) → 91 ≤ c → c < 97 → Class c false false
amid c low high = record {
  digit = simp (le-leb 48 c (omega arith), lt-leb c 57 (omega arith));
  alphabetic = simp (lt-leb 97 c high, le-leb 65 c (omega arith), lt-leb c 90 (omega arith));
}

pub lower : (c : ℕ) → 97 ≤ c → c < 123 → Class c false true
lower c low high = record {
  digit = simp (le-leb 48 c (omega arith), lt-leb c 57 (omega arith));
  alphabetic = simp (le-leb 97 c low, le-leb c 122 (omega arith));
}

pub above : (c : ℕ) → 123 ≤ c → Class c false false
above c low = record {
  digit = simp (le-leb 48 c (omega arith), lt-leb c 57 (omega arith));
  alphabetic =
      simp (le-leb 97 c (omega arith), lt-leb c 122 (omega arith), le-leb 65 c (omega arith), lt-leb c 90 (omega arith));
}
