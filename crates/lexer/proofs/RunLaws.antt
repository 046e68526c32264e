-- A run of bytes, byte by byte.
-- Assumes nothing.
use mathlib.Core.Path.{◌≡◌}
use mathlib.Core.Bool.{Bool, true, false}
use mathlib.Core.List.{List}
use Prim.Native.Nat.{ℕ, suc, ◌+◌, ◌≤◌, ◌<◌}
use native.Mathlib.Numerals.{add-one}
use lib.ListN.{length, get_or, drop, drop_of_length-le}
use lib.Seq.{drop-cons}
use borrow.Author.Tests.{ne_eqb}
use Rattle.lexer.specs.Lex.{is_digit, run, read_number}

module _ (test : ℕ → Bool) (s : List ℕ) (i : ℕ) where
  pub run_more : i < length s → test (get_or s i 0) ≡ true → run test (drop i s) ≡ suc (run test (drop (i + 1) s))
  unfolding run
  run_more inside passed = rw (add-one, drop-cons s i 0 inside, run, passed)

  pub run_stop : i < length s → test (get_or s i 0) ≡ false → run test (drop i s) ≡ 0
  unfolding run
  run_stop inside failed = rw (drop-cons s i 0 inside, run, failed)

  pub run_end : length s ≤ i → run test (drop i s) ≡ 0
  unfolding run
  run_end h = rw (drop_of_length-le s h)

module _ (hasPeriod : Bool) (s : List ℕ) (i : ℕ) where
  pub number_digit : i < length s → is_digit (get_or s i 0) ≡ true
      → read_number hasPeriod (drop i s) ≡ suc (read_number hasPeriod (drop (i + 1) s))
  unfolding read_number
  number_digit inside digit = rw (add-one, drop-cons s i 0 inside, read_number, digit)

  pub number_other : i < length s → is_digit (get_or s i 0) ≡ false → (get_or s i 0 ≡ 46 → ⊥) → read_number hasPeriod (drop i s) ≡ 0
  unfolding read_number
  number_other inside digit other = rw (drop-cons s i 0 inside, read_number, digit, ne_eqb (get_or s i 0) 46 other)

  pub number_end : length s ≤ i → read_number hasPeriod (drop i s) ≡ 0
  unfolding read_number
  number_end h = rw (drop_of_length-le s h)

module _ (s : List ℕ) (i : ℕ) where
  pub number_period : i < length s → get_or s i 0 ≡ 46 → read_number false (drop i s) ≡ suc (read_number true (drop (i + 1) s))
  unfolding read_number
  number_period inside period = rw (add-one, drop-cons s i 0 inside, period)

  pub number_second : i < length s → get_or s i 0 ≡ 46 → read_number true (drop i s) ≡ 0
  unfolding read_number
  number_second inside period = rw (drop-cons s i 0 inside, period)
