-- The number of each refusal, and what each answer of an operation returns.
-- Assumes nothing.
use Rattle.std.specs.Prelude.{ℕ}
use Rattle.error.specs.declared.Refusal.{Refusal}
use Rattle.error.specs.declared.Refusal.TheVariants.{
  TooLong,
  IllFormed,
  StoreTooSmall,
  InvalidNumberOfDollarSigns,
  ThreeDollarSigns,
  UnexpectedToken,
  MissingParensethis,
  UnknownEnvironment,
  MiddleOperand,
  TooDeep,
  WorkTooSmall,
  OutputTooSmall,
  RepeatedMark,
  NulByte,
  ForbiddenCharacter,
}

unfoldable pub number : Refusal → ℕ
number TooLong = 1
number IllFormed = 2
number StoreTooSmall = 3
number InvalidNumberOfDollarSigns = 4
number ThreeDollarSigns = 5
number UnexpectedToken = 6
number MissingParensethis = 7
number UnknownEnvironment = 8
number MiddleOperand = 9
number TooDeep = 10
number WorkTooSmall = 11
number OutputTooSmall = 12
number RepeatedMark = 13
number NulByte = 14
number ForbiddenCharacter = 15
