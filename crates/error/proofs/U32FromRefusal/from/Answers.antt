-- The conversion of a refusal to its number meets its contract: the declaration counts as the definition does.
use mathlib.Core.Path.{◌≡◌, refl}
use Prim.Native.Nat.{◌+◌}
use denote.Enum.Declared.{tag_of}
use Rattle.error.specs.contracts.Refusal.{the_type}
use Rattle.error.specs.declared.Refusal.{Refusal}
use Rattle.error.specs.Numbers.{number}
use Rattle.error.proofs.U32FromRefusal.from.Goals as goal

counted : (r : Refusal) → tag_of the_type r + 1 ≡ number r
unfolding number
counted Refusal.TooLong = refl
counted Refusal.IllFormed = refl
counted Refusal.StoreTooSmall = refl
counted Refusal.InvalidNumberOfDollarSigns = refl
counted Refusal.ThreeDollarSigns = refl
counted Refusal.UnexpectedToken = refl
counted Refusal.MissingParensethis = refl
counted Refusal.UnknownEnvironment = refl
counted Refusal.MiddleOperand = refl
counted Refusal.TooDeep = refl
counted Refusal.WorkTooSmall = refl
counted Refusal.OutputTooSmall = refl
counted Refusal.RepeatedMark = refl
counted Refusal.NulByte = refl
counted Refusal.ForbiddenCharacter = refl

pub returns : goal.returns
returns c = counted c.args.r
