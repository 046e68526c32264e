-- The manner in which an operation works: the dialect in which it prints.
-- Assumes nothing.
use Rattle.std.specs.Prelude.{Bool, true, false}
use Rattle.text.specs.declared.Dialect.{Dialect}
use Rattle.latex2mathml.specs.declared.Manner.{Manner}

abbrev pub old : Manner
old = record { dialect = Dialect.Old }

abbrev pub strict : Manner
strict = record { dialect = Dialect.Strict }

unfoldable pub is_strict : Dialect → Bool
is_strict Dialect.Old = false
is_strict Dialect.Strict = true
