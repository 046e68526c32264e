-- The environments that `\begin` knows.
-- Assumes nothing.
use Rattle.std.specs.Prelude.{Bool, true, false, List, [], ◌∷◌, ℕ, eqb, Option, Some, None}
use Rattle.attribute.specs.declared.ColumnAlign.{ColumnAlign}
use Rattle.token.specs.Texts.{text}
use Rattle.token.specs.Spell.{Arm, ◌=>◌, first}
use Rattle.lexer.specs.Letters.{letters}
use Rattle.parser.specs.declared.Environment.{Environment}
use Rattle.parser.specs.declared.Environment.TheVariants.{Bare, Between}

-- two lists of numbers are the same
abbrev pub same : List ℕ → List ℕ → Bool
same [] [] = true
same [] (c ∷ t) = false
same (n ∷ s) [] = false
same (n ∷ s) (c ∷ t) = elim (eqb n c) [ true ↦ same s t | false ↦ false ]

unfoldable pub environments : List (Arm (Option Environment))
environments =
    "align" => Some (Bare ColumnAlign.Left) ∷
    "matrix" => Some (Bare ColumnAlign.Center) ∷
    "pmatrix" => Some (Between (text "(") (text ")")) ∷
    "bmatrix" => Some (Between (text "[") (text "]")) ∷
    "vmatrix" => Some (Between (text "|") (text "|")) ∷
    []

-- the environment whose name the letters at the head of a text spell, if there is one
unfoldable pub environment : List ℕ → Option Environment
environment t = first (letters t) None environments
