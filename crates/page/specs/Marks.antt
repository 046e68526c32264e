-- What is known of a page before it is written: how it comes out, and which of its paragraphs are left as typed.
-- Assumes nothing.
use Rattle.std.specs.Prelude.{◌≡◌, Bool, true, false, List, [], ◌∷◌, ◌++◌, ℕ, ◌+◌, ◌*◌, ◌≤◌, length, take}
use Rattle.latex2mathml.specs.declared.Manner.{Manner}
use Rattle.latex2mathml.specs.Outcome.{accepted, refused}
use Rattle.latex2mathml.specs.Replace.{replacement}
use Rattle.latex2mathml.specs.Laid.{growth}
use Rattle.page.specs.declared.Totals.{Totals}
use Rattle.breaks.specs.Pieces.{Pieces, last, piece, pieces, paragraphs}
use Rattle.page.specs.Page.{shown, shown_all, left_all}

-- whether a paragraph is left as typed
unfoldable pub is_left : Manner → ℕ → ℕ → List ℕ → Bool
is_left manner store work paragraph = elim (replacement manner paragraph store work) [ accepted output ↦ false | refused r ↦ true ]

-- a mark for each paragraph
unfoldable pub marks : Manner → ℕ → ℕ → Pieces → List Bool
marks manner store work (last paragraph) = is_left manner store work paragraph ∷ []
marks manner store work (piece paragraph break rest) = is_left manner store work paragraph ∷ marks manner store work rest

-- the marks of a document stand at the front of m
abbrev pub Marked : Manner → List ℕ → ℕ → ℕ → List Bool → Type 0
Marked manner document store work m = take (paragraphs (pieces document)) m ≡ marks manner store work (pieces document)

-- the paragraph p is laid at the place `at` of the draft d as it comes out, which gives d', and r, which is not too large to be counted, is the
-- place behind it; its mark is m
pub record Drafted (manner : Manner) (p : List ℕ) (store work : ℕ) (d d' : List ℕ) (at : ℕ) (m : Bool) (r : ℕ) : Type 0 where
  pub place : r ≡ at + length (shown manner store work p)
  pub most : r ≤ at + length p * (growth * growth)
  pub front : r ≤ length d → take r d' ≡ take at d ++ shown manner store work p
  pub mark : m ≡ is_left manner store work p

-- r are the totals of a document, whose page is the front of the draft d if it fits there, and m has its marks
pub record Totalled (manner : Manner) (document : List ℕ) (store work : ℕ) (d : List ℕ) (m : List Bool) (r : Totals) : Type 0 where
  pub long : r.length ≡ length (shown_all manner store work (pieces document))
  pub front : r.length ≤ length d → take r.length d ≡ shown_all manner store work (pieces document)
  pub counted : r.paragraphs ≡ paragraphs (pieces document)
  pub kept : r.left ≡ left_all manner store work (pieces document)
  pub marked : Marked manner document store work m
