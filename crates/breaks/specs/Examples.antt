-- Worked examples, which antt computes.
-- Assumes nothing.
use Rattle.std.specs.Prelude.{◌≡◌, refl, [], ◌∷◌, map}
use Rattle.text.specs.Text.{bytes}
use Rattle.text.specs.Examples.{text_opens}
use Rattle.breaks.specs.Breaks.{line_feed, line_end, in_line_end, no_line_end, two_line_ends}
use Rattle.breaks.specs.Pieces.{last, piece, count_ends, cut, pieces, paragraphs}

-- whoever unfolds this unfolds all definitions of this crate
unfoldable pub breaks_opens : Unit {0}
unfolding text_opens line_feed line_end in_line_end no_line_end two_line_ends count_ends cut pieces paragraphs
breaks_opens = tt

-- one line end is no break, a break takes the whole run, and a paragraph may be empty
cuts : map (λ s. pieces (bytes s)) ("" ∷ "\n" ∷ "\n\n" ∷ "a\nb\n" ∷ "a\n\n\nb" ∷ [])
    ≡ last []
    ∷ last (bytes "\n")
    ∷ piece [] (bytes "\n\n") (last [])
    ∷ last (bytes "a\nb\n")
    ∷ piece (bytes "a") (bytes "\n\n\n") (last (bytes "b"))
    ∷ []
unfolding breaks_opens
cuts = refl

-- a line end is LF or CR LF: one CR LF is no break, two are, and a run of both kinds is one run
cuts_of_both : map (λ s. pieces (bytes s)) ("a\r\nb\r\n" ∷ "a\r\n\r\nb" ∷ "\n\r\n" ∷ "a\r\n\n\r\nb" ∷ [])
    ≡ last (bytes "a\r\nb\r\n")
    ∷ piece (bytes "a") (bytes "\r\n\r\n") (last (bytes "b"))
    ∷ piece [] (bytes "\n\r\n") (last [])
    ∷ piece (bytes "a") (bytes "\r\n\n\r\n") (last (bytes "b"))
    ∷ []
unfolding breaks_opens
cuts_of_both = refl

-- a CR directly before an LF belongs to the line end, also at the beginning of a run, and any other CR is text: it parts two line ends, ends a
-- paragraph and begins one
cuts_at_returns : map (λ s. pieces (bytes s)) ("a\r\n\nb" ∷ "\r\r\n\n" ∷ "\n\r\r\n" ∷ "\n\n\rb" ∷ "a\r\rb" ∷ "\r" ∷ [])
    ≡ piece (bytes "a") (bytes "\r\n\n") (last (bytes "b"))
    ∷ piece (bytes "\r") (bytes "\r\n\n") (last [])
    ∷ last (bytes "\n\r\r\n")
    ∷ piece [] (bytes "\n\n") (last (bytes "\rb"))
    ∷ last (bytes "a\r\rb")
    ∷ last (bytes "\r")
    ∷ []
unfolding breaks_opens
cuts_at_returns = refl
