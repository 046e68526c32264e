-- Worked examples, which antt computes.
-- Assumes nothing.
use Rattle.std.specs.Prelude.{◌≡◌, refl, true, false, [], ◌∷◌, map}
use Rattle.text.specs.Text.{bytes}
use Rattle.error.specs.declared.Refusal.{Refusal}
use Rattle.latex2mathml.specs.Outcome.{accepted, refused}
use Rattle.latex2mathml.specs.Manner.{old}
use Rattle.latex2mathml.specs.Marked.{latex2mathml_opens}
use Rattle.breaks.specs.Examples.{breaks_opens}
use Rattle.page.specs.Page.{shown, left, shown_all, left_all, page, output_of, paragraphs_of, left_of}
use Rattle.page.specs.Run.{answer_number, answer_length, answer_paragraphs, answer_left}
use Rattle.page.specs.Marks.{marks}
use Rattle.page.specs.Words.{prose, formula, output, listed, in_order, paragraph_count, written, typed_count, with_byte, with_dollar, dollar_runs, lengths, paired, tidy, parts_of, parts, display_of}

-- whoever unfolds this unfolds all definitions of this crate and of those below it, as an example has to
unfoldable pub page_opens : Unit {0}
unfolding latex2mathml_opens breaks_opens shown left shown_all left_all page output_of paragraphs_of left_of answer_number answer_length answer_paragraphs answer_left marks output listed in_order paragraph_count written typed_count with_byte with_dollar dollar_runs lengths paired tidy parts_of parts display_of
page_opens = tt

-- runs of one or two dollars, taken in pairs of one length; three dollars, a run without a partner and one with a partner of another length
-- are not tidy
tidied : map (λ s. tidy (bytes s)) ("" ∷ "a" ∷ "$a$" ∷ "$$a$$ $b$" ∷ "$$$a$$$" ∷ "$a" ∷ "$a$$" ∷ "$a$$b$" ∷ [])
    ≡ true ∷ true ∷ true ∷ true ∷ false ∷ false ∷ false ∷ false ∷ []
unfolding page_opens
tidied = refl

-- the prose and the formulas of a tidy paragraph
in_parts : parts (bytes "a $b$, $$c$$") ≡ prose (bytes "a ") ∷ formula 1 (bytes "b") ∷ prose (bytes ", ") ∷ formula 2 (bytes "c") ∷ prose [] ∷ []
unfolding page_opens
in_parts = refl

-- document 01's page, which takes 89 bytes of output
slip : map (λ room. page old (bytes "a$$$\n\n$x$") 61440 65536 room) (89 ∷ 88 ∷ [])
    ≡ accepted (record {
      output = bytes "a$$$\n\n<math xmlns=\"http://www.w3.org/1998/Math/MathML\" display=\"inline\"><mi>x</mi></math>";
      paragraphs = 2;
      left = 1;
    })
    ∷ refused Refusal.OutputTooSmall
    ∷ []
unfolding page_opens
slip = refl

-- a paragraph with a NUL stays as typed, in its prose or in a formula, and the others come out as ever
nul_typed : map (λ s. page old (bytes s) 61440 65536 65536) ("\0" ∷ "a\0 $x$\n\n$x$\n\n$\0$" ∷ [])
    ≡ accepted (record { output = bytes "\0"; paragraphs = 1; left = 1 })
    ∷ accepted (record {
      output = bytes "a\0 $x$\n\n<math xmlns=\"http://www.w3.org/1998/Math/MathML\" display=\"inline\"><mi>x</mi></math>\n\n$\0$";
      paragraphs = 3;
      left = 2;
    })
    ∷ []
unfolding page_opens
nul_typed = refl

-- a formula does not reach over a break of CR LF: both paragraphs are left as typed
cut_formula : page old (bytes "$a\r\n\r\nb$") 61440 65536 8 ≡ accepted (record { output = bytes "$a\r\n\r\nb$"; paragraphs = 2; left = 2 })
unfolding page_opens
cut_formula = refl

-- the CR of a break takes no work buffer: with one byte lent, each of these paragraphs of one byte is replaced
one_byte_of_work : page old (bytes "a\r\n\nb") 61440 1 5 ≡ accepted (record { output = bytes "a\r\n\nb"; paragraphs = 2; left = 0 })
unfolding page_opens
one_byte_of_work = refl
