-- Worked examples, which antt computes: where 14 and 15 stand among the refusals.
-- Assumes nothing.
use Rattle.std.specs.Prelude.{◌≡◌, refl, [], ◌∷◌, map, replicate}
use Rattle.text.specs.Text.{bytes}
use Rattle.attribute.specs.declared.DisplayStyle.{DisplayStyle}
use Rattle.latex2mathml.specs.Outcome.{number_of}
use Rattle.latex2mathml.specs.Manner.{old, strict}
use Rattle.latex2mathml.specs.Translate.{translate}
use Rattle.latex2mathml.specs.Replace.{replace}
use Rattle.latex2mathml.specs.Marked.{latex2mathml_opens}

-- with no records and no output lent: a body too long (1), NUL before and behind an ill-formed byte (2), NUL alone, inside and
-- behind a backslash, and before what parsing refuses (14), then what is refused by 3 without NUL
nul_bodies : map (λ s. number_of (translate old s DisplayStyle.Block 0 0))
    (replicate 4097 0 ∷ (0 ∷ 255 ∷ []) ∷ (255 ∷ 0 ∷ []) ∷ bytes "\0" ∷ bytes "x_\0b" ∷ bytes "\\\0" ∷ bytes "\\middle a\0" ∷ bytes "a" ∷ [])
    ≡ 1 ∷ 2 ∷ 2 ∷ 14 ∷ 14 ∷ 14 ∷ 14 ∷ 3 ∷ []
unfolding latex2mathml_opens
nul_bodies = refl

-- with nothing lent: NUL with an ill-formed byte (2), NUL alone, in prose, in a formula of either kind, with an odd dollar and with three
-- in a row (14), then those without NUL: an odd window (4), three dollars (5), prose (11)
nul_documents : map (λ d. number_of (replace old d 0 0 0).outcome)
    ((0 ∷ 255 ∷ []) ∷ bytes "\0" ∷ bytes "a\0b $x$" ∷ bytes "$\0$" ∷ bytes "$$\0$$" ∷ bytes "\0$$" ∷ bytes "$$$\0" ∷ bytes "$$" ∷ bytes "$$$" ∷ bytes "a" ∷ [])
    ≡ 2 ∷ 14 ∷ 14 ∷ 14 ∷ 14 ∷ 14 ∷ 14 ∷ 4 ∷ 5 ∷ 11 ∷ []
unfolding latex2mathml_opens
nul_documents = refl

-- in the strict dialect and in the old one: U+0001 alone, behind what parsing refuses (6), in a name that is dropped, U+FFFE, and U+007F, which
-- XML 1.0 allows; with no output lent 15 comes before 12, and with no records 3 before it
forbidden_bodies : map (λ m. map (λ s. number_of (translate m (bytes s) DisplayStyle.Block 61440 65536)) ("\u{1}" ∷ "{\u{1}" ∷ "\\text\u{1}" ∷ "\u{fffe}" ∷ "\u{7f}" ∷ [])) (strict ∷ old ∷ [])
    ≡ (15 ∷ 6 ∷ 15 ∷ 15 ∷ 0 ∷ []) ∷ (0 ∷ 6 ∷ 0 ∷ 0 ∷ 0 ∷ []) ∷ []
unfolding latex2mathml_opens
forbidden_bodies = refl

forbidden_before_room : map (λ m. map (λ store. number_of (translate m (bytes "\u{1}") DisplayStyle.Block store 0)) (61440 ∷ 0 ∷ [])) (strict ∷ old ∷ []) ≡ (15 ∷ 3 ∷ []) ∷ (12 ∷ 3 ∷ []) ∷ []
unfolding latex2mathml_opens
forbidden_before_room = refl

-- a body is looked at before the next one is parsed, and before 11 and 12 of its pass; prose may hold what a body may not
forbidden_documents : map (λ d. number_of (replace strict (bytes d) 61440 65536 0).outcome)
    ("$$\u{1}$$ $$\\middle a$$" ∷ "$$\\middle a$$ $$\u{1}$$" ∷ "$\u{1}$ $\\middle a$" ∷ "$\u{1}$" ∷ "\u{1}" ∷ [])
    ≡ 15 ∷ 9 ∷ 15 ∷ 15 ∷ 12 ∷ []
unfolding latex2mathml_opens
forbidden_documents = refl

forbidden_before_work : map (λ d. number_of (replace strict (bytes d) 61440 0 0).outcome) ("$$\u{1}$$" ∷ "$$a$$ $\u{1}$" ∷ []) ≡ 15 ∷ 11 ∷ []
unfolding latex2mathml_opens
forbidden_before_work = refl
