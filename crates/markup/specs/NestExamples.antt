-- What the reader takes as a document and what it does not, which antt computes.
-- Assumes nothing.
use Rattle.std.specs.Prelude.{◌≡◌, refl, Bool, true, false, List, [], ◌∷◌, ◌++◌, map}
use Prim.Native.String.{String}
use Rattle.markup.specs.Nest.{characters, same, Reader, begin, within, done, wrong, read_all, nest_opens}

abbrev is_math : Reader → Bool
is_math begin = false
is_math (within m outer) = false
is_math (done n) = same n (characters "math")
is_math wrong = false

abbrev is_document : String → Bool
is_document t = is_math (read_all begin (characters t))

unfoldable taken : List String
taken =
    "<math xmlns=\"http://www.w3.org/1998/Math/MathML\" display=\"inline\"><mrow><mi>a</mi><mo>&lt;&#x0338;</mo></mrow><mspace width=\"1em\"/></math>" ∷
    "<math/>" ∷
    []

-- an end tag with another name, elements that cross, one that is not closed, an attribute without quotes, one that stands twice, a stray `<`, `>`
-- and `&`, an entity that is not declared, text before the root and behind it, two roots, no root, another root, and a character that XML forbids
unfoldable refused : List String
refused =
    "<math><mo maxsize=\"1.2em\" minsize=\"1.2em\">(</mro></math>" ∷
    "<math><mi><mo>a</mi></mo></math>" ∷
    "<math><mi>a</mi>" ∷
    "<math><mtable columnalign=left></mtable></math>" ∷
    "<math><mo form=\"prefix\" form=\"prefix\">(</mo></math>" ∷
    "<math><mo><</mo></math>" ∷
    "<math><mo>></mo></math>" ∷
    "<math><mi>&</mi></math>" ∷
    "<math><mo>&lang;</mo></math>" ∷
    "a<math></math>" ∷
    "<math></math>a" ∷
    "<math></math><math></math>" ∷
    "" ∷
    "<mrow></mrow>" ∷
    "<math><mi>\u{1}</mi></math>" ∷
    []

told_apart : map is_document (taken ++ refused) ≡ map (λ t. true) taken ++ map (λ t. false) refused
unfolding taken refused nest_opens
told_apart = refl
