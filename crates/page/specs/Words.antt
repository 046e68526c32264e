-- The words of demand 3: each term of document 01's paragraph of that name.
-- Assumes nothing.
use Rattle.std.specs.Prelude.{◌≡◌, Bool, true, false, ◌&&◌, ◌||◌, List, [], ◌∷◌, ◌++◌, ℕ, suc, ◌≤◌, eqb, length, take, replicate, Result}
use Prim.Native.Char.{code}
use Rattle.text.specs.Plain.{plain}
use Rattle.attribute.specs.declared.DisplayStyle.{DisplayStyle}
use Rattle.error.specs.declared.Refusal.{Refusal}
use Rattle.latex2mathml.specs.declared.Manner.{Manner}
use Rattle.latex2mathml.specs.Outcome.{accepted, refused}
use Rattle.latex2mathml.specs.Translate.{translate}
use Rattle.latex2mathml.specs.Replace.{replace}
use Rattle.page.specs.declared.Totals.{Totals}
use Rattle.breaks.specs.Pieces.{Pieces, last, piece, pieces}
use Rattle.page.specs.Run.{answer_length, Pages}

-- ---- runs

-- a run: what the page operation's own promise says of one call, with its manner, its document, the lent sizes, the output at entry, the answer and
-- the output at exit
pub record Run : Type 0 where
  pub manner : Manner
  pub document : List ℕ
  pub store : ℕ
  pub work : ℕ
  pub entry : List ℕ
  pub answer : Result Totals Refusal
  pub exit : List ℕ
  pub promise : Pages manner document store work answer entry exit

-- an operation's output: the output buffer's first bytes, as many as the length returned
unfoldable pub output : Run → List ℕ
output run = take (answer_length run.answer) run.exit

-- ---- paragraphs and breaks

-- a paragraph or a break
pub data Piece : Type 0 where
  paragraph : List ℕ → Piece
  break : List ℕ → Piece

unfoldable pub listed : Pieces → List Piece
listed (last p) = paragraph p ∷ []
listed (piece p b rest) = paragraph p ∷ break b ∷ listed rest

-- the paragraphs and breaks of a document in order
unfoldable pub in_order : List ℕ → List Piece
in_order document = listed (pieces document)

unfoldable pub paragraph_count : List Piece → ℕ
paragraph_count [] = 0
paragraph_count (paragraph p ∷ rest) = suc (paragraph_count rest)
paragraph_count (break b ∷ rest) = paragraph_count rest

-- a paragraph's replacement takes its bytes as a document, in the page's manner, with the page's whole store and whole work buffer and an output long enough:
-- it is replaced by m if that accepts ..
abbrev pub ReplacedBy : Manner → ℕ → ℕ → List ℕ → List ℕ → Type 0
ReplacedBy manner store work p m = (room : ℕ) → length m ≤ room → (replace manner p store work room).outcome ≡ accepted m

-- .. and refused if not, however long the output is
abbrev pub RefusedThere : Manner → ℕ → ℕ → List ℕ → Type 0
RefusedThere manner store work p = (r : Refusal) × ((room : ℕ) → (replace manner p store work room).outcome ≡ refused r)

-- what comes out: a break copied, a paragraph replaced, a paragraph as typed
pub data Out : Type 0 where
  copied : List ℕ → Out
  replaced : List ℕ → Out
  typed : List ℕ → Out

unfoldable pub written : Out → List ℕ
written (copied m) = m
written (replaced m) = m
written (typed m) = m

-- each break comes out as typed, each paragraph as its replacement, or as typed exactly where that refuses it
abbrev pub Comes : Manner → ℕ → ℕ → Piece → Out → Type 0
Comes manner store work (paragraph p) (copied m) = ⊥
Comes manner store work (paragraph p) (replaced m) = ReplacedBy manner store work p m
Comes manner store work (paragraph p) (typed m) = RefusedThere manner store work p × (m ≡ p)
Comes manner store work (break b) (copied m) = m ≡ b
Comes manner store work (break b) (replaced m) = ⊥
Comes manner store work (break b) (typed m) = ⊥

-- how many paragraphs are refused
unfoldable pub typed_count : List Out → ℕ
typed_count [] = 0
typed_count (copied m ∷ rest) = typed_count rest
typed_count (replaced m ∷ rest) = typed_count rest
typed_count (typed m ∷ rest) = suc (typed_count rest)

-- ---- tidy paragraphs

-- a dollar run is a maximal run of dollars; a paragraph cut at its dollar runs is a text without a dollar, the length of the run behind it and
-- what follows, or a last text
pub data Runs : Type 0 where
  end : List ℕ → Runs
  run : (text : List ℕ) (dollars : ℕ) → Runs → Runs

unfoldable pub with_byte : ℕ → Runs → Runs
with_byte b (end t) = end (b ∷ t)
with_byte b (run t n rest) = run (b ∷ t) n rest

-- a dollar directly before a run is part of it
unfoldable pub with_dollar : Runs → Runs
with_dollar (end t) = run [] 1 (end t)
with_dollar (run [] n rest) = run [] (suc n) rest
with_dollar (run (b ∷ t) n rest) = run [] 1 (run (b ∷ t) n rest)

unfoldable pub dollar_runs : List ℕ → Runs
dollar_runs [] = end []
dollar_runs (b ∷ l) = elim (eqb b (code "$")) [ true ↦ with_dollar (dollar_runs l) | false ↦ with_byte b (dollar_runs l) ]

-- the bytes of a cut paragraph
abbrev pub dollars : ℕ → List ℕ
dollars n = replicate n (code "$")

abbrev pub typed_runs : Runs → List ℕ
typed_runs (end t) = t
typed_runs (run t n rest) = t ++ (dollars n ++ typed_runs rest)

-- a list that is not empty
abbrev pub Some : List ℕ → Type 0
Some [] = ⊥
Some (b ∷ l) = Unit {0}

-- what stands behind a run is the last text, or a text that is not empty before the next run
abbrev pub Behind : Runs → Type 0
Behind (end t) = Unit {0}
Behind (run t n rest) = Some t

-- the right cut: no text has a dollar, each run has one or more, and runs are apart
abbrev pub Apart : Runs → Type 0
Apart (end t) = plain t ≡ true
Apart (run t n rest) = (plain t ≡ true) × (1 ≤ n) × Behind rest × Apart rest

unfoldable pub lengths : Runs → List ℕ
lengths (end t) = []
lengths (run t n rest) = n ∷ lengths rest

-- all of length 1 or 2, and, taken first with second, third with fourth, each with a partner of its own length
unfoldable pub paired : List ℕ → Bool
paired [] = true
paired (n ∷ []) = false
paired (n ∷ m ∷ rest) = (eqb n 1 || eqb n 2) && eqb n m && paired rest

-- a tidy paragraph
unfoldable pub tidy : List ℕ → Bool
tidy p = paired (lengths (dollar_runs p))

-- prose, or a formula: a run of so many dollars, its partner and the body between them
pub data Part : Type 0 where
  prose : List ℕ → Part
  formula : (dollars : ℕ) (body : List ℕ) → Part

-- a run without a partner, which no tidy paragraph has, ends the parts
unfoldable pub parts_of : Runs → List Part
parts_of (end t) = prose t ∷ []
parts_of (run t n (end u)) = prose t ∷ []
parts_of (run t n (run b m rest)) = prose t ∷ formula n b ∷ parts_of rest

-- the prose and the formulas of a tidy paragraph in order
unfoldable pub parts : List ℕ → List Part
parts p = parts_of (dollar_runs p)

-- block for runs of two dollars, inline for runs of one
unfoldable pub display_of : ℕ → DisplayStyle
display_of n = elim (eqb n 2) [ true ↦ DisplayStyle.Block | false ↦ DisplayStyle.Inline ]

-- a body translated alone: the body translation's output for those bytes, in the same manner with the same store and an output long enough
abbrev pub Alone : Manner → ℕ → ℕ → List ℕ → List ℕ → Type 0
Alone manner store n b m = (room : ℕ) → length m ≤ room → translate manner b (display_of n) store room ≡ accepted m

-- prose comes out as typed, a formula as its body translated alone
abbrev pub Shows : Manner → ℕ → Part → List ℕ → Type 0
Shows manner store (prose t) m = m ≡ t
Shows manner store (formula n b) m = Alone manner store n b m

-- ---- two documents, two paragraphs

-- two lists are equal in every place but one, where x stands in the first and y in the second
pub record Differ {A : Type 0} (xs ys : List A) (x y : A) : Type 0 where
  pub before : List A
  pub behind : List A
  pub first : xs ≡ before ++ x ∷ behind
  pub second : ys ≡ before ++ y ∷ behind

-- two documents differ in one paragraph only, which is p in one and q in the other: as many paragraphs, the same breaks in order, and equal
-- paragraphs in every other place
abbrev pub DifferInParagraph : List ℕ → List ℕ → List ℕ → List ℕ → Type 0
DifferInParagraph a b p q = Differ (in_order a) (in_order b) (paragraph p) (paragraph q)

-- two paragraphs have the same dollar runs: the lengths of the runs are equal in order
abbrev pub SameRuns : List ℕ → List ℕ → Type 0
SameRuns p q = lengths (dollar_runs p) ≡ lengths (dollar_runs q)

-- two tidy paragraphs with the same dollar runs differ in one formula's body only: all prose and every other body are equal in order
pub record DifferInBody (p q : List ℕ) (n m : ℕ) (b c : List ℕ) : Type 0 where
  pub tidy_first : tidy p ≡ true
  pub tidy_second : tidy q ≡ true
  pub runs : SameRuns p q
  pub differ : Differ (parts p) (parts q) (formula n b) (formula m c)
