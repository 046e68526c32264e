-- Demand 3: the statement, about one run of the page operation and about any two.
-- What is said of a run speaks of its document, the lent sizes and its output, so that it can be said of a call or of a program too.
-- Assumes nothing.
use Rattle.std.specs.Prelude.{◌≡◌, true, ℕ, length, Ok}
use mathlib.Core.List.{List, [], ◌∷◌, ◌++◌, map, flatten}
use Rattle.latex2mathml.specs.declared.Manner.{Manner}
use Rattle.page.specs.declared.Totals.{Totals}
use Rattle.breaks.specs.Pieces.{Pieces, pieces}
use Rattle.breaks.specs.Cut.{typed_all, RightCut}
use Rattle.page.specs.Words.{Run, output, Runs, dollar_runs, typed_runs, Apart, Piece, in_order, paragraph_count, ReplacedBy, written, Comes, typed_count, tidy, Part, parts, Shows, Differ, DifferInParagraph, DifferInBody}

-- the relation holds of the elements of two lists, first with first, second with second, and both have as many
abbrev pub Each : {A B : Type 0} → (A → B → Type 0) → List A → List B → Type 0
Each R [] [] = Unit {0}
Each R [] (y ∷ ys) = ⊥
Each R (x ∷ xs) [] = ⊥
Each R (x ∷ xs) (y ∷ ys) = R x y × Each R xs ys

-- the bytes of what comes out, one behind the other
abbrev pub joined : {B : Type 0} → (B → List ℕ) → List B → List ℕ
joined bytes ys = flatten (map bytes ys)

-- the text m is what each of xs comes out as, in order, and nothing else
pub record Made {A B : Type 0} (R : A → B → Type 0) (bytes : B → List ℕ) (xs : List A) (m : List ℕ) : Type 0 where
  pub outs : List B
  pub each : Each R xs outs
  pub whole : m ≡ joined bytes outs

-- two texts made of lists that differ in one place only share all bytes of the other places: what comes out of those before it stands at
-- the head of both, and what comes out of those behind it stands at the end of both
pub record Shared {A B : Type 0} (R : A → B → Type 0) (bytes : B → List ℕ) {xs ys : List A} {x y : A} (d : Differ xs ys x y) (m n : List ℕ) : Type 0 where
  pub before : List B
  pub behind : List B
  pub each_before : Each R d.before before
  pub each_behind : Each R d.behind behind
  pub own : B
  pub other : B
  pub first : R x own
  pub second : R y other
  pub whole_first : m ≡ joined bytes before ++ bytes own ++ joined bytes behind
  pub whole_second : n ≡ joined bytes before ++ bytes other ++ joined bytes behind

-- the cut of a document into paragraphs and breaks is the right one, and no other cut of it is
pub record TheCut (document : List ℕ) : Type 0 where
  pub joins : typed_all (pieces document) ≡ document
  pub right : RightCut (pieces document)
  pub only : (ps : Pieces) → typed_all ps ≡ document → RightCut ps → ps ≡ pieces document

-- and so is that of a paragraph at its dollar runs
pub record TheRuns (p : List ℕ) : Type 0 where
  pub joins : typed_runs (dollar_runs p) ≡ p
  pub right : Apart (dollar_runs p)
  pub only : (rs : Runs) → typed_runs rs ≡ p → Apart rs → rs ≡ dollar_runs p

-- one run that is not refused: its output is its paragraphs and breaks in order and nothing else, and the two numbers handed back count the
-- paragraphs and those refused; a tidy paragraph that is replaced comes out as its prose as typed and its formulas' bodies translated alone
pub record OneRun (manner : Manner) (document : List ℕ) (store work : ℕ) (output : List ℕ) (paragraphs left : ℕ) : Type 0 where
  pub cut : TheCut document
  pub made : Made (Comes manner store work) written (in_order document) output
  pub counted : paragraphs ≡ paragraph_count (in_order document)
  pub kept : left ≡ typed_count made.outs
  pub runs : (p : List ℕ) → TheRuns p
  pub tidied : (p m : List ℕ) → tidy p ≡ true → ReplacedBy manner store work p m → Made (Shows manner store) (λ t. t) (parts p) m

-- two outputs share everything but one formula's markup, where the paragraph with that formula is u in one and v in the other
pub record AllButOne (manner : Manner) (store work : ℕ) {xs ys : List Piece} {x y : Piece} {d : Differ xs ys x y} {first second : List ℕ} (others : Shared (Comes manner store work) written d first second)
    {ps qs : List Part} {f g : Part} (e : Differ ps qs f g) (u v : List ℕ) : Type 0 where
  pub inside : Shared (Shows manner store) (λ m. m) e u v
  pub head : List ℕ
  pub tail : List ℕ
  pub is_head : head ≡ joined written others.before ++ joined (λ m. m) inside.before
  pub is_tail : tail ≡ joined (λ m. m) inside.behind ++ joined written others.behind
  pub whole_first : first ≡ head ++ inside.own ++ tail
  pub whole_second : second ≡ head ++ inside.other ++ tail

-- two runs in one manner with equal lent sizes, neither refused, whose documents differ in one paragraph only: whatever it holds in either, they share every
-- output byte of all other paragraphs and of the breaks, in order; and if it is tidy with the same dollar runs in both, differs in one
-- formula's body only and is replaced in both, they share everything but that formula's markup
pub record TwoRuns (manner : Manner) (a b : List ℕ) (store work : ℕ) {p q : List ℕ} (d : DifferInParagraph a b p q) (first second : List ℕ) : Type 0 where
  pub others : Shared (Comes manner store work) written d first second
  pub body : {n k : ℕ} {s t : List ℕ} (e : DifferInBody p q n k s t) (u v : List ℕ)
      → ReplacedBy manner store work p u → ReplacedBy manner store work q v → AllButOne manner store work others e.differ u v

-- two runs in one manner, with equal lent sizes
pub record Beside (a b : Run) : Type 0 where
  pub manner : a.manner ≡ b.manner
  pub store : a.store ≡ b.store
  pub work : a.work ≡ b.work
  pub room : length a.entry ≡ length b.entry

-- a run that is not refused
abbrev pub NotRefused : Run → Type 0
NotRefused a = (t : Totals) × (a.answer ≡ Ok t)

-- demand 3, one claim over all paragraphs of a document together and over any two runs
pub record Demand3 : Type 0 where
  pub one_run : (a : Run) (t : Totals) → a.answer ≡ Ok t → OneRun a.manner a.document a.store a.work (output a) t.paragraphs t.left
  pub two_runs : (a b : Run) → NotRefused a → NotRefused b → Beside a b → {p q : List ℕ} (d : DifferInParagraph a.document b.document p q)
      → TwoRuns a.manner a.document b.document a.store a.work d (output a) (output b)
