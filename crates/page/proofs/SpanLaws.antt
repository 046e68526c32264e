-- A tidy paragraph, whose runs are of one or two dollars, in spans.
-- Assumes nothing.
use mathlib.Core.Path.{◌≡◌, refl}
use mathlib.Core.Bool.{true, false, ◌&&◌, ◌||◌, false≢true, and-eq-true_iff}
use mathlib.Core.List.{List, [], ◌∷◌, ◌++◌, map, append-nil}
use Prim.Native.Nat.{ℕ, zero, suc, ◌≤◌}
use native.Mathlib.Omega.{arith}
use lib.Dec.{eqb}
use borrow.Author.Tests.{eqb-true}
use Rattle.text.specs.Utf8.{well_formed}
use Rattle.text.specs.Any.{has_nul}
use Rattle.text.specs.Plain.{plain}
use Rattle.text.proofs.Cases.{by_test}
use Rattle.text.proofs.AnyLaws.{none_sides}
use Rattle.text.proofs.SplitLaws.{both_sides}
use Rattle.dollars.specs.declared.Delimiter.{Delimiter}
use Rattle.dollars.specs.declared.Delimiter.TheVariants.{Single, Double}
use Rattle.dollars.specs.Dollars.{dollar, width}
use Rattle.page.specs.Words.{Runs, end, run, lengths, paired, Part, prose, formula, parts_of, dollars, typed_runs, Some, Behind, Apart}
use Rattle.page.proofs.MarkLaws.{plain_first, some_first}

-- prose, or a formula between runs of two dollars or of one
pub data Span : Type 0 where
  text : List ℕ → Span
  maths : (delimiter : Delimiter) (body : List ℕ) → Span

abbrev pub part_of : Span → Part
part_of (text t) = prose t
part_of (maths delimiter b) = formula (width delimiter) b

abbrev pub spanned : List Span → List ℕ
spanned [] = []
spanned (text t ∷ l) = t ++ spanned l
spanned (maths delimiter b ∷ l) = dollars (width delimiter) ++ (b ++ (dollars (width delimiter) ++ spanned l))

-- neither 2 nor 14 refuses the bytes
abbrev pub Readable : List ℕ → Type 0
Readable l = (well_formed l ≡ true) × (has_nul l ≡ false)

-- a formula's body, before what stands behind the formula
pub record Formula (b behind : List ℕ) : Type 0 where
  pub bare : plain b ≡ true
  pub some : Some b
  pub readable : Readable b
  pub apart : dollar behind ≡ false

abbrev pub Fine : List Span → Type 0
Fine [] = Unit {0}
Fine (text t ∷ l) = (plain t ≡ true) × Fine l
Fine (maths delimiter b ∷ l) = Formula b (spanned l) × Fine l

-- ---- from the runs to the spans

wide : (n : ℕ) → (eqb n 1 || eqb n 2) ≡ true → (delimiter : Delimiter) × (n ≡ width delimiter)
wide n h = by_test (eqb n 1) (λ t. (Single, eqb-true n 1 t)) (λ t. (Double, eqb-true n 2 (rw t at h)))

-- what stands behind a run begins with no dollar
no_third : (rs : Runs) → Behind rs → Apart rs → dollar (typed_runs rs) ≡ false
no_third (end t) behind h = plain_first t h
no_third (run t n rest) behind h = some_first t (dollars n ++ typed_runs rest) behind h.0

-- a well-formed text may be cut at a run
well_sides : (n : ℕ) (xs ys : List ℕ) → 1 ≤ n → well_formed (xs ++ (dollars n ++ ys)) ≡ true → (well_formed xs ≡ true) × (well_formed ys ≡ true)
well_sides zero xs ys some h = absurd (omega arith)
well_sides (suc zero) xs ys some h = both_sides xs ys 36 (omega arith) h
well_sides (suc (suc n)) xs ys some h =
    let k = both_sides xs (dollars (suc n) ++ ys) 36 (omega arith) h in
    (k.0, (well_sides (suc n) [] ys (omega arith) k.1).1)

run_sides : (n : ℕ) (xs ys : List ℕ) → 1 ≤ n → Readable (xs ++ (dollars n ++ ys)) → Readable xs × Readable ys
run_sides n xs ys some (well, no_nul) =
    let w = well_sides n xs ys some well in
    let k = none_sides _ xs (dollars n ++ ys) no_nul in
    ((w.0, k.0), (w.1, (none_sides _ (dollars n) ys k.1).1))

-- spans of the same bytes and the same parts
pub record Spans (rs : Runs) : Type 0 where
  pub spans : List Span
  pub parts : map part_of spans ≡ parts_of rs
  pub typed : spanned spans ≡ typed_runs rs
  pub fine : Fine spans

module _ (t b : List ℕ) (n m : ℕ) (rest : Runs) where
  -- prose and a formula before spans
  spans_more : (r : Spans rest) → Apart (run t n (run b m rest)) → (delimiter : Delimiter) → n ≡ width delimiter → n ≡ m
      → Readable b → Spans (run t n (run b m rest))
  unfolding parts_of
  spans_more r (bare, _, some, (bare-body, _, behind, more)) delimiter e same readable = record {
    spans = text t ∷ maths delimiter b ∷ r.spans;
    parts = rw (e, r.parts);
    typed = rw (← same, e, r.typed);
    fine = (bare, (record { bare = bare-body; some = some; readable = readable; apart = rw r.typed (no_third rest behind more) }, r.fine));
  }

pub spans_of : (rs : Runs) → Apart rs → paired (lengths rs) ≡ true → Readable (typed_runs rs) → Spans rs
unfolding parts_of lengths paired
spans_of (end t) h even readable = record { spans = text t ∷ []; parts = refl; typed = append-nil t; fine = (h, tt) }
spans_of (run t n (end u)) h even readable = absurd (false≢true even)
spans_of (run t n (run b m rest)) h even readable =
    let k = (and-eq-true_iff ((eqb n 1 || eqb n 2) && eqb n m) (paired (lengths rest))).0 even in
    let j = (and-eq-true_iff (eqb n 1 || eqb n 2) (eqb n m)).0 k.0 in
    let delimiter = wide n j.0 in
    let first = (run_sides n t _ h.1 readable).1 in
    let second = run_sides m b _ h.3.1 first in
    let r = spans_of rest h.3.3 k.1 second.1 in
    spans_more t b n m rest r h delimiter.0 delimiter.1 (eqb-true n m j.1) second.0
