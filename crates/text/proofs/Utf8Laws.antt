-- Laws of well-formed UTF-8 and of the code point at the head of a list of bytes.
-- Assumes nothing.
use mathlib.Core.Path.{◌≡◌, refl, sym, ◌∙◌}
use mathlib.Core.Bool.{Bool, true, false, ◌&&◌, ◌||◌, and-eq-true_iff, and-false}
use mathlib.Core.List.{List, [], ◌∷◌, ◌++◌, map}
use mathlib.Core.Option.{Option, none, some}
use Prim.Native.Nat.{ℕ, suc, ◌+◌, ◌-◌, ◌*◌, ◌≤◌, ◌<◌}
use native.Mathlib.Omega.{arith}
use lib.Dec.{leb, ltb, lit≤, lit<}
use lib.ListN.{length, drop, length-drop}
use borrow.Author.Tests.{leb-true, ltb-true, le-leb, lt-leb, le-ltb}
use Rattle.text.specs.Utf8.{Range, Row, table, within, follow, goes_on, well_formed, begins, value, lead, replacement, code_point}
use Rattle.text.specs.Follow.{after, read}
use Rattle.text.specs.declared.CodePoint.{CodePoint}

-- A byte in a range, below it and above it.
pub inside : (r : Range) (b : ℕ) → r.low ≤ b → b ≤ r.high → within r b ≡ true
inside r b h k = rw (le-leb r.low b h, le-leb b r.high k)

pub beneath : (r : Range) (b : ℕ) → b < r.low → within r b ≡ false
beneath r b h = rw (lt-leb r.low b h)

pub beyond : (r : Range) (b : ℕ) → r.high < b → within r b ≡ false
beyond r b h = rw (lt-leb b r.high h) (and-false (leb r.low b))

-- what a byte in a range is at least and at most
pub bounds : (r : Range) (b : ℕ) → within r b ≡ true → (r.low ≤ b) × (b ≤ r.high)
bounds r b e =
    let h = (and-eq-true_iff (leb r.low b) (leb b r.high)).0 e in
    (leb-true r.low b h.0, leb-true b r.high h.1)

-- Finding a row: it has the byte, or the rows before it end below the byte.
pub hit : (b : ℕ) (row : Row) (rows : List Row) → row.first.low ≤ b → b ≤ row.first.high → follow b (row ∷ rows) ≡ some row.after
unfolding follow
hit b row rows h k = rw (inside row.first b h k, follow)

-- nothing follows an ASCII byte
pub ascii_row : (b : ℕ) → b < 128 → follow b table ≡ some []
unfolding table
ascii_row b h = hit b _ _ (omega arith) (omega arith)

-- A test that every row passes tells of the row that a byte finds.
abbrev pub every : {A : Type 0} → (A → Bool) → List A → Bool
every test [] = true
every test (x ∷ l) = test x && every test l

-- a row that passes the test, has b and goes on with rs
pub record Found (test : Row → Bool) (b : ℕ) (rs : List Range) : Type 0 where
  pub row : Row
  pub passes : test row ≡ true
  pub low : row.first.low ≤ b
  pub high : b ≤ row.first.high
  pub is : row.after ≡ rs

pub found : (test : Row → Bool) (b : ℕ) (rs : List Range) (rows : List Row) → every test rows ≡ true → follow b rows ≡ some rs → Found test b rs
unfolding follow
found test b rs [] all e = let z : ◌≡◌ {A = ℕ} 0 1 = cc in absurd (omega arith)
found test b rs (row ∷ rows) all e =
    let a = (and-eq-true_iff (test row) (every test rows)).0 all in
    here (within row.first b) refl a.0 (found test b rs rows a.1) e
  where
    here : (t : Bool)
        → within row.first b ≡ t
        → test row ≡ true
        → (follow b rows ≡ some rs → Found test b rs)
        → elim t [ true ↦ some row.after | false ↦ follow b rows ] ≡ some rs
        → Found test b rs
    here true w p rest q =
        let k = bounds row.first b w in
        record { row = row; passes = p; low = k.0; high = k.1; is = cc }
    here false w p rest q = rest q

-- Every range after a first byte begins at 128 or above.
abbrev pub starts_high : Range → Bool
starts_high r = leb 128 r.low

pub rows_high : (b : ℕ) (rs : List Range) → follow b table ≡ some rs → every starts_high rs ≡ true
unfolding table
rows_high b rs e =
    let f = found (λ row. every starts_high row.after) b rs table refl e in
    rw (← f.is) f.passes

-- Bytes go on by one byte: a first byte, a byte in the next range, and one that is not.
pub goes_first : (b : ℕ) (l : List ℕ) → goes_on [] (b ∷ l) ≡ after (follow b table) l
unfolding goes_on
goes_first b l = go (follow b table) refl
  where
    go : (o : Option (List Range)) → follow b table ≡ o → goes_on [] (b ∷ l) ≡ after (follow b table) l
    go none e = rw (e, goes_on)
    go (some rs) e = rw (e, goes_on)

pub goes_ascii : (b : ℕ) (l : List ℕ) → b < 128 → goes_on [] (b ∷ l) ≡ goes_on [] l
goes_ascii b l h = goes_first b l ∙ rw (ascii_row b h)

pub goes_next : (r : Range) (rs : List Range) (b : ℕ) (l : List ℕ) → within r b ≡ true → goes_on (r ∷ rs) (b ∷ l) ≡ goes_on rs l
unfolding goes_on
goes_next r rs b l e = rw (e, goes_on)

pub goes_not : (r : Range) (rs : List Range) (b : ℕ) (l : List ℕ) → within r b ≡ false → goes_on (r ∷ rs) (b ∷ l) ≡ false
unfolding goes_on
goes_not r rs b l e = rw (e, goes_on)

-- after the row of a first byte
after_row : (o : Option (List Range)) (xs zs ys : List ℕ)
    → ((rs : List Range) → o ≡ some rs → goes_on rs zs ≡ (goes_on rs xs && goes_on [] ys))
    → after o zs ≡ (after o xs && goes_on [] ys)
after_row none xs zs ys f = refl
after_row (some rs) xs zs ys f = f rs refl

-- an ASCII byte stands where nothing is pending, and nothing is pending behind it
splits : (rs : List Range) (xs ys : List ℕ) (a : ℕ)
    → every starts_high rs ≡ true
    → a < 128
    → goes_on rs (xs ++ a ∷ ys) ≡ (goes_on rs xs && goes_on [] ys)
unfolding goes_on
splits [] [] ys a e h = goes_ascii a ys h
splits (r ∷ rs) [] ys a e h =
    let k = leb-true 128 r.low ((and-eq-true_iff (starts_high r) (every starts_high rs)).0 e).0 in
    goes_not r rs a ys (beneath r a (omega arith))
splits [] (b ∷ xs) ys a e h =
    rw (goes_first b (xs ++ a ∷ ys), goes_first b xs)
    (after_row (follow b table) xs (xs ++ a ∷ ys) ys (λ rs k. splits rs xs ys a (rows_high b rs k) h))
splits (r ∷ rs) (b ∷ xs) ys a e h =
    go (within r b) (splits rs xs ys a ((and-eq-true_iff (starts_high r) (every starts_high rs)).0 e).1 h)
  where
    go : (t : Bool)
        → goes_on rs (xs ++ a ∷ ys) ≡ (goes_on rs xs && goes_on [] ys)
        → elim t [ true ↦ goes_on rs (xs ++ a ∷ ys) | false ↦ false ] ≡ (elim t [ true ↦ goes_on rs xs | false ↦ false ] && goes_on [] ys)
    go true q = q
    go false q = refl

-- A text is well-formed if what is before an ASCII byte and what is behind it are.
pub ascii_splits : (xs ys : List ℕ) (a : ℕ) → a < 128 → well_formed (xs ++ a ∷ ys) ≡ (well_formed xs && well_formed ys)
unfolding well_formed
ascii_splits xs ys a h = splits [] xs ys a refl h

-- So a piece between two ASCII bytes of a well-formed text is well-formed.
pub piece_between : (xs ys zs : List ℕ) (a b : ℕ) → a < 128 → b < 128 → well_formed (xs ++ a ∷ ys ++ b ∷ zs) ≡ true → well_formed ys ≡ true
piece_between xs ys zs a b h k e =
    let f = (and-eq-true_iff (well_formed (xs ++ a ∷ ys)) (well_formed zs)).0 (rw (ascii_splits (xs ++ a ∷ ys) zs b k) at e) in
    ((and-eq-true_iff (well_formed xs) (well_formed ys)).0 (rw (ascii_splits xs ys a h) at f.0)).1

-- Bytes begin by one byte in the next range and the others behind it.
pub begins_in : (r : Range) (rs : List Range) (b : ℕ) (l : List ℕ) → within r b ≡ true → begins (r ∷ rs) (b ∷ l) ≡ begins rs l
unfolding begins
begins_in r rs b l e = rw (e, begins)

pub begins_out : (r : Range) (rs : List Range) (b : ℕ) (l : List ℕ) → within r b ≡ false → begins (r ∷ rs) (b ∷ l) ≡ false
unfolding begins
begins_out r rs b l e = rw (e, begins)

begins_cons : (r : Range) (rs : List Range) (b : ℕ) (l : List ℕ) → begins (r ∷ rs) (b ∷ l) ≡ true → (within r b ≡ true) × (begins rs l ≡ true)
unfolding begins
begins_cons r rs b l e = go (within r b) e
  where
    go : (t : Bool) → elim t [ true ↦ begins rs l | false ↦ false ] ≡ true → (t ≡ true) × (begins rs l ≡ true)
    go true q = (refl, q)
    go false q = let z : ◌≡◌ {A = ℕ} 0 1 = cc in absurd (omega arith)

begins_nil : (r : Range) (rs : List Range) → begins (r ∷ rs) [] ≡ true → ⊥
unfolding begins
begins_nil r rs e = let z : ◌≡◌ {A = ℕ} 0 1 = cc in omega arith

begins_length : (rs : List Range) (l : List ℕ) → begins rs l ≡ true → length rs ≤ length l
begins_length [] l e = omega arith
begins_length (r ∷ rs) [] e = absurd (begins_nil r rs e)
begins_length (r ∷ rs) (b ∷ l) e = let h = begins_length rs l (begins_cons r rs b l e).1 in omega arith

-- the value lies between that of the lowest bytes and that of the highest
value_between : (rs : List Range) (l : List ℕ) (u v w : ℕ)
    → begins rs l ≡ true
    → u ≤ v
    → v ≤ w
    → (value u rs (map (λ r. r.low) rs) ≤ value v rs l) × (value v rs l ≤ value w rs (map (λ r. r.high) rs))
unfolding value
value_between [] l u v w e h k = (h, k)
value_between (r ∷ rs) [] u v w e h k = absurd (begins_nil r rs e)
value_between (r ∷ rs) (b ∷ l) u v w e h k =
    let c = begins_cons r rs b l e in
    let d = bounds r b c.0 in
    value_between rs l (u * 64 + (r.low - 0x80)) (v * 64 + (b - 0x80)) (w * 64 + (r.high - 0x80)) c.1 (omega arith) (omega arith)

-- the least and the greatest code point of a row
unfoldable least : Row → ℕ
least row = value (row.first.low - lead (length row.after)) row.after (map (λ r. r.low) row.after)

unfoldable greatest : Row → ℕ
greatest row = value (row.first.high - lead (length row.after)) row.after (map (λ r. r.high) row.after)

code_between : (test : Row → Bool) (b : ℕ) (rs : List Range) (l : List ℕ) (f : Found test b rs) → begins rs l ≡ true
    → (least f.row ≤ value (b - lead (length rs)) rs l) × (value (b - lead (length rs)) rs l ≤ greatest f.row)
unfolding least greatest
code_between test b rs l f e =
    rw f.is
    (value_between rs l (f.row.first.low - lead (length rs)) (b - lead (length rs)) (f.row.first.high - lead (length rs)) e
    (omega (arith, f.low)) (omega (arith, f.high)))

-- The code point of a first byte b, by the row that has it.
pub point_none : (b : ℕ) (l : List ℕ) → none ≡ follow b table → code_point (b ∷ l) ≡ replacement
unfolding code_point
point_none b l e = rw (← e, code_point)

pub point_some : (b : ℕ) (rs : List Range) (l : List ℕ) → some rs ≡ follow b table → code_point (b ∷ l) ≡ read (suc (length rs)) (b - lead (length rs)) rs l
unfolding code_point read
point_some b rs l e = rw (← e, code_point)

-- the code point of a first byte b and a byte in each of the ranges behind it
abbrev whole : ℕ → List Range → List ℕ → CodePoint
whole b rs l = record { code = value (b - lead (length rs)) rs l; width = suc (length rs) }

-- what holds of U+FFFD and of each whole code point holds of the code point at the head
point : (P : CodePoint → Type 0) (b : ℕ) (l : List ℕ)
    → P replacement
    → ((rs : List Range) → follow b table ≡ some rs → begins rs l ≡ true → P (whole b rs l))
    → P (code_point (b ∷ l))
unfolding read
point P b l r f = row (follow b table) refl
  where
    test : (rs : List Range) (t : Bool) → (t ≡ true → P (whole b rs l)) → P (elim t [ true ↦ whole b rs l | false ↦ replacement ])
    test rs true g = g refl
    test rs false g = r

    row : (o : Option (List Range)) → follow b table ≡ o → P (code_point (b ∷ l))
    row none e = rw (point_none b l (sym e)) r
    row (some rs) e = rw (point_some b rs l (sym e)) (test rs (begins rs l) (f rs e))

-- The code point at the head takes no more bytes than there are, ..
pub width_inside : (l : List ℕ) → (code_point l).width ≤ length l
width_inside [] = unfold code_point in lit≤ tt
width_inside (b ∷ l) =
    point (λ p. p.width ≤ length (b ∷ l)) b l (omega arith) (λ rs e k. let h = begins_length rs l k in omega arith)

-- .. also from a place on, ..
pub point_inside : (s : List ℕ) (at : ℕ) → at ≤ length s → at + (code_point (drop at s)).width ≤ length s
point_inside s at h = let w = width_inside (drop at s) in omega (arith, length-drop at s)

-- .. and at least one where there is one.
pub width_some : (b : ℕ) (l : List ℕ) → 1 ≤ (code_point (b ∷ l)).width
width_some b l = point (λ p. 1 ≤ p.width) b l (lit≤ tt) (λ rs e k. omega arith)

-- An ASCII byte is its own code point, ..
pub ascii_point : (b : ℕ) (l : List ℕ) → b < 128 → code_point (b ∷ l) ≡ record { code = b; width = 1 }
unfolding code_point begins value lead
ascii_point b l h =
    let z : b - 0 ≡ b = omega arith in
    rw (ascii_row b h, code_point, z)

-- .. and no other byte begins an ASCII code point.
pub high_point : (b : ℕ) (l : List ℕ) → 128 ≤ b → 128 ≤ (code_point (b ∷ l)).code
unfolding table least value lead
high_point b l h =
    point (λ p. 128 ≤ p.code) b l (lit≤ tt)
    (λ rs e k.
    let f = found (λ row. ltb row.first.high 128 || leb 128 (least row)) b rs table refl e in
    let g = rw (le-ltb f.row.first.high 128 (omega (arith, f.high))) at f.passes in
    let c = code_between _ b rs l f k in
    omega (arith, leb-true 128 (least f.row) g))

-- A code point is at most U+10FFFF.
pub code_small : (l : List ℕ) → (code_point l).code < 1114112
unfolding table greatest value lead code_point
code_small [] = lit< tt
code_small (b ∷ l) =
    point (λ p. p.code < 1114112) b l (lit< tt)
    (λ rs e k.
    let f = found (λ row. ltb (greatest row) 1114112) b rs table refl e in
    let c = code_between _ b rs l f k in
    omega (arith, ltb-true (greatest f.row) 1114112 f.passes))
