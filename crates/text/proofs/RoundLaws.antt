-- The character at the head of well-formed bytes is spelled by the bytes that it takes.
-- Assumes nothing.
use mathlib.Core.Path.{◌≡◌, refl, ◌∙◌, subst}
use mathlib.Core.Bool.{Bool, true, false, ◌&&◌, and-eq-true_iff}
use mathlib.Core.List.{List, [], ◌∷◌}
use mathlib.Core.Option.{Option, none, some}
use Prim.Native.Nat.{ℕ, ◌+◌, ◌-◌, ◌*◌, ◌/◌, ◌%◌, ◌≤◌}
use native.Mathlib.Omega.{arith}
use lib.Dec.{leb}
use lib.ListN.{length, take}
use borrow.Author.Tests.{leb-true}
use Rattle.text.specs.Utf8.{Range, table, within, follow, goes_on, well_formed, begins, value, lead, encode, code_point}
use Rattle.text.proofs.Cases.{both, never}
use Rattle.text.proofs.Utf8Laws.{bounds, found}
use Rattle.text.proofs.EncodeLaws.{encode_1, encode_2, encode_3, encode_4}

two_back : (b c : ℕ) → 0xc2 ≤ b → b ≤ 0xdf → 0x80 ≤ c → c ≤ 0xbf → encode ((b - 0xc0) * 64 + (c - 0x80)) ≡ b ∷ c ∷ []
two_back b c h k i j =
    let v : ℕ = (b - 0xc0) * 64 + (c - 0x80) in
    let x : 0xc0 + v / 64 ≡ b = omega arith in
    let y : 0x80 + v % 64 ≡ c = omega arith in
    encode_2 v (omega arith) (omega arith) ∙ rw (x, y)

three_back : (b c d : ℕ) → 0xe0 ≤ b → b ≤ 0xef → 0x80 ≤ c → c ≤ 0xbf → 0x80 ≤ d → d ≤ 0xbf → 0x800 ≤ ((b - 0xe0) * 64 + (c - 0x80)) * 64 + (d - 0x80)
    → encode (((b - 0xe0) * 64 + (c - 0x80)) * 64 + (d - 0x80)) ≡ b ∷ c ∷ d ∷ []
three_back b c d h k i j l m big =
    let v : ℕ = ((b - 0xe0) * 64 + (c - 0x80)) * 64 + (d - 0x80) in
    let x : 0xe0 + v / 4096 ≡ b = omega arith in
    let y : 0x80 + v / 64 % 64 ≡ c = omega arith in
    let z : 0x80 + v % 64 ≡ d = omega arith in
    encode_3 v big (omega arith) ∙ rw (x, y, z)

four_back : (b c d e : ℕ) → 0xf0 ≤ b → b ≤ 0xf4 → 0x80 ≤ c → c ≤ 0xbf → 0x80 ≤ d → d ≤ 0xbf → 0x80 ≤ e → e ≤ 0xbf
    → 0x10000 ≤ (((b - 0xf0) * 64 + (c - 0x80)) * 64 + (d - 0x80)) * 64 + (e - 0x80)
    → encode ((((b - 0xf0) * 64 + (c - 0x80)) * 64 + (d - 0x80)) * 64 + (e - 0x80)) ≡ b ∷ c ∷ d ∷ e ∷ []
four_back b c d e h k i j l m o p big =
    let v : ℕ = (((b - 0xf0) * 64 + (c - 0x80)) * 64 + (d - 0x80)) * 64 + (e - 0x80) in
    let x : 0xf0 + v / 262144 % 8 ≡ b = omega arith in
    let y : 0x80 + v / 4096 % 64 ≡ c = omega arith in
    let z : 0x80 + v / 64 % 64 ≡ d = omega arith in
    let w : 0x80 + v % 64 ≡ e = omega arith in
    encode_4 v big ∙ rw (x, y, z, w)

-- ---- the rows of the table

abbrev cont : Range → Bool
cont r = leb 0x80 r.low && leb r.high 0xbf

-- what a row's first byte and the bytes after it are at least and at most, and what the code point is at least
unfoldable fit_row : Range → List Range → Bool
fit_row f [] = leb f.high 0x7f
fit_row f (r ∷ []) = leb 0xc2 f.low && leb f.high 0xdf && cont r
fit_row f (r ∷ (q ∷ [])) = leb 0xe0 f.low && leb f.high 0xef && cont r && cont q && leb 0x800 (((f.low - 0xe0) * 64 + (r.low - 0x80)) * 64)
fit_row f (r ∷ (q ∷ (o ∷ []))) =
    leb 0xf0 f.low && leb f.high 0xf4 && cont r && cont q && cont o && leb 0x10000 ((((f.low - 0xf0) * 64 + (r.low - 0x80)) * 64) * 64)
fit_row f (r ∷ (q ∷ (o ∷ (p ∷ rs)))) = false

begins_cons : (r : Range) (rs : List Range) (b : ℕ) (l : List ℕ) → begins (r ∷ rs) (b ∷ l) ≡ true → (within r b ≡ true) × (begins rs l ≡ true)
unfolding begins
begins_cons r rs b l e = both (within r b) (begins rs l) e

record Cont (r : Range) (b : ℕ) : Type 0 where
  pub low : 0x80 ≤ b
  pub high : b ≤ 0xbf
  pub least : r.low ≤ b
  pub from : 0x80 ≤ r.low

cont_told : (r : Range) (b : ℕ) → cont r ≡ true → within r b ≡ true → Cont r b
cont_told r b h k =
    let x = (and-eq-true_iff (leb 0x80 r.low) (leb r.high 0xbf)).0 h in
    let y = bounds r b k in
    let z = leb-true 0x80 r.low x.0 in
    let w = leb-true r.high 0xbf x.1 in
    record { low = omega (arith, y.0); high = omega (arith, y.1); least = y.0; from = z }

spelled : (f : Range) (rs : List Range) (b : ℕ) (l : List ℕ) → f.low ≤ b → b ≤ f.high → fit_row f rs ≡ true → begins rs l ≡ true
    → encode (value (b - lead (length rs)) rs l) ≡ b ∷ take (length rs) l
unfolding fit_row begins value lead
spelled f [] b l lo hi h k =
    let x = leb-true f.high 0x7f h in
    let z : b - 0 ≡ b = omega arith in
    rw z (encode_1 b (omega arith))
spelled f (r ∷ rs) b [] lo hi h k = never cc
spelled f (r ∷ []) b (c ∷ l) lo hi h k =
    let x = (and-eq-true_iff (leb 0xc2 f.low && leb f.high 0xdf) (cont r)).0 h in
    let y = (and-eq-true_iff (leb 0xc2 f.low) (leb f.high 0xdf)).0 x.0 in
    let low = leb-true 0xc2 f.low y.0 in
    let high = leb-true f.high 0xdf y.1 in
    let d = cont_told r c x.1 (begins_cons r [] c l k).0 in
    two_back b c (omega arith) (omega arith) d.low d.high
spelled f (r ∷ (q ∷ [])) b (c ∷ []) lo hi h k = never (let z = (begins_cons r (q ∷ []) c [] k).1 in cc)
spelled f (r ∷ (q ∷ [])) b (c ∷ (d ∷ l)) lo hi h k =
    let v = (and-eq-true_iff (leb 0xe0 f.low && leb f.high 0xef && cont r && cont q) (leb 0x800 (((f.low - 0xe0) * 64 + (r.low - 0x80)) * 64))).0 h in
    let w = (and-eq-true_iff (leb 0xe0 f.low && leb f.high 0xef && cont r) (cont q)).0 v.0 in
    let x = (and-eq-true_iff (leb 0xe0 f.low && leb f.high 0xef) (cont r)).0 w.0 in
    let y = (and-eq-true_iff (leb 0xe0 f.low) (leb f.high 0xef)).0 x.0 in
    let low = leb-true 0xe0 f.low y.0 in
    let high = leb-true f.high 0xef y.1 in
    let least = leb-true 0x800 (((f.low - 0xe0) * 64 + (r.low - 0x80)) * 64) v.1 in
    let t = begins_cons r (q ∷ []) c (d ∷ l) k in
    let m = cont_told r c x.1 t.0 in
    let n = cont_told q d w.1 (begins_cons q [] d l t.1).0 in
    three_back b c d (omega arith) (omega arith) m.low m.high n.low n.high (omega (arith, m.least, m.from, m.low, n.low))
spelled f (r ∷ (q ∷ (o ∷ rs))) b (c ∷ []) lo hi h k = never (let z = (begins_cons r (q ∷ (o ∷ rs)) c [] k).1 in cc)
spelled f (r ∷ (q ∷ (o ∷ rs))) b (c ∷ (d ∷ [])) lo hi h k =
    never (let z = (begins_cons q (o ∷ rs) d [] (begins_cons r (q ∷ (o ∷ rs)) c (d ∷ []) k).1).1 in cc)
spelled f (r ∷ (q ∷ (o ∷ []))) b (c ∷ (d ∷ (e ∷ l))) lo hi h k =
    let u = (and-eq-true_iff (leb 0xf0 f.low && leb f.high 0xf4 && cont r && cont q && cont o) (leb 0x10000 ((((f.low - 0xf0) * 64 + (r.low - 0x80)) * 64) * 64))).0 h in
    let v = (and-eq-true_iff (leb 0xf0 f.low && leb f.high 0xf4 && cont r && cont q) (cont o)).0 u.0 in
    let w = (and-eq-true_iff (leb 0xf0 f.low && leb f.high 0xf4 && cont r) (cont q)).0 v.0 in
    let x = (and-eq-true_iff (leb 0xf0 f.low && leb f.high 0xf4) (cont r)).0 w.0 in
    let y = (and-eq-true_iff (leb 0xf0 f.low) (leb f.high 0xf4)).0 x.0 in
    let low = leb-true 0xf0 f.low y.0 in
    let high = leb-true f.high 0xf4 y.1 in
    let least = leb-true 0x10000 ((((f.low - 0xf0) * 64 + (r.low - 0x80)) * 64) * 64) u.1 in
    let t = begins_cons r (q ∷ (o ∷ [])) c (d ∷ (e ∷ l)) k in
    let s = begins_cons q (o ∷ []) d (e ∷ l) t.1 in
    let m = cont_told r c x.1 t.0 in
    let n = cont_told q d w.1 s.0 in
    let p = cont_told o e v.1 (begins_cons o [] e l s.1).0 in
    four_back b c d e (omega arith) (omega arith) m.low m.high n.low n.high p.low p.high (omega (arith, m.least, m.from, m.low, n.low, p.low))
spelled f (r ∷ (q ∷ (o ∷ (p ∷ rs)))) b (c ∷ (d ∷ (e ∷ l))) lo hi h k = never cc

goes_begins : (rs : List Range) (l : List ℕ) → goes_on rs l ≡ true → begins rs l ≡ true
unfolding goes_on begins
goes_begins [] l e = refl
goes_begins (r ∷ rs) [] e = e
goes_begins (r ∷ rs) (b ∷ l) e =
    let k = both (within r b) (goes_on rs l) e in
    rw (begins, k.0) (goes_begins rs l k.1)

-- the character at the head of well-formed bytes is spelled by the bytes that it takes
pub encode_point : (b : ℕ) (l : List ℕ) → well_formed (b ∷ l) ≡ true → encode (code_point (b ∷ l)).code ≡ take (code_point (b ∷ l)).width (b ∷ l)
unfolding well_formed goes_on table fit_row code_point
encode_point b l e = row (follow b table) refl
  where
    row : (o : Option (List Range)) → follow b table ≡ o → encode (code_point (b ∷ l)).code ≡ take (code_point (b ∷ l)).width (b ∷ l)
    row none q = let z = rw (goes_on, q) at e in never cc
    row (some rs) q =
        let k = goes_begins rs l (rw (goes_on, q) at e) in
        let f = found (λ x. fit_row x.first x.after) b rs table refl q in
        rw (code_point, q, k) (spelled f.row.first rs b l f.low f.high (subst (λ y. fit_row f.row.first y ≡ true) f.is f.passes) k)
