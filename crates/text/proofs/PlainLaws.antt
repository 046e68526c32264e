-- Bytes without a dollar: of two lists, of a part, of a character, and the character at the head of them.
-- Assumes nothing.
use mathlib.Core.Path.{◌≡◌, refl}
use mathlib.Core.Bool.{Bool, true, false, not, ◌&&◌, and-eq-true_iff}
use mathlib.Core.List.{List, [], ◌∷◌, ◌++◌}
use Prim.Native.Nat.{ℕ, zero, suc, ◌+◌, ◌-◌, ◌≤◌}
use Prim.Native.Char.{code}
use Prim.Native.String.{String}
use Prim.Native.String as S
use native.Mathlib.Omega.{arith}
use lib.Dec.{eqb, leb}
use lib.ListN.{get_or, take, drop}
use borrow.Author.Tests.{leb-true, ne_eqb}
use Rattle.text.specs.Utf8.{encode, code_point}
use Rattle.text.specs.Text.{bytes, part}
use Rattle.text.specs.Plain.{no_dollar, plain}
use Rattle.text.specs.Any.{any, contains}
use Rattle.text.specs.Xml.{xml_escape, xml_text, in_text}
use Rattle.text.specs.declared.Dialect.{Dialect}
use Rattle.text.proofs.Cases.{by_test, by_order}
use Rattle.text.proofs.EncodeLaws.{encode_1, encode_2, encode_3, encode_4}
use Rattle.text.proofs.Utf8Laws.{every, ascii_point, high_point}

pub plain_cons : (b : ℕ) (l : List ℕ) → plain (b ∷ l) ≡ true → (no_dollar b ≡ true) × (plain l ≡ true)
unfolding plain
plain_cons b l h = (and-eq-true_iff (no_dollar b) (plain l)).0 h

-- bytes without a dollar, as a test of every byte finds them
pub plain_is : (l : List ℕ) → plain l ≡ not (contains 36 l)
unfolding plain any
plain_is [] = refl
plain_is (b ∷ l) = by_test (eqb b 36) (λ t. rw t) (λ t. rw t (plain_is l))

-- what is plain in two lists is plain in both
pub plain_append : (l m : List ℕ) → plain (l ++ m) ≡ (plain l && plain m)
unfolding plain
plain_append [] m = refl
plain_append (b ∷ l) m = first (no_dollar b) (plain_append l m)
  where
    first : (t : Bool) → plain (l ++ m) ≡ (plain l && plain m) → (t && plain (l ++ m)) ≡ (t && plain l && plain m)
    first true e = e
    first false e = refl

-- ---- parts

pub plain_drop : (n : ℕ) (l : List ℕ) → plain l ≡ true → plain (drop n l) ≡ true
plain_drop zero l h = h
plain_drop (suc n) [] h = h
plain_drop (suc n) (b ∷ l) h = plain_drop n l (plain_cons b l h).1

pub plain_take : (n : ℕ) (l : List ℕ) → plain l ≡ true → plain (take n l) ≡ true
unfolding plain
plain_take zero l h = refl
plain_take (suc n) [] h = refl
plain_take (suc n) (b ∷ l) h = let k = plain_cons b l h in rw k.0 (plain_take n l k.1)

pub plain_part : (a e : ℕ) (l : List ℕ) → plain l ≡ true → plain (part a e l) ≡ true
plain_part a e l h = plain_take (e - a) (drop a l) (plain_drop a l h)

-- the byte at a place; past the end 0 stands for it
pub plain_at : (l : List ℕ) (i : ℕ) → plain l ≡ true → no_dollar (get_or l i 0) ≡ true
plain_at [] i h = refl
plain_at (b ∷ l) zero h = (plain_cons b l h).0
plain_at (b ∷ l) (suc i) h = plain_at l i (plain_cons b l h).1

-- ---- characters

-- a byte or a character above ASCII is no dollar
pub high_other : (b : ℕ) → 128 ≤ b → no_dollar b ≡ true
high_other b h = rw (ne_eqb b 36 (λ e. omega arith))

raised_other : (k x : ℕ) → leb 128 k ≡ true → no_dollar (k + x) ≡ true
raised_other k x h = let low = leb-true 128 k h in high_other (k + x) (omega arith)

-- the bytes of a character that is no dollar
pub plain_encode : (c : ℕ) → no_dollar c ≡ true → plain (encode c) ≡ true
unfolding plain
plain_encode c h =
    by_order c 0x80
    (λ a. rw (encode_1 c a, h))
    (λ a.
    by_order c 0x800
    (λ b. simp (encode_2 c a b, raised_other))
    (λ b.
    by_order c 0x10000
    (λ d. simp (encode_3 c b d, raised_other))
    (λ d. simp (encode_4 c d, raised_other))))

-- the character at the head of plain bytes; the end of the bytes reads as NUL
pub plain_point : (l : List ℕ) → plain l ≡ true → no_dollar (code_point l).code ≡ true
unfolding code_point
plain_point [] h = refl
plain_point (b ∷ l) h =
    by_order b 128
    (λ k. rw (ascii_point b l k) (plain_cons b l h).0)
    (λ k. high_other (code_point (b ∷ l)).code (high_point b l k))

-- ---- texts

-- a text without a dollar
abbrev pub text_plain : String → Bool
text_plain S.[] = true
text_plain (S.◌∷◌ c t) = no_dollar (code c) && text_plain t

pub plain_bytes : (t : String) → text_plain t ≡ true → plain (bytes t) ≡ true
unfolding plain bytes
plain_bytes S.[] h = refl
plain_bytes (S.◌∷◌ c t) h =
    let k = (and-eq-true_iff (no_dollar (code c)) (text_plain t)).0 h in
    rw (plain_append (encode (code c)) (bytes t), plain_encode (code c) k.0) (plain_bytes t k.1)

-- bytes and quoted texts one behind the other
pub ruleset joined = (plain_append, plain_bytes)

-- a text that a list gives by number is one of its texts, or empty
pub listed_plain : (l : List String) (i : ℕ) → every text_plain l ≡ true → text_plain (get_or l i "") ≡ true
listed_plain [] i e = refl
listed_plain (t ∷ l) zero e = ((and-eq-true_iff (text_plain t) (every text_plain l)).0 e).0
listed_plain (t ∷ l) (suc i) e = listed_plain l i ((and-eq-true_iff (text_plain t) (every text_plain l)).0 e).1

-- ---- a formula's text in a dialect: a reference has no dollar

reference_plain : (b : ℕ) → no_dollar b ≡ true → plain (xml_escape b) ≡ true
unfolding plain xml_escape
reference_plain b h =
    by_test (eqb b 60)
    (λ e. rw (xml_escape, e) (plain_bytes _ refl))
    (λ e.
    by_test (eqb b 62)
    (λ f. rw (xml_escape, e, f) (plain_bytes _ refl))
    (λ f. by_test (eqb b 38) (λ g. rw (xml_escape, e, f, g) (plain_bytes _ refl)) (λ g. rw (xml_escape, e, f, g, h))))

xml_plain : (l : List ℕ) → plain l ≡ true → plain (xml_text l) ≡ true
unfolding plain xml_text
xml_plain [] h = refl
xml_plain (b ∷ l) h =
    let k = plain_cons b l h in
    simp (plain_append, reference_plain b k.0, xml_plain l k.1)

pub plain_text : (d : Dialect) (l : List ℕ) → plain l ≡ true → plain (in_text d l) ≡ true
unfolding in_text
plain_text Dialect.Old l h = h
plain_text Dialect.Strict l h = xml_plain l h
