-- A character escaped for XML, and the places of a body without a forbidden character.
-- Assumes nothing.
use mathlib.Core.Path.{◌≡◌, refl}
use mathlib.Core.Bool.{Bool, true, false, not, ◌||◌}
use mathlib.Core.List.{List, [], ◌∷◌, ◌++◌, append_assoc}
use mathlib.Core.Option.{Option, none, some}
use Prim.Native.Nat.{ℕ, zero, suc, ◌+◌, ◌-◌, ◌*◌, ◌≤◌, ◌<◌}
use native.Mathlib.Omega.{arith}
use lib.Dec.{leb}
use lib.ListN.{length, take, drop}
use borrow.Author.Tests.{leb-true, ne_eqb}
use Rattle.text.specs.Utf8.{Range, table, within, follow, begins, value, lead, encode, code_point}
use Rattle.text.proofs.Cases.{both, never, by_test, by_order}
use Rattle.text.proofs.EncodeLaws.{encode_1, encode_2, encode_3, encode_4}
use Rattle.text.proofs.FollowLaws.{byte_at}
use Rattle.text.specs.Xml.{allows, forbidden, xml_escape, xml_text, in_text}
use Rattle.text.specs.declared.Dialect.{Dialect}

-- ---- escapes

pub xml_append : (l m : List ℕ) → xml_text (l ++ m) ≡ xml_text l ++ xml_text m
unfolding xml_text
xml_append [] m = refl
xml_append (b ∷ l) m = rw (xml_append l m) (simp append_assoc)

-- a text behind a text
pub text_append : (d : Dialect) (l m : List ℕ) → in_text d (l ++ m) ≡ in_text d l ++ in_text d m
unfolding in_text
text_append Dialect.Old l m = refl
text_append Dialect.Strict l m = xml_append l m

-- a text that XML reads as text alone
pub same_text : (d : Dialect) (l : List ℕ) → xml_text l ≡ l → in_text d l ≡ l
unfolding in_text
same_text Dialect.Old l e = refl
same_text Dialect.Strict l e = e

-- a byte above ASCII is not escaped
high_byte : (k x : ℕ) → leb 128 k ≡ true → xml_escape (k + x) ≡ (k + x) ∷ []
unfolding xml_escape
high_byte k x h =
    let low = leb-true 128 k h in
    rw (xml_escape, ne_eqb (k + x) 60 (λ e. omega arith), ne_eqb (k + x) 62 (λ e. omega arith), ne_eqb (k + x) 38 (λ e. omega arith))

pub high_same : (c : ℕ) → 128 ≤ c → xml_text (encode c) ≡ encode c
unfolding xml_text
high_same c a =
    by_order c 0x800
    (λ b. simp (encode_2 c a b, high_byte))
    (λ b.
    by_order c 0x10000
    (λ d. simp (encode_3 c b d, high_byte))
    (λ d. simp (encode_4 c d, high_byte)))

-- a character that is none of the three
pub other_same : (c : ℕ) → (c ≡ 38 → ⊥) → (c ≡ 60 → ⊥) → (c ≡ 62 → ⊥) → xml_text (encode c) ≡ encode c
unfolding xml_text xml_escape
other_same c a l g =
    by_order c 0x80
    (λ h. rw (encode_1 c h, xml_text, xml_escape, ne_eqb c 60 l, ne_eqb c 62 g, ne_eqb c 38 a))
    (λ h. high_same c h)

-- ---- forbidden characters, from a place on
pub here_forbidden : (s : List ℕ) (i : ℕ) → i < length s → allows (code_point (drop i s)).code ≡ false → forbidden (drop i s) ≡ true
unfolding forbidden
here_forbidden s i h e = rw (byte_at s i h, forbidden) (rw (rw (byte_at s i h) at e))

pub next_forbidden : (s : List ℕ) (i : ℕ) → i < length s → allows (code_point (drop i s)).code ≡ true → forbidden (drop i s) ≡ forbidden (drop (i + 1) s)
unfolding forbidden
next_forbidden s i h e = rw (byte_at s i h, forbidden) (rw (rw (byte_at s i h) at e))

-- ---- parts of bytes without a forbidden character

pub forbids_none : (b : ℕ) (l : List ℕ) → forbidden (b ∷ l) ≡ false → (allows (code_point (b ∷ l)).code ≡ true) × (forbidden l ≡ false)
unfolding forbidden
forbids_none b l e = go (allows (code_point (b ∷ l)).code) e
  where
    go : (t : Bool) → (not t || forbidden l) ≡ false → (t ≡ true) × (forbidden l ≡ false)
    go true q = (refl, q)
    go false q = never cc

pub forbids_drop : (n : ℕ) (l : List ℕ) → forbidden l ≡ false → forbidden (drop n l) ≡ false
forbids_drop zero l e = e
forbids_drop (suc n) [] e = e
forbids_drop (suc n) (b ∷ l) e = forbids_drop n l (forbids_none b l e).1

-- the code point at the head of fewer bytes is the same, or U+FFFD
begins_take : (rs : List Range) (n : ℕ) (l : List ℕ) → begins rs (take n l) ≡ true → (begins rs l ≡ true) × ((v : ℕ) → value v rs (take n l) ≡ value v rs l)
unfolding begins value
begins_take [] n l e = (refl, λ v. refl)
begins_take (r ∷ rs) zero l e = never cc
begins_take (r ∷ rs) (suc n) [] e = never cc
begins_take (r ∷ rs) (suc n) (b ∷ l) e =
    let k = both (within r b) (begins rs (take n l)) e in
    let more = begins_take rs n l k.1 in
    (rw (begins, k.0) more.0, λ v. more.1 (v * 64 + (b - 0x80)))

point_take : (b n : ℕ) (l : List ℕ) → allows (code_point (b ∷ l)).code ≡ true → allows (code_point (b ∷ take n l)).code ≡ true
unfolding code_point allows
point_take b n l h = row (follow b table) refl
  where
    row : (o : Option (List Range)) → follow b table ≡ o → allows (code_point (b ∷ take n l)).code ≡ true
    row none q = rw (code_point, q)
    row (some rs) q =
        by_test (begins rs (take n l))
        (λ t. let more = begins_take rs n l t in rw (code_point, q, t, more.1 (b - lead (length rs))) (rw (code_point, q, more.0) at h))
        (λ t. rw (code_point, q, t))

pub forbids_take : (n : ℕ) (l : List ℕ) → forbidden l ≡ false → forbidden (take n l) ≡ false
unfolding forbidden
forbids_take zero l e = refl
forbids_take (suc n) [] e = refl
forbids_take (suc n) (b ∷ l) e =
    let k = forbids_none b l e in
    rw (point_take b n l k.0) (forbids_take n l k.1)
