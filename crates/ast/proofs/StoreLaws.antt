-- Reading a record after some of its bytes were written.
-- Assumes nothing.
use mathlib.Core.Path.{◌≡◌, refl, ◌∙◌, subst}
use mathlib.Core.List.{List, [], ◌∷◌, ◌++◌}
use mathlib.Core.Bool.{true}
use Prim.Native.Nat.{ℕ, zero, suc, ◌+◌, ◌*◌, ◌/◌, ◌%◌, ◌≤◌, ◌<◌}
use native.Mathlib.Omega.{arith}
use native.Mathlib.Nat.{add_assoc, add-zero, zero-add, add-suc, suc-add}
use lib.ListN.{length, get_or, set, length-set}
use lib.Seq.{get_or-set_same, get_or-set_other}
use lib.Dec.{ltb, leb}
use borrow.Author.Tests.{ltb-true, leb-true}
use Rattle.ast.specs.Store.{two, four, record_of, record_at, Small, Put}
use Rattle.ast.specs.Change.{with_next, with_attr}
use Rattle.ast.specs.declared.Record.{Record}

-- the bytes vs written one by one at o + k, o + (k + 1) and so on, as the code spells these places
abbrev pub wrote : List ℕ → ℕ → ℕ → List ℕ → List ℕ
wrote l o k [] = l
wrote l o k (v ∷ vs) = wrote (set l (o + k) v) o (suc k) vs

-- a place outside such a run is as it was
outside : (vs l : List ℕ) (o k p : ℕ) → (o + k ≤ p → p < o + k + length vs → ⊥) → get_or (wrote l o k vs) p 0 ≡ get_or l p 0
outside [] l o k p h = refl
outside (v ∷ vs) l o k p h =
    outside vs (set l (o + k) v) o (suc k) p (λ a b. h (omega arith) (omega arith))
    ∙ get_or-set_other l (o + k) p v 0 (λ e. h (omega arith) (omega arith))

-- a place inside is as written
inside : (vs l : List ℕ) (o k m : ℕ) → o + k + length vs ≤ length l → m < length vs → get_or (wrote l o k vs) (o + (k + m)) 0 ≡ get_or vs m 0
inside [] l o k m h b = absurd (omega arith)
inside (v ∷ vs) l o k zero h b =
    rw (add-zero k) (outside vs (set l (o + k) v) o (suc k) (o + k) (λ p q. omega arith) ∙ get_or-set_same l (o + k) v 0 (omega arith))
inside (v ∷ vs) l o k (suc m) h b =
    rw (add-suc k m, ← suc-add k m) (inside vs (set l (o + k) v) o (suc k) m (simp length-set (omega arith)) (omega arith))

-- a record is as its bytes are
alike : (l l' : List ℕ) (o o' : ℕ) → ((k : ℕ) → ltb k 18 ≡ true → get_or l' (o' + k) 0 ≡ get_or l (o + k) 0) → record_of l' o' ≡ record_of l o
unfolding record_of
alike l l' o o' h =
    let first : get_or l' o' 0 ≡ get_or l o 0 = simp add-zero at (h 0 refl) in
    simp (add_assoc, h, first)

-- a write inside the first 18 bytes of the record at i leaves every other record as it was
others : (vs l : List ℕ) (i j k : ℕ) → k + length vs ≤ 18 → (j ≡ i → ⊥) → record_at (wrote l (i * 24) k vs) j ≡ record_at l j
unfolding record_at
others vs l i j k h n =
    alike l (wrote l (i * 24) k vs) (j * 24) (j * 24)
    (λ m e. outside vs l (i * 24) k (j * 24 + m) (λ p q. n (omega (arith, ltb-true m 18 e))))

-- so such a write puts what is then read at i
puts : (vs l : List ℕ) (i k : ℕ) {r : Record} → k + length vs ≤ 18 → record_of (wrote l (i * 24) k vs) (i * 24) ≡ r → Put l (wrote l (i * 24) k vs) i r
unfolding record_at
puts vs l i k h e = record {
  same = e;
  rest = λ p n. outside vs l (i * 24) k p (λ a b. n (omega arith) (omega arith));
  other = λ j n. others vs l i j k h n;
}

-- a place of the same record before the run, and one behind it
before_run : (vs l : List ℕ) (o k m : ℕ) → ltb m k ≡ true → get_or (wrote l o k vs) (o + m) 0 ≡ get_or l (o + m) 0
before_run vs l o k m e = outside vs l o k (o + m) (λ p q. omega (arith, ltb-true m k e))

behind_run : (vs l : List ℕ) (o k m : ℕ) → leb (k + length vs) m ≡ true → get_or (wrote l o k vs) (o + m) 0 ≡ get_or l (o + m) 0
behind_run vs l o k m e = outside vs l o k (o + m) (λ p q. omega (arith, leb-true (k + length vs) m e))

-- the bytes of next written, and the byte of the attribute
next_read : (vs l : List ℕ) (o : ℕ) → length vs ≡ 2 → o + 24 ≤ length l → record_of (wrote l o 8 vs) o ≡ with_next (record_of l o) (two vs 0)
unfolding record_of with_next
next_read vs l o e h =
    let first = outside vs l o 8 o (λ p q. omega arith) in
    simp (add_assoc, before_run, behind_run, e, first, inside vs l o 8 0 (omega arith) (omega arith), inside vs l o 8 1 (omega arith) (omega arith))

attr_read : (vs l : List ℕ) (o : ℕ) → length vs ≡ 1 → o + 24 ≤ length l → record_of (wrote l o 1 vs) o ≡ with_attr (record_of l o) (get_or vs 0 0)
unfolding record_of with_attr
attr_read vs l o e h =
    let first = outside vs l o 1 o (λ p q. omega arith) in
    simp (add_assoc, behind_run, e, first, inside vs l o 1 0 (omega arith) (omega arith))

-- the two bytes of a number, and the number that they are
abbrev pub two_bytes : ℕ → List ℕ
two_bytes v = v % 256 ∷ v / 256 % 256 ∷ []

small : (v : ℕ) → v < 65536 → v % 256 + v / 256 % 256 * 256 ≡ v
small v h = omega arith

-- the four bytes of a number, and the number that they are
abbrev pub four_bytes : ℕ → List ℕ
four_bytes v = two_bytes v ++ (v / 65536 % 256 ∷ v / 16777216 ∷ [])

large : (v : ℕ) → v % 256 + v / 256 % 256 * 256 + (v / 65536 % 256 + v / 16777216 * 256) * 65536 ≡ v
large v = omega arith

-- the bytes of a record behind the tag, and the record that they are
abbrev pub behind_tag : Record → List ℕ
behind_tag r =
    r.attr ∷ two_bytes r.a ++ two_bytes r.b ++ two_bytes r.c ++ two_bytes r.next ++ four_bytes r.x ++ four_bytes r.y

record_back : (r : Record) → Small r → record_of (r.tag ∷ behind_tag r) 0 ≡ r
unfolding record_of
record_back r s =
    simp (small r.a s.a, small r.b s.b, small r.c s.c, small r.next s.next, large r.x, large r.y)

-- what put_record, set_next and set_attr leave
pub put_law : (l : List ℕ) (i : ℕ) (r : Record) → i * 24 + 24 ≤ length l → Small r → Put l (wrote (set l (i * 24) r.tag) (i * 24) 1 (behind_tag r)) i r
put_law l i r h s =
    let o = i * 24 in
    let vs = r.tag ∷ behind_tag r in
    let read = alike vs (wrote l o 0 vs) 0 o (λ k b. rw (zero-add k) (rw (zero-add k) at (inside vs l o 0 k (omega arith) (ltb-true k 18 b)))) in
    subst (λ q. Put l (wrote (set l q r.tag) o 1 (behind_tag r)) i r) (add-zero o) (puts vs l i 0 (omega arith) (read ∙ record_back r s))

pub next_law : (l : List ℕ) (i n : ℕ) → i * 24 + 24 ≤ length l → n < 65536 → Put l (wrote l (i * 24) 8 (two_bytes n)) i (with_next (record_at l i) n)
unfolding record_at
next_law l i n h b = puts (two_bytes n) l i 8 (omega arith) (rw (small n b) at (next_read (two_bytes n) l (i * 24) refl h))

pub attr_law : (l : List ℕ) (i v : ℕ) → i * 24 + 24 ≤ length l → Put l (wrote l (i * 24) 1 (v ∷ [])) i (with_attr (record_at l i) v)
unfolding record_at
attr_law l i v h = puts (v ∷ []) l i 1 (omega arith) (attr_read (v ∷ []) l (i * 24) refl h)

-- what get_record reads
pub read_law : (l : List ℕ) (i : ℕ) {a b c n x y : ℕ} → a ≡ two l (i * 24 + 2) → b ≡ two l (i * 24 + 4) → c ≡ two l (i * 24 + 6) → n ≡ two l (i * 24 + 8)
    → x ≡ four l (i * 24 + 10) → y ≡ four l (i * 24 + 14)
    → record { tag = get_or l (i * 24) 0; attr = get_or l (i * 24 + 1) 0; a = a; b = b; c = c; next = n; x = x; y = y } ≡ record_at l i
unfolding record_at record_of
read_law l i p q r s t u = rw (p, q, r, s, t, u) (simp add_assoc)
