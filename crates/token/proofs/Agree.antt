-- The command table: its order, where its first bytes begin, and its agreement with the arms, each by a test that antt computes over the whole table.
-- Assumes nothing.
use Rattle.std.specs.Prelude.{◌≡◌, ℕ, zero, suc, ◌+◌, ◌-◌, ◌<◌, ◌≤◌, leb, ltb, eqb, not, Bool, true, false, List, [], ◌∷◌, length, get_or, slice_index_or}
use mathlib.Core.Path.{refl, subst}
use native.Mathlib.Omega.{arith}
use borrow.Author.Tests.{leb-true, ltb-true, eqb-false, not-true}
use Rattle.std.proofs.lemmas.List.{get_or_past}
use Rattle.token.specs.declared.Token.{Token}
use Rattle.std.specs.declared.cmp.Ordering.TheVariants.{Less}
use Rattle.token.specs.Texts.{texts, text, widths, width}
use Rattle.token.specs.Arms.{arms}
use Rattle.token.specs.Command.{own_arms, from_command}
use Rattle.token.specs.Table.{size, entries}
use Rattle.token.specs.Key.{name_at, token_at, cmp, starts, start}
use Rattle.text.proofs.Cases.{both, by_order}
use Rattle.text.proofs.Tabled.{tab, each}
use Rattle.token.proofs.Spelled.{all_listed, first_none}

-- ---- the order: each name is less than the next
in_order : tab (λ i. cmp (name_at i) (name_at (i + 1))) (size - 1) ≡ tab (λ i. Less) (size - 1)
unfolding name_at entries
in_order = refl

pub rising : (i : ℕ) → i + 1 < size → cmp (name_at i) (name_at (i + 1)) ≡ Less
rising i h = each (λ i. cmp (name_at i) (name_at (i + 1))) (λ i. Less) (size - 1) in_order i (omega arith)

-- ---- the first bytes: where their names begin does not fall and is in the table, and each name stands where those of its first byte do.
-- Each test takes the list of these places as its argument, since antt computes an argument once.
abbrev place_in : List ℕ → ℕ → ℕ
place_in s b = slice_index_or s b size

abbrev rises : List ℕ → ℕ → Bool
rises s b = elim (leb (place_in s b) (place_in s (b + 1))) [ true ↦ leb (place_in s (b + 1)) size | false ↦ false ]

abbrev all_rise : List ℕ → List Bool
all_rise s = tab (rises s) 129

places_rise : all_rise starts ≡ tab (λ b. true) 129
unfolding starts entries
places_rise = refl

rises_early : (b : ℕ) → b < 129 → (start b ≤ start (b + 1)) × (start (b + 1) ≤ size)
unfolding start
rises_early b h =
    let tests = both _ _ (each (rises starts) (λ b. true) 129 places_rise b h) in
    (leb-true _ _ tests.0, leb-true _ _ tests.1)

starts_size : length starts ≡ 129
unfolding starts
starts_size = refl

-- past the list there is no row
start_past : (b : ℕ) → 129 ≤ b → start b ≡ size
unfolding start
start_past b h = get_or_past starts b size (omega (arith, starts_size))

pub start_rises : (b : ℕ) → (start b ≤ start (b + 1)) × (start (b + 1) ≤ size)
start_rises b = by_order b 129 (rises_early b) (λ h. omega (arith, start_past b h, start_past (b + 1) (omega arith)))

-- the first byte of the name at a place
abbrev pub first_at : ℕ → ℕ
first_at i = slice_index_or (name_at i) 0 0

abbrev within : List ℕ → ℕ → Bool
within s i = elim (leb (place_in s (first_at i)) i) [ true ↦ ltb i (place_in s (first_at i + 1)) | false ↦ false ]

abbrev all_within : List ℕ → List Bool
all_within s = tab (within s) size

names_within : all_within starts ≡ tab (λ i. true) size
unfolding starts entries name_at
names_within = refl

pub in_place : (i : ℕ) → i < size → (start (first_at i) ≤ i) × (i < start (first_at i + 1))
unfolding start
in_place i h =
    let tests = both _ _ (each (within starts) (λ i. true) size names_within i h) in
    (leb-true _ _ tests.0, ltb-true _ _ tests.1)

-- ---- the bytes of the names: each is ASCII, no name is empty, and none ends in a zero
abbrev ascii : List ℕ → Bool
ascii [] = true
ascii (b ∷ l) = elim (ltb b 128) [ true ↦ ascii l | false ↦ false ]

ascii_at : (l : List ℕ) → ascii l ≡ true → (k : ℕ) → get_or l k 0 < 128
ascii_at [] e k = omega arith
ascii_at (b ∷ l) e zero = ltb-true b 128 (both (ltb b 128) (ascii l) e).0
ascii_at (b ∷ l) e (suc k) = ascii_at l (both (ltb b 128) (ascii l) e).1 k

abbrev pub is_name : List ℕ → Bool
is_name l = elim (ascii l) [ true ↦ not (eqb (get_or l (length l - 1) 0) 0) | false ↦ false ]

-- what passes the test is a name: past its end, and so where it is empty, a byte is a zero
pub record Name (l : List ℕ) : Type 0 where
  pub bytes : (k : ℕ) → get_or l k 0 < 128
  pub some : 0 < length l
  pub ends : get_or l (length l - 1) 0 ≡ 0 → ⊥

some_byte : (l : List ℕ) → (get_or l (length l - 1) 0 ≡ 0 → ⊥) → 0 < length l
some_byte [] ends = absurd (ends refl)
some_byte (b ∷ l) ends = omega arith

pub is_name_lem : (l : List ℕ) → is_name l ≡ true → Name l
is_name_lem l e =
    let tests = both (ascii l) _ e in
    let ends = eqb-false _ 0 (not-true _ tests.1) in
    record { bytes = ascii_at l tests.0; some = some_byte l ends; ends = ends }

pub all_names : tab (λ i. is_name (name_at i)) size ≡ tab (λ i. true) size
unfolding name_at entries
all_names = refl

pub named : (i : ℕ) → i < size → Name (name_at i)
named i h = is_name_lem (name_at i) (each (λ i. is_name (name_at i)) (λ i. true) size all_names i h)

-- ---- the agreement: the arms give each name of the table the token of the table, and each arm's name is in the table
agree : (other : Token) → tab (λ i. from_command (name_at i) other) size ≡ tab token_at size
unfolding name_at token_at entries arms own_arms text width texts widths from_command
agree other = refl

pub found : (other : Token) (i : ℕ) → i < size → from_command (name_at i) other ≡ token_at i
found other i h = each (λ i. from_command (name_at i) other) token_at size (agree other) i h

covered : all_listed (tab name_at size) own_arms ≡ true
unfolding name_at entries arms own_arms
covered = refl

pub absent : (s : List ℕ) (other : Token) → ((i : ℕ) → i < size → name_at i ≡ s → ⊥) → from_command s other ≡ other
unfolding from_command
absent s other none = first_none name_at size s other none own_arms covered

-- so a string that is no such name is none of a command
pub unnamed : (s : List ℕ) (other : Token) → (Name s → ⊥) → from_command s other ≡ other
unnamed s other f = absent s other (λ i h e. f (subst Name e (named i h)))
