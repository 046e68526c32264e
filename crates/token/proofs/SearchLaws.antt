-- What std's search of the rows finds: the place of a name in the table, or that the table has no such name.
-- Assumes nothing.
use Rattle.std.specs.Prelude.{◌≡◌, ℕ, min, ◌+◌, ◌-◌, ◌<◌, ◌≤◌, List, length, map, drop, slice_index_or, slice_range, Err}
use mathlib.Core.Path.{refl, sym, ap, subst, ◌∙◌}
use mathlib.Core.List as L
use native.Mathlib.Omega.{arith}
use denote.Ref.{Bor}
use Rattle.std.specs.Cmp.{tied_itself, ranked}
use Rattle.std.specs.Cmp.Lexicographic.{nat_list_cmp_total, bytes_decides}
use Rattle.std.specs.List.Sorted.{IsBinarySearchResult, IsPartitionPoint, IsSortedBy}
use Rattle.std.specs.Ordering.{is_lt, is_eq, nat_cmp}
use Rattle.std.specs.declared.cmp.Ordering.{Ordering}
use Rattle.std.specs.declared.cmp.Ordering.TheVariants.{Less, Equal, Greater}
use Rattle.std.proofs.lemmas.Cmp.{by_ranked}
use Rattle.std.proofs.lemmas.List.{length-map, get_or-map, length-take, length-drop, get_or-take, get_or-drop}
use Rattle.std.proofs.lemmas.List.Sorted.{searchable_from_sorted}
use Rattle.std.proofs.lemmas.Map.Text.{is_eq-slice_cmp}
use Rattle.token.specs.declared.Token.{Token}
use Rattle.token.specs.declared.Token.TheVariants.{EOF}
use Rattle.token.specs.Arms.{arms}
use Rattle.token.specs.Command.{own_arms, from_command}
use Rattle.token.specs.Spell.{◌=>◌}
use Rattle.token.specs.Table.{size, entries}
use Rattle.token.specs.Key.{codes, name_at, token_at, cmp, rows, row_of, start, rows_of}
use Rattle.text.proofs.Cases.{by_order, never}
use Rattle.token.proofs.Agree.{rising, start_rises, first_at, in_place, found, absent}

-- names that compare as equal are equal
pub same_name : (s t : List ℕ) → cmp s t ≡ Equal → s ≡ t
same_name s t e = (bytes_decides s t).0 (sym (is_eq-slice_cmp s t) ∙ ap is_eq e)

-- where a name ends, what it has left is less than what another has left
ends_first : (s t : List ℕ) → length s < length t → Less ≡ cmp (drop (length s) s) (drop (length s) t)
ends_first L.[] L.[] h = absurd (omega arith)
ends_first L.[] (L.◌∷◌ y t) h = refl
ends_first (L.◌∷◌ x s) L.[] h = absurd (omega arith)
ends_first (L.◌∷◌ x s) (L.◌∷◌ y t) h = ends_first s t (omega arith)

ends_last : (s t : List ℕ) → length t < length s → Greater ≡ cmp (drop (length t) s) (drop (length t) t)
ends_last L.[] L.[] h = absurd (omega arith)
ends_last (L.◌∷◌ x s) L.[] h = refl
ends_last L.[] (L.◌∷◌ y t) h = absurd (omega arith)
ends_last (L.◌∷◌ x s) (L.◌∷◌ y t) h = ends_last s t (omega arith)

end_together : (s t : List ℕ) → length s ≡ length t → Equal ≡ cmp (drop (length s) s) (drop (length s) t)
end_together L.[] L.[] h = refl
end_together L.[] (L.◌∷◌ y t) h = absurd (omega arith)
end_together (L.◌∷◌ x s) L.[] h = absurd (omega arith)
end_together (L.◌∷◌ x s) (L.◌∷◌ y t) h = end_together s t (omega arith)

-- so past the bytes that two names have both, their lengths decide
pub by_lengths : (s t : List ℕ) (i : ℕ) (r : Ordering) → i ≡ min (length s) (length t) → r ≡ nat_cmp (length s) (length t) → r ≡ cmp (drop i s) (drop i t)
by_lengths s t i r e h =
    by_ranked (length s < length t) (length s ≡ length t) (length t < length s) r (ranked (length s) (length t) r h)
    (λ is less. let shorter : i ≡ length s = omega arith in rw (is, shorter) (ends_first s t less))
    (λ is same. let shorter : i ≡ length s = omega arith in rw (is, shorter) (end_together s t same))
    (λ is more. let shorter : i ≡ length t = omega arith in rw (is, shorter) (ends_last s t more))

entries_size : length entries ≡ size
unfolding entries
entries_size = refl

pub rows_size : length rows ≡ size
unfolding rows
rows_size = length-map entries _ ∙ entries_size

-- the row at a place
row_is : (i : ℕ) (d : List ℕ × Token) → i < size → slice_index_or rows i d ≡ (name_at i, token_at i)
unfolding rows name_at token_at
row_is i d h = get_or-map (λ e. (codes e.name, e.gives)) entries i ("" => EOF) d (omega (arith, entries_size))

-- what a row is where a place would be past the end
any_row : Bor (List ℕ) × Token
any_row = (record { ref_ptr = (0, 0); now = L.[] }, EOF)

-- the rows whose names begin with a byte, as they stand in the table
module _ (b : ℕ) (l : List (Bor (List ℕ) × Token)) (is : map row_of l ≡ rows_of b) where
  -- how far they go
  as_long : (start b + length l ≡ start (b + 1)) × (start (b + 1) ≤ size)
  unfolding rows_of
  as_long =
      let rises = start_rises b in
      let counted : length l ≡ length (slice_range rows (start b) (start (b + 1))) = sym (length-map l row_of) ∙ ap length is in
      (omega (arith, rises, counted, rows_size, length-take (start (b + 1) - start b) (drop (start b) rows), length-drop (start b) rows), rises.1)

  at_place : (i : ℕ) (d : Bor (List ℕ) × Token) → i < length l → row_of (slice_index_or l i d) ≡ (name_at (start b + i), token_at (start b + i))
  unfolding rows_of
  at_place i d h =
      sym (get_or-map row_of l i d (row_of d) h) ∙ ap (λ r. slice_index_or r i (row_of d)) is
      ∙ get_or-take (start (b + 1) - start b) (drop (start b) rows) i (row_of d) (omega (arith, as_long)) ∙ get_or-drop (start b) rows i (row_of d)
      ∙ row_is (start b + i) (row_of d) (omega (arith, as_long))

  -- no name is less than the one before it
  sorted : IsSortedBy (λ a b. is_lt (cmp a.0.now b.0.now)) l
  sorted k d low high =
      let here : (slice_index_or l k d).0.now ≡ name_at (start b + k) = ap (λ r. r.0) (at_place k d (omega arith)) in
      let after : start b + (k + 1) ≡ start b + k + 1 = omega arith in
      let next : (slice_index_or l (k + 1) d).0.now ≡ name_at (start b + k + 1) = ap (λ r. r.0) (at_place (k + 1) d high) ∙ ap name_at after in
      rw (here, next, nat_list_cmp_total.antisymm (name_at (start b + k + 1)) (name_at (start b + k)), rising (start b + k) (omega (arith, as_long)))

  module _ (s : List ℕ) (other : Token) where
    pub hit : (i : ℕ) (d : Bor (List ℕ) × Token) → i < length l → cmp (slice_index_or l i d).0.now s ≡ Equal → (slice_index_or l i d).1 ≡ from_command s other
    hit i d h e =
        let row = at_place i d h in
        let name : name_at (start b + i) ≡ s = sym (ap (λ r. r.0) row) ∙ same_name _ _ e in
        ap (λ r. r.1) row ∙ sym (found other (start b + i) (omega (arith, as_long))) ∙ ap (λ n. from_command n other) name

    -- a row of the table with the name stands among these, where those below p are less than it and those from p on are greater
    nowhere : slice_index_or s 0 0 ≡ b → (p : ℕ) → IsPartitionPoint (λ y. cmp y.0.now s ≡ Less) (λ y. cmp y.0.now s ≡ Greater) l p
        → (i : ℕ) → i < size → name_at i ≡ s → ⊥
    nowhere begins p parts i h e =
        let byte_of : first_at i ≡ b = ap (λ n. slice_index_or n 0 0) e ∙ begins in
        let low : start b ≤ i = subst (λ f. start f ≤ i) byte_of (in_place i h).0 in
        let high : i < start (b + 1) = subst (λ f. i < start (f + 1)) byte_of (in_place i h).1 in
        let k = i - start b in
        let inside : k < length l = omega (arith, as_long) in
        let whole : start b + k ≡ i = omega arith in
        let name : (slice_index_or l k any_row).0.now ≡ s = ap (λ r. r.0) (at_place k any_row inside) ∙ ap name_at whole ∙ e in
        let tie : cmp (slice_index_or l k any_row).0.now s ≡ Equal = rw name (tied_itself nat_list_cmp_total s) in
        by_order k p
        (λ below. never (let less = parts.0 k any_row (omega arith) below in cc))
        (λ above. never (let greater = parts.1 k any_row above inside in cc))

    pub miss : slice_index_or s 0 0 ≡ b → (p : ℕ) → IsBinarySearchResult (λ y. cmp y.0.now s) l (Err p) → other ≡ from_command s other
    miss begins p parted =
        let parts = parted (searchable_from_sorted nat_list_cmp_total (λ (y : Bor (List ℕ) × Token). y.0.now) l s sorted) in
        sym (absent s other (nowhere begins p parts))

-- no command has an empty name
pub empty : (s : List ℕ) (other : Token) → length s ≤ 0 → other ≡ from_command s other
unfolding from_command own_arms arms
empty L.[] other h = refl
empty (L.◌∷◌ x s) other h = absurd (omega arith)
