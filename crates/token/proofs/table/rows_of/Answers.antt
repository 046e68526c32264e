-- `token::table::rows_of` meets its contract: the part of the table from one byte's start to the next one's.
use mathlib.Core.Path.{refl, sym, ap, ◌∙◌}
use native.Mathlib.Omega.{arith}
use Rattle.std.specs.Prelude.{◌≡◌, ◌≤◌, ◌-◌, length, drop}
use Rattle.std.proofs.lemmas.List.{length-map, take-map, drop-map}
use Rattle.token.specs.Table.{size}
use Rattle.token.specs.Key.{row_of, rows_of}
use Rattle.token.proofs.Agree.{start_rises}
use Rattle.token.proofs.SearchLaws.{rows_size}
use Rattle.token.proofs.table.rows_of.Goals as goal

-- the two places in the table
within : (c : goal.After-start-2) → (c.start.result ≤ c.start-2.result) × (c.start-2.result ≤ size)
within c = rw (c.start.ensures, c.start-2.ensures, c.from-b.ensures) (start_rises c.args.first)

long : (c : goal.After-start-2) → length c.table.result.now ≡ size
long c = sym (length-map c.table.result.now row_of) ∙ ap length c.table.ensures ∙ rows_size

pub offset_bounds-table-start : goal.offset_bounds-table-start
offset_bounds-table-start c = omega (arith, within c)

pub slice_bounds-result-count : goal.slice_bounds-result-count
slice_bounds-result-count c = (within c).0

pub slice_bounds-result-start : goal.slice_bounds-result-start
slice_bounds-result-start c = omega (arith, within c, long c)

pub slice_bounds-result-end : goal.slice_bounds-result-end
slice_bounds-result-end c = omega (arith, within c, long c)

pub returns : goal.returns
unfolding rows_of
returns c =
    let part = take-map row_of (c.start-2.result - c.start.result) (drop c.start.result c.table.result.now) in
    let rest = drop-map row_of c.start.result c.table.result.now in
    rw (← part, ← rest, c.table.ensures, c.start-2.ensures, c.start.ensures, c.from-b.ensures) refl
