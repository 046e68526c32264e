-- Measuring the markup of the nodes that a store holds, over the records as they lie there.
-- Assumes nothing.
use Rattle.std.specs.Prelude.{◌≡◌, Bool, true, false, List, ℕ, ◌+◌, ◌*◌, ◌^◌, ◌≤◌, ◌<◌, length}
use Rattle.text.specs.declared.Dialect.{Dialect}
use Rattle.ast.specs.declared.Fate.{Fate}
use Rattle.ast.specs.Tree.{Nodes}
use Rattle.ast.specs.Held.{HoldsAll}
use Rattle.ast.specs.Inside.{AllInside}
use Rattle.ast.specs.Sum.{added, taken, store_sum}
use Rattle.markup.specs.Own.{own, errors}
use Rattle.print.specs.declared.measure.Measured.{Measured}
use Rattle.print.specs.declared.measure.Sums.{Sums}

-- some nodes of the body s fill the first `top` records
pub record Measurable (s st : List ℕ) (top : ℕ) : Type 0 where
  pub nodes : Nodes
  pub f : ℕ
  pub p : ℕ
  pub l : ℕ
  pub held : HoldsAll st 0 f p l top nodes
  pub inside : AllInside (length s) nodes
  pub fits : top * 24 ≤ length st
  pub few : top ≤ 65536
  pub short : length s ≤ 4096

abbrev pub is_dropped : Fate → Bool
is_dropped Fate.Counted = false
is_dropped Fate.Slashed = false
is_dropped Fate.Dropped = true

abbrev pub is_slashed : Fate → Bool
is_slashed Fate.Counted = false
is_slashed Fate.Slashed = true
is_slashed Fate.Dropped = false

-- what is found over the records: the length of the markup, which is a number of the machine, and the number of its error texts
pub record Measures (d : Dialect) (s st : List ℕ) (top : ℕ) (r : Measured) : Type 0 where
  pub long : r.length ≡ store_sum (own d s) st top
  pub faults : r.errors ≡ store_sum errors st top
  pub small : r.length < 2 ^ 62

-- the sums of the records before k: a mark of a matrix adds 11 or 22 bytes and no error text, and takes back the 39 or 37 of the error text that it
-- added by itself; all are numbers that a machine has
pub record Summed (d : Dialect) (s st : List ℕ) (top k : ℕ) (sums : Sums) : Type 0 where
  pub in_store : k ≤ top
  pub length_more : sums.length + (11 * sums.ampersands + 22 * sums.lines) ≡ added (own d s) st top k
  pub length_less : 39 * sums.ampersands + 37 * sums.lines ≡ taken (own d s) st top k
  pub errors_more : sums.errors ≡ added errors st top k
  pub errors_less : sums.ampersands + sums.lines ≡ taken errors st top k
  pub length_small : sums.length ≤ k * 33554432
  pub errors_small : sums.errors ≤ k
  pub marks_small : sums.ampersands + sums.lines ≤ k * 33554432
