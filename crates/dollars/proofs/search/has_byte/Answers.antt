-- `dollars::search::has_byte` meets its contract.
use mathlib.Core.Path.{◌≡◌, ◌∙◌, ap}
use mathlib.Core.Bool.{not}
use Prim.Native.Nat.{◌*◌}
use native.Mathlib.Omega.{arith}
use lib.Dec.{eqb}
use lib.Bits.{bit_xor}
use Rattle.dollars.proofs.SearchLaws.{all, marks, exact}
use Rattle.dollars.proofs.search.has_byte.Goals as goal

pub returns : goal.returns
unfolding all
returns c =
    let w = c.args.w in
    let b = c.args.b in
    let each : c.from.result * 0x0101_0101_0101_0101 ≡ all 8 b = omega arith in
    ap (λ x. not (eqb (marks 8 (bit_xor w x)) (all 8 128))) each ∙ exact 8 w b (omega arith)
