-- `leaves::lengths::variant_len` meets its contract.
use lib.ListN.{length-append}
use Rattle.text.specs.Examples.{text_opens}
use Rattle.markup.specs.Print.{variant_text}
use native.Mathlib.Omega.{arith}
use Rattle.leaves.proofs.lengths.variant_len.Goals as goal

pub returns : goal.returns
unfolding text_opens variant_text
returns c = rw c.name.ensures (simp length-append (omega arith))
