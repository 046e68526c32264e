-- `ast::store::set_next` meets its contract.
use native.Mathlib.Nat.{add_assoc}
use Rattle.ast.proofs.StoreLaws.{next_law}
use Rattle.ast.proofs.store.set_next.Goals as goal

pub returns : goal.returns
returns c = rw c.put_two.ensures (simp add_assoc (next_law c.args.store.now c.args.i c.args.next c.requires.0 c.requires.1))
