-- `ast::store::put_record` meets its contract.
use native.Mathlib.Nat.{add_assoc}
use Rattle.ast.proofs.StoreLaws.{put_law}
use Rattle.ast.proofs.store.put_record.Goals as goal

pub returns : goal.returns
returns c =
    rw (c.put_four-2.ensures, c.put_four.ensures, c.put_two-4.ensures, c.put_two-3.ensures, c.put_two-2.ensures, c.put_two.ensures)
    (simp add_assoc (put_law c.args.store.now c.args.i c.args.r c.requires.0 c.requires.1))
