-- `ast::store::get_record` meets its contract.
use Rattle.ast.proofs.StoreLaws.{read_law}
use Rattle.ast.proofs.store.get_record.Goals as goal

pub returns : goal.returns
returns c =
    let a = c.get_two-a.ensures in
    let b = c.get_two-b.ensures in
    let third = c.get_two-c.ensures in
    let n = c.get_two-next.ensures in
    (read_law c.args.store.now c.args.i a.0 b.0 third.0 n.0 c.get_four-x.ensures c.get_four-y.ensures, record { a = a.1; b = b.1; c = third.1; next = n.1 })
