-- `ast::codes::is_matrix` meets its contract.
use Rattle.ast.proofs.ShapeLaws.{matrix_tag}
use Rattle.ast.proofs.codes.is_matrix.Goals as goal

pub returns : goal.returns
returns c = matrix_tag c.args.r.tag c.args.r.attr c.args.r.x c.args.r.y
