-- `page_main::respond` meets its contract: the array has as many places as are read at most.
use mathlib.Core.Path.{◌≡◌, sym}
use lib.ListN.{length}
use Rattle.latex2mathml.specs.Outcome.{document_limit}
use Rattle.page_main.specs.Program.{read_limit}
use borrow.Author.Rules.{rules}
use Rattle.page_main.proofs.respond.Goals as goal

pub returns : goal.returns
unfolding read_limit document_limit
returns c =
    let long : 32769 ≡ length c.args.input.now = search rules in
    (sym long, c.answer.ensures)
