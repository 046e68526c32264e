-- `ast::sum::marks` meets its contract.
use Rattle.ast.specs.Sum.{marks}
use Rattle.ast.proofs.CellLaws.{Adding}
use Rattle.ast.proofs.sum.marks.Given as goal

abbrev pub invariant-loop : goal.invariant-loop
invariant-loop l =
    Adding (marks 1 0) l.store l.n l.a l.k l.counter l.found.ampersands × Adding (marks 0 1) l.store l.n l.a l.k l.counter l.found.lines
