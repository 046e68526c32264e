-- `token::from_command` meets its contract: the search finds the place of a name among those with its first byte, and a name that is not there is
-- no arm's.
use mathlib.Core.Path.{sym}
use Rattle.std.proofs.Common.{rules}
use Rattle.std.proofs.lemmas.Fn.{always_returns_same}
use Rattle.token.specs.Key.{cmp}
use Rattle.token.proofs.SearchLaws.{hit, miss, empty}
use Rattle.token.proofs.from_command.Goals as goal

pub returns-in-Ok : goal.returns-in-Ok
returns-in-Ok c =
    let by = c.in-Ok.ensures.position (λ row. cmp row.0.now c.args.name.now) (always_returns_same _ _ _ (λ a r g called. search rules)) in
    hit _ _ c.rows_of-rows.ensures _ _ _ _ c.in-Ok.ensures.bound (by _)

pub returns-in-Err : goal.returns-in-Err
returns-in-Err c =
    let by = c.in-Err.ensures.position (λ row. cmp row.0.now c.args.name.now) (always_returns_same _ _ _ (λ a r g called. search rules)) in
    let begins = c.in-Some.ensures.item.3.1 0 in
    miss _ _ c.rows_of-rows.ensures _ _ (sym begins) _ by

pub returns-in_default : goal.returns-in_default
returns-in_default c = empty _ _ c.in_default.ensures.item.3
