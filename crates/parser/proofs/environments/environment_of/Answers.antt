-- `parser::environments::environment_of` meets its contract: its tests are those of `tried`.
use Rattle.token.specs.Texts.{text, texts}
use Rattle.lexer.specs.Letters.{letters}
use Rattle.std.specs.Prelude.{None}
use Rattle.parser.specs.Environment.{environments, environment}
use Rattle.parser.proofs.EnvironmentLaws.{tried, first_tried}
use Rattle.parser.proofs.environments.environment_of.Goals as goal

pub returns-then-spells : goal.returns-then-spells
unfolding environments environment text texts
returns-then-spells c =
    rw (environment, first_tried (letters c.args.t.now) None environments, tried, ← c.spells.ensures, c.if-spells.true)

pub returns-then-spells-2 : goal.returns-then-spells-2
unfolding environments environment text texts
returns-then-spells-2 c =
    rw (environment, first_tried (letters c.args.t.now) None environments, tried, ← c.spells.ensures, c.if-spells.false, ← c.spells-2.ensures, c.if-spells-2.true)

pub returns-then-spells-3 : goal.returns-then-spells-3
unfolding environments environment text texts
returns-then-spells-3 c =
    rw (environment, first_tried (letters c.args.t.now) None environments, tried, ← c.spells.ensures, c.if-spells.false, ← c.spells-2.ensures, c.if-spells-2.false, ← c.spells-3.ensures, c.if-spells-3.true)

pub returns-then-spells-4 : goal.returns-then-spells-4
unfolding environments environment text texts
returns-then-spells-4 c =
    rw (environment, first_tried (letters c.args.t.now) None environments, tried, ← c.spells.ensures, c.if-spells.false, ← c.spells-2.ensures, c.if-spells-2.false, ← c.spells-3.ensures, c.if-spells-3.false, ← c.spells-4.ensures, c.if-spells-4.true)

pub returns-then-spells-5 : goal.returns-then-spells-5
unfolding environments environment text texts
returns-then-spells-5 c =
    rw (environment, first_tried (letters c.args.t.now) None environments, tried, ← c.spells.ensures, c.if-spells.false, ← c.spells-2.ensures, c.if-spells-2.false, ← c.spells-3.ensures, c.if-spells-3.false, ← c.spells-4.ensures, c.if-spells-4.false, ← c.spells-5.ensures, c.if-spells-5.true)

pub returns : goal.returns
unfolding environments environment text texts
returns c =
    rw (environment, first_tried (letters c.args.t.now) None environments, tried, ← c.spells.ensures, c.if-spells.false, ← c.spells-2.ensures, c.if-spells-2.false, ← c.spells-3.ensures, c.if-spells-3.false, ← c.spells-4.ensures, c.if-spells-4.false, ← c.spells-5.ensures, c.if-spells-5.false)
