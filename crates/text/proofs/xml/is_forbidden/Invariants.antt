-- `text::xml::is_forbidden` meets its contract. The loop's invariant: what comes before the byte i decides nothing.
use mathlib.Core.Path.{◌≡◌}
use lib.ListN.{drop}
use Rattle.text.specs.Xml.{forbidden}
use Rattle.text.proofs.xml.is_forbidden.Given as goal

abbrev pub invariant-loop-i : goal.invariant-loop-i
invariant-loop-i l = forbidden l.s ≡ forbidden (drop l.i l.s)
