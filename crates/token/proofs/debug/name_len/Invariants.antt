-- `token::debug::name_len` meets its contract. The loop's invariant: what comes before the byte b is counted.
use Rattle.std.specs.Prelude.{◌≡◌, ◌+◌, length, drop}
use Rattle.text.specs.Xml.{in_text}
use Rattle.token.specs.Debug.{escape}
use Rattle.token.proofs.debug.name_len.Given as goal

abbrev pub invariant-loop-b : goal.invariant-loop-b
invariant-loop-b l =
    length (in_text l.dialect (escape (escape l.name))) ≡ l.n + length (in_text l.dialect (escape (escape (drop l.b-index l.name))))
