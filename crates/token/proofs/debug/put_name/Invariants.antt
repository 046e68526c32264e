-- `token::debug::put_name` meets its contract. The loop's invariant: what comes before the byte b is put.
use Rattle.std.specs.Prelude.{drop}
use Rattle.text.specs.Xml.{in_text}
use Rattle.text.proofs.PutLaws.{Putting}
use Rattle.token.specs.Debug.{escape}
use Rattle.token.proofs.debug.put_name.Given as goal

abbrev pub invariant-loop-b : goal.invariant-loop-b
invariant-loop-b l =
    Putting l.initial.out l.out (in_text l.dialect (escape (escape l.name))) (in_text l.dialect (escape (escape (drop l.b-index l.name))))
