use mathlib.Core.Path.{◌≡◌, sym, ◌∙◌, ap}
use Prim.Native.Nat.{◌+◌, ◌*◌}
use native.Mathlib.Omega.{arith}
use Rattle.std.specs.Int.{w64, from_le_bytes}
use Rattle.text.specs.Any.{contains}
use Rattle.dollars.proofs.SearchLaws.{passed, word_at, word_bytes}
use Rattle.dollars.proofs.search.past_words.Goals as goal

pub loop-word-preserved : goal.loop-word-preserved
loop-word-preserved c =
    let a = c.args in
    let l = c.loop-word in
    let words = c.as_chunks.ensures in
    let word = word_at a.s.now a.from c.requires _ l.word-index words.front words.front_len c.loop-word-test.true in
    let i = a.from + 8 * l.word-index in
    let same : l.i ≡ i = l.invariant.1 in
    let bytes = word_bytes a.s.now i word.0 (λ j. (c.type_inv.s j).fits) _ (c.from_le_bytes.ensures ∙ ap (from_le_bytes w64) word.1) in
    let none = ap (contains a.b) (sym bytes) ∙ sym c.has_byte.ensures ∙ c.if-has_byte.false in
    (l.invariant.0 ∙ rw (← same) at (passed a.b 8 a.s.now i word.0 none), omega arith)
