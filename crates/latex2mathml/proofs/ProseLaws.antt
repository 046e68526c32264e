-- Prose comes out as typed, and its text of pass one is the prose.
-- Assumes nothing.
use mathlib.Core.Path.{◌≡◌, refl, sym, ◌∙◌}
use mathlib.Core.Bool.{true, false, not, and-eq-true_iff}
use mathlib.Core.List.{List, [], ◌∷◌}
use Prim.Native.Nat.{ℕ, ◌≤◌, ◌<◌}
use lib.Dec.{eqb, ltb}
use lib.ListN.{length}
use borrow.Author.Tests.{lt-ltb, le-ltb, not-true}
use Rattle.std.specs.Prelude.{Result, Ok, Err}
use Rattle.text.specs.Any.{any, has_nul, is_ascii}
use Rattle.text.specs.Plain.{plain}
use Rattle.text.specs.Put.{PutsAt}
use Rattle.text.proofs.Cases.{neither}
use Rattle.text.proofs.AnyLaws.{none_cons}
use Rattle.text.proofs.AsciiLaws.{ascii_well}
use Rattle.text.proofs.PutLaws.{puts_all}
use Rattle.attribute.specs.declared.DisplayStyle.{DisplayStyle}
use Rattle.dollars.specs.declared.Delimiter.{Delimiter}
use Rattle.dollars.specs.declared.Delimiter.TheVariants.{Single, Double}
use Rattle.error.specs.declared.Refusal.{Refusal}
use Rattle.latex2mathml.specs.declared.Manner.{Manner}
use Rattle.latex2mathml.specs.Outcome.{accepted, refused, ◌>>=◌, refuse, bytes_of}
use Rattle.latex2mathml.specs.Replace.{first_pass, second_pass, replacement, replace_outcome, replace}
use Rattle.dollars.specs.Dollars.{mark, unusual, is_prose}
use Rattle.dollars.specs.Places.{next_place}
use Rattle.latex2mathml.specs.Laid.{in_room}
use Rattle.latex2mathml.specs.Written.{over, Gives, Replaces}
use Rattle.latex2mathml.proofs.TranslateLaws.{check_long, check_all, gives_nothing, gives_markup}
use Rattle.dollars.proofs.DollarLaws.{plain_none}
use Rattle.latex2mathml.proofs.ReplaceLaws.{Checked, plain_checked, plain_large, plain_even, plain_passed, first_is, first_unchecked, second_is, replacement_is, replace_refused}

-- usual bytes are ASCII, and none is NUL
usual_ascii : (l : List ℕ) → any unusual l ≡ false → (is_ascii l ≡ true) × (has_nul l ≡ false)
unfolding any unusual
usual_ascii [] e = (refl, refl)
usual_ascii (b ∷ l) e =
    let h = none_cons unusual b l e in
    let k = neither (eqb b 0) (ltb 127 b) h.0 in
    let rest = usual_ascii l h.1 in
    (rw k.1 rest.0, rw k.0 rest.1)

module _ (manner : Manner) (d : List ℕ) (store work : ℕ) (prose : is_prose d ≡ true) where
  pub sides : (not (any unusual d) ≡ true) × (plain d ≡ true)
  unfolding is_prose
  sides = (and-eq-true_iff (not (any unusual d)) (plain d)).0 prose

  unmarked : (delimiter : Delimiter) → length d ≡ next_place (mark delimiter) 0 d
  unmarked delimiter = sym (plain_none delimiter d sides.1)

  second : second_pass manner store d ≡ accepted d
  second =
      second_is manner store d (plain_even Single d (unmarked Single)) ∙ plain_passed manner store DisplayStyle.Inline Single d (unmarked Single)

  module _ (short : length d ≤ 32768) where
    checked : Checked d
    checked =
        let h = usual_ascii d (not-true (any unusual d) sides.0) in
        plain_checked d (check_all 32768 d short (sym (ascii_well d h.0)) h.1) (unmarked Double)

    first_large : work < length d → first_pass manner d store work ≡ refused Refusal.WorkTooSmall
    first_large l = plain_large manner d store work checked (unmarked Double) l

    first : length d ≤ work → first_pass manner d store work ≡ accepted d
    unfolding refuse ◌>>=◌
    first l = first_is manner d store work checked ∙ rw (plain_passed manner store DisplayStyle.Block Double d (unmarked Double), le-ltb work (length d) l)

    pub prose_typed : length d ≤ work → replacement manner d store work ≡ accepted d
    prose_typed l = replacement_is manner d store work d (first l) ∙ second

-- The replacement in prose.
module _ (manner : Manner) (d : List ℕ) (store : ℕ) (w o : List ℕ) (prose : is_prose d ≡ true) where
  pub prose_long : 32768 < length d → Replaces manner d store (Err Refusal.TooLong) w w o o
  prose_long l = replace_refused manner d store w o Refusal.TooLong (first_unchecked manner d store (length w) (check_long 32768 d l))

  module _ (short : length d ≤ 32768) where
    pub prose_large : length w < length d → Replaces manner d store (Err Refusal.WorkTooSmall) w w o o
    prose_large l = replace_refused manner d store w o Refusal.WorkTooSmall (first_large manner d store (length w) prose short l)

    module _ (fits : length d ≤ length w) {w' : List ℕ} {n : ℕ} (copied : PutsAt w w' 0 d n) where
      replaced : {o' : List ℕ} (r : Result ℕ Refusal) → Gives (in_room (length o) (accepted d)) r o o' → Replaces manner d store r w w' o o'
      unfolding replace replace_outcome replacement ◌>>=◌ bytes_of over
      replaced r g = record {
        gives = rw (first manner d store (length w) prose short fits, second manner d store (length w) prose) g;
        work = rw (first manner d store (length w) prose short fits) (puts_all copied);
      }

      pub prose_full : length o < length d → Replaces manner d store (Err Refusal.OutputTooSmall) w w' o o
      unfolding refuse ◌>>=◌
      prose_full l = replaced (Err Refusal.OutputTooSmall) (gives_nothing o (rw (lt-ltb (length o) (length d) l)))

      pub prose_replaced : length d ≤ length o → {o' : List ℕ} {r : ℕ} → PutsAt o o' 0 d r → Replaces manner d store (Ok r) w w' o o'
      unfolding refuse ◌>>=◌
      prose_replaced l {o'} {r} p = replaced (Ok r) (gives_markup (rw (le-ltb (length o) (length d) l)) p.place p)
