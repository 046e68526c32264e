-- The cut of a paragraph at its dollar runs is the one meant: joined it is the paragraph, its texts hold no dollar and its runs are maximal.
-- Assumes nothing.
use mathlib.Core.Path.{◌≡◌, refl, ◌∙◌}
use mathlib.Core.Bool.{true, false}
use mathlib.Core.List.{List, [], ◌∷◌, ◌++◌, append-nil}
use Prim.Native.Nat.{ℕ, zero, suc, ◌≤◌}
use native.Mathlib.Omega.{arith}
use lib.Dec.{eqb}
use borrow.Author.Tests.{eqb-true, not-true}
use Rattle.text.specs.Plain.{plain}
use Rattle.text.proofs.Cases.{by_test}
use Rattle.text.proofs.PlainLaws.{plain_cons}
use Rattle.page.specs.Words.{Runs, end, run, with_byte, with_dollar, dollar_runs, dollars, typed_runs, Behind, Apart}

-- ---- what the cut has

typed_byte : (b : ℕ) (rs : Runs) → typed_runs (with_byte b rs) ≡ b ∷ typed_runs rs
unfolding with_byte
typed_byte b (end t) = refl
typed_byte b (run t n rest) = refl

typed_dollar : (rs : Runs) → typed_runs (with_dollar rs) ≡ 36 ∷ typed_runs rs
unfolding with_dollar
typed_dollar (end t) = refl
typed_dollar (run [] n rest) = refl
typed_dollar (run (b ∷ t) n rest) = refl

-- joined it is the paragraph
pub joins : (p : List ℕ) → typed_runs (dollar_runs p) ≡ p
unfolding dollar_runs
joins [] = refl
joins (b ∷ l) =
    by_test (eqb b 36)
    (λ t. rw (dollar_runs, t, typed_dollar (dollar_runs l), joins l, eqb-true b 36 t))
    (λ t. rw (dollar_runs, t, typed_byte b (dollar_runs l), joins l))

apart_byte : (b : ℕ) (rs : Runs) → eqb b 36 ≡ false → Apart rs → Apart (with_byte b rs)
unfolding with_byte plain
apart_byte b (end t) other h = rw other h
apart_byte b (run t n rest) other (h, some, behind, more) = (rw other h, some, behind, more)

apart_dollar : (rs : Runs) → Apart rs → Apart (with_dollar rs)
unfolding with_dollar plain
apart_dollar (end t) h = (refl, omega arith, tt, h)
apart_dollar (run [] n rest) (h, some, behind, more) = (refl, omega arith, behind, more)
apart_dollar (run (b ∷ t) n rest) h = (refl, omega arith, tt, h)

pub cut_apart : (p : List ℕ) → Apart (dollar_runs p)
unfolding dollar_runs plain
cut_apart [] = refl
cut_apart (b ∷ l) =
    by_test (eqb b 36)
    (λ t. rw (dollar_runs, t) (apart_dollar (dollar_runs l) (cut_apart l)))
    (λ t. rw (dollar_runs, t) (apart_byte b (dollar_runs l) t (cut_apart l)))

-- ---- no other cut has it

-- a text without a dollar before a cut
cut_text : (t l u : List ℕ) (n : ℕ) (rest : Runs) → plain t ≡ true → dollar_runs l ≡ run u n rest → dollar_runs (t ++ l) ≡ run (t ++ u) n rest
unfolding dollar_runs with_byte
cut_text [] l u n rest h e = e
cut_text (b ∷ t) l u n rest h e =
    let k = plain_cons b t h in
    rw (dollar_runs, not-true (eqb b 36) k.0, cut_text t l u n rest k.1 e)

cut_end : (t : List ℕ) → plain t ≡ true → dollar_runs t ≡ end t
unfolding dollar_runs with_byte
cut_end [] h = refl
cut_end (b ∷ t) h =
    let k = plain_cons b t h in
    rw (dollar_runs, not-true (eqb b 36) k.0, cut_end t k.1)

cut_run : (n : ℕ) (l : List ℕ) (rest : Runs) → 1 ≤ n → Behind rest → dollar_runs l ≡ rest → dollar_runs (dollars n ++ l) ≡ run [] n rest
unfolding dollar_runs with_dollar
cut_run zero l rest some behind e = absurd (omega arith)
cut_run (suc zero) l (end t) some behind e = rw e
cut_run (suc zero) l (run [] n rest) some behind e = absurd behind
cut_run (suc zero) l (run (b ∷ t) n rest) some behind e = rw e
cut_run (suc (suc n)) l rest some behind e = rw (cut_run (suc n) l rest (omega arith) behind e)

-- any cut like this is the one that is made
pub only_cut : (rs : Runs) → Apart rs → dollar_runs (typed_runs rs) ≡ rs
only_cut (end t) h = cut_end t h
only_cut (run t n rest) (bare, some, behind, more) =
    cut_text t _ [] n rest bare (cut_run n (typed_runs rest) rest some behind (only_cut rest more)) ∙ rw (append-nil t)
