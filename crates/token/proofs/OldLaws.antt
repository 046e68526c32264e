-- In the old dialect a command's token is printed as that of the Rust's arms.
-- Assumes nothing.
use Rattle.std.specs.Prelude.{◌≡◌, ℕ, true, List, [], ◌∷◌, map}
use mathlib.Core.Path.{refl}
use Rattle.text.proofs.Cases.{by_test}
use Rattle.token.specs.declared.Token.{Token}
use Rattle.token.specs.Spell.{Arm, spells, first}
use Rattle.token.specs.Arms.{arms}
use Rattle.token.specs.Command.{own_arms, from_command, operator_in, as_old}
use Rattle.token.proofs.Spelled.{spells_one}

-- the old dialect changes no token of the Rust's arms
same_arms : map (λ arm. as_old arm.gives) arms ≡ map (λ arm. arm.gives) arms
unfolding arms as_old operator_in
same_arms = refl

-- so whatever arm a name finds, its token is printed as it is
first_same : (s : List ℕ) (other : Token) (xs : List (Arm Token)) → map (λ arm. as_old arm.gives) xs ≡ map (λ arm. arm.gives) xs
    → as_old (first s other xs) ≡ first s (as_old other) xs
first_same s other [] e = refl
first_same s other (arm ∷ rest) e =
    let here : as_old arm.gives ≡ arm.gives = cc in
    let below : map (λ x. as_old x.gives) rest ≡ map (λ x. x.gives) rest = cc in
    by_test (spells s arm.name)
    (λ q. rw (q, first) here)
    (λ q. rw (q, first) (first_same s other rest below))

-- `\ni` is printed as the arm that the Rust has for it
same_ni : (s : List ℕ) (other : Token) → spells s "ni" ≡ true → as_old (from_command s other) ≡ first s (as_old other) arms
unfolding from_command own_arms arms as_old operator_in
same_ni s other q = rw (spells_one s (110 ∷ 105 ∷ []) "ni" q refl)

pub old_agrees : (s : List ℕ) (other : Token) → as_old (from_command s other) ≡ first s (as_old other) arms
unfolding from_command own_arms
old_agrees s other =
    by_test (spells s "ni")
    (λ q. same_ni s other q)
    (λ q. rw (q, first) (first_same s other arms same_arms))
