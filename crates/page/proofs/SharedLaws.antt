-- What two lists that differ in one place come out as, for any relation that gives an element one outcome.
-- Assumes nothing.
use mathlib.Core.Path.{◌≡◌, refl, ◌∙◌, ap}
use mathlib.Core.List.{List, [], ◌∷◌, ◌++◌, append_assoc, flatten}
use Prim.Native.Nat.{ℕ}
use Rattle.page.specs.Words.{Differ}
use Rattle.page.specs.Demand.{Each, joined, Made, Shared}

-- the bytes before a place, of the place and behind it
joined_around : {B : Type 0} (bytes : B → List ℕ) (before : List B) (own : B) (behind : List B)
    → joined bytes (before ++ own ∷ behind) ≡ joined bytes before ++ bytes own ++ joined bytes behind
unfolding flatten
joined_around bytes [] own behind = refl
joined_around bytes (y ∷ ys) own behind =
    ap (λ l. bytes y ++ l) (joined_around bytes ys own behind) ∙ simp append_assoc

-- what comes out of the elements before a place, of the one there and of those behind it
record Around {A B : Type 0} (R : A → B → Type 0) (f : List A) (x : A) (g : List A) (ys : List B) : Type 0 where
  pub before : List B
  pub own : B
  pub behind : List B
  pub are : ys ≡ before ++ own ∷ behind
  pub each_before : Each R f before
  pub this : R x own
  pub each_behind : Each R g behind

around : {A B : Type 0} {R : A → B → Type 0} (f : List A) (x : A) (g : List A) (ys : List B) → Each R (f ++ x ∷ g) ys → Around R f x g ys
around [] x g [] h = absurd h
around [] x g (y ∷ ys) h = record { before = []; own = y; behind = ys; are = refl; each_before = tt; this = h.0; each_behind = h.1 }
around (a ∷ f) x g [] h = absurd h
around (a ∷ f) x g (y ∷ ys) h =
    let r = around f x g ys h.1 in
    record {
      before = y ∷ r.before;
      own = r.own;
      behind = r.behind;
      are = ap (λ l. y ∷ l) r.are;
      each_before = (h.0, r.each_before);
      this = r.this;
      each_behind = r.each_behind;
    }

-- each element has one outcome
abbrev pub OneOutcome : {A B : Type 0} → (A → B → Type 0) → Type 0
OneOutcome {A} {B} R = (x : A) (y z : B) → R x y → R x z → y ≡ z

module _ {A B : Type 0} {R : A → B → Type 0} (one : OneOutcome R) where
  each_one : (xs : List A) (ys zs : List B) → Each R xs ys → Each R xs zs → ys ≡ zs
  each_one [] [] [] h k = refl
  each_one [] [] (z ∷ zs) h k = absurd k
  each_one [] (y ∷ ys) zs h k = absurd h
  each_one (x ∷ xs) [] zs h k = absurd h
  each_one (x ∷ xs) (y ∷ ys) [] h k = absurd k
  each_one (x ∷ xs) (y ∷ ys) (z ∷ zs) h k =
      let head = one x y z h.0 k.0 in
      let tail = each_one xs ys zs h.1 k.1 in
      cc

  pub shared : (bytes : B → List ℕ) {xs ys : List A} {x y : A} (d : Differ xs ys x y) {m n : List ℕ} → Made R bytes xs m → Made R bytes ys n → Shared R bytes d m n
  shared bytes {x = x} {y = y} d h k =
      let a = around d.before x d.behind h.outs (rw d.first at h.each) in
      let b = around d.before y d.behind k.outs (rw d.second at k.each) in
      let before = each_one d.before b.before a.before b.each_before a.each_before in
      let behind = each_one d.behind b.behind a.behind b.each_behind a.each_behind in
      record {
        before = a.before;
        behind = a.behind;
        each_before = a.each_before;
        each_behind = a.each_behind;
        own = a.own;
        other = b.own;
        first = a.this;
        second = b.this;
        whole_first = h.whole ∙ ap (joined bytes) a.are ∙ joined_around bytes a.before a.own a.behind;
        whole_second = k.whole ∙ ap (joined bytes) b.are ∙ rw (before, behind) (joined_around bytes a.before b.own a.behind);
      }
