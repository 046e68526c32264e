-- A pass over a text whose bodies are known: each body comes out translated, and all else as it stands.
-- Assumes nothing.
use mathlib.Core.Path.{◌≡◌, refl, sym, ◌∙◌}
use mathlib.Core.List.{List, [], ◌∷◌, ◌++◌, flatten, append_assoc}
use Prim.Native.Nat.{ℕ, ◌+◌, ◌-◌}
use native.Mathlib.Omega.{arith}
use lib.ListN.{length, drop, length-append, length-replicate}
use lib.Seq.{take_at, drop_at}
use Rattle.text.specs.Text.{part}
use Rattle.text.proofs.Cases.{never}
use Rattle.attribute.specs.declared.DisplayStyle.{DisplayStyle}
use Rattle.latex2mathml.specs.declared.Manner.{Manner}
use Rattle.latex2mathml.specs.Outcome.{Outcome, accepted, refused, ◌>>=◌}
use Rattle.dollars.specs.declared.Delimiter.{Delimiter}
use Rattle.dollars.specs.Places.{places}
use Rattle.latex2mathml.specs.Replace.{translate_body, substitute}
use Rattle.dollars.specs.Dollars.{mark, width}
use Rattle.latex2mathml.specs.Laid.{passed}
use Rattle.page.specs.Demand.{Each, joined, Made}
use Rattle.page.specs.Words.{dollars}

-- what stands between two lists
pub part_at : (s p b q : List ℕ) (a e : ℕ) → s ≡ p ++ (b ++ q) → a ≡ length p → e ≡ a + length b → part a e s ≡ b
part_at s p b q a e cut first last =
    let n : e - a ≡ length b = omega arith in
    rw (n, cut, drop_at p (b ++ q) a (sym first)) (take_at b q (length b) refl)

-- ---- the text

-- bytes that stay, or a body between two marks
pub data Item : Type 0 where
  still : List ℕ → Item
  body : List ℕ → Item

module _ (delimiter : Delimiter) where
  abbrev pub marked : List Item → List ℕ
  marked [] = []
  marked (still x ∷ rest) = x ++ marked rest
  marked (body b ∷ rest) = dollars (width delimiter) ++ (b ++ (dollars (width delimiter) ++ marked rest))

  -- the marks of the text are those around its bodies
  abbrev pub Finds : List Item → Type 0
  Finds [] = Unit {0}
  Finds (still x ∷ rest) = ((at : ℕ) → places (mark delimiter) at (x ++ marked rest) ≡ places (mark delimiter) (at + length x) (marked rest)) × Finds rest
  Finds (body b ∷ rest) =
      ((at : ℕ) → places (mark delimiter) at (marked (body b ∷ rest))
      ≡ at ∷ (at + width delimiter + length b) ∷ places (mark delimiter) (at + width delimiter + length b + width delimiter) (marked rest))
      × Finds rest

-- ---- the pass

-- a body's markup and what comes behind it, both accepted
record Turn (own others : Outcome (List ℕ)) (done text : List ℕ) : Type 0 where
  pub markup : List ℕ
  pub is : own ≡ accepted markup
  pub behind : List ℕ
  pub next : others ≡ accepted behind
  pub whole : text ≡ done ++ (markup ++ behind)

two_steps : (own others : Outcome (List ℕ)) (done text : List ℕ) → (own >>= (λ m. others >>= (λ l. accepted (done ++ m ++ l)))) ≡ accepted text
    → Turn own others done text
unfolding ◌>>=◌
two_steps (accepted m) (accepted l) done text e =
    let whole : done ++ m ++ l ≡ text = cc in
    record { markup = m; is = refl; behind = l; next = refl; whole = sym whole ∙ append_assoc done m l }
two_steps (accepted m) (refused r) done text e = never cc
two_steps (refused r) (accepted l) done text e = never cc
two_steps (refused r) (refused q) done text e = never cc

module _ (manner : Manner) (store : ℕ) (display : DisplayStyle) where
  abbrev pub Becomes : Item → List ℕ → Type 0
  Becomes (still x) y = y ≡ x
  Becomes (body b) y = translate_body manner store display b ≡ accepted y

  -- what is done already, and what the items behind it become
  record Rest (done : List ℕ) (items : List Item) (text : List ℕ) : Type 0 where
    pub outs : List (List ℕ)
    pub each : Each Becomes items outs
    pub whole : text ≡ done ++ joined (λ t. t) outs

  still_rest : (x done text : List ℕ) (items : List Item) → Rest (done ++ x) items text → Rest done (still x ∷ items) text
  unfolding flatten
  still_rest x done text items r =
      record { outs = x ∷ r.outs; each = (refl, r.each); whole = r.whole ∙ append_assoc done x (joined (λ t. t) r.outs) }

  body_rest : {b done text : List ℕ} {items : List Item} {others : Outcome (List ℕ)} (t : Turn (translate_body manner store display b) others done text)
      → Rest [] items t.behind → Rest done (body b ∷ items) text
  unfolding flatten
  body_rest t r = record { outs = t.markup ∷ r.outs; each = (t.is, r.each); whole = rw (← r.whole) t.whole }

  module _ (delimiter : Delimiter) (s : List ℕ) where
    abbrev w : ℕ
    w = width delimiter

    -- from one pair of marks to what is behind it
    turn : (from a e : ℕ) (marks done b text : List ℕ) → part (a + w) e s ≡ b → part from a s ≡ done
        → substitute manner store display w s from (a ∷ e ∷ marks) ≡ accepted text
        → Turn (translate_body manner store display b) (substitute manner store display w s (e + w) marks) done text
    unfolding substitute
    turn from a e marks done b text own front is =
        two_steps (translate_body manner store display b) (substitute manner store display w s (e + w) marks) done text (rw (own, front) at is)

    -- from is the place of what is done, at the place behind it
    rest : (items : List Item) (before done text : List ℕ) (from at : ℕ) → Finds delimiter items
        → s ≡ before ++ (done ++ marked delimiter items) → from ≡ length before → at ≡ from + length done
        → substitute manner store display w s from (places (mark delimiter) at (marked delimiter items)) ≡ accepted text → Rest done items text
    unfolding substitute places flatten
    rest [] before done text from at h cut first last is = record {
      outs = [];
      each = tt;
      whole = let z : drop from s ≡ text = cc in sym z ∙ rw cut (drop_at before (done ++ []) from (sym first));
    }
    rest (still x ∷ items) before done text from at h cut first last is =
        let n = length-append done x in
        still_rest x done text items
        (rest items before (done ++ x) text from (at + length x) h.1 (cut ∙ simp append_assoc) first (omega arith) (rw (h.0 at) at is))
    rest (body b ∷ items) before done text from at h cut first last is =
        let d = dollars w in
        let n = length-replicate {A = ℕ} w 36 in
        let e = at + w + length b in
        let own = part_at s (before ++ (done ++ d)) b (d ++ marked delimiter items) (at + w) e (cut ∙ simp append_assoc) (simp length-append (omega arith)) refl in
        let t = turn from at e (places (mark delimiter) (e + w) (marked delimiter items)) done b text own (part_at s before done _ from at cut first last) (rw (h.0 at) at is) in
        body_rest t
        (rest items (before ++ (done ++ (d ++ (b ++ d)))) [] t.behind (e + w) (e + w) h.1 (cut ∙ simp append_assoc) (simp length-append (omega arith)) (omega arith) t.next)

  pub passed_made : (delimiter : Delimiter) (items : List Item) (text : List ℕ) → Finds delimiter items
      → passed manner store display delimiter (marked delimiter items) ≡ accepted text → Made Becomes (λ t. t) items text
  passed_made delimiter items text h is =
      let r = rest delimiter (marked delimiter items) items [] [] text 0 0 h refl refl refl is in
      record { outs = r.outs; each = r.each; whole = r.whole }
