-- A pass over a text, from one pair of marks to the next.
-- Assumes nothing.
use mathlib.Core.Path.{◌≡◌, refl, sym, ◌∙◌, ap}
use mathlib.Core.Bool.{Bool, true, false}
use mathlib.Core.List.{List, [], ◌++◌, append_assoc}
use Prim.Native.Nat.{ℕ, ◌+◌, ◌-◌, ◌*◌, ◌^◌, ◌≤◌, ◌<◌}
use native.Mathlib.Omega.{arith}
use native.Mathlib.Nat.{min-le_left}
use lib.Dec.{ltb}
use lib.ListN.{length, drop, length-append, length-take, length-drop}
use lib.Seq.{take_all}
use Rattle.std.specs.Prelude.{Ok, Err, Option, Some, None, IsSome}
use Rattle.text.specs.Text.{part}
use Rattle.text.proofs.Cases.{never}
use Rattle.attribute.specs.declared.DisplayStyle.{DisplayStyle}
use Rattle.dollars.specs.declared.Delimiter.{Delimiter}
use Rattle.error.specs.declared.Refusal.{Refusal}
use Rattle.latex2mathml.specs.declared.Manner.{Manner}
use Rattle.latex2mathml.specs.Outcome.{Outcome, accepted, refused, ◌>>=◌}
use Rattle.dollars.specs.declared.Delimiter.TheVariants.{Double}
use Rattle.dollars.specs.Dollars.{three_dollars, mark, width}
use Rattle.dollars.specs.Places.{places, odd, next_place, Finds}
use Rattle.latex2mathml.specs.Replace.{translate_body, substitute}
use Rattle.latex2mathml.specs.Laid.{Laid, Lays, RoomFor, Fits, passed, growth, AtMost}
use Rattle.latex2mathml.proofs.TranslateLaws.{translated_short}
use Rattle.latex2mathml.proofs.LayLaws.{laid_nothing, laid_more, front_less}
use Rattle.dollars.proofs.PlaceLaws.{places_none}
use Rattle.dollars.proofs.DollarLaws.{Pair, pair_next}

-- ---- what is done and what is to come

all_to_come : (want : Outcome (List ℕ)) → want ≡ (want >>= (λ l. accepted ([] ++ l)))
unfolding ◌>>=◌
all_to_come (accepted l) = refl
all_to_come (refused r) = refl

regrouped : (done p m l : List ℕ) → done ++ (p ++ m ++ l) ≡ done ++ p ++ m ++ l
regrouped done p m l = simp append_assoc

more_done : (want : Outcome (List ℕ)) (done p m : List ℕ)
    → ((want >>= (λ l. accepted (p ++ m ++ l))) >>= (λ l. accepted (done ++ l))) ≡ (want >>= (λ l. accepted (((done ++ p) ++ m) ++ l)))
unfolding ◌>>=◌
more_done (accepted l) done p m = ap (λ x. accepted x) (regrouped done p m l)
more_done (refused r) done p m = refl

done_fits : (want : Outcome (List ℕ)) (done all : List ℕ) → (want >>= (λ l. accepted (done ++ l))) ≡ accepted all → length done ≤ length all
unfolding ◌>>=◌
done_fits (accepted l) done all e =
    let z : done ++ l ≡ all = cc in
    let n = length-append done l in
    rw (← z) (omega arith)
done_fits (refused r) done all e = never cc

length_part : (a e : ℕ) (l : List ℕ) → length (part a e l) ≤ e - a
length_part a e l = rw (length-take (e - a) (drop a l)) (min-le_left (e - a) (length (drop a l)))

part_all : (a : ℕ) (l : List ℕ) → part a (length l) l ≡ drop a l
part_all a l = take_all (length l - a) (drop a l) (let n = length-drop a l in omega arith)

-- ---- the marks

-- a second mark stands behind a first one
pub second_some : (delimiter : Delimiter) (s : List ℕ) → (delimiter ≡ Double → ltb 0 (length (places three_dollars 0 s)) ≡ false) → (w : ℕ) → w ≡ width delimiter → (from a : ℕ)
    → from ≤ length s → odd (places (mark delimiter) from (drop from s)) ≡ false → a ≡ next_place (mark delimiter) from (drop from s) → a < length s
    → (found : Option ℕ) → Finds (mark delimiter) s (a + w) found → IsSome found
second_some delimiter s apart w wide from a inside even first more None none =
    let p = pair_next delimiter s apart w wide from a (length s) inside even first more (sym none) in
    absurd (omega (arith, p.last, p.some))
second_some delimiter s apart w wide from a inside even first more (Some b) h = refl

-- ---- what is laid so far

pub record Sofar (o₀ o : List ℕ) (start at : ℕ) (done : List ℕ) : Type 0 where
  pub place : at ≡ start + length done
  pub laid : Laid o₀ o start done
  pub same : length o ≡ length o₀

sofar_more : (o₀ o o' : List ℕ) (start at at' : ℕ) (done bs : List ℕ) → Sofar o₀ o start at done
    → at' ≡ at + length bs → Laid o o' at bs → length o' ≡ length o → at + length bs < 2 ^ 64 → Sofar o₀ o' start at' (done ++ bs)
sofar_more o₀ o o' start at at' done bs h e p same small =
    let n = length-append done bs in
    let place = h.place in
    record {
      place = omega arith;
      laid = laid_more o₀ o o' start at done bs (omega arith) h.place h.laid p h.same;
      same = same ∙ h.same;
    }

-- ---- the pass

module _ (manner : Manner) (store : ℕ) (display : DisplayStyle) (delimiter : Delimiter) (s : List ℕ) (w : ℕ) where
  abbrev marks : ℕ → List ℕ
  marks from = places (mark delimiter) from (drop from s)

  abbrev rest : ℕ → Outcome (List ℕ)
  rest from = substitute manner store display w s from (marks from)

  -- the text up to `from` is done and laid up to the place `at`
  pub record Passing (o₀ o : List ℕ) (start at from : ℕ) : Type 0 where
    pub wide : w ≡ width delimiter
    pub done : List ℕ
    pub whole : passed manner store display delimiter s ≡ (rest from >>= (λ l. accepted (done ++ l)))
    pub sofar : Sofar o₀ o start at done
    pub most : at ≤ start + from * growth
    pub inside : from ≤ length s
    pub even : odd (marks from) ≡ false

  pub passing_none : (o : List ℕ) (start : ℕ) → w ≡ width delimiter → odd (places (mark delimiter) 0 s) ≡ false → Passing o o start start 0
  passing_none o start wide even = record {
    wide = wide;
    done = [];
    whole = rw (← wide) (all_to_come (rest 0));
    sofar = record { place = omega arith; laid = laid_nothing o start; same = refl };
    most = omega arith;
    inside = omega arith;
    even = even;
  }

  module _ {o₀ o : List ℕ} {start at from : ℕ} (small : start + length s * growth < 2 ^ 64) (h : Passing o₀ o start at from) where
    -- the last piece
    pub last_small : at + length (part from (length s) s) < 2 ^ 64
    last_small =
        let n = length_part from (length s) s in
        let most = h.most in
        let inside = h.inside in
        omega arith

    pub passing_all : (o' : List ℕ) {a r : ℕ} → a ≡ next_place (mark delimiter) from (drop from s) → a ≡ length s → r ≡ at + length (part from (length s) s)
        → Laid o o' at (part from (length s) s) → length o' ≡ length o
        → Lays (passed manner store display delimiter s) o₀ o' start (Ok r) × AtMost (start + length s * growth) (Ok r)
    unfolding substitute ◌>>=◌
    passing_all o' {a} {r} e end place laid same =
        let most = h.most in
        let inside = h.inside in
        let n = length_part from (length s) s in
        let f = sofar_more o₀ o o' start at r h.done (part from (length s) s) h.sofar place laid same last_small in (
          record {
            text = h.done ++ part from (length s) s;
            is = h.whole ∙ rw (places_none (mark delimiter) s from a h.inside e end, part_all from s);
            place = f.place;
            laid = f.laid;
          },
          omega arith,
        )

    -- a piece of prose and a body behind it
    module _ (a b : ℕ) (p : Pair delimiter s w from a b) where
      prose_long : length (part from a s) ≤ a - from
      prose_long = length_part from a s

      pub prose_small : at + length (part from a s) < 2 ^ 64
      prose_small =
          let n = prose_long in
          let most = h.most in
          let first = p.first in
          let gap = p.gap in
          let last = p.last in
          omega arith

      -- with the prose laid up to the place at₁
      module _ (o₁ : List ℕ) (at₁ : ℕ) (place : at₁ ≡ at + length (part from a s)) (laid : Laid o o₁ at (part from a s)) (same : length o₁ ≡ length o) where
        prose : Sofar o₀ o₁ start at₁ (h.done ++ part from a s)
        prose = sofar_more o₀ o o₁ start at at₁ h.done (part from a s) h.sofar place laid same prose_small

        prose_most : at₁ ≤ start + a * growth
        prose_most =
            let n = prose_long in
            let most = h.most in
            let first = p.first in
            omega arith

        -- the whole, with the body translated or refused
        whole_next : (m : List ℕ) → translate_body manner store display (part (a + w) b s) ≡ accepted m
            → passed manner store display delimiter s ≡ (rest (b + w) >>= (λ l. accepted (((h.done ++ part from a s) ++ m) ++ l)))
        unfolding substitute ◌>>=◌
        whole_next m is = h.whole ∙ rw (p.marks, substitute, is) (more_done (rest (b + w)) h.done (part from a s) m)

        body_most : (m : List ℕ) → translate_body manner store display (part (a + w) b s) ≡ accepted m → at₁ + length m ≤ start + (b + w) * growth
        body_most m is =
            let short = translated_short manner (part (a + w) b s) display store m is in
            let n = length_part (a + w) b s in
            let most = prose_most in
            let gap = p.gap in
            let some = p.some in
            omega arith

        pub body_room : (sure : Bool) → (sure ≡ true → Fits (passed manner store display delimiter s) o₀ start)
            → RoomFor (translate_body manner store display (part (a + w) b s)) sure o₁ at₁
        body_room sure fits m is =
            let most = body_most m is in
            let last = p.last in
            let place₁ = prose.place in
            let same₁ = prose.same in
            let n = length-append (h.done ++ part from a s) m in
            record {
              small = omega arith;
              inside = λ e.
                  let f = fits e in
                  let k = done_fits (rest (b + w)) ((h.done ++ part from a s) ++ m) f.text (sym (whole_next m is) ∙ f.is) in
                  let room = f.inside in
                  omega arith;
            }

        pub passing_refused : (o₂ : List ℕ) (r : Refusal)
            → Lays (translate_body manner store display (part (a + w) b s)) o₁ o₂ at₁ (Err r)
            → Lays (passed manner store display delimiter s) o₀ o₂ start (Err r) × AtMost (start + length s * growth) (Err r)
        unfolding substitute ◌>>=◌
        passing_refused o₂ r (is, front) =
            let place₁ = prose.place in (
              (
                h.whole ∙ rw (p.marks, substitute, is),
                front_less start at₁ _ _ (omega arith) front ∙ prose.laid.1,
              ),
              tt,
            )

        pub passing_more : {o₂ : List ℕ} (r : ℕ) → length o₂ ≡ length o₁
            → Lays (translate_body manner store display (part (a + w) b s)) o₁ o₂ at₁ (Ok r)
            → Passing o₀ o₂ start r (b + w)
        passing_more {o₂} r same₂ q =
            let most = body_most q.text q.is in
            let last = p.last in
            let place₂ = q.place in
            record {
              wide = h.wide;
              done = (h.done ++ part from a s) ++ q.text;
              whole = whole_next q.text q.is;
              sofar = sofar_more o₀ o₁ o₂ start at₁ r (h.done ++ part from a s) q.text prose q.place q.laid same₂ (omega arith);
              most = omega arith;
              inside = p.last;
              even = p.even;
            }
