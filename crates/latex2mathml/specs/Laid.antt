-- What it is to lay a text into a buffer at a place: it is written there, or written there if it fits and only counted if not.
-- Assumes nothing.
use Rattle.std.specs.Prelude.{◌≡◌, Bool, true, false, List, ℕ, ◌+◌, ◌*◌, ◌^◌, ◌≤◌, ◌<◌, ltb, length, take, Result, Ok, Err}
use Rattle.text.specs.Put.{put, PutsAt}
use Rattle.attribute.specs.declared.DisplayStyle.{DisplayStyle}
use Rattle.error.specs.declared.Refusal.{Refusal}
use Rattle.latex2mathml.specs.declared.Manner.{Manner}
use Rattle.latex2mathml.specs.Outcome.{Outcome, accepted, refused, ◌>>=◌, refuse}
use Rattle.dollars.specs.declared.Delimiter.{Delimiter}
use Rattle.dollars.specs.declared.Delimiter.TheVariants.{Single, Double}
use Rattle.dollars.specs.Dollars.{three_dollars, mark, width}
use Rattle.dollars.specs.Places.{places, odd}
use Rattle.latex2mathml.specs.Replace.{substitute}

-- the buffer that was o holds m at the place `at`, if m fits there, and what lies before the place is unchanged
abbrev pub Laid : List ℕ → List ℕ → ℕ → List ℕ → Type 0
Laid o o' at m = (at + length m ≤ length o → o' ≡ put o at m) × (take at o' ≡ take at o)

-- what is wanted is accepted and laid at the place, and r is the place behind it
pub record LaidThere (want : Outcome (List ℕ)) (o o' : List ℕ) (at r : ℕ) : Type 0 where
  pub text : List ℕ
  pub is : want ≡ accepted text
  pub place : r ≡ at + length text
  pub laid : Laid o o' at text

-- .. or it is refused, and only what lies behind the place may have changed
abbrev pub Lays : Outcome (List ℕ) → List ℕ → List ℕ → ℕ → Result ℕ Refusal → Type 0
Lays want o o' at (Ok r) = LaidThere want o o' at r
Lays want o o' at (Err r) = (want ≡ refused r) × (take at o' ≡ take at o)

-- the place behind n bytes is a number of the machine, and where they are sure to fit the buffer has them
pub record Space (sure : Bool) (o : List ℕ) (at n : ℕ) : Type 0 where
  pub small : at + n < 2 ^ 64
  pub inside : sure ≡ true → at + n ≤ length o

-- there is room for what is wanted, if it is accepted; where it is sure to fit, in the buffer
abbrev pub RoomFor : Outcome (List ℕ) → Bool → List ℕ → ℕ → Type 0
RoomFor want sure o at = (m : List ℕ) → want ≡ accepted m → Space sure o at (length m)

-- what is wanted is accepted and fits into the buffer
pub record Fits (want : Outcome (List ℕ)) (o : List ℕ) (at : ℕ) : Type 0 where
  pub text : List ℕ
  pub is : want ≡ accepted text
  pub inside : at + length text ≤ length o

-- .. and it is written there, and r is the place behind it
pub record WrittenThere (want : Outcome (List ℕ)) (o o' : List ℕ) (at r : ℕ) : Type 0 where
  pub text : List ℕ
  pub is : want ≡ accepted text
  pub puts : PutsAt o o' at text r

-- what is wanted is accepted and has n bytes, and the buffer begins with it if it has as many
pub record Begins (want : Outcome (List ℕ)) (o : List ℕ) (n : ℕ) : Type 0 where
  pub text : List ℕ
  pub is : want ≡ accepted text
  pub long : n ≡ length text
  pub front : n ≤ length o → take n o ≡ text

-- what is wanted, or 12 where an output of `room` bytes is too small for it
abbrev pub in_room : ℕ → Outcome (List ℕ) → Outcome (List ℕ)
in_room room want = want >>= (λ output. refuse (ltb room (length output)) Refusal.OutputTooSmall >>= (λ _. accepted output))

-- how the bodies of a pass are displayed: block between two dollars, inline between one
abbrev pub display_of : Delimiter → DisplayStyle
display_of Single = DisplayStyle.Inline
display_of Double = DisplayStyle.Block

-- a pass: the text with the bodies between its marks translated
abbrev pub passed : Manner → ℕ → DisplayStyle → Delimiter → List ℕ → Outcome (List ℕ)
passed m store display delimiter s = substitute m store display (width delimiter) s 0 (places (mark delimiter) 0 s)

-- no byte of a text grows to more than this many in a pass
abbrev pub growth : ℕ
growth = 2 ^ 19

-- what a pass asks for: places that are numbers of the machine, marks that are even in number and do not overlap,
-- and a text that fits where it is sure to
pub record Passable (m : Manner) (store : ℕ) (display : DisplayStyle) (delimiter : Delimiter) (s : List ℕ) (sure : Bool) (o : List ℕ) (at : ℕ) : Type 0 where
  pub small : at + length s * growth < 2 ^ 64
  pub even : odd (places (mark delimiter) 0 s) ≡ false
  pub apart : delimiter ≡ Double → ltb 0 (length (places three_dollars 0 s)) ≡ false
  pub fits : sure ≡ true → Fits (passed m store display delimiter s) o at

-- how long an accepted answer is at most
abbrev pub AtMost : ℕ → Result ℕ Refusal → Type 0
AtMost n (Ok r) = r ≤ n
AtMost n (Err r) = Unit {0}
