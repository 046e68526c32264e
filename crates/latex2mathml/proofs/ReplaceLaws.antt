-- The two passes of a replacement, test by test.
-- Assumes nothing.
use mathlib.Core.Path.{◌≡◌, refl, sym, ◌∙◌, ap}
use mathlib.Core.Bool.{Bool, true, false, not}
use mathlib.Core.List.{List, []}
use Prim.Native.Nat.{ℕ, ◌+◌, ◌*◌, ◌^◌, ◌≤◌, ◌<◌}
use native.Mathlib.Omega.{arith}
use lib.Dec.{ltb}
use lib.ListN.{length, take, drop}
use lib.Seq.{take_at, length-take-le}
use borrow.Author.Tests.{ltb-false, lt-ltb, le-ltb}
use Rattle.std.specs.Prelude.{Result, Ok, Err, Option, Some, None, is_some}
use Rattle.text.specs.Utf8.{well_formed}
use Rattle.text.specs.Any.{has_nul}
use Rattle.text.specs.Put.{PutsAt}
use Rattle.text.proofs.Cases.{never}
use Rattle.text.proofs.PutLaws.{puts_all}
use Rattle.attribute.specs.declared.DisplayStyle.{DisplayStyle}
use Rattle.dollars.specs.declared.Delimiter.{Delimiter}
use Rattle.dollars.specs.declared.Delimiter.TheVariants.{Single, Double}
use Rattle.error.specs.declared.Refusal.{Refusal}
use Rattle.latex2mathml.specs.declared.Manner.{Manner}
use Rattle.latex2mathml.specs.Outcome.{Outcome, accepted, refused, ◌>>=◌, refuse, bytes_of, document_limit}
use Rattle.dollars.specs.Dollars.{dollar, two_dollars, three_dollars, mark}
use Rattle.dollars.specs.Places.{places, odd, next_place, Finds}
use Rattle.latex2mathml.specs.Translate.{checked}
use Rattle.latex2mathml.specs.Replace.{substitute, first_pass, second_pass, replacement, replace_outcome, replace}
use Rattle.latex2mathml.specs.Written.{over, Gives, Replaces}
use Rattle.latex2mathml.specs.Laid.{Laid, LaidThere, Lays, Fits, WrittenThere, Begins, in_room, passed, growth, Passable, AtMost}
use Rattle.latex2mathml.proofs.OutcomeLaws.{steps, not_refused}
use Rattle.latex2mathml.proofs.TranslateLaws.{check_gives, gives_nothing, gives_markup}
use Rattle.dollars.proofs.PlaceLaws.{places_none}
use Rattle.dollars.proofs.DollarLaws.{three_none}

-- ---- answers and outcomes

pub at_most : (m n : ℕ) (r : Result ℕ Refusal) → m ≤ n → AtMost m r → AtMost n r
at_most m n (Ok k) h l = omega arith
at_most m n (Err r) h l = tt

-- a buffer in which a text was laid begins with it, if it has the room
pub begins_laid : {want want' : Outcome (List ℕ)} {b b' : List ℕ} {n : ℕ} (q : LaidThere want b b' 0 n) → want' ≡ accepted q.text → length b' ≡ length b → Begins want' b' n
begins_laid {want} {want'} {b} {b'} {n} q is same =
    let e = q.place in
    record {
      text = q.text;
      is = is;
      long = omega arith;
      front = λ fits.
          let p : PutsAt b b' 0 q.text n = record { place = q.place; output = q.laid.0 (omega arith) } in
          rw (puts_all p) (take_at q.text (drop (length q.text) b) n (omega arith));
    }

-- ---- pass one

module _ (manner : Manner) (d : List ℕ) (store work : ℕ) where
  -- what each test refuses, by the definition of the pass itself
  pub first_long : 32768 < length d → first_pass manner d store work ≡ refused Refusal.TooLong
  unfolding first_pass checked refuse ◌>>=◌ document_limit
  first_long h = simp (first_pass, checked, lt-ltb 32768 (length d) h)

  module _ (short : length d ≤ 32768) where
    pub first_ill_formed : well_formed d ≡ false → first_pass manner d store work ≡ refused Refusal.IllFormed
    unfolding first_pass checked refuse ◌>>=◌ document_limit
    first_ill_formed e = simp (first_pass, checked, le-ltb 32768 (length d) short, e)

    pub first_nul : well_formed d ≡ true → has_nul d ≡ true → first_pass manner d store work ≡ refused Refusal.NulByte
    unfolding first_pass checked refuse ◌>>=◌ document_limit
    first_nul well e = simp (first_pass, checked, le-ltb 32768 (length d) short, well, e)

  pub first_unchecked : {r : Refusal} → checked 32768 d ≡ refused r → first_pass manner d store work ≡ refused r
  unfolding first_pass checked ◌>>=◌ document_limit
  first_unchecked e = rw (first_pass, e)

  module _ (passes : checked 32768 d ≡ accepted tt) where
    pub first_odd : odd (places two_dollars 0 d) ≡ true → first_pass manner d store work ≡ refused Refusal.InvalidNumberOfDollarSigns
    unfolding first_pass checked refuse ◌>>=◌ document_limit
    first_odd e = rw (first_pass, passes, e)

    pub first_three : odd (places two_dollars 0 d) ≡ false → ltb 0 (length (places three_dollars 0 d)) ≡ true
        → first_pass manner d store work ≡ refused Refusal.ThreeDollarSigns
    unfolding first_pass checked refuse ◌>>=◌ document_limit
    first_three even e = rw (first_pass, passes, even, e)

-- a document whose bodies are looked at
pub record Checked (d : List ℕ) : Type 0 where
  pub passes : checked 32768 d ≡ accepted tt
  pub even : odd (places two_dollars 0 d) ≡ false
  pub apart : ltb 0 (length (places three_dollars 0 d)) ≡ false

-- no first mark was found
pub no_mark : (test : List ℕ → Bool) (s : List ℕ) (found : Option ℕ) (none : Bool) → Finds test s 0 found → is_some found ≡ not none → none ≡ true
    → length s ≡ next_place test 0 s
no_mark test s None none h e f = sym h
no_mark test s (Some a) none h e f = let z = rw f at e in never cc

-- a text without marks is its own pass
module _ (delimiter : Delimiter) (s : List ℕ) (none : length s ≡ next_place (mark delimiter) 0 s) where
  no_marks : places (mark delimiter) 0 s ≡ []
  no_marks = places_none (mark delimiter) s 0 (length s) (omega arith) none refl

  pub plain_even : odd (places (mark delimiter) 0 s) ≡ false
  unfolding odd
  plain_even = rw no_marks

module _ (manner : Manner) (store : ℕ) (display : DisplayStyle) (delimiter : Delimiter) (s : List ℕ) (none : length s ≡ next_place (mark delimiter) 0 s) where
  pub plain_passed : passed manner store display delimiter s ≡ accepted s
  unfolding substitute
  plain_passed = rw (no_marks delimiter s none, substitute)

  -- where it is laid
  pub plain_laid : (o o' : List ℕ) (at r : ℕ) → r ≡ at + length s → Laid o o' at s → LaidThere (passed manner store display delimiter s) o o' at r
  plain_laid o o' at r place laid = record { text = s; is = plain_passed; place = place; laid = laid }

-- no windows, and so no three dollars in a row
pub plain_checked : (d : List ℕ) → checked 32768 d ≡ accepted tt → length d ≡ next_place two_dollars 0 d → Checked d
plain_checked d passes none = record {
  passes = passes;
  even = plain_even Double d none;
  apart = rw (three_none d 0 (length d) (omega arith) none (omega arith) (omega arith));
}

module _ (manner : Manner) (d : List ℕ) (store work : ℕ) where
  pub first_is : Checked d → first_pass manner d store work ≡ (passed manner store DisplayStyle.Block Double d >>= (λ text. refuse (ltb work (length text)) Refusal.WorkTooSmall >>= (λ _. accepted text)))
  unfolding first_pass checked refuse ◌>>=◌ document_limit
  first_is h = rw (first_pass, h.passes, h.even, h.apart)

  -- a text too long for the work buffer
  too_long : (h : Checked d) (text : List ℕ) → passed manner store DisplayStyle.Block Double d ≡ accepted text → work < length text → first_pass manner d store work ≡ refused Refusal.WorkTooSmall
  unfolding refuse ◌>>=◌
  too_long h text is l = first_is h ∙ rw (is, lt-ltb work (length text) l)

  pub plain_large : Checked d → length d ≡ next_place two_dollars 0 d → work < length d → first_pass manner d store work ≡ refused Refusal.WorkTooSmall
  plain_large h none l = too_long h d (plain_passed manner store DisplayStyle.Block Double d none) l

  module _ (b b' : List ℕ) (h : Checked d) where
    pub first_refused : (r : Refusal) → Lays (passed manner store DisplayStyle.Block Double d) b b' 0 (Err r)
        → Lays (first_pass manner d store work) b b' 0 (Err r)
    unfolding ◌>>=◌
    first_refused r (is, front) = (first_is h ∙ rw is, front)

    pub first_large : (n : ℕ) → LaidThere (passed manner store DisplayStyle.Block Double d) b b' 0 n → work < n
        → Lays (first_pass manner d store work) b b' 0 (Err Refusal.WorkTooSmall)
    first_large n q l =
        let e = q.place in
        (too_long h q.text q.is (omega arith), q.laid.1)

    pub first_fits : (n : ℕ) → LaidThere (passed manner store DisplayStyle.Block Double d) b b' 0 n → n ≤ work
        → LaidThere (first_pass manner d store work) b b' 0 n
    unfolding refuse ◌>>=◌
    first_fits n q l =
        let e = q.place in
        record { text = q.text; is = first_is h ∙ rw (q.is, le-ltb work (length q.text) (omega arith)); place = q.place; laid = q.laid }

  -- what an accepted pass one says of the document
  pub record First (text : List ℕ) : Type 0 where
    pub checked : Checked d
    pub is : passed manner store DisplayStyle.Block Double d ≡ accepted text
    pub inside : length text ≤ work

  module _ (text : List ℕ) (is : first_pass manner d store work ≡ accepted text) where
    pub first_accepted : First text
    unfolding first_pass checked ◌>>=◌ document_limit
    first_accepted =
        let passes = steps (checked 32768 d) _ text is in
        let even = not_refused (odd (places two_dollars 0 d)) Refusal.InvalidNumberOfDollarSigns _ text passes.then in
        let apart = not_refused (ltb 0 (length (places three_dollars 0 d))) Refusal.ThreeDollarSigns _ text even.1 in
        let read = steps (passed manner store DisplayStyle.Block Double d) _ text apart.1 in
        let fits = not_refused (ltb work (length read.value)) Refusal.WorkTooSmall _ text read.then in
        let same : read.value ≡ text = let e = fits.1 in cc in
        record {
          checked = record {
            passes = passes.is;
            even = even.0;
            apart = apart.0;
          };
          is = read.is ∙ ap (λ x. accepted x) same;
          inside = rw same at (ltb-false work (length read.value) fits.0);
        }

    pub first_passable : (w : List ℕ) → work ≡ length w → Passable manner store DisplayStyle.Block Double d true w 0
    first_passable w lent =
        let f = first_accepted in
        let short = (check_gives 32768 d f.checked.passes).0 in
        let room = f.inside in
        record {
          small = omega arith;
          even = f.checked.even;
          apart = λ e. f.checked.apart;
          fits = λ e. record { text = text; is = f.is; inside = omega arith };
        }

-- ---- pass two

module _ (manner : Manner) (store : ℕ) (text : List ℕ) where
  pub second_odd : odd (places dollar 0 text) ≡ true → second_pass manner store text ≡ refused Refusal.InvalidNumberOfDollarSigns
  unfolding second_pass refuse ◌>>=◌
  second_odd e = rw (second_pass, e)

  pub second_is : odd (places dollar 0 text) ≡ false → second_pass manner store text ≡ passed manner store DisplayStyle.Inline Single text
  unfolding second_pass refuse ◌>>=◌
  second_is e = rw (second_pass, e)

  -- an accepted pass two can be written
  module _ (m : List ℕ) (is : second_pass manner store text ≡ accepted m) where
    second_steps : (odd (places dollar 0 text) ≡ false) × (passed manner store DisplayStyle.Inline Single text ≡ accepted m)
    unfolding second_pass
    second_steps = not_refused (odd (places dollar 0 text)) Refusal.InvalidNumberOfDollarSigns _ m is

    pub second_passed : passed manner store DisplayStyle.Inline Single text ≡ accepted m
    second_passed = second_steps.1

    pub second_written : {o o' : List ℕ} {at r : ℕ} → WrittenThere (passed manner store DisplayStyle.Inline Single text) o o' at r → PutsAt o o' at m r
    second_written q =
        let same : q.text ≡ m = let z = q.is in let y = second_passed in cc in
        rw (← same) q.puts

    pub second_passable : (o : List ℕ) (at : ℕ) → at + length text * growth < 2 ^ 64 → at + length m ≤ length o → Passable manner store DisplayStyle.Inline Single text true o at
    second_passable o at small room = record {
      small = small;
      even = second_steps.0;
      apart = λ f. never cc;
      fits = λ f. record { text = m; is = second_passed; inside = room };
    }

pub finish_refused : (want : Outcome (List ℕ)) (r : Refusal) (o : List ℕ) → want ≡ refused r → Gives (in_room (length o) want) (Err r) o o
unfolding ◌>>=◌
finish_refused want r o is = gives_nothing o (rw is)

module _ (manner : Manner) (store : ℕ) (text : List ℕ) (n : ℕ) (o b b₁ : List ℕ) (a : LaidThere (second_pass manner store text) b b₁ 0 n) where
  pub too_small : length o < n → Gives (in_room (length o) (second_pass manner store text)) (Err Refusal.OutputTooSmall) o o
  unfolding refuse ◌>>=◌
  too_small l =
      let e = a.place in
      gives_nothing o (rw (a.is, lt-ltb (length o) (length a.text) (omega arith)))

  pub finish_passable : length text * growth < 2 ^ 64 → n ≤ length o → Passable manner store DisplayStyle.Inline Single text true o 0
  finish_passable small l =
      let e = a.place in
      second_passable manner store text a.text a.is o 0 (omega arith) (omega arith)

  pub finish_begins : length b₁ ≡ length b → Begins (passed manner store DisplayStyle.Inline Single text) b₁ n
  finish_begins same = begins_laid a (second_passed manner store text a.text a.is) same

  pub finished : {o' : List ℕ} {r : ℕ} → n ≤ length o → WrittenThere (passed manner store DisplayStyle.Inline Single text) o o' 0 r
      → Gives (in_room (length o) (second_pass manner store text)) (Ok n) o o'
  unfolding refuse ◌>>=◌
  finished {o'} {r} l q =
      let e = a.place in
      gives_markup (rw (a.is, le-ltb (length o) (length a.text) (omega arith))) (omega arith) (second_written manner store text a.text a.is q)

-- ---- the text of pass one in the work buffer

pub record Drafted (manner : Manner) (d : List ℕ) (store : ℕ) (w w' : List ℕ) (n : ℕ) : Type 0 where
  pub text : List ℕ
  pub first : first_pass manner d store (length w) ≡ accepted text
  pub long : n ≡ length text
  pub inside : n ≤ length w'
  pub front : take n w' ≡ text
  pub output : w' ≡ over text w
  pub short : length d ≤ 32768
  pub most : n ≤ length d * growth

module _ (manner : Manner) (d : List ℕ) (store : ℕ) (w w' : List ℕ) (n : ℕ) where
  drafted : (text : List ℕ) {r : ℕ} → first_pass manner d store (length w) ≡ accepted text → PutsAt w w' 0 text r → n ≡ length text → length w' ≡ length w
      → n ≤ length d * growth → Drafted manner d store w w' n
  unfolding over
  drafted text is p long same most =
      let f = first_accepted manner d store (length w) text is in
      let room = f.inside in
      record {
        text = text;
        first = is;
        long = long;
        inside = omega arith;
        front = rw (puts_all p) (take_at text (drop (length text) w) n (sym long));
        output = puts_all p;
        short = (check_gives 32768 d f.checked.passes).0;
        most = most;
      }

  -- written at once, as it fits
  pub drafted_laid : LaidThere (first_pass manner d store (length w)) w w' 0 n → length w' ≡ length w → n ≤ length d * growth → Drafted manner d store w w' n
  drafted_laid q same most =
      let f = first_accepted manner d store (length w) q.text q.is in
      let room = f.inside in
      let place = q.place in
      drafted q.text q.is (record { place = q.place; output = q.laid.0 (omega arith) }) (omega arith) same most

  -- written after it was measured
  pub drafted_written : (text : List ℕ) {r : ℕ} → first_pass manner d store (length w) ≡ accepted text → WrittenThere (passed manner store DisplayStyle.Block Double d) w w' 0 r
      → n ≡ length text → length w' ≡ length w → n ≤ length d * growth → Drafted manner d store w w' n
  drafted_written text is q long same most =
      let f = (first_accepted manner d store (length w) text is).is in
      let g = q.is in
      let e : q.text ≡ text = cc in
      drafted text is (rw e at q.puts) long same most

  module _ (q : Drafted manner d store w w' n) where
    pub front_long : n ≡ length (take n w')
    front_long = sym (length-take-le n w' q.inside)

    pub front_small : length (take n w') * growth < 2 ^ 63
    front_small =
        let e = front_long in
        let short = q.short in
        let most = q.most in
        omega arith

-- ---- the replacement

module _ (manner : Manner) (d : List ℕ) (store : ℕ) (w b b₁ : List ℕ) (n : ℕ) (q : LaidThere (first_pass manner d store (length w)) b b₁ 0 n) where
  pub replace_passable : Passable manner store DisplayStyle.Block Double d true w 0
  replace_passable = first_passable manner d store (length w) q.text q.is w refl

  pub replace_begins : length b₁ ≡ length b → Begins (passed manner store DisplayStyle.Block Double d) b₁ n
  replace_begins same = begins_laid q (first_accepted manner d store (length w) q.text q.is).is same

  pub replace_drafted : (most : n ≤ length d * growth) (w' : List ℕ) {r : ℕ} → length w' ≡ length w → WrittenThere (passed manner store DisplayStyle.Block Double d) w w' 0 r
      → Drafted manner d store w w' n
  replace_drafted most w' same first =
      let e = q.place in
      drafted_written manner d store w w' n q.text q.is first (omega arith) same most

module _ (manner : Manner) (d : List ℕ) (store : ℕ) (w o : List ℕ) where
  pub replace_refused : (r : Refusal) → first_pass manner d store (length w) ≡ refused r → Replaces manner d store (Err r) w w o o
  unfolding replace replace_outcome replacement ◌>>=◌ bytes_of over
  replace_refused r is = record { gives = gives_nothing o (rw is); work = rw is }

  pub replace_accepted : {w' o' : List ℕ} {n : ℕ} (r : Result ℕ Refusal) → (q : Drafted manner d store w w' n)
      → Gives (in_room (length o) (second_pass manner store (take n w'))) r o o' → Replaces manner d store r w w' o o'
  unfolding replace replace_outcome replacement ◌>>=◌ bytes_of
  replace_accepted r q g = record { gives = rw q.first (rw q.front at g); work = rw q.first q.output }

-- the replacement is pass two of the text of pass one
pub replacement_is : (manner : Manner) (d : List ℕ) (store work : ℕ) (text : List ℕ) → first_pass manner d store work ≡ accepted text → replacement manner d store work ≡ second_pass manner store text
unfolding replacement ◌>>=◌
replacement_is manner d store work text is = rw is

pub replacement_refused : (manner : Manner) (d : List ℕ) (store work : ℕ) (r : Refusal) → first_pass manner d store work ≡ refused r → replacement manner d store work ≡ refused r
unfolding replacement ◌>>=◌
replacement_refused manner d store work r is = rw is

-- the replacement laid at a place
module _ (manner : Manner) (d : List ℕ) (store : ℕ) (w o o' : List ℕ) (at : ℕ) where
  pub lay_refused : (r : Refusal) → first_pass manner d store (length w) ≡ refused r
      → Lays (replacement manner d store (length w)) o o at (Err r) × AtMost (at + length d * (growth * growth)) (Err r)
  lay_refused r is = ((replacement_refused manner d store (length w) r is, refl), tt)

  pub lay_accepted : (w' : List ℕ) (n : ℕ) (r : Result ℕ Refusal) → Drafted manner d store w w' n
      → Lays (second_pass manner store (take n w')) o o' at r → AtMost (at + length (take n w') * growth) r
      → Lays (replacement manner d store (length w)) o o' at r × AtMost (at + length d * (growth * growth)) r
  lay_accepted w' n r q h l =
      let long = front_long manner d store w w' n q in
      let most = q.most in
      (rw (replacement_is manner d store (length w) q.text q.first) (rw q.front at h), at_most _ _ r (omega arith) l)

-- an accepted replacement has both passes accepted
pub record Both (manner : Manner) (d : List ℕ) (store work : ℕ) (m : List ℕ) : Type 0 where
  pub text : List ℕ
  pub first : first_pass manner d store work ≡ accepted text
  pub second : second_pass manner store text ≡ accepted m

pub both_accepted : (manner : Manner) (d : List ℕ) (store work : ℕ) (m : List ℕ) → replacement manner d store work ≡ accepted m → Both manner d store work m
unfolding replacement
both_accepted manner d store work m is =
    let s = steps (first_pass manner d store work) _ m is in
    record { text = s.value; first = s.is; second = s.then }

-- the replacement written at a place
module _ (manner : Manner) (d : List ℕ) (store : ℕ) (w o : List ℕ) (at : ℕ) (f : Fits (replacement manner d store (length w)) o at) where
  abbrev passes : Both manner d store (length w) f.text
  passes = both_accepted manner d store (length w) f.text f.is

  pub write_first : Passable manner store DisplayStyle.Block Double d true w 0
  write_first = first_passable manner d store (length w) passes.text passes.first w refl

  module _ (w' : List ℕ) (n : ℕ) (same : length w' ≡ length w) (first : WrittenThere (passed manner store DisplayStyle.Block Double d) w w' 0 n) (most : n ≤ 0 + length d * growth) where
    written_long : n ≡ length passes.text
    written_long =
        let g = (first_accepted manner d store (length w) passes.text passes.first).is in
        let h = first.is in
        let e : first.text ≡ passes.text = cc in
        let p = first.puts.place in
        let z = ap length e in
        omega arith

    pub write_drafted : Drafted manner d store w w' n
    write_drafted = drafted_written manner d store w w' n passes.text passes.first first written_long same (omega arith)

    second_accepted : second_pass manner store (take n w') ≡ accepted f.text
    second_accepted =
        let g = (first_accepted manner d store (length w) passes.text passes.first).is in
        let h = write_drafted.first in
        let k = passes.first in
        let e : write_drafted.text ≡ passes.text = cc in
        rw (write_drafted.front, e) passes.second

    pub write_second : at < 2 ^ 63 → Passable manner store DisplayStyle.Inline Single (take n w') true o at
    write_second small =
        let long = front_long manner d store w w' n write_drafted in
        let short = write_drafted.short in
        second_passable manner store (take n w') f.text second_accepted o at (omega arith) f.inside

    pub write_done : {o' : List ℕ} {r : ℕ} → WrittenThere (passed manner store DisplayStyle.Inline Single (take n w')) o o' at r
        → WrittenThere (replacement manner d store (length w)) o o' at r
    write_done q = record { text = f.text; is = f.is; puts = second_written manner store (take n w') f.text second_accepted q }
