-- Bytes that spell characters which XML 1.0 allows, and what is read of a body that holds no other: its numbers, the names of its unknown
-- commands, its letters and its Debug texts.
-- Assumes nothing.
use mathlib.Core.Path.{◌≡◌, refl, sym, ap, ◌∙◌}
use mathlib.Core.Bool.{Bool, true, false, false≢true, ◌&&◌, ◌||◌, and-eq-true_iff}
use mathlib.Core.List.{List, [], ◌∷◌, ◌++◌, append_assoc, append-nil}
use Prim.Native.Nat.{ℕ, suc, ◌+◌, ◌-◌, ◌≤◌}
use Prim.Native.Char.{code}
use native.Mathlib.Omega.{arith}
use lib.Dec.{eqb, leb, ltb}
use lib.ListN.{take, drop, take-append-drop}
use lib.Seq.{drop-drop}
use borrow.Author.Tests.{leb-true, ltb-true, eqb-true, ne_eqb, le-ltb, lt-leb}
use Rattle.text.specs.Utf8.{encode, code_point, well_formed}
use Rattle.text.specs.Text.{bytes, part}
use Rattle.text.specs.Xml.{allows, forbidden}
use Rattle.text.specs.Examples.{text_opens}
use Rattle.text.proofs.Cases.{by_test, by_order}
use Rattle.text.proofs.Tabled.{tab, each}
use Rattle.text.proofs.EncodeLaws.{encode_1, encode_2, encode_3, encode_4}
use Rattle.text.proofs.Utf8Laws.{every, high_point}
use Rattle.text.proofs.SplitLaws.{both_sides}
use Rattle.text.proofs.RoundLaws.{encode_point}
use Rattle.text.proofs.XmlLaws.{forbids_none, forbids_drop, forbids_take}
use Rattle.token.specs.declared.Undefined.{Undefined}
use Rattle.token.specs.Arms.{arms}
use Rattle.token.specs.Command.{own_arms}
use Rattle.token.specs.Debug.{digit, hexadecimal, control, escapes, escape_by, escape, or_nul, command_name, debug}
use Rattle.token.proofs.FitLaws.{Asks, TokenFit, arm_passes}
use Rattle.lexer.specs.Lex.{is_digit, is_alphabetic, run, skip_whitespace, read_number, name_length, punctuation, token_at, next_token}
use Rattle.lexer.specs.Letters.{letters, encode_all}
use Rattle.lexer.proofs.FitLaws.{Passing, token_fit, letters_fit}

-- ---- clean bytes

-- the bytes of characters that XML allows
pub record Clean (l : List ℕ) : Type 0 where
  pub cs : List ℕ
  pub is : l ≡ encode_all cs
  pub all : every allows cs ≡ true

none_clean : Clean []
unfolding encode_all
none_clean = record { cs = []; is = refl; all = refl }

-- a character that XML allows, a clean text behind one, and behind a clean text
clean_one : {l : List ℕ} (c : ℕ) → l ≡ encode c → allows c ≡ true → Clean l
unfolding encode_all
clean_one c e h = record { cs = c ∷ []; is = e ∙ sym (append-nil (encode c)); all = rw h }

clean_cons : {l m : List ℕ} (c : ℕ) → l ≡ encode c → allows c ≡ true → Clean m → Clean (l ++ m)
unfolding encode_all
clean_cons c e h k = record { cs = c ∷ k.cs; is = rw (e, k.is); all = rw (h, k.all) }

spelled_append : (cs : List ℕ) {m : List ℕ} → every allows cs ≡ true → Clean m → Clean (encode_all cs ++ m)
unfolding encode_all
spelled_append [] h k = k
spelled_append (c ∷ cs) h k =
    let j = (and-eq-true_iff (allows c) (every allows cs)).0 h in
    rw append_assoc (clean_cons c refl j.0 (spelled_append cs j.1 k))

pub clean_append : {l m : List ℕ} → Clean l → Clean m → Clean (l ++ m)
clean_append a k = rw a.is (spelled_append a.cs a.all k)

-- ASCII that XML allows spells itself
abbrev printed : ℕ → Bool
printed b = ltb b 128 && allows b

clean_ascii : (l : List ℕ) → every printed l ≡ true → Clean l
clean_ascii [] h = none_clean
clean_ascii (b ∷ l) h =
    let k = (and-eq-true_iff (printed b) (every printed l)).0 h in
    let j = (and-eq-true_iff (ltb b 128) (allows b)).0 k.0 in
    clean_cons b (sym (encode_1 b (ltb-true b 128 j.0))) j.1 (clean_ascii l k.1)

-- ---- Debug texts

escape_append : (l m : List ℕ) → escape (l ++ m) ≡ escape l ++ escape m
unfolding escape
escape_append [] m = refl
escape_append (b ∷ l) m = rw (escape_append l m) (simp append_assoc)

escaped_test : tab (λ i. every printed (escape_by escapes i)) 128 ≡ tab (λ i. true) 128
unfolding text_opens allows digit hexadecimal control escapes escape_by
escaped_test = refl

-- a byte above ASCII has no escape
not_control : (b : ℕ) → 128 ≤ b → control b ≡ false
unfolding control
not_control b h = rw (le-ltb b 32 (omega arith), ne_eqb b 127 (λ e. omega arith))

kept_by : (es : List (ℕ × List ℕ)) (b : ℕ) → 128 ≤ b → every (λ e. ltb e.0 128) es ≡ true → escape_by es b ≡ b ∷ []
unfolding escape_by
kept_by [] b h all = rw (escape_by, not_control b h)
kept_by (e ∷ es) b h all =
    let k = (and-eq-true_iff (ltb e.0 128) (every (λ x. ltb x.0 128) es)).0 all in
    let low = ltb-true e.0 128 k.0 in
    rw (escape_by, ne_eqb b e.0 (λ q. omega arith)) (kept_by es b h k.1)

high_escape : (k x : ℕ) → leb 128 k ≡ true → escape_by escapes (k + x) ≡ (k + x) ∷ []
unfolding escapes
high_escape k x h = let low = leb-true 128 k h in kept_by escapes (k + x) (omega arith) refl

high_kept : (c : ℕ) → 128 ≤ c → escape (encode c) ≡ encode c
unfolding escape
high_kept c a =
    by_order c 0x800
    (λ b. simp (encode_2 c a b, high_escape))
    (λ b.
    by_order c 0x10000
    (λ d. simp (encode_3 c b d, high_escape))
    (λ d. simp (encode_4 c d, high_escape)))

character_escaped : (c : ℕ) → allows c ≡ true → Clean (escape (encode c))
unfolding escape
character_escaped c h =
    by_order c 0x80
    (λ a.
    rw (encode_1 c a, append-nil (escape_by escapes c))
    (clean_ascii (escape_by escapes c) (each (λ i. every printed (escape_by escapes i)) (λ i. true) 128 escaped_test c a)))
    (λ a. clean_one c (high_kept c a) h)

spelled_escaped : (cs : List ℕ) → every allows cs ≡ true → Clean (escape (encode_all cs))
unfolding encode_all escape
spelled_escaped [] h = none_clean
spelled_escaped (c ∷ cs) h =
    let k = (and-eq-true_iff (allows c) (every allows cs)).0 h in
    rw (escape_append (encode c) (encode_all cs)) (clean_append (character_escaped c k.0) (spelled_escaped cs k.1))

pub clean_escaped : {l : List ℕ} → Clean l → Clean (escape l)
clean_escaped a = rw a.is (spelled_escaped a.cs a.all)

-- the NUL that stands for the name at the body's end is escaped
name_escaped : (l : List ℕ) → Clean l → Clean (escape (or_nul l))
unfolding text_opens allows or_nul escape escapes escape_by
name_escaped [] a = clean_ascii (bytes "\\0") refl
name_escaped (b ∷ l) a = clean_escaped a

pub command_clean : (s : List ℕ) (a e : ℕ) → Clean (part a e s) → Clean (debug s (Undefined.Command a e))
unfolding text_opens allows debug command_name
command_clean s a e h =
    clean_append (clean_ascii (bytes "Command(\"") refl) (clean_append (name_escaped (part a e s) h) (clean_ascii (bytes "\")") refl))

-- ---- numbers and names

-- a byte of a number
abbrev pub numeral : ℕ → Bool
numeral b = is_digit b || eqb b (code ".")

pub number_numeral : (hasPeriod : Bool) (l : List ℕ) → every numeral (take (read_number hasPeriod l) l) ≡ true
unfolding read_number
number_numeral hasPeriod [] = refl
number_numeral hasPeriod (b ∷ l) =
    by_test (is_digit b)
    (λ e. rw (read_number, e) (rw e (number_numeral hasPeriod l)))
    (λ e.
    by_test (eqb b 46)
    (λ f. rw (read_number, e, f) (period hasPeriod (eqb-true b 46 f) (number_numeral true l)))
    (λ f. rw (read_number, e, f)))
  where
    period : (h : Bool) → b ≡ 46 → every numeral (take (read_number true l) l) ≡ true
        → every numeral (take (elim h [ true ↦ 0 | false ↦ suc (read_number true l) ]) (b ∷ l)) ≡ true
    period true q r = refl
    period false q r = rw q r

-- a letter of a command's name
letter_test : tab (λ i. elim (is_alphabetic i) [ true ↦ printed i | false ↦ true ]) 128 ≡ tab (λ i. true) 128
unfolding allows
letter_test = refl

and-false : (x : Bool) → (x && false) ≡ false
and-false true = refl
and-false false = refl

high_letter : (b : ℕ) → 128 ≤ b → is_alphabetic b ≡ false
high_letter b h = rw (lt-leb b 122 (omega arith), lt-leb b 90 (omega arith), and-false (leb 97 b), and-false (leb 65 b))

letter_printed : (b : ℕ) → is_alphabetic b ≡ true → printed b ≡ true
letter_printed b h =
    by_order b 128
    (λ small. rw h at (each (λ i. elim (is_alphabetic i) [ true ↦ printed i | false ↦ true ]) (λ i. true) 128 letter_test b small))
    (λ high. absurd (false≢true (sym (high_letter b high) ∙ h)))

run_printed : (l : List ℕ) → every printed (take (run is_alphabetic l) l) ≡ true
unfolding run
run_printed [] = refl
run_printed (b ∷ l) =
    by_test (is_alphabetic b)
    (λ e. rw (run, e) (rw (letter_printed b e) (run_printed l)))
    (λ e. rw (run, e))

-- the name at the head of well-formed bytes: letters of ASCII, or a whole character
name_clean : (l : List ℕ) → well_formed l ≡ true → forbidden l ≡ false → Clean (take (name_length l) l)
unfolding name_length code_point
name_clean [] w f = none_clean
name_clean (b ∷ l) w f =
    by_test (is_alphabetic (code_point (b ∷ l)).code)
    (λ e. rw (name_length, e) (clean_ascii (take (run is_alphabetic (b ∷ l)) (b ∷ l)) (run_printed (b ∷ l))))
    (λ e. rw (name_length, e) (clean_one (code_point (b ∷ l)).code (sym (encode_point b l w)) (forbids_none b l f).0))

-- ---- tokens

-- that a character is one that XML allows, that a number has digits and a period, and that the name of an unknown command is clean
abbrev pub allowed : List ℕ → Asks
allowed s = record {
  ok = λ c. allows c ≡ true;
  digits = λ a e. every numeral (part a e s) ≡ true;
  name = λ a e. Clean (part a e s);
}

all_arms : every (arm_passes (λ t. true) allows) own_arms ≡ true
unfolding arms own_arms allows
all_arms = refl

clean_passing : Passing allows (λ l. forbidden l ≡ false)
unfolding punctuation allows
clean_passing = record {
  behind = forbids_drop;
  head = λ b l h. (forbids_none b l h).0;
  named = λ t. true;
  spelled = λ n l h t e. refl;
  arms = all_arms;
  marks = refl;
}

module _ (s : List ℕ) (clean : forbidden s ≡ false) where
  -- the letters of a part of the body
  pub letters_allowed : (a e : ℕ) → every allows (letters (part a e s)) ≡ true
  letters_allowed a e = letters_fit clean_passing (part a e s) (forbids_take (e - a) (drop a s) (forbids_drop a s clean))

  module _ (well : well_formed s ≡ true) where
    -- the name of a command, behind its backslash
    name_read : (p : ℕ) (l : List ℕ) → drop p s ≡ l → eqb (code_point l).code 92 ≡ true → Clean (part (suc p) (suc p + name_length (drop 1 l)) s)
    unfolding code_point
    name_read p [] e h = absurd (false≢true h)
    name_read p (b ∷ l) e h =
        let n = name_length l in
        let small = by_order b 128 (λ k. k) (λ k. let high = high_point b l k in let x = eqb-true (code_point (b ∷ l)).code 92 h in absurd (omega arith)) in
        let one : suc p ≡ p + 1 = omega arith in
        let next : drop (suc p) s ≡ l = rw one (sym (drop-drop 1 p s) ∙ ap (drop 1) e) in
        let long : suc p + n - suc p ≡ n = omega arith in
        let whole : take p s ++ b ∷ l ≡ s = ap (λ (r : List ℕ). take p s ++ r) (sym e) ∙ take-append-drop p s in
        let free = rw e at (forbids_drop p s clean) in
        rw (long, next) (name_clean l (both_sides (take p s) l b small (ap well_formed whole ∙ well)).1 (forbids_none b l free).1)

    token_allowed : (p : ℕ) → TokenFit (allowed s) (token_at p (drop p s)).token
    token_allowed p =
        let n = read_number false (drop p s) in
        let long : p + n - p ≡ n = omega arith in
        token_fit clean_passing (allowed s) (λ c h. h) p (drop p s) (forbids_drop p s clean)
        (rw long (number_numeral false (drop p s)))
        (name_read p (drop p s) refl)

    -- the token that is read from a place on
    pub next_allowed : (at : ℕ) → TokenFit (allowed s) (next_token at (drop at s)).token
    unfolding next_token
    next_allowed at = let k = skip_whitespace (drop at s) in rw (drop-drop k at s) (token_allowed (at + k))
