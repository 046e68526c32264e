use Rattle.std.proofs.Common.{rules, arith, ◌≡◌, ℕ, ◌+◌, ◌-◌, ◌≤◌, List, ◌++◌, length, take, sym, ap, ◌∙◌, subst, length-take-le}
use Rattle.std.specs.Io.KnownBytes.{Consumes}
use Rattle.std.proofs.KnownBytes.{Consumes-trans}
use borrow.Rule.Slice.PartMut.{put_mid, post_of}
use lib.Seq.{take-append-add, take-append-le}
use Rattle.input.proofs.read_full.Goals as goal

-- a read into the part from a on leaves, of the first m bytes, those before a and the n that it gave
joined : (a n m : ℕ) (old given : List ℕ) → a ≤ length old → n ≤ length given → m ≡ a + n
    → take a old ++ take n given ≡ take m (put_mid a (length old - a) old given)
joined a n m old given within fits sum =
    let front = length-take-le a old within in
    let behind = post_of a (length old - a) old in
    let far : m ≡ length (take a old) + n = omega arith in
    sym
    (ap (λ k. take k (take a old ++ (given ++ behind))) far
    ∙ take-append-add (take a old) (given ++ behind) n
    ∙ ap (λ l. take a old ++ l) (take-append-le n given behind fits))

pub loop-done-preserved : goal.loop-done-preserved
loop-done-preserved g c =
    let l = c.loop-done in
    let e = joined l.done c.in_ok-n.n (l.done + c.in_ok-n.n) l.input c.read.new.buf l.invariant.1 c.in_ok-n.ensures.bound.0 (search rules) in
    (search rules, search rules, subst (Consumes _ _) e (Consumes-trans _ _ _ _ _ l.invariant.2 c.in_ok-n.ensures.bytes.0))
