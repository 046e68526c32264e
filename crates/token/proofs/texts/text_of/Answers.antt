-- `token::texts::text_of` meets its contract: at each number the definition computes to the arm's text, and past the last to none.
use mathlib.Core.Path.{refl}
use Rattle.text.specs.Examples.{text_opens}
use Rattle.text.proofs.Keys.{past}
use Rattle.token.specs.Texts.{text_of, texts}
use Rattle.token.proofs.TextsLaws.{text_past}
use Rattle.token.proofs.texts.text_of.Goals as goal

pub returns-in-0 : goal.returns-in-0
unfolding text_opens text_of texts
returns-in-0 c = rw c.in-0.is refl

pub returns-in-1 : goal.returns-in-1
unfolding text_opens text_of texts
returns-in-1 c = rw c.in-1.is refl

pub returns-in-2 : goal.returns-in-2
unfolding text_opens text_of texts
returns-in-2 c = rw c.in-2.is refl

pub returns-in-3 : goal.returns-in-3
unfolding text_opens text_of texts
returns-in-3 c = rw c.in-3.is refl

pub returns-in-4 : goal.returns-in-4
unfolding text_opens text_of texts
returns-in-4 c = rw c.in-4.is refl

pub returns-in-5 : goal.returns-in-5
unfolding text_opens text_of texts
returns-in-5 c = rw c.in-5.is refl

pub returns-in-6 : goal.returns-in-6
unfolding text_opens text_of texts
returns-in-6 c = rw c.in-6.is refl

pub returns-in-7 : goal.returns-in-7
unfolding text_opens text_of texts
returns-in-7 c = rw c.in-7.is refl

pub returns-in-8 : goal.returns-in-8
unfolding text_opens text_of texts
returns-in-8 c = rw c.in-8.is refl

pub returns-in-9 : goal.returns-in-9
unfolding text_opens text_of texts
returns-in-9 c = rw c.in-9.is refl

pub returns-in-10 : goal.returns-in-10
unfolding text_opens text_of texts
returns-in-10 c = rw c.in-10.is refl

pub returns-in-11 : goal.returns-in-11
unfolding text_opens text_of texts
returns-in-11 c = rw c.in-11.is refl

pub returns-in-12 : goal.returns-in-12
unfolding text_opens text_of texts
returns-in-12 c = rw c.in-12.is refl

pub returns-in-13 : goal.returns-in-13
unfolding text_opens text_of texts
returns-in-13 c = rw c.in-13.is refl

pub returns-in-14 : goal.returns-in-14
unfolding text_opens text_of texts
returns-in-14 c = rw c.in-14.is refl

pub returns-in-15 : goal.returns-in-15
unfolding text_opens text_of texts
returns-in-15 c = rw c.in-15.is refl

pub returns-in-16 : goal.returns-in-16
unfolding text_opens text_of texts
returns-in-16 c = rw c.in-16.is refl

pub returns-in-17 : goal.returns-in-17
unfolding text_opens text_of texts
returns-in-17 c = rw c.in-17.is refl

pub returns-in-18 : goal.returns-in-18
unfolding text_opens text_of texts
returns-in-18 c = rw c.in-18.is refl

pub returns-in-19 : goal.returns-in-19
unfolding text_opens text_of texts
returns-in-19 c = rw c.in-19.is refl

pub returns-in-20 : goal.returns-in-20
unfolding text_opens text_of texts
returns-in-20 c = rw c.in-20.is refl

pub returns-in-21 : goal.returns-in-21
unfolding text_opens text_of texts
returns-in-21 c = rw c.in-21.is refl

pub returns-in-22 : goal.returns-in-22
unfolding text_opens text_of texts
returns-in-22 c = rw c.in-22.is refl

pub returns-in-23 : goal.returns-in-23
unfolding text_opens text_of texts
returns-in-23 c = rw c.in-23.is refl

pub returns-in-24 : goal.returns-in-24
unfolding text_opens text_of texts
returns-in-24 c = rw c.in-24.is refl

pub returns-in-25 : goal.returns-in-25
unfolding text_opens text_of texts
returns-in-25 c = rw c.in-25.is refl

pub returns-in-26 : goal.returns-in-26
unfolding text_opens text_of texts
returns-in-26 c = rw c.in-26.is refl

pub returns-in-27 : goal.returns-in-27
unfolding text_opens text_of texts
returns-in-27 c = rw c.in-27.is refl

pub returns-in-28 : goal.returns-in-28
unfolding text_opens text_of texts
returns-in-28 c = rw c.in-28.is refl

pub returns-in-29 : goal.returns-in-29
unfolding text_opens text_of texts
returns-in-29 c = rw c.in-29.is refl

pub returns-in-30 : goal.returns-in-30
unfolding text_opens text_of texts
returns-in-30 c = rw c.in-30.is refl

pub returns-in-31 : goal.returns-in-31
unfolding text_opens text_of texts
returns-in-31 c = rw c.in-31.is refl

pub returns-in-32 : goal.returns-in-32
unfolding text_opens text_of texts
returns-in-32 c = rw c.in-32.is refl

pub returns-in-33 : goal.returns-in-33
unfolding text_opens text_of texts
returns-in-33 c = rw c.in-33.is refl

pub returns-in-34 : goal.returns-in-34
unfolding text_opens text_of texts
returns-in-34 c = rw c.in-34.is refl

pub returns-in-35 : goal.returns-in-35
unfolding text_opens text_of texts
returns-in-35 c = rw c.in-35.is refl

pub returns-in-36 : goal.returns-in-36
unfolding text_opens text_of texts
returns-in-36 c = rw c.in-36.is refl

pub returns-in-37 : goal.returns-in-37
unfolding text_opens text_of texts
returns-in-37 c = rw c.in-37.is refl

pub returns-in-38 : goal.returns-in-38
unfolding text_opens text_of texts
returns-in-38 c = rw c.in-38.is refl

pub returns-in-39 : goal.returns-in-39
unfolding text_opens text_of texts
returns-in-39 c = rw c.in-39.is refl

pub returns-in-40 : goal.returns-in-40
unfolding text_opens text_of texts
returns-in-40 c = rw c.in-40.is refl

pub returns-in-41 : goal.returns-in-41
unfolding text_opens text_of texts
returns-in-41 c = rw c.in-41.is refl

pub returns-in-42 : goal.returns-in-42
unfolding text_opens text_of texts
returns-in-42 c = rw c.in-42.is refl

pub returns-in-43 : goal.returns-in-43
unfolding text_opens text_of texts
returns-in-43 c = rw c.in-43.is refl

pub returns-in-44 : goal.returns-in-44
unfolding text_opens text_of texts
returns-in-44 c = rw c.in-44.is refl

pub returns-in-45 : goal.returns-in-45
unfolding text_opens text_of texts
returns-in-45 c = rw c.in-45.is refl

pub returns-in-46 : goal.returns-in-46
unfolding text_opens text_of texts
returns-in-46 c = rw c.in-46.is refl

pub returns-in-47 : goal.returns-in-47
unfolding text_opens text_of texts
returns-in-47 c = rw c.in-47.is refl

pub returns-in-48 : goal.returns-in-48
unfolding text_opens text_of texts
returns-in-48 c = rw c.in-48.is refl

pub returns-in-49 : goal.returns-in-49
unfolding text_opens text_of texts
returns-in-49 c = rw c.in-49.is refl

pub returns-in-50 : goal.returns-in-50
unfolding text_opens text_of texts
returns-in-50 c = rw c.in-50.is refl

pub returns-in-51 : goal.returns-in-51
unfolding text_opens text_of texts
returns-in-51 c = rw c.in-51.is refl

pub returns-in-52 : goal.returns-in-52
unfolding text_opens text_of texts
returns-in-52 c = rw c.in-52.is refl

pub returns-in-53 : goal.returns-in-53
unfolding text_opens text_of texts
returns-in-53 c = rw c.in-53.is refl

pub returns-in-54 : goal.returns-in-54
unfolding text_opens text_of texts
returns-in-54 c = rw c.in-54.is refl

pub returns-in-55 : goal.returns-in-55
unfolding text_opens text_of texts
returns-in-55 c = rw c.in-55.is refl

pub returns-in_default : goal.returns-in_default
unfolding text_opens text_of texts
returns-in_default c = rw (text_past c.args.n (past 56 c.args.n c.in_default.in_default-own.rest)) refl
