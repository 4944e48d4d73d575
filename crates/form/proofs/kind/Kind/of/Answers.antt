-- `Kind::of` meets its contract: the letters are those of a name, or of none with that length.
-- Assumes nothing.
use mathlib.Core.List.{[], ◌∷◌}
use mathlib.Core.Path.{refl, sym}
use Rattle.laws.specs.Every.{none, also}
use Rattle.laws.specs.Lists.{same, among, first_from}
use Rattle.laws.specs.Texts.{bytes}
use Rattle.laws.proofs.Lists.{every, Absent.nowhere, Absent.past}
use Rattle.form.specs.declared.letters.Letters.{Letters}
use Rattle.form.specs.Names.{kind_names, number_among, kind_of}
use Rattle.form.proofs.Names.{kinds-short}
use Rattle.form.proofs.Recognising.{
  sized,
  unlisted,
  one-other,
  apart_other,
  two_other,
  three-other,
  one_letter,
  letter_apart,
  two_letters,
  three_letters,
  length_among,
  no_length,
}
use Rattle.form.proofs.kind.Kind.of.Goals as goal
use Rattle.form.proofs.kind.Kind.of.Goals.{Start}

abbrev letters_at : Start → Letters
letters_at c = record { length = c.args.length; first = c.args.first; second = c.args.second; third = c.args.third }

-- C
pub returns-then-length-first : goal.returns-then-length-first
unfolding kind_of kind_names bytes number_among first_from same
returns-then-length-first c = letter_apart (letters_at c.before) kind_names 67 c.if-length-first.true

-- H
pub returns-in-72 : goal.returns-in-72
unfolding kind_of kind_names bytes number_among first_from same
returns-in-72 c = one_letter (letters_at c.before.before.before) kind_names 72 c.in-1.is c.in-72.is

-- P
pub returns-in-80 : goal.returns-in-80
unfolding kind_of kind_names bytes number_among first_from same
returns-in-80 c = one_letter (letters_at c.before.before.before) kind_names 80 c.in-1.is c.in-80.is

-- L
pub returns-in-76 : goal.returns-in-76
unfolding kind_of kind_names bytes number_among first_from same
returns-in-76 c = one_letter (letters_at c.before.before.before) kind_names 76 c.in-1.is c.in-76.is

-- no name of this length
pub returns-in_default-first : goal.returns-in_default-first
unfolding kind_of kind_names bytes sized
returns-in_default-first c =
    let l = letters_at c.before.before.before in
    rw c.in-1.is
    (sym
    (unlisted (l.first ∷ []) kind_names
    (also (one-other l 72 c.in_default-first.in_default-first-own.rest.0.0.1)
    (also (one-other l 80 c.in_default-first.in_default-first-own.rest.0.1)
    (also (one-other l 76 c.in_default-first.in_default-first-own.rest.1)
    (also (apart_other l 67 c.in-1.is c.if-length-first.false) none))))))

-- AP
pub returns-then-first-second : goal.returns-then-first-second
unfolding kind_of kind_names bytes number_among first_from same
returns-then-first-second c = two_letters (letters_at c.before.before.before) kind_names 65 80 c.in-2.is c.if-first-second.true

-- AC
pub returns-then-first-second-2 : goal.returns-then-first-second-2
unfolding kind_of kind_names bytes number_among first_from same
returns-then-first-second-2 c = two_letters (letters_at c.before.before.before.before) kind_names 65 67 c.in-2.is c.if-first-second-2.true

-- no name of this length
pub returns-else-first-second-2 : goal.returns-else-first-second-2
unfolding kind_of kind_names bytes sized
returns-else-first-second-2 c =
    let l = letters_at c.before.before.before.before in
    rw c.in-2.is
    (sym
    (unlisted (l.first ∷ l.second ∷ []) kind_names
    (also (two_other l 65 80 c.if-first-second.false)
    (also (two_other l 65 67 c.if-first-second-2.false) none))))

-- ERR
pub returns-then-first-second-3 : goal.returns-then-first-second-3
unfolding kind_of kind_names bytes number_among first_from same
returns-then-first-second-3 c = three_letters (letters_at c.before.before.before) kind_names 69 82 82 c.in-3.is c.if-first-second-3.true

-- OBX
pub returns-then-first-second-4 : goal.returns-then-first-second-4
unfolding kind_of kind_names bytes number_among first_from same
returns-then-first-second-4 c = three_letters (letters_at c.before.before.before.before) kind_names 79 66 88 c.in-3.is c.if-first-second-4.true

-- OBR
pub returns-then-first-second-5 : goal.returns-then-first-second-5
unfolding kind_of kind_names bytes number_among first_from same
returns-then-first-second-5 c = three_letters (letters_at c.before.before.before.before.before) kind_names 79 66 82 c.in-3.is c.if-first-second-5.true

-- FAC
pub returns-then-first-second-6 : goal.returns-then-first-second-6
unfolding kind_of kind_names bytes number_among first_from same
returns-then-first-second-6 c = three_letters (letters_at c.before.before.before.before.before.before) kind_names 70 65 67 c.in-3.is c.if-first-second-6.true

-- REG
pub returns-then-first-second-7 : goal.returns-then-first-second-7
unfolding kind_of kind_names bytes number_among first_from same
returns-then-first-second-7 c = three_letters (letters_at c.before.before.before.before.before.before.before) kind_names 82 69 71 c.in-3.is c.if-first-second-7.true

-- ACT
pub returns-then-first-second-8 : goal.returns-then-first-second-8
unfolding kind_of kind_names bytes number_among first_from same
returns-then-first-second-8 c = three_letters (letters_at c.before.before.before.before.before.before.before.before) kind_names 65 67 84 c.in-3.is c.if-first-second-8.true

-- no name of this length
pub returns-else-first-second-8 : goal.returns-else-first-second-8
unfolding kind_of kind_names bytes sized
returns-else-first-second-8 c =
    let l = letters_at c.before.before.before.before.before.before.before.before in
    rw c.in-3.is
    (sym
    (unlisted (l.first ∷ l.second ∷ l.third ∷ []) kind_names
    (also (three-other l 79 66 82 c.if-first-second-5.false)
    (also (three-other l 79 66 88 c.if-first-second-4.false)
    (also (three-other l 70 65 67 c.if-first-second-6.false)
    (also (three-other l 82 69 71 c.if-first-second-7.false)
    (also (three-other l 65 67 84 c.if-first-second-8.false)
    (also (three-other l 69 82 82 c.if-first-second-3.false) none))))))))

-- another length
pub returns-in_default : goal.returns-in_default
unfolding kind_of kind_names bytes every length_among among
returns-in_default c =
    let l = letters_at c.before.before in
    no_length kind_names kinds-short (1 ∷ 2 ∷ 3 ∷ []) refl l.length l.first l.second l.third
    (past c.in_default.in_default-own.rest.0.0.1 (past c.in_default.in_default-own.rest.0.1 (past c.in_default.in_default-own.rest.1 nowhere)))
