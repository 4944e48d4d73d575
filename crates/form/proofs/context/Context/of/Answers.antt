-- `Context::of` meets its contract: the letters are those of a name, or of none with that length.
-- Assumes nothing.
use mathlib.Core.List.{[], ◌∷◌}
use mathlib.Core.Path.{refl, sym}
use Rattle.laws.specs.Every.{none, also}
use Rattle.laws.specs.Lists.{same, among, first_from}
use Rattle.laws.specs.Texts.{bytes}
use Rattle.laws.proofs.Lists.{every, Absent.nowhere, Absent.past}
use Rattle.form.specs.declared.letters.Letters.{Letters}
use Rattle.form.specs.Names.{context_names, number_among, context_of}
use Rattle.form.proofs.Names.{contexts_short}
use Rattle.form.proofs.Recognising.{sized, unlisted, three-other, three_letters, length_among, no_length}
use Rattle.form.proofs.context.Context.of.Goals as goal
use Rattle.form.proofs.context.Context.of.Goals.{Start}

abbrev letters_at : Start → Letters
letters_at c = record { length = c.args.length; first = c.args.first; second = c.args.second; third = c.args.third }

-- ERR
pub returns-then-first-second : goal.returns-then-first-second
unfolding context_of context_names bytes number_among first_from same
returns-then-first-second c = three_letters (letters_at c.before.before) context_names 69 82 82 c.in-3.is c.if-first-second.true

-- ADM
pub returns-then-first-second-2 : goal.returns-then-first-second-2
unfolding context_of context_names bytes number_among first_from same
returns-then-first-second-2 c = three_letters (letters_at c.before.before.before) context_names 65 68 77 c.in-3.is c.if-first-second-2.true

-- ORU
pub returns-then-first-second-3 : goal.returns-then-first-second-3
unfolding context_of context_names bytes number_among first_from same
returns-then-first-second-3 c = three_letters (letters_at c.before.before.before.before) context_names 79 82 85 c.in-3.is c.if-first-second-3.true

-- ORM
pub returns-then-first-second-4 : goal.returns-then-first-second-4
unfolding context_of context_names bytes number_among first_from same
returns-then-first-second-4 c = three_letters (letters_at c.before.before.before.before.before) context_names 79 82 77 c.in-3.is c.if-first-second-4.true

-- ORA
pub returns-then-first-second-5 : goal.returns-then-first-second-5
unfolding context_of context_names bytes number_among first_from same
returns-then-first-second-5 c = three_letters (letters_at c.before.before.before.before.before.before) context_names 79 82 65 c.in-3.is c.if-first-second-5.true

-- REG
pub returns-then-first-second-6 : goal.returns-then-first-second-6
unfolding context_of context_names bytes number_among first_from same
returns-then-first-second-6 c = three_letters (letters_at c.before.before.before.before.before.before.before) context_names 82 69 71 c.in-3.is c.if-first-second-6.true

-- FAC
pub returns-then-first-second-7 : goal.returns-then-first-second-7
unfolding context_of context_names bytes number_among first_from same
returns-then-first-second-7 c = three_letters (letters_at c.before.before.before.before.before.before.before.before) context_names 70 65 67 c.in-3.is c.if-first-second-7.true

-- no name of this length
pub returns-else-first-second-7 : goal.returns-else-first-second-7
unfolding context_of context_names bytes sized
returns-else-first-second-7 c =
    let l = letters_at c.before.before.before.before.before.before.before.before in
    rw c.in-3.is
    (sym
    (unlisted (l.first ∷ l.second ∷ l.third ∷ []) context_names
    (also (three-other l 65 68 77 c.if-first-second-2.false)
    (also (three-other l 79 82 77 c.if-first-second-4.false)
    (also (three-other l 79 82 65 c.if-first-second-5.false)
    (also (three-other l 82 69 71 c.if-first-second-6.false)
    (also (three-other l 69 82 82 c.if-first-second.false)
    (also (three-other l 79 82 85 c.if-first-second-3.false)
    (also (three-other l 70 65 67 c.if-first-second-7.false) none)))))))))

-- another length
pub returns-in_default : goal.returns-in_default
unfolding context_of context_names bytes every length_among among
returns-in_default c =
    let l = letters_at c.before in
    no_length context_names contexts_short (3 ∷ []) refl l.length l.first l.second l.third
    (past c.in_default.in_default-own.rest.1 nowhere)
