-- What `sargaceu_widen` answers (rules B1 to B3, include/sargaceu.h).
-- Assumes nothing.
use Rattle.std.specs.Prelude.{List, ℕ}
use Rattle.form.specs.declared.limits.Limits.{Limits}
use Rattle.table.specs.Lent.{Lent}
use Rattle.table.specs.Reading.{room_of}
use Rattle.archive.specs.Widening.{widening}
use Rattle.abi.specs.Reading.{told_in, TellsOutcome}

-- the contract of `sargaceu_widen`: the outcome of widening the table; 1, whatever the table is, where six numbers do not fit the answer
abbrev pub WidenedInto : Limits → Lent → (text segments leaves answer : List ℕ) → ℕ → (text' segments' leaves' answer' : List ℕ) → Type 0
WidenedInto L table text segments leaves answer r text' segments' leaves' answer' =
    TellsOutcome (told_in answer (widening L (room_of text segments leaves) table)) text segments leaves answer r text' segments' leaves' answer'
