-- `line::finder::next_place` meets its contract: by what `line_at` finds.
-- Assumes nothing.
use mathlib.Core.Path.{sym, ◌∙◌}
use Rattle.form.specs.Forms.{small_form}
use Rattle.line.specs.Finding.{found_at}
use Rattle.line.proofs.Finding.{next_of_line, next_of_end, next_of_fault}
use Rattle.line.proofs.finder.next_place.Goals as goal

pub returns-in-Line : goal.returns-in-Line
returns-in-Line c =
    let at-args = c.args in
    sym (next_of_line at-args.at (found_at small_form at-args.message.now at-args.at) c.in-Line.end c.in-Line.next (sym c.line_at.ensures ∙ c.in-Line.is))

pub returns-in-End : goal.returns-in-End
returns-in-End c =
    let at-args = c.args in
    sym (next_of_end at-args.at (found_at small_form at-args.message.now at-args.at) (sym c.line_at.ensures ∙ c.in-End.is))

pub returns-in-Fault : goal.returns-in-Fault
returns-in-Fault c =
    let at-args = c.args in
    sym (next_of_fault at-args.at (found_at small_form at-args.message.now at-args.at)
    c.in-Fault.number c.in-Fault.place (sym c.line_at.ensures ∙ c.in-Fault.is))
