-- `line::finder::line_part` meets its contract: by what `line_at` finds, which lies in the message.
-- Assumes nothing.
use mathlib.Core.Path.{sym, ◌∙◌}
use native.Mathlib.Omega.{arith}
use Rattle.laws.proofs.LentParts.{none_part}
use Rattle.form.specs.Forms.{small_form}
use Rattle.line.specs.Finding.{found_at}
use Rattle.line.proofs.Finding.{part_found-line, part_found-end, part_found-fault}
use Rattle.line.proofs.Handing.{line-within}
use Rattle.line.proofs.finder.line_part.Goals as goal

pub slice_bounds-result-count : goal.slice_bounds-result-count
slice_bounds-result-count c =
    let at-args = c.args in
    omega (arith, line-within small_form at-args.message.now at-args.at c.in-Line.end c.in-Line.next (sym c.line_at.ensures ∙ c.in-Line.is))

pub slice_bounds-result-start : goal.slice_bounds-result-start
slice_bounds-result-start c =
    let at-args = c.args in
    omega (arith, line-within small_form at-args.message.now at-args.at c.in-Line.end c.in-Line.next (sym c.line_at.ensures ∙ c.in-Line.is))

pub slice_bounds-result-end : goal.slice_bounds-result-end
slice_bounds-result-end c =
    let at-args = c.args in
    omega (arith, line-within small_form at-args.message.now at-args.at c.in-Line.end c.in-Line.next (sym c.line_at.ensures ∙ c.in-Line.is))

pub returns-in-Line : goal.returns-in-Line
returns-in-Line c =
    let at-args = c.args in
    sym (part_found-line at-args.at at-args.message (found_at small_form at-args.message.now at-args.at)
    c.in-Line.end c.in-Line.next (sym c.line_at.ensures ∙ c.in-Line.is))

pub returns-in-End : goal.returns-in-End
returns-in-End c =
    let at-args = c.args in
    sym (none_part at-args.message)
    ∙ sym (part_found-end at-args.at at-args.message (found_at small_form at-args.message.now at-args.at) (sym c.line_at.ensures ∙ c.in-End.is))

pub returns-in-Fault : goal.returns-in-Fault
returns-in-Fault c =
    let at-args = c.args in
    sym (none_part at-args.message)
    ∙ sym (part_found-fault at-args.at at-args.message (found_at small_form at-args.message.now at-args.at)
    c.in-Fault.number c.in-Fault.place (sym c.line_at.ensures ∙ c.in-Fault.is))
