-- `value::result::leaf_says` meets its contract: the text between the row's start and its end.
-- Assumes nothing.
use mathlib.Core.Path.{ap, ◌∙◌}
use native.Mathlib.Omega.{arith}
use lib.ListN.{take, drop}
use Rattle.look.proofs.TextParts.{part_long}
use Rattle.value.specs.Numerals.{most_digits, numeral_of}
use Rattle.value.proofs.result.leaf_says.Goals as goal

pub overflow_mul-at : goal.overflow_mul-at
overflow_mul-at c = omega (arith, c.requires.row_within)

pub overflow_add-at : goal.overflow_add-at
overflow_add-at c = omega (arith, c.requires.row_within)

pub offset_bounds-leaves-at : goal.offset_bounds-leaves-at
offset_bounds-leaves-at c = omega (arith, c.requires.row_within)

pub bounds-leaves-at : goal.bounds-leaves-at
bounds-leaves-at c = omega (arith, c.requires.row_within)

pub overflow_add-at-2 : goal.overflow_add-at-2
overflow_add-at-2 c = omega (arith, c.requires.row_within)

pub offset_bounds-leaves-at-2 : goal.offset_bounds-leaves-at-2
offset_bounds-leaves-at-2 c = omega (arith, c.requires.row_within)

pub bounds-leaves-at-2 : goal.bounds-leaves-at-2
bounds-leaves-at-2 c = omega (arith, c.requires.row_within)

pub slice_bounds-read_numeral-end : goal.slice_bounds-read_numeral-end
slice_bounds-read_numeral-end c = omega (arith, c.requires.text-within, c.wide-start.ensures.0, c.wide.ensures.0)

pub returns : goal.returns
returns c =
    c.read_numeral.ensures
    ∙ ap (numeral_of most_digits)
    (part_long c.args.text.now c.wide-start.result c.wide.result
    ∙ (λ i. take (c.wide.ensures.0 i) (drop (c.wide-start.ensures.0 i) c.args.text.now)))
