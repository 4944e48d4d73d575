-- `value::result::result_of` meets its contract: by the first leaf of the field, and whether another stands behind it.
-- Assumes nothing.
use mathlib.Core.Path.{sym, ◌∙◌}
use Prim.Native.Nat.{◌+◌, ◌*◌, ◌≤◌}
use native.Mathlib.Omega.{arith}
use lib.ListN.{length}
use Rattle.table.specs.Lent.{Lent, lent}
use Rattle.table.specs.Rows.{segment_row_size}
use Rattle.tested.proofs.NamedLeaves.{row_inside}
use Rattle.value.specs.Numerals.{most_digits}
use Rattle.value.specs.inner.Said.{told}
use Rattle.value.proofs.FieldLeaves.{rows_searched, none_found, one-before, rows_behind, leaf-inside, more-found, one_found}
use Rattle.value.proofs.result.result_of.Goals as goal
use Rattle.value.proofs.result.result_of.Goals.{Start}

-- the table that is lent, and its row within the buffer
abbrev lent_here : Start → Lent
lent_here c = lent c.args.card c.args.segments.now c.args.leaves.now c.args.text.now

inside : (c : Start) → c.args.row * segment_row_size + segment_row_size ≤ length c.args.segments.now
inside c = row_inside (lent_here c) c.requires.table c.args.row c.requires.counts

pub bounds-segments-at : goal.bounds-segments-at
bounds-segments-at c = omega (arith, inside (goal.at.bounds-segments-at c).Start)

pub overflow_sub-from : goal.overflow_sub-from
overflow_sub-from c = omega (arith, c.requires.table.first c.args.row c.requires.counts, c.wide-from.ensures.0)

pub bounds-segments-at-2 : goal.bounds-segments-at-2
bounds-segments-at-2 c = omega (arith, inside (goal.at.bounds-segments-at-2 c).Start)

pub first_of_field-requires : goal.first_of_field-requires
first_of_field-requires c = rows_searched most_digits (lent_here (goal.at.first_of_field-requires c).Start) c.requires.table c.args.row c.requires.counts c.wide-from.ensures.0 c.wide.ensures.0

pub returns-in_default : goal.returns-in_default
unfolding told
returns-in_default c =
    none_found most_digits (lent_here (goal.at.returns-in_default c).Start) c.requires.table c.args.row c.requires.counts c.wide-from.ensures.0 c.wide.ensures.0 (sym c.in_default.is ∙ c.first_of_field.ensures)

pub overflow_add-one : goal.overflow_add-one
overflow_add-one c =
    omega (
      arith,
      one-before most_digits (lent_here (goal.at.overflow_add-one c).Start) c.requires.table c.args.row c.requires.counts c.wide-from.ensures.0 c.wide.ensures.0
          (sym c.in-Some.is ∙ c.first_of_field.ensures),
    )

pub first_of_field-requires-2 : goal.first_of_field-requires-2
first_of_field-requires-2 c =
    rows_behind most_digits (lent_here (goal.at.first_of_field-requires-2 c).Start) c.requires.table c.args.row c.requires.counts c.wide-from.ensures.0 c.wide.ensures.0
    (sym c.in-Some.is ∙ c.first_of_field.ensures)

pub leaf_says-requires : goal.leaf_says-requires
leaf_says-requires c =
    leaf-inside most_digits (lent_here (goal.at.leaf_says-requires c).Start) c.requires.table c.args.row c.requires.counts c.wide-from.ensures.0 c.wide.ensures.0
    (sym c.in-Some.is ∙ c.first_of_field.ensures)

pub returns-in-None : goal.returns-in-None
returns-in-None c =
    c.leaf_says.ensures
    ∙ one_found most_digits (lent_here (goal.at.returns-in-None c).Start) c.requires.table c.args.row c.requires.counts c.wide-from.ensures.0 c.wide.ensures.0
    (sym c.in-Some.is ∙ c.first_of_field.ensures) (sym c.in-None.is ∙ c.first_of_field-2.ensures)

pub returns-in-Some-first_of_field : goal.returns-in-Some-first_of_field
unfolding told
returns-in-Some-first_of_field c =
    more-found most_digits (lent_here (goal.at.returns-in-Some-first_of_field c).Start) c.requires.table c.args.row c.requires.counts c.wide-from.ensures.0 c.wide.ensures.0
    (sym c.in-Some.is ∙ c.first_of_field.ensures) (sym c.in-Some-first_of_field.is ∙ c.first_of_field-2.ensures)
