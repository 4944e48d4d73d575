-- `value::result::has_numeric_type` meets its contract: the type is found among the segment's own
-- leaves.
-- Assumes nothing.
use mathlib.Core.Path.{◌≡◌, sym, ap, ◌∙◌}
use mathlib.Core.List.{List}
use Prim.Native.Nat.{ℕ, ◌+◌, ◌≤◌}
use native.Mathlib.Omega.{arith}
use lib.ListN.{length}
use Rattle.laws.specs.Lists.{same}
use Rattle.table.specs.Lent.{Lent, lent}
use Rattle.look.specs.Looking.{says_text}
use Rattle.look.specs.inner.Searching.{sought_in}
use Rattle.look.proofs.TextParts.{part_long}
use Rattle.value.specs.Results.{numeric_type, type_place}
use Rattle.value.proofs.NumericRows.{type_sought_lem, type_inside, no_type}
use Rattle.value.proofs.result.has_numeric_type.Goals as goal
use Rattle.value.proofs.result.has_numeric_type.Goals.{After-find_leaf_in_segment, In-At, Start}

-- the table that is lent
abbrev lent_here : Start → Lent
lent_here c = lent c.args.card c.args.segments.now c.args.leaves.now c.args.text.now

sought_here : (c : After-find_leaf_in_segment) → c.find_leaf_in_segment.result ≡ sought_in (lent_here (goal.at.After-find_leaf_in_segment c).Start) (type_place c.args.row)
sought_here c = type_sought_lem (lent_here (goal.at.After-find_leaf_in_segment c).Start) c.args.row c.requires.table c.find_leaf_in_segment.ensures

-- a type is within the text
within : (c : In-At) → c.in-At.start + c.in-At.length ≤ length c.args.text.now
within c =
    type_inside (lent_here (goal.at.In-At c).Start) c.args.row c.in-At.start c.in-At.length
    (sym c.in-At.is ∙ sought_here (goal.at.In-At c).After-find_leaf_in_segment)

pub overflow_add-start : goal.overflow_add-start
overflow_add-start c = omega (arith, within c)

pub slice_bounds-is_type-end : goal.slice_bounds-is_type-end
slice_bounds-is_type-end c = omega (arith, within c)

pub returns-in-At : goal.returns-in-At
unfolding says_text
returns-in-At c =
    c.is_type.ensures
    ∙ ap (λ (s : List ℕ). same s numeric_type) (part_long c.args.text.now c.in-At.start c.in-At.length)
    ∙ ap (says_text c.args.text.now numeric_type) (sym c.in-At.is ∙ sought_here (goal.at.returns-in-At c).After-find_leaf_in_segment)

pub returns-in-Empty : goal.returns-in-Empty
returns-in-Empty c =
    no_type c.args.text.now c.in-Empty.is
    ∙ ap (says_text c.args.text.now numeric_type) (sought_here (goal.at.returns-in-Empty c).After-find_leaf_in_segment)
