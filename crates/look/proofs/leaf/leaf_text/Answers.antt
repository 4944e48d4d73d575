-- `look::leaf::leaf_text` meets its contract: by what `find_leaf` finds, which lies within the text.
-- Assumes nothing.
use mathlib.Core.Path.{◌≡◌, sym, ◌∙◌}
use Prim.Native.Nat.{◌+◌, ◌≤◌}
use native.Mathlib.Omega.{arith}
use lib.ListN.{length}
use Rattle.table.specs.Lent.{Lent, lent}
use Rattle.look.specs.declared.leaf.Sought.TheVariants.{At, Empty, NotThere}
use Rattle.look.specs.inner.Searching.{sought_in}
use Rattle.look.proofs.Seeking.{found_within}
use Rattle.look.proofs.TextParts.{part_cut, empty_part, no_part}
use Rattle.look.proofs.leaf.leaf_text.Goals as goal
use Rattle.look.proofs.leaf.leaf_text.Goals.{After-find_leaf, In-At, In-At-2, In-Empty, In-NotThere}

-- the table that is lent
abbrev lent_here : After-find_leaf → Lent
lent_here c =
    lent c.args.card c.args.segments.now c.args.leaves.now c.args.text.now

-- a leaf is found, within the text
found : (c : In-At) → sought_in (lent_here (goal.at.In-At c).After-find_leaf) c.args.place
    ≡ At c.in-At.start c.in-At.length
found c = sym c.find_leaf.ensures ∙ c.in-At.is

within : (c : In-At) → c.in-At.start + c.in-At.length ≤ length c.args.text.now
within c =
    found_within (lent_here (goal.at.In-At c).After-find_leaf) c.args.place c.in-At.start c.in-At.length (found c)

found_empty : (c : In-Empty) → sought_in (lent_here (goal.at.In-Empty c).After-find_leaf) c.args.place ≡ Empty
found_empty c = sym c.find_leaf.ensures ∙ c.in-Empty.is

not_found : (c : In-NotThere) → sought_in (lent_here (goal.at.In-NotThere c).After-find_leaf) c.args.place ≡ NotThere
not_found c = sym c.find_leaf.ensures ∙ c.in-NotThere.is

pub overflow_add-end : goal.overflow_add-end
overflow_add-end c = omega (arith, within c)

pub slice_bounds-result-end : goal.slice_bounds-result-end
slice_bounds-result-end c = omega (arith, within c)

pub returns-in-At : goal.returns-in-At
returns-in-At c = part_cut c.args.text c.args.substitute c.in-At.start c.in-At.length (found (goal.at.returns-in-At c).In-At)

pub returns-in-Empty : goal.returns-in-Empty
returns-in-Empty c = sym (empty_part c.args.text c.args.substitute (found_empty (goal.at.returns-in-Empty c).In-Empty))

pub returns-in-NotThere : goal.returns-in-NotThere
returns-in-NotThere c = sym (no_part c.args.text c.args.substitute (not_found c))
