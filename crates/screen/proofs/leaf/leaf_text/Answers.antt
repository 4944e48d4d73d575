-- `screen::leaf::leaf_text` meets its contract: the part of the text that the lookup finds, or none of it.
-- Assumes nothing.
use mathlib.Core.Path.{◌≡◌, sym, ap, ◌∙◌}
use Prim.Native.Nat.{◌+◌, ◌≤◌}
use native.Mathlib.Omega.{arith}
use lib.ListN.{length}
use Rattle.table.specs.Lent.{Lent, lent}
use Rattle.look.specs.declared.leaf.Sought.{Sought}
use Rattle.look.specs.declared.leaf.Sought.TheVariants.{At}
use Rattle.look.proofs.TextParts.{part_long}
use Rattle.tested.proofs.NamedLeaves.{sought_named, named-inside}
use Rattle.screen.specs.Meeting.{sought_of}
use Rattle.look.specs.Looking.{text_found}
use Rattle.screen.proofs.LeafTexts.{no_text}
use Rattle.screen.proofs.leaf.leaf_text.Goals as goal
use Rattle.screen.proofs.leaf.leaf_text.Goals.{After-find_leaf_in_segment, In-At, Start}

abbrev lent_here : Start → Lent
lent_here c = lent c.args.card c.args.segments.now c.args.leaves.now c.args.text.now

abbrev sought_here : Start → Sought
sought_here c = sought_of (lent_here c) c.args.row c.args.field c.args.subfield

sought_so : (c : After-find_leaf_in_segment) → c.find_leaf_in_segment.result ≡ sought_here (goal.at.After-find_leaf_in_segment c).Start
sought_so c =
    sought_named (lent_here (goal.at.After-find_leaf_in_segment c).Start) c.args.row c.args.field c.args.subfield c.requires.report.table c.find_leaf_in_segment.ensures

-- a text was found, and lies within the text area
found : (c : In-At) → At c.in-At.start c.in-At.length ≡ sought_here (goal.at.In-At c).Start
found c = sym c.in-At.is ∙ sought_so (goal.at.In-At c).After-find_leaf_in_segment

within : (c : In-At) → c.in-At.start + c.in-At.length ≤ length c.args.text.now
within c =
    named-inside (lent_here (goal.at.In-At c).Start) c.args.row c.args.field c.args.subfield c.in-At.start c.in-At.length (found c)

pub overflow_add-result : goal.overflow_add-result
overflow_add-result c = omega (arith, within c)

pub slice_bounds-result-end : goal.slice_bounds-result-end
slice_bounds-result-end c = omega (arith, within c)

pub returns-in-At : goal.returns-in-At
unfolding text_found
returns-in-At c =
    let text = c.args.text.now in
    part_long text c.in-At.start c.in-At.length ∙ ap (text_found text) (found (goal.at.returns-in-At c).In-At)

pub returns-in-Empty : goal.returns-in-Empty
returns-in-Empty c =
    no_text c.args.text.now c.in-Empty.is ∙ ap (text_found c.args.text.now) (sought_so (goal.at.returns-in-Empty c).After-find_leaf_in_segment)
