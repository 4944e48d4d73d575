-- `look::leaf::find_leaf` meets its contract: the rows are searched where the counts are within the buffers.
-- Assumes nothing.
use mathlib.Core.Path.{◌≡◌, sym, ap, ◌∙◌}
use Prim.Native.Nat.{◌-◌}
use native.Mathlib.Omega.{arith}
use lib.ListN.{length}
use Rattle.std.proofs.Common.{rules}
use Rattle.table.specs.Lent.{Lent, lent}
use Rattle.table.proofs.Lent.{leaves-within}
use Rattle.look.specs.Looking.{leaf_fits}
use Rattle.look.specs.inner.Searching.{sought_from}
use Rattle.look.proofs.Seeking.{sought_counted, sought_uncounted}
use Rattle.look.proofs.leaf.find_leaf.Goals as goal
use Rattle.look.proofs.leaf.find_leaf.Goals.{After-counts_fit}

-- the table that is lent
abbrev lent_here : After-counts_fit → Lent
lent_here c = lent c.args.card c.args.segments.now c.args.leaves.now c.args.text.now

pub first_leaf-requires-clause-within : goal.first_leaf-requires-clause-within
first_leaf-requires-clause-within c =
    leaves-within c.args.card (length c.args.segments.now) (length c.args.leaves.now) (length c.args.text.now)
    (sym c.counts_fit.ensures ∙ c.if-counts_fit.true)

pub returns-then-counts_fit : goal.returns-then-counts_fit
returns-then-counts_fit c =
    let t = lent_here (goal.at.returns-then-counts_fit c).After-counts_fit in
    c.first_leaf.ensures c.args.place (record { tells = λ i b e. search rules })
    ∙ ap (sought_from (leaf_fits t c.args.place) t.leaf_rows 0) (let all : t.card.leaves - 0 ≡ t.card.leaves = omega arith in all)
    ∙ sym (sought_counted (leaf_fits t c.args.place) t (sym c.counts_fit.ensures ∙ c.if-counts_fit.true))

pub returns-else-counts_fit : goal.returns-else-counts_fit
returns-else-counts_fit c =
    let t = lent_here (goal.at.returns-else-counts_fit c).After-counts_fit in
    sym (sought_uncounted (leaf_fits t c.args.place) t (sym c.counts_fit.ensures ∙ c.if-counts_fit.false))
