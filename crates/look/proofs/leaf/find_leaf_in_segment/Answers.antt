-- `look::leaf::find_leaf_in_segment` meets its contract: the rows that a counted segment row names are searched where the counts are within
-- the buffers.
-- Assumes nothing.
use mathlib.Core.Bool.{true}
use mathlib.Core.Path.{◌≡◌, sym, ◌∙◌}
use Prim.Native.Nat.{ℕ, ◌*◌, ◌≤◌}
use native.Mathlib.Omega.{arith}
use lib.ListN.{length}
use Rattle.std.proofs.Common.{rules}
use Rattle.table.specs.Lent.{Lent, lent, within_buffers}
use Rattle.table.specs.Rows.{segment_row_size}
use Rattle.table.proofs.Lent.{segments-within, leaves-within}
use Rattle.look.specs.declared.leaf.Place.{Place}
use Rattle.look.specs.Looking.{named_fits}
use Rattle.look.proofs.Seeking.{sought_uncounted}
use Rattle.look.proofs.NamedRows.{segment_zero, segment_past, none-found-first, named-found}
use Rattle.look.proofs.leaf.find_leaf_in_segment.Goals as goal
use Rattle.look.proofs.leaf.find_leaf_in_segment.Goals.{After-wide-number, Else-not-counts_fit, Else-number-lt1}

-- the table that is lent, and the place
abbrev lent_here : After-wide-number → Lent
lent_here c =
    lent c.args.card c.args.segments.now c.args.leaves.now c.args.text.now

abbrev place_here : After-wide-number → Place
place_here c = c.args.place

abbrev table_of : Else-number-lt1 → Lent
table_of c = lent_here (goal.at.Else-number-lt1 c).After-wide-number

abbrev sought_of : Else-number-lt1 → Place
sought_of c = place_here (goal.at.Else-number-lt1 c).After-wide-number

abbrev number_of : Else-number-lt1 → ℕ
number_of c = c.wide-number.result

number_is : (c : Else-number-lt1) → number_of c ≡ (sought_of c).segment
number_is c = c.wide-number.ensures.0

fit_here : (c : Else-not-counts_fit) → within_buffers (lent_here (goal.at.Else-not-counts_fit c).After-wide-number) ≡ true
fit_here c = sym c.counts_fit.ensures ∙ c.if-not-counts_fit.false

least_here : (c : Else-number-lt1) → 1 ≤ number_of c
least_here c = c.if-number-lt1.false

most_here : (c : Else-number-lt1) → number_of c ≤ (table_of c).card.segments
most_here c = c.if-card-number.false

row_within : (c : Else-number-lt1) → number_of c * segment_row_size ≤ length (table_of c).segment_rows
row_within c =
    let t = table_of c in
    omega (
      arith,
      most_here c,
      segments-within t.card (length t.segment_rows) (length t.leaf_rows) (length t.text) (fit_here (goal.at.Else-number-lt1 c).Else-not-counts_fit),
    )

pub returns-then-card-number : goal.returns-then-card-number
returns-then-card-number c = segment_past (lent_here (goal.at.returns-then-card-number c).After-wide-number) (place_here (goal.at.returns-then-card-number c).After-wide-number) (omega (arith, c.wide-number.ensures.0, c.if-card-number.true))

pub returns-then-not-counts_fit : goal.returns-then-not-counts_fit
returns-then-not-counts_fit c =
    let t = lent_here (goal.at.returns-then-not-counts_fit c).After-wide-number in
    sym (sought_uncounted (named_fits t (place_here (goal.at.returns-then-not-counts_fit c).After-wide-number)) t
    (sym c.counts_fit.ensures ∙ c.if-not-counts_fit.true))

pub returns-then-number-lt1 : goal.returns-then-number-lt1
returns-then-number-lt1 c = segment_zero (lent_here (goal.at.returns-then-number-lt1 c).After-wide-number) (place_here (goal.at.returns-then-number-lt1 c).After-wide-number) (fit_here (goal.at.returns-then-number-lt1 c).Else-not-counts_fit) (omega (arith, c.wide-number.ensures.0, c.if-number-lt1.true))

pub bounds-segments-at : goal.bounds-segments-at
bounds-segments-at c = omega (arith, row_within (goal.at.bounds-segments-at c).Else-number-lt1, least_here (goal.at.bounds-segments-at c).Else-number-lt1)

pub returns-then-first-lt1 : goal.returns-then-first-lt1
returns-then-first-lt1 c =
    none-found-first (table_of (goal.at.returns-then-first-lt1 c).Else-number-lt1) (sought_of (goal.at.returns-then-first-lt1 c).Else-number-lt1) (fit_here (goal.at.returns-then-first-lt1 c).Else-not-counts_fit) (number_is (goal.at.returns-then-first-lt1 c).Else-number-lt1) (least_here (goal.at.returns-then-first-lt1 c).Else-number-lt1)
    (most_here (goal.at.returns-then-first-lt1 c).Else-number-lt1) c.wide-first.ensures.0 c.if-first-lt1.true

pub bounds-segments-at-2 : goal.bounds-segments-at-2
bounds-segments-at-2 c = omega (arith, row_within (goal.at.bounds-segments-at-2 c).Else-number-lt1, least_here (goal.at.bounds-segments-at-2 c).Else-number-lt1)

pub first_leaf-requires-clause-within : goal.first_leaf-requires-clause-within
first_leaf-requires-clause-within c =
    let t = table_of (goal.at.first_leaf-requires-clause-within c).Else-number-lt1 in
    omega (
      arith,
      c.min-to.ensures,
      leaves-within t.card (length t.segment_rows) (length t.leaf_rows) (length t.text) (fit_here (goal.at.first_leaf-requires-clause-within c).Else-not-counts_fit),
    )

pub returns : goal.returns
returns c =
    c.first_leaf.ensures c.args.place (record { tells = λ i b e. search rules })
    ∙ named-found (table_of (goal.at.returns c).Else-number-lt1) (sought_of (goal.at.returns c).Else-number-lt1) (fit_here (goal.at.returns c).Else-not-counts_fit) (number_is (goal.at.returns c).Else-number-lt1) (least_here (goal.at.returns c).Else-number-lt1)
    (most_here (goal.at.returns c).Else-number-lt1) c.wide-first.ensures.0 c.if-first-lt1.false c.wide.ensures.0 c.min-to.ensures
