-- `write::test::table_bytes` meets its contract. The counts, and then the counted entries.
-- Assumes nothing.
use native.Mathlib.Omega.{arith}
use mathlib.Core.Bool.{true}
use mathlib.Core.Path.{◌≡◌, sym, ◌∙◌}
use lib.Seq.{length-take-le}
use Prim.Native.Nat.{ℕ, ◌*◌}
use Rattle.order.specs.inner.Levels.{level_in}
use Rattle.table.specs.Rows.{segment_row_size, leaf_row_size}
use Rattle.table.specs.Lent.{Lent, lent, within_limits, within_buffers, counted}
use Rattle.write.proofs.LentTables.{Within, within_buffers_lem}
use Rattle.write.proofs.LentTest.{limits_refuse, buffers_refuse, counted-table}
use Rattle.write.proofs.Sizes.{no_lent_size, counted-size}
use Rattle.write.proofs.Said.{answered_no, answered_yes}
use Rattle.write.proofs.test.table_bytes.Goals as goal
use Rattle.write.proofs.test.table_bytes.Goals.{Else-not-counts_fit, Start}

-- the lent table
abbrev table : Start → Lent
table s = lent s.args.card s.args.segments.now s.args.leaves.now s.args.text.now

-- the levels it is tested by
abbrev by_levels : Start → ℕ → ℕ → ℕ
by_levels s = level_in s.args.levels.now

few : (c : Else-not-counts_fit) → within_limits c.args.limits c.args.card ≡ true
few c = answered_yes c.within_limits.ensures c.if-not-within_limits.false

fit : (c : Else-not-counts_fit) → within_buffers (table (goal.at.Else-not-counts_fit c).Start) ≡ true
fit c = answered_yes c.counts_fit.ensures c.if-not-counts_fit.false

within : (c : Else-not-counts_fit) → Within (table (goal.at.Else-not-counts_fit c).Start)
within c = (within_buffers_lem (table (goal.at.Else-not-counts_fit c).Start)).0 (fit c)

pub returns-then-not-within_limits : goal.returns-then-not-within_limits
returns-then-not-within_limits c =
    sym (no_lent_size c.args.limits (by_levels (goal.at.returns-then-not-within_limits c).Start) (table (goal.at.returns-then-not-within_limits c).Start)
    (sym (limits_refuse c.args.limits (by_levels (goal.at.returns-then-not-within_limits c).Start) (table (goal.at.returns-then-not-within_limits c).Start) (answered_no c.within_limits.ensures c.if-not-within_limits.true))))

pub returns-then-not-counts_fit : goal.returns-then-not-counts_fit
returns-then-not-counts_fit c =
    sym (no_lent_size c.args.limits (by_levels (goal.at.returns-then-not-counts_fit c).Start) (table (goal.at.returns-then-not-counts_fit c).Start)
    (sym (buffers_refuse c.args.limits (by_levels (goal.at.returns-then-not-counts_fit c).Start) (table (goal.at.returns-then-not-counts_fit c).Start) (answered_no c.counts_fit.ensures c.if-not-counts_fit.true))))

pub overflow_mul-many : goal.overflow_mul-many
overflow_mul-many c = omega (arith, (within (goal.at.overflow_mul-many c).Else-not-counts_fit).segment_rows)

pub overflow_mul-size : goal.overflow_mul-size
overflow_mul-size c = omega (arith, (within (goal.at.overflow_mul-size c).Else-not-counts_fit).leaf_rows)

pub slice_bounds-segments-end : goal.slice_bounds-segments-end
slice_bounds-segments-end c = sym (length-take-le (c.args.card.segments * segment_row_size) c.args.segments.now (within (goal.at.slice_bounds-segments-end c).Else-not-counts_fit).segment_rows)

pub slice_bounds-leaves-end : goal.slice_bounds-leaves-end
slice_bounds-leaves-end c = sym (length-take-le (c.args.card.leaves * leaf_row_size) c.args.leaves.now (within (goal.at.slice_bounds-leaves-end c).Else-not-counts_fit).leaf_rows)

pub slice_bounds-leaves-end-2 : goal.slice_bounds-leaves-end-2
slice_bounds-leaves-end-2 c = sym (length-take-le c.args.card.text c.args.text.now (within (goal.at.slice_bounds-leaves-end-2 c).Else-not-counts_fit).text)

pub counted_bytes-requires : goal.counted_bytes-requires
unfolding counted
counted_bytes-requires c = counted-table c.args.limits (by_levels (goal.at.counted_bytes-requires c).Start) (table (goal.at.counted_bytes-requires c).Start) (few (goal.at.counted_bytes-requires c).Else-not-counts_fit) (fit (goal.at.counted_bytes-requires c).Else-not-counts_fit) c.requires

pub returns : goal.returns
unfolding counted
returns c = c.counted_bytes.ensures ∙ counted-size c.args.limits (by_levels (goal.at.returns c).Start) (table (goal.at.returns c).Start) (few (goal.at.returns c).Else-not-counts_fit) (fit (goal.at.returns c).Else-not-counts_fit)
