-- `archive::rereading::ever_read` meets its contract: the counts, and then the counted rows.
-- Assumes nothing.
use native.Mathlib.Omega.{arith}
use mathlib.Core.Bool.{true}
use mathlib.Core.Path.{◌≡◌, sym, ◌∙◌}
use Prim.Native.Nat.{◌*◌}
use lib.Seq.{length-take-le}
use Rattle.form.specs.Forms.{small_form}
use Rattle.table.specs.Rows.{segment_row_size, leaf_row_size}
use Rattle.table.specs.Lent.{Lent, lent, within_limits, within_buffers}
use Rattle.laws.proofs.Tests.{never_both}
use Rattle.write.proofs.LentTables.{Within, within_buffers_lem}
use Rattle.archive.proofs.CountedRows.{counts-allowed, never_past_limits, never_past_buffers, just_counted, counted-read}
use Rattle.archive.proofs.rereading.ever_read.Goals as goal
use Rattle.archive.proofs.rereading.ever_read.Goals.{Then-counts_fit-2, Start, then-counts_fit, else-counts_fit}

-- the lent table
abbrev table : Start → Lent
table s = lent s.args.card s.args.segments.now s.args.leaves.now s.args.text.now

few : (c : Then-counts_fit-2) → within_limits small_form c.args.card ≡ true
few c =
    elim c.if-counts_fit.branch [
      | then-counts_fit w ↦ sym (counts-allowed small_form c.args.card) ∙ sym c.counts_fit.ensures ∙ w.if-counts_fit.true
      | else-counts_fit w ↦ absurd (never_both c.if-counts_fit-2.true (w.value-is ∙ w.if-counts_fit.false))
    ]

fit : (c : Then-counts_fit-2) → within_buffers (table (goal.at.Then-counts_fit-2 c).Start) ≡ true
fit c =
    elim c.if-counts_fit.branch [
      | then-counts_fit w ↦ sym w.counts_fit-then-counts_fit.ensures ∙ sym w.value-is ∙ c.if-counts_fit-2.true
      | else-counts_fit w ↦ absurd (never_both c.if-counts_fit-2.true (w.value-is ∙ w.if-counts_fit.false))
    ]

within : (c : Then-counts_fit-2) → Within (table (goal.at.Then-counts_fit-2 c).Start)
within c = (within_buffers_lem (table (goal.at.Then-counts_fit-2 c).Start)).0 (fit c)

pub overflow_mul-card : goal.overflow_mul-card
overflow_mul-card c = omega (arith, (within (goal.at.overflow_mul-card c).Then-counts_fit-2).segment_rows)

pub overflow_mul-card-then-counts_fit-2 : goal.overflow_mul-card-then-counts_fit-2
overflow_mul-card-then-counts_fit-2 c = omega (arith, (within (goal.at.overflow_mul-card-then-counts_fit-2 c).Then-counts_fit-2).leaf_rows)

pub slice_bounds-read_by_either-end : goal.slice_bounds-read_by_either-end
slice_bounds-read_by_either-end c =
    sym (length-take-le (c.args.card.segments * segment_row_size) c.args.segments.now (within (goal.at.slice_bounds-read_by_either-end c).Then-counts_fit-2).segment_rows)

pub slice_bounds-read_by_either-end-then-counts_fit-2 : goal.slice_bounds-read_by_either-end-then-counts_fit-2
slice_bounds-read_by_either-end-then-counts_fit-2 c =
    sym (length-take-le (c.args.card.leaves * leaf_row_size) c.args.leaves.now (within (goal.at.slice_bounds-read_by_either-end-then-counts_fit-2 c).Then-counts_fit-2).leaf_rows)

pub read_by_either-requires : goal.read_by_either-requires
read_by_either-requires c =
    just_counted small_form c.args.card c.args.segments.now c.args.leaves.now c.args.text.now (fit (goal.at.read_by_either-requires c).Then-counts_fit-2)
    (few (goal.at.read_by_either-requires c).Then-counts_fit-2)

pub returns-then-counts_fit-2 : goal.returns-then-counts_fit-2
returns-then-counts_fit-2 c =
    c.read_by_either.ensures
    ∙ counted-read small_form c.args.card c.args.segments.now c.args.leaves.now c.args.text.now (fit (goal.at.returns-then-counts_fit-2 c).Then-counts_fit-2)

pub returns-else-counts_fit-2 : goal.returns-else-counts_fit-2
returns-else-counts_fit-2 c =
    c.if-counts_fit-2.false
    ∙ elim c.if-counts_fit.branch [
      | then-counts_fit w ↦
          never_past_buffers small_form (table (goal.at.returns-else-counts_fit-2 c).Start)
          (sym w.counts_fit-then-counts_fit.ensures ∙ sym w.value-is ∙ c.if-counts_fit-2.false)
      | else-counts_fit w ↦
          never_past_limits small_form (table (goal.at.returns-else-counts_fit-2 c).Start)
          (sym (counts-allowed small_form c.args.card) ∙ sym c.counts_fit.ensures ∙ w.if-counts_fit.false)
    ]
