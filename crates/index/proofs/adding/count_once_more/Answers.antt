-- `index::adding::count_once_more` meets its contract: a count is below 4,294,967,296. Assumes nothing.
use native.Mathlib.Omega.{arith}
use Rattle.index.proofs.OnceMore.{count_full, counted-once}
use Rattle.index.proofs.adding.count_once_more.Goals as goal

pub returns-then-counts-at : goal.returns-then-counts-at
returns-then-counts-at c = let a = c.args in count_full a.counts.now a.at c.if-counts-at.true

pub overflow_add-counts : goal.overflow_add-counts
overflow_add-counts c =
    let a = c.args in
    record { fits = omega (arith, (c.slice_known-2-1.given a.at).fits, c.if-counts-at.false) }

pub returns : goal.returns
returns c =
    let a = c.args in
    counted-once a.counts.now a.at c.if-counts-at.false (c.slice_known-2-1.given a.at).fits
