-- `write::segment_rows::Segments::ordered` meets its contract. The loop's invariant: the watcher has said yes to the kinds so far.
-- Assumes nothing.
use native.Mathlib.Omega.{arith}
use mathlib.Core.Path.{refl, ◌∙◌}
use borrow.Author.Tests.{not-true, not-false}
use Rattle.order.proofs.Watching.{by_this_table}
use Rattle.write.proofs.Columns.{ordering_begins, ordered_on, ordered-fails, ordered-done}
use Rattle.write.proofs.segment_rows.Segments.ordered.Goals as goal

pub loop-i-init : goal.loop-i-init
loop-i-init c = ordering_begins c.begin-watcher.ensures

pub returns-then-not-told : goal.returns-then-not-told
returns-then-not-told c =
    ordered-fails c.loop-i.invariant (omega arith) refl
    (c.tell_by-told.ensures ∙ by_this_table c.args.table.now c.requires.followers_are c.loop-i.watcher _) (not-true _ c.if-not-told.true)

pub loop-i-preserved : goal.loop-i-preserved
loop-i-preserved c =
    ordered_on c.loop-i.invariant (omega arith) refl
    (c.tell_by-told.ensures ∙ by_this_table c.args.table.now c.requires.followers_are c.loop-i.watcher _) (not-false _ c.if-not-told.false)

pub returns : goal.returns
returns c = ordered-done c.loop-i.invariant (omega arith)
