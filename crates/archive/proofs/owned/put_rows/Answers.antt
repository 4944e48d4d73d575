-- `archive::owned::put_rows` meets its contract: the rows from here on, put into the buffer as it stands, give what all of them give.
-- Assumes nothing.
use mathlib.Core.Path.{refl}
use native.Mathlib.Omega.{arith}
use Rattle.order.specs.inner.Levels.{level_in}
use Rattle.archive.proofs.OwnedRows.{rows-begun, rows_on, rows-done}
use Rattle.archive.proofs.owned.put_rows.Goals as goal

pub loop-i-init : goal.loop-i-init
loop-i-init c = rows-begun (level_in c.args.table.now c.args.context) c.args.segments.now c.args.many c.args.to.now c.no_rows-nearest.ensures

pub overflow_cast-kind : goal.overflow_cast-kind
overflow_cast-kind c = omega (arith, c.requires.kinds.kinds c.loop-i.i (omega arith))

pub put_row-requires : goal.put_row-requires
put_row-requires c = omega (arith, c.requires.room, c.loop-i.invariant.long)

pub loop-i-preserved : goal.loop-i-preserved
loop-i-preserved c =
    rows_on c.loop-i.invariant (c.requires.low c.args.context) c.loop-i-test.true refl refl c.level_of-level.ensures
    c.owner_of-owner.ensures c.from-same.ensures c.from-first.ensures c.from-count.ensures c.put_row.ensures

pub returns : goal.returns
returns c = rows-done c.loop-i.invariant c.loop-i-test.false
