-- `write::segment_rows::Segments::owned` meets its contract. The loop's invariant: what is known of the rows so far, and their owners are right.
-- Assumes nothing.
use native.Mathlib.Omega.{arith}
use mathlib.Core.Path.{refl}
use Rattle.order.specs.inner.Levels.{level_in}
use Rattle.write.proofs.Columns.{owning_begins, owning_fails, owning_on, owning_done}
use Rattle.write.proofs.segment_rows.Segments.owned.Goals as goal

pub loop-i-init : goal.loop-i-init
loop-i-init c = owning_begins (level_in c.args.table.now c.args.context) c.args.self.rows.now c.args.self.count c.no_rows-nearest.ensures

pub returns-then-owner_of-self : goal.returns-then-owner_of-self
returns-then-owner_of-self c = owning_fails c.loop-i.invariant (c.requires.low c.args.context) (omega arith) refl refl c.level_of-level.ensures c.owner_of.ensures c.if-owner_of-self.true

pub loop-i-preserved : goal.loop-i-preserved
loop-i-preserved c = owning_on c.loop-i.invariant (c.requires.low c.args.context) (omega arith) refl refl c.level_of-level.ensures c.owner_of.ensures c.if-owner_of-self.false

pub returns : goal.returns
returns c = owning_done c.loop-i.invariant (omega arith)
