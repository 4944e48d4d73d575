-- `listing::lines::put_rows` meets its contract: the lines of the rows before stand, and the next one comes behind them.
-- Assumes nothing.
use mathlib.Core.Path.{◌≡◌, subst}
use Prim.Native.Nat.{◌+◌, ◌*◌}
use native.Mathlib.Omega.{arith}
use Rattle.table.specs.Rows.{segment_row_size}
use Rattle.listing.proofs.Putting.{wrote_room}
use Rattle.listing.proofs.RowLines.{Rows, rows_begin, rows_more}
use Rattle.listing.proofs.lines.put_rows.Goals as goal

pub loop-i-init : goal.loop-i-init
loop-i-init c = rows_begin

pub put_row-requires : goal.put_row-requires
put_row-requires c =
    let pre = c.requires in
    record {
      rows-there = omega (arith, pre.rows-there);
      number = omega (arith, pre.number);
      owner = pre.numbers (c.loop-i.i * segment_row_size + 1) (omega arith);
      first = pre.numbers (c.loop-i.i * segment_row_size + 2) (omega arith);
      count = pre.numbers (c.loop-i.i * segment_row_size + 3) (omega arith);
      room = wrote_room c.loop-i.invariant.wrote 32 (omega (arith, pre.room));
    }

pub loop-i-preserved : goal.loop-i-preserved
loop-i-preserved c = rows_more c.loop-i.invariant c.put_row.ensures

pub returns : goal.returns
returns c =
    let all : c.loop-i.i ≡ c.args.count = omega (arith, c.loop-i-test.false) in
    (subst (Rows c.args.segments.now c.args.pen.now c.loop-i.pen) all c.loop-i.invariant).wrote
