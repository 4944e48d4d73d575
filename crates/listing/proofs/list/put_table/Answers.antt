-- `listing::list::put_table` meets its contract: the counts, and the rows behind them.
-- Assumes nothing.
use mathlib.Core.Path.{ap}
use Prim.Native.Nat.{◌*◌}
use Rattle.form.specs.Forms.{limits_of}
use Rattle.listing.specs.Listing.{count_lines}
use Rattle.listing.proofs.Putting.{wrote_as, wrote_then, wrote_room}
use Rattle.listing.proofs.list.put_table.Goals as goal

pub put_rows-requires : goal.put_rows-requires
put_rows-requires c =
    let pre = c.requires in
    record {
      rows-there = pre.rows-there;
      number = pre.number;
      numbers = pre.numbers;
      room = wrote_room c.put_counts.ensures (c.args.card.segments * 32) pre.room;
    }

pub returns : goal.returns
unfolding limits_of
returns c = wrote_then (wrote_as c.put_counts.ensures (ap (count_lines c.args.card) c.written_bytes-size.ensures)) c.put_rows.ensures
