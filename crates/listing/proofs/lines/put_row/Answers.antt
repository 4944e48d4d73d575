-- `listing::lines::put_row` meets its contract: its number has five digits at most.
-- Assumes nothing.
use Prim.Native.Nat.{◌+◌, ◌≤◌}
use native.Mathlib.Omega.{arith}
use lib.ListN.{length}
use Rattle.laws.specs.Texts.{bytes}
use Rattle.listing.specs.Decimal.{decimal}
use Rattle.listing.specs.Listing.{entry_of, entry, row_line}
use Rattle.listing.proofs.Decimal.{five_digits}
use Rattle.listing.proofs.Putting.{wrote_then, wrote_more, wrote_room}
use Rattle.listing.proofs.lines.put_row.Goals as goal
use Rattle.listing.proofs.lines.put_row.Goals.{After-text}

few : (c : After-text) → length (decimal (c.args.i + 1)) ≤ 5
few c = five_digits (c.args.i + 1) c.requires.number

pub number-requires : goal.number-requires
number-requires c =
    omega (arith, wrote_room c.text.ensures 28 (omega (arith, c.requires.room)), few (goal.at.number-requires c).After-text)

pub put_columns-requires : goal.put_columns-requires
put_columns-requires c =
    let pre = c.requires in
    record {
      rows-there = pre.rows-there;
      number = pre.number;
      owner = pre.owner;
      first = pre.first;
      count = pre.count;
      room =
          omega (
            arith,
            wrote_room (wrote_then c.text.ensures (wrote_more c.number.ensures (few (goal.at.put_columns-requires c).After-text))) 23
                (omega (arith, pre.room)),
          );
    }

pub byte-requires : goal.byte-requires
byte-requires c =
    wrote_room
    (wrote_then (wrote_then c.text.ensures (wrote_more c.number.ensures (few (goal.at.byte-requires c).After-text))) c.put_columns.ensures) 1
    (omega (arith, c.requires.room))

pub returns : goal.returns
unfolding row_line entry entry_of bytes
returns c =
    wrote_then c.text.ensures
    (wrote_then (wrote_then (wrote_more c.number.ensures (few (goal.at.returns c).After-text)) c.put_columns.ensures) c.byte.ensures)
