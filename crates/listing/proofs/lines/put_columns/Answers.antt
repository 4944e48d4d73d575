-- `listing::lines::put_columns` meets its contract: comma, kind, and three numbers with their commas.
-- Assumes nothing.
use native.Mathlib.Omega.{arith}
use Rattle.listing.specs.Listing.{columns}
use Rattle.listing.proofs.Putting.{wrote_then, wrote_room}
use Rattle.listing.proofs.lines.put_columns.Goals as goal

pub put_next-requires : goal.put_next-requires
put_next-requires c =
    record { few = c.requires.owner; room = omega (arith, wrote_room (wrote_then c.byte.ensures c.kind.ensures) 18 c.requires.room) }

pub put_next-requires-2 : goal.put_next-requires-2
put_next-requires-2 c =
    record {
      few = c.requires.first;
      room = omega (arith, wrote_room (wrote_then (wrote_then c.byte.ensures c.kind.ensures) c.put_next.ensures) 12 c.requires.room);
    }

pub put_next-requires-3 : goal.put_next-requires-3
put_next-requires-3 c =
    record {
      few = c.requires.count;
      room =
          wrote_room (wrote_then (wrote_then (wrote_then c.byte.ensures c.kind.ensures) c.put_next.ensures) c.put_next-2.ensures) 6
          c.requires.room;
    }

pub returns : goal.returns
unfolding columns
returns c =
    wrote_then c.byte.ensures
    (wrote_then c.kind.ensures (wrote_then c.put_next.ensures (wrote_then c.put_next-2.ensures c.put_next-3.ensures)))
