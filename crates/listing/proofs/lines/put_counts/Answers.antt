-- `listing::lines::put_counts` meets its contract: five lines.
-- Assumes nothing.
use native.Mathlib.Omega.{arith}
use Rattle.laws.specs.Texts.{bytes}
use Rattle.listing.specs.Listing.{entry, count_lines}
use Rattle.listing.proofs.Putting.{wrote_then, wrote_more, wrote_room}
use Rattle.listing.proofs.lines.put_counts.Goals as goal

pub put_entry-requires : goal.put_entry-requires
put_entry-requires c = omega (arith, wrote_room c.put_context_line.ensures 116 (omega (arith, c.requires)))

pub put_entry-requires-2 : goal.put_entry-requires-2
put_entry-requires-2 c =
    omega (arith, wrote_room (wrote_then c.put_context_line.ensures c.put_entry.ensures) 86 (omega (arith, c.requires)))

pub put_entry-requires-3 : goal.put_entry-requires-3
put_entry-requires-3 c =
    omega (
      arith,
      wrote_room (wrote_then (wrote_then c.put_context_line.ensures c.put_entry.ensures) c.put_entry-2.ensures) 58 (omega (arith, c.requires)),
    )

pub put_entry-requires-4 : goal.put_entry-requires-4
put_entry-requires-4 c =
    omega (
      arith,
      wrote_room
          (wrote_then (wrote_then (wrote_then c.put_context_line.ensures c.put_entry.ensures) c.put_entry-2.ensures) c.put_entry-3.ensures)
          32 (omega (arith, c.requires)),
    )

pub returns : goal.returns
unfolding count_lines entry bytes
returns c =
    wrote_more
    (wrote_then c.put_context_line.ensures
    (wrote_then c.put_entry.ensures
    (wrote_then c.put_entry-2.ensures (wrote_then c.put_entry-3.ensures c.put_entry-4.ensures))))
    (omega arith)
