-- `listing::lines::put_answer` meets its contract: three lines.
-- Assumes nothing.
use native.Mathlib.Omega.{arith}
use Rattle.laws.specs.Texts.{bytes}
use Rattle.listing.specs.Listing.{entry, answer_lines}
use Rattle.listing.proofs.Putting.{wrote_then, wrote_more, wrote_room}
use Rattle.listing.proofs.lines.put_answer.Goals as goal

pub put_entry-requires : goal.put_entry-requires
put_entry-requires c = omega (arith, wrote_room c.text.ensures 57 (omega (arith, c.requires)))

pub put_entry-requires-2 : goal.put_entry-requires-2
put_entry-requires-2 c = omega (arith, wrote_room (wrote_then c.text.ensures c.put_entry.ensures) 27 (omega (arith, c.requires)))

pub returns : goal.returns
unfolding answer_lines entry bytes
returns c = wrote_more (wrote_then c.text.ensures (wrote_then c.put_entry.ensures c.put_entry-2.ensures)) (omega arith)
