-- `listing::lines::put_context_line` meets its contract.
-- Assumes nothing.
use native.Mathlib.Omega.{arith}
use Rattle.laws.specs.Texts.{bytes}
use Rattle.listing.specs.Listing.{entry_of, entry, context_line}
use Rattle.listing.proofs.Putting.{wrote_then, wrote_room}
use Rattle.listing.proofs.lines.put_context_line.Goals as goal

pub context-requires : goal.context-requires
context-requires c = wrote_room c.text.ensures 3 (omega (arith, c.requires))

pub byte-requires : goal.byte-requires
byte-requires c = wrote_room (wrote_then c.text.ensures c.context.ensures) 1 (omega (arith, c.requires))

pub returns : goal.returns
unfolding context_line entry entry_of bytes
returns c = wrote_then c.text.ensures (wrote_then c.context.ensures c.byte.ensures)
