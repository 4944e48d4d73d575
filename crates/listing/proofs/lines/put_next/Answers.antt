-- `listing::lines::put_next` meets its contract: a comma and a number of a row.
-- Assumes nothing.
use native.Mathlib.Omega.{arith}
use Rattle.listing.specs.Listing.{and_number}
use Rattle.listing.proofs.Decimal.{five_digits}
use Rattle.listing.proofs.Putting.{wrote_then, wrote_more, wrote_room}
use Rattle.listing.proofs.lines.put_next.Goals as goal

pub number-requires : goal.number-requires
number-requires c = omega (arith, wrote_room c.byte.ensures 5 (omega arith), five_digits c.args.n c.requires.few)

pub returns : goal.returns
unfolding and_number
returns c = wrote_then c.byte.ensures (wrote_more c.number.ensures (five_digits c.args.n c.requires.few))
