-- `listing::lines::put_entry` meets its contract: name, number and LF, one behind the other.
-- Assumes nothing.
use Prim.Native.Nat.{◌≤◌}
use native.Mathlib.Omega.{arith}
use lib.ListN.{length}
use Rattle.listing.specs.Decimal.{decimal}
use Rattle.listing.specs.Listing.{entry_of}
use Rattle.listing.proofs.Decimal.{twenty_digits}
use Rattle.listing.proofs.Putting.{wrote_then, wrote_more, wrote_room}
use Rattle.listing.proofs.lines.put_entry.Goals as goal
use Rattle.listing.proofs.lines.put_entry.Goals.{After-text}

few : (c : After-text) → length (decimal c.args.n) ≤ 20
few c = twenty_digits c.args.n (omega arith)

pub number-requires : goal.number-requires
number-requires c = omega (arith, wrote_room c.text.ensures 21 (omega (arith, c.requires)), few (goal.at.number-requires c).After-text)

pub byte-requires : goal.byte-requires
byte-requires c =
    wrote_room (wrote_then c.text.ensures (wrote_more c.number.ensures (few (goal.at.byte-requires c).After-text))) 1 (omega (arith, c.requires))

pub returns : goal.returns
unfolding entry_of
returns c =
    wrote_more
    (wrote_then c.text.ensures (wrote_then (wrote_more c.number.ensures (few (goal.at.returns c).After-text)) c.byte.ensures))
    (omega arith)
