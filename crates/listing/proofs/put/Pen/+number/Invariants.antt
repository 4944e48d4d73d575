-- The measure is the number.
use Rattle.listing.proofs.put.Pen.+number.Given as goal

abbrev pub decreases-number : goal.decreases-number
decreases-number l = l.n
