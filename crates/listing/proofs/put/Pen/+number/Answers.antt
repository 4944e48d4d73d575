-- `listing::put::Pen::number` meets its contract: the number falls, since a tenth of it is smaller.
-- Assumes nothing.
use mathlib.Core.Path.{sym, ap}
use native.Mathlib.Omega.{arith}
use lib.ListN.{length, length-append}
use Prim.Native.Nat.{ℕ}
use Rattle.listing.proofs.Decimal.{decimal_digit, decimal-more, digit_room, tenth_room}
use Rattle.listing.proofs.Putting.{put-length, wrote_then, wrote_more, wrote_as}
use Rattle.listing.proofs.put.Pen.+number.Goals as goal

pub byte-requires : goal.byte-requires
byte-requires t c = digit_room c.args.n c.args.self.now.at c.requires c.if-n-lt10.true

pub number-requires : goal.number-requires
number-requires t c =
    (omega (arith, c.if-n-lt10.false, c.decreases), omega (arith, tenth_room c.args.n c.args.self.now.at c.requires c.if-n-lt10.false))

pub byte-requires-else-n-lt10 : goal.byte-requires-else-n-lt10
byte-requires-else-n-lt10 t c =
    let tenth = c.number.ensures.within.put in
    omega (arith, tenth_room c.args.n c.args.self.now.at c.requires c.if-n-lt10.false, tenth.reached, put-length tenth)

pub returns-then-n-lt10 : goal.returns-then-n-lt10
returns-then-n-lt10 t c =
    let digit = decimal_digit c.args.n c.if-n-lt10.true in
    wrote_more (wrote_as c.byte.ensures (sym digit)) (omega (arith, ap length digit))

pub returns-else-n-lt10 : goal.returns-else-n-lt10
returns-else-n-lt10 t c =
    let more = decimal-more c.args.n c.if-n-lt10.false in
    wrote_more (wrote_as (wrote_then c.number.ensures c.byte-else-n-lt10.ensures) (sym more))
    (omega (arith, ap length more, length-append {A = ℕ}))
