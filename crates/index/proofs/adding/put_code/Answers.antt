-- `index::adding::put_code` meets its contract: what is left of the place, put from here on, gives what all of it gives. Assumes nothing.
use mathlib.Core.Path.{◌≡◌, ◌∙◌}
use native.Mathlib.Omega.{arith}
use lib.ListN.{length, set, length-set}
use Rattle.index.proofs.PlacedCode.{placing_begins, placing_next, placing_done}
use Rattle.index.proofs.adding.put_code.Goals as goal
use Rattle.index.proofs.adding.put_code.Goals.{At-loop-k}

-- the buffer is as long as it was
long_here : (c : At-loop-k) → length c.loop-k.codes ≡ length c.args.codes.now
long_here c = let a = c.args in c.loop-k.invariant.long ∙ length-set a.codes.now a.at (length a.code.now)

pub overflow_cast-codes : goal.overflow_cast-codes
overflow_cast-codes c = record { fits = omega (arith, c.requires.0) }

pub bounds-codes-at : goal.bounds-codes-at
bounds-codes-at c = omega (arith, c.requires.1)

pub loop-k-init : goal.loop-k-init
loop-k-init c =
    let a = c.args in
    placing_begins a.code.now (set a.codes.now a.at (length a.code.now)) a.at

pub overflow_add-k : goal.overflow_add-k
overflow_add-k c = omega arith

pub overflow_add-codes : goal.overflow_add-codes
overflow_add-codes c = omega (arith, long_here (goal.at.overflow_add-codes c).At-loop-k, c.requires.1)

pub bounds-codes-at-in-loop-k : goal.bounds-codes-at-in-loop-k
bounds-codes-at-in-loop-k c = omega (arith, long_here (goal.at.bounds-codes-at-in-loop-k c).At-loop-k, c.requires.1)

pub loop-k-smaller : goal.loop-k-smaller
loop-k-smaller c = omega arith

pub loop-k-preserved : goal.loop-k-preserved
loop-k-preserved c = placing_next c.loop-k.invariant c.requires.0 c.loop-k-test.true c.byte_or_zero-b.ensures

pub shape_of-codes : goal.shape_of-codes
shape_of-codes c = long_here (goal.at.shape_of-codes c).At-loop-k

pub returns : goal.returns
returns c = placing_done c.args.codes.now c.loop-k.invariant c.requires.0 c.loop-k-test.false
