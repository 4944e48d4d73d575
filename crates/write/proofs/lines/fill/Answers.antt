-- `write::lines::fill` meets its contract: what is left to copy gives the whole.
-- Assumes nothing.
use native.Mathlib.Omega.{arith}
use mathlib.Core.Path.{ap}
use mathlib.Core.List.{List}
use Prim.Native.Nat.{ℕ, ◌+◌, ◌-◌}
use lib.ListN.{length}
use Rattle.write.specs.inner.Filling.{stand, filled}
use Rattle.write.proofs.TextLeft.{copying_begins, copying_more, copying_done}
use Rattle.write.proofs.lines.fill.Goals as goal

pub loop-i-init : goal.loop-i-init
loop-i-init c = copying_begins c.args.text.now c.args.output.now c.args.going.out

pub loop-i-preserved : goal.loop-i-preserved
loop-i-preserved c = copying_more c.loop-i.invariant (omega arith)

pub returns : goal.returns
unfolding filled
returns c =
    ap (λ (o : List ℕ). stand o (record { out = c.args.going.out + length c.args.text.now; room = c.args.going.room - length c.args.text.now; lines = c.args.going.lines }))
    (copying_done c.loop-i.invariant (omega arith))
