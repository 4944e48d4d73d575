-- `index::adding::put_code` meets its contract: what is left of the place, put from here on, gives what all of it gives. Assumes nothing.
use Prim.Native.Nat.{◌-◌}
use Rattle.index.specs.Index.{code_most}
use Rattle.index.proofs.PlacedCode.{Placing}
use Rattle.index.proofs.adding.put_code.Given as goal

abbrev pub invariant-loop-k : goal.invariant-loop-k
invariant-loop-k l = Placing l.code l.initial.codes l.at l.codes l.k

abbrev pub decreases-loop-k : goal.decreases-loop-k
decreases-loop-k l = code_most - l.k
