-- `read::read_within` meets its contract: what was decided is refused, or filled in.
-- Assumes nothing.
use native.Mathlib.Omega.{arith}
use Rattle.read.specs.inner.Deciding.{Fileable}
use Rattle.read.proofs.Refusing.{passed_on}
use Rattle.read.proofs.Answering.{refusal_read, accepted_fileable, table-filed, table-read}
use Rattle.read.proofs.read_within.Goals as goal
use Rattle.read.proofs.read_within.Goals.{In_ok-decision}

-- what filing asks
abbrev FileableHere : In_ok-decision → Type 0
FileableHere c =
    Fileable c.args.limits c.decide.new.class c.decide.new.kinds c.args.levels.now c.in_ok-decision.decision c.args.message.now
    c.args.text.now c.args.segments.now c.args.leaves.now

fileable_here : (c : In_ok-decision) → FileableHere c
fileable_here c = accepted_fileable _ _ _ c.decide.ensures c.args.levels.now c.in_ok-decision.was c.requires.below

pub returns-in_err-decision : goal.returns-in_err-decision
returns-in_err-decision c =
    rw (passed_on c.from_residual.ensures.1) (refusal_read _ _ _ c.decide.ensures c.args.levels.now c.in_err-decision.was)

pub fill-bytes-requires : goal.fill-bytes-requires
fill-bytes-requires c = ((fileable_here (goal.at.fill-bytes-requires c).In_ok-decision).prepared, λ i. omega (arith, c.type_inv.message i))

pub returns : goal.returns
returns c =
    table-read _ _ _ c.decide.ensures c.args.levels.now c.in_ok-decision.was
    (table-filed (fileable_here (goal.at.returns c).In_ok-decision) c.fill-bytes.ensures c.card.ensures)
