-- `source::position::position_behind` meets its contract. The loop's invariant: with what is left, the two counts are those of all bytes.
-- Assumes nothing.
use Rattle.source.proofs.Positions.{Passed}
use Rattle.source.proofs.position.position_behind.Given as goal

abbrev pub invariant-loop-byte : goal.invariant-loop-byte
invariant-loop-byte l = Passed l.bytes l.byte-index l.ends l.since
