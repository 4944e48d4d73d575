-- `source::position::position_behind` meets its contract. The loop's invariant: with what is left, the two counts are those of all bytes.
-- Assumes nothing.
use Rattle.source.proofs.Positions.{passed-CR, passed-other, passed-all}
use Rattle.source.proofs.position.position_behind.Goals as goal
use Rattle.source.proofs.position.position_behind.Goals.{then-byte-eq-CR, else-byte-eq-CR}

pub loop-byte-preserved : goal.loop-byte-preserved
loop-byte-preserved c =
    let p = c.loop-byte.invariant in
    elim c.if-byte-eq-CR.branch [
      | then-byte-eq-CR w ↦
          rw (w.ends-is, w.since-is)
          (passed-CR c.args.bytes.now c.loop-byte.byte-index c.loop-byte.ends c.loop-byte.since p c.loop-byte-test.true w.if-byte-eq-CR.true)
      | else-byte-eq-CR w ↦
          rw (w.ends-is, w.since-is)
          (passed-other c.args.bytes.now c.loop-byte.byte-index c.loop-byte.ends c.loop-byte.since p c.loop-byte-test.true w.if-byte-eq-CR.false)
    ]

pub returns : goal.returns
returns c =
    passed-all c.args.bytes.now c.loop-byte.byte-index c.loop-byte.ends c.loop-byte.since c.loop-byte.invariant c.loop-byte-test.false
