-- `read::scan::scan` meets its contract. The loop's invariant: what is left from `i` on gives the whole (`Scanning`).
-- Assumes nothing.
use mathlib.Core.Path.{◌≡◌, ◌∙◌, subst⁻¹}
use Prim.Native.Nat.{◌+◌}
use native.Mathlib.Omega.{arith}
use Rattle.read.proofs.Scanning.{Scanning, scan_stops, scan_marks, scan_passes, scan_ends}
use Rattle.read.proofs.scan.scan.Goals as goal
use Rattle.read.proofs.scan.scan.Goals.{then-sort-gt0+else-sort-eq-CONTROL, else-sort-gt0}

pub returns-then-sort-eq-CONTROL : goal.returns-then-sort-eq-CONTROL
returns-then-sort-eq-CONTROL c =
    let scanned = scan_stops c.loop-i.invariant (omega arith) (omega arith) c.index.ensures.0 c.if-sort-eq-CONTROL.true in
    (scanned.end, scanned.marked)

pub loop-i-preserved : goal.loop-i-preserved
loop-i-preserved c =
    let a = c.args in
    elim c.if-sort-gt0.branch [
      | then-sort-gt0+else-sort-eq-CONTROL w ↦
          subst⁻¹ (Scanning a.class.now a.message.now a.from a.stop (c.loop-i.i + 1)) w.separators-is
          (scan_marks c.loop-i.invariant (omega arith) (omega arith) c.index.ensures.0 w.if-sort-eq-CONTROL.false w.if-sort-gt0.true)
      | else-sort-gt0 w ↦
          subst⁻¹ (Scanning a.class.now a.message.now a.from a.stop (c.loop-i.i + 1)) w.separators-is
          (scan_passes c.loop-i.invariant (omega arith) (omega arith) c.index.ensures.0 w.if-sort-gt0.false)
    ]

pub returns : goal.returns
returns c =
    let scanned = scan_ends c.loop-i.invariant (omega arith) in
    let past : c.args.stop ≡ c.loop-i.i = omega arith in
    (past ∙ scanned.end, scanned.marked)
