-- `read::decide::judge` meets its contract: each return is one step equation of `decision_of`.
-- Assumes nothing.
use mathlib.Core.Path.{◌≡◌, sym}
use native.Mathlib.Omega.{arith}
use Rattle.read.specs.inner.Surveying.{place_seen}
use Rattle.read.proofs.Deciding.{place_none, decision_7, decision_8, decision_9, decision_misplaced, decision_open, decision_11, decision_0}
use Rattle.read.proofs.decide.judge.Goals as goal
use Rattle.read.proofs.decide.judge.Goals.{Else-seen-ne-L}

placed : (c : Else-seen-ne-L) → place_seen c.args.seen ≡ 0
placed c = place_none c.args.seen c.if-seen-ne0-2.false c.if-seen-ne-L.false

pub returns-then-limits-seen : goal.returns-then-limits-seen
returns-then-limits-seen c = cc (decision_7 c.args.limits c.args.separators c.args.seen c.if-limits-seen.true)

pub returns-then-seen-ne0 : goal.returns-then-seen-ne0
returns-then-seen-ne0 c = cc (decision_8 c.args.limits c.args.separators c.args.seen c.if-limits-seen.false c.if-seen-ne0.true)

pub returns-then-seen-eq0 : goal.returns-then-seen-eq0
returns-then-seen-eq0 c =
    cc (decision_9 c.args.limits c.args.separators c.args.seen c.if-limits-seen.false c.if-seen-ne0.false c.if-seen-eq0.true)

pub returns-then-seen-ne0-2 : goal.returns-then-seen-ne0-2
returns-then-seen-ne0-2 c =
    cc (decision_misplaced c.args.limits c.args.separators c.args.seen c.if-limits-seen.false c.if-seen-ne0.false c.if-seen-eq0.false c.if-seen-ne0-2.true)

pub returns-then-seen-ne-L : goal.returns-then-seen-ne-L
returns-then-seen-ne-L c =
    cc
    (decision_open c.args.limits c.args.separators c.args.seen c.if-limits-seen.false c.if-seen-ne0.false c.if-seen-eq0.false c.if-seen-ne0-2.false c.if-seen-ne-L.true)

pub returns-then-limits-seen-2 : goal.returns-then-limits-seen-2
returns-then-limits-seen-2 c =
    cc
    (decision_11 c.args.limits c.args.separators c.args.seen c.if-limits-seen.false c.if-seen-ne0.false c.if-seen-eq0.false
    (placed (goal.at.returns-then-limits-seen-2 c).Else-seen-ne-L) (omega arith))

pub returns-then-limits-leaves : goal.returns-then-limits-leaves
returns-then-limits-leaves c =
    cc
    (decision_11 c.args.limits c.args.separators c.args.seen c.if-limits-seen.false c.if-seen-ne0.false c.if-seen-eq0.false
    (placed (goal.at.returns-then-limits-leaves c).Else-seen-ne-L) c.if-limits-leaves.true)

pub returns : goal.returns
returns c =
    sym
    (decision_0 c.args.limits c.args.separators c.args.seen c.if-limits-seen.false c.if-seen-ne0.false c.if-seen-eq0.false
    (placed (goal.at.returns c).Else-seen-ne-L) c.if-limits-leaves.false)
