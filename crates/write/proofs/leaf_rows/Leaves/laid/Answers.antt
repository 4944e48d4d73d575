-- `write::leaf_rows::Leaves::laid` meets its contract. The loop's invariant: the rows up to here are laid out.
-- Assumes nothing.
use native.Mathlib.Omega.{arith}
use mathlib.Core.Bool.{false≢true}
use mathlib.Core.Path.{sym, ◌∙◌}
use Rattle.write.proofs.LaidRows.{laying_begins, laying_never, laying_elsewhere, laying_misplaced, laying_on, laying_done}
use Rattle.write.proofs.leaf_rows.Leaves.laid.Goals as goal

pub returns-then-self-ne0 : goal.returns-then-self-ne0
returns-then-self-ne0 c = (λ e. absurd (false≢true e), λ e. laying_never c.args.self.rows.now c.args.finish c.args.self.count c.requires.some c.if-self-ne0.true)

pub loop-i-init : goal.loop-i-init
loop-i-init c = laying_begins c.args.self.rows.now c.args.finish c.args.self.count c.requires.some c.if-self-ne0.false c.wide-start.ensures.0 c.wide-start.ensures.1

pub returns-then-wide-start : goal.returns-then-wide-start
returns-then-wide-start c = (λ e. absurd (false≢true e), λ e. laying_elsewhere c.loop-i.invariant (omega arith) (λ q. c.if-wide-start.true (c.wide.ensures.0 ∙ q)))

pub returns-then-not-next_place : goal.returns-then-not-next_place
returns-then-not-next_place c = (λ e. absurd (false≢true e), λ e. laying_misplaced c.loop-i.invariant (omega arith) (sym c.next_place.ensures ∙ c.if-not-next_place.true))

pub loop-i-preserved : goal.loop-i-preserved
loop-i-preserved c =
    laying_on c.loop-i.invariant (omega arith) (sym c.wide.ensures.0 ∙ c.if-wide-start.false) (omega (arith, c.wide.ensures.0, c.wide.ensures.1))
    (sym c.next_place.ensures ∙ c.if-not-next_place.false) c.wide-start-in-loop-i.ensures.0 c.wide-start-in-loop-i.ensures.1

pub returns : goal.returns
returns c = laying_done c.loop-i.invariant (omega arith)
