-- `line::finder::ended_line` meets its contract: each answer is one way in which a line's text can end.
-- Assumes nothing.
use mathlib.Core.Path.{sym, ap, ◌∙◌}
use Rattle.line.specs.declared.finder.Found.TheVariants.{Line}
use Rattle.line.proofs.Finding.{ended_open, ended-long, ended-line, ended-first, ended_control}
use Rattle.line.proofs.finder.ended_line.Goals as goal

pub returns-then-message-end : goal.returns-then-message-end
returns-then-message-end c =
    let at-args = c.args in
    sym (ended_open at-args.message.now at-args.at at-args.end c.if-message-end.true)

pub returns-then-b-ge-SPACE : goal.returns-then-b-ge-SPACE
returns-then-b-ge-SPACE c =
    let at-args = c.args in
    sym (ended-long at-args.message.now at-args.at at-args.end c.if-message-end.false c.if-b-ge-SPACE.true)

pub returns-then-at-end : goal.returns-then-at-end
returns-then-at-end c =
    let at-args = c.args in
    ap (Line at-args.end) c.low_end.ensures
    ∙ sym (ended-line at-args.message.now at-args.at at-args.end c.if-message-end.false c.if-b-eq-CR.true c.if-at-end.true)

pub returns-else-at-end : goal.returns-else-at-end
returns-else-at-end c =
    let at-args = c.args in
    sym (ended-first at-args.message.now at-args.at at-args.end c.if-message-end.false c.if-b-ge-SPACE.false c.if-at-end.false)

pub returns-else-b-eq-CR : goal.returns-else-b-eq-CR
returns-else-b-eq-CR c =
    let at-args = c.args in
    sym (ended_control at-args.message.now at-args.at at-args.end c.if-message-end.false c.if-b-ge-SPACE.false c.if-b-eq-CR.false)
