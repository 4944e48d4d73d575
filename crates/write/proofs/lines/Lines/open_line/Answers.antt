-- `write::lines::Lines::open_line` meets its contract: only a full line is broken.
-- Assumes nothing.
use mathlib.Core.Path.{sym, ◌∙◌}
use borrow.Author.Tests.{eq-eqb, ne_eqb}
use Rattle.write.specs.inner.Filling.{stand}
use Rattle.write.proofs.Filling.{break_fits, opened_full, opened_room}
use Rattle.write.proofs.lines.Lines.open_line.Goals as goal

pub break_line-requires : goal.break_line-requires
break_line-requires c = break_fits c.args.self.limits c.args.self.separators.field (stand c.args.output.now c.args.going) c.if-going-eq0.true c.requires

pub returns-then-going-eq0 : goal.returns-then-going-eq0
returns-then-going-eq0 c = c.break_line.ensures ∙ sym (opened_full c.args.self.limits c.args.self.separators.field (stand c.args.output.now c.args.going) (eq-eqb c.args.going.room 0 c.if-going-eq0.true))

pub returns : goal.returns
returns c = sym (opened_room c.args.self.limits c.args.self.separators.field (stand c.args.output.now c.args.going) (ne_eqb c.args.going.room 0 c.if-going-eq0.false))
