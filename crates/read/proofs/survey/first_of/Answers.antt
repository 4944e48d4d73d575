-- `first_of` meets its contract: an earlier place stays, and else the test decides.
-- Assumes nothing.
use mathlib.Core.Bool.{Bool, true, false}
use mathlib.Core.Path.{sym, ap, ◌∙◌}
use Prim.Native.Nat.{ℕ}
use Rattle.laws.proofs.Lists.{first_held-earlier, first_held_here}
use Rattle.read.proofs.survey.first_of.Goals as goal

pub returns-then-earlier-ne0 : goal.returns-then-earlier-ne0
returns-then-earlier-ne0 c = sym (first_held-earlier c.args.earlier c.args.holds c.args.place c.if-earlier-ne0.true)

pub returns-then-holds : goal.returns-then-holds
returns-then-holds c =
    sym
    (first_held_here c.args.earlier c.args.holds c.args.place c.if-earlier-ne0.false
    ∙ ap {B = ℕ} (λ (t : Bool). elim t [ true ↦ c.args.place | false ↦ 0 ]) c.if-holds.true)

pub returns-else-holds : goal.returns-else-holds
returns-else-holds c =
    sym
    (first_held_here c.args.earlier c.args.holds c.args.place c.if-earlier-ne0.false
    ∙ ap {B = ℕ} (λ (t : Bool). elim t [ true ↦ c.args.place | false ↦ 0 ]) c.if-holds.false)
