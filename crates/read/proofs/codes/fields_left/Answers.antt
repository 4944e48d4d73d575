-- `read::codes::fields_left` meets its contract.
-- Assumes nothing.
use mathlib.Core.Bool.{Bool, true, false}
use mathlib.Core.Path.{sym, ap}
use Prim.Native.Nat.{ℕ, ◌-◌}
use borrow.Author.Tests.{eq-eqb, ne_eqb}
use Rattle.read.proofs.codes.fields_left.Goals as goal

pub returns-then-sort-eq1 : goal.returns-then-sort-eq1
returns-then-sort-eq1 c = sym (ap {B = ℕ} (λ (t : Bool). elim t [ true ↦ c.args.left - 1 | false ↦ c.args.left ]) (eq-eqb c.args.sort 1 c.if-sort-eq1.true))

pub returns-else-sort-eq1 : goal.returns-else-sort-eq1
returns-else-sort-eq1 c = sym (ap {B = ℕ} (λ (t : Bool). elim t [ true ↦ c.args.left - 1 | false ↦ c.args.left ]) (ne_eqb c.args.sort 1 c.if-sort-eq1.false))
