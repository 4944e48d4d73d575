-- `read::lay::Laying::next_leaf` meets its contract: each return is one branch of `next_leaf`.
-- Assumes nothing.
use native.Mathlib.Omega.{arith}
use borrow.Author.Tests.{eq-eqb, ne_eqb}
use Rattle.read.specs.inner.Laying.{next_leaf}
use Rattle.read.proofs.lay.Laying.next_leaf.Goals as goal

pub returns-in-4 : goal.returns-in-4
unfolding next_leaf
returns-in-4 c = rw (eq-eqb c.args.sort 4 c.in-4.is, next_leaf)

pub returns-in-3 : goal.returns-in-3
unfolding next_leaf
returns-in-3 c = rw (ne_eqb c.args.sort 4 (λ z. omega arith), eq-eqb c.args.sort 3 c.in-3.is, next_leaf)

pub returns-in-2 : goal.returns-in-2
unfolding next_leaf
returns-in-2 c = rw (ne_eqb c.args.sort 4 (λ z. omega arith), ne_eqb c.args.sort 3 (λ z. omega arith), eq-eqb c.args.sort 2 c.in-2.is, next_leaf)

pub returns-in_default : goal.returns-in_default
unfolding next_leaf
returns-in_default c =
    rw (ne_eqb c.args.sort 4 (λ z. omega arith), ne_eqb c.args.sort 3 (λ z. omega arith), ne_eqb c.args.sort 2 (λ z. omega arith), next_leaf)
