-- `Letters::with` meets its contract: one length a return.
-- Assumes nothing.
use native.Mathlib.Omega.{arith}
use borrow.Author.Tests.{le-ltb}
use Rattle.form.specs.inner.Lettering.{with_letter}
use Rattle.form.proofs.letters.Letters.with.Goals as goal

pub returns-in-0 : goal.returns-in-0
unfolding with_letter
returns-in-0 c = rw c.in-0.is

pub returns-in-1 : goal.returns-in-1
unfolding with_letter
returns-in-1 c = rw c.in-1.is

pub returns-in-2 : goal.returns-in-2
unfolding with_letter
returns-in-2 c = rw c.in-2.is

pub returns-in_default : goal.returns-in_default
unfolding with_letter
returns-in_default c = let rest = c.in_default.in_default-own.rest in rw (le-ltb c.args.self.length 3 (omega (arith, rest.1, rest.0.1, rest.0.0.1)), with_letter)
