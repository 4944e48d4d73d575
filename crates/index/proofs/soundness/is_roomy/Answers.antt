-- `index::soundness::is_roomy` meets its contract: the first test that fails, or the last one, decides. Assumes nothing.
use mathlib.Core.Path.{ap, ◌∙◌}
use Prim.Native.Nat.{ℕ}
use native.Mathlib.Omega.{arith}
use lib.Dec.{leb}
use Rattle.index.specs.Index.{codes_most}
use Rattle.index.proofs.Sizes.{codes-short, counts-short, named_decides}
use Rattle.index.proofs.soundness.is_roomy.Goals as goal

pub returns-then-codes : goal.returns-then-codes
returns-then-codes c =
    let a = c.args in
    codes-short a.codes.now a.counts.now c.if-codes.true

pub returns-then-counts-le-CODES : goal.returns-then-counts-le-CODES
returns-then-counts-le-CODES c =
    let a = c.args in
    counts-short a.codes.now a.counts.now c.if-codes.false (omega (arith, c.if-counts-le-CODES.true))

pub returns : goal.returns
returns c =
    let a = c.args in
    ap (λ (n : ℕ). leb n codes_most) c.wide.ensures.0
    ∙ named_decides a.codes.now a.counts.now c.if-codes.false (omega (arith, c.if-counts-le-CODES.false))
