-- `index::asking::named_codes` meets its contract. Assumes nothing.
use mathlib.Core.Bool.{true}
use mathlib.Core.Path.{◌≡◌, sym, ap, ◌∙◌}
use native.Mathlib.Omega.{arith}
use Rattle.index.specs.declared.asking.Codes.TheVariants.{Named}
use Rattle.index.specs.Index.{roomy}
use Rattle.index.proofs.Asked.{no_codes, some-codes}
use Rattle.index.proofs.Sizes.{roomy_parts}
use Rattle.index.proofs.asking.named_codes.Goals as goal
use Rattle.index.proofs.asking.named_codes.Goals.{Else-not-is_roomy}

-- the buffers are roomy
roomy_here : (c : Else-not-is_roomy) → roomy c.args.codes.now c.args.counts.now ≡ true
roomy_here c = sym c.is_roomy.ensures ∙ c.if-not-is_roomy.false

pub returns-then-not-is_roomy : goal.returns-then-not-is_roomy
returns-then-not-is_roomy c =
    let a = c.args in
    no_codes a.codes.now a.counts.now (sym c.is_roomy.ensures ∙ c.if-not-is_roomy.true)

pub bounds-counts-0 : goal.bounds-counts-0
bounds-counts-0 c =
    let a = c.args in
    omega (arith, (roomy_parts a.codes.now a.counts.now (roomy_here (goal.at.bounds-counts-0 c).Else-not-is_roomy)).counts_room)

pub returns : goal.returns
returns c =
    let a = c.args in
    ap Named c.wide.ensures.0 ∙ some-codes a.codes.now a.counts.now (roomy_here (goal.at.returns c).Else-not-is_roomy)
