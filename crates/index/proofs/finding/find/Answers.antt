-- `index::finding::find` meets its contract: none where the buffers or the code do not fit, else the place that halving comes to.
-- Assumes nothing.
use mathlib.Core.Bool.{true}
use mathlib.Core.Path.{◌≡◌, sym, ap, ◌∙◌}
use Prim.Native.Nat.{ℕ}
use native.Mathlib.Omega.{arith}
use Rattle.index.specs.Index.{roomy}
use Rattle.index.specs.inner.Halving.{sought_among}
use Rattle.index.proofs.Asked.{found_nowhere, too_long, found_sought}
use Rattle.index.proofs.Sizes.{roomy_parts}
use Rattle.index.proofs.finding.find.Goals as goal
use Rattle.index.proofs.finding.find.Goals.{Else-not-is_roomy}

-- the buffers are roomy
roomy_here : (c : Else-not-is_roomy) → roomy c.args.codes.now c.args.counts.now ≡ true
roomy_here c = sym c.is_roomy.ensures ∙ c.if-not-is_roomy.false

pub returns-then-not-is_roomy : goal.returns-then-not-is_roomy
returns-then-not-is_roomy c =
    let a = c.args in
    c.missing.ensures
    ∙ found_nowhere a.codes.now a.counts.now a.code.now
    (sym c.is_roomy.ensures ∙ c.if-not-is_roomy.true)

pub returns-then-code-gt-CODE : goal.returns-then-code-gt-CODE
returns-then-code-gt-CODE c =
    let a = c.args in
    c.missing-then-code-gt-CODE.ensures ∙ too_long a.codes.now a.counts.now a.code.now (roomy_here (goal.at.returns-then-code-gt-CODE c).Else-not-is_roomy) c.if-code-gt-CODE.true

pub bounds-counts-0 : goal.bounds-counts-0
bounds-counts-0 c =
    let a = c.args in
    omega (arith, (roomy_parts a.codes.now a.counts.now (roomy_here (goal.at.bounds-counts-0 c).Else-not-is_roomy)).counts_room)

pub seek-requires : goal.seek-requires
seek-requires c =
    let a = c.args in
    let r = roomy_parts a.codes.now a.counts.now (roomy_here (goal.at.seek-requires c).Else-not-is_roomy) in
    (omega (arith, c.wide.ensures.0, r.few_named), r.codes_room, c.if-code-gt-CODE.false)

pub returns : goal.returns
returns c =
    let a = c.args in
    c.seek.ensures
    ∙ ap (λ (n : ℕ). sought_among a.codes.now n a.code.now) c.wide.ensures.0
    ∙ found_sought a.codes.now a.counts.now a.code.now (roomy_here (goal.at.returns c).Else-not-is_roomy) c.if-code-gt-CODE.false
