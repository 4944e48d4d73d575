-- `index::asking::count_of` meets its contract: by the place that is found. Assumes nothing.
use mathlib.Core.Bool.{true}
use mathlib.Core.Path.{◌≡◌, sym, ◌∙◌}
use Prim.Native.Nat.{◌<◌}
use native.Mathlib.Omega.{arith}
use borrow.Author.Tests.{not-true, not-false}
use Rattle.index.specs.Index.{codes_most, roomy}
use Rattle.index.proofs.Asked.{no_count, count-found, found_within, not_named, times_there}
use Rattle.index.proofs.Sizes.{roomy_parts}
use Rattle.index.proofs.asking.count_of.Goals as goal
use Rattle.index.proofs.asking.count_of.Goals.{Else-not-found, Else-not-is_roomy}

-- the buffers are roomy
roomy_here : (c : Else-not-is_roomy) → roomy c.args.codes.now c.args.counts.now ≡ true
roomy_here c = sym c.is_roomy.ensures ∙ c.if-not-is_roomy.false

-- the place that is found is one of those that are named
named_here : (c : Else-not-found) → c.find-found.result.at < codes_most
named_here c =
    let a = c.args in
    let within = found_within a.codes.now a.counts.now a.code.now (roomy_here (goal.at.Else-not-found c).Else-not-is_roomy) c.find-found.ensures in
    omega (
      arith,
      within.entry (not-false c.find-found.result.named c.if-not-found.false),
      (roomy_parts a.codes.now a.counts.now (roomy_here (goal.at.Else-not-found c).Else-not-is_roomy)).few_named,
    )

pub returns-then-not-is_roomy : goal.returns-then-not-is_roomy
returns-then-not-is_roomy c =
    let a = c.args in
    no_count a.codes.now a.counts.now a.code.now
    (sym c.is_roomy.ensures ∙ c.if-not-is_roomy.true)

pub returns-then-not-found : goal.returns-then-not-found
returns-then-not-found c =
    let a = c.args in
    not_named a.counts.now c.find-found.result (not-true c.find-found.result.named c.if-not-found.true)
    ∙ count-found a.codes.now a.counts.now a.code.now (roomy_here (goal.at.returns-then-not-found c).Else-not-is_roomy) c.find-found.ensures

pub overflow_add-result : goal.overflow_add-result
overflow_add-result c = omega (arith, named_here (goal.at.overflow_add-result c).Else-not-found)

pub offset_bounds-counts-found : goal.offset_bounds-counts-found
offset_bounds-counts-found c = omega (arith, named_here (goal.at.offset_bounds-counts-found c).Else-not-found)

pub bounds-counts-found : goal.bounds-counts-found
bounds-counts-found c =
    let a = c.args in
    omega (arith, named_here (goal.at.bounds-counts-found c).Else-not-found, (roomy_parts a.codes.now a.counts.now (roomy_here (goal.at.bounds-counts-found c).Else-not-is_roomy)).counts_room)

pub returns : goal.returns
returns c =
    let a = c.args in
    times_there a.counts.now c.find-found.result (not-false c.find-found.result.named c.if-not-found.false)
    ∙ count-found a.codes.now a.counts.now a.code.now (roomy_here (goal.at.returns c).Else-not-is_roomy) c.find-found.ensures
