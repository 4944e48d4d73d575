-- `index::soundness::is_sound` meets its contract: the codes rise place by place exactly where the entries do. Assumes nothing.
use mathlib.Core.Bool.{true}
use mathlib.Core.Path.{◌≡◌, sym, ap, ◌∙◌}
use native.Mathlib.Omega.{arith}
use Rattle.laws.proofs.Cases.{at_least_one}
use Rattle.index.specs.Index.{roomy, sound_index}
use Rattle.index.specs.inner.Rising.{all_rise}
use Rattle.index.proofs.Followed.{none_rise, first-fails, first-rises}
use Rattle.index.proofs.RisingEntries.{sound-decided, not_roomy_sound}
use Rattle.index.proofs.Sizes.{Roomy, roomy_parts}
use Rattle.index.proofs.soundness.is_sound.Goals as goal
use Rattle.index.proofs.soundness.is_sound.Goals.{After-wide-named, Else-not-is_roomy}

-- the buffers are roomy
roomy_here : (c : Else-not-is_roomy) → roomy c.args.codes.now c.args.counts.now ≡ true
roomy_here c = sym c.is_roomy.ensures ∙ c.if-not-is_roomy.false

-- room for what is named
room_here : (c : Else-not-is_roomy) → Roomy c.args.codes.now c.args.counts.now
room_here c = roomy_parts c.args.codes.now c.args.counts.now (roomy_here c)

-- whether all that are named rise decides
decided_here : (c : After-wide-named)
    → all_rise c.args.codes.now c.wide-named.result
    ≡ sound_index c.args.codes.now c.args.counts.now
decided_here c =
    let a = c.args in
    ap (all_rise a.codes.now) c.wide-named.ensures.0 ∙ sound-decided a.codes.now a.counts.now (roomy_here (goal.at.After-wide-named c).Else-not-is_roomy)

pub returns-then-not-is_roomy : goal.returns-then-not-is_roomy
returns-then-not-is_roomy c =
    let a = c.args in
    not_roomy_sound a.codes.now a.counts.now (sym c.is_roomy.ensures ∙ c.if-not-is_roomy.true)

pub bounds-counts-0 : goal.bounds-counts-0
bounds-counts-0 c = omega (arith, (room_here (goal.at.bounds-counts-0 c).Else-not-is_roomy).counts_room)

pub returns-then-named-eq0 : goal.returns-then-named-eq0
returns-then-named-eq0 c = none_rise c.args.codes.now c.wide-named.result c.if-named-eq0.true ∙ decided_here (goal.at.returns-then-named-eq0 c).After-wide-named

pub has_code-requires : goal.has_code-requires
has_code-requires c = omega (arith, (room_here (goal.at.has_code-requires c).Else-not-is_roomy).codes_room)

pub returns-then-not-has_code : goal.returns-then-not-has_code
returns-then-not-has_code c =
    first-fails c.args.codes.now c.wide-named.result c.if-named-eq0.false
    (sym (c.if-not-has_code.true) ∙ c.has_code.ensures)
    ∙ decided_here (goal.at.returns-then-not-has_code c).After-wide-named

pub rises-requires : goal.rises-requires
rises-requires c =
    let r = room_here (goal.at.rises-requires c).Else-not-is_roomy in
    (at_least_one c.wide-named.result c.if-named-eq0.false, omega (arith, c.wide-named.ensures.0, r.few_named), r.codes_room)

pub returns : goal.returns
returns c =
    c.rises.ensures
    ∙ first-rises c.args.codes.now c.wide-named.result c.if-named-eq0.false
    (sym (c.if-not-has_code.false) ∙ c.has_code.ensures)
    ∙ decided_here (goal.at.returns c).After-wide-named
