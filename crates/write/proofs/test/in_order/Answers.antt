-- `write::test::in_order` meets its contract. One law a return.
-- Assumes nothing.
use native.Mathlib.Omega.{arith}
use mathlib.Core.Bool.{not, ◌&&◌}
use mathlib.Core.Path.{◌≡◌, ap, ◌∙◌}
use Prim.Native.Nat.{ℕ}
use lib.Dec.{eqb}
use Rattle.std.specs.Prelude.{Option, Some}
use Rattle.std.specs.Option.{option_eq}
use Rattle.table.specs.inner.BySegment.{context_among}
use Rattle.write.specs.inner.Tests.{groups_in}
use Rattle.write.proofs.Known.{known_is}
use Rattle.write.proofs.Groups.{FirstStated, first-stated}
use Rattle.write.proofs.Parts.{other-context, order_decides}
use Rattle.write.proofs.test.in_order.Goals as goal
use Rattle.write.proofs.test.in_order.Goals.{Start, After-eq}

first-row : (s : Start) → FirstStated s.args.segments.rows.now s.args.segments.count s.args.leaves.rows.now s.args.leaves.count
first-row s = first-stated s.requires

pub bounds-segments-3 : goal.bounds-segments-3
bounds-segments-3 c = omega (arith, (first-row (goal.at.bounds-segments-3 c).Start).some, c.requires.kinds.sized)

pub context_of-requires : goal.context_of-requires
context_of-requires c = record { in_text = c.requires.in_text; ends = (first-row (goal.at.context_of-requires c).Start).ends c.wide-end.ensures.0 }

-- whether the context is the one that is named
named_so : (c : After-eq)
    → c.eq.result ≡ (not (eqb c.args.context 0) && eqb (context_among (groups_in c.args.leaves.rows.now c.args.leaves.text.now c.args.leaves.count)) c.args.context)
named_so c = c.eq.ensures ∙ ap (λ (o : Option ℕ). option_eq eqb o (Some c.args.context)) c.context_of.ensures ∙ known_is _ c.args.context

pub returns-then-eq : goal.returns-then-eq
returns-then-eq c =
    c.ordered.ensures
    ∙ order_decides c.args.context c.args.segments.rows.now c.args.segments.count c.args.leaves.rows.now c.args.leaves.text.now c.args.leaves.count
    (named_so (goal.at.returns-then-eq c).After-eq) c.if-eq.true

pub returns-else-eq : goal.returns-else-eq
returns-else-eq c =
    other-context c.args.context c.args.segments.rows.now c.args.segments.count c.args.leaves.rows.now c.args.leaves.text.now c.args.leaves.count
    (named_so (goal.at.returns-else-eq c).After-eq) c.if-eq.false
