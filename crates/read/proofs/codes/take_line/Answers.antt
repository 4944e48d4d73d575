-- `read::codes::take_line` meets its contract: each turn gathers one byte, up to the line's end or the code's.
-- Assumes nothing.
use mathlib.Core.Bool.{true, false}
use mathlib.Core.Path.{◌≡◌, refl, sym, ap, ◌∙◌, subst⁻¹}
use Prim.Native.Nat.{ℕ, ◌-◌}
use lib.Dec.{eqb}
use lib.ListN.{get_or}
use Rattle.read.proofs.TakenLines.{Taking, taking_begins, taking_ends, taking_whole, taking_kept, taking_on}
use Rattle.read.proofs.codes.take_line.Goals as goal
use Rattle.read.proofs.codes.take_line.Goals.{After-index, At-loop-left}

-- the class of the byte that a turn looks at
abbrev sort_here : At-loop-left → ℕ
sort_here c = get_or c.args.class.now (get_or c.args.message.now c.loop-left.at 0) 0

class_here : (c : After-index) → {n : ℕ} → get_or c.args.class.now c.index.result 0 ≡ n → sort_here (goal.at.After-index c).At-loop-left ≡ n
class_here c e = ap (λ (k : ℕ). get_or c.args.class.now k 0) (sym c.index.ensures.0) ∙ e

class_back : (c : After-index) → {n : ℕ} → sort_here (goal.at.After-index c).At-loop-left ≡ n → get_or c.args.class.now c.index.result 0 ≡ n
class_back c e = ap (λ (k : ℕ). get_or c.args.class.now k 0) c.index.ensures.0 ∙ e

pub loop-left-init : goal.loop-left-init
loop-left-init c = taking_begins c.requires

pub returns-then-sort-eq5 : goal.returns-then-sort-eq5
returns-then-sort-eq5 c = taking_ends c.loop-left.invariant (class_here (goal.at.returns-then-sort-eq5 c).After-index c.if-sort-eq5.true)

pub returns-then-sort-ne0 : goal.returns-then-sort-ne0
returns-then-sort-ne0 c = taking_whole c.loop-left.invariant (λ e. c.if-sort-eq5.false (class_back (goal.at.returns-then-sort-ne0 c).After-index e)) c.if-left-eq1.true (λ e. c.if-sort-ne0.true (class_back (goal.at.returns-then-sort-ne0 c).After-index e))

pub loop-left-preserved-then-left-eq1 : goal.loop-left-preserved-then-left-eq1
loop-left-preserved-then-left-eq1 c =
    subst⁻¹ (Taking _ _ _ _ _ _ _ _ _) c.keep.ensures
    (taking_kept c.loop-left.invariant (λ e. c.if-sort-eq5.false (class_back (goal.at.loop-left-preserved-then-left-eq1 c).After-index e)) c.if-left-eq1.true (class_here (goal.at.loop-left-preserved-then-left-eq1 c).After-index c.if-sort-ne0.false))

pub loop-left-preserved : goal.loop-left-preserved
loop-left-preserved c =
    taking_on c.loop-left.invariant (λ e. c.if-sort-eq5.false (class_back (goal.at.loop-left-preserved c).After-index e)) c.if-left-eq1.false
    (c.fields_left-left.ensures ∙ ap (λ (k : ℕ). elim (eqb k 1) [ true ↦ c.loop-left.left - 1 | false ↦ c.loop-left.left ]) (class_back (goal.at.loop-left-preserved c).After-index refl))
