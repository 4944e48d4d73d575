-- `read::codes::skip_fields` meets its contract: each turn goes over text and one byte behind it, up to field 4 or the line's end.
-- Assumes nothing.
use mathlib.Core.Bool.{true, false}
use mathlib.Core.Path.{◌≡◌, refl, ap, ◌∙◌, subst⁻¹}
use Prim.Native.Nat.{ℕ, ◌-◌, ◌<◌}
use native.Mathlib.Omega.{arith}
use lib.Dec.{eqb}
use lib.ListN.{length, get_or}
use Rattle.read.proofs.SkippedFields.{Skipping, skipping_begins, text-inside, skipping_text, skipping_next}
use Rattle.read.proofs.codes.skip_fields.Goals as goal
use Rattle.read.proofs.codes.skip_fields.Goals.{After-index, After-plain_end-stop}

-- behind the text
abbrev StoppedHere : After-plain_end-stop → Type 0
StoppedHere c =
    Skipping c.args.class.now c.args.message.now c.args.taken c.plain_end-stop.result c.loop-left.left

stopped_here : (c : After-plain_end-stop) → StoppedHere c
stopped_here c =
    subst⁻¹ (λ (n : ℕ). Skipping c.args.class.now c.args.message.now c.args.taken n c.loop-left.left) c.plain_end-stop.ensures
    (skipping_text c.loop-left.invariant c.loop-left-test.true)

stop_within : (c : After-plain_end-stop) → c.plain_end-stop.result < length c.args.message.now
stop_within c = omega (arith, c.plain_end-stop.ensures, text-inside c.loop-left.invariant c.loop-left-test.true)

-- the class of the byte there
class_here : (c : After-index) → {n : ℕ}
    → get_or c.args.class.now (get_or c.args.message.now c.plain_end-stop.result 0) 0 ≡ n
    → get_or c.args.class.now c.index.result 0 ≡ n
class_here c e = ap (λ (k : ℕ). get_or c.args.class.now k 0) c.index.ensures.0 ∙ e

pub loop-left-init : goal.loop-left-init
loop-left-init c = skipping_begins {taken = c.args.taken} c.requires

pub plain_end-stop-requires : goal.plain_end-stop-requires
plain_end-stop-requires c = text-inside c.loop-left.invariant c.loop-left-test.true

pub bounds-message-stop : goal.bounds-message-stop
bounds-message-stop c = stop_within (goal.at.bounds-message-stop c).After-plain_end-stop

pub returns-then-sort-eq5 : goal.returns-then-sort-eq5
returns-then-sort-eq5 c = (stopped_here (goal.at.returns-then-sort-eq5 c).After-plain_end-stop).skipped

pub overflow_add-at : goal.overflow_add-at
overflow_add-at c = omega (arith, stop_within (goal.at.overflow_add-at c).After-plain_end-stop, c.well_formed)

pub loop-left-preserved : goal.loop-left-preserved
loop-left-preserved c =
    skipping_next (stopped_here (goal.at.loop-left-preserved c).After-plain_end-stop) c.loop-left-test.true (λ e. c.if-sort-eq5.false (class_here (goal.at.loop-left-preserved c).After-index e))
    (c.fields_left-left.ensures ∙ ap (λ (k : ℕ). elim (eqb k 1) [ true ↦ c.loop-left.left - 1 | false ↦ c.loop-left.left ]) (class_here (goal.at.loop-left-preserved c).After-index refl))
