-- `source::row::row_place` meets its contract. The loop's invariant: the row that is sought is so many rows on from here, where no addendum stands.
-- Assumes nothing.
use mathlib.Core.Path.{◌≡◌, sym, ap, ◌∙◌, subst}
use Prim.Native.Nat.{ℕ, ◌+◌, ◌-◌}
use native.Mathlib.Omega.{arith}
use Rattle.form.specs.Forms.{small_form}
use Rattle.source.specs.Places.{named_field}
use Rattle.source.specs.inner.Going.{addenda_from}
use Rattle.source.specs.declared.row.LineRun.{LineRun}
use Rattle.source.proofs.Going.{one}
use Rattle.source.proofs.Placing.{Seeking, seeking_begins, seeking_zero, seeking_none, row_reached, row_passed}
use Rattle.source.proofs.row.row_place.Goals as goal

pub returns-then-row-eq0 : goal.returns-then-row-eq0
returns-then-row-eq0 c = seeking_zero small_form one c.args.message.now c.args.row c.if-row-eq0.true

pub loop-number-init : goal.loop-number-init
loop-number-init c =
    let m = c.args.message.now in
    let ahead : c.addenda_at-at.result ≡ addenda_from small_form (named_field m) m 0
    = c.addenda_at-at.ensures.0 ∙ ap (λ (f : ℕ). addenda_from small_form f m 0) c.field_of-field.ensures in
    let all : c.args.row + 1 - 1 ≡ c.args.row = omega arith in
    rw all (subst (λ (r : LineRun). Seeking small_form m c.args.row r.next c.args.row) (sym ahead) (seeking_begins small_form one m c.args.row))

pub returns-in_default : goal.returns-in_default
returns-in_default c =
    seeking_none small_form one c.args.message.now c.args.row c.loop-number.at (c.args.row + 1 - c.loop-number._number) c.loop-number.invariant
    c.in_default.ensures

pub loop-number-preserved : goal.loop-number-preserved
loop-number-preserved c =
    let fewer : c.args.row + 1 - c.loop-number._number - 1 ≡ c.args.row + 1 - (c.loop-number._number + 1) = omega arith in
    subst (Seeking small_form c.args.message.now c.args.row c.in-Some.here.next) fewer
    (row_passed small_form one c.args.message.now c.args.row c.field_of-field.ensures c.loop-number.at c.in-Some.ensures
    (c.args.row + 1 - c.loop-number._number) c.loop-number.invariant (omega arith))

pub returns-in-Some-row_from : goal.returns-in-Some-row_from
returns-in-Some-row_from c =
    let last : c.args.row + 1 - c.loop-number._number ≡ 1 = omega (arith, c.loop-number.auto._number-end) in
    row_reached small_form one c.args.message.now c.args.row c.field_of-field.ensures c.loop-number.at c.in-Some-row_from.ensures
    (subst (Seeking small_form c.args.message.now c.args.row c.loop-number.at) last c.loop-number.invariant)

pub returns-in-None : goal.returns-in-None
returns-in-None c =
    seeking_none small_form one c.args.message.now c.args.row c.loop-number.at (c.args.row + 1 - c.loop-number._number) c.loop-number.invariant
    c.in-None.ensures
