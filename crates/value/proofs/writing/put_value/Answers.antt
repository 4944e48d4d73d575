-- `value::writing::put_value` meets its contract: the sign, and behind it the digits.
-- Assumes nothing.
use Prim.Native.Nat.{◌+◌, ◌≤◌}
use native.Mathlib.Omega.{arith}
use lib.ListN.{length}
use Rattle.value.specs.Numerals.{most_digits}
use Rattle.value.proofs.TextsPut.{decimals_fit, room-left, plain-put, pointed-put}
use Rattle.value.proofs.writing.put_value.Goals as goal
use Rattle.value.proofs.writing.put_value.Goals.{After-put_sign-start}

-- behind the sign there is room for them and a point, and among them for the decimals
room_here : (c : After-put_sign-start) → c.put_sign-start.result + c.digits_for-digits.result + 1 ≤ length c.put_sign-start.new.output
room_here c =
    room-left most_digits (omega arith) c.args.negative c.args.magnitude c.args.decimals c.args.output.now c.requires c.digits_for-digits.ensures
    c.put_sign-start.ensures

decimals_here : (c : After-put_sign-start) → c.args.decimals ≤ c.digits_for-digits.result
decimals_here c =
    decimals_fit most_digits (omega arith) c.args.negative c.args.magnitude c.args.decimals c.args.output.now c.requires c.digits_for-digits.ensures

pub put_digits-requires : goal.put_digits-requires
put_digits-requires c = omega (arith, room_here (goal.at.put_digits-requires c).After-put_sign-start)

pub overflow_add-result : goal.overflow_add-result
overflow_add-result c = omega (arith, room_here (goal.at.overflow_add-result c).After-put_sign-start)

pub returns-then-decimals-eq0 : goal.returns-then-decimals-eq0
returns-then-decimals-eq0 c =
    plain-put most_digits (omega arith) c.args.negative c.args.magnitude c.args.decimals c.args.output.now c.requires c.digits_for-digits.ensures
    c.put_sign-start.ensures c.if-decimals-eq0.true c.put_digits.ensures.1

pub put_pointed-requires : goal.put_pointed-requires
put_pointed-requires c = (decimals_here (goal.at.put_pointed-requires c).After-put_sign-start, room_here (goal.at.put_pointed-requires c).After-put_sign-start)

pub overflow_add-result-else-decimals-eq0 : goal.overflow_add-result-else-decimals-eq0
overflow_add-result-else-decimals-eq0 c = omega (arith, room_here (goal.at.overflow_add-result-else-decimals-eq0 c).After-put_sign-start)

pub overflow_add-result-else-decimals-eq0-2 : goal.overflow_add-result-else-decimals-eq0-2
overflow_add-result-else-decimals-eq0-2 c = omega (arith, room_here (goal.at.overflow_add-result-else-decimals-eq0-2 c).After-put_sign-start)

pub returns-else-decimals-eq0 : goal.returns-else-decimals-eq0
returns-else-decimals-eq0 c =
    pointed-put most_digits (omega arith) c.args.negative c.args.magnitude c.args.decimals c.args.output.now c.requires c.digits_for-digits.ensures
    c.put_sign-start.ensures c.if-decimals-eq0.false c.put_pointed.ensures
