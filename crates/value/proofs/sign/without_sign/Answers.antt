-- `value::sign::without_sign` meets its contract: the test for a minus, and beside it std's magnitude.
-- Assumes nothing.
use mathlib.Core.Path.{ap, ◌∙◌}
use Prim.Native.Nat.{ℕ}
use lib.IntN.{ℤ, pos}
use lib.Signed.{lt_z}
use mir.Syntax.{w64}
use mir.Val.{to_z, of_z}
use mir.ValLaws.{to_z-of_z}
use Rattle.value.specs.inner.Signs.{apart}
use Rattle.value.proofs.sign.without_sign.Goals as goal

pub returns : goal.returns
unfolding apart
returns c =
    let bits : ℤ = to_z w64 (of_z w64 c.args.whole) in
    ap (λ (n : ℕ). (lt_z bits (pos 0), n)) c.unsigned_abs.ensures.value ∙ ap apart (to_z-of_z w64 c.args.whole c.ranges.whole)
