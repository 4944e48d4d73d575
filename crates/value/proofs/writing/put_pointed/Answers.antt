-- `value::writing::put_pointed` meets its contract: the decimals, the point in front of them, and in front of that what is left.
-- Assumes nothing.
use native.Mathlib.Omega.{arith}
use mathlib.Core.Path.{refl, ◌∙◌}
use lib.ListN.{length-set}
use Prim.Native.Nat.{◌+◌, ◌-◌}
use Rattle.value.specs.Numerals.{point}
use Rattle.value.proofs.TextsPut.{pointed-stored}
use Rattle.value.proofs.writing.put_pointed.Goals as goal

pub put_digits-requires : goal.put_digits-requires
put_digits-requires c =
    omega (
      arith,
      c.requires,
      c.put_digits-rest.auto.output,
      length-set c.put_digits-rest.new.output (c.args.at + (c.args.digits - c.args.decimals)) point,
    )

pub shape_of-output : goal.shape_of-output
shape_of-output c =
    c.put_digits.auto.output
    ∙ length-set c.put_digits-rest.new.output (c.args.at + (c.args.digits - c.args.decimals)) point
    ∙ c.put_digits-rest.auto.output

pub returns : goal.returns
returns c =
    pointed-stored c.args.digits c.args.decimals c.args.magnitude c.args.at c.args.output.now c.put_digits-rest.ensures.1 c.put_digits-rest.ensures.0
    refl c.put_digits.ensures.1
