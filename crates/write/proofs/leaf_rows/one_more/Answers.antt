-- `write::leaf_rows::one_more` meets its contract.
-- Assumes nothing.
use native.Mathlib.Omega.{arith}
use mathlib.Core.Path.{◌≡◌, ap₂}
use Prim.Native.Nat.{ℕ, suc, ◌+◌}
use lib.Dec.{eqb}
use Rattle.write.proofs.leaf_rows.one_more.Goals as goal

pub returns : goal.returns
returns c =
    let more : c.wide.result + 1 ≡ suc c.args.before = omega (arith, c.wide.ensures.0) in
    ap₂ (λ (a b : ℕ). eqb a b) more c.wide-2.ensures.0
