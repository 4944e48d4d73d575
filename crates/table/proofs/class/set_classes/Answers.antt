-- `table::class::set_classes` meets its contract: what is left to store from byte b on gives the whole.
-- Assumes nothing.
use mathlib.Core.Path.{◌≡◌, refl, ap, sym, ◌∙◌}
use Prim.Native.Nat.{ℕ, ◌-◌}
use native.Mathlib.Omega.{arith}
use lib.ListN.{replicate}
use lib.Seq.{sets}
use Rattle.table.specs.inner.Classes.{classes_over}
use Rattle.table.proofs.Classes.{lows_more}
use Rattle.table.proofs.class.set_classes.Goals as goal

pub loop-b-init : goal.loop-b-init
loop-b-init c = (omega arith, refl)

pub bounds-class-b : goal.bounds-class-b
bounds-class-b c = omega arith

pub overflow_add-b : goal.overflow_add-b
overflow_add-b c = omega arith

pub loop-b-smaller : goal.loop-b-smaller
loop-b-smaller c = omega arith

pub loop-b-preserved : goal.loop-b-preserved
loop-b-preserved c = (omega arith, lows_more c.loop-b.class c.loop-b.b c.loop-b-test.true ∙ c.loop-b.invariant.1)

pub returns : goal.returns
unfolding classes_over
returns c =
    let none : 32 - c.loop-b.b ≡ 0 = omega arith in
    ap (λ (n : ℕ). sets c.loop-b.class c.loop-b.b (replicate n 5)) (sym none) ∙ c.loop-b.invariant.1
