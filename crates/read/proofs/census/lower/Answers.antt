-- `read::census::lower` meets its contract.
-- Assumes nothing.
use mathlib.Core.Path.{sym, ap, ◌∙◌}
use Prim.Native.Nat.{ℕ}
use Rattle.std.specs.Prelude.{min, Option, Some}
use Rattle.read.proofs.CountState.{lower_first, lower_some}
use Rattle.read.proofs.census.lower.Goals as goal

pub returns-then-number-eq0 : goal.returns-then-number-eq0
returns-then-number-eq0 c = sym (lower_first _ c.if-number-eq0.true)

pub returns-else-number-eq0 : goal.returns-else-number-eq0
returns-else-number-eq0 c =
    ap {B = Option ℕ} (λ (n : ℕ). Some n) (c.min.ensures ∙ ap (λ (n : ℕ). min n c.args.number) c.unwrap_or.ensures)
    ∙ sym (lower_some c.args.earlier c.if-number-eq0.false)
