-- `index::soundness::has_code` meets its contract: the length is none, or the second test decides. Assumes nothing.
use mathlib.Core.Path.{sym, ap, ◌∙◌}
use Prim.Native.Nat.{ℕ}
use lib.Dec.{leb}
use lib.ListN.{get_or}
use Rattle.index.specs.Index.{code_most}
use Rattle.index.proofs.Followed.{no_length, length_decides}
use Rattle.index.proofs.soundness.has_code.Goals as goal

pub returns-then-n-eq0 : goal.returns-then-n-eq0
returns-then-n-eq0 c =
    let a = c.args in
    no_length (get_or a.codes.now a.at 0) (sym c.length_at-n.ensures.0 ∙ c.if-n-eq0.true)

pub returns : goal.returns
returns c =
    let a = c.args in
    ap (λ (n : ℕ). leb n code_most) c.length_at-n.ensures.0
    ∙ length_decides (get_or a.codes.now a.at 0) (λ e. c.if-n-eq0.false (c.length_at-n.ensures.0 ∙ e))
