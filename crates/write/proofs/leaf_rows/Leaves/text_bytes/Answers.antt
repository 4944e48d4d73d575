-- `write::leaf_rows::Leaves::text_bytes` meets its contract: from the start of the first text up to the end of the last.
-- Assumes nothing.
use native.Mathlib.Omega.{arith}
use mathlib.Core.Path.{◌≡◌}
use Prim.Native.Nat.{◌+◌, ◌-◌}
use lib.ListN.{length}
use Rattle.table.specs.Rows.{text_of}
use Rattle.write.specs.inner.Tests.{leaves_between}
use Rattle.write.proofs.LaidRows.{in_text_fits, texts_span}
use Rattle.write.proofs.leaf_rows.Leaves.text_bytes.Goals as goal
use Rattle.write.proofs.leaf_rows.Leaves.text_bytes.Goals.{After-wide-2}

-- what lies between the two
between : (c : After-wide-2) → length (text_of (leaves_between c.args.self.rows.now c.args.self.text.now c.args.first c.args.end)) + c.wide-2.result ≡ c.wide-start.result + c.wide.result
between c =
    omega (
      arith,
      texts_span c.args.self.rows.now c.args.self.text.now c.args.self.count c.requires.in_text c.args.first c.args.end c.requires.from c.requires.to,
      c.wide-start.ensures.0,
      c.wide.ensures.0,
      c.wide-2.ensures.0,
    )

pub overflow_sub-result : goal.overflow_sub-result
overflow_sub-result c = omega (arith, between (goal.at.overflow_sub-result c).After-wide-2)

pub returns : goal.returns
returns c =
    let text = between (goal.at.returns c).After-wide-2 in
    let fits = in_text_fits c.requires.in_text (c.args.end - 1) (omega (arith, c.requires.from, c.requires.to)) in
    (omega (arith, text), omega (arith, text, fits, c.wide-start.ensures.0, c.wide.ensures.0))
