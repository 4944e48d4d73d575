-- `write::test::counted_bytes` meets its contract. A test that fails refuses the table; where none does, the bytes counted are those written.
-- Assumes nothing.
use native.Mathlib.Omega.{arith}
use mathlib.Core.Path.{ap, ◌∙◌}
use Rattle.std.specs.Prelude.{Some}
use Prim.Native.Nat.{ℕ}
use Rattle.order.specs.inner.Levels.{level_in}
use Rattle.table.specs.Rows.{Table}
use Rattle.write.specs.inner.Tests.{table_with, of_counts, SoundRows}
use Rattle.write.proofs.TableTest.{refused-size, passed-size}
use Rattle.write.proofs.test.counted_bytes.Goals as goal
use Rattle.write.proofs.test.counted_bytes.Goals.{Else-not-sound_rows, Start}

-- the table that is tested
abbrev table : Start → Table
table s = table_with (of_counts s.args.card s.args.segments.count s.args.leaves.count) s.args.segments.rows.now s.args.leaves.rows.now s.args.leaves.text.now

-- the levels it is tested by
abbrev by_levels : Start → ℕ → ℕ → ℕ
by_levels s = level_in s.args.levels.now

sound_here : (c : Else-not-sound_rows) → SoundRows (by_levels (goal.at.Else-not-sound_rows c).Start) (table (goal.at.Else-not-sound_rows c).Start)
sound_here c = c.sound_rows.ensures.0 (c.if-not-sound_rows.false)

pub returns-then-not-sound_rows : goal.returns-then-not-sound_rows
returns-then-not-sound_rows c = refused-size c.requires (λ w. c.sound_rows.ensures.1 (c.if-not-sound_rows.true) w.rows)

pub returns-then-bytes-limits : goal.returns-then-bytes-limits
returns-then-bytes-limits c =
    ap (λ (n : ℕ). Some n) c.message_bytes-bytes.ensures
    ∙ passed-size c.requires
    (record { rows = sound_here (goal.at.returns-then-bytes-limits c).Else-not-sound_rows; short = omega (arith, c.message_bytes-bytes.ensures, c.if-bytes-limits.true) })

pub returns-else-bytes-limits : goal.returns-else-bytes-limits
returns-else-bytes-limits c = refused-size c.requires (λ w. omega (arith, w.short, c.message_bytes-bytes.ensures, c.if-bytes-limits.false))
