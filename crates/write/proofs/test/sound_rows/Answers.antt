-- `write::test::sound_rows` meets its contract. Each test that fails refuses the table, and the last decides.
-- Assumes nothing.
use native.Mathlib.Omega.{arith}
use mathlib.Core.Bool.{true, false, false≢true}
use mathlib.Core.Path.{◌≡◌, sym, ◌∙◌}
use Prim.Native.Nat.{ℕ}
use Rattle.laws.proofs.Tests.{never_both}
use Rattle.order.specs.inner.Levels.{level_in}
use Rattle.table.specs.Rows.{Table}
use Rattle.write.specs.inner.Tests.{groups_in, table_with, of_counts, InText, Laid, KindsStated, sound_leaves, groups_stated, Decides, SoundRows}
use Rattle.write.proofs.GoingOn.{sound-first}
use Rattle.write.proofs.Said.{answered_no, answered_yes}
use Rattle.write.proofs.TableTest.{sound-laid, laid_in_text, narrow_kinds}
use Rattle.write.proofs.test.sound_rows.Goals as goal
use Rattle.write.proofs.test.sound_rows.Goals.{Else-not-grouped, Else-not-laid, Else-not-sound_leaves, Start}

-- the table that is tested, the levels it is tested by, and a test of it that fails
abbrev table : Start → Table
table s = table_with (of_counts s.args.card s.args.segments.count s.args.leaves.count) s.args.segments.rows.now s.args.leaves.rows.now s.args.leaves.text.now

abbrev by_levels : Start → ℕ → ℕ → ℕ
by_levels s = level_in s.args.levels.now

refuses : (s : Start) → (SoundRows (by_levels s) (table s) → ⊥) → Decides false (SoundRows (by_levels s) (table s))
refuses s n = (λ e. absurd (false≢true e), λ e. n)

-- what the tests have said
laid_here : (c : Else-not-laid) → Laid (table (goal.at.Else-not-laid c).Start).leaf_rows (table (goal.at.Else-not-laid c).Start).card.leaves (table (goal.at.Else-not-laid c).Start).card.text
laid_here c = c.laid.ensures.0 (c.if-not-laid.false)

text_here : (c : Else-not-laid) → InText (table (goal.at.Else-not-laid c).Start).leaf_rows (table (goal.at.Else-not-laid c).Start).text (table (goal.at.Else-not-laid c).Start).card.leaves
text_here c = laid_in_text c.requires.narrow (laid_here c).ended

sound_here : (c : Else-not-sound_leaves) → let t = table (goal.at.Else-not-sound_leaves c).Start in sound_leaves t.card.separator t.leaf_rows t.text t.card.leaves ≡ true
sound_here c = answered_yes c.sound_leaves.ensures c.if-not-sound_leaves.false

grouped_here : (c : Else-not-grouped) → let t = table (goal.at.Else-not-grouped c).Start in
    groups_stated t.segment_rows 0 t.card.segments 1 (groups_in t.leaf_rows t.text t.card.leaves) ≡ true
grouped_here c = answered_yes c.grouped.ensures c.if-not-grouped.false

kinds_here : (c : Else-not-grouped) → KindsStated (table (goal.at.Else-not-grouped c).Start).segment_rows (table (goal.at.Else-not-grouped c).Start).card.segments
kinds_here c = narrow_kinds c.requires.narrow (grouped_here c)

pub returns-then-leaves-lt3 : goal.returns-then-leaves-lt3
returns-then-leaves-lt3 c = refuses (goal.at.returns-then-leaves-lt3 c).Start (λ w. omega (arith, w.three, c.if-leaves-lt3.true))

pub returns-then-not-laid : goal.returns-then-not-laid
returns-then-not-laid c = refuses (goal.at.returns-then-not-laid c).Start (λ w. c.laid.ensures.1 (c.if-not-laid.true) (sound-laid w))

pub returns-then-not-sound_leaves : goal.returns-then-not-sound_leaves
returns-then-not-sound_leaves c = refuses (goal.at.returns-then-not-sound_leaves c).Start (λ w. never_both w.sound (answered_no c.sound_leaves.ensures c.if-not-sound_leaves.true))

pub grouped-requires : goal.grouped-requires
grouped-requires c =
    let t = table (goal.at.grouped-requires c).Start in
    record {
      sized = c.requires.narrow.sized.segment_rows;
      in_text = text_here (goal.at.grouped-requires c).Else-not-laid;
      next = (laid_here (goal.at.grouped-requires c).Else-not-laid).next;
      head = sound-first t.card.separator t.leaf_rows t.text t.card.leaves (sound_here c);
    }

pub returns-then-not-grouped : goal.returns-then-not-grouped
returns-then-not-grouped c = refuses (goal.at.returns-then-not-grouped c).Start (λ w. never_both w.grouped (answered_no c.grouped.ensures c.if-not-grouped.true))

pub owned-requires : goal.owned-requires
owned-requires c = record { kinds = kinds_here c; low = c.requires.low }

pub returns-then-not-owned : goal.returns-then-not-owned
returns-then-not-owned c = refuses (goal.at.returns-then-not-owned c).Start (λ w. never_both w.owned (answered_no c.owned.ensures c.if-not-owned.true))

pub in_order-requires : goal.in_order-requires
in_order-requires c = record { kinds = kinds_here (goal.at.in_order-requires c).Else-not-grouped; in_text = text_here (goal.at.in_order-requires c).Else-not-laid; some = omega (arith, c.if-leaves-lt3.false); grouped = grouped_here (goal.at.in_order-requires c).Else-not-grouped }

pub returns : goal.returns
returns c = (
  λ e.
      record {
        three = c.if-leaves-lt3.false;
        laid = (laid_here (goal.at.returns c).Else-not-laid).ended;
        sound = sound_here (goal.at.returns c).Else-not-sound_leaves;
        grouped = grouped_here (goal.at.returns c).Else-not-grouped;
        owned = answered_yes c.owned.ensures c.if-not-owned.false;
        ordered = sym c.in_order.ensures ∙ e;
      },
  λ e w. never_both w.ordered (sym c.in_order.ensures ∙ e),
)
