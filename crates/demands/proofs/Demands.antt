-- The three demands, proved: each statement by one law, over any lawful limits and any levels; then at both forms, by the levels in force.
-- Assumes nothing.
use mathlib.Core.Path.{refl}
use Prim.Native.Nat.{ℕ}
use Rattle.form.specs.declared.limits.Limits.{Limits}
use Rattle.form.specs.declared.forms.Form.{Form}
use Rattle.form.specs.declared.forms.Form.TheVariants.{Small, Large}
use Rattle.form.specs.Forms.{small_form, large_form, limits_of}
use Rattle.form.specs.Limits.{Lawful}
use Rattle.form.proofs.TwoForms.{form_lawful, small_least}
use Rattle.order.specs.Owners.{level}
use Rattle.order.specs.inner.Telling.{tell_of}
use Rattle.order.proofs.OneTree as order
use Rattle.order.proofs.ShutOut as refusals
use Rattle.order.proofs.Watched as watcher
use Rattle.table.specs.Reading.{stated}
use Rattle.read.proofs.OnlyOne as reader
use Rattle.read.proofs.Acceptance as acceptance
use Rattle.read.proofs.Contract as reads
use Rattle.read.proofs.OwnersColumn as owners
use Rattle.write.proofs.Contract as writes
use Rattle.look.proofs.FirstMatch as looks
use Rattle.look.proofs.SameAnswer as segment
use Rattle.tested.proofs.TableLeft as left
use Rattle.demands.proofs.SameTable as larger
use Rattle.demands.specs.Demands.{Demand1, Demand2, Demand3, OfForm, BothForms}

module _ (L : Limits) (lawful : Lawful L) (levels : ℕ → ℕ → ℕ) where
  pub demand_1 : Demand1 L levels
  demand_1 =
      record {
        one-reading = λ message g h. reader.only_one L levels message g h;
        refused-reading = λ message g refused. reads.refused_unchanged L levels message g refused;
        one-writing = λ table g h. writes.one-writing L lawful levels table g h;
        refused-writing = λ table g refused. writes.refused_as_it_was L lawful levels table g refused;
        leaf-found = looks.finds_exactly;
        leaf-found_in_segment = looks.finds_in_segment_exactly;
        row-found = looks.finds_row_exactly;
        orders-compared = looks.same-orders;
      }

  pub demand_2 : Demand2 L levels
  demand_2 =
      record {
        accepted-table = λ message g yes. reads.accepted-table L levels message g yes;
        table-left = λ message g yes. left.table-left L lawful levels message g yes;
        written-table = λ table g yes. writes.wrote_table L lawful levels table g yes;
        written_exactly = λ table g. writes.written_exactly L lawful levels table g;
        short_exactly = λ table g. writes.short_exactly L lawful levels table g;
        none_exactly = λ table g. writes.none_exactly L lawful levels table g;
        tested_exactly = λ table r e. writes.tested_exactly L lawful levels table r e;
        same_answer = λ table read place. segment.same_answer L levels (stated L) read.0 table read.1 place;
        fewest = λ table g yes message read. writes.fewest L lawful levels table g yes message read;
      }

  pub demand_3 : Demand3 L levels
  demand_3 =
      record {
        accepted_exactly = λ message sound g. acceptance.accepted_exactly L levels message _ sound g;
        misplaced_at = λ message sound roomy g ten. reads.first-misplaced L levels message _ g sound roomy ten;
        one_derivation = order.one_derivation;
        each-owner = λ message read i h. owners.owners-column read i h;
        watcher-yes = watcher.yes_exactly;
        watcher_no = refusals.changes_on_a_no tell_of (λ w k. refl);
        cut_anyhow = λ message other one two same g h. reads.cut_anyhow L lawful levels message other one two same g h;
      }

-- the demands of each form, and both together
pub form_demands : (f : Form) → OfForm f
form_demands f =
    record {
      first = demand_1 (limits_of f) (form_lawful f) level;
      second = demand_2 (limits_of f) (form_lawful f) level;
      third = demand_3 (limits_of f) (form_lawful f) level;
    }

pub both_forms : BothForms
unfolding limits_of
both_forms =
    record {
      each = form_demands;
      small_in_large = λ message small yes roomy large.
          larger.same-table small_form (form_lawful Small) large_form (form_lawful Large) (small_least Large) level message small yes roomy large;
    }
