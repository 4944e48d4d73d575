-- A message by other levels (rules N4, O4): it is accepted as before, and so is what is written for its table; both give the table of the same segments.
-- Assumes nothing.
use mathlib.Core.Bool.{false}
use mathlib.Core.List.{List}
use mathlib.Core.Path.{◌≡◌, refl, sym, ◌∙◌, subst}
use Prim.Native.Nat.{ℕ, ◌≤◌}
use native.Mathlib.Omega.{arith}
use lib.ListN.{length}
use Rattle.form.specs.declared.limits.Limits.{Limits}
use Rattle.form.specs.declared.separators.Separators.{Separators}
use Rattle.form.specs.Limits.{Lawful}
use Rattle.line.specs.Cutting.{cuts, unlines}
use Rattle.line.proofs.Fewest.{least-message}
use Rattle.table.specs.Rows.{Table, table_of}
use Rattle.table.specs.Reading.{Room, accepted, short, reading, stated}
use Rattle.table.specs.inner.Back.{written}
use Rattle.table.proofs.Accepting.{Judged, Accepted, accepting, any-room}
use Rattle.table.proofs.Filing.{segments_of_accepted, accepted-header, accepted_worded, accepted-filed}
use Rattle.write.proofs.RoundTrip.{written-accepted, table-written}

-- segments that pass the tests 7 to 11 pass them by any levels
pub judged_by : {L : Limits} {levels : ℕ → ℕ → ℕ} {ps : Separators} {segments : List (List ℕ)} {t : Table} → Judged L levels ps segments t
    → (others : ℕ → ℕ → ℕ) → Judged L others ps segments (table_of others ps segments)
judged_by j others =
    record {
      few-segments = j.few-segments;
      known = j.known;
      context = j.context;
      ordered = j.ordered;
      few-leaves = j.few-leaves;
      table = refl;
    }

module _ {L : Limits} {levels : ℕ → ℕ → ℕ} {room : Room} {m : List ℕ} {t : Table} (lawful : Lawful L) (w : Accepted L levels room m t)
    (others : ℕ → ℕ → ℕ) where
  -- the table by the other levels
  abbrev pub table_by : Table
  table_by = table_of others w.separators (segments_of_accepted lawful w)

  message_by : Accepted L others room m table_by
  message_by =
      record {
        separators = w.separators;
        roomy = w.roomy;
        fits = w.fits;
        header = w.header;
        no_fault = w.no_fault;
        segments = judged_by w.segments others;
      }

  written_by : Accepted L others room (written L t) table_by
  written_by =
      subst (λ (s : List ℕ). Accepted L others room s table_by) (sym (table-written lawful w))
      (written-accepted lawful (accepted-header lawful w).allowed (accepted-header lawful w).different (accepted-filed lawful w)
      (accepted_worded lawful w) (judged_by w.segments others) w.roomy (omega (arith, shorter, w.fits)))
    where
      shorter : length (unlines (cuts L w.separators.field (segments_of_accepted lawful w))) ≤ length m
      shorter = least-message L lawful w.separators.field (segments_of_accepted lawful w) m refl

  pub message-read_by : reading L others room m ≡ accepted table_by
  message-read_by = (accepting L others room m table_by).1 message_by

  pub written-read_by : reading L others room (written L t) ≡ accepted table_by
  written-read_by = (accepting L others room (written L t) table_by).1 written_by

-- so what is written for a table that a message was read to is read, by any levels and into any buffers that are not short, as that message is
module _ (L : Limits) (lawful : Lawful L) (levels others : ℕ → ℕ → ℕ) (m : List ℕ) (t : Table) (read : reading L levels (stated L) m ≡ accepted t)
    (room : Room) (roomy : short L room ≡ false) where
  abbrev w : Accepted L levels (stated L) m t
  w = (accepting L levels (stated L) m t).0 read

  pub written_as_message : reading L others room (written L t) ≡ reading L others room m
  written_as_message =
      any-room L others room (written L t) roomy ∙ written-read_by lawful w others
      ∙ sym (any-room L others room m roomy ∙ message-read_by lawful w others)

  pub written-table : reading L others room (written L t) ≡ accepted (table_by lawful w others)
  written-table = any-room L others room (written L t) roomy ∙ written-read_by lawful w others
