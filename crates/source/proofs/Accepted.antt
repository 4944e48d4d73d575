-- Where the rows of an accepted message stand: its first byte is H, so its first line is no addendum, and its rows are the table's.
-- Assumes nothing.
use mathlib.Core.List.{List, [], ◌∷◌}
use mathlib.Core.Path.{◌≡◌, refl, sym, ap, ap₂, ◌∙◌}
use Prim.Native.Nat.{ℕ, zero, suc, ◌-◌, ◌≤◌}
use native.Mathlib.Omega.{arith}
use lib.ListN.{length, get_or, take}
use Rattle.laws.proofs.Tests.{never_both}
use Rattle.form.specs.declared.limits.Limits.{Limits}
use Rattle.form.specs.declared.forms.Form.{Form}
use Rattle.form.specs.declared.forms.Form.TheVariants.{Small, Large}
use Rattle.form.specs.declared.separators.Separators.{Separators}
use Rattle.form.specs.Forms.{small_form, large_form, limits_of}
use Rattle.form.specs.declared.separators.Header.TheVariants.{Sound}
use Rattle.form.specs.Header.{separators_of, header_of}
use Rattle.form.proofs.HeaderRule.{SoundHeader, sound-header}
use Rattle.line.specs.Lines.{walk, texts}
use Rattle.line.specs.Joining.{letter_a, joined}
use Rattle.line.proofs.Handing.{line-within}
use Rattle.line.proofs.BothForms.{walk_same}
use Rattle.table.specs.Rows.{Table, table_of}
use Rattle.table.specs.Reading.{Room, accepted, reading}
use Rattle.table.proofs.Accepting.{Accepted, accepting}
use Rattle.source.specs.Places.{named_field, addenda_ahead, lines_from, row_places}
use Rattle.source.specs.Promises.{RowsStand, RowsShown, all_lines, AcceptedRows}
use Rattle.source.proofs.Addenda.{other_letter}
use Rattle.source.proofs.Going.{one, text_to, lines-line, ahead_none, Stands, nothing, carrying, beginning, stands}
use Rattle.source.proofs.RowsStand.{rows-stand, rows-shown}

first_byte : (m : List ℕ) (k : ℕ) → 1 ≤ k → get_or (take k m) 0 0 ≡ get_or m 0 0
first_byte [] zero h = refl
first_byte [] (suc k) h = refl
first_byte (a ∷ m) zero h = absurd (omega arith)
first_byte (a ∷ m) (suc k) h = refl

module _ (L : Limits) (some : 1 ≤ L.line) (m : List ℕ) (other : get_or m 0 0 ≡ letter_a → ⊥) where
  -- a message that does not begin with A begins with no addendum
  no_addendum_ahead : (f : ℕ) → addenda_ahead f (lines_from L m 0) ≡ 0
  unfolding addenda_ahead
  no_addendum_ahead f = by (stands L some m f 0)
    where
      by : Stands L some m f 0 → addenda_ahead f (lines_from L m 0) ≡ 0
      by (nothing e b) = ap (addenda_ahead f) e
      by (beginning e n h t b) = ap (addenda_ahead f) (lines-line L some m 0 e n h) ∙ ahead_none f (text_to L some m 0 e) (lines_from L m n) t
      by (carrying e n h t b) =
          absurd (never_both t (other_letter f (text_to L some m 0 e) (λ q. other (sym (first_byte m (e - 0) (omega (arith, line-within L m 0 e n h))) ∙ q))))

  pub stands_unless_A : RowsStand L m
  stands_unless_A = rows-stand L some m (no_addendum_ahead (named_field m))

  pub shown_unless_A : RowsShown L m
  shown_unless_A = rows-shown L some m (no_addendum_ahead (named_field m))

-- lines are of no form
same_lines : (f : Form) (m : List ℕ) → texts (walk (limits_of f) m) ≡ all_lines small_form m
unfolding limits_of lines_from walk
same_lines Small m = refl
same_lines Large m = ap texts (walk_same large_form small_form refl m)

-- of a message with a sound header, read in either form
module _ (f : Form) (m : List ℕ) (ps : Separators) (h : header_of m ≡ Sound ps) where
  header : SoundHeader m ps
  header = sound-header m ps h

  field_same : ps.field ≡ named_field m
  unfolding separators_of
  field_same = ap (λ (qs : Separators). qs.field) header.separators

  segments-same : joined ps.field (texts (walk (limits_of f) m)) ≡ joined (named_field m) (all_lines small_form m)
  segments-same = ap₂ {C = List (List ℕ)} joined field_same (same_lines f m)

  begins_with_H : get_or m 0 0 ≡ letter_a → ⊥
  begins_with_H q = omega (arith, header.letter, q)

  pub sound-stand : RowsStand small_form m
  sound-stand = stands_unless_A small_form one m begins_with_H

  pub sound-shown : RowsShown small_form m
  sound-shown = shown_unless_A small_form one m begins_with_H

  pub sound-count : length (row_places small_form m) ≡ length (joined ps.field (texts (walk (limits_of f) m)))
  sound-count = sound-stand.counted ∙ sym (ap length segments-same)

module _ (f : Form) (levels : ℕ → ℕ → ℕ) (room : Room) (m : List ℕ) (t : Table) (e : reading (limits_of f) levels room m ≡ accepted t) where
  pub accepted-rows : AcceptedRows m t
  unfolding table_of
  accepted-rows =
      let w : Accepted (limits_of f) levels room m t = (accepting (limits_of f) levels room m t).0 e in
      record {
        stand = sound-stand f m w.separators w.header;
        shown = sound-shown f m w.separators w.header;
        counted = sound-count f m w.separators w.header ∙ sym (ap (λ (x : Table). x.card.segments) w.segments.table);
      }
