-- A message of four results (X2), read with an index that names no codes and a tally of zeros, in both forms: it is accepted and counted.
-- Assumes nothing.
use mathlib.Core.Bool.{Bool, true, false, ◌||◌}
use mathlib.Core.List.{List, [], ◌∷◌}
use mathlib.Core.Path.{◌≡◌, refl, ap, ap₂, ◌∙◌}
use Prim.Native.Nat.{ℕ, ◌+◌}
use lib.ListN.{length}
use Rattle.laws.specs.Lists.{same, among, count, concat, numbered, first_from, sum_of}
use Rattle.laws.specs.Texts.{bytes}
use Rattle.laws.proofs.Tests.{never_both}
use Rattle.form.specs.declared.forms.Form.{Form}
use Rattle.form.specs.declared.forms.Form.TheVariants.{Small, Large}
use Rattle.form.specs.Forms.{limits_of}
use Rattle.form.specs.Header.{within, allowed, all_allowed, different, separators_of, five, splitting, sound_header, header_of}
use Rattle.form.specs.Names.{kind_names, context_names, number_among, kind_of, context_of}
use Rattle.line.specs.Lines.{inside, walk_from, walk, texts, fault_number}
use Rattle.line.specs.Joining.{addendum, carried, joined}
use Rattle.order.specs.Contexts.{segment, H, P, AP, AC, OBR, OBX, FAC, REG, ACT, ERR, L, orders, cover, invoices, bodies, message_shape, grammar}
use Rattle.order.specs.inner.Place.{empties, told, row_told, rows_told, row_empties, rows_empty, place_from, misplaced}
use Rattle.order.specs.Owners.{level}
use Rattle.table.specs.Leaves.{onto, split, leaves, segment_leaves, header_leaves, leaves_from, message_leaves, kind_of_segment, context_of_header}
use Rattle.table.specs.Rows.{kinds_of, context_in, all_leaves, Table}
use Rattle.table.specs.Reading.{room_of, Outcome, refused, accepted, refuse_if, refuse_at, short, stated, first_unknown, judged, of_message, reading}
use Rattle.table.proofs.Accepting.{any-room}
use Rattle.index.specs.declared.tally.Tally.{Tally}
use Rattle.index.specs.Order.{byte_order, is_before}
use Rattle.index.specs.Index.{Entry, named_in, entries_in, roomy, count_of}
use Rattle.index.specs.Adding.{place_of_code, code_added, added_all, too_many, too_large}
use Rattle.index.specs.Tallying.{with_message, tally_too_large}
use Rattle.index.proofs.Entries.{entries_empty}
use Rattle.read.specs.declared.indexed.Indexed.{Indexed}
use Rattle.read.specs.Codes.{leaf_code, code_carried, codes_in, first_long}
use Rattle.read.specs.Counting.{IndexedAs}
use Rattle.demands.specs.Counts.{segment_count, entries_with, tally_with, Eligible, made, adding}
use Rattle.demands.proofs.Counts.{counted_exactly, adds}
use Rattle.demands.proofs.Histories.{holds_history}
use Rattle.demands.proofs.CountsShutOut.{four_results, four-results}

-- whether an outcome is an accepted one
unfoldable is_accepted : Outcome → Bool
is_accepted (refused n p) = false
is_accepted (accepted t) = true

accepted_with : (o : Outcome) → is_accepted o ≡ true → (t : Table) × (o ≡ accepted t)
unfolding is_accepted
accepted_with (refused n p) h = absurd (never_both h refl)
accepted_with (accepted t) h = (t, refl)

four-read : (f : Form) → is_accepted (reading (limits_of f) level (stated (limits_of f)) four_results) ≡ true
unfolding four_results is_accepted same among count concat numbered first_from bytes within allowed all_allowed different separators_of five splitting
    sound_header header_of kind_names context_names number_among kind_of context_of inside walk_from walk texts fault_number addendum carried
    joined segment H P AP AC OBR OBX FAC REG ACT ERR L orders cover invoices bodies message_shape grammar empties told
    row_told rows_told row_empties rows_empty place_from misplaced onto split leaves segment_leaves
    header_leaves leaves_from message_leaves kind_of_segment context_of_header kinds_of context_in all_leaves
    refuse_if refuse_at short first_unknown judged of_message reading stated limits_of
four-read Small = refl
four-read Large = refl

four-short : (f : Form) → first_long (codes_in (limits_of f) four_results) ≡ 0
unfolding four_results same among first_from bytes within allowed all_allowed different separators_of five sound_header header_of kind_names
    number_among kind_of inside walk_from walk texts addendum carried joined onto split kind_of_segment limits_of leaf_code code_carried codes_in first_long
four-short Small = refl
four-short Large = refl

four-segments : (f : Form) → segment_count (limits_of f) four_results ≡ 8
unfolding four_results same among first_from bytes within allowed all_allowed different separators_of five sound_header header_of
    inside walk_from walk texts addendum carried joined limits_of segment_count
four-segments Small = refl
four-segments Large = refl

abbrev pub zeros : Tally
zeros = record { messages = 0; segments = 0; results = 0 }

-- two entries, in byte order
abbrev pub two_entries : List Entry
two_entries = record { place = place_of_code (bytes "GLY"); count = 2 } ∷ record { place = place_of_code (bytes "URE"); count = 1 } ∷ []

four-added : added_all (bytes "GLY" ∷ bytes "URE" ∷ bytes "GLY" ∷ []) [] ≡ two_entries
unfolding bytes added_all code_added place_of_code byte_order is_before same
four-added = refl

-- from an index that names no codes
module _ (f : Form) {text segments leaves codes counts text' segments' leaves' codes' counts' : List ℕ} {r : Indexed}
    (room : short (limits_of f) (room_of text segments leaves) ≡ false) (roomy-there : roomy codes counts ≡ true) (empty : named_in counts ≡ 0)
    (w : IndexedAs (limits_of f) level zeros four_results text segments leaves codes counts r text' segments' leaves' codes' counts') where
  -- two rows with one new code need one place
  pub entries_two : entries_with (limits_of f) four_results codes counts ≡ two_entries
  entries_two = ap₂ added_all (four-results f) (entries_empty codes counts empty) ∙ four-added

  tally-one : tally_with (limits_of f) four_results zeros ≡ record { messages = 1; segments = 8; results = 3 }
  tally-one = ap₂ (λ (s n : ℕ). with_message zeros s n) (four-segments f) (ap length (four-results f))

  eligible : Eligible (limits_of f) level four_results text segments leaves codes counts
  eligible =
      let t = accepted_with (reading (limits_of f) level (stated (limits_of f)) four_results) (four-read f) in
      record {
        sound = (holds_history {levels = level} (made roomy-there empty)).sound;
        table = t.0;
        reads = any-room (limits_of f) level (room_of text segments leaves) four_results room ∙ t.1;
      }

  pub is_accepted_lem : r.answer.number ≡ 0
  unfolding too_large tally_too_large
  is_accepted_lem =
      (counted_exactly (limits_of f) level four_results w).1 (
        eligible,
        four-short f,
        ap (λ (es : List Entry). too_many es) entries_two,
        ap₂ (λ (es : List Entry) (t : Tally). too_large es || tally_too_large t) entries_two tally-one,
      )

  pub tallied-one : r.tally ≡ record { messages = 1; segments = 8; results = 3 }
  tallied-one = (adds (limits_of f) level four_results w is_accepted_lem).tallied ∙ tally-one

  -- two rows carried the one code, one row the other
  pub counted_gly : count_of (entries_in codes' counts') (bytes "GLY") ≡ 2
  unfolding sum_of count same bytes
  counted_gly =
      (holds_history (adding (limits_of f) four_results (made roomy-there empty) w is_accepted_lem)).counted (bytes "GLY")
      ∙ ap (λ (s : List (List ℕ)). count (λ (d : List ℕ). same d (bytes "GLY")) s + 0) (four-results f)

  pub counted_ure : count_of (entries_in codes' counts') (bytes "URE") ≡ 1
  unfolding sum_of count same bytes
  counted_ure =
      (holds_history (adding (limits_of f) four_results (made roomy-there empty) w is_accepted_lem)).counted (bytes "URE")
      ∙ ap (λ (s : List (List ℕ)). count (λ (d : List ℕ). same d (bytes "URE")) s + 0) (four-results f)
