-- The worked examples of verdicts hold of the definitions, by computation.
-- Assumes nothing.
use mathlib.Core.List.{List, [], map}
use mathlib.Core.Path.{◌≡◌, refl, sym, ap, ◌∙◌}
use Prim.Native.Nat.{ℕ, ◌<◌}
use native.Mathlib.Omega.{arith}
use lib.ListN.{length, get_or}
use Rattle.laws.specs.Lists.{same, among, count, concat, numbered, first_from}
use Rattle.laws.specs.Texts.{bytes}
use Rattle.laws.proofs.Lists.{get_d_map}
use Rattle.laws.specs.Tables.{values, passing}
use Rattle.form.specs.Forms.{small_form}
use Rattle.form.specs.Limits.{line_count, rounded_up}
use Rattle.form.specs.Header.{within, allowed, all_allowed, different, separators_of, five, splitting, sound_header, header_of}
use Rattle.form.specs.Names.{kind_names, context_names, number_among, kind_of, context_of}
use Rattle.line.specs.Lines.{inside, walk_from, walk, texts, fault_number, fault_place}
use Rattle.line.specs.Joining.{addendum, carried, joined}
use Rattle.line.specs.Cutting.{pieces, addenda, cut, cuts, unlines}
use Rattle.order.specs.Contexts.{segment, H, P, AP, AC, OBR, OBX, FAC, REG, ACT, ERR, L, orders, cover, invoices, bodies, message_shape, grammar}
use Rattle.order.specs.inner.Place.{empties, told, row_told, rows_told, row_empties, rows_empty, place_from, misplaced}
use Rattle.order.specs.Owners.{levels, level, nearest, is_c, owner, owners_after, owners}
use Rattle.table.specs.Leaves.{onto, split, leaves, segment_leaves, header_leaves, leaves_from, message_leaves, kind_of_segment, context_of_header}
use Rattle.table.specs.Rows.{segment_rows_from, leaf_rows_from, text_of, kinds_of, context_in, all_leaves, table_of}
use Rattle.table.specs.Reading.{refuse_if, refuse_at, stated, short, first_unknown, judged, of_message, reading}
use Rattle.table.specs.Lent.{within_limits, counts_fit, counted}
use Rattle.table.specs.inner.Back.{leaf_at, leaves_of, separators_at, between, unsplit_from, unsplit, segments_of, lines_of, written}
use Rattle.write.specs.inner.ReadsBack.{same_card, same_table, gives_table, reads_back, is_table}
use Rattle.look.specs.Looking.{numbers_of, fits, says_text}
use Rattle.look.specs.inner.Searching.{found_of, sought_from, sought_by}
use Rattle.tested.specs.inner.Lending.{lent_by, cut_short}
use Rattle.screen.specs.declared.Verdict.{Verdict}
use Rattle.screen.specs.Rules.{wanted_fields, codes, value_rules, rules}
use Rattle.screen.specs.Meeting.{has_text, is_letter, says_letter, coded_under, is_about, fails}
use Rattle.screen.specs.Verdicts.{at_first, judged_by, screened}
use Rattle.screen.specs.Examples.{filed_lines, as_report, as_orders, sound_lines, ScreenedLines, verdict_examples, expects}

-- the verdict on an example, and the one that it names
abbrev verdict_of : ScreenedLines → Verdict
verdict_of e = screened small_form level (filed_lines (as_report e.lines))

abbrev named_in : ScreenedLines → Verdict
named_in e = record { number = e.number; place = e.place }

-- all of them; the first as an ORM, and with a card that counts one segment less
computed : (map verdict_of verdict_examples ≡ map named_in verdict_examples)
    × (screened small_form level (filed_lines (as_orders sound_lines)) ≡ record { number = 30; place = 0 })
    × (screened small_form level (cut_short (filed_lines (as_report sound_lines))) ≡ record { number = 13; place = 0 })
unfolding same among count concat numbered first_from bytes values passing line_count rounded_up within allowed all_allowed different separators_of five splitting
    sound_header header_of kind_names context_names number_among kind_of context_of inside walk_from walk texts fault_number fault_place addendum carried
    joined pieces addenda cut cuts unlines segment H P AP AC OBR OBX FAC REG ACT ERR L orders cover invoices bodies message_shape grammar empties told
    row_told rows_told row_empties rows_empty place_from misplaced levels level nearest is_c owner owners_after owners onto split leaves segment_leaves
    header_leaves leaves_from message_leaves kind_of_segment context_of_header segment_rows_from leaf_rows_from text_of kinds_of context_in all_leaves table_of
    refuse_if refuse_at short first_unknown judged of_message reading stated within_limits counts_fit counted leaf_at leaves_of separators_at between unsplit_from
    unsplit segments_of lines_of written same_card same_table gives_table reads_back is_table numbers_of fits found_of sought_from sought_by says_text
    wanted_fields codes value_rules rules has_text is_letter says_letter coded_under is_about fails at_first judged_by screened lent_by cut_short filed_lines as_report
    as_orders verdict_examples
computed = (refl, refl, refl)

example_count : length verdict_examples ≡ 10
unfolding verdict_examples
example_count = refl

-- the k-th example, counted from 0
abbrev pub kth_example : ℕ → ScreenedLines
kth_example k = get_or verdict_examples k (expects 0 0 [])

pub examples_hold : (k : ℕ) → k < 10 → screened small_form level (filed_lines (as_report (kth_example k).lines)) ≡ record { number = (kth_example k).number; place = (kth_example k).place }
examples_hold k h =
    let inside : k < length verdict_examples = omega (arith, h, example_count) in
    let past : Verdict = record { number = 0; place = 0 } in
    sym (get_d_map verdict_of verdict_examples k (expects 0 0 []) past inside)
    ∙ ap (λ (l : List Verdict). get_or l k past) computed.0
    ∙ get_d_map named_in verdict_examples k (expects 0 0 []) past inside

pub orders-refused : screened small_form level (filed_lines (as_orders sound_lines)) ≡ record { number = 30; place = 0 }
orders-refused = computed.1

pub cut-short-refused : screened small_form level (cut_short (filed_lines (as_report sound_lines))) ≡ record { number = 13; place = 0 }
cut-short-refused = computed.2
