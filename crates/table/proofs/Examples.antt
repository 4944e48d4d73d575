-- The worked examples K1 to K12 hold of the definitions, in both forms: one list, one theorem, closed by computation.
-- Assumes nothing.
use mathlib.Core.List.{map}
use mathlib.Core.Path.{◌≡◌, refl}
use Rattle.laws.specs.Lists.{same, among, count, concat, numbered, first_from}
use Rattle.laws.specs.Texts.{bytes}
use Rattle.laws.specs.Tables.{values}
use Rattle.form.specs.declared.forms.Form.{Form}
use Rattle.form.specs.declared.forms.Form.TheVariants.{Small, Large}
use Rattle.form.specs.Forms.{limits_of}
use Rattle.form.specs.Limits.{line_count, rounded_up}
use Rattle.form.specs.Header.{within, allowed, all_allowed, different, separators_of, five, splitting, sound_header, header_of}
use Rattle.form.specs.Names.{kind_names, context_names, number_among, kind_of, context_of}
use Rattle.line.specs.Lines.{inside, walk_from, walk, texts, fault_number, fault_place}
use Rattle.line.specs.Joining.{addendum, carried, joined}
use Rattle.line.specs.Cutting.{pieces, addenda, cut, cuts, unlines}
use Rattle.order.specs.Contexts.{segment, H, P, AP, AC, OBR, OBX, FAC, REG, ACT, ERR, L, orders, cover, invoices, bodies, message_shape, grammar}
use Rattle.order.specs.inner.Place.{empties, told, row_told, rows_told, row_empties, rows_empty, place_from, misplaced}
use Rattle.order.specs.Owners.{levels, level, nearest, is_c, owner, owners_after, owners}
use Rattle.table.specs.Leaves.{onto, split, leaves, segment_leaves, header_leaves, leaves_from, message_leaves, kind_of_segment, context_of_header}
use Rattle.table.specs.Rows.{segment_rows_from, leaf_rows_from, text_of, kinds_of, context_in, all_leaves, table_of}
use Rattle.table.specs.Reading.{refuse_if, refuse_at, stated, short, first_unknown, judged, of_message, reading}
use Rattle.table.specs.inner.Back.{leaf_at, leaves_of, separators_at, between, unsplit_from, unsplit, segments_of, lines_of, written}
use Rattle.table.specs.Examples.{Example, says, read, filed, examples, k1, k5, k6, k10, k11, k12}

-- reading each message gives what the example says
pub examples_hold : (f : Form) → map (λ (e : Example). read f e.message) examples ≡ map (λ (e : Example). e.expected) examples
unfolding same among count concat numbered first_from bytes values line_count rounded_up within allowed all_allowed different separators_of five splitting
    sound_header header_of kind_names context_names number_among kind_of context_of inside walk_from walk texts fault_number fault_place addendum carried
    joined pieces addenda cut cuts unlines segment H P AP AC OBR OBX FAC REG ACT ERR L orders cover invoices bodies message_shape grammar empties told
    row_told rows_told row_empties rows_empty place_from misplaced levels level nearest is_c owner owners_after owners onto split leaves segment_leaves
    header_leaves leaves_from message_leaves kind_of_segment context_of_header segment_rows_from leaf_rows_from text_of kinds_of context_in all_leaves table_of
    refuse_if refuse_at short first_unknown judged of_message reading leaf_at leaves_of separators_at between unsplit_from unsplit segments_of lines_of
    written says stated read limits_of filed examples k1 k5 k6 k10 k11 k12
examples_hold Small = refl
examples_hold Large = refl
