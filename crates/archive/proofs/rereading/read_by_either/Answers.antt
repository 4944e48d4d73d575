-- `archive::rereading::read_by_either` meets its contract: the rows at the front of wide ones are tested as they would be by themselves.
-- Assumes nothing.
use mathlib.Core.Path.{sym, ◌∙◌}
use lib.ListN.{replicate}
use Rattle.form.specs.Forms.{small_form, limits_of}
use Rattle.archive.proofs.CountedRows.{read_now, read-once, room_for_segments, room_for_leaves}
use Rattle.archive.proofs.rereading.read_by_either.Goals as goal

pub put_numbers-requires : goal.put_numbers-requires
put_numbers-requires c = room_for_segments small_form c.args.card c.args.segments.now c.args.leaves.now c.args.text.now c.requires

pub put_numbers-requires-2 : goal.put_numbers-requires-2
put_numbers-requires-2 c = room_for_leaves small_form c.args.card c.args.segments.now c.args.leaves.now c.args.text.now c.requires

pub returns-then-is_table : goal.returns-then-is_table
unfolding limits_of
returns-then-is_table c =
    read_now small_form c.args.card c.args.segments.now c.args.leaves.now c.args.text.now c.requires (replicate 1024 0) (replicate 14336 0)
    c.put_numbers.ensures c.put_numbers-2.ensures
    (room_for_segments small_form c.args.card c.args.segments.now c.args.leaves.now c.args.text.now c.requires)
    (room_for_leaves small_form c.args.card c.args.segments.now c.args.leaves.now c.args.text.now c.requires)
    (sym c.is_table.ensures ∙ c.if-is_table.true)

pub returns-else-is_table : goal.returns-else-is_table
unfolding limits_of
returns-else-is_table c =
    read-once small_form c.args.card c.args.segments.now c.args.leaves.now c.args.text.now c.requires (replicate 1024 0) (replicate 14336 0)
    c.put_numbers.ensures c.put_numbers-2.ensures
    (room_for_segments small_form c.args.card c.args.segments.now c.args.leaves.now c.args.text.now c.requires)
    (room_for_leaves small_form c.args.card c.args.segments.now c.args.leaves.now c.args.text.now c.requires)
    (sym c.is_table.ensures ∙ c.if-is_table.false) c.is_former_table.ensures
