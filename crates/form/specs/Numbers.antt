-- The numbers that come back, by name (rule N1, which says when each is given and with which place).
-- Assumes nothing.
use Rattle.std.specs.Prelude.{ℕ}

abbrev pub short_buffer : ℕ
short_buffer = 1

abbrev pub long_message : ℕ
long_message = 2

abbrev pub broken_header : ℕ
broken_header = 3

abbrev pub control_byte : ℕ
control_byte = 4

abbrev pub long_line : ℕ
long_line = 5

abbrev pub open_line : ℕ
open_line = 6

abbrev pub many_segments : ℕ
many_segments = 7

abbrev pub unknown_kind : ℕ
unknown_kind = 8

abbrev pub no_context : ℕ
no_context = 9

abbrev pub misplaced_kind : ℕ
misplaced_kind = 10

abbrev pub many_leaves : ℕ
many_leaves = 11

abbrev pub short_output : ℕ
short_output = 12

abbrev pub no_table_number : ℕ
no_table_number = 13
