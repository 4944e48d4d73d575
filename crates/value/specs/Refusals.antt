-- The numbers that a text, a value or an order is refused with, by name (rules D3, D5 and D6).
-- Assumes nothing.
use Rattle.std.specs.Prelude.{ℕ}

abbrev pub not_a_number : ℕ
not_a_number = 20

abbrev pub many_digits : ℕ
many_digits = 21

abbrev pub out_of_range : ℕ
out_of_range = 22

abbrev pub narrow_output : ℕ
narrow_output = 23

abbrev pub not_an_order : ℕ
not_an_order = 24

abbrev pub little_room : ℕ
little_room = 25
