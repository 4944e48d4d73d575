-- The numbers of a verdict (rule R5): what is no report, and the first of the rules.
-- Assumes nothing.
use Rattle.std.specs.Prelude.{ℕ}

-- the message is no ORU
abbrev pub not_a_report : ℕ
not_a_report = 30

-- the first rule has this number, and each next one the next
abbrev pub first_rule : ℕ
first_rule = 31
