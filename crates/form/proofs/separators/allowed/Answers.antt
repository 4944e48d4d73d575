-- `separators::allowed` meets its contract: each return is one run of bytes.
-- Assumes nothing.
use Rattle.form.proofs.HeaderRule.{below_digits, digit_or_past, capital_or_past, small_letter, past_letters}
use Rattle.form.proofs.separators.allowed.Goals as goal

pub returns-then-b-lt48 : goal.returns-then-b-lt48
returns-then-b-lt48 c = below_digits c.args.b c.if-b-lt48.true

pub returns-then-b-lt65 : goal.returns-then-b-lt65
returns-then-b-lt65 c = digit_or_past c.args.b c.if-b-lt48.false c.if-b-lt65.true

pub returns-then-b-lt97 : goal.returns-then-b-lt97
returns-then-b-lt97 c = capital_or_past c.args.b c.if-b-lt65.false c.if-b-lt97.true

pub returns-then-b-le122 : goal.returns-then-b-le122
returns-then-b-le122 c = small_letter c.args.b c.if-b-lt97.false c.if-b-le122.true

pub returns : goal.returns
returns c = past_letters c.args.b c.if-b-le122.false
