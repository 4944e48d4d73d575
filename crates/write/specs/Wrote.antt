-- What an accepted call of the writer says of the output (rules W1 to W3).
-- Assumes nothing.
use Rattle.std.specs.Prelude.{List, ◌≡◌, ℕ, ◌≤◌, length, take, drop}
use Rattle.laws.specs.Every.{All}
use Rattle.form.specs.declared.limits.Limits.{Limits}
use Rattle.line.specs.Lines.{walk, texts}
use Rattle.line.specs.Joining.{joined}
use Rattle.line.specs.Cutting.{cuts}
use Rattle.table.specs.Lent.{Lent, counted}
use Rattle.table.specs.Reading.{accepted, reading, stated}
use Rattle.write.specs.declared.Written.{Written}

-- the bytes at the front read to the lent table; they are as many lines as the answer counts, none too long, and each filled before the next
-- begins, as W1 cuts the joined segments; the rest is as it was (W3)
pub record WroteTable (L : Limits) (levels : ℕ → ℕ → ℕ) (table : Lent) (output : List ℕ) (r : Written) (output' : List ℕ) : Type 0 where
  pub reads : reading L levels (stated L) (take r.bytes output') ≡ accepted (counted table)
  pub lines : r.lines ≡ length (texts (walk L (take r.bytes output')))
  pub short : All (λ (t : List ℕ). length t ≤ L.line) (texts (walk L (take r.bytes output')))
  pub filled : texts (walk L (take r.bytes output'))
      ≡ cuts L table.card.separator (joined table.card.separator (texts (walk L (take r.bytes output'))))
  pub rest : drop r.bytes output' ≡ drop r.bytes output
