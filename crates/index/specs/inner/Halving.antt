-- Finding a code's place by halving (X4). Each step compares the code with one that is named; ten steps do for 512 codes.
-- Assumes nothing.
use Rattle.std.specs.Prelude.{true, false, List, ℕ, zero, suc, ◌+◌, ◌*◌, ◌/◌, ltb, get_or, drop}
use Rattle.index.specs.declared.code.Compared.{Compared}
use Rattle.index.specs.declared.code.Compared.TheVariants.{Before, Same, After}
use Rattle.index.specs.declared.finding.Found.{Found}
use Rattle.index.specs.inner.Comparing.{compared}
use Rattle.index.specs.Index.{place_size}

-- the code beside the one at place i of the codes
abbrev pub compared_at : (codes code : List ℕ) → ℕ → Compared
compared_at codes code i = compared code (get_or codes (i * place_size) 0) (drop (i * place_size + 1) codes)

-- found at a place; or not named, and it would stand there
abbrev pub stands_at : ℕ → Found
stands_at i = record { at = i; named = true }

abbrev pub missing_at : ℕ → Found
missing_at i = record { at = i; named = false }

-- from `low` up to `high`, with at most so many comparisons
unfoldable pub halved : (comparisons : ℕ) (codes code : List ℕ) (low high : ℕ) → Found
halved zero codes code low high = missing_at low
halved (suc n) codes code low high =
    elim (ltb low high) [
      | true ↦
          elim (compared_at codes code ((low + high) / 2)) [
            | Before ↦ halved n codes code low ((low + high) / 2)
            | Same ↦ stands_at ((low + high) / 2)
            | After ↦ halved n codes code ((low + high) / 2 + 1) high
          ]
      | false ↦ missing_at low
    ]

-- among all that are named
unfoldable pub sought_among : (codes : List ℕ) (named : ℕ) (code : List ℕ) → Found
sought_among codes named code = halved 10 codes code 0 named
