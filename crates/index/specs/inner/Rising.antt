-- Whether the codes rise (X1), place by place, as a loop asks.
-- Assumes nothing.
use Rattle.std.specs.Prelude.{Bool, true, false, ◌&&◌, List, ℕ, zero, suc, ◌+◌, ◌*◌, leb, take, drop, get_or}
use Rattle.index.specs.declared.code.Compared.{Compared}
use Rattle.index.specs.declared.code.Compared.TheVariants.{Before, Same, After}
use Rattle.index.specs.Index.{code_most, place_size}
use Rattle.index.specs.inner.Comparing.{compared}

-- the length at place i
abbrev pub length_at : List ℕ → ℕ → ℕ
length_at codes i = get_or codes (i * place_size) 0

-- whether a length is a code's
unfoldable pub is_length : ℕ → Bool
is_length n = leb 1 n && leb n code_most

-- whether a code is behind the other
unfoldable pub is_behind : Compared → Bool
is_behind Before = false
is_behind Same = false
is_behind After = true

-- the code at the place that begins at `at`
abbrev pub code_from : List ℕ → ℕ → List ℕ
code_from codes at = take (get_or codes at 0) (drop (at + 1) codes)

-- whether the code at the place behind that one may stand there; whether those at n places behind it may
unfoldable pub follows_at : List ℕ → ℕ → Bool
follows_at codes at =
    is_length (get_or codes (at + place_size) 0)
    && is_behind (compared (code_from codes (at + place_size)) (get_or codes at 0) (drop (at + 1) codes))

unfoldable pub rises_from : List ℕ → (at n : ℕ) → Bool
rises_from codes at zero = true
rises_from codes at (suc n) = follows_at codes at && rises_from codes (at + place_size) n

-- whether n codes may stand from the first place on
unfoldable pub all_rise : List ℕ → ℕ → Bool
all_rise codes zero = true
all_rise codes (suc n) = is_length (get_or codes 0 0) && rises_from codes 0 n
