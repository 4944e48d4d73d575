-- Counting the codes of an accepted message in a copy of the index (X2, X3), row by row.
-- Assumes nothing.
use Rattle.std.specs.Prelude.{true, false, List, [], map, ◌≡◌, ℕ, ◌+◌, ◌≤◌, ◌<◌, eqb, min, length, get_or, Option, None, Some, Result, Ok, Err}
use Rattle.form.specs.declared.limits.Limits.{Limits}
use Rattle.form.specs.declared.separators.Separators.{Separators}
use Rattle.index.specs.Refusals.{long_code, full_index, full_count}
use Rattle.index.specs.Index.{Entry, code_most, entries_in, roomy, sound_index}
use Rattle.index.specs.Adding.{added_all, too_many, too_large, AddsAs}
use Rattle.read.specs.declared.census.Census.{Census}
use Rattle.read.specs.declared.refused.Refused.{Refused}
use Rattle.read.specs.Codes.{code_carried, codes_counted, first_long}
use Rattle.read.specs.Sound.{segments_in}
use Rattle.read.specs.inner.Filling.{Fillable}
use Rattle.read.specs.inner.Noting.{Started}

-- what each segment of a message carries, under separators
abbrev pub carried_in : Limits → Separators → List ℕ → List (List ℕ)
carried_in L ps message = map (code_carried ps) (segments_in L ps message)

-- what counting asks: an accepted message of so many segments, whose kinds and starts are noted, and a sound index
pub record Countable (L : Limits) (class kinds starts : List ℕ) (ps : Separators) (context : ℕ) (message : List ℕ) (rows : ℕ) (codes counts : List ℕ) : Type 0 where
  pub given : Fillable L class kinds ps context message
  pub bytes : (i : ℕ) → get_or message i 0 < 256
  pub begun : Started L ps message rows starts
  pub rows_are : rows ≡ length (segments_in L ps message)
  pub room : rows ≤ length starts
  pub sound : sound_index codes counts ≡ true

-- the number of tests 50 to 52 on the index alone, and its place
unfoldable pub census_number : List (List ℕ) → List Entry → ℕ
census_number cs es =
    elim (eqb (first_long cs) 0) [
      | true ↦ elim (too_many es) [ true ↦ full_index | false ↦ elim (too_large es) [ true ↦ full_count | false ↦ 0 ] ]
      | false ↦ long_code
    ]

-- the lowest number of refusal so far, and one more number, 0 standing for none there
unfoldable pub lower_of : Option ℕ → ℕ → Option ℕ
lower_of None other = elim (eqb other 0) [ true ↦ None | false ↦ Some other ]
lower_of (Some number) other = elim (eqb other 0) [ true ↦ Some number | false ↦ Some (min number other) ]

-- what the segment of a number carries
abbrev pub carried_by : Limits → Separators → List ℕ → ℕ → List ℕ
carried_by L ps message row = code_carried ps (get_or (segments_in L ps message) row [])

-- what counting one row asks: it is one of the message's
pub record RowAhead (L : Limits) (class kinds starts : List ℕ) (ps : Separators) (context : ℕ) (message : List ℕ) (row : ℕ) (census : Census) (code : List ℕ) : Type 0 where
  pub given : Fillable L class kinds ps context message
  pub bytes : (i : ℕ) → get_or message i 0 < 256
  pub begun : Started L ps message (length (segments_in L ps message)) starts
  pub within : row < length (segments_in L ps message)
  pub room : length (segments_in L ps message) ≤ length starts
  pub few : census.results ≤ row
  pub code_room : code_most ≤ length code

-- what comes of it, by the code c that the row carries
pub data RowCounted (c : List ℕ) (row : ℕ) (census : Census) (codes counts : List ℕ) (r : Result Census Refused) (codes' counts' : List ℕ) : Type 0 where
  passed_over : length c ≡ 0 → r ≡ Ok census → codes' ≡ codes → counts' ≡ counts → RowCounted c row census codes counts r codes' counts'
  long : code_most < length c → r ≡ Err (record { number = long_code; place = row + 1 }) → RowCounted c row census codes counts r codes' counts'
  tried : 1 ≤ length c → length c ≤ code_most → (number : ℕ) → AddsAs c codes counts number codes' counts'
      → r ≡ Ok (record { refused = lower_of census.refused number; results = census.results + 1 }) → RowCounted c row census codes counts r codes' counts'

-- what counting gives: a refusal by its number, at its place; or how many codes were counted, and an index with them
pub data CensusOf (cs : List (List ℕ)) (es : List Entry) (r : Result ℕ Refused) (codes' counts' : List ℕ) : Type 0 where
  uncounted : (census_number cs (added_all (codes_counted cs) es) ≡ 0 → ⊥)
      → r ≡ Err (record { number = census_number cs (added_all (codes_counted cs) es); place = first_long cs }) → CensusOf cs es r codes' counts'
  all_counted : census_number cs (added_all (codes_counted cs) es) ≡ 0 → r ≡ Ok (length (codes_counted cs))
      → roomy codes' counts' ≡ true → entries_in codes' counts' ≡ added_all (codes_counted cs) es → CensusOf cs es r codes' counts'
