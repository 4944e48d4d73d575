-- The index by analysis code (X1): what stands in the two lent buffers, and when they are an index.
-- Assumes nothing.
use Rattle.std.specs.Prelude.{Bool, true, false, ◌&&◌, List, [], ◌∷◌, map, ℕ, suc, ◌*◌, leb, length, take, drop, get_or}
use Rattle.laws.specs.Lists.{same, concat}
use Rattle.laws.specs.Tables.{values}
use Rattle.index.specs.Order.{comes_before}

-- how many codes an index has places for; the longest code; a place: the length of its code, and room for the longest
abbrev pub codes_most : ℕ
codes_most = 512

abbrev pub code_most : ℕ
code_most = 22

abbrev pub place_size : ℕ
place_size = 23

-- every count is below this: it is 32 bits wide
abbrev pub counts_past : ℕ
counts_past = 4294967296

-- a place with its count
pub record Entry : Type 0 where
  pub place : List ℕ
  pub count : ℕ

-- the length that stands in a place, and its code: so many of the bytes behind it
abbrev pub length_of : Entry → ℕ
length_of e = get_or e.place 0 0

abbrev pub entry_code : Entry → List ℕ
entry_code e = take (length_of e) (drop 1 e.place)

-- of the two buffers: how many codes are named, and what stands at place i, counted from 0
abbrev pub named_in : List ℕ → ℕ
named_in counts = get_or counts 0 0

abbrev pub entry_at : (codes counts : List ℕ) → ℕ → Entry
entry_at codes counts i = record { place = take place_size (drop (i * place_size) codes); count = get_or counts (suc i) 0 }

-- the entries: what stands at the places that are named
unfoldable pub entries_in : (codes counts : List ℕ) → List Entry
entries_in codes counts = values (entry_at codes counts) 0 (named_in counts)

-- long enough for 512 codes, and naming no more
unfoldable pub roomy : (codes counts : List ℕ) → Bool
roomy codes counts =
    leb (codes_most * place_size) (length codes) && leb (suc codes_most) (length counts) && leb (named_in counts) codes_most

-- codes of 1 to 22 bytes, each before the next; `last` is before the first of them
unfoldable pub rises_after : List ℕ → List Entry → Bool
rises_after last [] = true
rises_after last (e ∷ es) = leb 1 (length_of e) && leb (length_of e) code_most && comes_before last (entry_code e) && rises_after (entry_code e) es

-- every code is behind the empty one, which is none
abbrev pub rises : List Entry → Bool
rises es = rises_after [] es

-- whether what is lent is an index
unfoldable pub sound_index : (codes counts : List ℕ) → Bool
sound_index codes counts = roomy codes counts && rises (entries_in codes counts)

-- what an index names, and what it counts for a code: 0 for one that it does not name
unfoldable pub names : List Entry → List ℕ → Bool
names [] c = false
names (e ∷ es) c = elim (same c (entry_code e)) [ true ↦ true | false ↦ names es c ]

unfoldable pub count_of : List Entry → List ℕ → ℕ
count_of [] c = 0
count_of (e ∷ es) c = elim (same c (entry_code e)) [ true ↦ e.count | false ↦ count_of es c ]

-- what entries put at the front of the two buffers
unfoldable pub codes_put : List Entry → List ℕ
codes_put es = concat (map (λ (e : Entry). e.place) es)

unfoldable pub counts_put : List Entry → List ℕ
counts_put es = length es ∷ map (λ (e : Entry). e.count) es
