-- What adding codes to an index gives (X2), and when it is refused (X3).
-- Assumes nothing.
use Rattle.std.specs.Prelude.{Bool, true, false, ◌||◌, List, [], ◌∷◌, ◌++◌, ◌≡◌, ℕ, suc, ◌-◌, leb, ltb, eqb, length, replicate, take, drop, get_or}
use Rattle.std.proofs.lemmas.List.Edits.{sets}
use Rattle.laws.specs.Lists.{same}
use Rattle.index.specs.Order.{comes_before}
use Rattle.index.specs.declared.finding.Found.{Found}
use Rattle.index.specs.Refusals.{long_code, full_index, full_count, no_index_number}
use Rattle.index.specs.Index.{Entry, entry_code, codes_most, code_most, counts_past, named_in, entries_in, roomy, names, count_of, codes_put, counts_put}
use Rattle.index.specs.inner.Halving.{sought_among}

-- a code as a place: its length, its bytes, and zeros behind them
unfoldable pub place_of_code : List ℕ → List ℕ
place_of_code c = length c ∷ (c ++ replicate (code_most - length c) 0)

-- no entry
abbrev pub nothing : Entry
nothing = record { place = []; count = 0 }

-- a new code, which has been counted once; an entry counted once more
abbrev pub new_entry : List ℕ → Entry
new_entry c = record { place = place_of_code c; count = 1 }

abbrev pub one_more : Entry → Entry
one_more e = record { place = e.place; count = suc e.count }

-- a code added: counted once more where it is named, else put before the first code that it is before
unfoldable pub code_added : List ℕ → List Entry → List Entry
code_added c [] = new_entry c ∷ []
code_added c (e ∷ es) =
    elim (same c (entry_code e)) [
      | true ↦ one_more e ∷ es
      | false ↦ elim (comes_before c (entry_code e)) [ true ↦ new_entry c ∷ e ∷ es | false ↦ e ∷ code_added c es ]
    ]

-- codes added one after the other
unfoldable pub added_all : List (List ℕ) → List Entry → List Entry
added_all [] es = es
added_all (c ∷ cs) es = added_all cs (code_added c es)

-- whether entries are more than an index has places for (51); whether a count is too large (52)
abbrev pub too_many : List Entry → Bool
too_many es = ltb codes_most (length es)

unfoldable pub too_large : List Entry → Bool
too_large [] = false
too_large (e ∷ es) = leb counts_past e.count || too_large es

-- what comes of adding one code to a lent index: a refusal, nothing, or entries
pub data Addition : Type 0 where
  declines : ℕ → Addition
  leaves : Addition
  gives : List Entry → Addition

-- by the place that halving comes to: the entry there once more, or a new one before it
unfoldable pub addition_at : List ℕ → List Entry → Found → Addition
addition_at c es f =
    elim f.named [
      | true ↦
          elim (leb counts_past (suc (get_or es f.at nothing).count)) [
            | true ↦ declines full_count
            | false ↦ gives (take f.at es ++ (one_more (get_or es f.at nothing) ∷ drop (suc f.at) es))
          ]
      | false ↦ elim (leb codes_most (length es)) [ true ↦ declines full_index | false ↦ gives (take f.at es ++ (new_entry c ∷ drop f.at es)) ]
    ]

-- the same by what the entries name and count, with no place at all: a theorem says that in a sound index this is what comes of it
unfoldable pub addition_of : List ℕ → List Entry → Addition
addition_of c es =
    elim (names es c) [
      | true ↦ elim (leb counts_past (suc (count_of es c))) [ true ↦ declines full_count | false ↦ gives (code_added c es) ]
      | false ↦ elim (leb codes_most (length es)) [ true ↦ declines full_index | false ↦ gives (code_added c es) ]
    ]

unfoldable pub addition : (c codes counts : List ℕ) → Addition
addition c codes counts =
    elim (roomy codes counts) [
      | true ↦
          elim (eqb (length c) 0) [
            | true ↦ leaves
            | false ↦
                elim (leb (length c) code_most) [
                  | true ↦ addition_at c (entries_in codes counts) (sought_among codes (named_in counts) c)
                  | false ↦ declines long_code
                ]
          ]
      | false ↦ declines no_index_number
    ]

-- its number, and what it leaves in a buffer whose front the entries fill
unfoldable pub addition_number : Addition → ℕ
addition_number (declines n) = n
addition_number leaves = 0
addition_number (gives es) = 0

unfoldable pub front_after : (List Entry → List ℕ) → List ℕ → Addition → List ℕ
front_after put buffer (declines n) = buffer
front_after put buffer leaves = buffer
front_after put buffer (gives es) = sets buffer 0 (put es)

-- the contract of adding a code
pub record AddsAs (c codes counts : List ℕ) (r : ℕ) (codes' counts' : List ℕ) : Type 0 where
  pub number : r ≡ addition_number (addition c codes counts)
  pub codes_left : codes' ≡ front_after codes_put codes (addition c codes counts)
  pub counts_left : counts' ≡ front_after counts_put counts (addition c codes counts)
