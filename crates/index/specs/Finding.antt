-- The place of a code in a lent index (X4), and what the planner asks of one.
-- Assumes nothing.
use Rattle.std.specs.Prelude.{true, false, ◌&&◌, List, ℕ, suc, ◌+◌, ◌*◌, ◌-◌, leb, length, get_or}
use Rattle.index.specs.declared.finding.Found.{Found}
use Rattle.index.specs.declared.asking.Codes.{Codes}
use Rattle.index.specs.declared.asking.Codes.TheVariants as C
use Rattle.index.specs.declared.asking.Count.{Count}
use Rattle.index.specs.declared.asking.Count.TheVariants as N
use Rattle.index.specs.declared.asking.Code.{Code}
use Rattle.index.specs.declared.asking.Code.TheVariants as K
use Rattle.index.specs.Index.{code_most, place_size, named_in, roomy}
use Rattle.index.specs.inner.Halving.{sought_among, missing_at}
use Rattle.index.specs.inner.Rising.{length_at}

-- the place that halving comes to; none where nothing can be found
unfoldable pub place_found : (codes counts code : List ℕ) → Found
place_found codes counts code =
    elim (roomy codes counts && leb (length code) code_most) [ true ↦ sought_among codes (named_in counts) code | false ↦ missing_at 0 ]

-- how many codes are named
unfoldable pub codes_asked : (codes counts : List ℕ) → Codes
codes_asked codes counts = elim (roomy codes counts) [ true ↦ C.Named (named_in counts) | false ↦ C.NoIndex ]

-- the count of a code, by the place that is found
unfoldable pub count_at : List ℕ → Found → Count
count_at counts f = elim f.named [ true ↦ N.Times (get_or counts (suc f.at) 0) | false ↦ N.NotNamed ]

unfoldable pub count_asked : (codes counts code : List ℕ) → Count
count_asked codes counts code = elim (roomy codes counts) [ true ↦ count_at counts (place_found codes counts code) | false ↦ N.NoIndex ]

-- the k-th code, counted from 1: where it begins, its length, its count; a place with another length than 1 to 22 is none of an index
unfoldable pub code_asked : (codes counts : List ℕ) → ℕ → Code
code_asked codes counts k =
    elim (roomy codes counts) [
      | true ↦
          elim (leb 1 k && leb k (named_in counts)) [
            | true ↦
                elim (leb 1 (length_at codes (k - 1)) && leb (length_at codes (k - 1)) code_most) [
                  | true ↦ K.At ((k - 1) * place_size + 1) (length_at codes (k - 1)) (get_or counts k 0)
                  | false ↦ K.NoIndex
                ]
            | false ↦ K.NotNamed
          ]
      | false ↦ K.NoIndex
    ]

-- the number of an answer: 1 where it is there, 0 where not, 53 where what is lent is no index
unfoldable pub codes_number : Codes → ℕ
codes_number (C.Named n) = 1
codes_number C.NoIndex = 53

unfoldable pub count_number : Count → ℕ
count_number (N.Times n) = 1
count_number N.NotNamed = 0
count_number N.NoIndex = 53

unfoldable pub code_number : Code → ℕ
code_number (K.At start n times) = 1
code_number K.NotNamed = 0
code_number K.NoIndex = 53
