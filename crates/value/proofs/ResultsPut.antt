-- The answers of an order's results: how many there are, and how they are put, one in each turn of a loop.
-- Assumes nothing.
use mathlib.Core.List.{List, [], ◌∷◌, map}
use mathlib.Core.Path.{◌≡◌, refl, sym, ap, ◌∙◌, subst⁻¹}
use Prim.Native.Nat.{ℕ, suc, ◌+◌, ◌-◌, ◌≤◌}
use native.Mathlib.Numerals.{add-one}
use native.Mathlib.Omega.{arith}
use lib.IntN.{ℤ}
use lib.ListN.{length, set, length-set}
use lib.Seq.{sets}
use Rattle.laws.proofs.Stores.{sets_first}
use Rattle.laws.specs.Tables.{passing}
use Rattle.laws.proofs.Passing.{FirstPassed, length-passing}
use Rattle.table.specs.Lent.{Lent}
use Rattle.value.specs.Numerals.{Numeral}
use Rattle.value.specs.declared.reading.Value.{Value}
use Rattle.value.specs.Values.{with_sign, value_of}
use Rattle.value.specs.Results.{value_field, is_numeric, numeric_rows, of_field, leaf_text_in, one_leaf, value_at}
use Rattle.value.specs.inner.Seeking.{leaf_says, result_of, OrderRows, PutValues}
use Rattle.value.proofs.NumberParts.{Small, none_small, numeral_small}
use Rattle.value.proofs.NumericRows.{from_the_order}

-- what a result says is small, as what any text says
one_small : (most : ℕ) (t : Lent) (rows : List ℕ) → Small most (leaf_says most t rows)
unfolding leaf_says
one_small most t [] = none_small most
one_small most t (i ∷ []) = numeral_small most (leaf_text_in t.leaf_rows t.text i)
one_small most t (i ∷ j ∷ rows) = none_small most

pub result_small : (most : ℕ) (t : Lent) (i : ℕ) {n : Numeral} → n ≡ result_of most t i → Small most n
unfolding result_of
result_small most t i e = subst⁻¹ (Small most) e (one_small most t (passing (of_field t.leaf_rows (suc i) value_field) 0 t.card.leaves))

-- the results of an order that are left from a row on
module _ (t : Lent) (order : ℕ) where
  abbrev pub results_left : ℕ → List ℕ
  results_left from = passing (is_numeric t order) from (t.card.segments - from)

  -- a loop over them, before its turn from a row on, that has counted so many
  pub record ResultsSeen (from count : ℕ) : Type 0 where
    pub behind : order ≤ from
    pub within : from ≤ t.card.segments
    pub few : count ≤ from
    pub rest : count + length (results_left from) ≡ length (numeric_rows t order)

  pub seen-begins : OrderRows t order → ResultsSeen order 0
  seen-begins rows =
      record { behind = omega arith; within = rows.counts; few = omega arith; rest = omega (arith, ap length (from_the_order t order rows)) }

  module _ {from count : ℕ} (s : ResultsSeen from count) where
    module _ {row : ℕ} (first : FirstPassed (is_numeric t order) from t.card.segments row) where
      left_is : results_left from ≡ row ∷ results_left (row + 1)
      left_is = first.rest ∙ ap (λ (n : ℕ). row ∷ passing (is_numeric t order) n (t.card.segments - n)) (sym (add-one row))

      pub one_left : suc count ≤ length (numeric_rows t order)
      one_left = omega (arith, s.rest, ap length left_is)

      pub seen_on : ResultsSeen (row + 1) (count + 1)
      seen_on =
          record {
            behind = omega (arith, s.behind, first.later);
            within = omega (arith, first.within);
            few = omega (arith, s.few, first.later);
            rest = omega (arith, s.rest, ap length left_is);
          }

    pub seen_done : results_left from ≡ [] → count ≡ length (numeric_rows t order)
    seen_done e = omega (arith, s.rest, ap length e)

-- an order has at most as many results as rows stand behind it
pub results-few : (t : Lent) (order : ℕ) → OrderRows t order → length (numeric_rows t order) ≤ t.card.segments - order
results-few t order rows =
    omega (arith, ap length (from_the_order t order rows), length-passing (is_numeric t order) order (t.card.segments - order))

-- the value of a row is what it says with the sign put on
leaf-value : (most : ℕ) (t : Lent) (rows : List ℕ) → with_sign (leaf_says most t rows) ≡ one_leaf most t rows
unfolding leaf_says one_leaf value_of
leaf-value most t [] = refl
leaf-value most t (i ∷ []) = refl
leaf-value most t (i ∷ j ∷ rows) = refl

result_value : (most : ℕ) (t : Lent) (i : ℕ) → with_sign (result_of most t i) ≡ value_at most t i
unfolding result_of value_at
result_value most t i = leaf-value most t (passing (of_field t.leaf_rows (suc i) value_field) 0 t.card.leaves)

-- one part of the answers, in its buffer: what is left to put gives the whole
module _ {A : Type 0} (part : Value → A) (answer : ℕ → Value) (all : List ℕ) (buffer₀ : List A) where
  pub record Putting (left : List ℕ) (buffer : List A) (count : ℕ) : Type 0 where
    pub kept : length buffer ≡ length buffer₀
    pub rest : sets buffer count (map part (map answer left)) ≡ sets buffer₀ 0 (map part (map answer all))

  pub putting_begins : (left : List ℕ) → all ≡ left → Putting left buffer₀ 0
  putting_begins left e = record { kept = refl; rest = ap (λ (rows : List ℕ). sets buffer₀ 0 (map part (map answer rows))) (sym e) }

  module _ {left : List ℕ} {buffer : List A} {count : ℕ} (p : Putting left buffer count) where
    pub putting_on : (row : ℕ) (later : List ℕ) → left ≡ row ∷ later → {x : A} → x ≡ part (answer row) → Putting later (set buffer count x) (count + 1)
    putting_on row later e {x} is =
        record {
          kept = length-set buffer count x ∙ p.kept;
          rest =
              sym (sets_first buffer count x (map part (map answer later)))
              ∙ ap (λ (a : A). sets buffer count (a ∷ map part (map answer later))) is
              ∙ ap (λ (rows : List ℕ). sets buffer count (map part (map answer rows))) (sym e)
              ∙ p.rest;
        }

    pub putting_done : left ≡ [] → buffer ≡ sets buffer₀ 0 (map part (map answer all))
    putting_done e = ap (λ (rows : List ℕ). sets buffer count (map part (map answer rows))) (sym e) ∙ p.rest

-- all three parts of the answers of an order, before a turn from a row on that has put so many
module _ (most : ℕ) (t : Lent) (order : ℕ) (numbers₀ : List ℕ) (wholes₀ : List ℤ) (decimals₀ : List ℕ) where
  pub record Answering (numbers : List ℕ) (wholes : List ℤ) (decimals : List ℕ) (count from : ℕ) : Type 0 where
    pub seen : ResultsSeen t order from count
    pub numbers-put : Putting (λ (v : Value). v.number) (value_at most t) (numeric_rows t order) numbers₀ (results_left t order from) numbers count
    pub wholes_put : Putting (λ (v : Value). v.whole) (value_at most t) (numeric_rows t order) wholes₀ (results_left t order from) wholes count
    pub decimals-put : Putting (λ (v : Value). v.decimals) (value_at most t) (numeric_rows t order) decimals₀ (results_left t order from) decimals count

  pub answering_begins : OrderRows t order → Answering numbers₀ wholes₀ decimals₀ 0 order
  answering_begins rows =
      let all = from_the_order t order rows in
      record {
        seen = seen-begins t order rows;
        numbers-put = putting_begins (λ (v : Value). v.number) (value_at most t) (numeric_rows t order) numbers₀ (results_left t order order) all;
        wholes_put = putting_begins (λ (v : Value). v.whole) (value_at most t) (numeric_rows t order) wholes₀ (results_left t order order) all;
        decimals-put = putting_begins (λ (v : Value). v.decimals) (value_at most t) (numeric_rows t order) decimals₀ (results_left t order order) all;
      }

  module _ {numbers : List ℕ} {wholes : List ℤ} {decimals : List ℕ} {count from : ℕ} (s : Answering numbers wholes decimals count from) where
    -- one more answer, that of the first row that is left
    pub answering_on : {row : ℕ} → FirstPassed (is_numeric t order) from t.card.segments row → {v : Value} → v ≡ with_sign (result_of most t row)
        → {whole : ℤ} → whole ≡ v.whole
        → Answering (set numbers count v.number) (set wholes count whole) (set decimals count v.decimals) (count + 1) (row + 1)
    answering_on {row} first said bits =
        let left = left_is t order s.seen first in
        let is = said ∙ result_value most t row in
        record {
          seen = seen_on t order s.seen first;
          numbers-put =
              putting_on (λ (v : Value). v.number) (value_at most t) (numeric_rows t order) numbers₀ s.numbers-put row (results_left t order (row + 1)) left
              (ap (λ (v : Value). v.number) is);
          wholes_put =
              putting_on (λ (v : Value). v.whole) (value_at most t) (numeric_rows t order) wholes₀ s.wholes_put row (results_left t order (row + 1)) left
              (bits ∙ ap (λ (v : Value). v.whole) is);
          decimals-put =
              putting_on (λ (v : Value). v.decimals) (value_at most t) (numeric_rows t order) decimals₀ s.decimals-put row (results_left t order (row + 1)) left
              (ap (λ (v : Value). v.decimals) is);
        }

    pub answering_done : results_left t order from ≡ [] → PutValues most t order numbers₀ wholes₀ decimals₀ count numbers wholes decimals
    answering_done e =
        record {
          counted = seen_done t order s.seen e;
          numbers-put = putting_done (λ (v : Value). v.number) (value_at most t) (numeric_rows t order) numbers₀ s.numbers-put e;
          wholes_put = putting_done (λ (v : Value). v.whole) (value_at most t) (numeric_rows t order) wholes₀ s.wholes_put e;
          decimals-put = putting_done (λ (v : Value). v.decimals) (value_at most t) (numeric_rows t order) decimals₀ s.decimals-put e;
        }
