-- Counting the codes of the rows up to the next patient (R2): the turns of the loop.
-- Assumes nothing.
use mathlib.Core.List.{List}
use mathlib.Core.Logic.{◌⊎◌, inl, inr}
use mathlib.Core.Path.{◌≡◌, sym, ap, ◌∙◌}
use Prim.Native.Nat.{ℕ, suc, ◌+◌, ◌-◌, ◌≤◌, ◌<◌}
use native.Mathlib.Numerals.{add-one}
use native.Mathlib.Omega.{arith}
use borrow.Author.Tests.{eq-eqb, ne_eqb}
use Rattle.std.specs.Prelude.{Some}
use lib.Dec.{eqb}
use lib.ListN.{length, get_or, set, length-set}
use lib.Seq.{get_or-set_same, get_or-set_other}
use Rattle.laws.specs.Tables.{passing}
use Rattle.laws.proofs.Cases.{equal_or_not}
use Rattle.laws.proofs.Passing.{passing_hit, passing_miss, length-passing, Passing, passing_on, passing-found, passing-done}
use Rattle.table.specs.Lent.{Lent}
use Rattle.table.specs.Rows.{kind_in}
use Rattle.look.specs.Looking.{patient_kind}
use Rattle.screen.specs.Meeting.{has_kind}
use Rattle.screen.specs.declared.codes.Code.{Code}
use Rattle.screen.specs.declared.codes.Code.TheVariants.{Pays, Typor, Pross, Finge}
use Rattle.screen.specs.inner.Codes.{code_number}
use Rattle.screen.specs.inner.Counting.{code_count, code_in, next_patient, count_between, CodesCounted}
use Rattle.laws.proofs.Passing.{first_bounds}

-- the place of a code is one of the four
pub code_placed : (code : Code) → code_number (Some code) < code_count
code_placed Pays = omega arith
code_placed Typor = omega arith
code_placed Pross = omega arith
code_placed Finge = omega arith

module _ (t : Lent) (from : ℕ) where
  -- before the turn at i: no patient came yet, and what is counted with what is left gives the whole, of each code
  pub record CountingCodes (counts : List ℕ) (i : ℕ) : Type 0 where
    pub sought : Passing (has_kind t patient_kind) from t.card.segments i
    pub size : length counts ≡ code_count
    pub each : (k : ℕ) → k < code_count → get_or counts k 0 + count_between t k i (next_patient t from) ≡ count_between t k from (next_patient t from)

  module _ {counts : List ℕ} {i : ℕ} (w : CountingCodes counts i) where
    -- where the next patient stands, or at the last row, nothing is left
    counted_at : i ≡ next_patient t from → CodesCounted t from counts
    counted_at e =
        record {
          size = w.size;
          each = λ k l. let none : count_between t k i (next_patient t from) ≡ 0 = omega (arith, e, length-passing (λ j. eqb (code_in t j) k) i (next_patient t from - i)) in
              omega (arith, w.each k l, none);
        }

    pub counted_patient : i < t.card.segments → kind_in t.segment_rows i ≡ patient_kind → CodesCounted t from counts
    counted_patient h e = counted_at (passing-found (has_kind t patient_kind) w.sought h (eq-eqb (kind_in t.segment_rows i) patient_kind e))

    pub counted-all : t.card.segments ≤ i → CodesCounted t from counts
    counted-all h =
        let past : i ≡ t.card.segments = omega (arith, h, w.sought.within) in
        counted_at (past ∙ passing-done (has_kind t patient_kind) w.sought h)

    -- a row that is no patient's: its code is counted
    module _ (h : i < t.card.segments) (other : kind_in t.segment_rows i ≡ patient_kind → ⊥) where
      sought_on : Passing (has_kind t patient_kind) from t.card.segments (i + 1)
      sought_on = passing_on (has_kind t patient_kind) w.sought h (ne_eqb (kind_in t.segment_rows i) patient_kind other)

      before-next : i + 1 ≤ next_patient t from
      before-next = omega (arith, sought_on.rest, (first_bounds (has_kind t patient_kind) (i + 1) t.card.segments (omega arith)).0)

      -- what is left from here on is one more where the row has the code
      left_hit : (k : ℕ) → code_in t i ≡ k → count_between t k i (next_patient t from) ≡ suc (count_between t k (i + 1) (next_patient t from))
      left_hit k e =
          ap (λ (n : ℕ). length (passing (λ j. eqb (code_in t j) k) i n)) (let q : next_patient t from - i ≡ suc (next_patient t from - (i + 1)) = omega (arith, before-next) in q)
          ∙ ap length (passing_hit (λ j. eqb (code_in t j) k) i (next_patient t from - (i + 1)) (eq-eqb (code_in t i) k e))
          ∙ ap (λ (n : ℕ). suc (length (passing (λ j. eqb (code_in t j) k) n (next_patient t from - (i + 1))))) (sym (add-one i))

      left_miss : (k : ℕ) → (code_in t i ≡ k → ⊥) → count_between t k i (next_patient t from) ≡ count_between t k (i + 1) (next_patient t from)
      left_miss k n =
          ap (λ (m : ℕ). length (passing (λ j. eqb (code_in t j) k) i m)) (let q : next_patient t from - i ≡ suc (next_patient t from - (i + 1)) = omega (arith, before-next) in q)
          ∙ ap length (passing_miss (λ j. eqb (code_in t j) k) i (next_patient t from - (i + 1)) (ne_eqb (code_in t i) k n))
          ∙ ap (λ (m : ℕ). length (passing (λ j. eqb (code_in t j) k) m (next_patient t from - (i + 1)))) (sym (add-one i))

      -- a row without a code leaves the counts
      pub counting_none : code_count ≡ code_in t i → CountingCodes counts (i + 1)
      counting_none e =
          record {
            sought = sought_on;
            size = w.size;
            each = λ k l. omega (arith, w.each k l, left_miss k (λ q. omega (arith, q, e, l)));
          }

      pub counting_on : {code : ℕ} → code ≡ code_in t i → CountingCodes (set counts code (get_or counts code 0 + 1)) (i + 1)
      counting_on {code} e =
          record {
            sought = sought_on;
            size = length-set counts code (get_or counts code 0 + 1) ∙ w.size;
            each = λ k l. by k l (equal_or_not code k);
          }
        where
          by : (k : ℕ) → k < code_count → (code ≡ k) ⊎ (code ≡ k → ⊥)
              → get_or (set counts code (get_or counts code 0 + 1)) k 0 + count_between t k (i + 1) (next_patient t from) ≡ count_between t k from (next_patient t from)
          by k l (inl q) =
              omega (
                arith,
                ap (λ (n : ℕ). get_or (set counts code (get_or counts code 0 + 1)) n 0) (sym q),
                get_or-set_same counts code (get_or counts code 0 + 1) 0 (omega (arith, w.size, q, l)),
                ap (λ (n : ℕ). get_or counts n 0) q,
                left_hit k (sym e ∙ q),
                w.each k l,
              )
          by k l (inr n) =
              omega (
                arith,
                get_or-set_other counts code k (get_or counts code 0 + 1) 0 (λ q. n (sym q)),
                left_miss k (λ q. n (e ∙ q)),
                w.each k l,
              )

    -- a count is small
    pub count_small : from ≤ t.card.segments → (code : ℕ) → code < code_count → get_or counts code 0 ≤ t.card.segments
    count_small h code l =
        omega (
          arith,
          w.each code l,
          length-passing (λ j. eqb (code_in t j) code) from (next_patient t from - from),
          (first_bounds (has_kind t patient_kind) from t.card.segments h).1,
        )
