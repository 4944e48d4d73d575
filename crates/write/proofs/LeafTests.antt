-- The tests of leaf rows as loops make them: what is left of the rows, of a place or of a text gives the whole.
-- Assumes nothing.
use mathlib.Core.Bool.{false, ◌&&◌}
use mathlib.Core.List.{List}
use mathlib.Core.Path.{◌≡◌, sym, ap, ◌∙◌}
use Prim.Native.Nat.{ℕ, suc, ◌+◌, ◌-◌, ◌≤◌, ◌<◌, ◌*◌}
use native.Mathlib.Omega.{arith}
use native.Mathlib.Numerals.{add-one}
use lib.Dec.{eqb}
use borrow.Author.Tests.{eq-eqb, ne_eqb}
use Rattle.laws.proofs.Tests.{and_passed, and_fails_first}
use Rattle.table.specs.Rows.{start_in, length_in, width}
use Rattle.table.specs.inner.RowTests.{end_to_end}

-- texts end to end: i rows have been passed, and the next one is to begin at `start`
pub record Ending (rows : List ℕ) (finish count i start : ℕ) : Type 0 where
  pub within : i ≤ count
  pub small : start < 2 * width
  pub so : end_to_end rows finish i (count - i) start ≡ end_to_end rows finish 0 count 0

pub ending_begins : (rows : List ℕ) (finish count : ℕ) → Ending rows finish count 0 0
ending_begins rows finish count =
    record { within = omega arith; small = omega arith; so = ap (λ (n : ℕ). end_to_end rows finish 0 n 0) (omega arith) }

module _ {rows : List ℕ} {finish count i start : ℕ} (w : Ending rows finish count i start) where
  ending_turn : i < count
      → (eqb (start_in rows i) start
      && end_to_end rows finish (i + 1) (count - (i + 1)) (start + length_in rows i))
      ≡ end_to_end rows finish 0 count 0
  unfolding end_to_end
  ending_turn h =
      ap (λ (k : ℕ). eqb (start_in rows i) start && end_to_end rows finish k (count - (i + 1)) (start + length_in rows i)) (add-one i)
      ∙ ap (λ (n : ℕ). end_to_end rows finish i n start) (let e : suc (count - (i + 1)) ≡ count - i = omega arith in e)
      ∙ w.so

  pub ending_fails : i < count → (start_in rows i ≡ start → ⊥) → false ≡ end_to_end rows finish 0 count 0
  ending_fails h n =
      sym (and_fails_first (end_to_end rows finish (i + 1) (count - (i + 1)) (start + length_in rows i)) (ne_eqb (start_in rows i) start n))
      ∙ ending_turn h

  pub ending_on : i < count → start_in rows i ≡ start → start_in rows i < width
      → {size : ℕ} → size ≡ length_in rows i → size < width → Ending rows finish count (i + 1) (start + size)
  ending_on h e low {size} s few =
      record {
        within = omega arith;
        small = omega arith;
        so =
            ap (λ (k : ℕ). end_to_end rows finish (i + 1) (count - (i + 1)) (start + k)) s
            ∙ sym (and_passed (end_to_end rows finish (i + 1) (count - (i + 1)) (start + length_in rows i)) (eq-eqb (start_in rows i) start e))
            ∙ ending_turn h;
      }

  pub ending_done : count ≤ i → eqb start finish ≡ end_to_end rows finish 0 count 0
  unfolding end_to_end
  ending_done h = ap (λ (n : ℕ). end_to_end rows finish i n start) (let e : 0 ≡ count - i = omega arith in e) ∙ w.so
