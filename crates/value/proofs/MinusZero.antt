-- No minus stands before 0 (rules D2 and D4): a text with one reads to the same as the text without it, and the shortest has none.
-- Assumes nothing.
use mathlib.Core.Bool.{Bool, true}
use mathlib.Core.List.{List, [], ◌∷◌, ◌++◌}
use mathlib.Core.Path.{◌≡◌, sym, ap, ◌∙◌}
use Prim.Native.Nat.{ℕ, ◌-◌}
use lib.IntN.{pos, nat_abs}
use lib.ListN.{get_or}
use borrow.Author.Tests.{eqb-false}
use Rattle.value.specs.Numerals.{plus, minus, behind_point, SignIs, no_sign, a_plus, a_minus}
use Rattle.value.specs.Values.{signed_of, ReadsTo}
use Rattle.value.specs.inner.Digits.{tenths}
use Rattle.value.specs.inner.Shortening.{digits_for, sign_text, shortest_text}
use Rattle.value.specs.inner.Signs.{apart}
use Rattle.value.proofs.DigitsBack.{last_digits_lem}
use Rattle.value.proofs.NumberShape.{bare_unsigned}
use Rattle.value.proofs.SpeltTexts.{spelt_reads, reads_spelt}
use Rattle.value.proofs.ShortestText.{decimals_written, shortest_shape, some_written, spelt_magnitude, whole_written}

-- a text without a sign, told by its first byte
unsigned_text : {sign : List ℕ} {negative : Bool} (text u : List ℕ) → SignIs sign negative → text ≡ sign ++ u
    → (get_or text 0 0 ≡ plus → ⊥) → (get_or text 0 0 ≡ minus → ⊥) → text ≡ u
unsigned_text text u no_sign e p m = e
unsigned_text text u a_plus e p m = absurd (p (ap (λ (t : List ℕ). get_or t 0 0) e))
unsigned_text text u a_minus e p m = absurd (m (ap (λ (t : List ℕ). get_or t 0 0) e))

-- a minus before 0 gives 0, and the shortest text of 0 has none
pub minus_zero : (most d : ℕ) (s : List ℕ) → (get_or s 0 0 ≡ plus → ⊥) → (get_or s 0 0 ≡ minus → ⊥) → ReadsTo most (pos 0) d s
    → ReadsTo most (pos 0) d (minus ∷ s)
unfolding signed_of
minus_zero most d s p m h =
    let t = reads_spelt most s (pos 0) d h in
    let n = t.number in
    spelt_reads most (minus ∷ s) (pos 0) d (
    record {
      number =
          record {
            sign = minus ∷ [];
            negative = true;
            sign_is = a_minus;
            whole = n.whole;
            decimals = n.decimals;
            whole_digits = n.whole_digits;
            decimal_digits = n.decimal_digits;
            some_digit = n.some_digit;
            shape = ap {B = List ℕ} (λ (r : List ℕ). minus ∷ r) (unsigned_text s (n.whole ++ behind_point n.decimals) n.sign_is n.shape p m);
          };
      few = t.few;
      value = ap (signed_of true) (spelt_magnitude t);
      count = t.count;
    }
    )

pub zero_no_minus : (most d : ℕ) → get_or (shortest_text most (pos 0) d) 0 0 ≡ minus → ⊥
unfolding sign_text apart
zero_no_minus most d e =
    eqb-false (get_or (whole_written most (pos 0) d ++ behind_point (decimals_written (pos 0) d)) 0 0) minus
    (bare_unsigned (whole_written most (pos 0) d) (decimals_written (pos 0) d)
    (last_digits_lem (digits_for most (nat_abs (pos 0)) d - d) (tenths d (nat_abs (pos 0)))) (some_written most (pos 0) d)).1
    (sym (ap (λ (t : List ℕ). get_or t 0 0) (shortest_shape most (pos 0) d)) ∙ e)
