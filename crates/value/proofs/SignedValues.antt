-- What a text says with its sign put on: the magnitude leaves room for it.
-- Assumes nothing.
use mathlib.Core.Path.{◌≡◌, sym, ap, ◌∙◌, subst⁻¹}
use mathlib.Core.List.{List}
use Prim.Native.Nat.{ℕ, ◌≤◌, ◌<◌}
use native.Mathlib.Omega.{arith}
use lib.IntN.{ℤ, pos}
use Rattle.std.specs.Prelude.{Result, Ok, Err}
use mir.Syntax.{w64}
use mir.Val.{to_z, of_z}
use Rattle.value.specs.inner.Said.{reason, told}
use Rattle.value.specs.declared.numeral.Said.{Said}
use Rattle.value.specs.declared.numeral.NotSaid.{NotSaid}
use Rattle.value.specs.declared.reading.Value.{Value}
use Rattle.value.specs.Numerals.{Numeral, most_digits, numeral_of}
use Rattle.value.specs.Values.{signed_of, with_sign, value_of}
use Rattle.value.specs.inner.Signs.{half_range}
use Rattle.value.proofs.NumberParts.{Small, numeral_small}
use Rattle.value.proofs.Signs.{bits_signed}

pub small_signs : {n : Numeral} → Small most_digits n → n.magnitude < half_range
small_signs s = omega (arith, s.few)

pub said_small : (text : List ℕ) {n : Numeral} → n ≡ numeral_of most_digits text → n.magnitude < half_range
said_small text {n} e = small_signs (subst⁻¹ (Small most_digits) e (numeral_small most_digits text))

-- what the code's answer tells, with its sign put on
module _ {r : Result Said NotSaid} (small : (told r).magnitude < half_range) {said : Said} (is : r ≡ Ok said) where
  pub few_said : said.magnitude < half_range
  unfolding told
  few_said = rw is at small

  pub signed_value : {whole : ℤ} → whole ≡ signed_of said.negative said.magnitude
      → record { number = 0; whole = to_z w64 (of_z w64 whole); decimals = said.decimals } ≡ with_sign (told r)
  unfolding told
  signed_value w =
      ap {B = Value} (λ (z : ℤ). record { number = 0; whole = z; decimals = said.decimals }) (bits_signed said.magnitude few_said said.negative w)
      ∙ sym (ap (λ (a : Result Said NotSaid). with_sign (told a)) is)

pub refused_value : {r : Result Said NotSaid} {why : NotSaid} → r ≡ Err why → {number : ℕ} → number ≡ reason why
    → record { number = number; whole = pos 0; decimals = 0 } ≡ with_sign (told r)
unfolding told signed_of
refused_value is e =
    ap {B = Value} (λ (n : ℕ). record { number = n; whole = pos 0; decimals = 0 }) e ∙ sym (ap (λ (a : Result Said NotSaid). with_sign (told a)) is)

-- the whole number of a value is what its bits say, and its decimals are few
module _ {n : Numeral} (s : Small most_digits n) {v : Value} (e : v ≡ with_sign n) where
  pub bits_said : to_z w64 (of_z w64 v.whole) ≡ v.whole
  bits_said = let is : v.whole ≡ signed_of n.negative n.magnitude = ap (λ (u : Value). u.whole) e in bits_signed n.magnitude (small_signs s) n.negative is ∙ sym is

  pub decimals_said : v.decimals ≤ most_digits
  decimals_said = omega (arith, ap (λ (u : Value). u.decimals) e, s.decimals-few)

-- so it is for any text
module _ (text : List ℕ) {v : Value} (e : v ≡ value_of most_digits text) where
  pub value_bits : to_z w64 (of_z w64 v.whole) ≡ v.whole
  unfolding value_of
  value_bits = bits_said (numeral_small most_digits text) e

  pub value-decimals : v.decimals ≤ most_digits
  unfolding value_of
  value-decimals = decimals_said (numeral_small most_digits text) e
