-- Signs put on and taken off, for numbers of 64 bits: what the machine makes of a magnitude and of a signed number's bits.
-- Assumes nothing.
use mathlib.Core.Bool.{Bool, true, false}
use mathlib.Core.Path.{◌≡◌, refl, sym, ap, ◌∙◌, subst⁻¹}
use Prim.Native.Nat.{ℕ, zero, suc, ◌+◌, ◌-◌, ◌<◌}
use native.Mathlib.Omega.{arith}
use borrow.Author.Tests.{ltb-true}
use lib.Dec.{T}
use lib.IntN.{ℤ, pos, negsuc, neg_ℤ, nat_abs, ◌-ℤ◌, +ℤ_idl}
use lib.Signed.{lt_z, non_neg}
use mir.Syntax.{w64}
use mir.Val.{Fits, SFits, to_z, of_z}
use mir.ValLaws.{to_z_pos, to_z-of_z}
use Rattle.laws.proofs.Tests.{never_both}
use Rattle.value.specs.Values.{signed_of}
use Rattle.value.specs.inner.Signs.{half_range}

-- a magnitude with its sign put on
module _ (magnitude : ℕ) (small : magnitude < half_range) where
  pub bits_read : to_z w64 magnitude ≡ pos magnitude
  bits_read = to_z_pos w64 magnitude small

  negated : pos 0 -ℤ to_z w64 magnitude ≡ neg_ℤ (pos magnitude)
  negated = ap (λ (z : ℤ). pos 0 -ℤ z) bits_read ∙ +ℤ_idl (neg_ℤ (pos magnitude))

  fits : SFits w64 (neg_ℤ (pos magnitude))
  fits = by magnitude small
    where
      by : (n : ℕ) → n < half_range → SFits w64 (neg_ℤ (pos n))
      by zero h = record { sfits = h }
      by (suc n) h = record { sfits = omega arith }

  pub negated_fits : SFits w64 (pos 0 -ℤ to_z w64 magnitude)
  negated_fits = subst⁻¹ (SFits w64) negated fits

  pub signed_minus : {negative : Bool} → negative ≡ true → to_z w64 (of_z w64 (pos 0 -ℤ to_z w64 magnitude)) ≡ signed_of negative magnitude
  unfolding signed_of
  signed_minus e = to_z-of_z w64 (pos 0 -ℤ to_z w64 magnitude) negated_fits ∙ negated ∙ sym (ap (λ (b : Bool). signed_of b magnitude) e)

  pub signed_plain : {negative : Bool} → negative ≡ false → to_z w64 magnitude ≡ signed_of negative magnitude
  unfolding signed_of
  signed_plain e = bits_read ∙ sym (ap (λ (b : Bool). signed_of b magnitude) e)

  -- a number that was made so is what its bits say
  fits_signed : (negative : Bool) → SFits w64 (signed_of negative magnitude)
  unfolding signed_of
  fits_signed true = fits
  fits_signed false = record { sfits = small }

  pub bits_signed : (negative : Bool) {whole : ℤ} → whole ≡ signed_of negative magnitude → to_z w64 (of_z w64 whole) ≡ signed_of negative magnitude
  bits_signed negative e = ap (λ (z : ℤ). to_z w64 (of_z w64 z)) e ∙ to_z-of_z w64 (signed_of negative magnitude) (fits_signed negative)

-- the bits of a whole number, all turned over
abbrev pub turned : ℤ → ℕ
turned whole = 18446744073709551615 - of_z w64 whole

-- a number below 0: turned over, its bits are its magnitude less 1
record Below (whole : ℤ) : Type 0 where
  pub less : ℕ
  pub is : whole ≡ negsuc less
  pub small : less < half_range
  pub bits : to_z w64 (turned whole) ≡ pos less

below : (whole : ℤ) → SFits w64 whole → lt_z whole (pos 0) ≡ true → Below whole
below (pos a) f e = absurd (let z = ltb-true a 0 e in omega (arith, z))
below (negsuc n) f e =
    let h : n < half_range = f.sfits in
    let turn : turned (negsuc n) ≡ n = omega (arith, h) in
    record { less = n; is = refl; small = h; bits = ap (to_z w64) turn ∙ to_z_pos w64 n h }

-- one from 0 on: its bits are its magnitude
record NotBelow (whole : ℤ) : Type 0 where
  pub size : ℕ
  pub is : whole ≡ pos size
  pub small : size < half_range
  pub bits : to_z w64 (of_z w64 whole) ≡ pos size

not_below : (whole : ℤ) → SFits w64 whole → lt_z whole (pos 0) ≡ false → NotBelow whole
not_below (pos a) f e = record { size = a; is = refl; small = f.sfits; bits = to_z-of_z w64 (pos a) f }
not_below (negsuc n) f e = absurd (never_both refl e)

-- what a cast to an unsignedText number asks
abbrev Castable : ℤ → Type 0
Castable z = T (non_neg z) × Fits w64 (nat_abs z)

module _ (whole : ℤ) (fit : SFits w64 whole) where
  -- the test of its bits is the test of the number
  test_read : {b : Bool} → lt_z (to_z w64 (of_z w64 whole)) (pos 0) ≡ b → lt_z whole (pos 0) ≡ b
  test_read e = ap (λ (z : ℤ). lt_z z (pos 0)) (sym (to_z-of_z w64 whole fit)) ∙ e

  module _ (taken : lt_z (to_z w64 (of_z w64 whole)) (pos 0) ≡ true) where
    pub turned_casts : Castable (to_z w64 (turned whole))
    turned_casts =
        let w = below whole fit (test_read taken) in
        subst⁻¹ Castable w.bits (tt, record { fits = omega (arith, w.small) })

    pub turned-adds : Fits w64 (nat_abs (to_z w64 (turned whole)) + 1)
    turned-adds =
        let w = below whole fit (test_read taken) in
        subst⁻¹ (λ (z : ℤ). Fits w64 (nat_abs z + 1)) w.bits (record { fits = omega (arith, w.small) })

  module _ (left : lt_z (to_z w64 (of_z w64 whole)) (pos 0) ≡ false) where
    pub bits_cast : Castable (to_z w64 (of_z w64 whole))
    bits_cast =
        let w = not_below whole fit (test_read left) in
        subst⁻¹ Castable w.bits (tt, record { fits = omega (arith, w.small) })
