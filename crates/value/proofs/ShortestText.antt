-- The shortest text of a value (rules D4 and D5): it reads to the value, no text that does is shorter, and no other of its length does. A value
-- has a text exactly if it is in range, and the text has room.
-- Assumes nothing.
use mathlib.Core.Bool.{Bool, true, false}
use mathlib.Core.List.{List, [], ◌∷◌, ◌++◌, append-nil}
use mathlib.Core.Logic.{◌↔◌}
use mathlib.Core.Path.{◌≡◌, refl, sym, ap, ap₂, ◌∙◌}
use Prim.Native.Nat.{ℕ, zero, suc, ◌+◌, ◌-◌, ◌^◌, ◌≤◌, ◌<◌}
use native.Mathlib.Nat.{le_trans}
use native.Mathlib.Omega.{arith}
use lib.Dec.{ltb, leb}
use lib.IntN.{ℤ, pos, nat_abs}
use lib.ListN.{length, length-append}
use lib.Signed.{lt_z}
use borrow.Author.Tests.{ltb-true, lt-ltb, le-ltb, leb-true, le-leb}
use Rattle.laws.proofs.Tests.{and_first, and_second, and_both}
use Rattle.value.specs.Numerals.{minus, point, all_digits, made_by, behind_point, SignIs, no_sign, a_plus, a_minus}
use Rattle.value.specs.Values.{signed_of, ReadsTo, Shortest, Spelt}
use Rattle.value.specs.Writing.{in_range, longest_text}
use Rattle.value.specs.inner.Digits.{tenths, last_digits}
use Rattle.value.specs.inner.Shortening.{digits_for, sign_text, pointed, digit_text, text_for, shortest_text}
use Rattle.value.specs.inner.Signs.{apart}
use Rattle.value.proofs.DigitTexts.{digits_append, made-append, made-below, power_within}
use Rattle.value.proofs.DigitsBack.{last-length, last_digits_lem, last-first, last_add, made-last, tenths-made, last_made, count_most, count-least}
use Rattle.value.proofs.WrittenDigits.{apart_signed, signed_magnitude, written-decimals, written_enough, written-least, written_one}
use Rattle.value.proofs.SpeltTexts.{point-one, point_bytes, spelt_length, spelt_reads, reads_spelt}

-- the shortest text, spelt: its sign, its digits before the point and its decimals
abbrev pub whole_written : ℕ → ℤ → ℕ → List ℕ
whole_written most z d = last_digits (digits_for most (nat_abs z) d - d) (tenths d (nat_abs z))

abbrev pub decimals_written : ℤ → ℕ → List ℕ
decimals_written z d = last_digits d (nat_abs z)

point-behind : (d n : ℕ) → point ∷ last_digits (suc d) n ≡ behind_point (last_digits (suc d) n)
unfolding behind_point
point-behind d n = ap {B = List ℕ} (λ (s : List ℕ). point ∷ s) (last-first d n) ∙ sym (ap behind_point (last-first d n))

digits_shaped : (digits d n : ℕ) → digit_text digits d n ≡ last_digits (digits - d) (tenths d n) ++ behind_point (last_digits d n)
unfolding digit_text pointed behind_point last_digits tenths
digits_shaped digits zero n =
    ap (λ (k : ℕ). last_digits k n) (let e : digits ≡ digits - 0 = omega arith in e) ∙ sym (append-nil (last_digits (digits - 0) n))
digits_shaped digits (suc d) n = ap (λ (t : List ℕ). last_digits (digits - suc d) (tenths (suc d) n) ++ t) (point-behind d n)

sign-written : (negative : Bool) → SignIs (sign_text negative) negative
unfolding sign_text
sign-written true = a_minus
sign-written false = no_sign

pub sign-one_byte : (negative : Bool) → length (sign_text negative) ≤ 1
unfolding sign_text
sign-one_byte true = omega arith
sign-one_byte false = omega arith

module _ (most : ℕ) (z : ℤ) (d : ℕ) where
  pub shortest_shape : shortest_text most z d ≡ sign_text (apart z).0 ++ (whole_written most z d ++ behind_point (decimals_written z d))
  unfolding shortest_text text_for apart
  shortest_shape =
      ap (λ (t : List ℕ). sign_text (lt_z z (pos 0)) ++ t) (digits_shaped (digits_for most (nat_abs z) d) d (nat_abs z))

  written-joined : whole_written most z d ++ decimals_written z d ≡ last_digits (digits_for most (nat_abs z) d) (nat_abs z)
  written-joined =
      let e : digits_for most (nat_abs z) d - d + d ≡ digits_for most (nat_abs z) d = omega (arith, written-decimals most (nat_abs z) d) in
      sym (last_add (digits_for most (nat_abs z) d - d) d (nat_abs z)) ∙ ap (λ (k : ℕ). last_digits k (nat_abs z)) e

  shortest_length : length (shortest_text most z d) ≡ length (sign_text (apart z).0) + (digits_for most (nat_abs z) d + point_bytes d)
  shortest_length =
      omega (
        arith,
        ap length shortest_shape,
        spelt_length (sign_text (apart z).0) (whole_written most z d) (decimals_written z d),
        last-length (digits_for most (nat_abs z) d - d) (tenths d (nat_abs z)),
        last-length d (nat_abs z),
        ap point_bytes (last-length d (nat_abs z)),
        written-decimals most (nat_abs z) d,
      )

  pub some_written : 1 ≤ length (whole_written most z d) + length (decimals_written z d)
  some_written =
      omega (
        arith,
        last-length (digits_for most (nat_abs z) d - d) (tenths d (nat_abs z)),
        last-length d (nat_abs z),
        written-decimals most (nat_abs z) d,
        written_one most (nat_abs z) d,
      )

  -- in range it reads to the value
  shortest_spelt : 1 ≤ most → nat_abs z < 10 ^ most → d ≤ most → Spelt most z d (shortest_text most z d)
  shortest_spelt one few decimals =
      record {
        number =
            record {
              sign = sign_text (apart z).0;
              negative = (apart z).0;
              sign_is = sign-written (apart z).0;
              whole = whole_written most z d;
              decimals = decimals_written z d;
              whole_digits = last_digits_lem (digits_for most (nat_abs z) d - d) (tenths d (nat_abs z));
              decimal_digits = last_digits_lem d (nat_abs z);
              some_digit = some_written;
              shape = shortest_shape;
            };
        few =
            omega (
              arith,
              last-length (digits_for most (nat_abs z) d - d) (tenths d (nat_abs z)),
              last-length d (nat_abs z),
              written-decimals most (nat_abs z) d,
              written-least most (nat_abs z) d most (count_most most (nat_abs z)) decimals one,
            );
        value =
            ap (λ (s : List ℕ). signed_of (apart z).0 (made_by 0 s)) written-joined
            ∙ ap (λ (n : ℕ). signed_of (apart z).0 (made_by n (last_digits (digits_for most (nat_abs z) d) (nat_abs z))))
            (sym (written_enough most (nat_abs z) d few))
            ∙ ap (signed_of (apart z).0) (made-last (digits_for most (nat_abs z) d) (nat_abs z))
            ∙ apart_signed z;
        count = last-length d (nat_abs z);
      }

-- a value below 0 has a minus in every text, and any other needs no sign
least-sign : {sign : List ℕ} {negative : Bool} (m : ℕ) (z : ℤ) → SignIs sign negative → signed_of negative m ≡ z
    → length (sign_text (apart z).0) ≤ length sign
unfolding signed_of apart sign_text
least-sign m z no_sign e = rw (sym (ap (λ (x : ℤ). lt_z x (pos 0)) e) ∙ le-ltb m 0 (omega arith)) (omega arith)
least-sign m z a_plus e = rw (sym (ap (λ (x : ℤ). lt_z x (pos 0)) e) ∙ le-ltb m 0 (omega arith)) (omega arith)
least-sign m z a_minus e = sign-one_byte (lt_z z (pos 0))

a_sign_minus : (negative : Bool) → 1 ≤ length (sign_text negative) → minus ∷ [] ≡ sign_text negative
unfolding sign_text
a_sign_minus true h = refl
a_sign_minus false h = absurd (omega arith)

only-sign : {sign : List ℕ} {negative : Bool} (m : ℕ) (z : ℤ) → SignIs sign negative → signed_of negative m ≡ z
    → length sign ≤ length (sign_text (apart z).0) → sign ≡ sign_text (apart z).0
unfolding signed_of apart sign_text
only-sign m z no_sign e h = rw (sym (ap (λ (x : ℤ). lt_z x (pos 0)) e) ∙ le-ltb m 0 (omega arith))
only-sign m z a_plus e h =
    let none : length (sign_text (lt_z z (pos 0))) ≡ 0 = rw (sym (ap (λ (x : ℤ). lt_z x (pos 0)) e) ∙ le-ltb m 0 (omega arith)) in
    absurd (omega arith)
only-sign m z a_minus e h = a_sign_minus (lt_z z (pos 0)) h

-- what a text that reads to a value has at least, and what it is where it has no more
module _ {most : ℕ} {z : ℤ} {d : ℕ} {text : List ℕ} (s : Spelt most z d text) where
  pub spelt_magnitude : made_by 0 (s.number.whole ++ s.number.decimals) ≡ nat_abs z
  spelt_magnitude = sym (signed_magnitude s.number.negative (made_by 0 (s.number.whole ++ s.number.decimals))) ∙ ap nat_abs s.value

  joined_digits : all_digits (s.number.whole ++ s.number.decimals) ≡ true
  joined_digits = digits_append s.number.whole s.number.decimals s.number.whole_digits s.number.decimal_digits

  joined_length : length (s.number.whole ++ s.number.decimals) ≡ length s.number.whole + length s.number.decimals
  joined_length = length-append s.number.whole s.number.decimals

  enough_digits : digits_for most (nat_abs z) d ≤ length s.number.whole + length s.number.decimals
  enough_digits =
      let brought : tenths (length (s.number.whole ++ s.number.decimals)) (nat_abs z) ≡ 0 =
      ap (tenths (length (s.number.whole ++ s.number.decimals))) (sym spelt_magnitude) ∙ tenths-made 0 (s.number.whole ++ s.number.decimals) joined_digits in
      written-least most (nat_abs z) d (length s.number.whole + length s.number.decimals)
      (omega (arith, count-least most (length (s.number.whole ++ s.number.decimals)) (nat_abs z) brought, joined_length))
      (omega (arith, s.count))
      s.number.some_digit

  text-length : length text ≡ length s.number.sign + (length s.number.whole + length s.number.decimals + point_bytes d)
  text-length =
      omega (arith, ap length s.number.shape, spelt_length s.number.sign s.number.whole s.number.decimals, ap point_bytes s.count)

  sign_needed : length (sign_text (apart z).0) ≤ length s.number.sign
  sign_needed = least-sign (made_by 0 (s.number.whole ++ s.number.decimals)) z s.number.sign_is s.value

  pub no_shorter : length (shortest_text most z d) ≤ length text
  no_shorter = omega (arith, shortest_length most z d, text-length, sign_needed, enough_digits)

  decimals_are : s.number.decimals ≡ decimals_written z d
  decimals_are =
      sym (last_made (made_by 0 s.number.whole) s.number.decimals s.number.decimal_digits)
      ∙ ap₂ last_digits s.count (sym (made-append 0 s.number.whole s.number.decimals) ∙ spelt_magnitude)

  whole-made : made_by 0 s.number.whole ≡ tenths d (nat_abs z)
  whole-made =
      sym (tenths-made (made_by 0 s.number.whole) s.number.decimals s.number.decimal_digits)
      ∙ ap₂ tenths s.count (sym (made-append 0 s.number.whole s.number.decimals) ∙ spelt_magnitude)

  whole_is : length s.number.whole ≡ digits_for most (nat_abs z) d - d → s.number.whole ≡ whole_written most z d
  whole_is e = sym (last_made 0 s.number.whole s.number.whole_digits) ∙ ap₂ last_digits e whole-made

  pub no_other : length text ≤ length (shortest_text most z d) → text ≡ shortest_text most z d
  no_other h =
      let lengths : (length s.number.sign ≤ length (sign_text (apart z).0)) × (length s.number.whole ≡ digits_for most (nat_abs z) d - d) =
      omega (arith, h, shortest_length most z d, text-length, sign_needed, enough_digits, s.count) in
      s.number.shape
      ∙ ap₂ (λ (a b : List ℕ). a ++ b)
      (only-sign (made_by 0 (s.number.whole ++ s.number.decimals)) z s.number.sign_is s.value lengths.0)
      (ap₂ (λ (a b : List ℕ). a ++ behind_point b) (whole_is lengths.1) decimals_are)
      ∙ sym (shortest_shape most z d)

  pub spelt_few : nat_abs z < 10 ^ most
  spelt_few =
      rw (sym spelt_magnitude)
      (le_trans (made-below 0 0 (s.number.whole ++ s.number.decimals) joined_digits (omega arith))
      (power_within (0 + length (s.number.whole ++ s.number.decimals)) most (omega (arith, joined_length, s.few))))

  pub spelt_decimals : d ≤ most
  spelt_decimals = omega (arith, s.count, s.few)

-- a value in range: what the two tests say
module _ (most : ℕ) (z : ℤ) (d : ℕ) where
  pub range_few : in_range most z d ≡ true → nat_abs z < 10 ^ most
  unfolding in_range
  range_few h = ltb-true (nat_abs z) (10 ^ most) (and_first (ltb (nat_abs z) (10 ^ most)) (leb d most) h)

  pub range_decimals : in_range most z d ≡ true → d ≤ most
  unfolding in_range
  range_decimals h = leb-true d most (and_second (ltb (nat_abs z) (10 ^ most)) (leb d most) h)

  pub range_both : nat_abs z < 10 ^ most → d ≤ most → in_range most z d ≡ true
  unfolding in_range
  range_both h k = and_both (lt-ltb (nat_abs z) (10 ^ most) h) (le-leb d most k)

-- the theorems, where a number may have a digit at all
module _ (most : ℕ) (one : 1 ≤ most) where
  -- the shortest text of a value reads to it
  pub shortest_reads : (z : ℤ) (d : ℕ) → in_range most z d ≡ true → ReadsTo most z d (shortest_text most z d)
  shortest_reads z d h = spelt_reads most (shortest_text most z d) z d (shortest_spelt most z d one (range_few most z d h) (range_decimals most z d h))

  -- it is the one shortest (D4)
  pub shortest_exactly : (whole : ℤ) (decimals : ℕ) → in_range most whole decimals ≡ true
      → (text : List ℕ) → Shortest most whole decimals text ↔ (text ≡ shortest_text most whole decimals)
  shortest_exactly z d h text = (
    λ s. no_other (reads_spelt most text z d s.reads) (s.least (shortest_text most z d) (shortest_reads z d h)),
    λ e.
        record {
          reads = rw e (shortest_reads z d h);
          least = λ other r. rw e (no_shorter (reads_spelt most other z d r));
        },
  )

  -- a value is in range exactly if some text reads to it (D5)
  pub range_exactly : (whole : ℤ) (decimals : ℕ) → (in_range most whole decimals ≡ true) ↔ ((text : List ℕ) × ReadsTo most whole decimals text)
  range_exactly z d = (
    λ h. (shortest_text most z d, shortest_reads z d h),
    λ t. range_both most z d (spelt_few (reads_spelt most t.0 z d t.1)) (spelt_decimals (reads_spelt most t.0 z d t.1)),
  )

  -- its text has room
  pub text-fits : (whole : ℤ) (decimals : ℕ) → in_range most whole decimals ≡ true → length (shortest_text most whole decimals) ≤ longest_text most
  text-fits z d h =
      omega (
        arith,
        shortest_length most z d,
        sign-one_byte (apart z).0,
        point-one d,
        written-least most (nat_abs z) d most (count_most most (nat_abs z)) (range_decimals most z d h) one,
      )
