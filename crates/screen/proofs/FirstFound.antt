-- The first of the numbers that pass a test, or none, as an `Option`: what a search that answers its end for none says of it, and a search in two parts.
-- Assumes nothing.
use mathlib.Core.Bool.{Bool}
use mathlib.Core.List.{List, [], ◌∷◌}
use mathlib.Core.Path.{◌≡◌, refl, sym, ap, ◌∙◌}
use Prim.Native.Nat.{ℕ, ◌-◌, ◌≤◌, ◌<◌}
use native.Mathlib.Omega.{arith}
use Rattle.std.specs.Prelude.{Option, Some, None, MatchOption, slice_get}
use lib.ListN.{get_or}
use Rattle.laws.specs.Tables.{passing}
use Rattle.laws.proofs.Passing.{Passing, Passed, none, first, first-passed, found_none, first_part, second_part}

-- the front of a list: a number below what is answered for none, and none
front_some : (s : List ℕ) {n end : ℕ} → n < end → n ≡ get_or s 0 end → Some n ≡ slice_get s 0
front_some [] h e = absurd (omega (arith, h, e))
front_some (m ∷ s) h e = ap Some e

front_number : (s : List ℕ) {n : ℕ} (end : ℕ) → Some n ≡ slice_get s 0 → n ≡ get_or s 0 end
front_number [] end e = cc
front_number (m ∷ s) end e = cc

front_none : (s : List ℕ) (end : ℕ) → None ≡ slice_get s 0 → end ≡ get_or s 0 end
front_none [] end e = refl
front_none (m ∷ s) end e = cc

module _ (test : ℕ → Bool) where
  -- the first from one on and below another
  abbrev pub first_of : (from end : ℕ) → Option ℕ
  first_of from end = slice_get (passing test from (end - from)) 0

  pub some_found : (from end : ℕ) {n : ℕ} → n < end → n ≡ get_or (passing test from (end - from)) 0 end → Some n ≡ first_of from end
  some_found from end h e = front_some (passing test from (end - from)) h e

  pub none_found : (from end : ℕ) → from ≤ end → end ≡ get_or (passing test from (end - from)) 0 end → None ≡ first_of from end
  none_found from end rising e = sym (ap (λ (s : List ℕ). slice_get s 0) (found_none test from end end rising e refl))

  pub number_found : (from end : ℕ) {n : ℕ} → Some n ≡ first_of from end → n ≡ get_or (passing test from (end - from)) 0 end
  number_found from end e = front_number (passing test from (end - from)) end e

  pub end_found : (from end : ℕ) → None ≡ first_of from end → end ≡ get_or (passing test from (end - from)) 0 end
  end_found from end e = front_none (passing test from (end - from)) end e

  -- what is found lies below the end
  pub found_below : (from end : ℕ) {n : ℕ} → from ≤ end → Some n ≡ first_of from end → n < end
  found_below from end {n} rising e = by (first-passed test from (end - from))
    where
      by : Passed test from (end - from) → n < end
      by (none q) = let none_here : Some n ≡ None = e ∙ ap (λ (s : List ℕ). slice_get s 0) q in cc
      by (first k g h p q) =
          let here : Some n ≡ Some k = e ∙ ap (λ (s : List ℕ). slice_get s 0) q in
          let same : n ≡ k = cc in omega (arith, h, rising, same)

  -- a search that has come to a number finds what is left
  pub left_found : {from end i : ℕ} → Passing test from end i → first_of i end ≡ first_of from end
  left_found {from} {end} {i} w = by (first-passed test i (end - i))
    where
      by : Passed test i (end - i) → first_of i end ≡ first_of from end
      by (none q) =
          ap (λ (s : List ℕ). slice_get s 0) q
          ∙ none_found from end (omega (arith, w.later, w.within)) (ap (λ (s : List ℕ). get_or s 0 end) (sym q) ∙ w.rest)
      by (first k g h p q) =
          ap (λ (s : List ℕ). slice_get s 0) q
          ∙ some_found from end (omega (arith, h, w.within)) (ap (λ (s : List ℕ). get_or s 0 end) (sym q) ∙ w.rest)

  -- a search in two parts: what the first part finds, or else what the second does
  module _ {from mid end : ℕ} (low : from ≤ mid) (high : mid ≤ end) where
    pub front_part : {n : ℕ} → Some n ≡ first_of from mid → Some n ≡ first_of from end
    front_part e =
        let below = found_below from mid low e in
        some_found from end (omega (arith, below, high)) (first_part test {end = end} low high (number_found from mid e) below)

    pub back_part : None ≡ first_of from mid → Passing test from end mid
    back_part e = second_part test low high (end_found from mid e) (omega arith)

    -- the second part is searched only where the first finds none
    pub either_part : (o r : Option ℕ) → o ≡ first_of from mid → MatchOption o (r ≡ first_of mid end) (λ (n : ℕ). r ≡ Some n) → r ≡ first_of from end
    either_part None r e m = m ∙ left_found (back_part e)
    either_part (Some n) r e m = m ∙ front_part e
