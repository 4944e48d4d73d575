-- No owner is a C: a row's owner is 0 or an earlier row whose kind is no C, and for a row that is no C its level is smaller.
-- Assumes nothing.
use mathlib.Core.Bool.{Bool, true, false, not, ◌&&◌}
use mathlib.Core.List.{List, [], ◌∷◌, reverse}
use mathlib.Core.Path.{◌≡◌, refl, sym, ap, ◌∙◌, subst⁻¹}
use Prim.Native.Nat.{ℕ, suc, ◌-◌, ◌<◌}
use native.Mathlib.Nat.{le_of_lt}
use native.Mathlib.Omega.{arith}
use lib.Dec.{ltb}
use lib.ListN.{length, get_or, take, length-reverse}
use lib.Seq.{length-take-le, get_or-take}
use borrow.Author.Tests.{ltb-true, not-true}
use Rattle.laws.proofs.Tests.{never_both, and_first, and_second}
use Rattle.laws.proofs.Members.{get_or_reversed}
use Rattle.order.specs.Owners.{nearest, is_c, owner, owners}
use Rattle.order.proofs.Owner.{owners_at}

-- the row of the nearest that passes a test is there, and its kind passes
found : (p : ℕ → Bool) (before : List ℕ) (n : ℕ) → nearest p before ≡ suc n → (n < length before) × (p (get_or before (length before - suc n) 0) ≡ true)
unfolding nearest
found p [] n e = let z : ⊥ = omega arith in absurd z
found p (k ∷ before) n e = by (p k) refl e (found p before n)
  where
    by : (b : Bool) → p k ≡ b → elim b [ true ↦ suc (length before) | false ↦ nearest p before ] ≡ suc n
        → (nearest p before ≡ suc n → (n < length before) × (p (get_or before (length before - suc n) 0) ≡ true))
        → (n < suc (length before)) × (p (get_or (k ∷ before) (suc (length before) - suc n) 0) ≡ true)
    by true q e f =
        let i : suc (length before) - suc n ≡ 0 = omega arith in
        (omega arith, subst⁻¹ (λ (m : ℕ). p (get_or (k ∷ before) m 0) ≡ true) i q)
    by false q e f =
        let r = f e in
        let h : n < length before = r.0 in
        let i : suc (length before) - suc n ≡ suc (length before - suc n) = omega arith in
        (omega arith, subst⁻¹ (λ (m : ℕ). p (get_or (k ∷ before) m 0) ≡ true) i r.1)

-- which of the kinds of an order that is
kind-there : (ks : List ℕ) (i n : ℕ) → i < length ks → n < i → get_or (reverse (take i ks)) (i - suc n) 0 ≡ get_or ks n 0
kind-there ks i n h l =
    let e : length (take i ks) ≡ i = length-take-le i ks (le_of_lt h) in
    ap (λ (m : ℕ). get_or (reverse (take i ks)) (m - suc n) 0) (sym e) ∙ get_or_reversed (take i ks) [] n 0 (rw e l) ∙ get_or-take i ks n 0 l

module _ (lv : ℕ → ℕ) (ks : List ℕ) (i n : ℕ) (h : i < length ks) where
  -- an earlier row of the order whose kind passes a test
  earlier : (p : ℕ → Bool) → nearest p (reverse (take i ks)) ≡ suc n → (n < i) × (p (get_or ks n 0) ≡ true)
  earlier p e =
      let r = found p (reverse (take i ks)) n e in
      let m : length (reverse (take i ks)) ≡ i = length-reverse (take i ks) ∙ length-take-le i ks (le_of_lt h) in
      let l : n < i = rw m at r.0 in
      (l, ap p (sym (kind-there ks i n h l)) ∙ ap (λ (j : ℕ). p (get_or (reverse (take i ks)) (j - suc n) 0)) (sym m) ∙ r.1)

  pub record EarlierOwner : Type 0 where
    pub before : n < i
    pub no_C : is_c (get_or ks n 0) ≡ false
    pub smaller : is_c (get_or ks i 0) ≡ false → lv (get_or ks n 0) < lv (get_or ks i 0)

  owner_by : (b : Bool) → is_c (get_or ks i 0) ≡ b → owner lv (reverse (take i ks)) (get_or ks i 0) ≡ suc n → EarlierOwner
  unfolding owner
  owner_by true q e =
      let r = earlier (λ j. not (is_c j)) (sym (rw (q, owner)) ∙ e) in
      record { before = r.0; no_C = not-true (is_c (get_or ks n 0)) r.1; smaller = λ f. absurd (never_both q f) }
  owner_by false q e =
      let r = earlier (λ j. not (is_c j) && ltb (lv j) (lv (get_or ks i 0))) (sym (rw (q, owner)) ∙ e) in
      record {
        before = r.0;
        no_C = not-true (is_c (get_or ks n 0)) (and_first (not (is_c (get_or ks n 0))) (ltb (lv (get_or ks n 0)) (lv (get_or ks i 0))) r.1);
        smaller = λ f. ltb-true (lv (get_or ks n 0)) (lv (get_or ks i 0)) (and_second (not (is_c (get_or ks n 0))) (ltb (lv (get_or ks n 0)) (lv (get_or ks i 0))) r.1);
      }

  pub owner-earlier : get_or (owners lv ks) i 0 ≡ suc n → EarlierOwner
  owner-earlier e = owner_by (is_c (get_or ks i 0)) refl (sym (owners_at lv ks i h) ∙ e)
