-- What a row owns lies behind it and together (O2, O3): an owner stands earlier; and once a row behind it has an earlier owner, it owns no more
-- rows but C.
-- Assumes nothing.
use mathlib.Core.Bool.{Bool, true, false, not, ◌&&◌}
use mathlib.Core.List.{List, reverse}
use mathlib.Core.Logic.{◌⊎◌, inl, inr}
use mathlib.Core.Path.{◌≡◌, refl, sym, ap, ◌∙◌}
use Prim.Native.Nat.{ℕ, zero, suc, ◌≤◌, ◌<◌}
use native.Mathlib.Nat.{not-suc-le-zero, le_of_lt}
use native.Mathlib.Omega.{arith}
use lib.Dec.{ltb}
use lib.ListN.{length, get_or, take, length-reverse}
use lib.Seq.{length-take-le}
use borrow.Author.Tests.{ltb-false}
use Rattle.laws.proofs.Cases.{less_or_not}
use Rattle.laws.proofs.Tests.{Tested, passed, failed, tested, never_both, not_holds, and_passed}
use Rattle.order.specs.Owners.{nearest, is_c, owner, owners}
use Rattle.order.proofs.Owner.{owners_at, before-next}
use Rattle.order.proofs.NoC.{owner-earlier}

-- between a row and the nearest before it that passes a test none passes: rows from that one's number on, which is the index behind it
none_between : (p : ℕ → Bool) (ks : List ℕ) (i : ℕ) → i ≤ length ks → (m : ℕ) → nearest p (reverse (take i ks)) ≤ m → m < i → p (get_or ks m 0) ≡ false
unfolding nearest
none_between p ks zero w m n h = absurd (not-suc-le-zero h)
none_between p ks (suc i) w m n h = go (tested (p (get_or ks i 0))) (less_or_not m i) (none_between p ks i (le_of_lt w) m)
  where
    before : List ℕ
    before = reverse (take i ks)

    size : length before ≡ i
    size = length-reverse (take i ks) ∙ length-take-le i ks (le_of_lt w)

    number : nearest p (reverse (take (suc i) ks)) ≡ elim (p (get_or ks i 0)) [ true ↦ suc (length before) | false ↦ nearest p before ]
    number = ap (nearest p) (before-next ks i w)

    go : Tested (p (get_or ks i 0)) → (m < i) ⊎ (i ≤ m) → (nearest p before ≤ m → m < i → p (get_or ks m 0) ≡ false) → p (get_or ks m 0) ≡ false
    go (passed e) s later = let at : nearest p (reverse (take (suc i) ks)) ≡ suc (length before) = number ∙ rw e in absurd (omega (arith, size))
    go (failed e) (inl l) later = let at : nearest p (reverse (take (suc i) ks)) ≡ nearest p before = number ∙ rw e in later (omega arith) l
    go (failed e) (inr g) later = ap (λ (j : ℕ). p (get_or ks j 0)) (let at : m ≡ i = omega arith in at) ∙ e

module _ (lv : ℕ → ℕ) (ks : List ℕ) where
  -- an owner stands earlier
  pub owner-before : (i : ℕ) → i < length ks → get_or (owners lv ks) i 0 ≤ i
  owner-before i h = by (get_or (owners lv ks) i 0) refl
    where
      by : (n : ℕ) → get_or (owners lv ks) i 0 ≡ n → n ≤ i
      by zero e = omega arith
      by (suc n) e = (owner-earlier lv ks i n h e).before

  -- the rows between a row and its owner
  module _ (i m : ℕ) (h : i < length ks) (from : get_or (owners lv ks) i 0 ≤ m) (to : m < i) where
    passed_by : (p : ℕ → Bool) → owner lv (reverse (take i ks)) (get_or ks i 0) ≡ nearest p (reverse (take i ks)) → p (get_or ks m 0) ≡ false
    passed_by p e = none_between p ks i (le_of_lt h) m (omega (arith, owners_at lv ks i h, e)) to

    -- of a C they all are C
    C_between : is_c (get_or ks i 0) ≡ true → is_c (get_or ks m 0) ≡ true
    unfolding owner
    C_between c = go (tested (is_c (get_or ks m 0)))
      where
        go : Tested (is_c (get_or ks m 0)) → is_c (get_or ks m 0) ≡ true
        go (passed e) = e
        go (failed e) = absurd (never_both (not_holds (is_c (get_or ks m 0)) e) (passed_by (λ j. not (is_c j)) (rw (c, owner))))

    -- of any other none, C left out, has a lower level
    pub none_lower : is_c (get_or ks i 0) ≡ false → is_c (get_or ks m 0) ≡ false → lv (get_or ks i 0) ≤ lv (get_or ks m 0)
    unfolding owner
    none_lower c e =
        ltb-false (lv (get_or ks m 0)) (lv (get_or ks i 0))
        (sym (and_passed (ltb (lv (get_or ks m 0)) (lv (get_or ks i 0))) (not_holds (is_c (get_or ks m 0)) e))
        ∙ passed_by (λ j. not (is_c j) && ltb (lv j) (lv (get_or ks i 0))) (rw (c, owner)))

  -- row `suc r`, which is no C, owns no row but C from index k on, once one behind it at j has an earlier owner
  pub past_owner : (r j k : ℕ) → suc r ≤ j → j ≤ k → k < length ks → is_c (get_or ks r 0) ≡ false → is_c (get_or ks k 0) ≡ false
      → get_or (owners lv ks) j 0 < suc r → get_or (owners lv ks) k 0 ≡ suc r → ⊥
  past_owner r j k behind up h r-other k-other gone own = go (tested (is_c (get_or ks j 0))) (less_or_not j k)
    where
      inside : j < length ks
      inside = omega arith

      go : Tested (is_c (get_or ks j 0)) → (j < k) ⊎ (k ≤ j) → ⊥
      go (passed c) s = never_both (C_between j r inside (omega arith) behind c) r-other
      go (failed c) (inl l) =
          omega (
            arith,
            none_lower j r inside (omega arith) behind c r-other,
            none_lower k j h (omega arith) l k-other c,
            (owner-earlier lv ks k r h own).smaller k-other,
          )
      go (failed c) (inr g) = omega (arith, ap (λ (i : ℕ). get_or (owners lv ks) i 0) (let e : j ≡ k = omega arith in e))
