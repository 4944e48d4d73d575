-- Searching: the first of some numbers that passes a test, the turns of a loop that searches, and what a search depends on.
-- Assumes nothing.
use mathlib.Core.Bool.{Bool, true, false}
use mathlib.Core.Path.{◌≡◌, refl, sym, ap, ◌∙◌, subst⁻¹}
use Prim.Native.Nat.{ℕ, zero, suc, ◌+◌, ◌-◌, ◌<◌, ◌≤◌}
use native.Mathlib.Numerals.{add-one}
use native.Mathlib.Omega.{arith}
use Rattle.laws.proofs.Tests.{Tested, passed, failed, tested}

-- what is made of the first of n numbers from i on that passes a test, or else what there is for none
unfoldable pub first_of {ℓ} : {A : Type ℓ} → (ℕ → Bool) → (ℕ → A) → A → ℕ → ℕ → A
first_of test hit none i zero = none
first_of test hit none i (suc n) = elim (test i) [ true ↦ hit i | false ↦ first_of test hit none (suc i) n ]

module _ {ℓ} {A : Type ℓ} (test : ℕ → Bool) (hit : ℕ → A) (none : A) where
  pub first_of_hit : (i n : ℕ) → test i ≡ true → first_of test hit none i (suc n) ≡ hit i
  unfolding first_of
  first_of_hit i n e = rw (e, first_of)

  pub first_of_miss : (i n : ℕ) → test i ≡ false → first_of test hit none i (suc n) ≡ first_of test hit none (suc i) n
  unfolding first_of
  first_of_miss i n e = rw (e, first_of)

  -- what holds of each hit, and of none, holds of what is found
  pub first_of_holds {κ} : (P : A → Type κ) → P none → ((k : ℕ) → test k ≡ true → P (hit k)) → (i n : ℕ) → P (first_of test hit none i n)
  unfolding first_of
  first_of_holds P empty each i zero = empty
  first_of_holds P empty each i (suc n) = go (tested (test i)) (first_of_holds P empty each (suc i) n)
    where
      go : Tested (test i) → P (first_of test hit none (suc i) n) → P (first_of test hit none i (suc n))
      go (passed e) later = subst⁻¹ P (first_of_hit i n e) (each i e)
      go (failed e) later = subst⁻¹ P (first_of_miss i n e) later

  -- a loop that searches the numbers below `end` from `from` on, before its turn at i: what is left gives the whole
  pub record Searching (from end i : ℕ) : Type ℓ where
    pub rest : first_of test hit none i (end - i) ≡ first_of test hit none from (end - from)

  pub search_begins : (from end : ℕ) → Searching from end from
  search_begins from end = record { rest = refl }

  module _ {from end i : ℕ} (s : Searching from end i) where
    turn : i < end → first_of test hit none i (suc (end - (i + 1))) ≡ first_of test hit none from (end - from)
    turn h = ap (λ (n : ℕ). first_of test hit none i n) (let e : suc (end - (i + 1)) ≡ end - i = omega arith in e) ∙ s.rest

    pub search_hit : i < end → test i ≡ true → hit i ≡ first_of test hit none from (end - from)
    search_hit h e = sym (first_of_hit i (end - (i + 1)) e) ∙ turn h

    pub search_miss : i < end → test i ≡ false → Searching from end (i + 1)
    search_miss h e = record {
      rest =
          ap (λ (k : ℕ). first_of test hit none k (end - (i + 1))) (add-one i) ∙ sym (first_of_miss i (end - (i + 1)) e)
          ∙ turn h;
    }

    pub search_done : end ≤ i → none ≡ first_of test hit none from (end - from)
    unfolding first_of
    search_done h = ap (λ (n : ℕ). first_of test hit none i n) (let e : 0 ≡ end - i = omega arith in e) ∙ s.rest

-- a search depends on the test and on what is made of a number at the numbers searched, and on nothing else
module _ {ℓ} {A : Type ℓ} (test other : ℕ → Bool) (hit that : ℕ → A) (none : A) where
  pub first_of_same : (i n : ℕ) → ((k : ℕ) → i ≤ k → k < i + n → test k ≡ other k) → ((k : ℕ) → i ≤ k → k < i + n → hit k ≡ that k)
      → first_of test hit none i n ≡ first_of other that none i n
  unfolding first_of
  first_of_same i zero tests hits = refl
  first_of_same i (suc n) tests hits =
      go (tested (other i)) (first_of_same (suc i) n (λ k g h. tests k (omega arith) (omega arith)) (λ k g h. hits k (omega arith) (omega arith)))
    where
      go : Tested (other i) → first_of test hit none (suc i) n ≡ first_of other that none (suc i) n
          → first_of test hit none i (suc n) ≡ first_of other that none i (suc n)
      go (passed e) later =
          first_of_hit test hit none i n (tests i (omega arith) (omega arith) ∙ e) ∙ hits i (omega arith) (omega arith) ∙ sym (first_of_hit other that none i n e)
      go (failed e) later =
          first_of_miss test hit none i n (tests i (omega arith) (omega arith) ∙ e) ∙ later ∙ sym (first_of_miss other that none i n e)
