-- The first number that passes a test (`FirstFit`, `NoFit`) is what a search finds, and a search over some numbers is one over a part of them
-- where no other passes.
-- Assumes nothing.
use mathlib.Core.Bool.{Bool, false}
use mathlib.Core.Logic.{◌⊎◌, inl, inr}
use mathlib.Core.Path.{◌≡◌, refl, sym, ap, ◌∙◌, subst⁻¹}
use Prim.Native.Nat.{ℕ, zero, suc, ◌+◌, ◌-◌, ◌≤◌, ◌<◌}
use native.Mathlib.Omega.{arith}
use Rattle.laws.proofs.Cases.{less_or_not}
use Rattle.laws.proofs.Searching.{first_of, first_of_hit, first_of_miss}
use Rattle.laws.proofs.Tests.{Tested, passed, failed, tested, never_both}
use Rattle.look.specs.Matches.{FirstFit, NoFit}

-- a test that fails at i and at every later number fails from i on
from_here : (test : ℕ → Bool) (i j : ℕ) → i ≤ j → test i ≡ false → (suc i ≤ j → test j ≡ false) → test j ≡ false
from_here test i j from miss later = pick (less_or_not i j)
  where
    pick : (i < j) ⊎ (j ≤ i) → test j ≡ false
    pick (inl h) = later (omega (arith, h))
    pick (inr h) = let same : j ≡ i = omega (arith, from, h) in ap test same ∙ miss

-- what holds of a hit at the first number that fits, and of none where no number does, holds of what a search finds
module _ {A : Type 0} (test : ℕ → Bool) (hit : ℕ → A) (none : A) (P : A → Type 0) where
  pub first_means : (i n end : ℕ) → end ≡ i + n → (NoFit test i end → P none) → ((k : ℕ) → FirstFit test i end k → P (hit k))
      → P (first_of test hit none i n)
  unfolding first_of
  first_means i zero end e empty each = empty (λ j from to. absurd (omega (arith, e, from, to)))
  first_means i (suc n) end e empty each = by (tested (test i)) (first_means (suc i) n end (omega (arith, e)))
    where
      by : Tested (test i)
          → ((NoFit test (suc i) end → P none) → ((k : ℕ) → FirstFit test (suc i) end k → P (hit k)) → P (first_of test hit none (suc i) n))
          → P (first_of test hit none i (suc n))
      by (passed h) later =
          subst⁻¹ P (first_of_hit test hit none i n h)
          (each i (record { later = omega arith; within = omega (arith, e); fits = h; first = λ j from to. absurd (omega (arith, from, to)) }))
      by (failed h) later =
          subst⁻¹ P (first_of_miss test hit none i n h)
          (later
          (λ no. empty (λ j from to. from_here test i j from h (λ g. no j g to)))
          (λ k f.
          each k
          (record {
            later = omega (arith, f.later);
            within = f.within;
            fits = f.fits;
            first = λ j from to. from_here test i j from h (λ g. f.first j g to);
          })))

-- and a number that is the first to fit is what a search finds
module _ {A : Type 0} (test : ℕ → Bool) (hit : ℕ → A) (none : A) where
  pub first_fit_found : (i n end k : ℕ) → end ≡ i + n → FirstFit test i end k → hit k ≡ first_of test hit none i n
  first_fit_found i n end k e f =
      first_means test hit none (λ (a : A). hit k ≡ a) i n end e
      (λ no. absurd (never_both f.fits (no k f.later f.within)))
      (λ j g. ap hit (one-first f g))
    where
      one-first : {j : ℕ} → FirstFit test i end k → FirstFit test i end j → k ≡ j
      one-first {j} f g = pick (less_or_not k j) (less_or_not j k)
        where
          pick : (k < j) ⊎ (j ≤ k) → (j < k) ⊎ (k ≤ j) → k ≡ j
          pick (inl h) other = absurd (never_both f.fits (g.first k f.later h))
          pick (inr h) (inl g') = absurd (never_both g.fits (f.first j g.later g'))
          pick (inr h) (inr g') = omega (arith, h, g')

  pub none_found : (i n end : ℕ) → end ≡ i + n → NoFit test i end → none ≡ first_of test hit none i n
  none_found i n end e misses =
      first_means test hit none (λ (a : A). none ≡ a) i n end e (λ w. refl) (λ j g. absurd (never_both g.fits (misses j g.later g.within)))

-- of the numbers below n only those from `from` on and below `to` pass a test, and there it says what another says
module _ {A : Type 0} (test other : ℕ → Bool) (hit : ℕ → A) (none : A) (n from to : ℕ) (few : to ≤ n)
    (outside : (k : ℕ) → k < n → (k < from) ⊎ (to ≤ k) → test k ≡ false)
    (inside : (k : ℕ) → from ≤ k → k < to → test k ≡ other k) where
  -- a number outside the part, or in it where the part's test fails, fails the whole's test
  fails-whole : (j : ℕ) → j < n → (from ≤ j → j < to → other j ≡ false) → test j ≡ false
  fails-whole j h fails = pick (less_or_not j from) (less_or_not j to)
    where
      pick : (j < from) ⊎ (from ≤ j) → (j < to) ⊎ (to ≤ j) → test j ≡ false
      pick (inl b) w = outside j h (inl b)
      pick (inr f) (inl t) = inside j f t ∙ fails f t
      pick (inr f) (inr t) = outside j h (inr t)

  pub part_searched : first_of test hit none 0 n ≡ first_of other hit none from (to - from)
  part_searched =
      first_means other hit none (λ (a : A). first_of test hit none 0 n ≡ a) from (to - from) (from + (to - from)) refl
      (λ no. sym (none_found test hit none 0 n n (omega arith) (λ j f h. fails-whole j h (λ g t. no j g (omega (arith, g, t))))))
      (λ k f.
      let above = f.later in
      let below : k < to = omega (arith, f.later, f.within) in
      sym (first_fit_found test hit none 0 n n k (omega arith)
      (record {
        later = omega arith;
        within = omega (arith, below, few);
        fits = inside k above below ∙ f.fits;
        first = λ j g h. fails-whole j (omega (arith, h, below, few)) (λ u v. f.first j u h);
      })))
