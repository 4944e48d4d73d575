-- The first of the numbers that pass a test, if there is one: how far a search for it has come, and
-- what it has found.
-- Assumes nothing.
use Rattle.std.specs.Prelude.{Some, None, slice_get}
use mathlib.Core.Bool.{Bool, true, false}
use mathlib.Core.List.{List, [], ◌∷◌}
use mathlib.Core.Path.{◌≡◌, refl, sym, ap, ◌∙◌}
use Prim.Native.Nat.{ℕ, suc, ◌+◌, ◌-◌, ◌≤◌, ◌<◌}
use native.Mathlib.Numerals.{add-one}
use native.Mathlib.Omega.{arith}
use Rattle.laws.specs.Tables.{passing}
use Rattle.value.specs.inner.Seeking.{first_passing}
use Rattle.laws.proofs.Passing.{passing_hit, passing_miss, passing-none, Passed, none, first, first-passed, FirstPassed}

module _ (test : ℕ → Bool) where
  -- a search from `from` on and below `end`, before its turn at i: what passes from here on is what
  -- passes at all
  pub record Sought (from end i : ℕ) : Type 0 where
    pub rest : passing test i (end - i) ≡ passing test from (end - from)

  module _ {from end i : ℕ} (s : Sought from end i) where
    turn : i < end → passing test i (suc (end - (i + 1))) ≡ passing test from (end - from)
    turn h = ap (passing test i) (let e : suc (end - (i + 1)) ≡ end - i = omega arith in e) ∙ s.rest

    pub sought_found : i < end → test i ≡ true → Some i ≡ first_passing test from end
    sought_found h e = ap (λ (l : List ℕ). slice_get l 0) (sym (passing_hit test i (end - (i + 1)) e) ∙ turn h)

    pub sought_on : i < end → test i ≡ false → Sought from end (i + 1)
    sought_on h e =
        record { rest = ap (λ (k : ℕ). passing test k (end - (i + 1))) (add-one i) ∙ sym (passing_miss test i (end - (i + 1)) e) ∙ turn h }

    pub sought_ends : ((k : ℕ) → i ≤ k → k < end → test k ≡ false) → None ≡ first_passing test from end
    sought_ends fails =
        ap (λ (l : List ℕ). slice_get l 0) (sym (passing-none test i (end - i) (λ k g h. fails k g (omega (arith, g, h)))) ∙ s.rest)

    pub sought_done : end ≤ i → None ≡ first_passing test from end
    sought_done h = sought_ends (λ k g l. absurd (omega (arith, h, g, l)))

  -- what such a search has found
  pub none_passing : (from end : ℕ) → None ≡ first_passing test from end → passing test from (end - from) ≡ []
  none_passing from end e = by (passing test from (end - from)) e
    where
      by : (l : List ℕ) → None ≡ slice_get l 0 → l ≡ []
      by [] q = refl
      by (k ∷ l) q = cc

  pub first_found : {from end r : ℕ} → from ≤ end → Some r ≡ first_passing test from end → FirstPassed test from end r
  first_found {from} {end} {r} rising e = by (first-passed test from (end - from))
    where
      by : Passed test from (end - from) → FirstPassed test from end r
      by (none q) = let f = e ∙ ap (λ (l : List ℕ). slice_get l 0) q in cc
      by (first k g h p q) =
          let f = e ∙ ap (λ (l : List ℕ). slice_get l 0) q in
          let same : k ≡ r = cc in
          record {
            later = omega (arith, g, same);
            within = omega (arith, h, same, rising);
            passes = ap test (sym same) ∙ p;
            rest = q
                ∙ ap (λ (m : ℕ). k ∷ passing test (suc k) m) (let w : from + (end - from) - suc k ≡ end - suc k = omega (arith, rising) in w)
                ∙ ap (λ (j : ℕ). j ∷ passing test (suc j) (end - suc j)) same;
          }
