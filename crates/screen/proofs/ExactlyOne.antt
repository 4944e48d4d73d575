-- Exactly one of some numbers passes a test: they that pass are one in number.
-- Assumes nothing.
use mathlib.Core.Bool.{Bool, true}
use mathlib.Core.Path.{◌≡◌, refl, sym, ap, ◌∙◌}
use Prim.Native.Nat.{ℕ, zero, suc, ◌<◌}
use native.Mathlib.Omega.{arith}
use lib.ListN.{length, get_or}
use Rattle.laws.specs.Tables.{passing}
use Rattle.laws.proofs.Passing.{passing_passes, passing-rises, passing_lists}

module _ (test : ℕ → Bool) (n : ℕ) where
  -- j passes, and no other number below n does
  pub record OnlyPasses (j : ℕ) : Type 0 where
    pub within : j < n
    pub passes : test j ≡ true
    pub no_other : (m : ℕ) → m < n → test m ≡ true → m ≡ j

  first_of : length (passing test 0 n) ≡ 1 → (m : ℕ) → m < n → test m ≡ true → m ≡ get_or (passing test 0 n) 0 0
  first_of e m h q =
      let l = passing_lists test 0 n m (record { from = omega arith; to = omega (arith, h); passes = q }) in
      sym l.there ∙ ap (λ (k : ℕ). get_or (passing test 0 n) k 0) (let z : l.which ≡ 0 = omega (arith, l.within, e) in z)

  pub one_passes : length (passing test 0 n) ≡ 1 → (j : ℕ) × OnlyPasses j
  one_passes e =
      let p = passing_passes test 0 n 0 (omega (arith, e)) in
      (get_or (passing test 0 n) 0 0, record { within = omega (arith, p.to); passes = p.passes; no_other = first_of e })

  pub passes_once : (j : ℕ) → OnlyPasses j → length (passing test 0 n) ≡ 1
  passes_once j w = by (length (passing test 0 n)) refl
    where
      each : (k : ℕ) → k < length (passing test 0 n) → get_or (passing test 0 n) k 0 ≡ j
      each k h = let p = passing_passes test 0 n k h in w.no_other (get_or (passing test 0 n) k 0) (omega (arith, p.to)) p.passes

      by : (c : ℕ) → length (passing test 0 n) ≡ c → length (passing test 0 n) ≡ 1
      by zero e =
          absurd (let l = passing_lists test 0 n j (record { from = omega arith; to = omega (arith, w.within); passes = w.passes }) in omega (arith, l.within, e))
      by (suc zero) e = e
      by (suc (suc c)) e =
          absurd (omega (arith, passing-rises test 0 n 0 (omega (arith, e)), each 0 (omega (arith, e)), each 1 (omega (arith, e))))
