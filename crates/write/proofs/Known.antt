-- A number that names something, or none where it is 0.
-- Assumes nothing.
use mathlib.Core.Bool.{Bool, true, false, not, ◌&&◌, cond}
use mathlib.Core.Path.{◌≡◌, sym, ap, ◌∙◌}
use Prim.Native.Nat.{ℕ, ◌≤◌}
use native.Mathlib.Omega.{arith}
use lib.Dec.{eqb}
use borrow.Author.Tests.{eqb-true, eqb-false, eq-eqb, ne_eqb}
use Rattle.std.specs.Prelude.{Option, Some, None}
use Rattle.std.specs.Option.{option_eq}
use Rattle.laws.proofs.Tests.{Tested, passed, failed, tested, and_passed, and_fails_first, and_fails_second}
use Rattle.write.specs.inner.Tests.{known}

by_test : (n : ℕ) {b : Bool} → eqb n 0 ≡ b → known n ≡ cond b None (Some n)
by_test n e = ap (λ (b : Bool). cond b None (Some n)) e

pub known_none : {n : ℕ} → n ≡ 0 → None ≡ known n
known_none {n} e = sym (by_test n (eq-eqb n 0 e))

pub known_some : {n : ℕ} → (n ≡ 0 → ⊥) → Some n ≡ known n
known_some {n} d = sym (by_test n (ne_eqb n 0 d))

pub unknown : {n : ℕ} → None ≡ known n → n ≡ 0
unknown {n} e = go (tested (eqb n 0))
  where
    go : Tested (eqb n 0) → n ≡ 0
    go (passed h) = eqb-true n 0 h
    go (failed h) = let q : None ≡ Some n = e ∙ by_test n h in cc

-- what a number that is known is
pub record IsKnown (k n : ℕ) : Type 0 where
  pub is : k ≡ n
  pub some : 1 ≤ k

pub is_known : {k n : ℕ} → Some k ≡ known n → IsKnown k n
is_known {k} {n} e = go (tested (eqb n 0))
  where
    go : Tested (eqb n 0) → IsKnown k n
    go (passed h) = let q : Some k ≡ None = e ∙ by_test n h in cc
    go (failed h) =
        let q : Some k ≡ Some n = e ∙ by_test n h in
        let same : k ≡ n = cc in
        let some : n ≡ 0 → ⊥ = eqb-false n 0 h in
        record { is = same; some = omega arith }

-- whether it is another one
pub known_is : (n k : ℕ) → option_eq eqb (known n) (Some k) ≡ (not (eqb k 0) && eqb n k)
known_is n k = go (tested (eqb n 0)) (tested (eqb k 0))
  where
    reading : {b : Bool} → eqb n 0 ≡ b → option_eq eqb (known n) (Some k) ≡ option_eq eqb (cond b None (Some n)) (Some k)
    reading e = ap (λ (o : Option ℕ). option_eq eqb o (Some k)) (by_test n e)

    apart : {a b : ℕ} → eqb a 0 ≡ true → eqb b 0 ≡ false → a ≡ b → ⊥
    apart {a} {b} p q e = eqb-false b 0 q (sym e ∙ eqb-true a 0 p)

    go : Tested (eqb n 0) → Tested (eqb k 0) → option_eq eqb (known n) (Some k) ≡ (not (eqb k 0) && eqb n k)
    go (passed p) (passed q) = reading p ∙ sym (and_fails_first (eqb n k) (ap not q))
    go (passed p) (failed q) = reading p ∙ sym (and_fails_second (not (eqb k 0)) (ne_eqb n k (apart p q)))
    go (failed p) (passed q) = reading p ∙ ne_eqb n k (λ e. apart q p (sym e)) ∙ sym (and_fails_first (eqb n k) (ap not q))
    go (failed p) (failed q) = reading p ∙ sym (and_passed (eqb n k) (ap not q))
