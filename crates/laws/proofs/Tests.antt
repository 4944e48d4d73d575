-- Tests, as equations with `true` and `false`: the two cases of a test, and what an `&&` or an `||` that holds says.
-- Assumes nothing.
use mathlib.Core.Bool.{Bool, true, false, not, ◌&&◌, ◌||◌, beq, false≢true}
use mathlib.Core.Logic.{◌⊎◌, inl, inr}
use mathlib.Core.Path.{◌≡◌, refl, sym, ◌∙◌}

-- a test holds or fails
pub either : (t : Bool) → (t ≡ true) ⊎ (t ≡ false)
either true = inl refl
either false = inr refl

-- a test, with what it came to
pub data Tested (t : Bool) : Type 0 where
  passed : t ≡ true → Tested t
  failed : t ≡ false → Tested t

pub tested : (t : Bool) → Tested t
tested true = passed refl
tested false = failed refl

-- no test does both
pub never_both : {t : Bool} → t ≡ true → t ≡ false → ⊥
never_both h k = false≢true (sym k ∙ h)

pub and_first : (s t : Bool) → (s && t) ≡ true → s ≡ true
and_first true t h = refl
and_first false t h = h

pub and_second : (s t : Bool) → (s && t) ≡ true → t ≡ true
and_second true t h = h
and_second false t h = absurd (false≢true h)

pub and_both : {s t : Bool} → s ≡ true → t ≡ true → (s && t) ≡ true
and_both h k = rw (h, k)

-- what fails on the left, or on the right
pub and_fails_first : {s : Bool} (t : Bool) → s ≡ false → (s && t) ≡ false
and_fails_first t h = rw h

pub and_fails_second : (s : Bool) {t : Bool} → t ≡ false → (s && t) ≡ false
and_fails_second true h = h
and_fails_second false h = refl

-- what is asked second counts only where the first holds
pub and_where : (s t u : Bool) → (s ≡ true → t ≡ u) → (s && t) ≡ (s && u)
and_where true t u h = h refl
and_where false t u h = refl

pub not_holds : (t : Bool) → t ≡ false → not t ≡ true
not_holds t h = rw h

-- what holds on the left leaves the right
pub and_passed : {s : Bool} (t : Bool) → s ≡ true → (s && t) ≡ t
and_passed t h = rw h

-- what holds on the left, or on the right
pub or_first : {s : Bool} (t : Bool) → s ≡ true → (s || t) ≡ true
or_first t h = rw h

pub or_second : (s : Bool) {t : Bool} → t ≡ true → (s || t) ≡ true
or_second true h = refl
or_second false h = h

pub or_fails : {s t : Bool} → s ≡ false → t ≡ false → (s || t) ≡ false
or_fails h k = rw (h, k)

pub or_cases : (s t : Bool) → (s || t) ≡ true → (s ≡ true) ⊎ (t ≡ true)
or_cases true t h = inl refl
or_cases false t h = inr h

-- a test that is asked only where another holds
pub where_holds : {s : Bool} (t : Bool) → s ≡ true → ◌≡◌ {A = Bool} (elim s [ true ↦ t | false ↦ true ]) true → t ≡ true
where_holds t h = rw h (λ g. g)

pub never-holds : (t : Bool) → (t ≡ true → ⊥) → t ≡ false
never-holds true h = absurd (h refl)
never-holds false h = refl

pub equal_tests : (s t : Bool) → beq s t ≡ true → s ≡ t
equal_tests true true h = refl
equal_tests true false h = sym h
equal_tests false true h = h
equal_tests false false h = refl
