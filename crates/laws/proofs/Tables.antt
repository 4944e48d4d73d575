-- Computed tables and tests over all numbers below a bound: one test, carried to each number.
-- Assumes nothing.
use mathlib.Core.Bool.{Bool, true, false}
use mathlib.Core.List.{List, [], ◌∷◌, ◌++◌}
use mathlib.Core.Logic.{◌⊎◌, inl, inr}
use mathlib.Core.Path.{◌≡◌, refl, ap, ap₂, ◌∙◌, sym}
use Prim.Native.Nat.{ℕ, zero, suc, ◌+◌, ◌-◌, ◌≤◌, ◌<◌}
use native.Mathlib.Nat.{add-zero, zero-add, add-suc, suc-add, le_of_suc-le-suc, not-suc-le-zero}
use native.Mathlib.Omega.{arith}
use borrow.Author.Tests.{eq-eqb, ne_eqb}
use lib.Dec.{eqb}
use lib.ListN.{length, get_or, set, replicate}
use Rattle.laws.specs.Tables.{values}
use Rattle.laws.specs.inner.Tests.{every_from, below}
use Rattle.laws.proofs.Cases.{equal_or_not}
use Rattle.laws.proofs.Tests.{Tested, passed, failed, tested, never_both}

pub length-values {ℓ} : {A : Type ℓ} (f : ℕ → A) (i n : ℕ) → length (values f i n) ≡ n
unfolding values
length-values f i zero = refl
length-values f i (suc n) = ap suc (length-values f (suc i) n)

-- the k-th of the values from i on
pub get_or_values {ℓ} : {A : Type ℓ} (f : ℕ → A) (i n k : ℕ) (d : A) → k < n → get_or (values f i n) k d ≡ f (i + k)
unfolding values
get_or_values f i zero k d h = absurd (not-suc-le-zero h)
get_or_values f i (suc n) zero d h = ap f (sym (add-zero i))
get_or_values f i (suc n) (suc k) d h =
    get_or_values f (suc i) n k d (le_of_suc-le-suc h) ∙ ap f (suc-add i k ∙ sym (add-suc i k))

pub get_or_values_zero {ℓ} : {A : Type ℓ} (f : ℕ → A) (n k : ℕ) (d : A) → k < n → get_or (values f 0 n) k d ≡ f k
get_or_values_zero f n k d h = get_or_values f 0 n k d h ∙ ap f (zero-add k)

-- one test over all numbers from i on, at each of them
pub every_at : (f : ℕ → Bool) (i n : ℕ) → every_from f i n ≡ true → (k : ℕ) → i ≤ k → k < i + n → f k ≡ true
unfolding every_from
every_at f i zero t k low high = absurd (omega arith)
every_at f i (suc n) t k low high = go (tested (f i)) (equal_or_not i k) (λ later less. every_at f (suc i) n later k less (omega arith))
  where
    go : Tested (f i) → (i ≡ k) ⊎ (i ≡ k → ⊥) → (every_from f (suc i) n ≡ true → i < k → f k ≡ true) → f k ≡ true
    go (passed h) (inl e) later = rw (← e) h
    go (passed h) (inr e) later = later (rw (h, every_from) at t) (omega arith)
    go (failed h) e later = absurd (never_both t (rw (h, every_from)))

pub at : (n : ℕ) (f : ℕ → Bool) → below n f ≡ true → (k : ℕ) → k < n → f k ≡ true
at n f t k h = every_at f 0 n t k (omega arith) (omega arith)

-- two tables are the same where their functions are
pub values_same {ℓ} : {A : Type ℓ} (f g : ℕ → A) (i n : ℕ) → ((k : ℕ) → i ≤ k → k < i + n → f k ≡ g k) → values f i n ≡ values g i n
unfolding values
values_same f g i zero e = refl
values_same f g i (suc n) e =
    ap₂ (λ a s. a ∷ s) (e i (omega arith) (omega arith)) (values_same f g (suc i) n (λ k low high. e k (omega arith) (omega arith)))

-- the function that is v at k, and else f
abbrev pub changed {ℓ} : {A : Type ℓ} → (ℕ → A) → ℕ → A → ℕ → A
changed f k v m = elim (eqb m k) [ true ↦ v | false ↦ f m ]

pub changed_here {ℓ} : {A : Type ℓ} (f : ℕ → A) (k : ℕ) (v : A) (m : ℕ) → m ≡ k → changed f k v m ≡ v
changed_here f k v m e = ap (λ (b : Bool). elim b [ true ↦ v | false ↦ f m ]) (eq-eqb m k e)

pub changed_other {ℓ} : {A : Type ℓ} (f : ℕ → A) (k : ℕ) (v : A) (m : ℕ) → (m ≡ k → ⊥) → changed f k v m ≡ f m
changed_other f k v m e = ap (λ (b : Bool). elim b [ true ↦ v | false ↦ f m ]) (ne_eqb m k e)

-- a store into a table changes its function
pub set_values {ℓ} : {A : Type ℓ} (f : ℕ → A) (i n k : ℕ) (v : A) → set (values f i n) k v ≡ values (changed f (i + k) v) i n
unfolding values
set_values f i zero k v = refl
set_values f i (suc n) zero v =
    ap₂ (λ a s. a ∷ s) (sym (changed_here f (i + 0) v i (omega arith)))
    (values_same f (changed f (i + 0) v) (suc i) n (λ m low high. sym (changed_other f (i + 0) v m (λ e. omega arith))))
set_values f i (suc n) (suc k) v =
    ap₂ (λ a s. a ∷ s) (sym (changed_other f (i + suc k) v i (λ e. omega arith)))
    (set_values f (suc i) n k v ∙ ap (λ (m : ℕ). values (changed f m v) (suc i) n) (omega arith))

-- a repeated value as a table
pub replicate-values {ℓ} : {A : Type ℓ} (a : A) (i n : ℕ) → replicate n a ≡ values (λ (k : ℕ). a) i n
unfolding values
replicate-values a i zero = refl
replicate-values a i (suc n) = ap (λ s. a ∷ s) (replicate-values a (suc i) n)

-- a table from one further on
pub values-later {ℓ} : {A : Type ℓ} (f : ℕ → A) (i n : ℕ) → values f (suc i) n ≡ values (λ k. f (suc k)) i n
unfolding values
values-later f i zero = refl
values-later {A} f i (suc n) = ap {B = List A} (λ r. f (suc i) ∷ r) (values-later f (suc i) n)

-- a list as the table of its entries
pub values-entries {ℓ} : {A : Type ℓ} (l : List A) (d : A) → values (λ k. get_or l k d) 0 (length l) ≡ l
unfolding values
values-entries [] d = refl
values-entries {A = A} (x ∷ l) d = ap {B = List A} (λ r. x ∷ r) (values-later (λ k. get_or (x ∷ l) k d) 0 (length l) ∙ values-entries l d)

-- two tables whose functions agree everywhere
pub values_as {ℓ} : {A : Type ℓ} (f g : ℕ → A) → ((k : ℕ) → f k ≡ g k) → (i n : ℕ) → values f i n ≡ values g i n
values_as f g h i n = values_same f g i n (λ k low high. h k)

-- the values from i up to n, as a loop comes to them: one more, and none left
pub values_turn {ℓ} : {A : Type ℓ} (f : ℕ → A) (i n : ℕ) → i < n → values f i (n - i) ≡ f i ∷ values f (i + 1) (n - (i + 1))
unfolding values
values_turn {A = A} f i n h =
    ap {B = List A} (values f i) (let e : n - i ≡ suc (n - (i + 1)) = omega arith in e)
    ∙ ap {B = List A} (λ (k : ℕ). f i ∷ values f k (n - (i + 1))) (let e : suc i ≡ i + 1 = omega arith in e)

pub values-end {ℓ} : {A : Type ℓ} (f : ℕ → A) (i n : ℕ) → n ≤ i → values f i (n - i) ≡ []
unfolding values
values-end {A = A} f i n h = ap {B = List A} (values f i) (let e : n - i ≡ 0 = omega arith in e)

values_at {ℓ} : {A : Type ℓ} (f : ℕ → A) {i j m n : ℕ} → i ≡ j → m ≡ n → values f i m ≡ values f j n
values_at {A = A} f e d = ap₂ {C = List A} (values f) e d

-- two stretches in a row
pub values-append {ℓ} : {A : Type ℓ} (f : ℕ → A) (i m n : ℕ) → values f i (m + n) ≡ values f i m ++ values f (i + m) n
unfolding values
values-append f i zero n = values_at f (let e : i ≡ i + 0 = omega arith in e) (let e : 0 + n ≡ n = omega arith in e)
values-append {A = A} f i (suc m) n =
    ap {B = List A} (values f i) (suc-add m n)
    ∙ ap {B = List A} (λ (r : List A). f i ∷ r) (values-append f (suc i) m n ∙ ap {B = List A} (λ (k : ℕ). values f (suc i) m ++ values f k n) (let e : suc i + m ≡ i + suc m = omega arith in e))
