-- The seven grammars: a number is a context or has the grammar `never`, and the seven are alive.
-- Assumes nothing.
use mathlib.Core.Bool.{Bool, true}
use mathlib.Core.List.{◌∷◌, map}
use mathlib.Core.Logic.{◌⊎◌, inl, inr, ⊎_elim}
use mathlib.Core.Path.{◌≡◌, refl}
use Prim.Native.Nat.{ℕ, zero, suc, ◌≤◌, ◌<◌}
use native.Mathlib.Omega.{arith}
use borrow.Author.Tests.{leb-true, le-leb}
use lib.Dec.{leb}
use lib.ListN.{get_or-eq_default}
use Rattle.laws.specs.Lists.{among}
use Rattle.laws.specs.inner.Tests.{below, every_from}
use Rattle.laws.proofs.Cases.{less_or_not}
use Rattle.laws.proofs.Tests.{and_first, and_second, and_both}
use Rattle.laws.proofs.Tables.{at}
use Rattle.order.specs.Grammar.{never}
use Rattle.order.specs.Contexts.{segment, H, P, AP, AC, OBR, OBX, FAC, REG, ACT, ERR, L, orders, cover, invoices, bodies, message_shape, grammar, is_context}
use Rattle.order.specs.inner.Place.{empties, told, row_told, rows_told, rows_after, some_left}
use Rattle.order.specs.inner.Followers.{ways, before, left_at}
use Rattle.order.proofs.Begun.{alive}

-- whoever opens this opens the grammars, down to their shapes
unfoldable pub grammars : Unit {0}
unfolding grammar message_shape bodies orders cover invoices segment H P AP AC OBR OBX FAC REG ACT ERR L
grammars = tt

-- and this, what is left of them at each state
unfoldable pub states : Unit {0}
unfolding grammars left_at before ways among rows_after rows_told row_told told some_left empties
states = tt

pub context-from : (c : ℕ) → is_context c ≡ true → 1 ≤ c
unfolding is_context
context-from c h = leb-true 1 c (and_first (leb 1 c) (leb c 7) h)

pub context-to : (c : ℕ) → is_context c ≡ true → c ≤ 7
unfolding is_context
context-to c h = leb-true c 7 (and_second (leb 1 c) (leb c 7) h)

pub context-within : (c : ℕ) → 1 ≤ c → c ≤ 7 → is_context c ≡ true
unfolding is_context
context-within c h g = and_both (le-leb 1 c h) (le-leb c 7 g)

-- a test of the numbers 1 to 7, with none, one or two more numbers below a bound, passes at every context

pub all_seven : (f : ℕ → Bool) → below 7 (λ i. f (suc i)) ≡ true → (c : ℕ) → is_context c ≡ true → f c ≡ true
all_seven f h zero t = let z : ⊥ = omega (arith, context-from 0 t) in absurd z
all_seven f h (suc i) t = at 7 (λ j. f (suc j)) h i (context-to (suc i) t)

module _ (m : ℕ) where
  pub all_seven₂ : (f : ℕ → ℕ → Bool) → below 7 (λ i. below m (f (suc i))) ≡ true → (c : ℕ) → is_context c ≡ true → (x : ℕ) → x < m → f c x ≡ true
  all_seven₂ f h c t x hx = at m (f c) (all_seven (λ n. below m (f n)) h c t) x hx

  pub all_seven₃ : (n : ℕ) (f : ℕ → ℕ → ℕ → Bool) → below 7 (λ i. below m (λ x. below n (f (suc i) x))) ≡ true
      → (c : ℕ) → is_context c ≡ true → (x : ℕ) → x < m → (k : ℕ) → k < n → f c x k ≡ true
  all_seven₃ n f h c t x hx k hk = at n (f c x) (all_seven₂ (λ d y. below n (f d y)) h c t x hx) k hk

pub no_grammar : (c : ℕ) → 8 ≤ c → grammar c ≡ never
unfolding grammar bodies
no_grammar c h = get_or-eq_default (never ∷ map message_shape bodies) never h

pub context_or_never : (c : ℕ) → (is_context c ≡ true) ⊎ (grammar c ≡ never)
unfolding grammar
context_or_never zero = inr refl
context_or_never (suc c) =
    ⊎_elim (λ h. inl (context-within (suc c) (omega arith) (omega arith))) (λ h. inr (no_grammar (suc c) h)) (less_or_not (suc c) 8)

pub grammar_alive : (c : ℕ) → is_context c ≡ true → alive (grammar c) ≡ true
unfolding alive grammars every_from
grammar_alive = all_seven (λ c. alive (grammar c)) refl
