-- Byte order: it is reflexive, antisymmetric and transitive, and turned round it is the other way; and comparing by a length and bytes behind it is
-- comparing in byte order.
-- Assumes nothing.
use mathlib.Core.Bool.{Bool, true, false}
use mathlib.Core.List.{List, [], ◌∷◌}
use mathlib.Core.Path.{◌≡◌, refl, sym, ap, ap₂, ◌∙◌}
use Prim.Native.Nat.{ℕ, zero, suc, ◌<◌, ◌≤◌}
use native.Mathlib.Omega.{arith}
use borrow.Author.Tests.{ltb-true, ltb-false, lt-ltb, le-ltb}
use lib.Dec.{ltb}
use lib.ListN.{length, take}
use Rattle.laws.specs.Lists.{same}
use Rattle.laws.proofs.Lists.{same_self, different-same}
use Rattle.laws.proofs.Tests.{Tested, passed, failed, tested, never_both}
use Rattle.index.specs.declared.code.Compared.{Compared}
use Rattle.index.specs.declared.code.Compared.TheVariants.{Before, Same, After}
use Rattle.index.specs.Order.{byte_order, is_before, comes_before}
use Rattle.index.specs.inner.Comparing.{compared}
use Rattle.index.specs.inner.Rising.{is_behind}

-- the three are different
pub before_not_same : {x : Compared} → x ≡ Before → x ≡ Same → ⊥
before_not_same e f = let z : ◌≡◌ {A = ℕ} 0 1 = cc in let n : ⊥ = omega arith in n

pub before_not_after : {x : Compared} → x ≡ Before → x ≡ After → ⊥
before_not_after e f = let z : ◌≡◌ {A = ℕ} 0 1 = cc in let n : ⊥ = omega arith in n

pub same_not_after : {x : Compared} → x ≡ Same → x ≡ After → ⊥
same_not_after e f = let z : ◌≡◌ {A = ℕ} 0 1 = cc in let n : ⊥ = omega arith in n

-- the three cases, with the equation of the one that came
pub data Three (x : Compared) : Type 0 where
  is_b : x ≡ Before → Three x
  is_s : x ≡ Same → Three x
  is_a : x ≡ After → Three x

pub three : (x : Compared) → Three x
three Before = is_b refl
three Same = is_s refl
three After = is_a refl

-- how the first bytes stand decides, or the rest
data First (a b : ℕ) : Type 0 where
  lower : a < b → First a b
  higher : b < a → First a b
  alike : a ≡ b → First a b

first : (a b : ℕ) → First a b
first a b = go (tested (ltb a b)) (tested (ltb b a))
  where
    go : Tested (ltb a b) → Tested (ltb b a) → First a b
    go (passed e) f = lower (ltb-true a b e)
    go (failed e) (passed f) = higher (ltb-true b a f)
    go (failed e) (failed f) = alike (omega (arith, ltb-false a b e, ltb-false b a f))

module _ (a : ℕ) (s : List ℕ) (b : ℕ) (t : List ℕ) where
  order_by : (x y : Bool) → ltb a b ≡ x → ltb b a ≡ y
      → byte_order (a ∷ s) (b ∷ t) ≡ elim x [ true ↦ Before | false ↦ elim y [ true ↦ After | false ↦ byte_order s t ] ]
  unfolding byte_order
  order_by x y e f = ap₂ (λ (v w : Bool). elim v [ true ↦ Before | false ↦ elim w [ true ↦ After | false ↦ byte_order s t ] ]) e f

  order_lower : a < b → byte_order (a ∷ s) (b ∷ t) ≡ Before
  order_lower h = order_by true false (lt-ltb a b h) (le-ltb b a (omega arith))

  order_higher : b < a → byte_order (a ∷ s) (b ∷ t) ≡ After
  order_higher h = order_by false true (le-ltb a b (omega arith)) (lt-ltb b a h)

  order_alike : a ≡ b → byte_order (a ∷ s) (b ∷ t) ≡ byte_order s t
  order_alike h = order_by false false (le-ltb a b (omega arith)) (le-ltb b a (omega arith))

-- each is the same as itself, and as nothing else
pub order_self : (s : List ℕ) → byte_order s s ≡ Same
unfolding byte_order
order_self [] = refl
order_self (a ∷ s) = order_alike a s a s refl ∙ order_self s

pub order_same : (s t : List ℕ) → byte_order s t ≡ Same → s ≡ t
unfolding byte_order
order_same [] [] h = refl
order_same [] (b ∷ t) h = absurd (before_not_same refl h)
order_same (a ∷ s) [] h = absurd (same_not_after h refl)
order_same (a ∷ s) (b ∷ t) h = go (first a b) (order_same s t)
  where
    go : First a b → (byte_order s t ≡ Same → s ≡ t) → a ∷ s ≡ b ∷ t
    go (lower l) ih = absurd (before_not_same (order_lower a s b t l) h)
    go (higher l) ih = absurd (same_not_after h (order_higher a s b t l))
    go (alike e) ih = ap₂ (λ (x : ℕ) (r : List ℕ). x ∷ r) e (ih (sym (order_alike a s b t e) ∙ h))

-- the other way round
pub before-after : (s t : List ℕ) → byte_order s t ≡ Before → byte_order t s ≡ After
unfolding byte_order
before-after [] [] h = absurd (before_not_same h refl)
before-after [] (b ∷ t) h = refl
before-after (a ∷ s) [] h = absurd (before_not_after h refl)
before-after (a ∷ s) (b ∷ t) h = go (first a b) (before-after s t)
  where
    go : First a b → (byte_order s t ≡ Before → byte_order t s ≡ After) → byte_order (b ∷ t) (a ∷ s) ≡ After
    go (lower l) ih = order_higher b t a s l
    go (higher l) ih = absurd (before_not_after h (order_higher a s b t l))
    go (alike e) ih = order_alike b t a s (sym e) ∙ ih (sym (order_alike a s b t e) ∙ h)

pub after-before : (s t : List ℕ) → byte_order s t ≡ After → byte_order t s ≡ Before
unfolding byte_order
after-before [] [] h = absurd (same_not_after refl h)
after-before [] (b ∷ t) h = absurd (before_not_after refl h)
after-before (a ∷ s) [] h = refl
after-before (a ∷ s) (b ∷ t) h = go (first a b) (after-before s t)
  where
    go : First a b → (byte_order s t ≡ After → byte_order t s ≡ Before) → byte_order (b ∷ t) (a ∷ s) ≡ Before
    go (lower l) ih = absurd (before_not_after (order_lower a s b t l) h)
    go (higher l) ih = order_lower b t a s l
    go (alike e) ih = order_alike b t a s (sym e) ∙ ih (sym (order_alike a s b t e) ∙ h)

-- so one is behind the other exactly where the other is before it
pub behind-before : (c d : List ℕ) → is_behind (byte_order c d) ≡ is_before (byte_order d c)
unfolding is_behind is_before
behind-before c d = go (three (byte_order c d))
  where
    go : Three (byte_order c d) → is_behind (byte_order c d) ≡ is_before (byte_order d c)
    go (is_b h) = ap is_behind h ∙ sym (ap is_before (before-after c d h))
    go (is_s h) = ap is_behind h ∙ sym (ap is_before (ap (λ (e : List ℕ). byte_order e c) (sym (order_same c d h)) ∙ order_self c))
    go (is_a h) = ap is_behind h ∙ sym (ap is_before (after-before c d h))

-- what has a byte is behind the empty one
pub some-behind : (c : List ℕ) → 1 ≤ length c → byte_order [] c ≡ Before
unfolding byte_order
some-behind [] h = absurd (omega arith)
some-behind (a ∷ c) h = refl

-- before what is before a third is before the third
pub before_trans : (s t u : List ℕ) → byte_order s t ≡ Before → byte_order t u ≡ Before → byte_order s u ≡ Before
unfolding byte_order
before_trans [] [] u h k = absurd (before_not_same h refl)
before_trans [] (b ∷ t) [] h k = absurd (before_not_after k refl)
before_trans [] (b ∷ t) (c ∷ u) h k = refl
before_trans (a ∷ s) [] u h k = absurd (before_not_after h refl)
before_trans (a ∷ s) (b ∷ t) [] h k = absurd (before_not_after k refl)
before_trans (a ∷ s) (b ∷ t) (c ∷ u) h k = go (first a b) (first b c) (before_trans s t u)
  where
    go : First a b → First b c → (byte_order s t ≡ Before → byte_order t u ≡ Before → byte_order s u ≡ Before)
        → byte_order (a ∷ s) (c ∷ u) ≡ Before
    go (higher l) m ih = absurd (before_not_after h (order_higher a s b t l))
    go (lower l) (higher m) ih = absurd (before_not_after k (order_higher b t c u m))
    go (alike e) (higher m) ih = absurd (before_not_after k (order_higher b t c u m))
    go (lower l) (lower m) ih = order_lower a s c u (omega arith)
    go (lower l) (alike f) ih = order_lower a s c u (omega arith)
    go (alike e) (lower m) ih = order_lower a s c u (omega arith)
    go (alike e) (alike f) ih =
        order_alike a s c u (e ∙ f) ∙ ih (sym (order_alike a s b t e) ∙ h) (sym (order_alike b t c u f) ∙ k)

-- the test `before`, and the test `same`, by the order
pub before_is : (s t : List ℕ) → comes_before s t ≡ true → byte_order s t ≡ Before
unfolding is_before
before_is s t h = go (three (byte_order s t))
  where
    go : Three (byte_order s t) → byte_order s t ≡ Before
    go (is_b e) = e
    go (is_s e) = absurd (never_both h (ap is_before e))
    go (is_a e) = absurd (never_both h (ap is_before e))

module _ (s t : List ℕ) where
  pub is_before_lem : byte_order s t ≡ Before → comes_before s t ≡ true
  unfolding is_before
  is_before_lem e = ap is_before e

  pub after_not_before : byte_order s t ≡ After → comes_before s t ≡ false
  unfolding is_before
  after_not_before e = ap is_before e

  pub before_differs : byte_order s t ≡ Before → same s t ≡ false
  before_differs e = different-same (λ (q : s ≡ t). before_not_same e (ap (byte_order s) (sym q) ∙ order_self s))

  pub after_differs : byte_order s t ≡ After → same s t ≡ false
  after_differs e = different-same (λ (q : s ≡ t). same_not_after (ap (byte_order s) (sym q) ∙ order_self s) e)

  pub order_alike_same : byte_order s t ≡ Same → same s t ≡ true
  order_alike_same e = ap (same s) (sym (order_same s t e)) ∙ same_self s

-- a code beside the first n of some bytes, where there are so many
pub compared-order : (c : List ℕ) (n : ℕ) (s : List ℕ) → n ≤ length s → compared c n s ≡ byte_order c (take n s)
unfolding compared byte_order
compared-order [] zero s h = refl
compared-order [] (suc n) [] h = absurd (omega arith)
compared-order [] (suc n) (b ∷ s) h = refl
compared-order (a ∷ c) zero s h = refl
compared-order (a ∷ c) (suc n) [] h = absurd (omega arith)
compared-order (a ∷ c) (suc n) (b ∷ s) h =
    ap (λ (r : Compared). elim (ltb a b) [ true ↦ Before | false ↦ elim (ltb b a) [ true ↦ After | false ↦ r ] ])
    (compared-order c n s (omega arith))
