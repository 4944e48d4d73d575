-- Which last kinds a context has: those that it has a level for are those after which something is left of its grammar, and after any other number
-- nothing follows.
-- Assumes nothing.
use mathlib.Core.Bool.{Bool, true, false, ◌||◌, not, beq, false≢true}
use mathlib.Core.List.{List, [], ◌∷◌}
use mathlib.Core.Logic.{◌⊎◌, inl, inr, ⊎_elim}
use mathlib.Core.Path.{◌≡◌, refl, sym, ap, ◌∙◌, subst⁻¹}
use Prim.Native.Nat.{ℕ, zero, suc, ◌≤◌, ◌<◌}
use native.Mathlib.Omega.{arith}
use borrow.Author.Tests.{eqb-true, ltb-true}
use lib.Dec.{ltb, eqb}
use lib.ListN.{get_or, get_or-eq_default}
use Rattle.laws.specs.Lists.{among}
use Rattle.laws.specs.inner.Tests.{below, every_from}
use Rattle.laws.proofs.Cases.{less_or_not}
use Rattle.laws.proofs.Lists.{among_miss, every}
use Rattle.laws.proofs.Tables.{at}
use Rattle.laws.proofs.Tests.{Tested, passed, failed, tested, either, never_both, never-holds, and_first, and_second, equal_tests}
use Rattle.order.specs.Grammar.{Shape, never}
use Rattle.order.specs.Contexts.{grammar, is_context}
use Rattle.order.specs.Owners.{levels, level}
use Rattle.order.specs.inner.Place.{empties, told, row_told, rows_told, some_left, start}
use Rattle.order.specs.inner.Followers.{ways, left_at, follows}
use Rattle.order.specs.inner.Levels.{level_table}
use Rattle.order.specs.inner.Telling.{allows, has_last}
use Rattle.order.proofs.Seven.{all_seven₂, context-within, context_or_never, states}
use Rattle.order.proofs.States.{none_left}
use Rattle.order.proofs.LevelTable.{no_level_below, no_level_above, no_level_kind, levels_are}
use Rattle.order.proofs.Allowing.{no_context_no}
use Rattle.order.proofs.Watching.{allows-follows}

-- what a context has a level for is what is left of its grammar somewhere: computed once
left_where : ℕ → ℕ → Bool
left_where c x = beq (has_last c x) (some_left (left_at c x))

all_left : below 7 (λ i. below 12 (λ x. left_where (suc i) x)) ≡ true
unfolding left_where has_last level levels states every_from
all_left = refl

has_left : (c : ℕ) → is_context c ≡ true → (x : ℕ) → x < 12 → has_last c x ≡ some_left (left_at c x)
unfolding left_where
has_left c t x h = equal_tests (has_last c x) (some_left (left_at c x)) (all_seven₂ 12 left_where all_left c t x h)

-- a number that is no context, and a number that is no kind but C, have no level
outside : (c : ℕ) → is_context c ≡ false → (c < 1) ⊎ (7 < c)
outside c e = ⊎_elim inl above (less_or_not c 1)
  where
    above : 1 ≤ c → (c < 1) ⊎ (7 < c)
    above h = ⊎_elim (λ less. absurd (never_both (context-within c h (omega arith)) e)) (λ more. inr more) (less_or_not c 8)

table-level : (c x : ℕ) → level c x ≡ 0 → has_last c x ≡ eqb x 0
unfolding has_last
table-level c x e = ap (λ (n : ℕ). eqb x 0 || not (eqb n 0)) e ∙ or_false (eqb x 0)
  where
    or_false : (b : Bool) → (b || false) ≡ b
    or_false true = refl
    or_false false = refl

no_level : (c x : ℕ) → (is_context c ≡ false) ⊎ (11 < x) → level c x ≡ 0
no_level c x (inl e) =
    sym (ap (λ (f : ℕ → ℕ → ℕ). f c x) (levels_are refl))
    ∙ ⊎_elim (λ (h : c < 1). no_level_below level_table c x h) (λ (h : 7 < c). no_level_above level_table c x h) (outside c e)
no_level c x (inr h) = sym (ap (λ (f : ℕ → ℕ → ℕ). f c x) (levels_are refl)) ∙ no_level_kind level_table c x h

-- so there only the beginning is left
only_beginning : (c x : ℕ) → (is_context c ≡ false) ⊎ (11 < x) → has_last c x ≡ true → x ≡ 0
only_beginning c x o h = eqb-true x 0 (sym (table-level c x (no_level c x o)) ∙ h)

-- where the grammar is `never`, nothing comes at the beginning
never_first : (c k : ℕ) → grammar c ≡ never → follows c 0 k ≡ false
unfolding follows left_at rows_told row_told told some_left empties
never_first c k e = ap (λ (r : Shape). some_left (rows_told k (start r))) e

-- a watcher at a last kind that its context has says what the grammar lets come
pub has_allows : (c x : ℕ) → has_last c x ≡ true → (k : ℕ) → allows follows c x k ≡ follows c x k
has_allows c x h k = ⊎_elim inside bad (either (is_context c))
  where
    inside : is_context c ≡ true → allows follows c x k ≡ follows c x k
    inside t =
        ⊎_elim
        (λ (less : x < 12). allows-follows c t x less (sym (has_left c t x less) ∙ h) k)
        (λ (more : 12 ≤ x). absurd (let z : x ≡ 0 = only_beginning c x (inr more) h in omega (arith, z, more)))
        (less_or_not x 12)

    bad : is_context c ≡ false → allows follows c x k ≡ follows c x k
    bad e =
        no_context_no follows c x k e
        ∙ sym (ap (λ (y : ℕ). follows c y k) (only_beginning c x (inl e) h)
        ∙ ⊎_elim (λ (t : is_context c ≡ true). absurd (never_both t e)) (λ (n : grammar c ≡ never). never_first c k n) (context_or_never c))

-- the kinds of a context's way are below 12, and other numbers have none
every_among : (f : ℕ → Bool) (s : List ℕ) (x : ℕ) → every f s ≡ true → among s x ≡ true → f x ≡ true
unfolding every among
every_among f [] x h e = absurd (false≢true e)
every_among f (a ∷ s) x h e = by (tested (eqb x a)) (every_among f s x)
  where
    by : Tested (eqb x a) → (every f s ≡ true → among s x ≡ true → f x ≡ true) → f x ≡ true
    by (passed t) later = subst⁻¹ (λ (y : ℕ). f y ≡ true) (eqb-true x a t) (and_first (f a) (every f s) h)
    by (failed t) later = later (and_second (f a) (every f s) h) (sym (among_miss a s x t) ∙ e)

low_way : ℕ → Bool
low_way c = every (λ y. ltb y 12) (get_or ways c [])

all-low : below 8 low_way ≡ true
unfolding low_way ways every every_from
all-low = refl

no_way_0 : (x : ℕ) → among (get_or ways 0 []) x ≡ false
unfolding ways among
no_way_0 x = refl

no_way_past : (c x : ℕ) → 8 ≤ c → among (get_or ways c []) x ≡ false
unfolding ways among
no_way_past c x h = ap (λ (s : List ℕ). among s x) (get_or-eq_default ways [] {n = c} h)

on_a_way : (c x : ℕ) → among (get_or ways c []) x ≡ true → (is_context c ≡ true) × (x < 12)
unfolding low_way
on_a_way zero x e = absurd (never_both e (no_way_0 x))
on_a_way (suc c) x e =
    ⊎_elim
    (λ (h : suc c < 8). (context-within (suc c) (omega arith) (omega arith), ltb-true x 12 (every_among (λ y. ltb y 12) (get_or ways (suc c) []) x (at 8 low_way all-low (suc c) h) e)))
    (λ (h : 8 ≤ suc c). absurd (never_both e (no_way_past (suc c) x h)))
    (less_or_not (suc c) 8)

nothing_left : (rows : List (List Shape)) → some_left rows ≡ false → rows ≡ []
unfolding some_left
nothing_left [] e = refl
nothing_left (r ∷ rows) e = absurd (false≢true (sym e))

without_way : (c x : ℕ) → among (get_or ways c []) (suc x) ≡ false → left_at c (suc x) ≡ []
unfolding left_at
without_way c x e = rw (e, left_at)

at_the_beginning : (c : ℕ) → has_last c 0 ≡ true
unfolding has_last
at_the_beginning c = refl

-- after a number that the context does not have nothing follows
pub no_last : (c x : ℕ) → has_last c x ≡ false → (k : ℕ) → follows c x k ≡ false
unfolding follows
no_last c x h k = never-holds (some_left (rows_told k (left_at c x))) (λ s. none_left k (left_at c x) (nothing c x h) s)
  where
    none-there : (c x : ℕ) → Tested (among (get_or ways c []) (suc x)) → has_last c (suc x) ≡ false → left_at c (suc x) ≡ []
    none-there c x (passed t) h =
        let w = on_a_way c (suc x) t in
        nothing_left (left_at c (suc x)) (sym (has_left c w.0 (suc x) w.1) ∙ h)
    none-there c x (failed t) h = without_way c x t

    nothing : (c x : ℕ) → has_last c x ≡ false → left_at c x ≡ []
    nothing c zero h = absurd (false≢true (sym h ∙ at_the_beginning c))
    nothing c (suc x) h = none-there c x (tested (among (get_or ways c []) (suc x))) h

-- a number that is no context lets nothing come anywhere
pub bad_follows : (c : ℕ) → is_context c ≡ false → (x k : ℕ) → follows c x k ≡ false
bad_follows c e x k =
    ⊎_elim
    (λ (h : has_last c x ≡ true). sym (has_allows c x h k) ∙ no_context_no follows c x k e)
    (λ (h : has_last c x ≡ false). no_last c x h k)
    (either (has_last c x))
