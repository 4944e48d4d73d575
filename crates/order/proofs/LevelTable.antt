-- Levels by rows and by table: for any rows of levels that pass the computed tests of `Fitting`, the table says what the rows say, for every context
-- number and every kind number, and all levels are below `top_level`. The levels in force pass, and the former ones do.
-- Assumes nothing.
use mathlib.Core.Bool.{true, false, and-false}
use mathlib.Core.List.{List, []}
use mathlib.Core.Logic.{◌⊎◌, inl, inr}
use mathlib.Core.Path.{◌≡◌, refl, sym, ap, ap₂, ◌∙◌, subst⁻¹, fun_ext}
use Prim.Native.Nat.{ℕ, ◌+◌, ◌*◌, ◌-◌, ◌/◌, ◌%◌, ◌≤◌, ◌<◌}
use native.Mathlib.Nat.{le_trans}
use native.Mathlib.Omega.{arith}
use borrow.Author.Tests.{leb-true, ltb-true, le-leb, lt-leb}
use lib.Dec.{leb, ltb}
use lib.ListN.{length, get_or, get_or-eq_default}
use Rattle.laws.specs.inner.Tests.{below, every_from}
use Rattle.laws.proofs.Cases.{less_or_not}
use Rattle.laws.proofs.Tables.{at, get_or_values_zero}
use Rattle.order.specs.Contexts.{is_context}
use Rattle.order.specs.Owners.{level_by, levels, former_levels, level, former_level}
use Rattle.order.specs.inner.Levels.{level_in, level_table_of, level_table, former_level_table, top_level, LevelsBelow}
use Rattle.order.proofs.Seven.{context-within}
use Rattle.order.proofs.Allowing.{no_context_below, no_context_above}

-- the cases of `level_in`
module _ (table : List ℕ) (c k : ℕ) where
  no_level : is_context c ≡ false → level_in table c k ≡ 0
  unfolding level_in
  no_level e = rw (e, level_in)

  pub no_level_below : c < 1 → level_in table c k ≡ 0
  no_level_below h = no_level (no_context_below c h)

  pub no_level_above : 7 < c → level_in table c k ≡ 0
  no_level_above h = no_level (no_context_above c h)

  pub no_level_kind : 11 < k → level_in table c k ≡ 0
  unfolding level_in
  no_level_kind h = rw (lt-leb k 11 h, and-false (is_context c), level_in)

  pub level-there : 1 ≤ c → c ≤ 7 → k ≤ 11 → level_in table c k ≡ get_or table ((c - 1) * 12 + k) 0
  unfolding level_in
  level-there h g l = rw (context-within c h g, le-leb k 11 l, level_in)

-- the table of any levels gives them back, for the seven contexts and the kinds 1 to 11
table-there : (lv : ℕ → ℕ → ℕ) (c k : ℕ) → 1 ≤ c → c ≤ 7 → k ≤ 11 → level_in (level_table_of lv) c k ≡ lv c k
unfolding level_table_of
table-there lv c k h g l =
    let i = (c - 1) * 12 + k in
    let p : i / 12 + 1 ≡ c = omega arith in
    let q : i % 12 ≡ k = omega arith in
    level-there (level_table_of lv) c k h g l ∙ get_or_values_zero (λ n. lv (n / 12 + 1) (n % 12)) 84 i 0 (omega arith) ∙ ap₂ lv p q

-- what rows of levels must pass, by computation: no level at 0 and no row after the seven contexts, at most twelve levels in each row, all
-- below `top_level`
pub record Fitting (rows : List (List ℕ)) : Type 0 where
  pub none : leb (length (get_or rows 0 [])) 0 ≡ true
  pub seven : leb (length rows) 8 ≡ true
  pub twelve : below 8 (λ c. leb (length (get_or rows c [])) 12) ≡ true
  pub low : below 8 (λ c. below 12 (λ k. ltb (level_by rows c k) top_level)) ≡ true

module _ (rows : List (List ℕ)) (fits : Fitting rows) where
  -- where there is no level
  no_row : (c k : ℕ) → 8 ≤ c → level_by rows c k ≡ 0
  no_row c k h =
      ap (λ (row : List ℕ). get_or row k 0) (get_or-eq_default rows [] (le_trans (leb-true (length rows) 8 fits.seven) h))

  no_kind : (c k : ℕ) → c < 8 → 12 ≤ k → level_by rows c k ≡ 0
  no_kind c k h g =
      let few = leb-true (length (get_or rows c [])) 12 (at 8 (λ n. leb (length (get_or rows n [])) 12) fits.twelve c h) in
      get_or-eq_default (get_or rows c []) 0 (le_trans few g)

  none_at_0 : (k : ℕ) → level_by rows 0 k ≡ 0
  none_at_0 k = get_or-eq_default (get_or rows 0 []) 0 (let e = leb-true (length (get_or rows 0 [])) 0 fits.none in omega arith)

  -- all levels are below `top_level`
  pub rows-below : LevelsBelow (level_by rows)
  rows-below c k = by (less_or_not c 8) (less_or_not k 12)
    where
      by : (c < 8) ⊎ (8 ≤ c) → (k < 12) ⊎ (12 ≤ k) → level_by rows c k < top_level
      by (inl h) (inl g) =
          ltb-true (level_by rows c k) top_level
          (at 12 (λ j. ltb (level_by rows c j) top_level) (at 8 (λ n. below 12 (λ j. ltb (level_by rows n j) top_level)) fits.low c h) k g)
      by (inl h) (inr g) = rw (no_kind c k h g) (omega arith)
      by (inr h) g = rw (no_row c k h) (omega arith)

  -- the table of the rows gives their levels back, for every two numbers
  pub rows-table : (c k : ℕ) → level_in (level_table_of (level_by rows)) c k ≡ level_by rows c k
  rows-table c k = by (level_table_of (level_by rows)) (table-there (level_by rows) c k) (less_or_not c 1) (less_or_not 7 c) (less_or_not 11 k)
    where
      by : (t : List ℕ) → (1 ≤ c → c ≤ 7 → k ≤ 11 → level_in t c k ≡ level_by rows c k)
          → (c < 1) ⊎ (1 ≤ c) → (7 < c) ⊎ (c ≤ 7) → (11 < k) ⊎ (k ≤ 11) → level_in t c k ≡ level_by rows c k
      by t there (inl h) g l =
          let z : 0 ≡ c = omega arith in
          no_level_below t c k h ∙ sym (none_at_0 k) ∙ ap (λ (n : ℕ). level_by rows n k) z
      by t there (inr h) (inl g) l = no_level_above t c k g ∙ sym (no_row c k g)
      by t there (inr h) (inr g) (inl l) = no_level_kind t c k l ∙ sym (no_kind c k (omega arith) l)
      by t there (inr h) (inr g) (inr l) = there h g l

  -- so does a table that equals it, and all of its levels are below `top_level`
  pub table-levels : {table : List ℕ} → table ≡ level_table_of (level_by rows) → level_in table ≡ level_by rows
  table-levels {table} e = fun_ext (λ c. fun_ext (λ k. ap (λ (t : List ℕ). level_in t c k) e ∙ rows-table c k))

  pub table_below : {table : List ℕ} → table ≡ level_table_of (level_by rows) → LevelsBelow (level_in table)
  table_below e = subst⁻¹ LevelsBelow (table-levels e) rows-below

-- the levels in force

levels_fit : Fitting levels
unfolding levels every_from
levels_fit = record { none = refl; seven = refl; twelve = refl; low = refl }

pub levels_are : {table : List ℕ} → table ≡ level_table → level_in table ≡ level
unfolding level_table level
levels_are = table-levels levels levels_fit

pub levels-below : {table : List ℕ} → table ≡ level_table → LevelsBelow (level_in table)
unfolding level_table level
levels-below = table_below levels levels_fit

-- the former levels

former-levels_fit : Fitting former_levels
unfolding former_levels every_from
former-levels_fit = record { none = refl; seven = refl; twelve = refl; low = refl }

pub former-levels_are : {table : List ℕ} → table ≡ former_level_table → level_in table ≡ former_level
unfolding former_level_table former_level
former-levels_are = table-levels former_levels former-levels_fit

pub former-levels-below : {table : List ℕ} → table ≡ former_level_table → LevelsBelow (level_in table)
unfolding former_level_table former_level
former-levels-below = table_below former_levels former-levels_fit
