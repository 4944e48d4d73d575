-- H and L have no owner (rule O2), for any levels that pass the computed tests of `Topped`: every kind that may come in
-- a context is C or has a level, and H and L have level 1, below which there is none. The levels in force pass, and the former ones do.
-- Assumes nothing.
use mathlib.Core.Bool.{Bool, true, false, not, ◌&&◌, ◌||◌}
use mathlib.Core.List.{List, [], ◌∷◌, reverse}
use mathlib.Core.Logic.{◌⊎◌, inl, inr, ⊎_elim}
use mathlib.Core.Path.{◌≡◌, refl, ap, ◌∙◌, subst, subst⁻¹}
use Prim.Native.Nat.{ℕ, suc, ◌<◌}
use native.Mathlib.Omega.{arith}
use borrow.Author.Tests.{leb-true, le-ltb, eqb-true}
use lib.Dec.{leb, ltb, eqb}
use lib.ListN.{length, get_or, take}
use Rattle.laws.specs.Every.{All, none, also}
use Rattle.laws.specs.inner.Tests.{below, every_from}
use Rattle.laws.proofs.Every.{all_take, all-reverse}
use Rattle.laws.proofs.Tests.{or_cases, where_holds}
use Rattle.order.specs.Grammar.{Shape, Begins}
use Rattle.order.specs.Contexts.{grammar, is_context}
use Rattle.order.specs.inner.Place.{rows_told, rows_after, some_left}
use Rattle.order.specs.inner.Followers.{left_at, follows}
use Rattle.order.specs.Owners.{levels, former_levels, level, former_level, nearest, is_c, owner, owners}
use Rattle.order.proofs.Seven.{all_seven, all_seven₃, states}
use Rattle.order.proofs.States.{last_after, some-told, next_state, next_last, kind-left}
use Rattle.order.proofs.Follow.{left-begun}
use Rattle.order.proofs.Owner.{owners_at}

-- whether a kind is C or has a level; whether it is where it may come
unfoldable pub placed : (ℕ → ℕ → ℕ) → ℕ → ℕ → Bool
placed lv c k = is_c k || leb 1 (lv c k)

unfoldable pub comes_placed : (ℕ → ℕ → ℕ) → ℕ → ℕ → ℕ → Bool
comes_placed lv c x k = elim (follows c x k) [ true ↦ placed lv c k | false ↦ true ]

-- what levels must pass, by computation
pub record Topped (lv : ℕ → ℕ → ℕ) : Type 0 where
  pub H : below 7 (λ i. eqb (lv (suc i) 1) 1) ≡ true
  pub L : below 7 (λ i. eqb (lv (suc i) 11) 1) ≡ true
  pub others : below 7 (λ i. below 12 (λ x. below 13 (λ k. comes_placed lv (suc i) x k))) ≡ true

module _ (lv : ℕ → ℕ → ℕ) (top : Topped lv) (c : ℕ) (t : is_context c ≡ true) where
  abbrev Placed : ℕ → Type 0
  Placed k = placed lv c k ≡ true

  -- every kind of a begun order is C or has a level
  told-placed : (x k : ℕ) → x < 12 → some_left (rows_told k (left_at c x)) ≡ true → Placed k
  unfolding comes_placed follows
  told-placed x k hx s =
      where_holds (placed lv c k) s (all_seven₃ 12 13 (comes_placed lv) top.others c t x hx k (kind-left c t x k hx s))

  left-placed : (x : ℕ) → x < 12 → (w : List ℕ) → some_left (rows_after (left_at c x) w) ≡ true → All Placed w
  unfolding rows_after
  left-placed x hx [] s = none
  left-placed x hx (k ∷ w) s =
      let h = some-told c t k w (left_at c x) (rows_told k (left_at c x)) refl s in
      also (told-placed x k hx h)
      (left-placed (last_after x k) (next_last c t x k hx h) w (subst (λ (r : List (List Shape)). some_left (rows_after r w) ≡ true) (next_state c t x k hx h) s))

  -- and none of them is below level 1
  no_lower : (j : ℕ) → Placed j → (not (is_c j) && ltb (lv c j) 1) ≡ false
  unfolding placed
  no_lower j h = ⊎_elim (λ e. (rw e)) (λ l. by (is_c j) (le-ltb (lv c j) 1 (leb-true 1 (lv c j) l))) (or_cases (is_c j) (leb 1 (lv c j)) h)
    where
      by : (b : Bool) → ltb (lv c j) 1 ≡ false → (not b && ltb (lv c j) 1) ≡ false
      by true e = refl
      by false e = e

  none_nearer : (before : List ℕ) → All Placed before → nearest (λ j. not (is_c j) && ltb (lv c j) 1) before ≡ 0
  unfolding nearest
  none_nearer [] h = refl
  none_nearer (j ∷ before) (also h hs) = (rw (no_lower j h, nearest)) ∙ none_nearer before hs

  at_top : (k : ℕ) → (k ≡ 1) ⊎ (k ≡ 11) → (lv c k ≡ 1) × (is_c k ≡ false)
  unfolding is_c
  at_top k (inl q) = (ap (lv c) q ∙ eqb-true (lv c 1) 1 (all_seven (λ n. eqb (lv n 1) 1) top.H c t), subst⁻¹ (λ (n : ℕ). is_c n ≡ false) q refl)
  at_top k (inr q) = (ap (lv c) q ∙ eqb-true (lv c 11) 1 (all_seven (λ n. eqb (lv n 11) 1) top.L c t), subst⁻¹ (λ (n : ℕ). is_c n ≡ false) q refl)

  pub top_has_0 : (w : List ℕ) → Begins (grammar c) w → (i : ℕ) → i < length w → (get_or w i 0 ≡ 1) ⊎ (get_or w i 0 ≡ 11) → get_or (owners (lv c) w) i 0 ≡ 0
  unfolding owner
  top_has_0 w b i h e =
      let p = at_top (get_or w i 0) e in
      let kinds = left-placed 0 (omega arith) w (left-begun c t w b) in
      owners_at (lv c) w i h ∙ (rw (p.1, p.0, owner)) ∙ none_nearer (reverse (take i w)) (all-reverse (all_take i kinds) none)

-- the levels in force, and the former ones

levels_topped : Topped level
unfolding comes_placed placed is_c follows states level levels every_from
levels_topped = record { H = refl; L = refl; others = refl }

former-levels_topped : Topped former_level
unfolding comes_placed placed is_c follows states former_level former_levels every_from
former-levels_topped = record { H = refl; L = refl; others = refl }

-- H and L have no owner in any begun order (O2)
pub H_and_L_have_0 : (c : ℕ) → is_context c ≡ true → (w : List ℕ) → Begins (grammar c) w → (i : ℕ) → i < length w
    → (get_or w i 0 ≡ 1) ⊎ (get_or w i 0 ≡ 11) → get_or (owners (level c) w) i 0 ≡ 0
H_and_L_have_0 = top_has_0 level levels_topped

pub former-H_and_L_have_0 : (c : ℕ) → is_context c ≡ true → (w : List ℕ) → Begins (grammar c) w → (i : ℕ) → i < length w
    → (get_or w i 0 ≡ 1) ⊎ (get_or w i 0 ≡ 11) → get_or (owners (former_level c) w) i 0 ≡ 0
former-H_and_L_have_0 = top_has_0 former_level former-levels_topped
