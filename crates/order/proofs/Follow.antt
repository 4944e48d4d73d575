-- The follower test is right: after a begun order whose last kind that is no C is x, the kind k may come exactly where
-- `follows` says so. The table's entry is 1 exactly where k may follow x, and 0 otherwise.
-- Assumes nothing.
use mathlib.Core.Bool.{Bool, true, false, false≢true}
use mathlib.Core.List.{List, [], ◌∷◌, ◌++◌, append_assoc}
use mathlib.Core.Logic.Iff
use mathlib.Core.Logic.{◌↔◌}
use mathlib.Core.Path.{◌≡◌, refl, ap, ◌∙◌, subst, subst⁻¹}
use Prim.Native.Nat.{ℕ, zero, suc, ◌+◌, ◌*◌, ◌/◌, ◌%◌, ◌≤◌, ◌<◌}
use native.Mathlib.Omega.{arith}
use lib.ListN.{get_or, replicate}
use Rattle.laws.specs.Lists.{among}
use Rattle.laws.proofs.Tables.{get_or_values_zero}
use Rattle.order.specs.Grammar.{Shape, Derives, Begins}
use Rattle.order.specs.Contexts.{grammar, is_context}
use Rattle.order.specs.inner.Place.{rows_told, rows_after, some_left, start}
use Rattle.order.specs.inner.Followers.{Follows, ways, before, left_at, follows, as_entry, follower, followers}
use Rattle.order.proofs.Begun.{rows_after-append, begins-left}
use Rattle.order.proofs.Seven.{grammar_alive, context-within}
use Rattle.order.proofs.States.{last_of, last_of_append, last_of_Cs, last_after_other, state_after, none_left}

-- what begins a derived order, without some of its end
pub begins_front : (r : Shape) (w v : List ℕ) → Begins r (w ++ v) → Begins r w
begins_front r w v b = (v ++ b.0, subst (λ (u : List ℕ). Derives r u) (append_assoc w v b.0) b.1)

-- what is left once k has been told after w
after_snoc : (r : Shape) (w : List ℕ) (k : ℕ) → rows_after (start r) (w ++ (k ∷ [])) ≡ rows_told k (rows_after (start r) w)
unfolding rows_after
after_snoc r w k = rows_after-append (start r) w (k ∷ [])

module _ (c : ℕ) (t : is_context c ≡ true) where
  pub left-begun : (w : List ℕ) → Begins (grammar c) w → some_left (rows_after (left_at c 0) w) ≡ true
  unfolding left_at
  left-begun w b = (begins-left (grammar c) w (grammar_alive c t)).0 b

  -- the state after a begun order
  pub begun_state : (w : List ℕ) → Begins (grammar c) w → rows_after (start (grammar c)) w ≡ left_at c (last_of 0 w)
  unfolding left_at
  begun_state w b = (state_after c t 0 (omega arith) w (left-begun w b)).0

  pub begun-last : (w : List ℕ) → Begins (grammar c) w → last_of 0 w < 12
  begun-last w b = (state_after c t 0 (omega arith) w (left-begun w b)).1

  -- k may come after a begun order exactly where it follows the last kind that is no C
  pub begins-more : (w : List ℕ) (k : ℕ) → Begins (grammar c) w → Begins (grammar c) (w ++ (k ∷ [])) ↔ (follows c (last_of 0 w) k ≡ true)
  unfolding follows
  begins-more w k b =
      let e : rows_after (start (grammar c)) (w ++ (k ∷ [])) ≡ rows_told k (left_at c (last_of 0 w)) = after_snoc (grammar c) w k ∙ ap (rows_told k) (begun_state w b) in (
        λ d. subst (λ (r : List (List Shape)). some_left r ≡ true) e ((begins-left (grammar c) (w ++ (k ∷ [])) (grammar_alive c t)).0 d),
        λ s. (begins-left (grammar c) (w ++ (k ∷ [])) (grammar_alive c t)).1 (subst⁻¹ (λ (r : List (List Shape)). some_left r ≡ true) e s),
      )

  -- by the context's way to x, where there is one
  by_way : (x k : ℕ) (b : Bool) → among (get_or ways c []) (suc x) ≡ b → follows c (suc x) k ≡ true → Follows c (suc x) k
  unfolding follows left_at
  by_way x k true e s =
      let u = before (suc x) (get_or ways c []) in
      let left : left_at c (suc x) ≡ rows_after (start (grammar c)) (u ++ (suc x ∷ [])) = rw (e, left_at) in (
        u,
        0,
        (begins-left (grammar c) (u ++ (suc x ∷ []) ++ (k ∷ [])) (grammar_alive c t)).1
            (subst⁻¹ (λ (r : List (List Shape)). some_left r ≡ true) (after_snoc (grammar c) (u ++ (suc x ∷ [])) k)
            (subst (λ (r : List (List Shape)). some_left (rows_told k r) ≡ true) left s)),
      )
  by_way x k false e s = absurd (none_left k (left_at c (suc x)) (rw (e, left_at)) s)

  -- the computed test says what is meant
  pub follows_means : (x k : ℕ) → 1 ≤ x → x ≤ 11 → (follows c x k ≡ true) ↔ Follows c x k
  unfolding last_of
  follows_means zero k h g = let z : ⊥ = omega arith in absurd z
  follows_means (suc x) k h g = (
    by_way x k (among (get_or ways c []) (suc x)) refl,
    λ f.
        let w = f.0 ++ (suc x ∷ replicate f.1 12) in
        subst (λ (n : ℕ). follows c n k ≡ true) (last-there f.0 f.1) ((begins-more w k (begins_front (grammar c) w (k ∷ []) f.2)).0 f.2),
  )
    where
      last-there : (u : List ℕ) (n : ℕ) → last_of 0 (u ++ (suc x ∷ replicate n 12)) ≡ suc x
      last-there u n =
          last_of_append 0 u (suc x ∷ replicate n 12) ∙ ap (λ (y : ℕ). last_of y (replicate n 12)) (last_after_other (last_of 0 u) (suc x) (λ e. let z : ⊥ = omega arith in z))
          ∙ last_of_Cs (suc x) n

-- the table

entry-one : (b : Bool) → (as_entry b ≡ 1) ↔ (b ≡ true)
entry-one true = (λ e. refl, λ t. refl)
entry-one false = (λ e. let z : ⊥ = omega arith in absurd z, λ t. absurd (false≢true t))

entry_zero : (b : Bool) → (as_entry b ≡ 0) ↔ (b ≡ true → ⊥)
entry_zero true = (λ e. let z : ⊥ = omega arith in λ t. z, λ h. absurd (h refl))
entry_zero false = (λ e. false≢true, λ h. refl)

module _ (c x k : ℕ) (hc : c < 7) (hx : x < 11) (hk : k < 11) where
  -- where the three numbers stand in the table
  place_of : (c * 121 + x * 11 + k) / 121 + 1 ≡ suc c
  place_of = omega arith

  stands : (c * 121 + x * 11 + k) / 11 % 11 + 1 ≡ suc x
  stands = let q : (c * 121 + x * 11 + k) / 11 ≡ c * 11 + x = omega arith in rw q (omega arith)

  comes : (c * 121 + x * 11 + k) % 11 + 1 ≡ suc k
  comes = omega arith

  pub entry : get_or followers (c * 121 + x * 11 + k) 0 ≡ as_entry (follows (suc c) (suc x) (suc k))
  unfolding followers follower
  entry = get_or_values_zero follower 847 (c * 121 + x * 11 + k) 0 (omega arith) ∙ (λ i. as_entry (follows (place_of i) (stands i) (comes i)))

  means : (follows (suc c) (suc x) (suc k) ≡ true) ↔ Follows (suc c) (suc x) (suc k)
  means = follows_means (suc c) (context-within (suc c) (omega arith) (omega arith)) (suc x) (suc k) (omega arith) (omega arith)

  -- the entry is 1 exactly where the kind may follow, and 0 otherwise
  pub entry_follows : (get_or followers (c * 121 + x * 11 + k) 0 ≡ 1) ↔ Follows (suc c) (suc x) (suc k)
  entry_follows = rw entry (Iff.trans (entry-one (follows (suc c) (suc x) (suc k))) means)

  pub entry_no_follows : (get_or followers (c * 121 + x * 11 + k) 0 ≡ 0) ↔ (Follows (suc c) (suc x) (suc k) → ⊥)
  entry_no_follows = rw entry (Iff.trans (entry_zero (follows (suc c) (suc x) (suc k))) (Iff.not means))
