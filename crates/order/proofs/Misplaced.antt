-- The place of refusal 10 is right: 0 exactly where the order is derived, and else one past the longest part that begins one.
-- Assumes nothing.
use mathlib.Core.Bool.{Bool, true, false, true≢false, false≢true}
use mathlib.Core.List.{List, [], ◌∷◌, ◌++◌, append_assoc}
use mathlib.Core.Logic.{◌⊎◌, inl, inr, ⊎_elim, ◌↔◌}
use mathlib.Core.Path.{◌≡◌, refl, sym, ap, ◌∙◌, subst, subst⁻¹}
use Prim.Native.Nat.{ℕ, zero, suc, ◌+◌, ◌≤◌, ◌<◌, zero-le, suc-le-suc}
use native.Mathlib.Nat.{add-zero, add-suc, suc-add}
use native.Mathlib.Omega.{arith}
use lib.ListN.{length, take, drop, take-append-drop}
use lib.Seq.{take-take}
use Rattle.laws.proofs.Cases.{less_or_not}
use Rattle.laws.proofs.Tests.{either, never_both}
use Rattle.order.specs.Grammar.{Shape, never, Derives, Begins}
use Rattle.order.specs.Contexts.{grammar, is_context}
use Rattle.order.specs.inner.Place.{empties, told, row_told, rows_told, row_empties, rows_empty, rows_after, some_left, start, place_from, misplaced}
use Rattle.order.specs.Misplaced.{FirstMisplaced}
use Rattle.order.proofs.Rows.{OneDerives, rows_derivative}
use Rattle.order.proofs.Begun.{rows_empty_lem, derived-after, derived_by_start, begins-left}
use Rattle.order.proofs.Seven.{grammar_alive, context_or_never}

-- the two equations of a place: at the end of the order, and at a kind

pub place_end : (at : ℕ) (rows : List (List Shape)) → place_from at rows [] ≡ elim (rows_empty rows) [ true ↦ 0 | false ↦ at ]
unfolding place_from
place_end at rows = refl

place_stop : (at k : ℕ) (w : List ℕ) (rows left : List (List Shape)) → rows_told k rows ≡ left → some_left left ≡ false → place_from at rows (k ∷ w) ≡ at
unfolding place_from some_left
place_stop at k w rows [] e h = rw (e, place_from)
place_stop at k w rows (row ∷ more) e h = absurd (true≢false h)

place_go : (at k : ℕ) (w : List ℕ) (rows left : List (List Shape)) → rows_told k rows ≡ left → some_left left ≡ true → place_from at rows (k ∷ w) ≡ place_from (suc at) (rows_told k rows) w
unfolding place_from some_left
place_go at k w rows [] e h = absurd (false≢true h)
place_go at k w rows (row ∷ more) e h = rw (e, place_from)

-- a kind that leaves nothing is the place; after one that leaves something the place is looked for behind it
pub place_here : (at k : ℕ) (w : List ℕ) (rows : List (List Shape)) → some_left (rows_told k rows) ≡ false → place_from at rows (k ∷ w) ≡ at
place_here at k w rows h = place_stop at k w rows (rows_told k rows) refl h

pub place-behind : (at k : ℕ) (w : List ℕ) (rows : List (List Shape)) → some_left (rows_told k rows) ≡ true → place_from at rows (k ∷ w) ≡ place_from (suc at) (rows_told k rows) w
place-behind at k w rows h = place_go at k w rows (rows_told k rows) refl h

none_derives : (rows : List (List Shape)) (v : List ℕ) → some_left rows ≡ false → OneDerives rows v → ⊥
unfolding some_left
none_derives [] v h d = d
none_derives (row ∷ rows) v h d = true≢false h

-- where a walk over the alternatives stops
record StopsAt (rows : List (List Shape)) (w : List ℕ) (p : ℕ) : Type 0 where
  within : p ≤ length w
  begun : some_left (rows_after rows (take p w)) ≡ true
  stopped : ((p ≡ length w) × (OneDerives rows w → ⊥)) ⊎ ((p < length w) × (some_left (rows_after rows (take (suc p) w)) ≡ false))

abbrev Placed : ℕ → List (List Shape) → List ℕ → Type 0
Placed at rows w =
    ((place_from at rows w ≡ 0) × OneDerives rows w) ⊎ ((p : ℕ) × (place_from at rows w ≡ at + p) × StopsAt rows w p)

placed_end : (at : ℕ) (rows : List (List Shape)) → some_left rows ≡ true → (b : Bool) → rows_empty rows ≡ b → Placed at rows []
unfolding place_from rows_after
placed_end at rows s true e = inl ((rw (e, place_from)), (rows_empty_lem rows).0 e)
placed_end at rows s false e =
    inr (0, place_end at rows ∙ (rw e) ∙ sym (add-zero at), record { within = zero-le; begun = s; stopped = inl (refl, λ d. never_both ((rows_empty_lem rows).1 d) e) })

placed : (at : ℕ) (rows : List (List Shape)) (w : List ℕ) → some_left rows ≡ true → Placed at rows w
unfolding rows_after
placed at rows [] s = placed_end at rows s (rows_empty rows) refl
placed at rows (k ∷ w) s =
    ⊎_elim
    (λ t. ⊎_elim
    (λ d. inl (place-behind at k w rows t ∙ d.0, (rows_derivative k w rows).1 d.1))
    (λ q. inr (suc q.0, place-behind at k w rows t ∙ q.1 ∙ suc-add at q.0 ∙ sym (add-suc at q.0), further q.0 q.2))
    (placed (suc at) (rows_told k rows) w t))
    (λ n. inr (0, place_here at k w rows n ∙ sym (add-zero at), record { within = zero-le; begun = s; stopped = inr (suc-le-suc zero-le, n) }))
    (either (some_left (rows_told k rows)))
  where
    further : (p : ℕ) → StopsAt (rows_told k rows) w p → StopsAt rows (k ∷ w) (suc p)
    further p x = record {
      within = suc-le-suc x.within;
      begun = x.begun;
      stopped = ⊎_elim (λ y. inl (ap suc y.0, λ d. y.1 ((rows_derivative k w rows).0 d))) (λ y. inr (suc-le-suc y.0, y.1)) x.stopped;
    }

-- alternatives that stop somewhere do not derive the whole
stops_not : {rows : List (List Shape)} (w : List ℕ) (p : ℕ) → StopsAt rows w p → OneDerives rows w → ⊥
stops_not {rows} w p x d =
    ⊎_elim (λ y. y.1 d)
    (λ y. none_derives (rows_after rows (take (suc p) w)) (drop (suc p) w) y.1
    ((derived-after rows (take (suc p) w) (drop (suc p) w)).0 (subst⁻¹ (λ (u : List ℕ). OneDerives rows u) (take-append-drop (suc p) w) d)))
    x.stopped

-- what begins a derived order is begun by each part of it from the front
pub begins-take : (r : Shape) (n : ℕ) (w : List ℕ) → Begins r w → Begins r (take n w)
begins-take r n w b =
    (drop n w ++ b.0, subst (λ (u : List ℕ). Derives r u) (ap (λ (u : List ℕ). u ++ b.0) (sym (take-append-drop n w)) ∙ append_assoc (take n w) (drop n w) b.0) b.1)

pub derived-begins : (r : Shape) (n : ℕ) (w : List ℕ) → Derives r w → Begins r (take n w)
derived-begins r n w d = (drop n w, subst (λ (u : List ℕ). Derives r u) (sym (take-append-drop n w)) d)

-- the place is 0 exactly where the order is derived, for every number of a context

-- nothing is left of `never`
no_context : (c : ℕ) → grammar c ≡ never → (w : List ℕ) → misplaced c w ≡ 1
unfolding misplaced place_from rows_empty row_empties empties some_left rows_told row_told told
no_context c e [] = rw e
no_context c e (k ∷ w) = rw e (place_here 1 k w (start never) refl)

pub bad_context : (c : ℕ) → is_context c ≡ false → (w : List ℕ) → misplaced c w ≡ 1
bad_context c h w = ⊎_elim (λ t. absurd (never_both t h)) (λ e. no_context c e w) (context_or_never c)

placed-start : (c : ℕ) (w : List ℕ) → Placed 1 (start (grammar c)) w
unfolding some_left
placed-start c w = placed 1 (start (grammar c)) w refl

pub derived_unless_misplaced : (c : ℕ) (w : List ℕ) → (misplaced c w ≡ 0) ↔ Derives (grammar c) w
unfolding misplaced
derived_unless_misplaced c w = (λ e. whole e (placed-start c w), λ d. unless d (placed-start c w))
  where
    whole : place_from 1 (start (grammar c)) w ≡ 0 → Placed 1 (start (grammar c)) w → Derives (grammar c) w
    whole e (inl x) = (derived_by_start (grammar c) w).1 x.1
    whole e (inr x) = let z : ⊥ = omega (arith, e, x.1) in absurd z

    unless : Derives (grammar c) w → Placed 1 (start (grammar c)) w → place_from 1 (start (grammar c)) w ≡ 0
    unless d (inl x) = x.0
    unless d (inr x) = absurd (stops_not w x.0 x.2 ((derived_by_start (grammar c) w).0 d))

-- of a context's order that is not derived, the place is the first kind that may not stand there, or one past the end

pub first-misplaced : (c : ℕ) → is_context c ≡ true → (w : List ℕ) (p : ℕ) → misplaced c w ≡ suc p → FirstMisplaced c w p
unfolding misplaced
first-misplaced c t w p e = found (placed-start c w)
  where
    here : (q : ℕ) → StopsAt (start (grammar c)) w q → FirstMisplaced c w q
    here q x = record {
      within = x.within;
      begun = (begins-left (grammar c) (take q w) (grammar_alive c t)).1 x.begun;
      stopped = ⊎_elim
          (λ y. inl (y.0, λ d. y.1 ((derived_by_start (grammar c) w).0 d)))
          (λ y. inr (y.0, λ b. never_both ((begins-left (grammar c) (take (suc q) w) (grammar_alive c t)).0 b) y.1))
          x.stopped;
    }

    found : Placed 1 (start (grammar c)) w → FirstMisplaced c w p
    found (inl x) = let z : ⊥ = omega (arith, e, x.0) in absurd z
    found (inr x) = let q : x.0 ≡ p = omega (arith, e, x.1) in subst (λ (n : ℕ). FirstMisplaced c w n) q (here x.0 x.2)

-- two such places are one
no_later : (c : ℕ) (w : List ℕ) (p q : ℕ) → p < q → FirstMisplaced c w p → FirstMisplaced c w q → ⊥
no_later c w p q h x y =
    ⊎_elim (λ s. let z : ⊥ = omega (arith, s.0, y.within) in z)
    (λ s. s.1 (subst (λ (u : List ℕ). Begins (grammar c) u) (take-take (suc p) q w h) (begins-take (grammar c) (suc p) (take q w) y.begun)))
    x.stopped

pub one_place : (c : ℕ) (w : List ℕ) (p q : ℕ) → FirstMisplaced c w p → FirstMisplaced c w q → p ≡ q
one_place c w p q x y =
    let no_less : q ≤ p = ⊎_elim (λ h. absurd (no_later c w p q h x y)) (λ h. h) (less_or_not p q) in
    let no_more : p ≤ q = ⊎_elim (λ h. absurd (no_later c w q p h y x)) (λ h. h) (less_or_not q p) in
    omega arith

pub misplaced-first : (c : ℕ) → is_context c ≡ true → (w : List ℕ) (p : ℕ) → FirstMisplaced c w p → misplaced c w ≡ suc p
misplaced-first c t w p x = by (misplaced c w) refl
  where
    derived_no : Derives (grammar c) w → ⊥
    derived_no d = ⊎_elim (λ s. s.1 d) (λ s. s.1 (derived-begins (grammar c) (suc p) w d)) x.stopped

    by : (n : ℕ) → misplaced c w ≡ n → misplaced c w ≡ suc p
    by zero e = absurd (derived_no ((derived_unless_misplaced c w).0 e))
    by (suc q) e = e ∙ ap suc (one_place c w q p (first-misplaced c t w q e) x)

-- the place says what it should, and what it says determines it
pub misplaced_means : (c : ℕ) → is_context c ≡ true → (w : List ℕ) (p : ℕ) → (misplaced c w ≡ suc p) ↔ FirstMisplaced c w p
misplaced_means c t w p = (first-misplaced c t w p, misplaced-first c t w p)
