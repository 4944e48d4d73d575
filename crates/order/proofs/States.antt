-- After any begun order what is left of a context's grammar is one and the same for the last kind that is no C: one test, computed
-- over contexts, last kinds and kinds, says that these states are closed under telling a kind.
-- Assumes nothing.
use mathlib.Core.Bool.{Bool, true, false, ◌&&◌, false≢true}
use mathlib.Core.List.{List, [], ◌∷◌, ◌++◌}
use mathlib.Core.Logic.{⊎_elim}
use mathlib.Core.Path.{◌≡◌, refl, ap, ◌∙◌, subst, subst⁻¹}
use Prim.Native.Nat.{ℕ, zero, suc, ◌≤◌, ◌<◌}
use native.Mathlib.Decide.{ℕ_discrete}
use native.Mathlib.Omega.{arith}
use borrow.Author.Tests.{leb-true, ne_eqb}
use lib.Dec.{leb, eqb}
use lib.ListN.{replicate}
use Rattle.laws.specs.inner.Tests.{below, every_from}
use Rattle.laws.proofs.Cases.{less_or_not, equal_or_not}
use Rattle.laws.proofs.Tests.{and_first, and_second}
use Rattle.laws.proofs.Members.{same_by, same_by_equal}
use Rattle.order.specs.Grammar.{Shape, never, only, ◌▸◌, any, plus, maybe, Shape-discrete}
use Rattle.order.specs.Contexts.{is_context}
use Rattle.order.specs.inner.Place.{empties, told, row_told, rows_told, rows_after, some_left}
use Rattle.order.specs.inner.Followers.{left_at}
use Rattle.order.proofs.Begun.{rows_after-none}
use Rattle.order.proofs.Seven.{all_seven₂, all_seven₃, states}

-- whether shapes, rows and alternatives are the same

decided : {A : Type 0} → Dec A → Bool
decided (yes p) = true
decided (no p) = false

decided_so : {A : Type 0} (d : Dec A) → decided d ≡ true → A
unfolding decided
decided_so (yes p) t = p
decided_so (no p) t = absurd (false≢true t)

same_shape : Shape → Shape → Bool
same_shape r s = decided (Shape-discrete ℕ_discrete r s)

same_shape_equal : (r s : Shape) → same_shape r s ≡ true → r ≡ s
unfolding same_shape
same_shape_equal r s t = decided_so (Shape-discrete ℕ_discrete r s) t

same_rows : List (List Shape) → List (List Shape) → Bool
same_rows xs ys = same_by (same_by same_shape) xs ys

same_rows_equal : (xs ys : List (List Shape)) → same_rows xs ys ≡ true → xs ≡ ys
unfolding same_rows
same_rows_equal = same_by_equal (same_by same_shape) (same_by_equal same_shape same_shape_equal)

-- the last kind that is no C, once k has come after x
unfoldable pub last_after : ℕ → ℕ → ℕ
last_after x k = elim (eqb k 12) [ true ↦ x | false ↦ k ]

-- the same, once each of some kinds has come
unfoldable pub last_of : ℕ → List ℕ → ℕ
last_of x [] = x
last_of x (k ∷ w) = last_of (last_after x k) w

-- telling k where x was the last leaves nothing, or what is left at the next
next_left : ℕ → ℕ → ℕ → List (List Shape) → Bool
next_left c x k [] = true
next_left c x k (row ∷ rows) = same_rows (row ∷ rows) (left_at c (last_after x k))

closed : ℕ → ℕ → ℕ → Bool
closed c x k = next_left c x k (rows_told k (left_at c x))

all_closed : below 7 (λ i. below 12 (λ x. below 13 (λ k. closed (suc i) x k))) ≡ true
unfolding closed next_left same_rows same_shape decided ℕ_discrete same_by last_after states every_from
all_closed = refl

-- no shape names a kind over 12, so a greater number leaves nothing

kinds_to12 : Shape → Bool
kinds_to12 never = true
kinds_to12 (only j) = leb j 12
kinds_to12 (a ▸ b) = kinds_to12 a && kinds_to12 b
kinds_to12 (any a) = kinds_to12 a
kinds_to12 (plus a) = kinds_to12 a
kinds_to12 (maybe a) = kinds_to12 a

row_to12 : List Shape → Bool
row_to12 [] = true
row_to12 (r ∷ rest) = kinds_to12 r && row_to12 rest

rows_to12 : List (List Shape) → Bool
rows_to12 [] = true
rows_to12 (row ∷ rows) = row_to12 row && rows_to12 rows

none-append : {A : Type 0} (xs ys : List A) → xs ≡ [] → ys ≡ [] → xs ++ ys ≡ []
none-append xs ys e f = rw (e, f)

none_where : {A : Type 0} (b : Bool) (ys : List A) → ys ≡ [] → ◌≡◌ {A = List A} (elim b [ true ↦ ys | false ↦ [] ]) []
none_where true ys e = e
none_where false ys e = refl

module _ (k : ℕ) (over : 13 ≤ k) where
  told_none : (r : Shape) (rest : List Shape) → kinds_to12 r ≡ true → told k r rest ≡ []
  unfolding told kinds_to12
  told_none never rest h = refl
  told_none (only j) rest h = rw (ne_eqb k j (λ e. let z : ⊥ = omega (arith, leb-true j 12 h) in z), told)
  told_none (a ▸ b) rest h =
      none-append (told k a (b ∷ rest)) (elim (empties a) [ true ↦ told k b rest | false ↦ [] ])
      (told_none a (b ∷ rest) (and_first (kinds_to12 a) (kinds_to12 b) h))
      (none_where (empties a) (told k b rest) (told_none b rest (and_second (kinds_to12 a) (kinds_to12 b) h)))
  told_none (any a) rest h = told_none a (any a ∷ rest) h
  told_none (plus a) rest h = told_none a (any a ∷ rest) h
  told_none (maybe a) rest h = told_none a rest h

  row_told-none : (row : List Shape) → row_to12 row ≡ true → row_told k row ≡ []
  unfolding row_told row_to12
  row_told-none [] h = refl
  row_told-none (r ∷ rest) h =
      none-append (told k r rest) (elim (empties r) [ true ↦ row_told k rest | false ↦ [] ])
      (told_none r rest (and_first (kinds_to12 r) (row_to12 rest) h))
      (none_where (empties r) (row_told k rest) (row_told-none rest (and_second (kinds_to12 r) (row_to12 rest) h)))

  rows_told-none : (rows : List (List Shape)) → rows_to12 rows ≡ true → rows_told k rows ≡ []
  unfolding rows_told rows_to12
  rows_told-none [] h = refl
  rows_told-none (row ∷ rows) h =
      none-append (row_told k row) (rows_told k rows)
      (row_told-none row (and_first (row_to12 row) (rows_to12 rows) h)) (rows_told-none rows (and_second (row_to12 row) (rows_to12 rows) h))

all-to_12 : below 7 (λ i. below 12 (λ x. rows_to12 (left_at (suc i) x))) ≡ true
unfolding kinds_to12 row_to12 rows_to12 states every_from
all-to_12 = refl

-- the states of one context

pub none_left : (k : ℕ) (rows : List (List Shape)) → rows ≡ [] → some_left (rows_told k rows) ≡ true → ⊥
unfolding some_left rows_told
none_left k rows e t = false≢true (rw e at t)

pub last_after_C : (x : ℕ) → last_after x 12 ≡ x
unfolding last_after
last_after_C x = refl

pub last_after_other : (x k : ℕ) → (k ≡ 12 → ⊥) → last_after x k ≡ k
unfolding last_after
last_after_other x k h = rw (ne_eqb k 12 h, last_after)

pub last_of_append : (x : ℕ) (u v : List ℕ) → last_of x (u ++ v) ≡ last_of (last_of x u) v
unfolding last_of
last_of_append x [] v = refl
last_of_append x (k ∷ u) v = last_of_append (last_after x k) u v

pub last_of_Cs : (x n : ℕ) → last_of x (replicate n 12) ≡ x
unfolding last_of last_after
last_of_Cs x zero = refl
last_of_Cs x (suc n) = last_of_Cs x n

module _ (c : ℕ) (t : is_context c ≡ true) where
  closed_at : (x k : ℕ) → x < 12 → k < 13 → closed c x k ≡ true
  closed_at x k hx hk = all_seven₃ 12 13 closed all_closed c t x hx k hk

  to_12_at : (x : ℕ) → x < 12 → rows_to12 (left_at c x) ≡ true
  to_12_at x hx = all_seven₂ 12 (λ n y. rows_to12 (left_at n y)) all-to_12 c t x hx

  -- a number that leaves something is a kind
  pub kind-left : (x k : ℕ) → x < 12 → some_left (rows_told k (left_at c x)) ≡ true → k < 13
  unfolding some_left
  kind-left x k hx s =
      ⊎_elim (λ h. h)
      (λ h. absurd (false≢true (rw (rows_told-none k h (left_at c x) (to_12_at x hx)) at s)))
      (less_or_not k 13)

  next_equal : (x k : ℕ) (rows : List (List Shape)) → next_left c x k rows ≡ true → some_left rows ≡ true → rows ≡ left_at c (last_after x k)
  unfolding next_left some_left
  next_equal x k [] h s = absurd (false≢true s)
  next_equal x k (row ∷ rows) h s = same_rows_equal (row ∷ rows) (left_at c (last_after x k)) h

  -- telling a kind that leaves something leads to the state of the last kind that is no C
  pub next_state : (x k : ℕ) → x < 12 → some_left (rows_told k (left_at c x)) ≡ true → rows_told k (left_at c x) ≡ left_at c (last_after x k)
  unfolding closed
  next_state x k hx s = next_equal x k (rows_told k (left_at c x)) (closed_at x k hx (kind-left x k hx s)) s

  pub next_last : (x k : ℕ) → x < 12 → some_left (rows_told k (left_at c x)) ≡ true → last_after x k < 12
  next_last x k hx s =
      ⊎_elim (λ h. subst⁻¹ (λ (n : ℕ). n < 12) (ap (last_after x) h ∙ last_after_C x) hx)
      (λ other.
      let kind : k < 13 = kind-left x k hx s in
      subst⁻¹ (λ (n : ℕ). n < 12) (last_after_other x k other) (let z : k < 12 = omega arith in z))
      (equal_or_not k 12)

  -- kinds that leave something did so from the first
  pub some-told : (k : ℕ) (w : List ℕ) (rows left : List (List Shape)) → rows_told k rows ≡ left → some_left (rows_after left w) ≡ true → some_left (rows_told k rows) ≡ true
  unfolding some_left
  some-told k w rows [] e s = absurd (false≢true (rw (rows_after-none w) at s))
  some-told k w rows (row ∷ more) e s = subst⁻¹ (λ (r : List (List Shape)). some_left r ≡ true) e refl

  -- kinds that leave something lead to the state of the last of them that is no C
  pub state_after : (x : ℕ) → x < 12 → (w : List ℕ) → some_left (rows_after (left_at c x) w) ≡ true → (rows_after (left_at c x) w ≡ left_at c (last_of x w)) × (last_of x w < 12)
  unfolding rows_after last_of
  state_after x hx [] s = (refl, hx)
  state_after x hx (k ∷ w) s =
      let h = some-told k w (left_at c x) (rows_told k (left_at c x)) refl s in
      let e = next_state x k hx h in
      let q = state_after (last_after x k) (next_last x k hx h) w (subst (λ (r : List (List Shape)). some_left (rows_after r w) ≡ true) e s) in
      (ap (λ (r : List (List Shape)). rows_after r w) e ∙ q.0, q.1)
