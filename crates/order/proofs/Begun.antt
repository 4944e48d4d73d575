-- Orders that begin a derived one, by what is left once their kinds have been told: alternatives that are all alive,
-- that is have `never` nowhere inside, begin something exactly where there is one of them.
-- Assumes nothing.
use mathlib.Core.Bool.{Bool, true, false, ◌&&◌, false≢true}
use mathlib.Core.List.{List, [], ◌∷◌, ◌++◌, cons≢nil}
use mathlib.Core.Logic.{inl, inr, ⊎_elim, ◌↔◌}
use mathlib.Core.Option.{none, some}
use mathlib.Core.Path.{◌≡◌, refl, ◌∙◌}
use Prim.Native.Nat.{ℕ}
use lib.Dec.{eqb}
use Rattle.laws.proofs.Tests.{and_first, and_second, and_both, or_first, or_second, or_cases}
use Rattle.order.specs.Grammar.{Shape, never, only, ◌▸◌, any, plus, maybe, Tree, word, each, present, Derives, Begins}
use Rattle.order.specs.inner.Place.{empties, told, row_told, rows_told, row_empties, rows_empty, rows_after, some_left, start}
use Rattle.order.proofs.Rows.{RowTree, row_word, RowDerives, OneDerives, rows_derivative, writes_nothing}

-- the empty order

-- a derivation that writes nothing, before nothing, is of a shape that derives the empty order
each-nothing : {A : Type 0} (f : A → List ℕ → List ℕ) → ((t : A) (v : List ℕ) → f t v ≡ [] → v ≡ []) → (ts : List A) (v : List ℕ) → each f ts v ≡ [] → v ≡ []
unfolding each
each-nothing f h [] v e = e
each-nothing f h (t ∷ ts) v e = each-nothing f h ts v (h t (each f ts v) e)

nothing_written : (r : Shape) (t : Tree r) (v : List ℕ) → word r t v ≡ [] → (empties r ≡ true) × (v ≡ [])
unfolding word empties present
nothing_written never t v e = absurd t
nothing_written (only k) t v e = absurd (cons≢nil e)
nothing_written (a ▸ b) t v e =
    let p = nothing_written a t.0 (word b t.1 v) e in
    let q = nothing_written b t.1 v p.1 in
    (and_both p.0 q.0, q.1)
nothing_written (any a) ts v e = (refl, each-nothing (word a) (λ t u h. (nothing_written a t u h).1) ts v e)
nothing_written (plus a) t v e =
    let p = nothing_written a t.0 (each (word a) t.1 v) e in
    (p.0, each-nothing (word a) (λ u x h. (nothing_written a u x h).1) t.1 v p.1)
nothing_written (maybe a) none v e = (refl, e)
nothing_written (maybe a) (some t) v e = (refl, (nothing_written a t v e).1)

row_empty : (row : List Shape) → row_empties row ≡ true → RowDerives row []
unfolding row_empties row_word
row_empty [] h = (tt, refl)
row_empty (r ∷ rest) h =
    let x = writes_nothing r (and_first (empties r) (row_empties rest) h) in
    let d = row_empty rest (and_second (empties r) (row_empties rest) h) in
    ((x.0, d.0), x.1 (row_word rest d.0) ∙ d.1)

empty_row : (row : List Shape) → RowDerives row [] → row_empties row ≡ true
unfolding row_empties row_word
empty_row [] d = refl
empty_row (r ∷ rest) d =
    let p = nothing_written r d.0.0 (row_word rest d.0.1) d.1 in
    and_both p.0 (empty_row rest (d.0.1, p.1))

rows_empty_to : (rows : List (List Shape)) → rows_empty rows ≡ true → OneDerives rows []
unfolding rows_empty
rows_empty_to [] h = absurd (false≢true h)
rows_empty_to (row ∷ rows) h =
    ⊎_elim (λ x. inl (row_empty row x)) (λ y. inr (rows_empty_to rows y)) (or_cases (row_empties row) (rows_empty rows) h)

rows_empty_from : (rows : List (List Shape)) → OneDerives rows [] → rows_empty rows ≡ true
unfolding rows_empty
rows_empty_from [] d = absurd d
rows_empty_from (row ∷ rows) (inl d) = or_first (rows_empty rows) (empty_row row d)
rows_empty_from (row ∷ rows) (inr d) = or_second (row_empties row) (rows_empty_from rows d)

pub rows_empty_lem : (rows : List (List Shape)) → (rows_empty rows ≡ true) ↔ OneDerives rows []
rows_empty_lem rows = (rows_empty_to rows, rows_empty_from rows)

-- what is left once kinds have been told, one after the other

pub rows_after-append : (rows : List (List Shape)) (w v : List ℕ) → rows_after rows (w ++ v) ≡ rows_after (rows_after rows w) v
unfolding rows_after
rows_after-append rows [] v = refl
rows_after-append rows (k ∷ w) v = rows_after-append (rows_told k rows) w v

pub rows_after-none : (w : List ℕ) → rows_after [] w ≡ []
unfolding rows_after rows_told
rows_after-none [] = refl
rows_after-none (k ∷ w) = rows_after-none w

left_derives : (rows : List (List Shape)) (w v : List ℕ) → OneDerives rows (w ++ v) → OneDerives (rows_after rows w) v
unfolding rows_after
left_derives rows [] v d = d
left_derives rows (k ∷ w) v d = left_derives (rows_told k rows) w v ((rows_derivative k (w ++ v) rows).0 d)

derives_left : (rows : List (List Shape)) (w v : List ℕ) → OneDerives (rows_after rows w) v → OneDerives rows (w ++ v)
unfolding rows_after
derives_left rows [] v d = d
derives_left rows (k ∷ w) v d = (rows_derivative k (w ++ v) rows).1 (derives_left (rows_told k rows) w v d)

-- an order is derived exactly where what is left of the alternatives derives what is left of the order
pub derived-after : (rows : List (List Shape)) (w v : List ℕ) → OneDerives rows (w ++ v) ↔ OneDerives (rows_after rows w) v
derived-after rows w v = (left_derives rows w v, derives_left rows w v)

-- shapes that are alive derive something

unfoldable pub alive : Shape → Bool
alive never = false
alive (only k) = true
alive (a ▸ b) = alive a && alive b
alive (any a) = alive a
alive (plus a) = alive a
alive (maybe a) = alive a

unfoldable pub row_alive : List Shape → Bool
row_alive [] = true
row_alive (r ∷ rest) = alive r && row_alive rest

unfoldable pub rows_alive : List (List Shape) → Bool
rows_alive [] = true
rows_alive (row ∷ rows) = row_alive row && rows_alive rows

some_tree : (r : Shape) → alive r ≡ true → Tree r
unfolding alive
some_tree never h = false≢true h
some_tree (only k) h = tt
some_tree (a ▸ b) h = (some_tree a (and_first (alive a) (alive b) h), some_tree b (and_second (alive a) (alive b) h))
some_tree (any a) h = []
some_tree (plus a) h = (some_tree a h, [])
some_tree (maybe a) h = none

some-row : (row : List Shape) → row_alive row ≡ true → RowTree row
unfolding row_alive
some-row [] h = tt
some-row (r ∷ rest) h = (some_tree r (and_first (alive r) (row_alive rest) h), some-row rest (and_second (alive r) (row_alive rest) h))

alive_append : (xs ys : List (List Shape)) → rows_alive xs ≡ true → rows_alive ys ≡ true → rows_alive (xs ++ ys) ≡ true
unfolding rows_alive
alive_append [] ys h g = g
alive_append (row ∷ xs) ys h g =
    and_both (and_first (row_alive row) (rows_alive xs) h) (alive_append xs ys (and_second (row_alive row) (rows_alive xs) h) g)

alive_where : (b : Bool) (ys : List (List Shape)) → rows_alive ys ≡ true → rows_alive (elim b [ true ↦ ys | false ↦ [] ]) ≡ true
unfolding rows_alive
alive_where true ys h = h
alive_where false ys h = refl

-- telling a kind leaves only what is alive
module _ (k : ℕ) where
  told_alive : (r : Shape) (rest : List Shape) → alive r ≡ true → row_alive rest ≡ true → rows_alive (told k r rest) ≡ true
  unfolding told alive row_alive rows_alive
  told_alive never rest h g = refl
  told_alive (only j) rest h g = alive_where (eqb k j) (rest ∷ []) (and_both g refl)
  told_alive (a ▸ b) rest h g =
      let ha = and_first (alive a) (alive b) h in
      let hb = and_second (alive a) (alive b) h in
      alive_append (told k a (b ∷ rest)) (elim (empties a) [ true ↦ told k b rest | false ↦ [] ])
      (told_alive a (b ∷ rest) ha (and_both hb g)) (alive_where (empties a) (told k b rest) (told_alive b rest hb g))
  told_alive (any a) rest h g = told_alive a (any a ∷ rest) h (and_both h g)
  told_alive (plus a) rest h g = told_alive a (any a ∷ rest) h (and_both h g)
  told_alive (maybe a) rest h g = told_alive a rest h g

  row_told_alive : (row : List Shape) → row_alive row ≡ true → rows_alive (row_told k row) ≡ true
  unfolding row_told row_alive rows_alive
  row_told_alive [] h = refl
  row_told_alive (r ∷ rest) h =
      let hr = and_first (alive r) (row_alive rest) h in
      let hs = and_second (alive r) (row_alive rest) h in
      alive_append (told k r rest) (elim (empties r) [ true ↦ row_told k rest | false ↦ [] ]) (told_alive r rest hr hs) (alive_where (empties r) (row_told k rest) (row_told_alive rest hs))

  pub rows_told_alive : (rows : List (List Shape)) → rows_alive rows ≡ true → rows_alive (rows_told k rows) ≡ true
  unfolding rows_told rows_alive
  rows_told_alive [] h = refl
  rows_told_alive (row ∷ rows) h =
      alive_append (row_told k row) (rows_told k rows) (row_told_alive row (and_first (row_alive row) (rows_alive rows) h)) (rows_told_alive rows (and_second (row_alive row) (rows_alive rows) h))

pub rows_after_alive : (rows : List (List Shape)) (w : List ℕ) → rows_alive rows ≡ true → rows_alive (rows_after rows w) ≡ true
unfolding rows_after
rows_after_alive rows [] h = h
rows_after_alive rows (k ∷ w) h = rows_after_alive (rows_told k rows) w (rows_told_alive k rows h)

something : (rows : List (List Shape)) → rows_alive rows ≡ true → some_left rows ≡ true → (v : List ℕ) × OneDerives rows v
unfolding rows_alive some_left
something [] h s = absurd (false≢true s)
something (row ∷ rows) h s = let t = some-row row (and_first (row_alive row) (rows_alive rows) h) in (row_word row t, inl (t, refl))

left_of_derived : (rows : List (List Shape)) (v : List ℕ) → OneDerives rows v → some_left rows ≡ true
unfolding some_left
left_of_derived [] v d = absurd d
left_of_derived (row ∷ rows) v d = refl

pub derived_by_start : (r : Shape) (w : List ℕ) → Derives r w ↔ OneDerives (start r) w
unfolding row_word
derived_by_start r w = (λ d. inl ((d.0, tt), d.1), λ d. ⊎_elim (λ x. (x.0.0, x.1)) (λ z. absurd z) d)

-- a live shape's order begins a derived one exactly where something is left
pub begins-left : (r : Shape) (w : List ℕ) → alive r ≡ true → Begins r w ↔ (some_left (rows_after (start r) w) ≡ true)
unfolding row_alive rows_alive
begins-left r w h = (
  λ b. left_of_derived (rows_after (start r) w) b.0 ((derived-after (start r) w b.0).0 ((derived_by_start r (w ++ b.0)).0 b.1)),
  λ s.
      let x = something (rows_after (start r) w) (rows_after_alive (start r) w (and_both (and_both h refl) refl)) s in
      (x.0, (derived_by_start r (w ++ x.0)).1 ((derived-after (start r) w x.0).1 x.1)),
)
