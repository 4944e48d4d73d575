-- Rows of shapes that are still to come, their derivations, and that derivatives are right: an order that begins with a kind
-- is derived by a row exactly where what follows the kind is derived by one of the rows that are left once it has been told.
-- Assumes nothing.
use mathlib.Core.Bool.{Bool, true, false, false≢true}
use mathlib.Core.List.{List, [], ◌∷◌, ◌++◌, head-eq_of_cons-eq, tail-eq_of_cons-eq, nil≢cons}
use mathlib.Core.Logic.{◌⊎◌, inl, inr, ⊎_elim, ◌↔◌}
use mathlib.Core.Option.{none, some}
use mathlib.Core.Path.{◌≡◌, refl, sym, ap, ◌∙◌}
use Prim.Native.Nat.{ℕ}
use borrow.Author.Tests.{eqb-true, eq-eqb}
use lib.Dec.{eqb}
use Rattle.laws.proofs.Tests.{and_first, and_second, and_both}
use Rattle.order.specs.Grammar.{Shape, never, only, ◌▸◌, any, plus, maybe, Tree, word, each, present}
use Rattle.order.specs.inner.Place.{empties, told, row_told, rows_told}

-- the derivations of a row: one of each of its shapes
abbrev pub RowTree : List Shape → Type 0
RowTree [] = Unit {0}
RowTree (r ∷ rest) = Tree r × RowTree rest

unfoldable pub row_word : (row : List Shape) → RowTree row → List ℕ
row_word [] t = []
row_word (r ∷ rest) t = word r t.0 (row_word rest t.1)

abbrev pub RowDerives : List Shape → List ℕ → Type 0
RowDerives row w = (t : RowTree row) × (row_word row t ≡ w)

-- one of the alternatives derives an order
abbrev pub OneDerives : List (List Shape) → List ℕ → Type 0
OneDerives [] w = ⊥
OneDerives (row ∷ rows) w = RowDerives row w ⊎ OneDerives rows w

-- alternatives in a row, and alternatives that are there where a test passes
module _ (w : List ℕ) where
  one_left : (xs ys : List (List Shape)) → OneDerives xs w → OneDerives (xs ++ ys) w
  one_left [] ys d = absurd d
  one_left (row ∷ xs) ys (inl d) = inl d
  one_left (row ∷ xs) ys (inr d) = inr (one_left xs ys d)

  one_right : (xs ys : List (List Shape)) → OneDerives ys w → OneDerives (xs ++ ys) w
  one_right [] ys d = d
  one_right (row ∷ xs) ys d = inr (one_right xs ys d)

  one_cases : (xs ys : List (List Shape)) → OneDerives (xs ++ ys) w → OneDerives xs w ⊎ OneDerives ys w
  one_cases [] ys d = inr d
  one_cases (row ∷ xs) ys (inl d) = inl (inl d)
  one_cases (row ∷ xs) ys (inr d) = ⊎_elim (λ e. inl (inr e)) (λ e. inr e) (one_cases xs ys d)

  one_where : (b : Bool) (ys : List (List Shape)) → b ≡ true → OneDerives ys w → OneDerives (elim b [ true ↦ ys | false ↦ [] ]) w
  one_where true ys t d = d
  one_where false ys t d = absurd (false≢true t)

  one_where_cases : (b : Bool) (ys : List (List Shape)) → OneDerives (elim b [ true ↦ ys | false ↦ [] ]) w → (b ≡ true) × OneDerives ys w
  one_where_cases true ys d = (refl, d)
  one_where_cases false ys d = absurd d

-- a shape that derives the empty order has a derivation that writes nothing
pub writes_nothing : (r : Shape) → empties r ≡ true → (t : Tree r) × ((v : List ℕ) → word r t v ≡ v)
unfolding empties word each present
writes_nothing never h = absurd (false≢true h)
writes_nothing (only k) h = absurd (false≢true h)
writes_nothing (a ▸ b) h =
    let x = writes_nothing a (and_first (empties a) (empties b) h) in
    let y = writes_nothing b (and_second (empties a) (empties b) h) in
    ((x.0, y.0), λ v. x.1 (word b y.0 v) ∙ y.1 v)
writes_nothing (any a) h = ([], λ v. refl)
writes_nothing (plus a) h = let x = writes_nothing a h in ((x.0, []), λ v. x.1 v)
writes_nothing (maybe a) h = (none, λ v. refl)

module _ (k : ℕ) (w : List ℕ) where
  -- what stands after a shape where an order begins with k: the shape has begun it, or it writes nothing
  abbrev Begun : Shape → List Shape → List ℕ → Type 0
  Begun r rest v = OneDerives (told k r rest) w ⊎ ((empties r ≡ true) × (v ≡ k ∷ w))

  only-begun : (j : ℕ) (rest : List Shape) (s : RowTree rest) → j ∷ row_word rest s ≡ k ∷ w → OneDerives (told k (only j) rest) w
  unfolding told
  only-begun j rest s e = one_where w (eqb k j) (rest ∷ []) (eq-eqb k j (sym (head-eq_of_cons-eq e))) (inl (s, tail-eq_of_cons-eq e))

  any-begun : (a : Shape) (rest : List Shape) (v : List ℕ)
      → ((t : Tree a) (ts : List (Tree a)) → word a t (each (word a) ts v) ≡ k ∷ w → Begun a (any a ∷ rest) (each (word a) ts v))
      → (ts : List (Tree a)) → each (word a) ts v ≡ k ∷ w → OneDerives (told k a (any a ∷ rest)) w ⊎ (v ≡ k ∷ w)
  unfolding each
  any-begun a rest v begun [] e = inr e
  any-begun a rest v begun (t ∷ ts) e = ⊎_elim (λ d. inl d) (λ q. any-begun a rest v begun ts q.1) (begun t ts e)

  pub shape-begun : (r : Shape) (rest : List Shape) (t : Tree r) (s : RowTree rest) → word r t (row_word rest s) ≡ k ∷ w → Begun r rest (row_word rest s)
  unfolding told empties word each present row_word
  shape-begun never rest t s e = absurd t
  shape-begun (only j) rest t s e = inl (only-begun j rest s e)
  shape-begun (a ▸ b) rest t s e =
      ⊎_elim (λ d. inl (one_left w (told k a (b ∷ rest)) (elim (empties a) [ true ↦ told k b rest | false ↦ [] ]) d))
      (λ q. ⊎_elim
      (λ d. inl (one_right w (told k a (b ∷ rest)) (elim (empties a) [ true ↦ told k b rest | false ↦ [] ]) (one_where w (empties a) (told k b rest) q.0 d)))
      (λ p. inr (and_both q.0 p.0, p.1))
      (shape-begun b rest t.1 s q.1))
      (shape-begun a (b ∷ rest) t.0 (t.1, s) e)
  shape-begun (any a) rest ts s e =
      ⊎_elim (λ d. inl d) (λ q. inr (refl, q))
      (any-begun a rest (row_word rest s) (λ t us h. shape-begun a (any a ∷ rest) t (us, s) h) ts e)
  shape-begun (plus a) rest t s e =
      ⊎_elim (λ d. inl d)
      (λ p. ⊎_elim (λ d. inl d) (λ q. inr (p.0, q))
      (any-begun a rest (row_word rest s) (λ u us h. shape-begun a (any a ∷ rest) u (us, s) h) t.1 p.1))
      (shape-begun a (any a ∷ rest) t.0 (t.1, s) e)
  shape-begun (maybe a) rest none s e = inr (refl, e)
  shape-begun (maybe a) rest (some t) s e = ⊎_elim (λ d. inl d) (λ q. inr (refl, q.1)) (shape-begun a rest t s e)

  only-told : (j : ℕ) (rest : List Shape) → OneDerives (told k (only j) rest) w → RowDerives (only j ∷ rest) (k ∷ w)
  unfolding told row_word word
  only-told j rest d = found (one_where_cases w (eqb k j) (rest ∷ []) d)
    where
      found : (eqb k j ≡ true) × OneDerives (rest ∷ []) w → RowDerives (only j ∷ rest) (k ∷ w)
      found p = ⊎_elim (λ q. ((tt, q.0), ap {B = List ℕ} (λ n. n ∷ row_word rest q.0) (sym (eqb-true k j p.0)) ∙ ap {B = List ℕ} (λ v. k ∷ v) q.1)) (λ z. absurd z) p.1

  pub shape-told : (r : Shape) (rest : List Shape) → OneDerives (told k r rest) w → RowDerives (r ∷ rest) (k ∷ w)
  unfolding told word each present row_word
  shape-told never rest d = absurd d
  shape-told (only j) rest d = only-told j rest d
  shape-told (a ▸ b) rest d =
      ⊎_elim (λ x. let q = shape-told a (b ∷ rest) x in (((q.0.0, q.0.1.0), q.0.1.1), q.1))
      (λ y.
      let p = one_where_cases w (empties a) (told k b rest) y in
      let x = writes_nothing a p.0 in
      let q = shape-told b rest p.1 in
      (((x.0, q.0.0), q.0.1), x.1 (word b q.0.0 (row_word rest q.0.1)) ∙ q.1))
      (one_cases w (told k a (b ∷ rest)) (elim (empties a) [ true ↦ told k b rest | false ↦ [] ]) d)
  shape-told (any a) rest d = let q = shape-told a (any a ∷ rest) d in ((q.0.0 ∷ q.0.1.0, q.0.1.1), q.1)
  shape-told (plus a) rest d = let q = shape-told a (any a ∷ rest) d in (((q.0.0, q.0.1.0), q.0.1.1), q.1)
  shape-told (maybe a) rest d = let q = shape-told a rest d in ((some q.0.0, q.0.1), q.1)

  row_told_lem : (row : List Shape) → OneDerives (row_told k row) w → RowDerives row (k ∷ w)
  unfolding row_told row_word
  row_told_lem [] d = absurd d
  row_told_lem (r ∷ rest) d =
      ⊎_elim (λ x. shape-told r rest x)
      (λ y.
      let p = one_where_cases w (empties r) (row_told k rest) y in
      let x = writes_nothing r p.0 in
      let q = row_told_lem rest p.1 in
      ((x.0, q.0), x.1 (row_word rest q.0) ∙ q.1))
      (one_cases w (told k r rest) (elim (empties r) [ true ↦ row_told k rest | false ↦ [] ]) d)

  row-begun : (row : List Shape) → RowDerives row (k ∷ w) → OneDerives (row_told k row) w
  unfolding row_told row_word
  row-begun [] d = absurd (nil≢cons d.1)
  row-begun (r ∷ rest) d =
      ⊎_elim (λ x. one_left w (told k r rest) (elim (empties r) [ true ↦ row_told k rest | false ↦ [] ]) x)
      (λ q. one_right w (told k r rest) (elim (empties r) [ true ↦ row_told k rest | false ↦ [] ])
      (one_where w (empties r) (row_told k rest) q.0 (row-begun rest (d.0.1, q.1))))
      (shape-begun r rest d.0.0 d.0.1 d.1)

  -- the derivatives of a row are right
  pub row_derivative : (row : List Shape) → RowDerives row (k ∷ w) ↔ OneDerives (row_told k row) w
  row_derivative row = (row-begun row, row_told_lem row)

  rows-begun : (rows : List (List Shape)) → OneDerives rows (k ∷ w) → OneDerives (rows_told k rows) w
  unfolding rows_told
  rows-begun [] d = d
  rows-begun (row ∷ rows) (inl d) = one_left w (row_told k row) (rows_told k rows) (row-begun row d)
  rows-begun (row ∷ rows) (inr d) = one_right w (row_told k row) (rows_told k rows) (rows-begun rows d)

  rows_told_lem : (rows : List (List Shape)) → OneDerives (rows_told k rows) w → OneDerives rows (k ∷ w)
  unfolding rows_told
  rows_told_lem [] d = d
  rows_told_lem (row ∷ rows) d =
      ⊎_elim (λ x. inl (row_told_lem row x)) (λ y. inr (rows_told_lem rows y)) (one_cases w (row_told k row) (rows_told k rows) d)

  -- and of alternatives
  pub rows_derivative : (rows : List (List Shape)) → OneDerives rows (k ∷ w) ↔ OneDerives (rows_told k rows) w
  rows_derivative rows = (rows-begun rows, rows_told_lem rows)
