-- Owners as rows are read are the owners by O2 and O3: for every order of kinds and all levels below `top_level`.
-- Assumes nothing.
use mathlib.Core.Bool.{Bool, true, false, not, ◌&&◌, and-true}
use mathlib.Core.List.{List, [], ◌∷◌, reverse, reverse_aux, reverse-append}
use mathlib.Core.Path.{◌≡◌, refl, sym, ap, ap₂, ◌∙◌, subst⁻¹, subst₂}
use Prim.Native.Nat.{ℕ, zero, suc, ◌+◌, ◌≤◌, ◌<◌}
use native.Mathlib.Nat.{le_of_suc-le-suc, not-suc-le-zero, le_of_lt}
use native.Mathlib.Numerals.{add-one}
use native.Mathlib.Omega.{arith}
use borrow.Author.Tests.{eqb-true, eqb-false, ltb-true, ltb-false, lt-ltb, eq-eqb, ne_eqb}
use lib.Dec.{ltb, eqb}
use lib.ListN.{length, get_or, take, get_or-replicate, length-reverse}
use lib.Seq.{length-take-le, take-suc}
use Rattle.order.specs.Owners.{nearest, is_c, owner, owners_after, owners}
use Rattle.order.specs.inner.Levels.{top_level}
use Rattle.order.specs.inner.Owning.{no_rows, level_place, added, Owned, owned}
use Rattle.order.proofs.Nearest.{place_C, place-level, length-added, added-below, added_above}

-- the nearest row that passes a test

nearest-same : (p q : ℕ → Bool) → ((j : ℕ) → p j ≡ q j) → (before : List ℕ) → nearest p before ≡ nearest q before
unfolding nearest
nearest-same p q h [] = refl
nearest-same p q h (k ∷ before) =
    ap₂ {C = ℕ} (λ (b : Bool) (n : ℕ). elim b [ true ↦ suc (length before) | false ↦ n ]) (h k) (nearest-same p q h before)

module _ (p : ℕ → Bool) (k : ℕ) (before : List ℕ) where
  nearest_here : p k ≡ true → nearest p (k ∷ before) ≡ suc (length before)
  unfolding nearest
  nearest_here e = rw (e, nearest)

  nearest_further : p k ≡ false → nearest p (k ∷ before) ≡ nearest p before
  unfolding nearest
  nearest_further e = rw (e, nearest)

C_is : (k : ℕ) → k ≡ 12 → is_c k ≡ true
unfolding is_c
C_is k e = eq-eqb k 12 e

C_is_not : (k : ℕ) → (k ≡ 12 → ⊥) → is_c k ≡ false
unfolding is_c
C_is_not k n = ne_eqb k 12 n

-- no C, and of a level below l
abbrev pub nearer : (ℕ → ℕ) → ℕ → ℕ → Bool
nearer lv l j = not (is_c j) && ltb (lv j) l

-- what is known of the rows of the kinds before, the nearest kind first
pub record Known (lv : ℕ → ℕ) (before near : List ℕ) : Type 0 where
  pub nine : length near ≡ 9
  pub rows : (l : ℕ) → l ≤ 8 → get_or near l 0 ≡ nearest (nearer lv l) before

pub known-none : (lv : ℕ → ℕ) → Known lv [] no_rows
unfolding no_rows nearest
known-none lv = record { nine = refl; rows = λ l h. get_or-replicate 9 l 0 0 (omega arith) }

module _ (lv : ℕ → ℕ) (few : (j : ℕ) → lv j < top_level) where
  module _ {before near : List ℕ} (known : Known lv before near) (k : ℕ) where
    owner_by : (b : Bool) → eqb k 12 ≡ b → get_or near (level_place k (lv k)) 0 ≡ owner lv before k
    unfolding owner
    owner_by true e =
        let q = eqb-true k 12 e in
        ap (λ (n : ℕ). get_or near n 0) (place_C k (lv k) q) ∙ known.rows 8 (omega arith)
        ∙ nearest-same (nearer lv 8) (λ j. not (is_c j)) (λ j. (rw (lt-ltb (lv j) 8 (few j))) ∙ and-true (not (is_c j))) before
        ∙ sym (rw (C_is k q, owner))
    owner_by false e =
        let n = eqb-false k 12 e in
        ap (λ (m : ℕ). get_or near m 0) (place-level k (lv k) n (few k)) ∙ known.rows (lv k) (let h = few k in omega arith) ∙ sym (rw (C_is_not k n, owner))

    -- the owner that comes back is the one by O2 and O3
    pub owner_right : get_or near (level_place k (lv k)) 0 ≡ owner lv before k
    owner_right = owner_by (eqb k 12) refl

    -- what is known once the row of k has come, at one place
    abbrev Next : ℕ → Type 0
    Next l = get_or (added near (level_place k (lv k)) (suc (length before))) l 0 ≡ nearest (nearer lv l) (k ∷ before)

    -- a place that the row does not reach
    kept : (l : ℕ) → l ≤ 8 → l ≤ level_place k (lv k) → nearer lv l k ≡ false → Next l
    kept l h under e =
        added-below near (level_place k (lv k)) (suc (length before)) l under ∙ known.rows l h ∙ sym (nearest_further (nearer lv l) k before e)

    row_C : k ≡ 12 → (l : ℕ) → l ≤ 8 → Next l
    row_C e l h = kept l h (rw (place_C k (lv k) e) h) (rw (C_is k e))

    row_other : (k ≡ 12 → ⊥) → (l : ℕ) → l ≤ 8 → (b : Bool) → ltb (lv k) l ≡ b → Next l
    row_other n l h true e =
        added_above near (level_place k (lv k)) (suc (length before)) l (rw (place-level k (lv k) n (few k)) (ltb-true (lv k) l e)) h known.nine
        ∙ sym (nearest_here (nearer lv l) k before (rw (C_is_not k n, e)))
    row_other n l h false e = kept l h (rw (place-level k (lv k) n (few k)) (ltb-false (lv k) l e)) (rw (C_is_not k n, e))

    row_by : (b : Bool) → eqb k 12 ≡ b → (l : ℕ) → l ≤ 8 → Next l
    row_by true e l h = row_C (eqb-true k 12 e) l h
    row_by false e l h = row_other (eqb-false k 12 e) l h (ltb (lv k) l) refl

    -- and what is known after the row is right again
    pub known_next : Known lv (k ∷ before) (added near (level_place k (lv k)) (suc (length before)))
    known_next = record {
      nine = length-added near (level_place k (lv k)) (suc (length before)) ∙ known.nine;
      rows = row_by (eqb k 12) refl;
    }

  owned-after : (before near : List ℕ) → Known lv before near → (ks : List ℕ) → owned lv near (suc (length before)) ks ≡ owners_after lv before ks
  unfolding owned owners_after
  owned-after before near known [] = refl
  owned-after before near known (k ∷ ks) =
      ap₂ {C = List ℕ} (λ (o : ℕ) (os : List ℕ). o ∷ os) (owner_right known k)
      (owned-after (k ∷ before) (added near (level_place k (lv k)) (suc (length before))) (known_next known k) ks)

  -- the owners that come back as the rows of an order are read are its owners, for every order
  pub owned-owners : (kinds : List ℕ) → owned lv no_rows 1 kinds ≡ owners lv kinds
  unfolding owners
  owned-owners kinds = owned-after [] no_rows (known-none lv) kinds

-- the owner of one row of an order, by the kinds before it

owners_after_at : (lv : ℕ → ℕ) (ks before : List ℕ) (i : ℕ) → i < length ks → get_or (owners_after lv before ks) i 0 ≡ owner lv (reverse_aux (take i ks) before) (get_or ks i 0)
unfolding owners_after
owners_after_at lv [] before i h = absurd (not-suc-le-zero h)
owners_after_at lv (k ∷ ks) before zero h = refl
owners_after_at lv (k ∷ ks) before (suc i) h = owners_after_at lv ks (k ∷ before) i (le_of_suc-le-suc h)

pub owners_at : (lv : ℕ → ℕ) (ks : List ℕ) (i : ℕ) → i < length ks → get_or (owners lv ks) i 0 ≡ owner lv (reverse (take i ks)) (get_or ks i 0)
unfolding owners
owners_at lv ks i h = owners_after_at lv ks [] i h

length-owners_after : (lv : ℕ → ℕ) (ks before : List ℕ) → length (owners_after lv before ks) ≡ length ks
unfolding owners_after
length-owners_after lv [] before = refl
length-owners_after lv (k ∷ ks) before = ap suc (length-owners_after lv ks (k ∷ before))

pub length-owners : (lv : ℕ → ℕ) (ks : List ℕ) → length (owners lv ks) ≡ length ks
unfolding owners
length-owners lv ks = length-owners_after lv ks []

-- the kinds before the next row, the nearest first; and the turns of a loop over the kinds ks: the first i rows are known

pub before-next : (ks : List ℕ) (i : ℕ) → i < length ks → reverse (take (suc i) ks) ≡ get_or ks i 0 ∷ reverse (take i ks)
before-next ks i h = ap reverse (take-suc ks i 0 h) ∙ reverse-append (take i ks) (get_or ks i 0 ∷ [])

kinds-before : (ks : List ℕ) (i : ℕ) → i < length ks → reverse (take (i + 1) ks) ≡ get_or ks i 0 ∷ reverse (take i ks)
kinds-before ks i h = ap (λ (n : ℕ). reverse (take n ks)) (add-one i) ∙ before-next ks i h

pub record RowsKnown (lv : ℕ → ℕ) (ks : List ℕ) (i : ℕ) (near : List ℕ) : Type 0 where
  pub known : Known lv (reverse (take i ks)) near

pub rows_begin : (lv : ℕ → ℕ) (ks : List ℕ) → RowsKnown lv ks 0 no_rows
rows_begin lv ks = record { known = known-none lv }

module _ (lv : ℕ → ℕ) (few : (j : ℕ) → lv j < top_level) {ks : List ℕ} {i : ℕ} {near : List ℕ} (r : RowsKnown lv ks i near) (h : i < length ks) where
  pub row-owner : get_or near (level_place (get_or ks i 0) (lv (get_or ks i 0))) 0 ≡ get_or (owners lv ks) i 0
  row-owner = owner_right lv few r.known (get_or ks i 0) ∙ sym (owners_at lv ks i h)

  pub row_next : RowsKnown lv ks (i + 1) (added near (level_place (get_or ks i 0) (lv (get_or ks i 0))) (i + 1))
  row_next =
      let n : suc (length (reverse (take i ks))) ≡ i + 1 = ap suc (length-reverse (take i ks) ∙ length-take-le i ks (le_of_lt h)) ∙ sym (add-one i) in
      let after : ℕ → List ℕ = added near (level_place (get_or ks i 0) (lv (get_or ks i 0))) in
      record {
        known = subst₂ (λ (b : List ℕ) (m : ℕ). Known lv b (after m)) (sym (kinds-before ks i h)) n (known_next lv few r.known (get_or ks i 0));
      }

  -- one turn, by what `owner_of` hands back: the owner, and what is known of one row more
  pub row_read : {after : List ℕ} {row l o : ℕ} → row ≡ i + 1 → l ≡ lv (get_or ks i 0) → Owned near after row (get_or ks i 0) l o
      → (o ≡ get_or (owners lv ks) i 0) × RowsKnown lv ks (i + 1) after
  row_read e f w = (
    w.owner ∙ ap (λ (m : ℕ). get_or near (level_place (get_or ks i 0) m) 0) f ∙ row-owner,
    subst⁻¹ (RowsKnown lv ks (i + 1)) (w.known ∙ ap₂ (λ (m n : ℕ). added near (level_place (get_or ks i 0) m) n) f e) row_next,
  )
