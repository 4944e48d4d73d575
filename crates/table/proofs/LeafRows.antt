-- Leaf rows (T3) and text area (T4) give the leaves that they were made of.
-- Assumes nothing.
use mathlib.Core.List.{List, [], ◌∷◌, ◌++◌, append_assoc}
use mathlib.Core.Path.{◌≡◌, refl, sym, ap, ap₂, ◌∙◌}
use Prim.Native.Nat.{ℕ, suc, ◌+◌, ◌*◌}
use native.Mathlib.Nat.{add-zero}
use native.Mathlib.Omega.{arith}
use lib.ListN.{length, take, drop, get_or, length-append}
use lib.Seq.{take_at, drop_at, get_or_at, drop-append-add, get_or-append-add}
use Rattle.laws.specs.Lists.{among, concat}
use Rattle.laws.specs.Every.{All, none, also}
use Rattle.laws.specs.Tables.{values}
use Rattle.laws.proofs.Tests.{Tested, passed, failed, tested}
use Rattle.laws.proofs.Tables.{values-later, values_as}
use Rattle.laws.proofs.Every.{all_append, all_map}
use Rattle.form.specs.declared.separators.Separators.{Separators}
use Rattle.form.specs.Header.{splitting}
use Rattle.table.specs.Leaves.{Leaf, segment_leaves, header_leaves, leaves_from, message_leaves}
use Rattle.table.specs.Rows.{leaf_row_size, leaf_rows_from, text_of, all_leaves, table_of}
use Rattle.table.specs.inner.Back.{leaf_at, leaves_of}
use Rattle.table.specs.inner.Flat.{leaf, raised, flat, under}
use Rattle.table.proofs.Flat.{flat_separator, flat-text, segment-flat, header-flat}
use Rattle.table.proofs.Places.{length-raised}

-- that a leaf's place has k numbers
abbrev pub Placed : ℕ → Leaf → Type 0
Placed k l = length l.place ≡ k

-- the first row states the first leaf
pub first-row : (l : Leaf) (start : ℕ) (rows pre more : List ℕ) → Placed 5 l → length pre ≡ start
    → leaf_at (l.place ++ (start ∷ length l.text ∷ rows)) (pre ++ (l.text ++ more)) 0 ≡ l
unfolding leaf_at
first-row l start rows pre more five at =
    ap₂ leaf (take_at l.place (start ∷ length l.text ∷ rows) 5 five)
    (ap₂ (λ (n m : ℕ). take n (drop m (pre ++ (l.text ++ more)))) size (get_or_at l.place start (length l.text ∷ rows) 0 5 five)
    ∙ ap (take (length l.text)) (drop_at pre (l.text ++ more) start at)
    ∙ take_at l.text more (length l.text) refl)
  where
    size : get_or (l.place ++ (start ∷ length l.text ∷ rows)) 6 0 ≡ length l.text
    size =
        ap (λ (n : ℕ). get_or (l.place ++ (start ∷ length l.text ∷ rows)) n 0) (omega arith)
        ∙ get_or-append-add l.place (start ∷ length l.text ∷ rows) 1 0

-- a row in front moves the others on by one
pub later-row : (row rows text : List ℕ) → length row ≡ leaf_row_size → (i : ℕ) → leaf_at (row ++ rows) text (suc i) ≡ leaf_at rows text i
unfolding leaf_at
later-row row rows text seven i =
    ap₂ leaf (ap (take 5) (ap (λ (n : ℕ). drop n (row ++ rows)) past ∙ drop-append-add row rows (i * leaf_row_size)))
    (ap₂ (λ (n m : ℕ). take n (drop m text)) (number 6) (number 5))
  where
    past : suc i * leaf_row_size ≡ length row + i * leaf_row_size
    past = omega arith

    past_by : (k : ℕ) → suc i * leaf_row_size + k ≡ length row + (i * leaf_row_size + k)
    past_by k = omega arith

    number : (k : ℕ) → get_or (row ++ rows) (suc i * leaf_row_size + k) 0 ≡ get_or rows (i * leaf_row_size + k) 0
    number k = ap (λ (n : ℕ). get_or (row ++ rows) n 0) (past_by k) ∙ get_or-append-add row rows (i * leaf_row_size + k) 0

-- so the rows give the leaves
pub rows_back : (start : ℕ) (pre : List ℕ) {ls : List Leaf} → length pre ≡ start → All (Placed 5) ls
    → values (leaf_at (leaf_rows_from start ls) (pre ++ text_of ls)) 0 (length ls) ≡ ls
unfolding values leaf_rows_from text_of
rows_back start pre at none = refl
rows_back start pre at (also {a = l} {s = ls} five w) =
    ap₂ (λ (x : Leaf) (y : List Leaf). x ∷ y) (first-row l start rows pre (text_of ls) five at)
    (values-later (leaf_at all text) 0 (length ls)
    ∙ values_as (λ i. leaf_at all text (suc i)) (leaf_at rows text) next 0 (length ls)
    ∙ ap (λ (t : List ℕ). values (leaf_at rows t) 0 (length ls)) (sym (append_assoc pre l.text (text_of ls)))
    ∙ rows_back (start + length l.text) (pre ++ l.text) (length-append pre l.text ∙ ap (λ (n : ℕ). n + length l.text) at) w)
  where
    rows : List ℕ
    rows = leaf_rows_from (start + length l.text) ls

    all : List ℕ
    all = l.place ++ (start ∷ length l.text ∷ rows)

    text : List ℕ
    text = pre ++ (l.text ++ text_of ls)

    next : (i : ℕ) → leaf_at all text (suc i) ≡ leaf_at rows text i
    next i =
        ap (λ (r : List ℕ). leaf_at r text (suc i)) (sym (append_assoc l.place (start ∷ length l.text ∷ []) rows))
        ∙ later-row (l.place ++ (start ∷ length l.text ∷ [])) rows text
        (length-append l.place (start ∷ length l.text ∷ []) ∙ omega arith) i

-- rows and text of leaves in a row: as a loop adds them
pub text_of_append : (ks ls : List Leaf) → text_of (ks ++ ls) ≡ text_of ks ++ text_of ls
unfolding text_of
text_of_append [] ls = refl
text_of_append (k ∷ ks) ls = ap {B = List ℕ} (λ r. k.text ++ r) (text_of_append ks ls) ∙ sym (append_assoc k.text (text_of ks) (text_of ls))

pub leaf_rows-append : (start : ℕ) (ks ls : List Leaf)
    → leaf_rows_from start (ks ++ ls) ≡ leaf_rows_from start ks ++ leaf_rows_from (start + length (text_of ks)) ls
unfolding leaf_rows_from text_of
leaf_rows-append start [] ls = ap (λ (n : ℕ). leaf_rows_from n ls) (sym (add-zero start))
leaf_rows-append start (k ∷ ks) ls =
    ap {B = List ℕ} (λ r. k.place ++ (start ∷ length k.text ∷ r)) (leaf_rows-append (start + length k.text) ks ls ∙ ap later on)
    ∙ sym (append_assoc k.place (start ∷ length k.text ∷ leaf_rows_from (start + length k.text) ks)
    (leaf_rows_from (start + length (k.text ++ text_of ks)) ls))
  where
    later : ℕ → List ℕ
    later n = leaf_rows_from (start + length k.text) ks ++ leaf_rows_from n ls

    on : start + length k.text + length (text_of ks) ≡ start + length (k.text ++ text_of ks)
    on = omega (arith, length-append k.text (text_of ks))

pub length-leaf_rows : (start : ℕ) {ls : List Leaf} → All (Placed 5) ls → length (leaf_rows_from start ls) ≡ length ls * leaf_row_size
unfolding leaf_rows_from
length-leaf_rows start none = refl
length-leaf_rows start (also {a = l} {s = ls} five w) =
    omega (
      arith,
      length-append l.place (start ∷ length l.text ∷ leaf_rows_from (start + length l.text) ls),
      length-leaf_rows (start + length l.text) w,
    )

-- places of a flat split have a number for each separator
pub flat-placed : (ps place text s : List ℕ) → length place ≡ length ps → All (Placed (length ps)) (flat ps place text s)
unfolding flat
flat-placed ps place text [] fits = also fits none
flat-placed ps place text (b ∷ s) fits =
    go (tested (among ps b)) (flat-placed ps (raised ps b place) [] s (length-raised ps b place fits))
    (flat-placed ps place (text ++ (b ∷ [])) s fits)
  where
    go : Tested (among ps b) → All (Placed (length ps)) (flat ps (raised ps b place) [] s)
        → All (Placed (length ps)) (flat ps place (text ++ (b ∷ [])) s)
        → All (Placed (length ps)) (flat ps place text (b ∷ s))
    go (passed h) closed begun = rw (flat_separator ps place text b s h) (also fits closed)
    go (failed h) closed begun = rw (flat-text ps place text b s h) begun

pub under-placed : (pre : List ℕ) (k : ℕ) {ls : List Leaf} → All (Placed k) ls → All (Placed (length pre + k)) (under pre ls)
unfolding under
under-placed pre k w =
    all_map (λ (l : Leaf). leaf (pre ++ l.place) l.text) (λ l at. length-append pre l.place ∙ ap (λ (n : ℕ). length pre + n) at) w

-- so all places of a message have five numbers
module _ (ps : Separators) where
  segment-placed : (n : ℕ) (s : List ℕ) → All (Placed 5) (segment_leaves ps n s)
  unfolding splitting
  segment-placed n s = rw (segment-flat ps n s) (under-placed (n ∷ []) 4 (flat-placed (splitting ps) (1 ∷ 1 ∷ 1 ∷ 1 ∷ []) [] s refl))

  header-placed : (h : List ℕ) → All (Placed 5) (header_leaves ps h)
  unfolding splitting
  header-placed h =
      rw (header-flat ps h)
      (also refl (also refl (under-placed (1 ∷ []) 4 (flat-placed (splitting ps) (3 ∷ 1 ∷ 1 ∷ 1 ∷ []) [] (drop 7 h) refl))))

  segments-placed : (n : ℕ) (ss : List (List ℕ)) → All (Placed 5) (concat (leaves_from ps n ss))
  unfolding concat leaves_from
  segments-placed n [] = none
  segments-placed n (s ∷ ss) = all_append (segment-placed n s) (segments-placed (suc n) ss)

  pub all_placed : (ss : List (List ℕ)) → All (Placed 5) (all_leaves ps ss)
  unfolding all_leaves message_leaves concat
  all_placed [] = none
  all_placed (h ∷ ss) = all_append (header-placed h) (segments-placed 2 ss)

-- the leaves of a table are the leaves of its segments
pub leaves_of-table : (levels : ℕ → ℕ → ℕ) (ps : Separators) (segments : List (List ℕ))
    → leaves_of (table_of levels ps segments) ≡ all_leaves ps segments
unfolding leaves_of table_of
leaves_of-table levels ps segments = rows_back 0 [] refl (all_placed ps segments)
