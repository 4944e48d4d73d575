-- Counting leaves (S3): one more than there are separators, and of the first segment what S4 makes of it.
-- Assumes nothing.
use mathlib.Core.List.{List, [], ◌∷◌, ◌++◌, append-nil}
use mathlib.Core.Path.{◌≡◌, refl, sym, ap, ap₂, ◌∙◌}
use Prim.Native.Nat.{ℕ, suc, ◌+◌, ◌≤◌}
use native.Mathlib.Omega.{arith}
use lib.ListN.{length, drop, length-map, length-append}
use Rattle.laws.specs.Lists.{among, count, concat, sum_of}
use Rattle.laws.specs.Every.{All}
use Rattle.laws.proofs.Tests.{Tested, passed, failed, tested}
use Rattle.laws.proofs.Lists.{count_pass, count_fail}
use Rattle.form.specs.declared.separators.Separators.{Separators}
use Rattle.form.specs.Header.{splitting}
use Rattle.line.specs.Lines.{CR}
use Rattle.table.specs.Leaves.{Leaf, leaves, segment_leaves, header_leaves, leaves_from, message_leaves}
use Rattle.table.specs.Rows.{text_of, all_leaves}
use Rattle.table.specs.inner.Flat.{leaf, ones, raised, flat, under, Without, glued}
use Rattle.table.proofs.Flat.{flat_separator, flat-text, leaves-flat, header-flat, message-flat}

pub length-flat : (ps place text s : List ℕ) → length (flat ps place text s) ≡ suc (count (among ps) s)
unfolding flat count
length-flat ps place text [] = refl
length-flat ps place text (b ∷ s) = go (tested (among ps b)) (λ q t. length-flat ps q t s)
  where
    go : Tested (among ps b) → ((q t : List ℕ) → length (flat ps q t s) ≡ suc (count (among ps) s))
        → length (flat ps place text (b ∷ s)) ≡ suc (count (among ps) (b ∷ s))
    go (passed h) ih =
        ap length (flat_separator ps place text b s h) ∙ ap suc (ih (raised ps b place) [] ∙ sym (count_pass (among ps) b s h))
    go (failed h) ih =
        ap length (flat-text ps place text b s h) ∙ ih place (text ++ (b ∷ [])) ∙ ap suc (sym (count_fail (among ps) b s h))

pub length-under : (pre : List ℕ) (ls : List Leaf) → length (under pre ls) ≡ length ls
unfolding under
length-under pre ls = length-map ls (λ (l : Leaf). leaf (pre ++ l.place) l.text)

-- a text has one leaf more than separators
pub length-leaves : (ps place s : List ℕ) → length (leaves ps place s) ≡ suc (count (among ps) s)
length-leaves ps place s =
    ap length (leaves-flat ps place s) ∙ length-under place (flat ps (ones ps) [] s) ∙ length-flat ps (ones ps) [] s

pub length-segment_leaves : (ps : Separators) (n : ℕ) (s : List ℕ) → length (segment_leaves ps n s) ≡ suc (count (among (splitting ps)) s)
unfolding segment_leaves
length-segment_leaves ps n s = length-leaves (splitting ps) (n ∷ []) s

-- the first H: two leaves, and then one more than separators from the eighth byte on (S4)
pub length-header_leaves : (ps : Separators) (h : List ℕ) → length (header_leaves ps h) ≡ 3 + count (among (splitting ps)) (drop 7 h)
length-header_leaves ps h =
    ap length (header-flat ps h)
    ∙ ap (λ (n : ℕ). suc (suc n)) (length-under (1 ∷ []) rest ∙ length-flat (splitting ps) (3 ∷ 1 ∷ 1 ∷ 1 ∷ []) [] (drop 7 h))
    ∙ omega arith
  where
    rest : List Leaf
    rest = flat (splitting ps) (3 ∷ 1 ∷ 1 ∷ 1 ∷ []) [] (drop 7 h)

-- the other segments: for each one leaf more than separators
pub length-leaves_from : (ps : Separators) (n : ℕ) (ss : List (List ℕ))
    → length (concat (leaves_from ps n ss)) ≡ sum_of (λ (s : List ℕ). suc (count (among (splitting ps)) s)) ss
unfolding leaves_from concat sum_of
length-leaves_from ps n [] = refl
length-leaves_from ps n (s ∷ ss) =
    length-append (segment_leaves ps n s) (concat (leaves_from ps (suc n) ss))
    ∙ ap₂ (λ (x y : ℕ). x + y) (length-segment_leaves ps n s) (length-leaves_from ps (suc n) ss)

-- a message, segment by segment
pub length_all_segments : (ps : Separators) (h : List ℕ) (ss : List (List ℕ))
    → length (all_leaves ps (h ∷ ss))
    ≡ 3 + count (among (splitting ps)) (drop 7 h) + sum_of (λ (s : List ℕ). suc (count (among (splitting ps)) s)) ss
unfolding all_leaves message_leaves concat
length_all_segments ps h ss =
    length-append (header_leaves ps h) (concat (leaves_from ps 2 ss))
    ∙ ap₂ (λ (x y : ℕ). x + y) (length-header_leaves ps h) (length-leaves_from ps 2 ss)

-- a message: the same of the glued segments, CR being one more separator
pub length-all_leaves : (ps : Separators) (h : List ℕ) (ss : List (List ℕ)) → 7 ≤ length h → All (Without CR) (h ∷ ss)
    → length (all_leaves ps (h ∷ ss)) ≡ 3 + count (among (CR ∷ splitting ps)) (drop 7 (glued (h ∷ ss)))
length-all_leaves ps h ss long w =
    ap length (message-flat ps h ss long w)
    ∙ ap (λ (n : ℕ). suc (suc n)) (length-flat (CR ∷ splitting ps) (1 ∷ 3 ∷ 1 ∷ 1 ∷ 1 ∷ []) [] (drop 7 (glued (h ∷ ss))))
    ∙ omega arith

-- each byte of a text is a separator or goes to a leaf's text
pub length_text_of : (ps place text s : List ℕ) → length (text_of (flat ps place text s)) + count (among ps) s ≡ length text + length s
unfolding flat count text_of
length_text_of ps place text [] = ap (λ (t : List ℕ). length t + 0) (append-nil text)
length_text_of ps place text (b ∷ s) =
    go (tested (among ps b)) (length_text_of ps (raised ps b place) [] s) (length_text_of ps place (text ++ (b ∷ [])) s)
  where
    Kept : List Leaf → List ℕ → ℕ → Type 0
    Kept ls t n = length (text_of ls) + count (among ps) t ≡ n

    go : Tested (among ps b) → Kept (flat ps (raised ps b place) [] s) s (0 + length s)
        → Kept (flat ps place (text ++ (b ∷ [])) s) s (length (text ++ (b ∷ [])) + length s)
        → Kept (flat ps place text (b ∷ s)) (b ∷ s) (length text + suc (length s))
    go (passed h) closed begun =
        rw (flat_separator ps place text b s h, count_pass (among ps) b s h)
        (omega (arith, length-append text (text_of (flat ps (raised ps b place) [] s))))
    go (failed h) closed begun =
        rw (flat-text ps place text b s h, count_fail (among ps) b s h) (omega (arith, length-append text (b ∷ [])))
