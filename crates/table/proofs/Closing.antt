-- One pass goes on: over text, and where a leaf is closed its row and its text come last.
-- Assumes nothing.
use mathlib.Core.Bool.{false}
use mathlib.Core.List.{List, [], ◌∷◌, ◌++◌, append_assoc, append-nil}
use mathlib.Core.Path.{◌≡◌, refl, sym, ap, ◌∙◌}
use Prim.Native.Nat.{ℕ, ◌+◌, ◌*◌}
use native.Mathlib.Nat.{add-zero}
use native.Mathlib.Omega.{arith}
use lib.ListN.{length, length-append}
use Rattle.laws.specs.Lists.{among}
use Rattle.laws.specs.Every.{All, none, also}
use Rattle.table.specs.Leaves.{Leaf}
use Rattle.table.specs.inner.Flat.{Pass, steps}
use Rattle.table.specs.Rows.{leaf_row_size, leaf_rows_from, text_of}
use Rattle.table.proofs.LeafRows.{Placed}
use Rattle.table.proofs.Passes.{step-text}

-- bytes that are no separators belong to the leaf begun
abbrev pub with_text : Pass → List ℕ → Pass
with_text c s = record { place = c.place; text = c.text ++ s; closed = c.closed }

pub steps-text : (ps : List ℕ) (c : Pass) {s : List ℕ} → All (λ (b : ℕ). among ps b ≡ false) s → steps ps c s ≡ with_text c s
unfolding steps
steps-text ps c none = ap (λ (t : List ℕ). record { place = c.place; text = t; closed = c.closed }) (sym (append-nil c.text))
steps-text ps c (also {a = b} {s = s} h w) =
    ap (λ (d : Pass). steps ps d s) (step-text ps c b h) ∙ steps-text ps (with_text c (b ∷ [])) w
    ∙ ap (λ (t : List ℕ). record { place = c.place; text = t; closed = c.closed }) (append_assoc c.text (b ∷ []) s)

-- one more leaf at the end
pub text-last : (ls : List Leaf) (l : Leaf) → text_of (ls ++ (l ∷ [])) ≡ text_of ls ++ l.text
unfolding text_of
text-last [] l = append-nil l.text
text-last (k ∷ ls) l = ap {B = List ℕ} (λ r. k.text ++ r) (text-last ls l) ∙ sym (append_assoc k.text (text_of ls) l.text)

-- its row, where `start` is where its text begins
abbrev pub leaf_row : Leaf → ℕ → List ℕ
leaf_row l start = l.place ++ (start ∷ length l.text ∷ [])

pub rows_last : (start : ℕ) (ls : List Leaf) (l : Leaf)
    → leaf_rows_from start (ls ++ (l ∷ [])) ≡ leaf_rows_from start ls ++ leaf_row l (start + length (text_of ls))
unfolding leaf_rows_from text_of
rows_last start [] l = ap (leaf_row l) (sym (add-zero start))
rows_last start (k ∷ ls) l =
    ap {B = List ℕ} (λ r. k.place ++ (start ∷ length k.text ∷ r)) (rows_last (start + length k.text) ls l)
    ∙ ap (λ (n : ℕ). k.place ++ (start ∷ length k.text ∷ (leaf_rows_from (start + length k.text) ls ++ leaf_row l n)))
    (omega (arith, length-append k.text (text_of ls)))
    ∙ sym (append_assoc k.place (start ∷ length k.text ∷ leaf_rows_from (start + length k.text) ls)
    (leaf_row l (start + length (k.text ++ text_of ls))))

-- each row has seven numbers
pub length-rows : (start : ℕ) {ls : List Leaf} → All (Placed 5) ls → length (leaf_rows_from start ls) ≡ length ls * leaf_row_size
unfolding leaf_rows_from
length-rows start none = refl
length-rows start (also {a = l} {s = ls} five w) =
    length-append l.place (start ∷ length l.text ∷ leaf_rows_from (start + length l.text) ls)
    ∙ omega (arith, length-rows (start + length l.text) w)
