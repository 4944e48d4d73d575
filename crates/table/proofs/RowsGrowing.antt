-- Segment rows as they grow: the row of one segment more comes behind those of the segments before it.
-- Assumes nothing.
use mathlib.Core.List.{List, [], ◌∷◌, ◌++◌, append-nil}
use mathlib.Core.Path.{◌≡◌, refl, ap, ◌∙◌}
use Prim.Native.Nat.{ℕ, suc, ◌+◌, ◌*◌}
use native.Mathlib.Omega.{arith}
use lib.ListN.{length, length-append, length-map}
use Rattle.laws.specs.Lists.{concat}
use Rattle.laws.proofs.Lists.{map-append}
use Rattle.laws.proofs.Sums.{concat-append}
use Rattle.form.specs.declared.separators.Separators.{Separators}
use Rattle.table.specs.Leaves.{Leaf, kind_of_segment, segment_leaves, header_leaves, leaves_from, message_leaves}
use Rattle.table.specs.Rows.{segment_row_size, segment_row, Next, none_before, next_after, row_next, segment_rows_from, segment_rows_of, kinds_of, all_leaves}

-- the leaves of one segment more: of the H where it is the first
unfoldable pub leaves_behind : Separators → List (List ℕ) → List ℕ → List Leaf
leaves_behind ps [] s = header_leaves ps s
leaves_behind ps (h ∷ ss) s = segment_leaves ps (2 + length ss) s

module _ (ps : Separators) where
  leaves_from-last : (n : ℕ) (ss : List (List ℕ)) (s : List ℕ)
      → leaves_from ps n (ss ++ (s ∷ [])) ≡ leaves_from ps n ss ++ (segment_leaves ps (n + length ss) s ∷ [])
  unfolding leaves_from
  leaves_from-last n [] s = ap {B = List (List Leaf)} (λ m. segment_leaves ps m s ∷ []) (omega arith)
  leaves_from-last n (t ∷ ss) s =
      ap {B = List (List Leaf)} (λ r. segment_leaves ps n t ∷ r)
      (leaves_from-last (suc n) ss s
      ∙ ap {B = List (List Leaf)} (λ m. leaves_from ps (suc n) ss ++ (segment_leaves ps m s ∷ [])) (omega arith))

  pub message_leaves-last : (ss : List (List ℕ)) (s : List ℕ)
      → message_leaves ps (ss ++ (s ∷ [])) ≡ message_leaves ps ss ++ (leaves_behind ps ss s ∷ [])
  unfolding message_leaves leaves_behind leaves_from
  message_leaves-last [] s = refl
  message_leaves-last (h ∷ ss) s = ap {B = List (List Leaf)} (λ r. header_leaves ps h ∷ r) (leaves_from-last 2 ss s)

  pub all_leaves-last : (ss : List (List ℕ)) (s : List ℕ) → all_leaves ps (ss ++ (s ∷ [])) ≡ all_leaves ps ss ++ leaves_behind ps ss s
  unfolding all_leaves concat
  all_leaves-last ss s =
      ap (λ (ls : List (List Leaf)). concat ls) (message_leaves-last ss s)
      ∙ concat-append (message_leaves ps ss) (leaves_behind ps ss s ∷ [])
      ∙ ap (λ (ls : List Leaf). concat (message_leaves ps ss) ++ ls) (append-nil (leaves_behind ps ss s))

  pub kinds_of-last : (ss : List (List ℕ)) (s : List ℕ) → kinds_of ps (ss ++ (s ∷ [])) ≡ kinds_of ps ss ++ (kind_of_segment ps s ∷ [])
  unfolding kinds_of
  kinds_of-last ss s = map-append (kind_of_segment ps) ss (s ∷ [])

  pub length-kinds : (ss : List (List ℕ)) → length (kinds_of ps ss) ≡ length ss
  unfolding kinds_of
  length-kinds ss = length-map ss (kind_of_segment ps)

  length-leaves_from : (n : ℕ) (ss : List (List ℕ)) → length (leaves_from ps n ss) ≡ length ss
  unfolding leaves_from
  length-leaves_from n [] = refl
  length-leaves_from n (s ∷ ss) = ap suc (length-leaves_from (suc n) ss)

  pub length-message_leaves : (ss : List (List ℕ)) → length (message_leaves ps ss) ≡ length ss
  unfolding message_leaves
  length-message_leaves [] = refl
  length-message_leaves (h ∷ ss) = ap suc (length-leaves_from 2 ss)

-- columns of the same length make a row each, and one entry more in each makes one row more
length_from : (n : Next) (ks os : List ℕ) (ls : List (List Leaf)) → length os ≡ length ks → length ls ≡ length ks
    → length (segment_rows_from n ks os ls) ≡ length ks * segment_row_size
unfolding segment_rows_from
length_from n [] os ls e f = refl
length_from n (k ∷ ks) [] ls e f = absurd (omega arith)
length_from n (k ∷ ks) (o ∷ os) [] e f = absurd (omega arith)
length_from n (k ∷ ks) (o ∷ os) (l ∷ ls) e f = omega (arith, length_from (next_after n l) ks os ls (omega arith) (omega arith))

unfoldable after_all : Next → List (List Leaf) → Next
after_all n [] = n
after_all n (l ∷ ls) = after_all (next_after n l) ls

from_last : (n : Next) (ks os : List ℕ) (ls : List (List Leaf)) (k o : ℕ) (l : List Leaf)
    → length os ≡ length ks → length ls ≡ length ks
    → segment_rows_from n (ks ++ (k ∷ [])) (os ++ (o ∷ [])) (ls ++ (l ∷ [])) ≡ segment_rows_from n ks os ls ++ row_next (after_all n ls) k o l
unfolding segment_rows_from after_all
from_last n [] [] [] k o l e f = refl
from_last n [] (p ∷ os) ls k o l e f = absurd (omega arith)
from_last n [] [] (m ∷ ls) k o l e f = absurd (omega arith)
from_last n (j ∷ ks) [] ls k o l e f = absurd (omega arith)
from_last n (j ∷ ks) (p ∷ os) [] k o l e f = absurd (omega arith)
from_last n (j ∷ ks) (p ∷ os) (m ∷ ls) k o l e f =
    ap {B = List ℕ} (λ r. row_next n j p m ++ r) (from_last (next_after n m) ks os ls k o l (omega arith) (omega arith))

first-after : (n : Next) (ls : List (List Leaf)) → (after_all n ls).first_leaf ≡ n.first_leaf + length (concat ls)
unfolding after_all concat
first-after n [] = omega arith
first-after n (l ∷ ls) = first-after (next_after n l) ls ∙ omega (arith, length-append l (concat ls))

module _ (ks os : List ℕ) (ls : List (List Leaf)) (owned : length os ≡ length ks) (grouped : length ls ≡ length ks) where
  pub length-segment_rows : length (segment_rows_of ks os ls) ≡ length ks * segment_row_size
  length-segment_rows = length_from none_before ks os ls owned grouped

  pub segment_rows-last : (k o : ℕ) (l : List Leaf)
      → segment_rows_of (ks ++ (k ∷ [])) (os ++ (o ∷ [])) (ls ++ (l ∷ []))
      ≡ segment_rows_of ks os ls ++ segment_row k o (1 + length (concat ls)) (length l)
  segment_rows-last k o l =
      from_last none_before ks os ls k o l owned grouped
      ∙ ap (λ (first : ℕ). segment_rows_of ks os ls ++ segment_row k o first (length l)) (first-after none_before ls)
