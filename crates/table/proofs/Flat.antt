-- Nested splitting (S2) and flat splitting in one pass (`specs/inner/Flat`) agree.
-- Assumes nothing.
use mathlib.Core.Bool.{true, false}
use mathlib.Core.List.{List, [], ◌∷◌, ◌++◌, append_assoc, append-nil, head-eq_of_cons-eq, tail-eq_of_cons-eq}
use mathlib.Core.Path.{◌≡◌, refl, sym, ap, ap₂, ◌∙◌}
use Prim.Native.Nat.{ℕ, suc, ◌≤◌}
use lib.Dec.{eqb}
use lib.ListN.{length, take, drop}
use lib.Seq.{drop-append-le}
use Rattle.laws.specs.Lists.{among, concat, numbered}
use Rattle.laws.specs.Every.{All, also}
use Rattle.laws.proofs.Tests.{Tested, passed, failed, tested}
use Rattle.laws.proofs.Lists.{among_hit, among_miss, numbered-map, numbered_as}
use Rattle.laws.proofs.Every.{all_drop}
use Rattle.form.specs.declared.separators.Separators.{Separators}
use Rattle.form.specs.Header.{splitting}
use Rattle.line.specs.Lines.{CR}
use Rattle.table.specs.Leaves.{Leaf, split, leaves, segment_leaves, header_leaves, leaves_from, message_leaves}
use Rattle.table.specs.Rows.{all_leaves}
use Rattle.table.specs.inner.Flat.{leaf, ones, raised, flat, under, Without, glued_to, glued}
use Rattle.table.proofs.Splitting.{first_part, other_parts, first_ends, first_more, others_begin, others-later}
use Rattle.table.proofs.Splitting.{split_parts, split-glued_to}

-- one byte of `flat`: a separator closes the leaf begun, any other byte belongs to it
module _ (ps place text : List ℕ) (b : ℕ) (s : List ℕ) where
  pub flat_separator : among ps b ≡ true → flat ps place text (b ∷ s) ≡ leaf place text ∷ flat ps (raised ps b place) [] s
  unfolding flat
  flat_separator h = rw (h, flat)

  pub flat-text : among ps b ≡ false → flat ps place text (b ∷ s) ≡ flat ps place (text ++ (b ∷ [])) s
  unfolding flat
  flat-text h = rw (h, flat)

-- the place that a separator leads to: its own number is one more, or the place of the finer ones changes
module _ (p : ℕ) (ps : List ℕ) (b n : ℕ) (place : List ℕ) where
  pub raised_here : eqb b p ≡ true → raised (p ∷ ps) b (n ∷ place) ≡ suc n ∷ ones ps
  unfolding raised
  raised_here h = rw (h, raised)

  pub raised-later : eqb b p ≡ false → raised (p ∷ ps) b (n ∷ place) ≡ n ∷ raised ps b place
  unfolding raised
  raised-later h = rw (h, raised)

-- numbers in front of places, over others and over what is gathered
pub under-under : (pre more : List ℕ) (ls : List Leaf) → under pre (under more ls) ≡ under (pre ++ more) ls
unfolding under
under-under pre more [] = refl
under-under pre more (l ∷ ls) =
    ap₂ (λ (x : List ℕ) (y : List Leaf). leaf x l.text ∷ y) (sym (append_assoc pre more l.place)) (under-under pre more ls)

-- a flat split by p and finer ones is, for each part between the p, a flat split by the finer ones: the first from where the
-- place and the text stand, each other one from its beginning
abbrev pub parts : List ℕ → ℕ → List (List ℕ) → List Leaf
parts finer n ts = numbered (λ m t. under (m ∷ []) (flat finer (ones finer) [] t)) n ts

abbrev pub from_part : List ℕ → ℕ → List ℕ → List ℕ → List ℕ → List (List ℕ) → List Leaf
from_part finer n place text t ts = under (n ∷ []) (flat finer place text t) ++ parts finer (suc n) ts

module _ (p : ℕ) (finer : List ℕ) where
  pub flat_parts : (n : ℕ) (place text s : List ℕ)
      → flat (p ∷ finer) (n ∷ place) text s ≡ from_part finer n place text (first_part p s) (other_parts p s)
  unfolding flat first_part other_parts under numbered
  flat_parts n place text [] = refl
  flat_parts n place text (b ∷ s) = go (tested (eqb b p)) (λ m q t. flat_parts m q t s)
    where
      Agree : ℕ → List ℕ → List ℕ → Type 0
      Agree m q t = flat (p ∷ finer) (m ∷ q) t s ≡ from_part finer m q t (first_part p s) (other_parts p s)

      here : List ℕ → List (List ℕ) → List Leaf
      here t ts = from_part finer n place text t ts

      deeper : eqb b p ≡ false → Tested (among finer b) → ((m : ℕ) (q t : List ℕ) → Agree m q t)
          → flat (p ∷ finer) (n ∷ place) text (b ∷ s) ≡ here (b ∷ first_part p s) (other_parts p s)
      deeper no-p (passed h) ih =
          flat_separator (p ∷ finer) (n ∷ place) text b s (among_miss p finer b no-p ∙ h)
          ∙ ap {B = List Leaf} (λ q. leaf (n ∷ place) text ∷ flat (p ∷ finer) q [] s) (raised-later p finer b n place no-p)
          ∙ ap {B = List Leaf} (λ r. leaf (n ∷ place) text ∷ r) (ih n (raised finer b place) [])
          ∙ ap (λ (r : List Leaf). under (n ∷ []) r ++ parts finer (suc n) (other_parts p s))
          (sym (flat_separator finer place text b (first_part p s) h))
      deeper no-p (failed h) ih =
          flat-text (p ∷ finer) (n ∷ place) text b s (among_miss p finer b no-p ∙ h)
          ∙ ih n place (text ++ (b ∷ []))
          ∙ ap (λ (r : List Leaf). under (n ∷ []) r ++ parts finer (suc n) (other_parts p s))
          (sym (flat-text finer place text b (first_part p s) h))

      go : Tested (eqb b p) → ((m : ℕ) (q t : List ℕ) → Agree m q t)
          → flat (p ∷ finer) (n ∷ place) text (b ∷ s) ≡ here (first_part p (b ∷ s)) (other_parts p (b ∷ s))
      go (passed h) ih =
          flat_separator (p ∷ finer) (n ∷ place) text b s (among_hit p finer b h)
          ∙ ap {B = List Leaf} (λ q. leaf (n ∷ place) text ∷ flat (p ∷ finer) q [] s) (raised_here p finer b n place h)
          ∙ ap {B = List Leaf} (λ r. leaf (n ∷ place) text ∷ r) (ih (suc n) (ones finer) [])
          ∙ ap {B = List Leaf} (λ r. leaf (n ∷ place) text ∷ parts finer (suc n) r) (sym (split_parts p s))
          ∙ ap₂ here (sym (first_ends p b s h)) (sym (others_begin p b s h))
      go (failed h) ih =
          deeper h (tested (among finer b)) ih ∙ ap₂ here (sym (first_more p b s h)) (sym (others-later p b s h))

-- parts numbered from n, each split by the finer separators, are one flat split that starts at n
pub numbered-flat : (p : ℕ) (finer : List ℕ) → ((pre s : List ℕ) → leaves finer pre s ≡ under pre (flat finer (ones finer) [] s))
    → (n : ℕ) (pre s : List ℕ)
    → numbered (λ m t. leaves finer (pre ++ (m ∷ [])) t) n (split p s) ≡ under pre (flat (p ∷ finer) (n ∷ ones finer) [] s)
unfolding numbered under
numbered-flat p finer same n pre s =
    numbered_as (λ m t. leaves finer (pre ++ (m ∷ [])) t) (λ m t. under pre (under (m ∷ []) (flat finer (ones finer) [] t)))
    (λ m t. same (pre ++ (m ∷ [])) t ∙ sym (under-under pre (m ∷ []) (flat finer (ones finer) [] t)))
    n (split p s)
    ∙ sym (numbered-map (λ (l : Leaf). leaf (pre ++ l.place) l.text)
    (λ m t. under (m ∷ []) (flat finer (ones finer) [] t)) n (split p s))
    ∙ ap (λ (ts : List (List ℕ)). under pre (parts finer n ts)) (split_parts p s)
    ∙ ap (under pre) (sym (flat_parts p finer n (ones finer) [] s))

-- with no separators a text is one leaf
pub flat-none : (place text s : List ℕ) → flat [] place text s ≡ leaf place (text ++ s) ∷ []
unfolding flat among
flat-none place text [] = ap {B = List Leaf} (λ t. leaf place t ∷ []) (sym (append-nil text))
flat-none place text (b ∷ s) =
    flat-none place (text ++ (b ∷ [])) s ∙ ap {B = List Leaf} (λ t. leaf place t ∷ []) (append_assoc text (b ∷ []) s)

-- nested and flat splitting agree
pub leaves-flat : (ps pre s : List ℕ) → leaves ps pre s ≡ under pre (flat ps (ones ps) [] s)
unfolding leaves under ones
leaves-flat [] pre s = ap {B = List Leaf} (λ q. leaf q s ∷ []) (sym (append-nil pre)) ∙ ap (under pre) (sym (flat-none [] [] s))
leaves-flat (p ∷ finer) pre s = numbered-flat p finer (leaves-flat finer) 1 pre s

-- a segment of the number n
pub segment-flat : (ps : Separators) (n : ℕ) (s : List ℕ)
    → segment_leaves ps n s ≡ under (n ∷ []) (flat (splitting ps) (1 ∷ 1 ∷ 1 ∷ 1 ∷ []) [] s)
unfolding segment_leaves splitting ones
segment-flat ps n s = leaves-flat (splitting ps) (n ∷ []) s

-- the first two leaves of the H, and its others, which start at the eighth byte and at field 3 (S4)
abbrev pub head_leaf : List ℕ → Leaf
head_leaf h = leaf (1 ∷ 1 ∷ 1 ∷ 1 ∷ 1 ∷ []) (take 1 h)

abbrev pub separators_leaf : List ℕ → Leaf
separators_leaf h = leaf (1 ∷ 2 ∷ 1 ∷ 1 ∷ 1 ∷ []) (take 4 (drop 2 h))

pub header-flat : (ps : Separators) (h : List ℕ)
    → header_leaves ps h
    ≡ head_leaf h ∷ separators_leaf h ∷ under (1 ∷ []) (flat (splitting ps) (3 ∷ 1 ∷ 1 ∷ 1 ∷ []) [] (drop 7 h))
unfolding header_leaves splitting ones
header-flat ps h =
    ap {B = List Leaf} (λ r. head_leaf h ∷ separators_leaf h ∷ r)
    (numbered-flat ps.field (drop 1 (splitting ps)) (leaves-flat (drop 1 (splitting ps))) 3 (1 ∷ []) (drop 7 h))

-- the segments from the number n on
pub segments_parts : (ps : Separators) (n : ℕ) (ss : List (List ℕ)) → concat (leaves_from ps n ss) ≡ parts (splitting ps) n ss
unfolding concat leaves_from numbered segment_leaves
segments_parts ps n [] = refl
segments_parts ps n (s ∷ ss) =
    ap₂ (λ (x y : List Leaf). x ++ y) (leaves-flat (splitting ps) (n ∷ []) s) (segments_parts ps (suc n) ss)

-- gluing: a beginning may be dropped from the first segment
pub drop-glued_to : (n : ℕ) (s : List ℕ) (ss : List (List ℕ)) → n ≤ length s → drop n (glued_to s ss) ≡ glued_to (drop n s) ss
unfolding glued_to
drop-glued_to n s [] h = refl
drop-glued_to n s (t ∷ ts) h = drop-append-le n s (CR ∷ glued_to t ts) h

-- one flat split, from a place and a text on, of segments glued with CR: CR is one more separator, the coarsest
pub glued-flat : (ps : List ℕ) (n : ℕ) (place text s : List ℕ) (ss : List (List ℕ)) → All (Without CR) (s ∷ ss)
    → flat (CR ∷ ps) (n ∷ place) text (glued_to s ss) ≡ from_part ps n place text s ss
glued-flat ps n place text s ss w =
    flat_parts CR ps n place text (glued_to s ss)
    ∙ ap₂ (from_part ps n place text) (head-eq_of_cons-eq whole) (tail-eq_of_cons-eq whole)
  where
    whole : first_part CR (glued_to s ss) ∷ other_parts CR (glued_to s ss) ≡ s ∷ ss
    whole = sym (split_parts CR (glued_to s ss)) ∙ split-glued_to s ss w

-- all leaves of a message: the two first of the H, and one flat split of the rest
pub message-flat : (ps : Separators) (h : List ℕ) (ss : List (List ℕ)) → 7 ≤ length h → All (Without CR) (h ∷ ss)
    → all_leaves ps (h ∷ ss)
    ≡ head_leaf h ∷ separators_leaf h ∷ flat (CR ∷ splitting ps) (1 ∷ 3 ∷ 1 ∷ 1 ∷ 1 ∷ []) [] (drop 7 (glued (h ∷ ss)))
unfolding all_leaves message_leaves concat glued
message-flat ps h ss long (also w ws) =
    ap₂ (λ (x y : List Leaf). x ++ y) (header-flat ps h) (segments_parts ps 2 ss)
    ∙ ap {B = List Leaf} (λ r. head_leaf h ∷ separators_leaf h ∷ r)
    (sym (glued-flat (splitting ps) 1 (3 ∷ 1 ∷ 1 ∷ 1 ∷ []) [] (drop 7 h) ss (also (all_drop 7 w) ws))
    ∙ ap (flat (CR ∷ splitting ps) (1 ∷ 3 ∷ 1 ∷ 1 ∷ 1 ∷ []) []) (sym (drop-glued_to 7 h ss long)))
