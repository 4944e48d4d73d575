-- Splitting by one separator: a text is its first part and the others, and joining parts is turned back by splitting.
-- Assumes nothing.
use mathlib.Core.Bool.{true, false}
use mathlib.Core.List.{List, [], ◌∷◌, ◌++◌}
use mathlib.Core.Path.{◌≡◌, refl, sym, ap, ap₂, ◌∙◌}
use Prim.Native.Nat.{ℕ, suc}
use lib.Dec.{eqb}
use lib.ListN.{length}
use borrow.Author.Tests.{eqb-true, eq-eqb}
use Rattle.laws.specs.Lists.{count}
use Rattle.laws.specs.Every.{All, none, also}
use Rattle.laws.proofs.Tests.{Tested, passed, failed, tested}
use Rattle.laws.proofs.Lists.{count_pass, count_fail}
use Rattle.line.specs.Lines.{CR}
use Rattle.table.specs.Leaves.{onto, split}
use Rattle.table.specs.inner.Flat.{Without, glued_to, glued}

-- the text before the first separator p, and the parts after it
unfoldable pub first_part : ℕ → List ℕ → List ℕ
first_part p [] = []
first_part p (b ∷ s) = elim (eqb b p) [ true ↦ [] | false ↦ b ∷ first_part p s ]

unfoldable pub other_parts : ℕ → List ℕ → List (List ℕ)
other_parts p [] = []
other_parts p (b ∷ s) = elim (eqb b p) [ true ↦ split p s | false ↦ other_parts p s ]

-- a separator ends the first part, any other byte belongs to it
module _ (p b : ℕ) (s : List ℕ) where
  pub split_at : eqb b p ≡ true → split p (b ∷ s) ≡ [] ∷ split p s
  unfolding split
  split_at h = rw (h, split)

  pub split-onto : eqb b p ≡ false → split p (b ∷ s) ≡ onto b (split p s)
  unfolding split
  split-onto h = rw (h, split)

  pub first_ends : eqb b p ≡ true → first_part p (b ∷ s) ≡ []
  unfolding first_part
  first_ends h = rw (h, first_part)

  pub first_more : eqb b p ≡ false → first_part p (b ∷ s) ≡ b ∷ first_part p s
  unfolding first_part
  first_more h = rw (h, first_part)

  pub others_begin : eqb b p ≡ true → other_parts p (b ∷ s) ≡ split p s
  unfolding other_parts
  others_begin h = rw (h, other_parts)

  pub others-later : eqb b p ≡ false → other_parts p (b ∷ s) ≡ other_parts p s
  unfolding other_parts
  others-later h = rw (h, other_parts)

-- the parts are never none
pub split_parts : (p : ℕ) (s : List ℕ) → split p s ≡ first_part p s ∷ other_parts p s
unfolding split first_part other_parts onto
split_parts p [] = refl
split_parts p (b ∷ s) = go (tested (eqb b p)) (split_parts p s)
  where
    go : Tested (eqb b p) → split p s ≡ first_part p s ∷ other_parts p s → split p (b ∷ s) ≡ first_part p (b ∷ s) ∷ other_parts p (b ∷ s)
    go (passed h) ih =
        split_at p b s h
        ∙ ap₂ (λ (x : List ℕ) (y : List (List ℕ)). x ∷ y) (sym (first_ends p b s h)) (sym (others_begin p b s h))
    go (failed h) ih =
        split-onto p b s h ∙ ap (onto b) ih
        ∙ ap₂ (λ (x : List ℕ) (y : List (List ℕ)). x ∷ y) (sym (first_more p b s h)) (sym (others-later p b s h))

-- one part more than separators
pub others-count : (p : ℕ) (s : List ℕ) → length (other_parts p s) ≡ count (λ b. eqb b p) s
unfolding other_parts count
others-count p [] = refl
others-count p (b ∷ s) = go (tested (eqb b p)) (others-count p s)
  where
    go : Tested (eqb b p) → length (other_parts p s) ≡ count (λ b. eqb b p) s → length (other_parts p (b ∷ s)) ≡ count (λ b. eqb b p) (b ∷ s)
    go (passed h) ih =
        ap length (others_begin p b s h ∙ split_parts p s) ∙ ap suc ih ∙ sym (count_pass (λ b. eqb b p) b s h)
    go (failed h) ih = ap length (others-later p b s h) ∙ ih ∙ sym (count_fail (λ b. eqb b p) b s h)

-- a text without separators is one part; before a separator it is the first one
pub split_without : (p : ℕ) {s : List ℕ} → Without p s → split p s ≡ s ∷ []
unfolding split onto
split_without p none = refl
split_without p (also {a = b} {s = s} h w) = split-onto p b s h ∙ ap (onto b) (split_without p w)

pub split-joined : (p : ℕ) {s : List ℕ} (t : List ℕ) → Without p s → split p (s ++ p ∷ t) ≡ s ∷ split p t
unfolding onto
split-joined p t none = split_at p p t (eq-eqb p p refl)
split-joined p t (also {a = b} {s = s} h w) = split-onto p b (s ++ p ∷ t) h ∙ ap (onto b) (split-joined p t w)

-- so splitting glued segments gives the segments
pub split-glued_to : (s : List ℕ) (ss : List (List ℕ)) → All (Without CR) (s ∷ ss) → split CR (glued_to s ss) ≡ s ∷ ss
unfolding glued_to
split-glued_to s [] (also h w) = split_without CR h
split-glued_to s (t ∷ ts) (also h w) = split-joined CR (glued_to t ts) h ∙ ap {B = List (List ℕ)} (λ r. s ∷ r) (split-glued_to t ts w)

-- the parts have no separators, and glued by CR they are the text again
pub first_without : (p : ℕ) (s : List ℕ) → Without p (first_part p s)
unfolding first_part
first_without p [] = none
first_without p (b ∷ s) = go (tested (eqb b p)) (first_without p s)
  where
    go : Tested (eqb b p) → Without p (first_part p s) → Without p (first_part p (b ∷ s))
    go (passed h) ih = rw (first_ends p b s h) none
    go (failed h) ih = rw (first_more p b s h) (also h ih)

pub others_without : (p : ℕ) (s : List ℕ) → All (Without p) (other_parts p s)
unfolding other_parts
others_without p [] = none
others_without p (b ∷ s) = go (tested (eqb b p)) (others_without p s)
  where
    go : Tested (eqb b p) → All (Without p) (other_parts p s) → All (Without p) (other_parts p (b ∷ s))
    go (passed h) ih = rw (others_begin p b s h, split_parts p s) (also (first_without p s) ih)
    go (failed h) ih = rw (others-later p b s h) ih

pub glued_to_cons : (b : ℕ) (s : List ℕ) (ss : List (List ℕ)) → glued_to (b ∷ s) ss ≡ b ∷ glued_to s ss
unfolding glued_to
glued_to_cons b s [] = refl
glued_to_cons b s (t ∷ ts) = refl

pub glued_parts : (s : List ℕ) → glued_to (first_part CR s) (other_parts CR s) ≡ s
unfolding first_part other_parts glued_to
glued_parts [] = refl
glued_parts (b ∷ s) = go (tested (eqb b CR)) (glued_parts s)
  where
    go : Tested (eqb b CR) → glued_to (first_part CR s) (other_parts CR s) ≡ s → glued_to (first_part CR (b ∷ s)) (other_parts CR (b ∷ s)) ≡ b ∷ s
    go (passed h) ih =
        ap₂ glued_to (first_ends CR b s h) (others_begin CR b s h ∙ split_parts CR s)
        ∙ ap₂ (λ (c : ℕ) (t : List ℕ). c ∷ t) (sym (eqb-true b CR h)) ih
    go (failed h) ih =
        ap₂ glued_to (first_more CR b s h) (others-later CR b s h)
        ∙ glued_to_cons b (first_part CR s) (other_parts CR s)
        ∙ ap {B = List ℕ} (λ t. b ∷ t) ih

pub glued-split : (s : List ℕ) → glued (split CR s) ≡ s
unfolding glued
glued-split s = ap glued (split_parts CR s) ∙ glued_parts s

-- a beginning without separators belongs to the first part
pub split-begun : (p : ℕ) {t : List ℕ} (s : List ℕ) → Without p t → split p (t ++ s) ≡ (t ++ first_part p s) ∷ other_parts p s
unfolding onto
split-begun p s none = split_parts p s
split-begun p s (also {a = b} {s = t} h w) = split-onto p b (t ++ s) h ∙ ap (onto b) (split-begun p s w)
