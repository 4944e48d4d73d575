-- Sound leaves are those of a text: a flat split is sound, and sound leaves are the flat split of the text that they give.
-- Assumes nothing.
use mathlib.Core.List.{List, [], ◌∷◌, ◌++◌, append_assoc, append-nil}
use mathlib.Core.Path.{◌≡◌, refl, sym, ap, ◌∙◌}
use Prim.Native.Nat.{ℕ}
use lib.ListN.{length}
use Rattle.laws.specs.Lists.{among}
use Rattle.laws.specs.Every.{none, also}
use Rattle.laws.proofs.Tests.{Tested, passed, failed, tested}
use Rattle.laws.proofs.Every.{all_append}
use Rattle.table.specs.Leaves.{Leaf}
use Rattle.table.specs.inner.Back.{between, unsplit_from, unsplit}
use Rattle.table.specs.inner.Flat.{leaf, raised, flat}
use Rattle.table.specs.inner.Sound.{Plain, Sound, last, next}
use Rattle.table.proofs.Flat.{flat_separator, flat-text}
use Rattle.table.proofs.Places.{length-raised, between-raised}

-- a flat split is sound
pub flat_sound : (ps place : List ℕ) {text : List ℕ} (s : List ℕ) → Plain ps text → Sound ps place (flat ps place text s)
unfolding flat
flat_sound ps place [] w = last w
flat_sound ps place {text} (b ∷ s) w = go (tested (among ps b)) (flat_sound ps (raised ps b place) s none) (λ v. flat_sound ps place s v)
  where
    go : Tested (among ps b) → Sound ps (raised ps b place) (flat ps (raised ps b place) [] s)
        → (Plain ps (text ++ (b ∷ [])) → Sound ps place (flat ps place (text ++ (b ∷ [])) s))
        → Sound ps place (flat ps place text (b ∷ s))
    go (passed h) closed begun = rw (flat_separator ps place text b s h) (next b w h closed)
    go (failed h) closed begun = rw (flat-text ps place text b s h) (begun (all_append w (also h none)))

-- text without separators goes to the leaf begun
pub flat-plain : (ps place text : List ℕ) {t : List ℕ} (s : List ℕ) → Plain ps t → flat ps place text (t ++ s) ≡ flat ps place (text ++ t) s
flat-plain ps place text s none = ap (λ (x : List ℕ). flat ps place x s) (sym (append-nil text))
flat-plain ps place text s (also {a = b} {s = t} h w) =
    flat-text ps place text b (t ++ s) h
    ∙ flat-plain ps place (text ++ (b ∷ [])) s w
    ∙ ap (λ (x : List ℕ). flat ps place x s) (append_assoc text (b ∷ []) t)

-- a leaf before sound ones: its text, the separator, and what the others come from
pub unsplit-next : (ps : List ℕ) (l : Leaf) {place : List ℕ} {ls : List Leaf} → Sound ps place ls
    → unsplit ps (l ∷ ls) ≡ l.text ++ between ps l.place place ∷ unsplit ps ls
unfolding unsplit unsplit_from
unsplit-next ps l (last w) = refl
unsplit-next ps l (next b w h others) = refl

-- sound leaves are the flat split of the text that they give
pub sound-flat : (ps : List ℕ) {place : List ℕ} {ls : List Leaf} → length place ≡ length ps → Sound ps place ls
    → flat ps place [] (unsplit ps ls) ≡ ls
unfolding unsplit unsplit_from flat
sound-flat ps fits (last {place} {text} w) =
    ap (flat ps place []) (sym (append-nil text)) ∙ flat-plain ps place [] [] w
sound-flat ps fits (next {place} {text} {ls} b w h others) =
    ap (flat ps place [])
    (unsplit-next ps (leaf place text) others ∙ ap (λ (c : ℕ). text ++ c ∷ unsplit ps ls) (between-raised ps b place fits h))
    ∙ flat-plain ps place [] (b ∷ unsplit ps ls) w
    ∙ flat_separator ps place text b (unsplit ps ls) h
    ∙ ap {B = List Leaf} (λ r. leaf place text ∷ r) (sound-flat ps (length-raised ps b place fits) others)
