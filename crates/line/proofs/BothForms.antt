-- Lines are of no form (rules P1, T8): of the limits they are judged by `line` alone, which both forms share.
-- Assumes nothing.
use mathlib.Core.Bool.{Bool, true, false}
use mathlib.Core.List.{List, [], ◌∷◌, ◌++◌}
use mathlib.Core.Path.{◌≡◌, refl, ap, ap₂, ◌∙◌}
use Prim.Native.Nat.{ℕ, suc}
use lib.Dec.{leb, ltb, eqb}
use lib.ListN.{length}
use Rattle.form.specs.declared.limits.Limits.{Limits}
use Rattle.form.specs.declared.forms.Form.{Form}
use Rattle.form.specs.declared.forms.Form.TheVariants.{Small, Large}
use Rattle.form.specs.Numbers.{control_byte, long_line}
use Rattle.form.specs.Forms.{small_form, limits_of}
use Rattle.line.specs.Finding.{found_at}
use Rattle.line.specs.Lines.{Lines, fault, line, CR, space, inside, between, walk_from, walk}

-- what stands at a place of a message, which is all that the line walk answers
pub found_in_any : (f : Form) (message : List ℕ) (at : ℕ) → found_at (limits_of f) message at ≡ found_at small_form message at
unfolding limits_of found_at
found_in_any Small message at = refl
found_in_any Large message at = refl

-- what a byte in a line and a byte behind one come to, by what follows
abbrev step_inside : ℕ → List ℕ → ℕ → Bool → Lines → Lines → Lines
step_inside at text b full behind on =
    elim (eqb b CR) [
      | true ↦ line text behind
      | false ↦ elim (ltb b space) [ true ↦ fault control_byte at | false ↦ elim full [ true ↦ fault long_line at | false ↦ on ] ]
    ]

abbrev step_between : ℕ → Lines → Lines → Lines
step_between b skipped begun = elim (ltb b space) [ true ↦ skipped | false ↦ begun ]

-- all lines of a message, under any limits with lines of the same length
module _ (K L : Limits) (e : K.line ≡ L.line) where
  mutual
    unfolding inside between

    inside-same : (at : ℕ) (text s : List ℕ) → inside K at text s ≡ inside L at text s
    inside-same at text [] = refl
    inside-same at text (b ∷ s) =
        ap₂ (step_inside at text b (leb K.line (length text))) (between-same (suc at) s) (inside-same (suc at) (text ++ (b ∷ [])) s)
        ∙ ap (λ (n : ℕ). step_inside at text b (leb n (length text)) (between L (suc at) s) (inside L (suc at) (text ++ (b ∷ [])) s)) e

    between-same : (at : ℕ) (s : List ℕ) → between K at s ≡ between L at s
    between-same at [] = refl
    between-same at (b ∷ s) = ap₂ (step_between b) (between-same (suc at) s) (inside-same (suc at) (b ∷ []) s)

  pub walk_same : (message : List ℕ) → walk K message ≡ walk L message
  unfolding walk walk_from
  walk_same [] = refl
  walk_same (b ∷ s) = ap (step_between b (fault control_byte 0)) (inside-same 1 (b ∷ []) s)
