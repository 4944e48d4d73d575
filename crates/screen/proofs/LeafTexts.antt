-- The text of a leaf by its name, as code takes it: no byte where the leaf is empty or not there, and some where it has a text. What is asked of
-- what was sought can be asked of this text.
-- Assumes nothing.
use mathlib.Core.Bool.{true, false}
use mathlib.Core.List.{List, [], ◌∷◌}
use mathlib.Core.Logic.{◌⊎◌, inl, inr}
use mathlib.Core.Path.{◌≡◌, refl, sym, ap}
use Prim.Native.Nat.{ℕ, suc, ◌≤◌}
use native.Mathlib.Omega.{arith}
use lib.ListN.{length, take, drop, length-take, length-drop}
use Rattle.laws.specs.Lists.{same}
use Rattle.table.specs.Lent.{Lent}
use Rattle.look.specs.declared.leaf.Sought.{Sought}
use Rattle.look.specs.declared.leaf.Sought.TheVariants.{At, Empty, NotThere}
use Rattle.look.specs.Looking.{leaf_named, says_text, text_found}
use Rattle.look.proofs.FirstMatch.{finds_exactly}
use Rattle.tested.proofs.NamedLeaves.{named-inside}
use Rattle.screen.specs.Meeting.{sought_of, has_text, is_letter, says_letter, leaf_is}
use Rattle.screen.specs.inner.Rows.{text_in}

-- where a leaf is empty or not there
pub no_text : (text : List ℕ) {s : Sought} → (s ≡ Empty) ⊎ (s ≡ NotThere) → [] ≡ text_found text s
unfolding text_found
no_text text (inl e) = ap (text_found text) (sym e)
no_text text (inr e) = ap (text_found text) (sym e)

-- a text of a byte or more
text_says : (text wanted : List ℕ) (s : Sought) → 1 ≤ length wanted → same (text_found text s) wanted ≡ says_text text wanted s
unfolding text_found says_text same
text_says text wanted (At start n) h = refl
text_says text [] Empty h = absurd (omega (arith, h))
text_says text (b ∷ wanted) Empty h = refl
text_says text [] NotThere h = absurd (omega (arith, h))
text_says text (b ∷ wanted) NotThere h = refl

letter_says : (text letters : List ℕ) (s : Sought) → is_letter letters (text_found text s) ≡ says_letter text letters s
unfolding text_found says_letter is_letter
letter_says text letters (At start n) = refl
letter_says text letters Empty = refl
letter_says text letters NotThere = refl

module _ (t : Lent) (i field subfield : ℕ) where
  pub leaf-says : (wanted : List ℕ) → 1 ≤ length wanted → same (text_in t i field subfield) wanted ≡ leaf_is t i field subfield wanted
  leaf-says wanted = text_says t.text wanted (sought_of t i field subfield)

  pub leaf_letter : (letters : List ℕ) → is_letter letters (text_in t i field subfield) ≡ says_letter t.text letters (sought_of t i field subfield)
  leaf_letter letters = letter_says t.text letters (sought_of t i field subfield)

  -- a leaf has a text exactly where that has a byte
  pub some_byte : (length (text_in t i field subfield) ≡ 0 → ⊥) → has_text (sought_of t i field subfield) ≡ true
  unfolding has_text text_found
  some_byte = by (sought_of t i field subfield)
    where
      by : (s : Sought) → (length (text_found t.text s) ≡ 0 → ⊥) → has_text s ≡ true
      by (At start n) h = refl
      by Empty h = absurd (h refl)
      by NotThere h = absurd (h refl)

  pub no_byte : length (text_in t i field subfield) ≡ 0 → has_text (sought_of t i field subfield) ≡ false
  unfolding has_text text_found
  no_byte = by (sought_of t i field subfield) refl
    where
      by : (s : Sought) → s ≡ sought_of t i field subfield → length (text_found t.text s) ≡ 0 → has_text s ≡ false
      by (At start n) e h =
          let found = (finds_exactly t (leaf_named (suc i) field subfield) (At start n)).0 e in
          let long : length (take n (drop start t.text)) ≡ n = simp (length-take, length-drop) (omega (arith, named-inside t i field subfield start n e)) in
          absurd (omega (arith, h, long, found.1.4))
      by Empty e h = refl
      by NotThere e h = refl
