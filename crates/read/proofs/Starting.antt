-- Where the text of a line begins that is joined to its segment: the first two bytes decide it. And the seven bytes of a sound header.
-- Assumes nothing.
use mathlib.Core.Bool.{true, false}
use mathlib.Core.List.{List, [], ◌∷◌}
use mathlib.Core.Logic.{⊎_elim}
use mathlib.Core.Path.{◌≡◌, refl, sym, ap, ap₂, ◌∙◌}
use Prim.Native.Nat.{ℕ, suc, ◌+◌, ◌≤◌, ◌<◌}
use native.Mathlib.Omega.{arith}
use lib.ListN.{length, get_or, drop, drop_of_length-le}
use borrow.Author.Tests.{eqb-true, eq-eqb, ne_eqb}
use lib.Dec.{eqb}
use Rattle.laws.proofs.Parts.{left_cons}
use Rattle.laws.proofs.Tests.{either, never_both, and_first, and_second, and_both, and_fails_first, and_fails_second}
use Rattle.form.specs.declared.separators.Separators.{Separators}
use Rattle.form.proofs.HeaderRule.{SoundHeader}
use Rattle.line.specs.Joining.{letter_a, addendum}
use Rattle.line.specs.Finding.{text_run}
use Rattle.line.proofs.Runs.{text_run_nil, text_run-more}
use Rattle.table.specs.inner.Filed.{header_bytes}
use Rattle.read.specs.inner.Starting.{text_from}

-- a list that begins with another byte than `A` is no addendum, nor is one of a single byte, nor one whose second byte is no separator
module _ (f : ℕ) where
  pub addendum-other : (a : ℕ) (s : List ℕ) → (a ≡ letter_a → ⊥) → addendum f (a ∷ s) ≡ false
  unfolding addendum
  addendum-other a [] h = refl
  addendum-other a (b ∷ s) h = and_fails_first (eqb b f) (ne_eqb a letter_a h)

  addendum_single : (a : ℕ) → addendum f (a ∷ []) ≡ false
  unfolding addendum
  addendum_single a = refl

  addendum_unseparated : (a b : ℕ) (s : List ℕ) → (b ≡ f → ⊥) → addendum f (a ∷ b ∷ s) ≡ false
  unfolding addendum
  addendum_unseparated a b s h = and_fails_second (eqb a letter_a) (ne_eqb b f h)

  addendum-none : addendum f [] ≡ false
  unfolding addendum
  addendum-none = refl

  addendum_both : (a b : ℕ) (s : List ℕ) → a ≡ letter_a → b ≡ f → addendum f (a ∷ b ∷ s) ≡ true
  unfolding addendum
  addendum_both a b s h k = and_both (eq-eqb a letter_a h) (eq-eqb b f k)

  -- what an addendum is
  pub addendum_view : (s : List ℕ) → addendum f s ≡ true → s ≡ letter_a ∷ f ∷ drop 2 s
  unfolding addendum
  addendum_view [] h = absurd (never_both h refl)
  addendum_view (a ∷ []) h = absurd (never_both h refl)
  addendum_view (a ∷ b ∷ s) h =
      ap₂ (λ (x y : ℕ). x ∷ y ∷ s) (eqb-true a letter_a (and_first (eqb a letter_a) (eqb b f) h)) (eqb-true b f (and_second (eqb a letter_a) (eqb b f) h))

  module _ (at : ℕ) where
    from-segment : (s : List ℕ) → addendum f s ≡ false → text_from f at s ≡ at
    unfolding text_from
    from-segment s h = rw (h, text_from)

    from-line : (s : List ℕ) → addendum f s ≡ true → text_from f at s ≡ at + 2
    unfolding text_from
    from-line s h = rw (h, text_from)

    -- the text of a line begins where the line does exactly where it is no addendum
    pub begins-segment : (s : List ℕ) → text_from f at s ≡ at → addendum f s ≡ false
    begins-segment s h =
        ⊎_elim (λ (e : addendum f s ≡ true). absurd (let z : at + 2 ≡ at = sym (from-line s e) ∙ h in omega arith)) (λ e. e) (either (addendum f s))

    pub carries_on : (s : List ℕ) → (text_from f at s ≡ at → ⊥) → addendum f s ≡ true
    carries_on s h = ⊎_elim (λ e. e) (λ (e : addendum f s ≡ false). absurd (h (from-segment s e))) (either (addendum f s))

    pub carried_from : (s : List ℕ) → (text_from f at s ≡ at → ⊥) → text_from f at s ≡ at + 2
    carried_from s h = from-line s (carries_on s h)

    -- of the message m
    module _ (m : List ℕ) where
      pub from_past : length m ≤ at → text_from f at (drop at m) ≡ at
      from_past h = from-segment (drop at m) (ap (addendum f) (drop_of_length-le m h) ∙ addendum-none)

      module _ (some : at < length m) where
        pub from-other : (get_or m at 0 ≡ letter_a → ⊥) → text_from f at (drop at m) ≡ at
        from-other h =
            from-segment (drop at m) (ap (addendum f) (left_cons m at 0 some) ∙ addendum-other (get_or m at 0) (drop (at + 1) m) h)

        pub from_single : length m ≤ at + 1 → text_from f at (drop at m) ≡ at
        from_single h =
            from-segment (drop at m)
            (ap (addendum f) (left_cons m at 0 some ∙ ap (λ (s : List ℕ). get_or m at 0 ∷ s) (drop_of_length-le m h))
            ∙ addendum_single (get_or m at 0))

        two : at + 1 < length m → drop at m ≡ get_or m at 0 ∷ get_or m (at + 1) 0 ∷ drop (at + 1 + 1) m
        two h = left_cons m at 0 some ∙ ap (λ (s : List ℕ). get_or m at 0 ∷ s) (left_cons m (at + 1) 0 h)

        pub from_unseparated : at + 1 < length m → (get_or m (at + 1) 0 ≡ f → ⊥) → text_from f at (drop at m) ≡ at
        from_unseparated h k =
            from-segment (drop at m)
            (ap (addendum f) (two h) ∙ addendum_unseparated (get_or m at 0) (get_or m (at + 1) 0) (drop (at + 1 + 1) m) k)

        pub from-addendum : at + 1 < length m → get_or m at 0 ≡ letter_a → get_or m (at + 1) 0 ≡ f → text_from f at (drop at m) ≡ at + 2
        from-addendum h a k =
            from-line (drop at m)
            (ap (addendum f) (two h) ∙ addendum_both (get_or m at 0) (get_or m (at + 1) 0) (drop (at + 1 + 1) m) a k)

-- the seven bytes of a sound header are text
pub header_seven : (ps : Separators) (m : List ℕ) → SoundHeader m ps → text_run (header_bytes ps) ≡ 7
unfolding header_bytes
header_seven ps m w =
    let s = w.allowed in
    text_run-more 72 _ (omega arith)
    ∙ ap suc (text_run-more ps.field _ (omega (arith, s.field.low)))
    ∙ ap (λ (n : ℕ). suc (suc n)) (text_run-more ps.subfield _ (omega (arith, s.subfield.low)))
    ∙ ap (λ (n : ℕ). suc (suc (suc n))) (text_run-more ps.repeater _ (omega (arith, s.repeater.low)))
    ∙ ap (λ (n : ℕ). suc (suc (suc (suc n)))) (text_run-more ps.escape _ (omega (arith, s.escape.low)))
    ∙ ap (λ (n : ℕ). suc (suc (suc (suc (suc n))))) (text_run-more ps.subsubfield _ (omega (arith, s.subsubfield.low)))
    ∙ ap (λ (n : ℕ). suc (suc (suc (suc (suc (suc n)))))) (text_run-more ps.field [] (omega (arith, s.field.low)))
    ∙ ap (λ (n : ℕ). suc (suc (suc (suc (suc (suc (suc n))))))) text_run_nil
