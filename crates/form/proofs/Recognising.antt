-- A name told by its length and its letters: the text with the letters of a name is that name, and one that differs from each name of its length
-- is none.
-- Assumes nothing.
use mathlib.Core.Bool.{Bool, true, false, ◌&&◌}
use mathlib.Core.List.{List, [], ◌∷◌}
use mathlib.Core.Logic.{⊎_elim}
use mathlib.Core.Path.{◌≡◌, refl, sym, ap, ◌∙◌}
use Prim.Native.Nat.{ℕ, suc, ◌<◌, ◌≤◌}
use native.Mathlib.Omega.{arith}
use lib.Dec.{eqb}
use lib.ListN.{length, get_or, length-take}
use lib.Seq.{length-take-le}
use borrow.Author.Tests.{eqb-true, eqb-false}
use Rattle.laws.specs.Every.{All, also}
use Rattle.laws.specs.Lists.{same, among, first_from}
use Rattle.laws.proofs.Cases.{less_or_not}
use Rattle.laws.proofs.Lists.{every, every_element, same_equal, different-same, Absent, absent_among, first_miss}
use Rattle.laws.proofs.Tests.{never_both, and_first, and_second}
use Rattle.form.specs.declared.letters.Letters.{Letters}
use Rattle.form.specs.Names.{number_among}
use Rattle.form.specs.inner.Lettering.{name_by, name_in}
use Rattle.form.proofs.Names.{short, unknown, long-unknown}

-- tests of two letters and of three, as code puts them together, are those of two texts
two_same : (x y a b : ℕ) → (eqb x a && eqb y b) ≡ same (x ∷ y ∷ []) (a ∷ b ∷ [])
unfolding same
two_same x y a b = go (eqb x a) (eqb y b)
  where
    go : (p q : Bool) → (p && q) ≡ (p && (q && true))
    go true true = refl
    go true false = refl
    go false q = refl

three-same : (x y z a b c : ℕ) → ((eqb x a && eqb y b) && eqb z c) ≡ same (x ∷ y ∷ z ∷ []) (a ∷ b ∷ c ∷ [])
unfolding same
three-same x y z a b c = go (eqb x a) (eqb y b) (eqb z c)
  where
    go : (p q r : Bool) → ((p && q) && r) ≡ (p && (q && (r && true)))
    go true true true = refl
    go true true false = refl
    go true false r = refl
    go false q r = refl

-- the names of a length
unfoldable pub sized : ℕ → List (List ℕ) → List (List ℕ)
sized n [] = []
sized n (t ∷ names) = elim (eqb (length t) n) [ true ↦ t ∷ sized n names | false ↦ sized n names ]

-- a text that differs from each name of its length is none of the names
module _ (t : List ℕ) where
  abbrev Others : List (List ℕ) → Type 0
  Others names = All (λ (u : List ℕ). same t u ≡ false) names

  unlisted_by : (u : List ℕ) (names : List (List ℕ)) (k : ℕ) (b : Bool) → eqb (length u) (length t) ≡ b
      → (Others (sized (length t) names) → first_from (same t) (suc k) names ≡ 0)
      → Others (elim b [ true ↦ u ∷ sized (length t) names | false ↦ sized (length t) names ]) → first_from (same t) k (u ∷ names) ≡ 0
  unlisted_by u names k true e rest (also h w) = first_miss (same t) k u names h ∙ rest w
  unlisted_by u names k false e rest w =
      first_miss (same t) k u names (different-same (λ q. eqb-false (length u) (length t) e (ap length (sym q)))) ∙ rest w

  unlisted_from : (names : List (List ℕ)) (k : ℕ) → Others (sized (length t) names) → first_from (same t) k names ≡ 0
  unfolding sized first_from
  unlisted_from [] k w = refl
  unlisted_from (u ∷ names) k w = unlisted_by u names k (eqb (length u) (length t)) refl (unlisted_from names (suc k)) w

  pub unlisted : (names : List (List ℕ)) → Others (sized (length t) names) → number_among names t ≡ 0
  unfolding number_among
  unlisted names w = unlisted_from names 1 w

-- what code knows of a name: its length and its first letters
module _ (l : Letters) where
  -- it is another than a name with another letter
  pub one-other : (a : ℕ) → (l.first ≡ a → ⊥) → same (l.first ∷ []) (a ∷ []) ≡ false
  one-other a h = different-same (λ q. h (ap (λ (t : List ℕ). get_or t 0 0) q))

  pub apart_other : (a : ℕ) → l.length ≡ 1 → (eqb l.length 1 && eqb l.first a) ≡ false → same (l.first ∷ []) (a ∷ []) ≡ false
  apart_other a e h = one-other a (eqb-false l.first a (ap (λ (n : ℕ). eqb n 1 && eqb l.first a) (sym e) ∙ h))

  pub two_other : (a b : ℕ) → (eqb l.first a && eqb l.second b) ≡ false → same (l.first ∷ l.second ∷ []) (a ∷ b ∷ []) ≡ false
  two_other a b h = sym (two_same l.first l.second a b) ∙ h

  pub three-other : (a b c : ℕ) → ((eqb l.first a && eqb l.second b) && eqb l.third c) ≡ false
      → same (l.first ∷ l.second ∷ l.third ∷ []) (a ∷ b ∷ c ∷ []) ≡ false
  three-other a b c h = sym (three-same l.first l.second l.third a b c) ∙ h

  module _ (names : List (List ℕ)) where
    abbrev number_by : ℕ
    number_by = number_among names (name_in l)

    -- it has the letters of a name
    pub one_letter : (a : ℕ) → l.length ≡ 1 → l.first ≡ a → number_among names (a ∷ []) ≡ number_by
    one_letter a e h = rw (e, h)

    pub letter_apart : (a : ℕ) → (eqb l.length 1 && eqb l.first a) ≡ true → number_among names (a ∷ []) ≡ number_by
    letter_apart a h =
        one_letter a (eqb-true l.length 1 (and_first (eqb l.length 1) (eqb l.first a) h))
        (eqb-true l.first a (and_second (eqb l.length 1) (eqb l.first a) h))

    pub two_letters : (a b : ℕ) → l.length ≡ 2 → (eqb l.first a && eqb l.second b) ≡ true → number_among names (a ∷ b ∷ []) ≡ number_by
    two_letters a b e h =
        rw e
        (ap (number_among names)
        (sym (same_equal (l.first ∷ l.second ∷ []) (a ∷ b ∷ []) (sym (two_same l.first l.second a b) ∙ h))))

    pub three_letters : (a b c : ℕ) → l.length ≡ 3 → ((eqb l.first a && eqb l.second b) && eqb l.third c) ≡ true
        → number_among names (a ∷ b ∷ c ∷ []) ≡ number_by
    three_letters a b c e h =
        rw e
        (ap (number_among names)
        (sym
        (same_equal (l.first ∷ l.second ∷ l.third ∷ []) (a ∷ b ∷ c ∷ []) (sym (three-same l.first l.second l.third a b c) ∙ h))))

-- whether a name's length is one of these
unfoldable pub length_among : List ℕ → List ℕ → Bool
length_among lengths t = among lengths (length t)

-- where every name's is, and three at most, what has another length is no name
module _ (names : List (List ℕ)) (all_short : every short names ≡ true) (lengths : List ℕ) (each : every (length_among lengths) names ≡ true) where
  other_length : (t : List ℕ) → Absent (length t) lengths → number_among names t ≡ 0
  unfolding length_among
  other_length t h =
      unknown names t (λ k l e. never_both (rw e (every_element (length_among lengths) names [] each k l)) (absent_among h))

  pub no_length : (n a b c : ℕ) → Absent n lengths → 0 ≡ number_among names (name_by n a b c)
  no_length n a b c h =
      ⊎_elim
      (λ (e : n < 4). sym (other_length (name_by n a b c) (rw (length-take-le n (a ∷ b ∷ c ∷ 0 ∷ []) (omega arith)) h)))
      (λ (e : 4 ≤ n). sym (long-unknown names all_short (name_by n a b c) (omega (arith, length-take n (a ∷ b ∷ c ∷ 0 ∷ [])))))
      (less_or_not n 4)
