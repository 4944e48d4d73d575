-- Names and their numbers: laws of any list of names, and what they say of the twelve kinds and the seven contexts.
-- Assumes nothing.
use mathlib.Core.Bool.{Bool, true, false}
use mathlib.Core.List.{List, [], ◌∷◌}
use mathlib.Core.Logic.{⊎_elim}
use mathlib.Core.Path.{◌≡◌, refl, sym, ap, subst⁻¹, ◌∙◌}
use Prim.Native.Nat.{ℕ, zero, suc, ◌≤◌, ◌<◌}
use native.Mathlib.Numerals.{one-add}
use native.Mathlib.Omega.{arith}
use lib.Dec.{leb, eqb}
use lib.ListN.{length, get_or, take, get_or-eq_default}
use borrow.Author.Tests.{leb-true, eqb-true, eqb-false}
use Rattle.laws.specs.Lists.{same, first_from}
use Rattle.laws.specs.inner.Tests.{every_from}
use Rattle.laws.specs.Tables.{values}
use Rattle.laws.specs.Texts.{bytes}
use Rattle.laws.proofs.Cases.{less_or_not}
use Rattle.laws.proofs.Lists.{every, every_element, same_self, same_equal, different-same, among_at, Absent, absent_among, Found, first-none, first_some, first_found}
use Rattle.laws.proofs.Tables.{length-values, get_or_values_zero, every_at}
use Rattle.laws.proofs.Tests.{either, never_both}
use Rattle.form.specs.Header.{within}
use Rattle.form.proofs.HeaderRule.{within_bounds}
use Rattle.form.specs.Names.{kind_names, context_names, number_among, kind_of, context_of, name_of}
use Rattle.form.specs.inner.Lettering.{name_in, letters_of, spelled}

-- whether a text has at most three letters, and whether it has capital letters alone
unfoldable pub short : List ℕ → Bool
short t = leb (length t) 3

unfoldable pub capitals : List ℕ → Bool
capitals t = every (within 65 90) t

-- whether each name has its own number, counted from 1: no name stands twice
unfoldable pub own_numbers : List (List ℕ) → Bool
own_numbers names = every_from (λ k. eqb (number_among names (get_or ([] ∷ names) k [])) k) 1 (length names)

short-length : (t : List ℕ) → short t ≡ true → length t ≤ 3
unfolding short
short-length t h = leb-true (length t) 3 h

-- what is put out of a short text is the text
pub spelled-whole : (t : List ℕ) → length t ≤ 3 → take (spelled t).0 (spelled t).1 ≡ t
spelled-whole [] h = refl
spelled-whole (a ∷ []) h = refl
spelled-whole (a ∷ b ∷ []) h = refl
spelled-whole (a ∷ b ∷ c ∷ []) h = refl
spelled-whole (a ∷ b ∷ c ∷ d ∷ t) h = absurd (omega arith)

module _ (names : List (List ℕ)) where
  -- a text that differs from every name has no number
  pub unknown : (t : List ℕ) → ((k : ℕ) → k < length names → t ≡ get_or names k [] → ⊥) → number_among names t ≡ 0
  unfolding number_among
  unknown t h = first-none (same t) [] 1 names (λ k l. different-same (h k l))

  -- a name has one
  pub known : (k : ℕ) → k < length names → 1 ≤ number_among names (get_or names k [])
  unfolding number_among
  known k l = first_some (same (get_or names k [])) [] 1 names k l (same_self (get_or names k []))

  pub known-one : (t : List ℕ) → (number_among names t ≡ 0 → ⊥) → (k : ℕ) × (k < length names) × (t ≡ get_or names k [])
  unfolding number_among
  known-one t h =
      let w = first_found (same t) [] 1 names h in
      (w.place, w.inside, same_equal t (get_or names w.place []) w.passes)

  -- and what every name passes, it passes
  pub known_passes : (f : List ℕ → Bool) → every f names ≡ true → (t : List ℕ) → (number_among names t ≡ 0 → ⊥) → f t ≡ true
  known_passes f h t known =
      let w = known-one t known in
      subst⁻¹ (λ (u : List ℕ). f u ≡ true) w.2 (every_element f names [] h w.0 w.1)

  -- a text that has a number is the name of that number, and the number counts the names
  pub name_of_number : (t : List ℕ) → (number_among names t ≡ 0 → ⊥) → get_or ([] ∷ names) (number_among names t) [] ≡ t
  unfolding number_among
  name_of_number t h =
      let w = first_found (same t) [] 1 names h in
      rw (w.number, one-add) (sym (same_equal t (get_or names w.place []) w.passes))

  -- a number that counts none of them has no name
  pub nameless : (n : ℕ) → Absent n (values suc 0 (length names)) → name_of names n ≡ []
  unfolding name_of
  nameless zero h = refl
  nameless (suc n) h =
      ⊎_elim
      (λ (l : n < length names).
      let numbers = values suc 0 (length names) in
      absurd
      (never_both
      (among_at numbers (suc n) n (rw (length-values suc 0 (length names)) l) (sym (get_or_values_zero suc (length names) n 0 l)))
      (absent_among h)))
      (λ (l : length names ≤ n). get_or-eq_default names [] l)
      (less_or_not n (length names))

  found_within : (t : List ℕ) → Found (same t) [] 1 names → number_among names t ≤ length names
  unfolding number_among
  found_within t w = omega (arith, w.number, w.inside)

  pub number-within : (t : List ℕ) → number_among names t ≤ length names
  unfolding number_among
  number-within t =
      ⊎_elim
      (λ (e : eqb (number_among names t) 0 ≡ true). omega (arith, eqb-true (number_among names t) 0 e))
      (λ (e : eqb (number_among names t) 0 ≡ false). found_within t (first_found (same t) [] 1 names (eqb-false (number_among names t) 0 e)))
      (either (eqb (number_among names t) 0))

  -- each name's own number, where no name stands twice
  pub number_of_name : own_numbers names ≡ true → (k : ℕ) → 1 ≤ k → k ≤ length names → number_among names (get_or ([] ∷ names) k []) ≡ k
  unfolding own_numbers
  number_of_name own k l u =
      eqb-true (number_among names (get_or ([] ∷ names) k [])) k
      (every_at (λ k. eqb (number_among names (get_or ([] ∷ names) k [])) k) 1 (length names) own k l (omega arith))

  -- a text of more than three letters has no number, where no name has so many
  module _ (all_short : every short names ≡ true) where
    pub long-unknown : (t : List ℕ) → 3 < length t → number_among names t ≡ 0
    long-unknown t h =
        unknown t (λ k l q. let z : ⊥ = omega (arith, ap length q, short-length (get_or names k []) (every_element short names [] all_short k l)) in z)

    -- so its length and first three letters tell its number
    pub known-number : (t : List ℕ) → number_among names (name_in (letters_of t)) ≡ number_among names t
    known-number [] = refl
    known-number (a ∷ []) = refl
    known-number (a ∷ b ∷ []) = refl
    known-number (a ∷ b ∷ c ∷ []) = refl
    known-number (a ∷ b ∷ c ∷ d ∷ t) =
        long-unknown (a ∷ b ∷ c ∷ 0 ∷ take (length t) []) (omega arith) ∙ sym (long-unknown (a ∷ b ∷ c ∷ d ∷ t) (omega arith))

    -- and the name of a number has three at most
    pub name-short : (n : ℕ) → length (name_of names n) ≤ 3
    unfolding name_of
    name-short zero = omega arith
    name-short (suc n) =
        ⊎_elim
        (λ (l : n < length names). short-length (get_or names n []) (every_element short names [] all_short n l))
        (λ (l : length names ≤ n). omega (arith, ap length (get_or-eq_default names [] l)))
        (less_or_not n (length names))

-- the names of both lists are short and different: computed once
pub kinds-short : every short kind_names ≡ true
unfolding every short kind_names bytes
kinds-short = refl

pub contexts_short : every short context_names ≡ true
unfolding every short context_names bytes
contexts_short = refl

pub kinds_own : own_numbers kind_names ≡ true
unfolding own_numbers kind_names bytes number_among first_from same every_from
kinds_own = refl

pub contexts_own : own_numbers context_names ≡ true
unfolding own_numbers context_names bytes number_among first_from same every_from
contexts_own = refl

pub kinds_capitals : every capitals kind_names ≡ true
unfolding every capitals within kind_names bytes
kinds_capitals = refl

pub contexts_capitals : every capitals context_names ≡ true
unfolding every capitals within context_names bytes
contexts_capitals = refl

-- a capital letter at each place: a kind's name holds neither a separator nor a byte below 32
pub capital_at : (t : List ℕ) → capitals t ≡ true → (i : ℕ) → i < length t → (65 ≤ get_or t i 0) × (get_or t i 0 ≤ 90)
unfolding capitals
capital_at t h i l = within_bounds 65 90 (get_or t i 0) (every_element (within 65 90) t 0 h i l)

-- what follows for kinds
pub kind-within : (t : List ℕ) → kind_of t ≤ 12
unfolding kind_of kind_names
kind-within t = number-within kind_names t

pub kind-name : (t : List ℕ) → (kind_of t ≡ 0 → ⊥) → get_or ([] ∷ kind_names) (kind_of t) [] ≡ t
unfolding kind_of
kind-name t h = name_of_number kind_names t h

pub name-kind : (k : ℕ) → 1 ≤ k → k ≤ 12 → kind_of (get_or ([] ∷ kind_names) k []) ≡ k
unfolding kind_of kind_names
name-kind k l u = number_of_name kind_names kinds_own k l u

-- a line `A` begins a segment of its own, and that segment is of no kind: a text of known kind is no addendum's
pub addendum-unknown : kind_of (65 ∷ []) ≡ 0
unfolding kind_of kind_names bytes number_among first_from same
addendum-unknown = refl

pub known_no_addendum : (t : List ℕ) → (kind_of t ≡ 0 → ⊥) → t ≡ 65 ∷ [] → ⊥
known_no_addendum t h e = h (rw e addendum-unknown)

-- the same for contexts
pub context-within : (t : List ℕ) → context_of t ≤ 7
unfolding context_of context_names
context-within t = number-within context_names t

pub context-name : (t : List ℕ) → (context_of t ≡ 0 → ⊥) → get_or ([] ∷ context_names) (context_of t) [] ≡ t
unfolding context_of
context-name t h = name_of_number context_names t h

pub name-context : (k : ℕ) → 1 ≤ k → k ≤ 7 → context_of (get_or ([] ∷ context_names) k []) ≡ k
unfolding context_of context_names
name-context k l u = number_of_name context_names contexts_own k l u
