-- The entries that a message gives (X2): rising, just the codes named before or carried, each with its count; and when a count is too large (X3).
-- Assumes nothing.
use mathlib.Core.Bool.{true, ◌||◌}
use mathlib.Core.List.{List, []}
use mathlib.Core.Logic.{◌⊎◌, inl, inr}
use mathlib.Core.Path.{◌≡◌, sym, ◌∙◌}
use Prim.Native.Nat.{ℕ, ◌+◌, ◌≤◌}
use native.Mathlib.Omega.{arith}
use lib.Dec.{ltb}
use borrow.Author.Tests.{ltb-true, lt-ltb}
use Rattle.laws.specs.Every.{All}
use Rattle.laws.proofs.Tests.{or_first, or_second, or_cases}
use Rattle.form.specs.declared.limits.Limits.{Limits}
use Rattle.index.specs.Index.{Entry, entries_in, rises, sound_index, names, count_of}
use Rattle.index.proofs.Sizes.{Fit}
use Rattle.index.proofs.Large.{large-some, some-large}
use Rattle.index.proofs.AddedAll.{all-rises, count-all, names-all}
use Rattle.index.proofs.Halved.{sound-rises}
use Rattle.read.specs.Codes.{codes_in, codes_counted, first_long}
use Rattle.demands.specs.Counts.{results_with, entries_with, GivesEntries}
use Rattle.demands.proofs.Counting.{none-long_fit}

module _ (L : Limits) (message codes counts : List ℕ) (sound : sound_index codes counts ≡ true) (none-long : first_long (codes_in L message) ≡ 0) where
  abbrev E : List Entry
  E = entries_with L message codes counts

  abbrev es : List Entry
  es = entries_in codes counts

  fits : All Fit (codes_counted (codes_in L message))
  fits = none-long_fit (codes_in L message) none-long

  rise : rises E ≡ true
  rise = all-rises (codes_counted (codes_in L message)) es fits (sound-rises codes counts sound)

  count-given : (c : List ℕ) → count_of E c ≡ count_of es c + results_with L message c
  count-given c = count-all (codes_counted (codes_in L message)) es fits (sound-rises codes counts sound) c

  module _ (c : List ℕ) where
    names-given : names E c ≡ (names es c || ltb 0 (results_with L message c))
    names-given = names-all (codes_counted (codes_in L message)) es c

    named-before : names E c ≡ true → (names es c ≡ true) ⊎ (1 ≤ results_with L message c)
    named-before h = by (or_cases (names es c) (ltb 0 (results_with L message c)) (sym names-given ∙ h))
      where
        by : (names es c ≡ true) ⊎ (ltb 0 (results_with L message c) ≡ true) → (names es c ≡ true) ⊎ (1 ≤ results_with L message c)
        by (inl e) = inl e
        by (inr e) = inr (ltb-true 0 (results_with L message c) e)

    named-after : (names es c ≡ true) ⊎ (1 ≤ results_with L message c) → names E c ≡ true
    named-after (inl e) = names-given ∙ or_first (ltb 0 (results_with L message c)) e
    named-after (inr h) = names-given ∙ or_second (names es c) (lt-ltb 0 (results_with L message c) h)

  pub entries-given : GivesEntries L message codes counts
  entries-given =
      record {
        rising = rise;
        named = λ c. (named-before c, named-after c);
        counted = count-given;
        large = (
          λ h. let found = large-some [] E rise h in (found.0, omega (arith, found.1, count-given found.0)),
          λ found. some-large E found.0 (omega (arith, found.1, count-given found.0)),
        );
      }
