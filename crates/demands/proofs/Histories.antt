-- Histories (X5): from an index that names no codes and a tally of zeros, each reading lent what the last one left, the index counts just the rows of the
-- messages added, and the tally the messages themselves.
-- Assumes nothing.
use mathlib.Core.Bool.{true}
use mathlib.Core.List.{List, [], ◌∷◌}
use mathlib.Core.Logic.{◌⊎◌, inl, inr}
use mathlib.Core.Path.{◌≡◌, refl, ap, subst⁻¹}
use Prim.Native.Nat.{ℕ, ◌+◌, ◌<◌, ◌≤◌}
use native.Mathlib.Omega.{arith}
use Rattle.laws.specs.Lists.{sum_of}
use Rattle.laws.proofs.Tests.{and_both, never_both}
use Rattle.laws.proofs.Cases.{less_or_not}
use Rattle.form.specs.declared.limits.Limits.{Limits}
use Rattle.form.specs.Forms.{limits_of}
use Rattle.form.proofs.TwoForms.{form_lawful}
use Rattle.order.specs.Owners.{level}
use Rattle.index.specs.declared.tally.Tally.{Tally}
use Rattle.index.specs.Index.{Entry, named_in, entries_in, roomy, rises_after, rises, sound_index, names, count_of}
use Rattle.index.proofs.Entries.{entries_empty}
use Rattle.demands.specs.Counts.{results_with, AddsMessage, AddedMessage, History, made, adding, refusing, HoldsHistory, Histories, CountsOfForms}
use Rattle.demands.proofs.CodesLookedUp.{forms_look_up_codes}
use Rattle.demands.proofs.Counts.{refused_unchanged, adds, counts_hold}

-- an index that names no codes, and a tally of zeros
holds-made : (codes counts : List ℕ) → roomy codes counts ≡ true → named_in counts ≡ 0
    → HoldsHistory codes counts (record { messages = 0; segments = 0; results = 0 }) []
unfolding sound_index rises_after names count_of sum_of
holds-made codes counts room empty =
    let there = entries_empty codes counts empty in
    record {
      sound = and_both room (ap rises there);
      counted = λ c. ap (λ (es : List Entry). count_of es c) there;
      named = λ c. (λ h. absurd (never_both h (ap (λ (es : List Entry). names es c) there)), λ h. absurd (omega (arith, h)));
      messages = refl;
      segments = refl;
      results = refl;
    }

-- a message more
module _ (L : Limits) (message : List ℕ) {tally after : Tally} {codes counts codes' counts' : List ℕ} {added : List AddedMessage}
    (before : HoldsHistory codes counts tally added) (now : AddsMessage L message tally codes counts after codes' counts') where
  abbrev this : AddedMessage
  this = record { limits = L; message = message }

  module _ (c : List ℕ) where
    abbrev rows : AddedMessage → ℕ
    rows a = results_with a.limits a.message c

    rows_more : sum_of rows (this ∷ added) ≡ results_with L message c + sum_of rows added
    unfolding sum_of
    rows_more = refl

    named_some : (names (entries_in codes counts) c ≡ true) ⊎ (1 ≤ results_with L message c) → 1 ≤ sum_of rows (this ∷ added)
    named_some (inl h) = omega (arith, rows_more, (before.named c).0 h)
    named_some (inr h) = omega (arith, rows_more, h)

    some-named : 1 ≤ sum_of rows (this ∷ added) → (names (entries_in codes counts) c ≡ true) ⊎ (1 ≤ results_with L message c)
    some-named h = by (less_or_not 0 (results_with L message c))
      where
        by : (0 < results_with L message c) ⊎ (results_with L message c ≤ 0) → (names (entries_in codes counts) c ≡ true) ⊎ (1 ≤ results_with L message c)
        by (inl k) = inr k
        by (inr k) = inl ((before.named c).1 (omega (arith, rows_more, h, k)))

  holds_more : HoldsHistory codes' counts' after (this ∷ added)
  unfolding sum_of
  holds_more =
      record {
        sound = now.sound;
        counted = λ c. omega (arith, now.counted c, before.counted c, rows_more c);
        named = λ c. (λ h. named_some c ((now.named c).0 h), λ h. (now.named c).1 (some-named c h));
        messages = omega (arith, ap (λ (t : Tally). t.messages) now.tallied, before.messages);
        segments = omega (arith, ap (λ (t : Tally). t.segments) now.tallied, before.segments);
        results = omega (arith, ap (λ (t : Tally). t.results) now.tallied, before.results);
      }

-- what is as it was holds as it did
holds_kept : {codes counts codes' counts' : List ℕ} {tally after : Tally} {added : List AddedMessage} → codes' ≡ codes → counts' ≡ counts → after ≡ tally
    → HoldsHistory codes counts tally added → HoldsHistory codes' counts' after added
holds_kept {codes} {counts} {codes'} {counts'} {tally} {after} {added} e f g h =
    subst⁻¹ (λ (s : List ℕ). HoldsHistory s counts' after added) e
    (subst⁻¹ (λ (s : List ℕ). HoldsHistory codes s after added) f (subst⁻¹ (λ (t : Tally). HoldsHistory codes counts t added) g h))

pub holds_history : {levels : ℕ → ℕ → ℕ} {codes counts : List ℕ} {tally : Tally} {added : List AddedMessage}
    → History levels codes counts tally added → HoldsHistory codes counts tally added
holds_history (made {codes} {counts} room empty) = holds-made codes counts room empty
holds_history {levels} (adding L message h w z) = holds_more L message (holds_history h) (adds L levels message w z)
holds_history {levels} (refusing L message h w z) =
    let kept = refused_unchanged L levels message w z in holds_kept kept.3 kept.4 kept.5 (holds_history h)

pub histories_hold : (levels : ℕ → ℕ → ℕ) → Histories levels
histories_hold levels codes counts tally added h = holds_history h

pub counts_of_forms : CountsOfForms
counts_of_forms =
    record { each = λ f. counts_hold (limits_of f) (form_lawful f) level; looked_up = forms_look_up_codes; histories = histories_hold level }
