-- What a message that is counted leaves in the index (X2): its entries, in an index that is sound, with all else as it was.
-- Assumes nothing.
use mathlib.Core.Bool.{true, false}
use mathlib.Core.List.{List}
use mathlib.Core.Path.{◌≡◌, sym, ap, ap₂, ◌∙◌}
use Prim.Native.Nat.{ℕ, ◌≤◌}
use native.Mathlib.Omega.{arith}
use lib.ListN.{length, get_or}
use lib.Seq.{sets, length-sets}
use borrow.Author.Tests.{ltb-false}
use Rattle.laws.proofs.Stores.{get_or_sets_behind}
use Rattle.laws.proofs.Tests.{and_both}
use Rattle.form.specs.declared.limits.Limits.{Limits}
use Rattle.index.specs.declared.tally.Tally.{Tally}
use Rattle.index.specs.Index.{Entry, codes_most, named_in, entries_in, roomy, rises, sound_index, names, count_of, codes_put, counts_put}
use Rattle.index.specs.Adding.{too_many}
use Rattle.index.proofs.Sizes.{Sized, Roomy, roomy_parts}
use Rattle.index.proofs.Entries.{entries-sized, length-codes_put, length-counts_put, entries-put, roomy-put, named_put}
use Rattle.index.proofs.AddedAll.{all-sized}
use Rattle.index.proofs.Halved.{sound-roomy}
use Rattle.read.specs.Codes.{codes_in, codes_counted, first_long}
use Rattle.demands.specs.Counts.{entries_with, tally_with, GivesEntries, AddsMessage}
use Rattle.demands.proofs.Counting.{none-long_fit}
use Rattle.demands.proofs.GivenEntries.{entries-given}

module _ (L : Limits) (message codes counts : List ℕ) {codes' counts' : List ℕ} (sound : sound_index codes counts ≡ true)
    (none-long : first_long (codes_in L message) ≡ 0) (few : too_many (entries_with L message codes counts) ≡ false)
    (codes-put : codes' ≡ sets codes 0 (codes_put (entries_with L message codes counts)))
    (counts-put : counts' ≡ sets counts 0 (counts_put (entries_with L message codes counts))) where
  abbrev E : List Entry
  E = entries_with L message codes counts

  room : Roomy codes counts
  room = roomy_parts codes counts (sound-roomy codes counts sound)

  given : GivesEntries L message codes counts
  given = entries-given L message codes counts sound none-long

  whole : Sized E
  whole = all-sized (codes_counted (codes_in L message)) (entries_in codes counts) (none-long_fit (codes_in L message) none-long) (entries-sized codes counts (sound-roomy codes counts sound))

  few-there : length E ≤ codes_most
  few-there = ltb-false codes_most (length E) few

  entries-there : entries_in codes' counts' ≡ E
  entries-there = ap₂ entries_in codes-put counts-put ∙ entries-put E codes counts whole few-there room.codes_room room.counts_room

  named-there : named_in counts' ≡ length E
  named-there = ap (λ (s : List ℕ). named_in s) counts-put ∙ named_put E codes counts whole few-there room.codes_room room.counts_room

  sound-there : sound_index codes' counts' ≡ true
  unfolding sound_index
  sound-there =
      and_both (ap₂ roomy codes-put counts-put ∙ roomy-put E codes counts whole few-there room.codes_room room.counts_room)
      (ap rises entries-there ∙ given.rising)

  pub adds-message : {tally after : Tally} → after ≡ tally_with L message tally → AddsMessage L message tally codes counts after codes' counts'
  adds-message tally_is_lem =
      record {
        counted = λ c. ap (λ (es : List Entry). count_of es c) entries-there ∙ given.counted c;
        named = λ c. (
          λ h. (given.named c).0 (ap (λ (es : List Entry). names es c) (sym entries-there) ∙ h),
          λ h. ap (λ (es : List Entry). names es c) entries-there ∙ (given.named c).1 h,
        );
        tallied = tally_is_lem;
        sound = sound-there;
        codes_behind = λ i h.
            ap (λ (s : List ℕ). get_or s i 0) codes-put
            ∙ get_or_sets_behind codes 0 i (codes_put E) 0 (omega (arith, length-codes_put E whole, named-there, h));
        counts_behind = λ i h.
            ap (λ (s : List ℕ). get_or s i 0) counts-put
            ∙ get_or_sets_behind counts 0 i (counts_put E) 0 (omega (arith, length-counts_put E, named-there, h));
        codes_long = ap length codes-put ∙ length-sets codes 0 (codes_put E);
        counts_long = ap length counts-put ∙ length-sets counts 0 (counts_put E);
      }
