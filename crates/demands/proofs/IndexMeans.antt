-- What the test of an index says (X1): room, no more codes named than there are places, each of 1 to 22 bytes, each before the next.
-- Assumes nothing.
use mathlib.Core.Bool.{true}
use mathlib.Core.List.{List, []}
use mathlib.Core.Logic.{◌↔◌}
use mathlib.Core.Path.{◌≡◌}
use Prim.Native.Nat.{ℕ}
use native.Mathlib.Omega.{arith}
use Rattle.laws.proofs.Tests.{and_both}
use Rattle.index.specs.Index.{named_in, entry_at, entries_in, sound_index}
use Rattle.index.proofs.Sizes.{roomy_parts, parts_roomy}
use Rattle.index.proofs.RisingParts.{rises_part, part_rises}
use Rattle.index.proofs.RisingEntries.{entry-behind}
use Rattle.index.proofs.Halved.{sound-roomy, sound-rises}
use Rattle.demands.specs.Counts.{IsIndex}

module _ (codes counts : List ℕ) where
  sound_index_lem : sound_index codes counts ≡ true → IsIndex codes counts
  unfolding entries_in
  sound_index_lem h =
      let room = roomy_parts codes counts (sound-roomy codes counts h) in
      let p = rises_part (entry_at codes counts) [] 0 (named_in counts) (sound-rises codes counts h) in
      record {
        codes_room = room.codes_room;
        counts_room = room.counts_room;
        few_named = room.few_named;
        lengths = λ i less. p.lengths i (omega arith) (omega (arith, less));
        rising = λ i less. p.rising i (omega arith) (omega (arith, less));
      }

  index_sound : IsIndex codes counts → sound_index codes counts ≡ true
  unfolding sound_index entries_in
  index_sound w =
      and_both (parts_roomy codes counts (record { codes_room = w.codes_room; counts_room = w.counts_room; few_named = w.few_named }))
      (part_rises (entry_at codes counts) [] 0 (named_in counts)
      (record {
        lengths = λ i low high. w.lengths i (omega (arith, high));
        first = λ h. let n = w.lengths 0 (omega (arith, h)) in entry-behind codes counts 0 (omega (arith, w.codes_room)) n.0 n.1;
        rising = λ i low high. w.rising i (omega (arith, high));
      }))

  pub index_means : (sound_index codes counts ≡ true) ↔ IsIndex codes counts
  index_means = (sound_index_lem, index_sound)
