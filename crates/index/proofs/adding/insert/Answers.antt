-- `index::adding::insert` meets its contract: what is moved, and what is put between, is what the entries with the new one put there.
-- Assumes nothing.
use mathlib.Core.List.{List}
use mathlib.Core.Path.{ap, ◌∙◌}
use Prim.Native.Nat.{ℕ, ◌+◌, ◌*◌}
use native.Mathlib.Omega.{arith}
use lib.ListN.{set, length-set}
use lib.Seq.{sets}
use Rattle.index.specs.Index.{place_size}
use Rattle.index.specs.Adding.{place_of_code}
use Rattle.index.proofs.Putting.{new_codes, new_counts}
use Rattle.index.proofs.Sizes.{Roomy, roomy_parts}
use Rattle.index.proofs.adding.insert.Goals as goal
use Rattle.index.proofs.adding.insert.Goals.{Start}

room_at : (s : Start) → Roomy s.args.codes.now s.args.counts.now
room_at s = roomy_parts s.args.codes.now s.args.counts.now s.requires.room

pub overflow_mul-at : goal.overflow_mul-at
overflow_mul-at c = omega (arith, c.requires.within, c.requires.free)

pub overflow_mul-named : goal.overflow_mul-named
overflow_mul-named c = omega (arith, c.requires.free)

pub move_codes-requires : goal.move_codes-requires
move_codes-requires c = (omega (arith, c.requires.within), omega (arith, c.requires.free, (room_at (goal.at.move_codes-requires c).Start).codes_room))

pub put_code-requires : goal.put_code-requires
put_code-requires c = (c.requires.short, omega (arith, c.requires.within, c.requires.free, (room_at (goal.at.put_code-requires c).Start).codes_room, c.move_codes.auto.codes))

pub overflow_add-place : goal.overflow_add-place
overflow_add-place c = omega (arith, c.requires.within, c.requires.free)

pub overflow_add-named : goal.overflow_add-named
overflow_add-named c = omega (arith, c.requires.free)

pub move_counts-requires : goal.move_counts-requires
move_counts-requires c = (omega (arith, c.requires.within), omega (arith, c.requires.free, (room_at (goal.at.move_counts-requires c).Start).counts_room))

pub overflow_add-counts : goal.overflow_add-counts
overflow_add-counts c = omega (arith, c.requires.within, c.requires.free)

pub offset_bounds-counts-place : goal.offset_bounds-counts-place
offset_bounds-counts-place c = omega (arith, c.requires.within, c.requires.free)

pub bounds-counts-place : goal.bounds-counts-place
bounds-counts-place c = omega (arith, c.requires.within, c.requires.free, (room_at (goal.at.bounds-counts-place c).Start).counts_room, c.move_counts.auto.counts)

pub overflow_add-counts-2 : goal.overflow_add-counts-2
overflow_add-counts-2 c = omega (arith, c.requires.free)

pub overflow_cast-counts : goal.overflow_cast-counts
overflow_cast-counts c = record { fits = omega (arith, c.requires.free) }

pub bounds-counts-0 : goal.bounds-counts-0
bounds-counts-0 c =
    omega
    (arith, (room_at (goal.at.bounds-counts-0 c).Start).counts_room, c.move_counts.auto.counts, length-set c.move_counts.new.counts (c.args.place + 1) 1)

pub shape_of-codes : goal.shape_of-codes
shape_of-codes c = c.put_code.auto.codes ∙ c.move_codes.auto.codes

pub shape_of-counts : goal.shape_of-counts
shape_of-counts c =
    length-set (set c.move_counts.new.counts (c.args.place + 1) 1) 0 (c.args.named + 1)
    ∙ length-set c.move_counts.new.counts (c.args.place + 1) 1
    ∙ c.move_counts.auto.counts

pub returns : goal.returns
returns c =
    let a = c.args in
    record {
      codes_left =
          c.put_code.ensures
          ∙ ap (λ (l : List ℕ). sets l (a.place * place_size) (place_of_code a.code.now)) c.move_codes.ensures
          ∙ new_codes a.code.now a.place a.named a.codes.now a.counts.now c.requires;
      counts_left =
          ap (λ (l : List ℕ). set (set l (a.place + 1) 1) 0 (a.named + 1)) c.move_counts.ensures
          ∙ new_counts a.code.now a.place a.named a.codes.now a.counts.now c.requires;
    }
