-- What the contracts rule out: a reader that fills an answer although it is short, a lookup that leaves an old start and length beside an empty
-- leaf or tells it as one that has text or is not there, a watcher that goes on after a no, one that takes a single byte for a watcher, a check
-- of reports that looks at the table before the answer, one that puts its number where the place belongs, a row whose
-- first line is told by an old number or whose lines and offset are exchanged, kinds that are put in part where they do not fit.
-- Assumes nothing.
use mathlib.Core.Bool.{Bool, true, true≢false}
use mathlib.Core.List.{List, [], ◌∷◌}
use mathlib.Core.Path.{◌≡◌, sym, ap, ◌∙◌}
use Prim.Native.Nat.{ℕ}
use native.Mathlib.Omega.{arith}
use lib.Dec.{lit≤}
use lib.ListN.{get_or}
use Rattle.form.specs.declared.limits.Limits.{Limits}
use Rattle.order.specs.Contexts.{is_context}
use Rattle.order.specs.Watcher.{next_kinds}
use Rattle.order.specs.inner.Telling.{allows, allows_next, tell_by, tell_of}
use Rattle.order.proofs.NextKinds.{next-length}
use Rattle.table.specs.Lent.{Lent}
use Rattle.look.specs.declared.leaf.Sought.TheVariants.{Empty}
use Rattle.look.specs.Looking.{sought_number}
use Rattle.abi.specs.Putting.{put_all}
use Rattle.abi.specs.Looking.{leaf_numbers, TellsSought}
use Rattle.abi.specs.Reading.{ReadInto}
use Rattle.abi.specs.Watching.{watcher_bytes, watcher_of, Watched, watcher_after, ToldNext}
use Rattle.abi.specs.Places.{ToldPlace, ToldRun, ToldPosition}
use Rattle.abi.specs.Screening.{TellsVerdict, ScreenedInto}
use Rattle.abi.proofs.Puts.{put-short}
use Rattle.abi.proofs.Kept.{read-short-kept, watch_short_no, screen_short_kept}

-- what comes back from a reader in five numbers, whatever it was lent: they are as they were
module _ (L : Limits) (message text segments leaves : List ℕ) {r : ℕ} {text' segments' leaves' answer' : List ℕ}
    (read : ReadInto L message text segments leaves (7 ∷ 7 ∷ 7 ∷ 7 ∷ 7 ∷ []) r text' segments' leaves' answer') where
  pub fills_a_short_answer : get_or answer' 0 0 ≡ 0 → ⊥
  fills_a_short_answer zero =
      let kept = read-short-kept L message text segments leaves (7 ∷ 7 ∷ 7 ∷ 7 ∷ 7 ∷ []) read (lit≤ tt) in
      let z : ◌≡◌ {A = ℕ} 0 7 = sym zero ∙ ap (λ (l : List ℕ). get_or l 0 0) kept.4 in
      omega arith

-- what comes back of an empty leaf, from `sargaceu_find_leaf` or `sargaceu_find_leaf_in_segment`, into two numbers
module _ {r : ℕ} {answer' : List ℕ} (tells : TellsSought Empty (7 ∷ 7 ∷ []) r answer') where
  pub old_start_and_length : answer' ≡ (7 ∷ 7 ∷ []) → ⊥
  unfolding put_all leaf_numbers
  old_start_and_length kept =
      let z : ◌≡◌ {A = ℕ} 0 7 = ap (λ (l : List ℕ). get_or l 0 0) (sym tells.numbers ∙ kept) in
      omega arith

  pub told_as_text : r ≡ 1 → ⊥
  unfolding sought_number
  told_as_text one = let z : ◌≡◌ {A = ℕ} 2 1 = sym tells.told ∙ one in omega arith

  pub told_as_not_there : r ≡ 0 → ⊥
  unfolding sought_number
  told_as_not_there zero = let z : ◌≡◌ {A = ℕ} 2 0 = sym tells.told ∙ zero in omega arith

-- what meets the contract of `sargaceu_watch`
module _ (says : List ℕ → ℕ → Bool) (after : List ℕ → ℕ → List ℕ)
    (meets : (bytes : List ℕ) (kind : ℕ) → Watched bytes kind (says bytes kind) (after bytes kind)) where
  -- P may not begin a message: the next H is heard by a watcher that was told nothing yet
  pub goes_on_after_a_no : after (1 ∷ 0 ∷ []) 2 ≡ (1 ∷ 2 ∷ []) → ⊥
  unfolding put_all watcher_bytes watcher_of tell_of tell_by allows allows_next is_context
  goes_on_after_a_no went =
      let z : ◌≡◌ {A = ℕ} 0 2 = ap (λ (l : List ℕ). get_or l 1 0) (sym (meets (1 ∷ 0 ∷ []) 2).watcher ∙ went) in
      omega arith

  -- a single byte is no watcher, though H may begin a message of its context
  pub yes-to-one_byte : says (1 ∷ []) 1 ≡ true → ⊥
  yes-to-one_byte said = true≢false (sym said ∙ (watch_short_no (1 ∷ []) 1 (meets (1 ∷ []) 1) (lit≤ tt)).0)

-- what comes back of a report whose second row lacks a name, from `sargaceu_screen` into one number
module _ {r : ℕ} {answer' : List ℕ} (tells : TellsVerdict (record { number = 31; place = 2 }) (7 ∷ []) r answer') where
  pub number_as_place : get_or answer' 0 0 ≡ r → ⊥
  unfolding put_all
  number_as_place same =
      let place : ◌≡◌ {A = ℕ} (get_or answer' 0 0) 2 = ap (λ (l : List ℕ). get_or l 0 0) tells.answers in
      let number : ◌≡◌ {A = ℕ} r 31 = tells.number in
      let z : ◌≡◌ {A = ℕ} 2 31 = sym place ∙ same ∙ number in
      omega arith

-- what comes back from it into no number, whatever it was lent
module _ (L : Limits) (table : Lent) {r : ℕ} {answer' : List ℕ} (screened : ScreenedInto L table [] r answer') where
  pub looks_at_the_table_first : r ≡ 13 → ⊥
  looks_at_the_table_first said =
      let z : ◌≡◌ {A = ℕ} 1 13 = sym (screen_short_kept L table [] screened (lit≤ tt)).0 ∙ said in
      omega arith

-- what comes back of a row of two lines that begins at offset 3, from `sargaceu_row_place` into one number
module _ {r : ℕ} {answer' : List ℕ} (tells : ToldPlace (record { start = 3; lines = 2 }) (7 ∷ []) r answer') where
  pub lines_for_offset : r ≡ 3 → ⊥
  lines_for_offset said = omega (arith, tells.told, said)

  pub old_offset : answer' ≡ (7 ∷ []) → ⊥
  unfolding put_all
  old_offset kept = let z : ◌≡◌ {A = ℕ} 3 7 = ap (λ (l : List ℕ). get_or l 0 0) (sym tells.answers ∙ kept) in omega arith

-- what comes back of two lines behind which offset 11 comes, from `sargaceu_row_at` into one number
module _ {r : ℕ} {answer' : List ℕ} (tells : ToldRun (record { lines = 2; next = 11 }) (7 ∷ []) r answer') where
  pub place_for_lines : r ≡ 11 → ⊥
  place_for_lines said = omega (arith, tells.told, said)

  pub old_next : answer' ≡ (7 ∷ []) → ⊥
  unfolding put_all
  old_next kept = let z : ◌≡◌ {A = ℕ} 11 7 = ap (λ (l : List ℕ). get_or l 0 0) (sym tells.answers ∙ kept) in omega arith

-- what comes back of line 4 and column 2, from `sargaceu_position` into one number, and into none
module _ {r : ℕ} {answer' : List ℕ} (tells : ToldPosition (record { line = 4; column = 2 }) (7 ∷ []) r answer') where
  pub column_for_line : r ≡ 2 → ⊥
  column_for_line said = omega (arith, tells.told, said)

  pub line_for_column : answer' ≡ (4 ∷ []) → ⊥
  unfolding put_all
  line_for_column put = let z : ◌≡◌ {A = ℕ} 2 4 = ap (λ (l : List ℕ). get_or l 0 0) (sym tells.answers ∙ put) in omega arith

-- what comes back from `sargaceu_next_kinds` into a single byte: it is as it was, and the answer is no
module _ {r : Bool} {kinds' : List ℕ} (tells : ToldNext 6 5 (7 ∷ []) r kinds') where
  pub part_of_the_kinds : kinds' ≡ (0 ∷ []) → ⊥
  part_of_the_kinds put =
      let kept = put-short (7 ∷ []) (next_kinds (watcher_after 6 5)) (omega (arith, next-length (watcher_after 6 5))) in
      let z : ◌≡◌ {A = ℕ} 7 0 = ap (λ (l : List ℕ). get_or l 0 0) (sym kept ∙ sym tells.next ∙ put) in
      omega arith

  pub yes-to_too_few : r ≡ true → ⊥
  yes-to_too_few said = true≢false (sym said ∙ tells.fits)
