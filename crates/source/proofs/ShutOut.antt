-- What the contracts of this crate rule out, on short messages: a row's number taken for a line's, a row that has always one line, a line that begins
-- with what is skipped, an AP taken for an addendum, lines counted by LF or from 0, columns that go on over a CR.
-- Assumes nothing.
use mathlib.Core.Bool.{Bool, true}
use mathlib.Core.List.{List, [], ◌∷◌}
use mathlib.Core.Path.{◌≡◌, refl, sym, ap, ◌∙◌}
use Prim.Native.Nat.{ℕ}
use native.Mathlib.Omega.{arith}
use Rattle.laws.specs.Lists.{count}
use Rattle.form.specs.Forms.{small_form}
use Rattle.line.specs.Lines.{inside, walk_from, texts}
use Rattle.line.specs.Joining.{addendum}
use Rattle.line.specs.Finding.{text_run, low_run, text_ended, found_from, next_of}
use Rattle.source.specs.Places.{addenda_ahead, rows_of, lines_from, place_ahead, places_from, row_places, place_of_row, first_taken, row_by, row_at}
use Rattle.source.specs.Positions.{line_ends, bytes_since, position_behind, position_of}
use Rattle.source.specs.declared.row.RowPlace.{RowPlace}
use Rattle.source.specs.declared.row.LineRun.{LineRun}
use Rattle.source.specs.declared.position.Position.{Position}

-- `H|¶OB¶A|R¶`, LF, `L¶`: three rows in four lines, and a byte that is skipped
unfoldable pub carried_on : List ℕ
carried_on = 72 ∷ 124 ∷ 13 ∷ 79 ∷ 66 ∷ 13 ∷ 65 ∷ 124 ∷ 82 ∷ 13 ∷ 10 ∷ 76 ∷ 13 ∷ []

-- `P|¶AP|¶`: the second line begins with A and is no addendum
unfoldable pub covered : List ℕ
covered = 80 ∷ 124 ∷ 13 ∷ 65 ∷ 80 ∷ 124 ∷ 13 ∷ []

second-row : place_of_row small_form carried_on 2 ≡ record { start = 3; lines = 2 }
unfolding carried_on place_of_row row_places places_from rows_of addenda_ahead addendum lines_from texts walk_from inside place_ahead next_of found_from text_run low_run text_ended
second-row = refl

third-row : place_of_row small_form carried_on 3 ≡ record { start = 11; lines = 1 }
unfolding carried_on place_of_row row_places places_from rows_of addenda_ahead addendum lines_from texts walk_from inside place_ahead next_of found_from text_run low_run text_ended
third-row = refl

no_fourth_row : place_of_row small_form carried_on 4 ≡ record { start = 0; lines = 0 }
unfolding carried_on place_of_row row_places places_from rows_of addenda_ahead addendum lines_from texts walk_from inside place_ahead next_of found_from text_run low_run text_ended
no_fourth_row = refl

-- what meets the contract of `row_place`
module _ (f : List ℕ → ℕ → RowPlace) (meets : (m : List ℕ) (row : ℕ) → f m row ≡ place_of_row small_form m row) where
  pub row-taken_for_line : f carried_on 3 ≡ record { start = 6; lines = 1 } → ⊥
  row-taken_for_line e = omega (arith, ap (λ (r : RowPlace). r.start) (sym e ∙ meets carried_on 3 ∙ third-row))

  pub always_one_line : f carried_on 2 ≡ record { start = 3; lines = 1 } → ⊥
  always_one_line e = omega (arith, ap (λ (r : RowPlace). r.lines) (sym e ∙ meets carried_on 2 ∙ second-row))

  pub begins_with_skipped : f carried_on 3 ≡ record { start = 10; lines = 1 } → ⊥
  begins_with_skipped e = omega (arith, ap (λ (r : RowPlace). r.start) (sym e ∙ meets carried_on 3 ∙ third-row))

  pub row_past_the_last : f carried_on 4 ≡ record { start = 11; lines = 1 } → ⊥
  row_past_the_last e = omega (arith, ap (λ (r : RowPlace). r.start) (sym e ∙ meets carried_on 4 ∙ no_fourth_row))

first_of_two : row_at small_form covered 0 ≡ record { lines = 1; next = 3 }
unfolding covered row_at row_by first_taken addenda_ahead addendum lines_from texts walk_from inside place_ahead next_of found_from text_run low_run text_ended
first_of_two = refl

second_with_addendum : row_at small_form carried_on 3 ≡ record { lines = 2; next = 11 }
unfolding carried_on row_at row_by first_taken addenda_ahead addendum lines_from texts walk_from inside place_ahead next_of found_from text_run low_run text_ended
second_with_addendum = refl

-- what meets the contract of `row_at`
module _ (f : List ℕ → ℕ → LineRun) (meets : (m : List ℕ) (at : ℕ) → f m at ≡ row_at small_form m at) where
  pub cover-taken_for_addendum : f covered 0 ≡ record { lines = 2; next = 7 } → ⊥
  cover-taken_for_addendum e = omega (arith, ap (λ (r : LineRun). r.lines) (sym e ∙ meets covered 0 ∙ first_of_two))

  pub addendum-begins_a_row : f carried_on 3 ≡ record { lines = 1; next = 6 } → ⊥
  addendum-begins_a_row e = omega (arith, ap (λ (r : LineRun). r.lines) (sym e ∙ meets carried_on 3 ∙ second_with_addendum))

behind_LF : position_of carried_on 11 ≡ record { line = 4; column = 2 }
unfolding carried_on position_of position_behind line_ends bytes_since count
behind_LF = refl

at_a_CR : position_of carried_on 5 ≡ record { line = 2; column = 3 }
unfolding carried_on position_of position_behind line_ends bytes_since count
at_a_CR = refl

-- what meets the contract of `position_of`
module _ (f : List ℕ → ℕ → Position) (meets : (m : List ℕ) (offset : ℕ) → f m offset ≡ position_of m offset) where
  pub line_by_LF : f carried_on 11 ≡ record { line = 5; column = 1 } → ⊥
  line_by_LF e = omega (arith, ap (λ (r : Position). r.line) (sym e ∙ meets carried_on 11 ∙ behind_LF))

  pub lines-from_0 : f carried_on 5 ≡ record { line = 1; column = 2 } → ⊥
  lines-from_0 e = omega (arith, ap (λ (r : Position). r.line) (sym e ∙ meets carried_on 5 ∙ at_a_CR))

  pub column_over_a_CR : f carried_on 5 ≡ record { line = 2; column = 6 } → ⊥
  column_over_a_CR e = omega (arith, ap (λ (r : Position). r.column) (sym e ∙ meets carried_on 5 ∙ at_a_CR))

-- what meets the contract of `is_addendum`
module _ (f : ℕ → List ℕ → Bool) (meets : (field : ℕ) (line : List ℕ) → f field line ≡ addendum field line) where
  pub letter_alone : f 124 (65 ∷ []) ≡ true → ⊥
  unfolding addendum
  letter_alone e = let z : ◌≡◌ {A = ℕ} 0 1 = cc (meets 124 (65 ∷ [])) in omega arith

  pub other-second_byte : f 124 (65 ∷ 80 ∷ 124 ∷ []) ≡ true → ⊥
  unfolding addendum
  other-second_byte e = let z : ◌≡◌ {A = ℕ} 0 1 = cc (meets 124 (65 ∷ 80 ∷ 124 ∷ [])) in omega arith
