-- Where rows stand, as the code goes from row to row: the rows from a place on, by what stands there.
-- Assumes nothing.
use mathlib.Core.Bool.{true, false}
use mathlib.Core.List.{List, [], ◌∷◌, map}
use mathlib.Core.Path.{◌≡◌, refl, sym, ap, ap₂, ◌∙◌, subst}
use Rattle.std.specs.Prelude.{Option, Some, None, MatchOption}
use Rattle.std.specs.Option.{unwrap_or}
use Prim.Native.Nat.{ℕ, zero, suc, ◌+◌, ◌-◌, ◌≤◌, ◌<◌}
use native.Mathlib.Omega.{arith}
use lib.ListN.{get_or}
use Rattle.laws.proofs.Tests.{Tested, passed, failed, tested}
use Rattle.form.specs.declared.limits.Limits.{Limits}
use Rattle.line.specs.Joining.{addendum}
use Rattle.line.specs.Finding.{found_at, next_of}
use Rattle.line.specs.declared.finder.Found.TheVariants.{Line}
use Rattle.line.proofs.Finding.{next_of_line}
use Rattle.source.specs.Places.{named_field, addenda_ahead, rows_of, lines_from, place_ahead, standing_at, places_from, row_places, no_row_place, place_of_row, first_taken, row_by}
use Rattle.source.specs.inner.Going.{addenda_from}
use Rattle.source.specs.declared.row.RowPlace.{RowPlace}
use Rattle.source.specs.declared.row.LineRun.{LineRun}
use Rattle.source.proofs.Going.{text_to, lines-line, onward-line, Stands, nothing, carrying, beginning, stands, ahead_more, ahead_none}

-- the rows of lines, by the first of them
module _ (f k : ℕ) (l : List ℕ) (ls : List (List ℕ)) where
  pub rows-carried : addendum f l ≡ true → rows_of f k (l ∷ ls) ≡ rows_of f (suc k) ls
  unfolding rows_of
  rows-carried h = rw (h, rows_of)

  pub rows-begun : addendum f l ≡ false → rows_of f k (l ∷ ls) ≡ record { before = k; taken = suc (addenda_ahead f ls) } ∷ rows_of f (suc k) ls
  unfolding rows_of
  rows-begun h = rw (h, rows_of)

module _ (L : Limits) (one : 1 ≤ L.line) (f : ℕ) (m : List ℕ) where
  -- rows that have one line more before them stand at the same places, seen from one line before
  shifted : (at k : ℕ) (ls : List (List ℕ)) → map (standing_at L m at) (rows_of f (suc k) ls) ≡ map (standing_at L m (next_of at (found_at L m at))) (rows_of f k ls)
  unfolding rows_of place_ahead
  shifted at k [] = refl
  shifted at k (l ∷ ls) = by (tested (addendum f l)) (shifted at (suc k) ls)
    where
      by : Tested (addendum f l)
          → map (standing_at L m at) (rows_of f (suc (suc k)) ls) ≡ map (standing_at L m (next_of at (found_at L m at))) (rows_of f (suc k) ls)
          → map (standing_at L m at) (rows_of f (suc k) (l ∷ ls)) ≡ map (standing_at L m (next_of at (found_at L m at))) (rows_of f k (l ∷ ls))
      by (passed t) ih = rw (rows-carried f (suc k) l ls t, rows-carried f k l ls t) ih
      by (failed t) ih =
          rw (rows-begun f (suc k) l ls t, rows-begun f k l ls t)
          (ap {B = List RowPlace} (λ (r : List RowPlace). record { start = place_ahead L m at (suc k); lines = suc (addenda_ahead f ls) } ∷ r) ih)

  module _ (at e n : ℕ) (h : found_at L m at ≡ Line e n) where
    next_is : next_of at (found_at L m at) ≡ n
    next_is = next_of_line at (found_at L m at) e n h

    from_next : map (standing_at L m at) (rows_of f 1 (lines_from L m n)) ≡ places_from L f m n
    unfolding places_from
    from_next = shifted at 0 (lines_from L m n) ∙ ap (λ (p : ℕ). map (standing_at L m p) (rows_of f 0 (lines_from L m n))) next_is

    places-carried : addendum f (text_to L one m at e) ≡ true → places_from L f m at ≡ places_from L f m n
    unfolding places_from
    places-carried t =
        ap (λ (ls : List (List ℕ)). map (standing_at L m at) (rows_of f 0 ls)) (lines-line L one m at e n h)
        ∙ ap (map (standing_at L m at)) (rows-carried f 0 (text_to L one m at e) (lines_from L m n) t)
        ∙ from_next

    places-begun : addendum f (text_to L one m at e) ≡ false
        → places_from L f m at ≡ record { start = at; lines = suc (addenda_ahead f (lines_from L m n)) } ∷ places_from L f m n
    unfolding places_from place_ahead
    places-begun t =
        ap (λ (ls : List (List ℕ)). map (standing_at L m at) (rows_of f 0 ls)) (lines-line L one m at e n h)
        ∙ ap (map (standing_at L m at)) (rows-begun f 0 (text_to L one m at e) (lines_from L m n) t)
        ∙ ap {B = List RowPlace} (λ (r : List RowPlace). record { start = at; lines = suc (addenda_ahead f (lines_from L m n)) } ∷ r) from_next

  pub places-none : (at : ℕ) → lines_from L m at ≡ [] → places_from L f m at ≡ []
  unfolding places_from rows_of
  places-none at e = ap (λ (ls : List (List ℕ)). map (standing_at L m at) (rows_of f 0 ls)) e

  -- behind the addenda at a place stand the same rows, and no further addendum
  pub record Behind (at n : ℕ) : Type 0 where
    pub rows : places_from L f m n ≡ places_from L f m at
    pub none : addenda_ahead f (lines_from L m n) ≡ 0

  pub behind : (j at : ℕ) → addenda_ahead f (lines_from L m at) ≡ j → Behind at (place_ahead L m at j)
  unfolding place_ahead addenda_ahead
  behind zero at h = record { rows = refl; none = h }
  behind (suc j) at h = by (stands L one m f at) (λ n. behind j n)
    where
      by : Stands L one m f at → ((n : ℕ) → addenda_ahead f (lines_from L m n) ≡ j → Behind n (place_ahead L m n j)) → Behind at (place_ahead L m at (suc j))
      by (nothing e b) ih = absurd (omega (arith, h, ap (addenda_ahead f) e))
      by (beginning e n q t b) ih =
          absurd (omega (arith, h, ap (addenda_ahead f) (lines-line L one m at e n q), ahead_none f (text_to L one m at e) (lines_from L m n) t))
      by (carrying e n q t b) ih =
          let fewer : addenda_ahead f (lines_from L m n) ≡ j
          = omega (arith, h, ap (addenda_ahead f) (lines-line L one m at e n q), ahead_more f (text_to L one m at e) (lines_from L m n) t) in
          let there = ih n fewer in
          let same = onward-line L one m at e n j q in
          record {
            rows = ap (places_from L f m) same ∙ there.rows ∙ sym (places-carried at e n q t);
            none = ap (λ (p : ℕ). addenda_ahead f (lines_from L m p)) same ∙ there.none;
          }

  -- the row at a place, by what was found there
  pub row-none : (at : ℕ) → lines_from L m at ≡ [] → row_by L f m at ≡ record { lines = 0; next = at }
  unfolding row_by first_taken place_ahead
  row-none at e = ap (λ (ls : List (List ℕ)). record { lines = first_taken f ls; next = place_ahead L m at (first_taken f ls) }) e

  -- the row that was found at a place, or no lines
  pub run_or : (at : ℕ) (r : Option LineRun)
      → MatchOption r (lines_from L m at ≡ []) (λ (run : LineRun). (run ≡ row_by L f m at) × (1 ≤ run.lines))
      → unwrap_or r (record { lines = 0; next = at }) ≡ row_by L f m at
  run_or at (Some run) h = h.0
  run_or at None h = sym (row-none at h)

  row-taken : (at e n : ℕ) → found_at L m at ≡ Line e n → first_taken f (lines_from L m at) ≡ suc (addenda_ahead f (lines_from L m n))
  unfolding first_taken
  row-taken at e n h = ap (first_taken f) (lines-line L one m at e n h)

  pub row_line : (at e n : ℕ) → found_at L m at ≡ Line e n
      → row_by L f m at ≡ record { lines = (addenda_from L f m n).lines + 1; next = (addenda_from L f m n).next }
  unfolding row_by addenda_from
  row_line at e n h =
      let more : suc (addenda_ahead f (lines_from L m n)) ≡ addenda_ahead f (lines_from L m n) + 1 = omega arith in
      ap (λ (k : ℕ). record { lines = k; next = place_ahead L m at k }) (row-taken at e n h)
      ∙ ap₂ (λ (k p : ℕ). record { lines = k; next = p }) more (onward-line L one m at e n (addenda_ahead f (lines_from L m n)) h)

  -- no lines, no rows
  pub row-none-lines : (at : ℕ) → (row_by L f m at).lines ≡ 0 → lines_from L m at ≡ []
  row-none-lines at z = by (stands L one m f at)
    where
      some : (e n : ℕ) → found_at L m at ≡ Line e n → ⊥
      some e n h = omega (arith, z, ap (λ (r : LineRun). r.lines) (row_line at e n h))

      by : Stands L one m f at → lines_from L m at ≡ []
      by (nothing e b) = e
      by (carrying e n h t b) = absurd (some e n h)
      by (beginning e n h t b) = absurd (some e n h)

  -- a row that begins at a place is the first from there on, and the others come behind its lines
  pub record FirstHere (at : ℕ) : Type 0 where
    pub rows : places_from L f m at ≡ record { start = at; lines = (row_by L f m at).lines } ∷ places_from L f m (row_by L f m at).next
    pub none : addenda_ahead f (lines_from L m (row_by L f m at).next) ≡ 0

  pub row-begins : (at : ℕ) → addenda_ahead f (lines_from L m at) ≡ 0 → ((row_by L f m at).lines ≡ 0 → ⊥) → FirstHere at
  unfolding addenda_from
  row-begins at head some = by (stands L one m f at)
    where
      by : Stands L one m f at → FirstHere at
      by (nothing e b) = absurd (some (ap (λ (r : LineRun). r.lines) (row-none at e)))
      by (carrying e n h t b) =
          absurd (omega (arith, head, ap (addenda_ahead f) (lines-line L one m at e n h), ahead_more f (text_to L one m at e) (lines_from L m n) t))
      by (beginning e n h t b) =
          let a = addenda_ahead f (lines_from L m n) in
          let row = row_line at e n h in
          let there = behind a n refl in
          let taken : suc a ≡ (row_by L f m at).lines = omega (arith, ap (λ (r : LineRun). r.lines) row) in
          let next : place_ahead L m n a ≡ (row_by L f m at).next = sym (ap (λ (r : LineRun). r.next) row) in
          record {
            rows =
                places-begun at e n h t
                ∙ ap₂ {C = List RowPlace} (λ (k : ℕ) (r : List RowPlace). record { start = at; lines = k } ∷ r) taken
                (sym there.rows ∙ ap (places_from L f m) next);
            none = ap (λ (p : ℕ). addenda_ahead f (lines_from L m p)) (sym next) ∙ there.none;
          }

-- the row that is sought, `left` rows on from the place `at`, where no addendum stands
pub record Seeking (L : Limits) (m : List ℕ) (row at left : ℕ) : Type 0 where
  pub head : addenda_ahead (named_field m) (lines_from L m at) ≡ 0
  pub rest : get_or (no_row_place ∷ places_from L (named_field m) m at) left no_row_place ≡ place_of_row L m row

module _ (L : Limits) (one : 1 ≤ L.line) (m : List ℕ) (row : ℕ) where
  abbrev f : ℕ
  f = named_field m

  pub seeking_begins : Seeking L m row (addenda_from L f m 0).next row
  unfolding addenda_from place_of_row row_places
  seeking_begins =
      let there = behind L one f m (addenda_ahead f (lines_from L m 0)) 0 refl in
      record {
        head = there.none;
        rest = ap (λ (r : List RowPlace). get_or (no_row_place ∷ r) row no_row_place) there.rows;
      }

  -- there is no row 0, and no row any more where no line is
  pub seeking_zero : row ≡ 0 → no_row_place ≡ place_of_row L m row
  unfolding place_of_row
  seeking_zero z = sym (ap (λ (n : ℕ). get_or (no_row_place ∷ row_places L m) n no_row_place) z)

  pub seeking_none : (at left : ℕ) → Seeking L m row at left → lines_from L m at ≡ [] → no_row_place ≡ place_of_row L m row
  seeking_none at zero s e = s.rest
  seeking_none at (suc left) s e = sym (ap (λ (r : List RowPlace). get_or r left no_row_place) (places-none L one f m at e)) ∙ s.rest

  -- it is this one
  seeking_here : (at : ℕ) → Seeking L m row at 1 → ((row_by L f m at).lines ≡ 0 → ⊥)
      → record { start = at; lines = (row_by L f m at).lines } ≡ place_of_row L m row
  seeking_here at s some =
      sym (ap (λ (r : List RowPlace). get_or r 0 no_row_place) (row-begins L one f m at s.head some).rows) ∙ s.rest

  -- it is a later one
  seeking_on : (at left : ℕ) → Seeking L m row at left → ((row_by L f m at).lines ≡ 0 → ⊥) → 1 < left → Seeking L m row (row_by L f m at).next (left - 1)
  seeking_on at zero s some h = absurd (omega arith)
  seeking_on at (suc zero) s some h = absurd (omega arith)
  seeking_on at (suc (suc left)) s some h =
      let b = row-begins L one f m at s.head some in
      let fewer : suc (suc left) - 1 ≡ suc left = omega arith in
      record {
        head = b.none;
        rest =
            ap (λ (k : ℕ). get_or (no_row_place ∷ places_from L f m (row_by L f m at).next) k no_row_place) fewer
            ∙ sym (ap (λ (r : List RowPlace). get_or r (suc left) no_row_place) b.rows)
            ∙ s.rest;
      }

  -- the same by the row that was found here, by the message's own field separator
  module _ {separator : ℕ} (named : separator ≡ f) (at : ℕ) {run : LineRun} (found : (run ≡ row_by L separator m at) × (1 ≤ run.lines)) where
    its_run : run ≡ row_by L f m at
    its_run = found.0 ∙ ap (λ (k : ℕ). row_by L k m at) named

    some : (row_by L f m at).lines ≡ 0 → ⊥
    some z = omega (arith, z, found.1, ap (λ (r : LineRun). r.lines) its_run)

    pub row_reached : Seeking L m row at 1 → record { start = at; lines = run.lines } ≡ place_of_row L m row
    row_reached s =
        ap {B = RowPlace} (λ (r : LineRun). record { start = at; lines = r.lines }) its_run ∙ seeking_here at s some

    pub row_passed : (left : ℕ) → Seeking L m row at left → 1 < left → Seeking L m row run.next (left - 1)
    row_passed left s more =
        subst (λ (r : LineRun). Seeking L m row r.next (left - 1)) (sym its_run) (seeking_on at left s some more)
