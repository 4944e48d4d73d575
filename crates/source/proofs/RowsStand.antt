-- Where the rows of a message stand (rules E1 to E3): the promises of specs/Promises, along the rows.
-- Assumes nothing.
use mathlib.Core.Bool.{false}
use mathlib.Core.List.{List, [], ◌∷◌, ◌++◌, map}
use mathlib.Core.Logic.{◌↔◌, ◌⊎◌, inl, inr}
use mathlib.Core.Path.{◌≡◌, refl, sym, ap, ap₂, ◌∙◌, subst, subst⁻¹}
use Prim.Native.Nat.{ℕ, zero, suc, ◌+◌, ◌-◌, ◌≤◌, ◌<◌}
use native.Mathlib.Omega.{arith}
use lib.ListN.{length, get_or, take, length-append}
use lib.Seq.{take-append_seam, take-append-add}
use Rattle.laws.specs.Lists.{count, concat}
use Rattle.laws.specs.Every.{All, none, also}
use Rattle.laws.proofs.Cases.{less_or_not}
use Rattle.laws.proofs.Tests.{never_both}
use Rattle.form.specs.declared.limits.Limits.{Limits}
use Rattle.line.specs.Joining.{addendum, joined}
use Rattle.source.specs.Places.{named_field, addenda_ahead, lines_from, places_from, row_places, no_row_place, place_of_row}
use Rattle.source.specs.Positions.{line_ends, position_behind, position_of, blank_ends, blank_before}
use Rattle.source.specs.Promises.{lines_taken, lines_before, first_line, AgreeUpTo, NoneCarried, RowsStand, shown_line, blank_lines, RowsShown}
use Rattle.source.specs.declared.row.RowPlace.{RowPlace}
use Rattle.source.proofs.BlankLines.{lines_step}
use Rattle.source.proofs.Rowed.{OneRow, one-row, NoRow, RowHere, Rowed, over, then, rowed}

module _ (L : Limits) (some : 1 ≤ L.line) (f : ℕ) (m : List ℕ) where
  -- row i from the place `at` on, counted from 0; and how many lines stand between
  abbrev nth : ℕ → ℕ → RowPlace
  nth at i = get_or (places_from L f m at) i no_row_place

  abbrev between : ℕ → ℕ → ℕ
  between at p = length (lines_from L m at) - length (lines_from L m p)

  -- the first row and the others, where the rows go on at `next`
  module _ {at next : ℕ} {ls : List (List ℕ)} {s : List ℕ} (h : RowHere L some f m at next ls s) where
    nth_first : nth at 0 ≡ record { start = at; lines = length ls }
    nth_first = ap (λ (r : List RowPlace). get_or r 0 no_row_place) h.places

    nth_later : (i : ℕ) → nth at (suc i) ≡ nth next i
    nth_later i = ap (λ (r : List RowPlace). get_or r (suc i) no_row_place) h.places

    start_first : (nth at 0).start ≡ at
    start_first = ap (λ (r : RowPlace). r.start) nth_first

    start-later : (i : ℕ) → (nth at (suc i)).start ≡ (nth next i).start
    start-later i = ap (λ (r : RowPlace). r.start) (nth_later i)

    fewer : (i : ℕ) → suc i < length (places_from L f m at) → i < length (places_from L f m next)
    fewer i less = omega (arith, less, ap length h.places)

    -- the lines of the first row are its own
    own_lines : lines_taken L m (record { start = at; lines = length ls }) ≡ ls
    unfolding lines_taken
    own_lines = ap (take (length ls)) h.lines ∙ take-append_seam ls (lines_from L m next)

    lines-length : length (lines_from L m at) ≡ length ls + length (lines_from L m next)
    lines-length = ap length h.lines ∙ length-append ls (lines_from L m next)

    many : 1 ≤ length ls
    many = by h.shape
      where
        by : {t : List (List ℕ)} → OneRow f t → 1 ≤ length t
        by (one-row l more t w) = omega arith

    before-first : between at (nth at 0).start ≡ 0
    before-first = omega (arith, ap (λ (t : ℕ). length (lines_from L m t)) start_first)

  no_place : {at : ℕ} → NoRow L some f m at → (i : ℕ) → i < length (places_from L f m at) → ⊥
  no_place n i less = omega (arith, less, ap length n.places)

  places-counted : {at : ℕ} → Rowed L some f m at → length (places_from L f m at) ≡ length (joined f (lines_from L m at))
  unfolding joined
  places-counted (over n) = ap length n.places ∙ sym (ap (λ (ls : List (List ℕ)). length (joined f ls)) n.lines)
  places-counted (then h r) = ap length h.places ∙ ap suc (places-counted r) ∙ sym (ap length h.segments)

  all_lines : {at : ℕ} → Rowed L some f m at → concat (map (lines_taken L m) (places_from L f m at)) ≡ lines_from L m at
  unfolding concat
  all_lines (over n) = ap (λ (r : List RowPlace). concat (map (lines_taken L m) r)) n.places ∙ sym n.lines
  all_lines (then h r) =
      ap (λ (t : List RowPlace). concat (map (lines_taken L m) t)) h.places
      ∙ ap₂ {C = List (List ℕ)} (λ (a b : List (List ℕ)). a ++ b) (own_lines h) (all_lines r)
      ∙ sym h.lines

  row-segment : {at : ℕ} → Rowed L some f m at → (i : ℕ) → i < length (places_from L f m at)
      → joined f (lines_taken L m (nth at i)) ≡ get_or (joined f (lines_from L m at)) i [] ∷ []
  row-segment (over n) i less = absurd (no_place n i less)
  row-segment (then h r) zero less =
      ap (λ (t : RowPlace). joined f (lines_taken L m t)) (nth_first h)
      ∙ ap (joined f) (own_lines h)
      ∙ h.own
      ∙ sym (ap {B = List (List ℕ)} (λ (t : List (List ℕ)). get_or t 0 [] ∷ []) h.segments)
  row-segment (then h r) (suc i) less =
      ap (λ (t : RowPlace). joined f (lines_taken L m t)) (nth_later h i)
      ∙ row-segment r i (fewer h i less)
      ∙ sym (ap {B = List (List ℕ)} (λ (t : List (List ℕ)). get_or t (suc i) [] ∷ []) h.segments)

  row-some : {at : ℕ} → Rowed L some f m at → (i : ℕ) → i < length (places_from L f m at) → 1 ≤ (nth at i).lines
  row-some (over n) i less = absurd (no_place n i less)
  row-some (then h r) zero less = omega (arith, ap (λ (t : RowPlace). t.lines) (nth_first h), many h)
  row-some (then h r) (suc i) less = omega (arith, ap (λ (t : RowPlace). t.lines) (nth_later h i), row-some r i (fewer h i less))

  -- all rows stand at the place or behind it, and each behind those before it
  row-from_on : {at : ℕ} → Rowed L some f m at → (i : ℕ) → i < length (places_from L f m at) → at ≤ (nth at i).start
  row-from_on (over n) i less = absurd (no_place n i less)
  row-from_on (then h r) zero less = omega (arith, start_first h)
  row-from_on (then h r) (suc i) less = omega (arith, start-later h i, row-from_on r i (fewer h i less), h.later)

  row-rises : {at : ℕ} → Rowed L some f m at → (i k : ℕ) → i < k → k < length (places_from L f m at) → (nth at i).start < (nth at k).start
  row-rises (over n) i k up less = absurd (no_place n k less)
  row-rises (then h r) i zero up less = absurd (omega arith)
  row-rises (then h r) zero (suc k) up less = omega (arith, start_first h, start-later h k, row-from_on r k (fewer h k less), h.later)
  row-rises (then h r) (suc i) (suc k) up less =
      omega (arith, start-later h i, start-later h k, row-rises r i k (omega arith) (fewer h k less))

  row_first : {at : ℕ} → Rowed L some f m at → 0 < length (places_from L f m at) → (nth at 0).start ≡ at
  row_first (over n) less = absurd (no_place n 0 less)
  row_first (then h r) less = start_first h

  -- a row has no more lines from it on than the place
  row_fewer : {at : ℕ} → Rowed L some f m at → (i : ℕ) → i < length (places_from L f m at)
      → length (lines_from L m (nth at i).start) ≤ length (lines_from L m at)
  row_fewer (over n) i less = absurd (no_place n i less)
  row_fewer (then h r) zero less = omega (arith, ap (λ (t : ℕ). length (lines_from L m t)) (start_first h))
  row_fewer (then h r) (suc i) less =
      omega (arith, ap (λ (t : ℕ). length (lines_from L m t)) (start-later h i), row_fewer r i (fewer h i less), lines-length h)

  -- the lines before a later row: those of the first row, and those between
  before-later : {at next : ℕ} {ls : List (List ℕ)} {s : List ℕ} (h : RowHere L some f m at next ls s) → Rowed L some f m next
      → (i : ℕ) → suc i < length (places_from L f m at) → between at (nth at (suc i)).start ≡ length ls + between next (nth next i).start
  before-later h r i less =
      omega (arith, ap (λ (t : ℕ). length (lines_from L m t)) (start-later h i), row_fewer r i (fewer h i less), lines-length h)

  -- before row i stand i lines at least
  before-least : {at : ℕ} → Rowed L some f m at → (i : ℕ) → i < length (places_from L f m at) → i ≤ between at (nth at i).start
  before-least (over n) i less = absurd (no_place n i less)
  before-least (then h r) zero less = omega arith
  before-least (then h r) (suc i) less = omega (arith, before-later h r i less, many h, before-least r i (fewer h i less))

  -- that none of some lines is an addendum
  abbrev NoAddendum : List (List ℕ) → Type 0
  NoAddendum ls = All (λ (l : List ℕ). addendum f l ≡ false) ls

  -- a row of one line, and one whose lines are no addenda
  alone : {ls : List (List ℕ)} (rest : List (List ℕ)) → OneRow f ls → length ls ≡ 1 → NoAddendum rest → NoAddendum (ls ++ rest)
  alone rest (one-row l [] t w) e all = also t all
  alone rest (one-row l (a ∷ more) t w) e all = absurd (omega (arith, e))

  pub record Alone (ls rest : List (List ℕ)) : Type 0 where
    pub single : length ls ≡ 1
    pub others : NoAddendum rest

  not_carried : {ls : List (List ℕ)} (rest : List (List ℕ)) → OneRow f ls → NoAddendum (ls ++ rest) → Alone ls rest
  not_carried rest (one-row l [] t w) (also h all) = record { single = refl; others = all }
  not_carried rest (one-row l (a ∷ more) t (also w ws)) (also h (also g all)) = absurd (never_both w g)

  -- the lines before a later row, as a list
  before-lines : {at next : ℕ} {ls : List (List ℕ)} {s : List ℕ} (h : RowHere L some f m at next ls s) → Rowed L some f m next
      → (i : ℕ) → suc i < length (places_from L f m at)
      → take (between at (nth at (suc i)).start) (lines_from L m at) ≡ ls ++ take (between next (nth next i).start) (lines_from L m next)
  before-lines {at} {next} {ls} h r i less =
      ap₂ {C = List (List ℕ)} (λ (n : ℕ) (t : List (List ℕ)). take n t) (before-later h r i less) h.lines
      ∙ take-append-add ls (lines_from L m next) (between next (nth next i).start)

  -- as many lines as rows before a row: none of them is an addendum
  agree_forth : {at : ℕ} → Rowed L some f m at → (i : ℕ) → i < length (places_from L f m at) → between at (nth at i).start ≡ i
      → NoAddendum (take (between at (nth at i).start) (lines_from L m at))
  agree_forth (over n) i less same = absurd (no_place n i less)
  agree_forth {at} (then h r) zero less same = subst⁻¹ (λ (n : ℕ). NoAddendum (take n (lines_from L m at))) same none
  agree_forth {at} (then {next = next} h r) (suc i) less same =
      let later = before-later h r i less in
      let least = before-least r i (fewer h i less) in
      let ih = agree_forth r i (fewer h i less) (omega (arith, later, same, least, many h)) in
      subst⁻¹ NoAddendum (before-lines h r i less)
      (alone (take (between next (nth next i).start) (lines_from L m next)) h.shape (omega (arith, later, same, least, many h)) ih)

  -- and where none is, there are as many before each row up to it
  agree_back : {at : ℕ} → Rowed L some f m at → (i : ℕ) → i < length (places_from L f m at)
      → NoAddendum (take (between at (nth at i).start) (lines_from L m at)) → (k : ℕ) → k ≤ i → between at (nth at k).start ≡ k
  agree_back (over n) i less all k up = absurd (no_place n i less)
  agree_back (then h r) i less all zero up = before-first h
  agree_back (then h r) zero less all (suc k) up = absurd (omega arith)
  agree_back (then {next = next} h r) (suc i) less all (suc k) up =
      let apart = not_carried (take (between next (nth next i).start) (lines_from L m next)) h.shape (subst NoAddendum (before-lines h r i less) all) in
      let ih = agree_back r i (fewer h i less) apart.others k (omega arith) in
      omega (arith, before-later h r k (omega arith), apart.single, ih)

  -- the CRs before a row: the lines before it, and the blank ones
  row_ends : {at : ℕ} → Rowed L some f m at → (i : ℕ) → i < length (places_from L f m at)
      → line_ends (take (nth at i).start m) + blank_before m at ≡ between at (nth at i).start + (line_ends (take at m) + blank_before m (nth at i).start)
  row_ends (over n) i less = absurd (no_place n i less)
  row_ends (then h r) zero less =
      omega (arith, ap (λ (p : ℕ). line_ends (take p m)) (start_first h), ap (blank_before m) (start_first h), before-first h)
  row_ends {at} (then {next = next} {ls = ls} h r) (suc i) less =
      omega (
        arith,
        ap (λ (p : ℕ). line_ends (take p m)) (start-later h i),
        ap (blank_before m) (start-later h i),
        before-later h r i less,
        row_ends r i (fewer h i less),
        lines_step L some m (length ls) at (omega (arith, lines-length h)),
        ap (λ (p : ℕ). line_ends (take p m)) h.goes,
        ap (blank_before m) h.goes,
      )

-- The rows of a message whose first line is no addendum.
module _ (L : Limits) (some : 1 ≤ L.line) (m : List ℕ) (head : addenda_ahead (named_field m) (lines_from L m 0) ≡ 0) where
  along : Rowed L some (named_field m) m 0
  along = rowed L some (named_field m) m (length (lines_from L m 0)) 0 (omega arith) head

  -- a row's number and its place in the list
  at_number : (row : ℕ) → 1 ≤ row → place_of_row L m row ≡ get_or (row_places L m) (row - 1) no_row_place
  unfolding place_of_row
  at_number zero h = absurd (omega arith)
  at_number (suc i) h = ap (λ (k : ℕ). get_or (row_places L m) k no_row_place) (let e : i ≡ suc i - 1 = omega arith in e)

  past_all : (l : List RowPlace) (i : ℕ) → length l ≤ i → get_or l i no_row_place ≡ no_row_place
  past_all [] i h = refl
  past_all (a ∷ l) zero h = absurd (omega arith)
  past_all (a ∷ l) (suc i) h = past_all l i (omega arith)

  no_number : (row : ℕ) → (row ≡ 0) ⊎ (length (row_places L m) < row) → place_of_row L m row ≡ no_row_place
  unfolding place_of_row
  no_number zero h = refl
  no_number (suc i) (inl e) = absurd (omega arith)
  no_number (suc i) (inr h) = past_all (row_places L m) i (omega arith)

  starts_at : (row : ℕ) → 1 ≤ row → (place_of_row L m row).start ≡ (get_or (row_places L m) (row - 1) no_row_place).start
  starts_at row h = ap (λ (r : RowPlace). r.start) (at_number row h)

  -- the lines before a row, by its place in the list
  before-number : (row : ℕ) → 1 ≤ row → lines_before L m (place_of_row L m row).start ≡ lines_before L m (get_or (row_places L m) (row - 1) no_row_place).start
  before-number row h = ap (lines_before L m) (starts_at row h)

  first_at_0 : (place_of_row L m 1).start ≡ 0
  unfolding place_of_row row_places
  first_at_0 = by (less_or_not 0 (length (row_places L m)))
    where
      by : (0 < length (row_places L m)) ⊎ (length (row_places L m) ≤ 0) → (place_of_row L m 1).start ≡ 0
      by (inl some-row) = row_first L some (named_field m) m along some-row
      by (inr no_row) = ap (λ (r : RowPlace). r.start) (past_all (row_places L m) 0 no_row)

  none-carried : (row : ℕ) → 1 ≤ row → row ≤ length (row_places L m) → first_line L m row ≡ row → NoneCarried L m row
  unfolding row_places lines_before
  none-carried row least most same =
      subst⁻¹ (λ (n : ℕ). All (λ (l : List ℕ). addendum (named_field m) l ≡ false) (take n (lines_from L m 0))) (before-number row least)
      (agree_forth L some (named_field m) m along (row - 1) (omega arith) (omega (arith, same, before-number row least)))

  agree_exactly : (row : ℕ) → 1 ≤ row → row ≤ length (row_places L m) → AgreeUpTo L m row ↔ NoneCarried L m row
  unfolding row_places lines_before
  agree_exactly row least most =
      let i = row - 1 in
      let here : i < length (row_places L m) = omega arith in (
        λ agree. none-carried row least most (agree row least (omega arith)),
        λ none-carried r low up.
            let same = agree_back L some (named_field m) m along i here
            (subst (λ (n : ℕ). All (λ (l : List ℕ). addendum (named_field m) l ≡ false) (take n (lines_from L m 0))) (before-number row least) none-carried)
            (r - 1) (omega arith) in
            omega (arith, same, before-number r low),
      )

  pub rows-stand : RowsStand L m
  unfolding row_places
  rows-stand =
      record {
        counted = places-counted L some (named_field m) m along;
        some = λ row least most. omega (arith, ap (λ (r : RowPlace). r.lines) (at_number row least), row-some L some (named_field m) m along (row - 1) (omega arith));
        none = no_number;
        first = first_at_0;
        rises = λ row later least up most.
            omega (arith, starts_at row least, starts_at later (omega arith), row-rises L some (named_field m) m along (row - 1) (later - 1) (omega arith) (omega arith));
        segment = λ row least most.
            ap (λ (r : RowPlace). joined (named_field m) (lines_taken L m r)) (at_number row least)
            ∙ row-segment L some (named_field m) m along (row - 1) (omega arith);
        all = all_lines L some (named_field m) m along;
        agree = agree_exactly;
      }

  shown-line : (row : ℕ) → 1 ≤ row → row ≤ length (row_places L m) → shown_line L m row ≡ first_line L m row + blank_lines L m row
  unfolding row_places lines_before position_of position_behind line_ends count blank_ends
  shown-line row least most =
      let e = row_ends L some (named_field m) m along (row - 1) (omega arith) in
      let at = starts_at row least in
      omega (arith, e, ap (λ (p : ℕ). line_ends (take p m)) at, ap (blank_before m) at, before-number row least)

  -- a row's number is at most that of its first line
  row_at_most : (row : ℕ) → 1 ≤ row → row ≤ length (row_places L m) → row ≤ first_line L m row
  unfolding row_places lines_before
  row_at_most row least most =
      omega (arith, before-least L some (named_field m) m along (row - 1) (omega arith), before-number row least)

  pub rows-shown : RowsShown L m
  rows-shown =
      record {
        shown = shown-line;
        shown-agree = λ row least most. (
          λ same.
              let split = shown-line row least most in
              let low = row_at_most row least most in
              (none-carried row least most (omega (arith, same, split, low)), omega (arith, same, split, low)),
          λ both. omega (arith, shown-line row least most, both.1, (agree_exactly row least most).1 both.0 row least (omega arith)),
        );
      }
