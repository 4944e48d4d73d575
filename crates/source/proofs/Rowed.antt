-- A message's lines row by row: each row is a line that is no addendum and the addenda behind it, and then come the other rows.
-- Assumes nothing.
use mathlib.Core.Bool.{true, false}
use mathlib.Core.List.{List, [], ◌∷◌, ◌++◌}
use mathlib.Core.Logic.{◌⊎◌, inl, inr}
use mathlib.Core.Path.{◌≡◌, refl, sym, ap, ap₂, ◌∙◌, subst}
use Prim.Native.Nat.{ℕ, zero, suc, ◌+◌, ◌≤◌, ◌<◌}
use native.Mathlib.Omega.{arith}
use lib.ListN.{length, take, drop, length-drop, take-append-drop}
use lib.Seq.{length-take-le}
use Rattle.laws.specs.Every.{All, none, also}
use Rattle.laws.proofs.Cases.{equal_or_not}
use Rattle.laws.proofs.Tests.{Tested, passed, failed, tested}
use Rattle.form.specs.declared.limits.Limits.{Limits}
use Rattle.line.specs.Joining.{addendum, carried, joined}
use Rattle.line.specs.Finding.{found_at, next_of}
use Rattle.line.specs.declared.finder.Found.{Found}
use Rattle.line.specs.declared.finder.Found.TheVariants.{Line, End, Fault}
use Rattle.line.proofs.Joining.{carried-addendum, carried-segment, joined-addendum, joined-segment}
use Rattle.line.proofs.Handing.{line-within}
use Rattle.line.proofs.Finding.{next_of_line, next_of_end, next_of_fault}
use Rattle.source.specs.Places.{addenda_ahead, lines_from, place_ahead, places_from, row_by}
use Rattle.source.specs.inner.Going.{addenda_from}
use Rattle.source.specs.declared.row.RowPlace.{RowPlace}
use Rattle.source.specs.declared.row.LineRun.{LineRun}
use Rattle.source.proofs.Going.{text_to, lines-line, onward-line, ahead_more, ahead_none, Stands, nothing, carrying, beginning, stands}
use Rattle.source.proofs.Placing.{places-none, row-none, row-none-lines, row_line, row-begins}

-- the addenda that some lines begin with: what they carry, and that they join to nothing of their own
module _ (f : ℕ) where
  pub ahead_within : (ls : List (List ℕ)) → addenda_ahead f ls ≤ length ls
  unfolding addenda_ahead
  ahead_within [] = omega arith
  ahead_within (l ∷ ls) = by (tested (addendum f l)) (ahead_within ls)
    where
      by : Tested (addendum f l) → addenda_ahead f ls ≤ length ls → addenda_ahead f (l ∷ ls) ≤ suc (length ls)
      by (passed t) ih = omega (arith, ahead_more f l ls t, ih)
      by (failed t) ih = omega (arith, ahead_none f l ls t)

  pub ahead_carry : (ls : List (List ℕ)) → carried f (take (addenda_ahead f ls) ls) ≡ carried f ls
  unfolding addenda_ahead carried
  ahead_carry [] = refl
  ahead_carry (l ∷ ls) = by (tested (addendum f l)) (ahead_carry ls)
    where
      by : Tested (addendum f l) → carried f (take (addenda_ahead f ls) ls) ≡ carried f ls
          → carried f (take (addenda_ahead f (l ∷ ls)) (l ∷ ls)) ≡ carried f (l ∷ ls)
      by (passed t) ih =
          ap (λ (n : ℕ). carried f (take n (l ∷ ls))) (ahead_more f l ls t)
          ∙ carried-addendum f l (take (addenda_ahead f ls) ls) t
          ∙ ap (λ (r : List ℕ). drop 2 l ++ r) ih
          ∙ sym (carried-addendum f l ls t)
      by (failed t) ih = ap (λ (n : ℕ). carried f (take n (l ∷ ls))) (ahead_none f l ls t) ∙ sym (carried-segment f l ls t)

  pub ahead-joined : (ls : List (List ℕ)) → joined f (take (addenda_ahead f ls) ls) ≡ []
  unfolding addenda_ahead joined
  ahead-joined [] = refl
  ahead-joined (l ∷ ls) = by (tested (addendum f l)) (ahead-joined ls)
    where
      by : Tested (addendum f l) → joined f (take (addenda_ahead f ls) ls) ≡ [] → joined f (take (addenda_ahead f (l ∷ ls)) (l ∷ ls)) ≡ []
      by (passed t) ih =
          ap (λ (n : ℕ). joined f (take n (l ∷ ls))) (ahead_more f l ls t) ∙ joined-addendum f l (take (addenda_ahead f ls) ls) t ∙ ih
      by (failed t) ih = ap (λ (n : ℕ). joined f (take n (l ∷ ls))) (ahead_none f l ls t)

  -- what stands behind them joins to the same segments
  pub ahead-behind : (ls : List (List ℕ)) → joined f (drop (addenda_ahead f ls) ls) ≡ joined f ls
  unfolding addenda_ahead
  ahead-behind [] = refl
  ahead-behind (l ∷ ls) = by (tested (addendum f l)) (ahead-behind ls)
    where
      by : Tested (addendum f l) → joined f (drop (addenda_ahead f ls) ls) ≡ joined f ls → joined f (drop (addenda_ahead f (l ∷ ls)) (l ∷ ls)) ≡ joined f (l ∷ ls)
      by (passed t) ih = ap (λ (n : ℕ). joined f (drop n (l ∷ ls))) (ahead_more f l ls t) ∙ ih ∙ sym (joined-addendum f l ls t)
      by (failed t) ih = ap (λ (n : ℕ). joined f (drop n (l ∷ ls))) (ahead_none f l ls t)

-- the lines of a row: a first one that is no addendum, and addenda
pub data OneRow (f : ℕ) : List (List ℕ) → Type 0 where
  one-row : (l : List ℕ) (more : List (List ℕ)) → addendum f l ≡ false → All (λ (a : List ℕ). addendum f a ≡ true) more → OneRow f (l ∷ more)

module _ (f : ℕ) where
  ahead-all : (ls : List (List ℕ)) → All (λ (a : List ℕ). addendum f a ≡ true) (take (addenda_ahead f ls) ls)
  unfolding addenda_ahead
  ahead-all [] = none
  ahead-all (l ∷ ls) = by (tested (addendum f l)) (ahead-all ls)
    where
      by : Tested (addendum f l) → All (λ (a : List ℕ). addendum f a ≡ true) (take (addenda_ahead f ls) ls)
          → All (λ (a : List ℕ). addendum f a ≡ true) (take (addenda_ahead f (l ∷ ls)) (l ∷ ls))
      by (passed t) ih = subst (λ (n : ℕ). All (λ (a : List ℕ). addendum f a ≡ true) (take n (l ∷ ls))) (sym (ahead_more f l ls t)) (also t ih)
      by (failed t) ih = subst (λ (n : ℕ). All (λ (a : List ℕ). addendum f a ≡ true) (take n (l ∷ ls))) (sym (ahead_none f l ls t)) none

module _ (L : Limits) (some : 1 ≤ L.line) (f : ℕ) (m : List ℕ) where
  -- a walk never goes back
  next-later : (at : ℕ) → at ≤ next_of at (found_at L m at)
  next-later at = by (found_at L m at) refl
    where
      by : (r : Found) → found_at L m at ≡ r → at ≤ next_of at (found_at L m at)
      by (Line e n) h = omega (arith, next_of_line at (found_at L m at) e n h, line-within L m at e n h)
      by End h = omega (arith, next_of_end at (found_at L m at) h)
      by (Fault k p) h = omega (arith, next_of_fault at (found_at L m at) k p h)

  pub onward-later : (k at : ℕ) → at ≤ place_ahead L m at k
  unfolding place_ahead
  onward-later zero at = omega arith
  onward-later (suc k) at = omega (arith, next-later at, onward-later k (next_of at (found_at L m at)))

  -- the lines left after k of them
  pub lines-onward : (k at : ℕ) → k ≤ length (lines_from L m at) → lines_from L m (place_ahead L m at k) ≡ drop k (lines_from L m at)
  unfolding place_ahead
  lines-onward zero at h = refl
  lines-onward (suc k) at h = by (stands L some m f at) (λ n. lines-onward k n)
    where
      by_line : (e n : ℕ) → found_at L m at ≡ Line e n
          → (k ≤ length (lines_from L m n) → lines_from L m (place_ahead L m n k) ≡ drop k (lines_from L m n))
          → lines_from L m (place_ahead L m at (suc k)) ≡ drop (suc k) (lines_from L m at)
      by_line e n q ih =
          let lines = lines-line L some m at e n q in
          ap (lines_from L m) (onward-line L some m at e n k q)
          ∙ ih (omega (arith, h, ap length lines))
          ∙ sym (ap (drop (suc k)) lines)

      by : Stands L some m f at → ((n : ℕ) → k ≤ length (lines_from L m n) → lines_from L m (place_ahead L m n k) ≡ drop k (lines_from L m n))
          → lines_from L m (place_ahead L m at (suc k)) ≡ drop (suc k) (lines_from L m at)
      by (nothing e b) ih = absurd (omega (arith, h, ap length e))
      by (carrying e n q t b) ih = by_line e n q (ih n)
      by (beginning e n q t b) ih = by_line e n q (ih n)

  -- no line is left at a place
  pub record NoRow (at : ℕ) : Type 0 where
    pub lines : lines_from L m at ≡ []
    pub places : places_from L f m at ≡ []

  -- one row stands at a place, with the lines ls and the segment s, and the others come from `next` on
  pub record RowHere (at next : ℕ) (ls : List (List ℕ)) (s : List ℕ) : Type 0 where
    pub places : places_from L f m at ≡ record { start = at; lines = length ls } ∷ places_from L f m next
    pub lines : lines_from L m at ≡ ls ++ lines_from L m next
    pub segments : joined f (lines_from L m at) ≡ s ∷ joined f (lines_from L m next)
    pub own : joined f ls ≡ s ∷ []
    pub shape : OneRow f ls
    pub later : at < next
    pub goes : place_ahead L m at (length ls) ≡ next

  -- the rows from a place on, one after the other
  pub data Rowed : ℕ → Type 0 where
    over : {at : ℕ} → NoRow at → Rowed at
    then : {at next : ℕ} {ls : List (List ℕ)} {s : List ℕ} → RowHere at next ls s → Rowed next → Rowed at

  run-lines : (at e n : ℕ) → found_at L m at ≡ Line e n → (row_by L f m at).lines ≡ addenda_ahead f (lines_from L m n) + 1
  unfolding addenda_from
  run-lines at e n h = ap (λ (r : LineRun). r.lines) (row_line L some f m at e n h)

  run-next : (at e n : ℕ) → found_at L m at ≡ Line e n → (row_by L f m at).next ≡ place_ahead L m n (addenda_ahead f (lines_from L m n))
  unfolding addenda_from
  run-next at e n h = ap (λ (r : LineRun). r.next) (row_line L some f m at e n h)

  -- where no addendum stands, the rows from a place on are so
  row_here : (at : ℕ) → ((row_by L f m at).lines ≡ 0 → ⊥) → addenda_ahead f (lines_from L m at) ≡ 0
      → ((n : ℕ) → length (lines_from L m n) < length (lines_from L m at) → addenda_ahead f (lines_from L m n) ≡ 0 → Rowed n) → Rowed at
  row_here at lines head later = by (stands L some m f at)
    where
      by : Stands L some m f at → Rowed at
      by (nothing e b) = absurd (lines (ap (λ (r : LineRun). r.lines) (row-none L some f m at e)))
      by (carrying e n h t b) =
          absurd (omega (arith, head, ap (addenda_ahead f) (lines-line L some m at e n h), ahead_more f (text_to L some m at e) (lines_from L m n) t))
      by (beginning e n h t b) =
          let l = text_to L some m at e in
          let rest = lines_from L m n in
          let a = addenda_ahead f rest in
          let front = take a rest in
          let begins = row-begins L some f m at head lines in
          let next = (row_by L f m at).next in
          let there : place_ahead L m n a ≡ next = sym (run-next at e n h) in
          let left : drop a rest ≡ lines_from L m next = sym (lines-onward a n (ahead_within f rest)) ∙ ap (lines_from L m) there in
          let whole = lines-line L some m at e n h in
          let many : (row_by L f m at).lines ≡ length (l ∷ front)
          = omega (arith, run-lines at e n h, length-take-le a rest (ahead_within f rest)) in
          then {next = next} {ls = l ∷ front} {s = l ++ carried f rest}
          (record {
            places = begins.rows ∙ ap {B = List RowPlace} (λ (k : ℕ). record { start = at; lines = k } ∷ places_from L f m next) many;
            lines =
                whole
                ∙ ap {B = List (List ℕ)} (λ (r : List (List ℕ)). l ∷ r) (sym (take-append-drop a rest) ∙ ap (λ (r : List (List ℕ)). front ++ r) left);
            segments =
                ap (joined f) whole ∙ joined-segment f l rest t
                ∙ ap {B = List (List ℕ)} (λ (r : List (List ℕ)). (l ++ carried f rest) ∷ r) (sym (ahead-behind f rest) ∙ ap (joined f) left);
            own =
                joined-segment f l front t
                ∙ ap₂ {C = List (List ℕ)} (λ (c : List ℕ) (r : List (List ℕ)). (l ++ c) ∷ r) (ahead_carry f rest) (ahead-joined f rest);
            shape = one-row l front t (ahead-all f rest);
            later = omega (arith, line-within L m at e n h, onward-later a n, there);
            goes = ap (λ (k : ℕ). place_ahead L m at (suc k)) (length-take-le a rest (ahead_within f rest)) ∙ onward-line L some m at e n a h ∙ there;
          })
          (later next (omega (arith, ap length whole, sym (ap length left), length-drop a rest)) begins.none)

  no_lines : (ls : List (List ℕ)) → length ls ≤ 0 → ls ≡ []
  no_lines [] h = refl
  no_lines (l ∷ ls) h = absurd (omega arith)

  nothing_left : (at : ℕ) → lines_from L m at ≡ [] → Rowed at
  nothing_left at e = over (record { lines = e; places = places-none L some f m at e })

  pub rowed : (k at : ℕ) → length (lines_from L m at) ≤ k → addenda_ahead f (lines_from L m at) ≡ 0 → Rowed at
  rowed zero at short head = nothing_left at (no_lines (lines_from L m at) short)
  rowed (suc k) at short head = by (equal_or_not (row_by L f m at).lines 0) (λ n. rowed k n)
    where
      by : ((row_by L f m at).lines ≡ 0) ⊎ ((row_by L f m at).lines ≡ 0 → ⊥)
          → ((n : ℕ) → length (lines_from L m n) ≤ k → addenda_ahead f (lines_from L m n) ≡ 0 → Rowed n) → Rowed at
      by (inl z) ih = nothing_left at (row-none-lines L some f m at z)
      by (inr lines) ih = row_here at lines head (λ n less. ih n (omega arith))
