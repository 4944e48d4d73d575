-- Going from line to line: what is found at a place tells the lines from there on, and the place that comes next; addenda one after the other.
-- Assumes nothing.
use mathlib.Core.Bool.{true, false}
use mathlib.Core.List.{List, [], ◌∷◌}
use Rattle.std.specs.Prelude.{Some, None}
use mathlib.Core.Path.{◌≡◌, refl, sym, ap, ap₂, ◌∙◌, subst}
use Prim.Native.Nat.{ℕ, suc, ◌+◌, ◌-◌, ◌≤◌, ◌<◌}
use native.Mathlib.Omega.{arith}
use lib.Dec.{lit≤}
use lib.ListN.{length, take, drop}
use Rattle.laws.proofs.Tests.{Tested, passed, failed, tested}
use Rattle.form.specs.declared.limits.Limits.{Limits}
use Rattle.form.specs.Forms.{small_form}
use Rattle.line.specs.Lines.{texts}
use Rattle.line.specs.Joining.{addendum}
use Rattle.line.specs.Finding.{found_at}
use Rattle.line.specs.inner.Ending.{handed_out}
use Rattle.line.specs.declared.finder.Found.{Found}
use Rattle.line.specs.declared.finder.Found.TheVariants.{Line, End, Fault}
use Rattle.line.proofs.Handing.{walk_from-found, line-within}
use Rattle.line.proofs.Finding.{next_of_line}
use Rattle.source.specs.Places.{addenda_ahead, lines_from, place_ahead}
use Rattle.source.specs.inner.Going.{behind_addendum, addenda_from}
use Rattle.source.specs.declared.row.LineRun.{LineRun}

-- a line of the form has room for a byte
pub one : 1 ≤ small_form.line
one = lit≤ tt

-- how many addenda lines begin with, by the first of them
module _ (f : ℕ) where
  pub ahead_more : (l : List ℕ) (ls : List (List ℕ)) → addendum f l ≡ true → addenda_ahead f (l ∷ ls) ≡ suc (addenda_ahead f ls)
  unfolding addenda_ahead
  ahead_more l ls h = rw (h, addenda_ahead)

  pub ahead_none : (l : List ℕ) (ls : List (List ℕ)) → addendum f l ≡ false → addenda_ahead f (l ∷ ls) ≡ 0
  unfolding addenda_ahead
  ahead_none l ls h = rw (h, addenda_ahead)

-- the step over a line, by whether it is an addendum
module _ {r : Found} (f : ℕ) (m : List ℕ) (at e n : ℕ) (h : r ≡ Line e n) where
  pub behind_carrying : addendum f (take (e - at) (drop at m)) ≡ true → behind_addendum f m at r ≡ Some n
  unfolding behind_addendum
  behind_carrying t = ap (behind_addendum f m at) h ∙ rw (t, behind_addendum)

  pub behind_beginning : addendum f (take (e - at) (drop at m)) ≡ false → behind_addendum f m at r ≡ None
  unfolding behind_addendum
  behind_beginning t = ap (behind_addendum f m at) h ∙ rw (t, behind_addendum)

-- no step over what is no line
pub behind_no_line : (r : Found) (f : ℕ) (m : List ℕ) (at : ℕ) → ((e n : ℕ) → r ≡ Line e n → ⊥) → behind_addendum f m at r ≡ None
unfolding behind_addendum
behind_no_line (Line e n) f m at none = absurd (none e n refl)
behind_no_line End f m at none = refl
behind_no_line (Fault k p) f m at none = refl

module _ (L : Limits) (some : 1 ≤ L.line) (m : List ℕ) where
  -- the text of a line that is found at `at` and ends at e
  abbrev pub text_to : ℕ → ℕ → List ℕ
  text_to at e = take (e - at) (drop at m)

  lines_handed : (at : ℕ) (r : Found) → found_at L m at ≡ r → lines_from L m at ≡ texts (handed_out L m at r)
  unfolding lines_from
  lines_handed at r h = ap texts (walk_from-found m at L some ∙ ap (handed_out L m at) h)

  pub lines-line : (at e n : ℕ) → found_at L m at ≡ Line e n → lines_from L m at ≡ text_to at e ∷ lines_from L m n
  unfolding lines_from handed_out texts
  lines-line at e n h = lines_handed at (Line e n) h

  pub lines_end : (at : ℕ) → found_at L m at ≡ End → lines_from L m at ≡ []
  unfolding handed_out texts
  lines_end at h = lines_handed at End h

  pub lines-fault : (at k p : ℕ) → found_at L m at ≡ Fault k p → lines_from L m at ≡ []
  unfolding handed_out texts
  lines-fault at k p h = lines_handed at (Fault k p) h

  pub onward-line : (at e n k : ℕ) → found_at L m at ≡ Line e n → place_ahead L m at (suc k) ≡ place_ahead L m n k
  unfolding place_ahead
  onward-line at e n k h = ap (λ (p : ℕ). place_ahead L m p k) (next_of_line at (found_at L m at) e n h)

  -- What stands at a place: no line, an addendum, or the first line of a row.
  pub data Stands (f : ℕ) (at : ℕ) : Type 0 where
    nothing : lines_from L m at ≡ [] → behind_addendum f m at (found_at L m at) ≡ None → Stands f at
    carrying : (e n : ℕ) → found_at L m at ≡ Line e n → addendum f (text_to at e) ≡ true → behind_addendum f m at (found_at L m at) ≡ Some n → Stands f at
    beginning : (e n : ℕ) → found_at L m at ≡ Line e n → addendum f (text_to at e) ≡ false → behind_addendum f m at (found_at L m at) ≡ None → Stands f at

  pub stands : (f at : ℕ) → Stands f at
  unfolding behind_addendum
  stands f at = by (found_at L m at) refl
    where
      by_line : (e n : ℕ) → found_at L m at ≡ Line e n → Tested (addendum f (text_to at e)) → Stands f at
      by_line e n h (passed t) = carrying e n h t (behind_carrying f m at e n h t)
      by_line e n h (failed t) = beginning e n h t (behind_beginning f m at e n h t)

      by : (r : Found) → found_at L m at ≡ r → Stands f at
      by (Line e n) h = by_line e n h (tested (addendum f (text_to at e)))
      by End h = nothing (lines_end at h) (ap (behind_addendum f m at) h)
      by (Fault k p) h = nothing (lines-fault at k p h) (ap (behind_addendum f m at) h)

  -- where no line is found none stands
  pub lines_none : (at : ℕ) → ((e n : ℕ) → found_at L m at ≡ Line e n → ⊥) → lines_from L m at ≡ []
  lines_none at none = by (stands 0 at)
    where
      by : Stands 0 at → lines_from L m at ≡ []
      by (nothing e b) = e
      by (carrying e n h t b) = absurd (none e n h)
      by (beginning e n h t b) = absurd (none e n h)

  -- an addendum at `at`, behind which comes n: one addendum more than there are from n on
  pub record AddendumHere (f at n : ℕ) : Type 0 where
    pub ahead : addenda_ahead f (lines_from L m at) ≡ suc (addenda_ahead f (lines_from L m n))
    pub goes : (k : ℕ) → place_ahead L m at (suc k) ≡ place_ahead L m n k
    pub later : at < n
    pub within : n ≤ length m

  carries : (f at e n : ℕ) → found_at L m at ≡ Line e n → addendum f (text_to at e) ≡ true → AddendumHere f at n
  carries f at e n h t =
      let lies = line-within L m at e n h in
      record {
        ahead = ap (addenda_ahead f) (lines-line at e n h) ∙ ahead_more f (text_to at e) (lines_from L m n) t;
        goes = λ k. onward-line at e n k h;
        later = omega arith;
        within = lies.2;
      }

  none_ahead : (f at : ℕ) → lines_from L m at ≡ [] → addenda_ahead f (lines_from L m at) ≡ 0
  unfolding addenda_ahead
  none_ahead f at e = ap (addenda_ahead f) e

  -- the addenda at a place and those from n on, as the loop comes to them
  pub record Ahead (f at lines n : ℕ) : Type 0 where
    pub count : lines + addenda_ahead f (lines_from L m n) ≡ addenda_ahead f (lines_from L m at)
    pub place : place_ahead L m n (addenda_ahead f (lines_from L m n)) ≡ place_ahead L m at (addenda_ahead f (lines_from L m at))
    pub few : lines ≤ n
    pub short : lines ≤ length m

  pub ahead-begins : (f at : ℕ) → Ahead f at 0 at
  ahead-begins f at = record { count = omega arith; place = refl; few = omega arith; short = omega arith }

  pub ahead_goes : (f at lines n n' : ℕ) → Ahead f at lines n → AddendumHere f n n' → Ahead f at (lines + 1) n'
  ahead_goes f at lines n n' a h =
      record {
        count = omega (arith, a.count, h.ahead);
        place = sym (h.goes (addenda_ahead f (lines_from L m n'))) ∙ ap (place_ahead L m n) (sym h.ahead) ∙ a.place;
        few = omega (arith, a.few, h.later);
        short = omega (arith, a.few, h.later, h.within);
      }

  -- behind the last one stands no more, and what has passed is all
  pub ahead_stops : (f at lines n : ℕ) → Ahead f at lines n → addenda_ahead f (lines_from L m n) ≡ 0
      → (record { lines = lines; next = n } ≡ addenda_from L f m at) × (lines ≤ length m)
  unfolding addenda_from place_ahead
  ahead_stops f at lines n a none =
      let all : lines ≡ addenda_ahead f (lines_from L m at) = omega (arith, a.count, none) in
      let there : n ≡ place_ahead L m at (addenda_ahead f (lines_from L m at)) = sym (ap (place_ahead L m n) none) ∙ a.place in
      (ap₂ {C = LineRun} (λ (k p : ℕ). record { lines = k; next = p }) all there, a.short)

  -- a step that finds no addendum tells that none stands there, and one that finds one that one does
  pub step_none : (f n : ℕ) → behind_addendum f m n (found_at L m n) ≡ None → addenda_ahead f (lines_from L m n) ≡ 0
  step_none f n e = by (stands f n)
    where
      by : Stands f n → addenda_ahead f (lines_from L m n) ≡ 0
      by (nothing none b) = none_ahead f n none
      by (carrying end next h t b) = absurd (cc (e, b))
      by (beginning end next h t b) = ap (addenda_ahead f) (lines-line n end next h) ∙ ahead_none f (text_to n end) (lines_from L m next) t

  pub step_some : (f n r : ℕ) → behind_addendum f m n (found_at L m n) ≡ Some r → AddendumHere f n r
  step_some f n r e = by (stands f n)
    where
      by : Stands f n → AddendumHere f n r
      by (nothing none b) = absurd (cc (e, b))
      by (carrying end next h t b) = let same : next ≡ r = cc (e, b) in subst (AddendumHere f n) same (carries f n end next h t)
      by (beginning end next h t b) = absurd (cc (e, b))
