-- Noting kinds and starts: one kind more is noted where its segment is closed. A line that is no addendum carries nothing on, so the open
-- segment is then whole: its letters spell the kind of the message's own segment. Such a line begins the next segment, and its place is noted.
-- Assumes nothing.
use mathlib.Core.Bool.{false}
use mathlib.Core.List.{List, [], ◌∷◌, ◌++◌, append-nil}
use mathlib.Core.Logic.{⊎_elim}
use mathlib.Core.Path.{◌≡◌, refl, sym, ap, ap₂, ◌∙◌, subst⁻¹}
use Prim.Native.Nat.{ℕ, suc, ◌+◌, ◌-◌, ◌≤◌, ◌<◌}
use native.Mathlib.Omega.{arith}
use lib.ListN.{length, get_or, set, drop, length-append, length-set}
use lib.Seq.{get_or-set_same, get_or-set_other}
use Rattle.laws.proofs.Cases.{equal_or_not}
use Rattle.form.specs.declared.limits.Limits.{Limits}
use Rattle.form.specs.declared.separators.Separators.{Separators}
use Rattle.line.specs.Lines.{Lines, walk_from, texts}
use Rattle.line.specs.Finding.{found_at}
use Rattle.line.specs.inner.Ending.{handed_out}
use Rattle.line.specs.Joining.{addendum, carried, joined}
use Rattle.line.specs.declared.finder.Found.{Found}
use Rattle.line.specs.declared.finder.Found.TheVariants.{Line, End, Fault}
use Rattle.line.proofs.Joining.{addendum_front, carried-segment}
use Rattle.line.proofs.Handing.{walk_from-found}
use Rattle.table.specs.Leaves.{kind_of_segment}
use Rattle.table.specs.Rows.{kinds_of}
use Rattle.read.specs.declared.survey.Survey.{Survey}
use Rattle.read.specs.Sound.{segments_in}
use Rattle.read.specs.inner.Noting.{Noted, BeginsAt, Started}
use Rattle.read.specs.inner.Seeing.{nothing_seen, kind_seen}
use Rattle.read.specs.inner.Starting.{text_from}
use Rattle.read.specs.inner.Underway.{Underway, LineBegun}
use Rattle.read.proofs.Starting.{begins-segment}
use Rattle.read.proofs.Seeing.{kind-seen}

module _ (ps : Separators) (segments : List (List ℕ)) where
  -- of no segment nothing need be noted
  pub none-noted : (n : ℕ) (kinds : List ℕ) → n ≡ 0 → Noted ps segments n kinds
  none-noted n kinds e i h room = absurd (omega arith)

  -- and what is noted of some is noted of fewer
  pub fewer_noted : (n fewer : ℕ) (kinds : List ℕ) → fewer ≤ n → Noted ps segments n kinds → Noted ps segments fewer kinds
  fewer_noted n fewer kinds less w i h room = w i (omega arith) room

  -- the next kind stored where it belongs; past the buffer's end the store does nothing, and nothing is asked
  pub one-more-noted : (n kind : ℕ) (kinds : List ℕ) → kind ≡ get_or (kinds_of ps segments) n 0 → Noted ps segments n kinds
      → Noted ps segments (suc n) (set kinds n kind)
  one-more-noted n kind kinds e before i h room =
      let inside : i < length kinds = omega (arith, length-set kinds n kind) in
      ⊎_elim
      (λ (here : i ≡ n).
      ap (λ (j : ℕ). get_or (set kinds n kind) j 0) here
      ∙ get_or-set_same kinds n kind 0 (omega arith)
      ∙ e
      ∙ ap (λ (j : ℕ). get_or (kinds_of ps segments) j 0) (sym here))
      (λ (other : i ≡ n → ⊥). get_or-set_other kinds n i kind 0 other ∙ before i (omega arith) inside)
      (equal_or_not i n)

module _ (L : Limits) (ps : Separators) (m : List ℕ) where
  -- of the first segment no start is noted
  pub none_started : (n : ℕ) (starts : List ℕ) → n ≤ 1 → Started L ps m n starts
  none_started n starts few r one h room = absurd (omega arith)

  -- and what is noted of some is noted of fewer
  pub fewer_started : (n fewer : ℕ) (starts : List ℕ) → fewer ≤ n → Started L ps m n starts → Started L ps m fewer starts
  fewer_started n fewer starts less w r one h room = w r one (omega arith) room

  -- the next start stored where it belongs, as with kinds
  pub one-more_started : (n at : ℕ) (starts : List ℕ) → BeginsAt L ps m n at → Started L ps m n starts → Started L ps m (suc n) (set starts n at)
  one-more_started n at starts begins before r one h room =
      let inside : r < length starts = omega (arith, length-set starts n at) in
      ⊎_elim
      (λ (here : r ≡ n).
      subst⁻¹ (BeginsAt L ps m r) (ap (λ (j : ℕ). get_or (set starts n at) j 0) here ∙ get_or-set_same starts n at 0 (omega arith))
      (subst⁻¹ (λ (j : ℕ). BeginsAt L ps m j at) here begins))
      (λ (other : r ≡ n → ⊥). subst⁻¹ (BeginsAt L ps m r) (get_or-set_other starts n r at 0 other) (before r one (omega arith) inside))
      (equal_or_not r n)

-- the kind of a segment behind some others
kind-behind : (ps : Separators) (done : List (List ℕ)) (last : List ℕ) (more : List (List ℕ))
    → get_or (kinds_of ps (done ++ last ∷ more)) (length done) 0 ≡ kind_of_segment ps last
unfolding kinds_of
kind-behind ps [] last more = refl
kind-behind ps (h ∷ ds) last more = kind-behind ps ds last more

-- so it is found where it was noted
pub kind-found : (ps : Separators) {segments : List (List ℕ)} (kinds : List ℕ) → Noted ps segments (length segments) kinds → length segments ≤ length kinds
    → (before : List (List ℕ)) (s : List ℕ) (after : List (List ℕ)) → segments ≡ before ++ (s ∷ after)
    → get_or kinds (length before) 0 ≡ kind_of_segment ps s
kind-found ps {segments} kinds noted all before s after whole =
    let within : length before < length segments = omega (arith, ap length whole, length-append before (s ∷ after)) in
    noted (length before) within (omega arith)
    ∙ ap (λ (ss : List (List ℕ)). get_or (kinds_of ps ss) (length before) 0) whole
    ∙ kind-behind ps before s after

-- a line that is no addendum carries nothing on, nor does the end or a fault
module _ (L : Limits) (f : ℕ) (m : List ℕ) (at : ℕ) (other : addendum f (drop at m) ≡ false) where
  nothing_handed : (found : Found) → carried f (texts (handed_out L m at found)) ≡ []
  unfolding handed_out texts carried
  nothing_handed (Line e n) =
      carried-segment f _ (texts (walk_from L n (drop n m))) (addendum_front f (e - at) (drop at m) other)
  nothing_handed End = refl
  nothing_handed (Fault n p) = refl

  pub nothing-carried : 1 ≤ L.line → carried f (texts (walk_from L at (drop at m))) ≡ []
  nothing-carried one =
      ap (λ (ls : Lines). carried f (texts ls)) (walk_from-found m at L one) ∙ nothing_handed (found_at L m at)

-- the first pass has come to a line: the kinds of the closed segments and the starts of those begun are noted, in buffers that keep their
-- lengths
pub record Noting (L : Limits) (ps : Separators) (m : List ℕ) (at from : ℕ) (s : Survey) (kinds₀ kinds starts₀ starts : List ℕ) : Type 0 where
  pub begun : LineBegun L ps m at from s
  pub noted : Noted ps (segments_in L ps m) (s.segments - 1) kinds
  pub kept : length kinds ≡ length kinds₀
  pub started : Started L ps m s.segments starts
  pub starts_kept : length starts ≡ length starts₀

module _ {L : Limits} {ps : Separators} {m : List ℕ} where
  -- before the first line no segment is closed
  pub noting_begins : {s : Survey} (kinds starts : List ℕ) → s ≡ nothing_seen → LineBegun L ps m 0 7 nothing_seen
      → Noting L ps m 0 7 s kinds kinds starts starts
  noting_begins {s} kinds starts e w =
      record {
        begun = subst⁻¹ (LineBegun L ps m 0 7) e w;
        noted = none-noted ps (segments_in L ps m) (s.segments - 1) kinds (omega (arith, ap (λ (t : Survey). t.segments) e));
        kept = refl;
        started = none_started L ps m s.segments starts (omega (arith, ap (λ (t : Survey). t.segments) e));
        starts_kept = refl;
      }

  -- a line has been seen, which joined to the open segment
  module _ {at from next : ℕ} {s more : Survey} {kinds₀ kinds starts₀ starts : List ℕ}
      (w : Noting L ps m at from s kinds₀ kinds starts₀ starts) (on : Underway L ps m next more) (same : more.segments ≡ s.segments) where
    still_noted : Noted ps (segments_in L ps m) (more.segments - 1) kinds
    still_noted = fewer_noted ps (segments_in L ps m) (s.segments - 1) (more.segments - 1) kinds (omega (arith, same)) w.noted

    pub still_started : {n : ℕ} → n ≡ more.segments → Started L ps m n starts
    still_started {n} count = fewer_started L ps m s.segments n starts (omega (arith, same, count)) w.started

    -- and the next one is an addendum
    pub noting_goes_on : {then : ℕ} → LineBegun L ps m next then more → Noting L ps m next then more kinds₀ kinds starts₀ starts
    noting_goes_on begun =
        record { begun = begun; noted = still_noted; kept = w.kept; started = still_started refl; starts_kept = w.starts_kept }

    -- or it is none, and the open segment is closed: it is whole, so the kind noted is that of the message's segment
    module _ {then : ℕ} {kinds' : List ℕ} (is-then : then ≡ text_from ps.field next (drop next m)) (here : then ≡ next) (wide : 7 ≤ L.line)
        (stored : kinds' ≡ set kinds (more.segments - 1) (kind_seen more)) where
      no_addendum : addendum ps.field (drop next m) ≡ false
      no_addendum = begins-segment ps.field next (drop next m) (sym is-then ∙ here)

      whole-segments : segments_in L ps m ≡ on.done ++ on.last ∷ joined ps.field (texts (walk_from L next (drop next m)))
      whole-segments =
          let rest : List (List ℕ) = joined ps.field (texts (walk_from L next (drop next m))) in
          on.left.joins
          ∙ ap (λ (t : List ℕ). on.done ++ (on.last ++ t) ∷ rest) (nothing-carried L ps.field m next no_addendum (omega (arith, wide)))
          ∙ ap (λ (t : List ℕ). on.done ++ t ∷ rest) (append-nil on.last)

      kind-closed : kind_seen more ≡ get_or (kinds_of ps (segments_in L ps m)) (more.segments - 1) 0
      kind-closed =
          let place : more.segments - 1 ≡ length on.done = omega (arith, on.seen.count) in
          kind-seen ps more on.done on.last on.seen
          ∙ sym (kind-behind ps on.done on.last (joined ps.field (texts (walk_from L next (drop next m)))))
          ∙ sym (ap₂ (λ (ss : List (List ℕ)) (i : ℕ). get_or (kinds_of ps ss) i 0) whole-segments place)

      pub closed-noted : {n : ℕ} → n ≡ more.segments → Noted ps (segments_in L ps m) n kinds'
      closed-noted {n} count =
          subst⁻¹ (Noted ps (segments_in L ps m) n) stored
          (fewer_noted ps (segments_in L ps m) (suc (more.segments - 1)) n (set kinds (more.segments - 1) (kind_seen more))
          (omega (arith, count, on.seen.count))
          (one-more-noted ps (segments_in L ps m) (more.segments - 1) (kind_seen more) kinds kind-closed still_noted))

      pub closed-kept : length kinds' ≡ length kinds₀
      closed-kept = ap length stored ∙ length-set kinds (more.segments - 1) (kind_seen more) ∙ w.kept

      -- the line that comes begins the segment with the next number
      begins_here : next < length m → BeginsAt L ps m more.segments next
      begins_here some =
          record { done = on.done; last = on.last; number = sym on.seen.count; left = on.left; some = some; begins = no_addendum }

      -- its place stored where it belongs
      module _ {n : ℕ} (count : n ≡ more.segments + 1) {starts' : List ℕ} (put : starts' ≡ set starts (n - 1) next) where
        put_here : starts' ≡ set starts more.segments next
        put_here = let place : n - 1 ≡ more.segments = omega (arith, count) in put ∙ ap (λ (i : ℕ). set starts i next) place

        next-kept : length starts' ≡ length starts₀
        next-kept = ap length put_here ∙ length-set starts more.segments next ∙ w.starts_kept

        next_started : next < length m → Started L ps m n starts'
        next_started some =
            subst⁻¹ (Started L ps m n) put_here
            (fewer_started L ps m (suc more.segments) n (set starts more.segments next) (omega (arith, count))
            (one-more_started L ps m more.segments next starts (begins_here some) (still_started refl)))

      -- the next segment begun, and its start noted
      pub noting_next : {opened : Survey} → opened.segments ≡ more.segments + 1 → {starts' : List ℕ}
          → starts' ≡ set starts (opened.segments - 1) next → LineBegun L ps m next then opened
          → Noting L ps m next then opened kinds₀ kinds' starts₀ starts'
      noting_next {opened} count put begun =
          record {
            begun = begun;
            noted =
                fewer_noted ps (segments_in L ps m) more.segments (opened.segments - 1) kinds' (omega (arith, count))
                (closed-noted refl);
            kept = closed-kept;
            started = next_started count put begun.some;
            starts_kept = next-kept count put;
          }
