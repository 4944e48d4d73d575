-- What a scan sees of a line: its step equations, the invariant of its loop, and, at the class table of some separators, that it goes up
-- to the first byte below 32 and counts the splitting separators before it.
-- Assumes nothing.
use mathlib.Core.Bool.{true, false}
use mathlib.Core.List.{List, [], ◌∷◌}
use mathlib.Core.Logic.{⊎_elim}
use mathlib.Core.Path.{◌≡◌, refl, sym, ap, ◌∙◌}
use Prim.Native.Nat.{ℕ, suc, ◌+◌, ◌-◌, ◌≤◌, ◌<◌}
use native.Mathlib.Omega.{arith}
use lib.ListN.{length, get_or, take, drop}
use Rattle.laws.specs.Lists.{among, count}
use Rattle.laws.specs.Every.{none, also}
use Rattle.laws.proofs.Cases.{less_or_not}
use Rattle.laws.proofs.Tests.{either}
use Rattle.laws.proofs.Parts.{part_cons, part_none}
use Rattle.form.specs.declared.separators.Separators.{Separators}
use Rattle.form.specs.Header.{splitting}
use Rattle.laws.proofs.Bytes.{Bytes}
use Rattle.line.specs.Finding.{text_run}
use Rattle.line.proofs.Runs.{text_run_nil, text_run-more, text_run_stop}
use Rattle.table.specs.inner.Classes.{class_table}
use Rattle.table.proofs.Classes.{class_at, class_low, class_high, sort_within, sort_none, sort_some}
use Rattle.read.specs.inner.Scanning.{run, marks}
use Rattle.read.proofs.PlainLaws.{run_more, run-ended, marks-text, marks-more, marks-ended}

-- of no bytes
pub run_none : (class : List ℕ) → run class [] ≡ 0
unfolding run
run_none class = refl

pub marks-none : (class : List ℕ) → marks class [] ≡ 0
unfolding marks
marks-none class = refl

-- the part of m from i up to stop
abbrev pub between : List ℕ → ℕ → ℕ → List ℕ
between m i stop = take (stop - i) (drop i m)

-- a scan that began at `from` and has come to i: what is left from there gives the whole
pub record Scanning (class m : List ℕ) (from stop i separators : ℕ) : Type 0 where
  pub ahead : i ≤ stop
  pub few : separators ≤ i
  pub end : i + run class (between m i stop) ≡ from + run class (between m from stop)
  pub marked : separators + marks class (between m i stop) ≡ marks class (between m from stop)

-- a scan that has come to its end
pub record Scans (class m : List ℕ) (from stop i separators : ℕ) : Type 0 where
  pub end : i ≡ from + run class (between m from stop)
  pub marked : separators ≡ marks class (between m from stop)

module _ {class m : List ℕ} {from stop : ℕ} where
  module _ {i separators : ℕ} (w : Scanning class m from stop i separators) where
    -- at its stop
    pub scan_ends : stop ≤ i → Scans class m from stop i separators
    scan_ends h =
        let run-left : run class (between m i stop) ≡ 0 = ap (run class) (part_none m i stop h) ∙ run_none class in
        let marks-left : marks class (between m i stop) ≡ 0 = ap (marks class) (part_none m i stop h) ∙ marks-none class in
        record { end = omega (arith, w.end); marked = omega (arith, w.marked) }

    -- at the byte b, which stands at i
    module _ {b : ℕ} (low : i < stop) (inside : stop ≤ length m) (at : b ≡ get_or m i 0) where
      turn : between m i stop ≡ b ∷ between m (i + 1) stop
      turn = part_cons m i stop 0 low inside ∙ ap (λ (a : ℕ). a ∷ between m (i + 1) stop) (sym at)

      pub scan_stops : get_or class b 0 ≡ 5 → Scans class m from stop i separators
      scan_stops h =
          let run-left : run class (between m i stop) ≡ 0 = ap (run class) turn ∙ run-ended class b (between m (i + 1) stop) h in
          let marks-left : marks class (between m i stop) ≡ 0 = ap (marks class) turn ∙ marks-ended class b (between m (i + 1) stop) h in
          record { end = omega (arith, w.end); marked = omega (arith, w.marked) }

      pub scan_marks : (get_or class b 0 ≡ 5 → ⊥) → 0 < get_or class b 0 → Scanning class m from stop (i + 1) (separators + 1)
      scan_marks h z =
          let run-left : run class (between m i stop) ≡ suc (run class (between m (i + 1) stop))
          = ap (run class) turn ∙ run_more class b (between m (i + 1) stop) h in
          let marks-left : marks class (between m i stop) ≡ suc (marks class (between m (i + 1) stop))
          = ap (marks class) turn ∙ marks-more class b (between m (i + 1) stop) h (λ e. omega arith) in
          record { ahead = omega arith; few = omega (arith, w.few); end = omega (arith, w.end); marked = omega (arith, w.marked) }

      pub scan_passes : get_or class b 0 ≤ 0 → Scanning class m from stop (i + 1) separators
      scan_passes z =
          let run-left : run class (between m i stop) ≡ suc (run class (between m (i + 1) stop))
          = ap (run class) turn ∙ run_more class b (between m (i + 1) stop) (λ e. omega arith) in
          let marks-left : marks class (between m i stop) ≡ marks class (between m (i + 1) stop)
          = ap (marks class) turn ∙ marks-text class b (between m (i + 1) stop) (omega arith) in
          record { ahead = omega arith; few = omega (arith, w.few); end = omega (arith, w.end); marked = omega (arith, w.marked) }

module _ (ps : Separators) where
  stops_low : (b : ℕ) → b < 256 → b < 32 → get_or (class_table ps) b 0 ≡ 5
  stops_low b h l = class_at ps b h ∙ class_low ps b l

  goes_on : (b : ℕ) → b < 256 → 32 ≤ b → get_or (class_table ps) b 0 ≡ 5 → ⊥
  goes_on b h t e = omega (arith, class_at ps b h, class_high ps b t, sort_within ps b)

  -- a run is the text that a list begins with: it goes up to the first byte below 32
  pub run-text : (s : List ℕ) → Bytes s → run (class_table ps) s ≡ text_run s
  run-text [] none = run_none (class_table ps) ∙ sym text_run_nil
  run-text (b ∷ s) (also h w) =
      ⊎_elim
      (λ (l : b < 32). run-ended (class_table ps) b s (stops_low b h l) ∙ sym (text_run_stop b s l))
      (λ (t : 32 ≤ b). run_more (class_table ps) b s (goes_on b h t) ∙ ap suc (run-text s w) ∙ sym (text_run-more b s t))
      (less_or_not b 32)

  -- one more byte of the run is a mark exactly where it is a splitting separator
  marks-next : (b : ℕ) (s : List ℕ) → b < 256 → 32 ≤ b
      → marks (class_table ps) s ≡ count (among (splitting ps)) (take (run (class_table ps) s) s)
      → marks (class_table ps) (b ∷ s) ≡ count (among (splitting ps)) (b ∷ take (run (class_table ps) s) s)
  unfolding count
  marks-next b s h t rest =
      ⊎_elim
      (λ (y : among (splitting ps) b ≡ true).
      marks-more (class_table ps) b s (goes_on b h t) (λ e. omega (arith, class_at ps b h, class_high ps b t, sort_some ps b y))
      ∙ ap suc rest
      ∙ rw (y, count))
      (λ (f : among (splitting ps) b ≡ false).
      marks-text (class_table ps) b s (class_at ps b h ∙ class_high ps b t ∙ sort_none ps b f)
      ∙ rest
      ∙ rw (f, count))
      (either (among (splitting ps) b))

  -- the marks of a list are the splitting separators of its run
  pub marks_separators : (s : List ℕ) → Bytes s → marks (class_table ps) s ≡ count (among (splitting ps)) (take (run (class_table ps) s) s)
  unfolding count
  marks_separators [] none = marks-none (class_table ps) ∙ ap (λ (n : ℕ). count (among (splitting ps)) (take n [])) (sym (run_none (class_table ps)))
  marks_separators (b ∷ s) (also h w) =
      ⊎_elim
      (λ (l : b < 32). marks-ended (class_table ps) b s (stops_low b h l)
      ∙ ap (λ (n : ℕ). count (among (splitting ps)) (take n (b ∷ s))) (sym (run-ended (class_table ps) b s (stops_low b h l))))
      (λ (t : 32 ≤ b). marks-next b s h t (marks_separators s w)
      ∙ ap (λ (n : ℕ). count (among (splitting ps)) (take n (b ∷ s))) (sym (run_more (class_table ps) b s (goes_on b h t))))
      (less_or_not b 32)
