-- Lines and the segments they join to (A1 to A3): there are as many segments as lines that are no addenda, and a line that is cut in two by
-- an addendum joins to the same segments, where its first part is an addendum just where the line is.
-- Assumes nothing.
use mathlib.Core.Bool.{true, false, not}
use mathlib.Core.List.{List, [], ◌∷◌, ◌++◌, append_assoc}
use mathlib.Core.Path.{◌≡◌, refl, sym, ap, ap₂, ◌∙◌}
use Prim.Native.Nat.{ℕ, suc, ◌≤◌}
use native.Mathlib.Omega.{arith}
use lib.ListN.{length, drop}
use lib.Seq.{drop-append-le}
use Rattle.laws.specs.Lists.{count}
use Rattle.laws.proofs.Lists.{count_pass, count_fail}
use Rattle.laws.proofs.Tests.{Tested, passed, failed, tested}
use Rattle.line.specs.Joining.{letter_a, addendum, carried, joined}
use Rattle.line.proofs.Joining.{addendum-line, addendum-long, carried-addendum, carried-segment, joined-addendum, joined-segment}

module _ (f : ℕ) where
  -- an addendum begins no segment, and every other line begins one
  pub segments-counted : (ls : List (List ℕ)) → length (joined f ls) ≡ count (λ (l : List ℕ). not (addendum f l)) ls
  unfolding joined count
  segments-counted [] = refl
  segments-counted (l ∷ ls) = go (tested (addendum f l)) (segments-counted ls)
    where
      go : Tested (addendum f l) → length (joined f ls) ≡ count (λ (k : List ℕ). not (addendum f k)) ls
          → length (joined f (l ∷ ls)) ≡ count (λ (k : List ℕ). not (addendum f k)) (l ∷ ls)
      go (passed h) ih =
          ap length (joined-addendum f l ls h) ∙ ih ∙ sym (count_fail (λ (k : List ℕ). not (addendum f k)) l ls (rw h))
      go (failed h) ih =
          ap length (joined-segment f l ls h) ∙ ap suc ih ∙ sym (count_pass (λ (k : List ℕ). not (addendum f k)) l ls (rw h))

  -- two ways to write lines on which joining cannot tell them apart
  pub record JoinAlike (y z : List (List ℕ)) : Type 0 where
    pub segments : joined f y ≡ joined f z
    pub carries : carried f y ≡ carried f z

  -- nor can it after one line more, or after any lines
  line_alike : (l : List ℕ) {y z : List (List ℕ)} → JoinAlike y z → JoinAlike (l ∷ y) (l ∷ z)
  unfolding joined carried
  line_alike l w =
      record {
        segments =
            ap₂ {C = List (List ℕ)}
            (λ (c : List ℕ) (ss : List (List ℕ)). elim (addendum f l) [ true ↦ ss | false ↦ (l ++ c) ∷ ss ]) w.carries w.segments;
        carries = ap {B = List ℕ} (λ (c : List ℕ). elim (addendum f l) [ true ↦ drop 2 l ++ c | false ↦ [] ]) w.carries;
      }

  pub lines_alike : (x : List (List ℕ)) {y z : List (List ℕ)} → JoinAlike y z → JoinAlike (x ++ y) (x ++ z)
  lines_alike [] w = w
  lines_alike (l ∷ x) w = line_alike l (lines_alike x w)

  -- a line, and the same line cut in two by an addendum: the first part must be an addendum where the line is one
  pub cut_alike : (l m : List ℕ) (y : List (List ℕ)) → addendum f l ≡ addendum f (l ++ m)
      → JoinAlike ((l ++ m) ∷ y) (l ∷ (letter_a ∷ f ∷ m) ∷ y)
  cut_alike l m y same = go (tested (addendum f l))
    where
      on : carried f ((letter_a ∷ f ∷ m) ∷ y) ≡ m ++ carried f y
      on = carried-addendum f (letter_a ∷ f ∷ m) y (addendum-line f m)

      past : joined f ((letter_a ∷ f ∷ m) ∷ y) ≡ joined f y
      past = joined-addendum f (letter_a ∷ f ∷ m) y (addendum-line f m)

      go : Tested (addendum f l) → JoinAlike ((l ++ m) ∷ y) (l ∷ (letter_a ∷ f ∷ m) ∷ y)
      go (passed h) =
          let long = addendum-long f l h in
          record {
            segments =
                joined-addendum f (l ++ m) y (sym same ∙ h) ∙ sym past ∙ sym (joined-addendum f l ((letter_a ∷ f ∷ m) ∷ y) h);
            carries =
                carried-addendum f (l ++ m) y (sym same ∙ h)
                ∙ ap (λ (s : List ℕ). s ++ carried f y) (drop-append-le 2 l m long)
                ∙ append_assoc (drop 2 l) m (carried f y)
                ∙ ap (λ (s : List ℕ). drop 2 l ++ s) (sym on)
                ∙ sym (carried-addendum f l ((letter_a ∷ f ∷ m) ∷ y) h);
          }
      go (failed h) =
          record {
            segments =
                joined-segment f (l ++ m) y (sym same ∙ h)
                ∙ ap₂ (λ (s : List ℕ) (ss : List (List ℕ)). s ∷ ss)
                (append_assoc l m (carried f y) ∙ ap (λ (s : List ℕ). l ++ s) (sym on)) (sym past)
                ∙ sym (joined-segment f l ((letter_a ∷ f ∷ m) ∷ y) h);
            carries = carried-segment f (l ++ m) y (sym same ∙ h) ∙ sym (carried-segment f l ((letter_a ∷ f ∷ m) ∷ y) h);
          }

  pub addendum-put_in : (x : List (List ℕ)) (l m : List ℕ) (y : List (List ℕ)) → addendum f l ≡ addendum f (l ++ m)
      → joined f (x ++ (l ++ m) ∷ y) ≡ joined f (x ++ l ∷ (letter_a ∷ f ∷ m) ∷ y)
  addendum-put_in x l m y same = (lines_alike x (cut_alike l m y same)).segments

  -- every first part of a line that is no addendum is none, and of an addendum every first part of two bytes or more is one
  pub segment_keeps : (l m : List ℕ) → addendum f (l ++ m) ≡ false → addendum f l ≡ addendum f (l ++ m)
  unfolding addendum
  segment_keeps [] m h = sym h
  segment_keeps (a ∷ []) m h = sym h
  segment_keeps (a ∷ b ∷ l) m h = refl

  pub long_part_keeps : (l m : List ℕ) → 2 ≤ length l → addendum f l ≡ addendum f (l ++ m)
  unfolding addendum
  long_part_keeps [] m h = absurd (omega arith)
  long_part_keeps (a ∷ []) m h = absurd (omega arith)
  long_part_keeps (a ∷ b ∷ l) m h = refl
