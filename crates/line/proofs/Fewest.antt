-- Fewest lines and bytes: among all lines that join to the same segments, the cut ones are fewest, and their bytes too.
-- Assumes nothing.
use mathlib.Core.Bool.{true, false}
use mathlib.Core.Path.{◌≡◌, refl}
use mathlib.Core.List.{List, [], ◌∷◌, ◌++◌}
use mathlib.Core.Logic.{◌⊎◌, inl, inr}
use Prim.Native.Nat.{ℕ, suc, ◌+◌, ◌-◌, ◌*◌, ◌≤◌}
use native.Mathlib.Nat.{suc-mul}
use native.Mathlib.Omega.{arith}
use lib.ListN.{length, drop, length-append, length-drop}
use Rattle.laws.specs.Every.{All, also}
use Rattle.laws.specs.Lists.{sum_of}
use Rattle.laws.proofs.Every.{all_from}
use Rattle.laws.proofs.Tests.{either}
use Rattle.form.specs.declared.limits.Limits.{Limits}
use Rattle.form.specs.Limits.{Lawful, line_count}
use Rattle.form.proofs.RoundedUp.{rounded_up-least, some_more, line_count-addenda}
use Rattle.line.specs.Joining.{addendum, carried, joined}
use Rattle.line.specs.Lines.{Lines, CR, inside, between, walk_from, walk, texts}
use Rattle.line.specs.Cutting.{cuts, unlines}
use Rattle.line.specs.inner.Sound.{SoundLine}
use Rattle.line.proofs.Joining.{addendum-long, carried-addendum, carried-segment, joined-addendum, joined-segment}
use Rattle.line.proofs.Cutting.{length-unlines, length-cuts, length-unlines-cuts}
use Rattle.line.proofs.Steps.{inside_nil, between_nil, walk_from_nil, inside_both, between_both, walk_from_both}
use Rattle.line.proofs.Walking.{texts-sound}

-- how many addenda some lines begin with
leading : ℕ → List (List ℕ) → ℕ
leading f [] = 0
leading f (l ∷ ls) = elim (addendum f l) [ true ↦ suc (leading f ls) | false ↦ 0 ]

leading-addendum : (f : ℕ) (l : List ℕ) (ls : List (List ℕ)) → addendum f l ≡ true → leading f (l ∷ ls) ≡ suc (leading f ls)
unfolding leading
leading-addendum f l ls h = rw (h, leading)

leading-segment : (f : ℕ) (l : List ℕ) (ls : List (List ℕ)) → addendum f l ≡ false → leading f (l ∷ ls) ≡ 0
unfolding leading
leading-segment f l ls h = rw (h, leading)

-- the lines of all segments, counted
total : Limits → List (List ℕ) → ℕ
total L ss = sum_of (λ (s : List ℕ). line_count L (length s)) ss

module _ (L : Limits) (lawful : Lawful L) (f : ℕ) where
  -- a first line and k addenda hold a segment that they join to
  few : (n k : ℕ) → n ≤ L.line + k * L.more → line_count L n ≤ suc k
  few n k fits =
      rw (line_count-addenda L lawful n)
      (omega (arith, rounded_up-least (n - L.line) L.more k (some_more L lawful) (omega arith)))

  -- each further line carries at most `more` bytes, so no lines that join to some segments are fewer than theirs, what the first addenda carry aside
  record Counted (ls : List (List ℕ)) : Type 0 where
    carries : length (carried f ls) ≤ leading f ls * L.more
    counts : total L (joined f ls) + leading f ls ≤ length ls

  counted : (ls : List (List ℕ)) → All (λ (l : List ℕ). length l ≤ L.line) ls → Counted ls
  unfolding carried joined leading total sum_of
  counted [] h = record { carries = omega arith; counts = omega arith }
  counted (l ∷ ls) (also h hs) = go (either (addendum f l)) (counted ls hs)
    where
      go : (addendum f l ≡ true) ⊎ (addendum f l ≡ false) → Counted ls → Counted (l ∷ ls)
      go (inl a) c =
          record {
            carries =
                rw (carried-addendum f l ls a, leading-addendum f l ls a)
                (omega (
                  arith,
                  length-append (drop 2 l) (carried f ls),
                  length-drop 2 l,
                  suc-mul (leading f ls) L.more,
                  lawful.addendum,
                ));
            counts = rw (joined-addendum f l ls a, leading-addendum f l ls a) (omega arith);
          }
      go (inr a) c =
          record {
            carries = rw (carried-segment f l ls a) (omega arith);
            counts =
                rw (joined-segment f l ls a, leading-segment f l ls a)
                (omega (
                  arith,
                  few (length (l ++ carried f ls)) (leading f ls) (omega (arith, length-append l (carried f ls))),
                ));
          }

  -- the segments' bytes are the lines' bytes without the `A` and separator of each addendum
  pub joined_bytes : (ls : List (List ℕ)) → sum_of length (joined f ls) + length (carried f ls) + 2 * length ls ≡ sum_of length ls + 2 * length (joined f ls)
  unfolding carried joined sum_of
  joined_bytes [] = refl
  joined_bytes (l ∷ ls) = go (either (addendum f l)) (joined_bytes ls)
    where
      go : (addendum f l ≡ true) ⊎ (addendum f l ≡ false)
          → sum_of length (joined f ls) + length (carried f ls) + 2 * length ls ≡ sum_of length ls + 2 * length (joined f ls)
          → sum_of length (joined f (l ∷ ls)) + length (carried f (l ∷ ls)) + 2 * length (l ∷ ls) ≡ sum_of length (l ∷ ls) + 2 * length (joined f (l ∷ ls))
      go (inl a) c =
          rw (carried-addendum f l ls a, joined-addendum f l ls a)
          (omega (arith, length-append (drop 2 l) (carried f ls), length-drop 2 l, addendum-long f l a))
      go (inr a) c =
          rw (carried-segment f l ls a, joined-segment f l ls a)
          (omega (arith, length-append l (carried f ls)))

  short-lines : (ls : List (List ℕ)) → All (SoundLine L) ls → All (λ (l : List ℕ). length l ≤ L.line) ls
  short-lines ls h = all_from (λ l s. s.short) h

  -- no sound lines that join to the segments are fewer
  pub least-lines : (segments ls : List (List ℕ)) → All (SoundLine L) ls → joined f ls ≡ segments → length (cuts L f segments) ≤ length ls
  unfolding total
  least-lines segments ls sound e =
      rw (← e, length-cuts L lawful f (joined f ls)) (omega (arith, (counted ls (short-lines ls sound)).counts))

  -- and none have fewer bytes
  pub least-bytes : (segments ls : List (List ℕ)) → All (SoundLine L) ls → joined f ls ≡ segments → length (unlines (cuts L f segments)) ≤ length (unlines ls)
  unfolding total
  least-bytes segments ls sound e =
      rw (← e)
      (omega (
        arith,
        length-unlines-cuts L lawful f (joined f ls),
        length-unlines ls,
        joined_bytes ls,
        (counted ls (short-lines ls sound)).counts,
      ))

-- a message has the bytes of its lines at least: their CRs are its own, and low bytes and what follows a fault only add to it
written : Lines → ℕ
written ls = length (unlines (texts ls))

module _ (L : Limits) where
  kept : (s : List ℕ) → ((at : ℕ) (t : List ℕ) → written (inside L at t s) ≤ length t + length s) × ((at : ℕ) → written (between L at s) ≤ length s)
  unfolding written texts unlines
  kept [] =
      ((λ at t. rw (inside_nil L at t) (omega arith)), (λ at. rw (between_nil L at) (omega arith)))
  kept (b ∷ s) = (
    (λ at t.
        inside_both L (λ (x y : Lines). written x ≤ length t + suc (length s)) at at b s s t
        (omega (arith, length-append t (CR ∷ unlines (texts (between L (suc at) s))), (kept s).1 (suc at)))
        (λ n h. omega arith)
        (λ text room. omega (arith, length-append t (b ∷ []), (kept s).0 (suc at) (t ++ (b ∷ []))))),
    (λ at.
        between_both L (λ (x y : Lines). written x ≤ suc (length s)) at at b s s
        (omega (arith, (kept s).1 (suc at)))
        (λ text. omega (arith, (kept s).0 (suc at) (b ∷ [])))),
  )

  pub unlines-texts : (at : ℕ) (m : List ℕ) → length (unlines (texts (walk_from L at m))) ≤ length m
  unfolding written texts unlines
  unlines-texts at [] = rw (walk_from_nil L at) (omega arith)
  unlines-texts at (b ∷ m) =
      walk_from_both L (λ (x y : Lines). written x ≤ suc (length m)) at at b m m
      (λ n h. omega arith)
      (λ text. omega (arith, (kept m).0 (suc at) (b ∷ [])))

-- So what is written for the segments of a message is no longer than the message: a table whose message passes the limit is read from none.
pub least-message : (L : Limits) → Lawful L → (f : ℕ) (segments : List (List ℕ)) (m : List ℕ) → joined f (texts (walk L m)) ≡ segments → length (unlines (cuts L f segments)) ≤ length m
unfolding walk
least-message L lawful f segments m e =
    omega (
      arith,
      least-bytes L lawful f segments (texts (walk_from L 0 m)) (texts-sound L (omega (arith, lawful.header)) 0 m) e,
      unlines-texts L 0 m,
    )
