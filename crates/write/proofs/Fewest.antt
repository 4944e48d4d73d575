-- Fewest bytes and lines (W1): of all messages that read to a table ours has the fewest of both; no line is too long (L3); and how many there
-- are, by the formulas (W2).
-- Assumes nothing.
use mathlib.Core.List.{List, [], ◌∷◌}
use mathlib.Core.Path.{◌≡◌, refl}
use Prim.Native.Nat.{ℕ, ◌+◌, ◌*◌, ◌≤◌}
use native.Mathlib.Omega.{arith}
use lib.ListN.{length}
use Rattle.laws.specs.Every.{All, none}
use Rattle.laws.specs.Lists.{sum_of}
use Rattle.laws.proofs.Every.{all_append}
use Rattle.form.specs.declared.limits.Limits.{Limits}
use Rattle.form.specs.Limits.{Lawful, line_count}
use Rattle.line.specs.Lines.{walk, texts}
use Rattle.line.specs.Cutting.{cuts}
use Rattle.line.proofs.Cutting.{cuts_nil, cuts_cons, cut_short, length-cuts, length-unlines-cuts}
use Rattle.line.proofs.Walking.{texts-sound}
use Rattle.line.proofs.Fewest as line
use Rattle.table.specs.Rows.{Table}
use Rattle.table.specs.Reading.{Room, accepted, reading}
use Rattle.table.specs.inner.Back.{segments_of, lines_of, written}
use Rattle.table.proofs.Accepting.{Accepted, accepting}
use Rattle.table.proofs.Filing.{segments_of_accepted}
use Rattle.write.proofs.RoundTrip.{table-lines, table-written}

module _ (L : Limits) (lawful : Lawful L) where
  -- no message that reads to a table has fewer bytes, or fewer lines, than what is written for it
  module _ (levels : ℕ → ℕ → ℕ) (room : Room) (m : List ℕ) (t : Table) (e : reading L levels room m ≡ accepted t) where
    passed : Accepted L levels room m t
    passed = (accepting L levels room m t).0 e

    pub least-bytes : length (written L t) ≤ length m
    least-bytes =
        rw (table-written lawful passed) (line.least-message L lawful passed.separators.field (segments_of_accepted lawful passed) m refl)

    pub least-lines : length (lines_of L t) ≤ length (texts (walk L m))
    unfolding walk
    least-lines =
        rw (table-lines lawful passed)
        (line.least-lines L lawful passed.separators.field (segments_of_accepted lawful passed) (texts (walk L m))
        (texts-sound L (omega (arith, lawful.header)) 0 m) refl)

  -- no line is too long (L3): of any table, whatever it holds
  pub cuts-short : (f : ℕ) (ss : List (List ℕ)) → All (λ (l : List ℕ). length l ≤ L.line) (cuts L f ss)
  cuts-short f [] = rw (cuts_nil L f) none
  cuts-short f (s ∷ ss) =
      rw (cuts_cons L f s ss)
      (all_append (cut_short L lawful f s) (cuts-short f ss))

  pub lines-short : (t : Table) → All (λ (l : List ℕ). length l ≤ L.line) (lines_of L t)
  unfolding lines_of
  lines-short t = cuts-short t.card.separator (segments_of t)

  -- so many lines: those of each segment, by its bytes (W2)
  pub lines-counted : (t : Table) → length (lines_of L t) ≡ sum_of (λ (s : List ℕ). line_count L (length s)) (segments_of t)
  unfolding lines_of
  lines-counted t = length-cuts L lawful t.card.separator (segments_of t)

  -- and so many bytes: the segments' own, a CR for each line, and `A` and separator for each line but a segment's first
  pub bytes_counted : (t : Table)
      → length (written L t) + 2 * length (segments_of t) ≡ sum_of length (segments_of t) + 3 * length (lines_of L t)
  unfolding lines_of written
  bytes_counted t =
      omega (arith, length-unlines-cuts L lawful t.card.separator (segments_of t), length-cuts L lawful t.card.separator (segments_of t))
