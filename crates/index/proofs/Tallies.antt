-- The tally with one message more: the first number that would be too large, or all of them.
-- Assumes nothing.
use mathlib.Core.Bool.{true, false, ◌||◌}
use mathlib.Core.Path.{◌≡◌}
use Prim.Native.Nat.{ℕ, ◌+◌, ◌-◌, ◌<◌}
use native.Mathlib.Omega.{arith}
use borrow.Author.Tests.{le-leb, lt-leb}
use lib.Dec.{leb}
use Rattle.laws.proofs.Tests.{or_first, or_second, or_fails}
use Rattle.index.specs.declared.tally.Tally.{Tally}
use Rattle.index.specs.declared.tally.Tallied.{Tallied}
use Rattle.index.specs.Index.{counts_past}
use Rattle.index.specs.Tallying.{with_message, tally_too_large, tallied}

module _ (t : Tally) (segments results : ℕ) where
  abbrev unchanged : Tallied
  unchanged = record { fits = false; tally = t }

  too_large : tally_too_large (with_message t segments results) ≡ true → unchanged ≡ tallied t segments results
  unfolding tallied
  too_large e = rw (e, tallied)

  pub messages_past : t.messages ≡ 4294967295 → unchanged ≡ tallied t segments results
  unfolding tally_too_large
  messages_past e =
      too_large
      (or_first (leb counts_past (t.results + results))
      (or_first (leb counts_past (t.segments + segments)) (le-leb counts_past (t.messages + 1) (omega (arith, e)))))

  pub segments_past : 4294967295 - t.segments < segments → unchanged ≡ tallied t segments results
  unfolding tally_too_large
  segments_past h =
      too_large
      (or_first (leb counts_past (t.results + results))
      (or_second (leb counts_past (t.messages + 1)) (le-leb counts_past (t.segments + segments) (omega (arith, h)))))

  pub results_past : 4294967295 - t.results < results → unchanged ≡ tallied t segments results
  unfolding tally_too_large
  results_past h =
      too_large
      (or_second (leb counts_past (t.messages + 1) || leb counts_past (t.segments + segments))
      (le-leb counts_past (t.results + results) (omega (arith, h))))

  pub all_fit : t.messages + 1 < counts_past → t.segments + segments < counts_past → t.results + results < counts_past
      → record { fits = true; tally = with_message t segments results } ≡ tallied t segments results
  unfolding tallied tally_too_large
  all_fit h k l =
      let fit : tally_too_large (with_message t segments results) ≡ false =
      or_fails
      (or_fails (lt-leb counts_past (t.messages + 1) h) (lt-leb counts_past (t.segments + segments) k))
      (lt-leb counts_past (t.results + results) l) in
      rw (fit, tallied)
