-- The tally (X5): three counts, brought up to date by each message that is counted.
-- Assumes nothing.
use Rattle.std.specs.Prelude.{Bool, true, false, ◌||◌, ℕ, ◌+◌, leb}
use Rattle.index.specs.declared.tally.Tally.{Tally}
use Rattle.index.specs.declared.tally.Tallied.{Tallied}
use Rattle.index.specs.Index.{counts_past}

-- with one message more, of so many segments and results
abbrev pub with_message : Tally → (segments results : ℕ) → Tally
with_message t segments results =
    record { messages = t.messages + 1; segments = t.segments + segments; results = t.results + results }

-- whether one of its numbers is too large (52)
unfoldable pub tally_too_large : Tally → Bool
tally_too_large t = leb counts_past t.messages || leb counts_past t.segments || leb counts_past t.results

-- the tally with it, or as it was
unfoldable pub tallied : Tally → (segments results : ℕ) → Tallied
tallied t segments results =
    elim (tally_too_large (with_message t segments results)) [
      | true ↦ record { fits = false; tally = t }
      | false ↦ record { fits = true; tally = with_message t segments results }
    ]
