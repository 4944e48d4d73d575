-- What holds of an accepted message: it passed every test (N2), and its table (T1 to T5) is given.
-- Assumes nothing.
use Rattle.std.specs.Prelude.{List, ℕ}
use Rattle.form.specs.declared.limits.Limits.{Limits}
use Rattle.form.specs.declared.separators.Separators.{Separators}
use Rattle.order.specs.Grammar.{Derives}
use Rattle.order.specs.Contexts.{grammar}
use Rattle.table.specs.Rows.{kinds_of, context_in, table_of}
use Rattle.table.specs.Reading.{room_of, accepted}
use Rattle.read.specs.declared.Answer.{Answer}
use Rattle.read.specs.Answering.{Gives}
use Rattle.read.specs.Sound.{segments_in, SoundMessage}

-- of a message, its separators ps, the answer, and the buffers before and after: the message is sound, the grammar of its context derives
-- the kinds of its joined segments (C2, C3), and the answer and the buffers are those of its table
pub record Read (L : Limits) (levels : ℕ → ℕ → ℕ) (message : List ℕ) (ps : Separators) (text segments leaves : List ℕ) (r : Answer)
    (text' segments' leaves' : List ℕ) : Type 0 where
  pub sound : SoundMessage L (room_of text segments leaves) message ps
  pub derived : Derives (grammar (context_in ps (segments_in L ps message))) (kinds_of ps (segments_in L ps message))
  pub given : Gives (accepted (table_of levels ps (segments_in L ps message))) text segments leaves r text' segments' leaves'
