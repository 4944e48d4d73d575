-- What each step of the first pass makes of what is known so far.
-- Assumes nothing.
use Rattle.std.specs.Prelude.{Bool, true, false, not, List, ℕ, ◌+◌, eqb}
use Rattle.laws.specs.inner.First.{first_held}
use Rattle.form.specs.Names.{kind_of, context_of}
use Rattle.form.specs.inner.Lettering.{name_in}
use Rattle.order.specs.Watcher.{begun}
use Rattle.order.specs.inner.Telling.{tell_by}
use Rattle.order.specs.declared.watcher.Watcher.{Watcher}
use Rattle.order.specs.declared.watcher.Told.{Told}
use Rattle.read.specs.declared.survey.Survey.{Survey}
use Rattle.read.specs.inner.Naming.{fresh, with_bytes, gathered}

-- before the first line: its seven header bytes are known, so the open segment is an H
abbrev pub nothing_seen : Survey
nothing_seen =
    record {
      segments = 1;
      separators = 0;
      unknown = 0;
      misplaced = 0;
      watcher = begun 0;
      name = fresh 5;
    }

-- a text with so many separators joined to the open segment
abbrev pub text_joined : ℕ → Survey → List ℕ → ℕ → Survey
text_joined field s t separators =
    record {
      segments = s.segments;
      separators = s.separators + separators;
      unknown = s.unknown;
      misplaced = s.misplaced;
      watcher = s.watcher;
      name = with_bytes field s.name t;
    }

-- the kind of the open segment: the first is an H; and the context that the first segment names
unfoldable pub kind_seen : Survey → ℕ
kind_seen s = elim (eqb s.segments 1) [ true ↦ 1 | false ↦ kind_of (name_in s.name.letters) ]

abbrev pub context_seen : Survey → ℕ
context_seen s = context_of (gathered s.name)

-- the watcher that is told the open segment's kind: field 7 of the first segment begins it (C1)
unfoldable pub watching : Survey → Watcher
watching s = elim (eqb s.segments 1) [ true ↦ begun (context_seen s) | false ↦ s.watcher ]

-- the open segment closed: its kind judged and the watcher told; `may` says which kinds may follow which
unfoldable pub told_now : (ℕ → ℕ → ℕ → Bool) → Survey → Told
told_now may s = tell_by may (watching s) (kind_seen s)

abbrev pub segment_shut : (ℕ → ℕ → ℕ → Bool) → Survey → Survey
segment_shut may s =
    record {
      segments = s.segments;
      separators = s.separators;
      unknown = first_held s.unknown (eqb (kind_seen s) 0) s.segments;
      misplaced = first_held s.misplaced (not (told_now may s).yes) s.segments;
      watcher = (told_now may s).watcher;
      name = s.name;
    }

-- the next one begun behind it
abbrev pub segment_begun : Survey → Survey
segment_begun s =
    record {
      segments = s.segments + 1;
      separators = s.separators;
      unknown = s.unknown;
      misplaced = s.misplaced;
      watcher = s.watcher;
      name = fresh 1;
    }
