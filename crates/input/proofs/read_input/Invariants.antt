-- The bytes that came lie within the buffer, whose length stays, and they are what the reader gave so far. The measure is the room that is left.
use Rattle.std.proofs.Common.{◌≡◌, ◌-◌, ◌≤◌, length, take}
use Rattle.std.specs.Io.KnownBytes.{Consumes}
use Rattle.input.proofs.read_input.Given as goal

abbrev pub invariant-loop-bytes : goal.invariant-loop-bytes
invariant-loop-bytes g l = record {
  within : l.bytes ≤ length l.buffer;
  same_length : length l.buffer ≡ length l.initial.buffer;
  came : Consumes (g.R.Read.remaining l.initial.reader) (g.R.Read.remaining l.reader) (take l.bytes l.buffer);
}

abbrev pub decreases-loop-bytes : goal.decreases-loop-bytes
decreases-loop-bytes g l = length l.initial.buffer - l.bytes
