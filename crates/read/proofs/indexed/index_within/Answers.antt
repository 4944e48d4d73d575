-- `indexed::index_within` meets its contract: an index that is not sound is refused, then what was decided, and what is left is counted and filed.
-- Assumes nothing.
use mathlib.Core.Path.{sym, ◌∙◌, refl}
use native.Mathlib.Omega.{arith}
use Rattle.read.specs.inner.Filling.{table_in}
use Rattle.read.proofs.Refusing.{passed_on}
use Rattle.read.proofs.Answering.{accepted_fileable, table-filed}
use Rattle.read.proofs.Indexing.{unsound_indexed, refusal_indexed, accepted_admissible, admitted_indexed, turned_left, counted-left}
use Rattle.read.proofs.indexed.index_within.Goals as goal
use Rattle.read.proofs.indexed.index_within.Goals.{In_ok-decision}

pub returns-then-not-is_sound : goal.returns-then-not-is_sound
returns-then-not-is_sound c =
    unsound_indexed c.args.limits c.args.levels.now c.args.tally c.args.message.now c.args.text.now c.args.segments.now c.args.leaves.now c.args.codes.now
    c.args.counts.now (sym c.is_sound.ensures ∙ c.if-not-is_sound.true) c.at.ensures

pub returns-in_err-decision : goal.returns-in_err-decision
returns-in_err-decision c =
    rw (passed_on c.from_residual.ensures.1)
    (refusal_indexed c.args.text.now c.args.segments.now c.args.leaves.now c.decide.ensures c.args.levels.now c.args.tally c.args.codes.now
    c.args.counts.now (sym c.is_sound.ensures ∙ c.if-not-is_sound.false) c.in_err-decision.was)

pub admit-requires : goal.admit-requires
admit-requires c =
    accepted_admissible c.args.text.now c.args.segments.now c.args.leaves.now c.decide.ensures c.args.levels.now c.args.tally c.args.codes.now
    c.args.counts.now (sym c.is_sound.ensures ∙ c.if-not-is_sound.false) c.in_ok-decision.was (λ i. omega (arith, c.type_inv.message i)) (c.decide.auto.starts ∙ c.requires.begins)

pub returns-in_err-after : goal.returns-in_err-after
returns-in_err-after c =
    rw (passed_on c.from_residual-in_err-after.ensures.1)
    (admitted_indexed c.args.text.now c.args.segments.now c.args.leaves.now c.decide.ensures c.args.levels.now c.args.tally c.args.codes.now
    c.args.counts.now (sym c.is_sound.ensures ∙ c.if-not-is_sound.false) c.in_ok-decision.was
    (turned_left (table_in c.args.limits c.args.levels.now c.in_ok-decision.decision.separators c.args.message.now) c.args.text.now c.args.segments.now
    c.args.leaves.now c.in_err-after.ensures))

pub fill-bytes-requires : goal.fill-bytes-requires
fill-bytes-requires c = (
  (accepted_fileable c.args.text.now c.args.segments.now c.args.leaves.now c.decide.ensures c.args.levels.now c.in_ok-decision.was
      c.requires.reads.below).prepared,
  λ i. omega (arith, c.type_inv.message i),
)

pub returns : goal.returns
returns c =
    let w = accepted_fileable c.args.text.now c.args.segments.now c.args.leaves.now c.decide.ensures c.args.levels.now c.in_ok-decision.was
    c.requires.reads.below in
    admitted_indexed c.args.text.now c.args.segments.now c.args.leaves.now c.decide.ensures c.args.levels.now c.args.tally c.args.codes.now
    c.args.counts.now (sym c.is_sound.ensures ∙ c.if-not-is_sound.false) c.in_ok-decision.was
    (counted-left (table_in c.args.limits c.args.levels.now c.in_ok-decision.decision.separators c.args.message.now) c.args.text.now c.args.segments.now
    c.args.leaves.now c.in_ok-after.ensures (table-filed w c.fill-bytes.ensures c.card.ensures) refl)
