-- `read::decide::decide_sound` meets its contract: a fault of the lines refuses, else what was seen decides, and the kinds and starts are noted.
-- Assumes nothing.
use mathlib.Core.Path.{◌≡◌}
use native.Mathlib.Omega.{arith}
use Rattle.table.specs.inner.Classes.{class_table}
use Rattle.table.proofs.Classes.{classes-set}
use Rattle.read.proofs.Refusing.{passed_on}
use Rattle.read.proofs.Deciding.{fault_decides, survey_decides}
use Rattle.read.proofs.decide.decide_sound.Goals as goal
use Rattle.read.proofs.decide.decide_sound.Goals.{After-set_classes}

classes_here : (c : After-set_classes) → c.set_classes.new.class ≡ class_table c.args.separators
classes_here c = classes-set c.args.separators c.requires.asked.clear c.set_classes.ensures

pub survey_message-requires : goal.survey_message-requires
survey_message-requires c =
    let pre = c.requires in
    record { lawful = pre.asked.fits.lawful; header = pre.header; classes = classes_here (goal.at.survey_message-requires c).After-set_classes; table = c.table-followers.ensures }

pub returns-in_err-seen : goal.returns-in_err-seen
returns-in_err-seen c =
    rw (passed_on c.from_residual.ensures.1) (fault_decides c.args.limits c.args.separators c.args.message.now _ _ _ c.in_err-seen.ensures)

pub returns : goal.returns
returns c =
    let pre = c.requires in
    let known = c.in_ok-seen.ensures in
    survey_decides c.args.limits c.args.separators c.args.message.now _ _ _ pre.asked.fits pre.header pre.bytes
    (omega (arith, pre.asked.notes, c.survey_message.auto.kinds)) (classes_here (goal.at.returns c).After-set_classes) known.0 known.1 known.2 known.3 c.judge.ensures
