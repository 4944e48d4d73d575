-- `Separators::sound` meets its contract.
-- Assumes nothing.
use mathlib.Core.Bool.{and-true}
use mathlib.Core.Path.{◌∙◌, sym}
use Rattle.form.specs.Header.{all_allowed, five}
use Rattle.laws.proofs.Tests.{and_fails_second}
use Rattle.form.proofs.separators.Separators.sound.Goals as goal

pub returns-then-not-different : goal.returns-then-not-different
returns-then-not-different c =
    let at-args = c.args in
    let at-different = c.different in
    let at-if1 = c.if-not-different in
    sym (and_fails_second (all_allowed (five at-args.self)) (sym at-different.ensures ∙ at-if1.true))

pub returns : goal.returns
returns c =
    let at-allowed = c.allowed in
    let at-different = c.different in
    let at-if1 = c.if-not-different in
    rw (← at-different.ensures, at-if1.false, and-true) at-allowed.ensures
