-- `Header::of` meets its contract: each early return names what breaks the header.
-- Assumes nothing.
use mathlib.Core.Path.{sym, ◌∙◌}
use Rattle.form.specs.Header.{separators_of}
use Rattle.form.proofs.HeaderRule.{short-broken, letter_broken, again_broken, allowed-broken, different-broken, tests_sound}
use Rattle.form.proofs.separators.Header.of.Goals as goal

pub returns-then-message-lt7 : goal.returns-then-message-lt7
returns-then-message-lt7 c =
    let at-args = c.args in
    let at-if1 = c.if-message-lt7 in
    sym (short-broken at-args.message.now at-if1.true)

pub returns-then-message-ne72 : goal.returns-then-message-ne72
returns-then-message-ne72 c =
    let at-args = c.args in
    let at-if2 = c.if-message-ne72 in
    sym (letter_broken at-args.message.now at-if2.true)

pub returns-then-message : goal.returns-then-message
returns-then-message c =
    let at-args = c.args in
    let at-if3 = c.if-message in
    sym (again_broken at-args.message.now at-if3.true)

pub returns-then-not-different : goal.returns-then-not-different
unfolding separators_of
returns-then-not-different c =
    let at-args = c.args in
    let at-if4 = c.if-not-different in
    sym (different-broken at-args.message.now (sym c.different.ensures ∙ at-if4.true))

pub returns-then-not-allowed : goal.returns-then-not-allowed
unfolding separators_of
returns-then-not-allowed c =
    let at-args = c.args in
    let at-if5 = c.if-not-allowed in
    sym (allowed-broken at-args.message.now (sym c.allowed.ensures ∙ at-if5.true))

pub returns : goal.returns
unfolding separators_of
returns c =
    let at-args = c.args in
    let at-if1 = c.if-message-lt7 in
    let at-if2 = c.if-message-ne72 in
    let at-if3 = c.if-message in
    let at-different = c.different in
    let at-if4 = c.if-not-different in
    let at-allowed = c.allowed in
    let at-if5 = c.if-not-allowed in
    sym
    (tests_sound at-args.message.now at-if1.false at-if2.false at-if3.false
    (sym at-allowed.ensures ∙ at-if5.false)
    (sym at-different.ensures ∙ at-if4.false))
