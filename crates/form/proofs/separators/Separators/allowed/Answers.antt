-- `Separators::allowed` meets its contract: one that is not allowed decides.
-- Assumes nothing.
use mathlib.Core.Bool.{and-true}
use mathlib.Core.Path.{sym, ◌∙◌}
use lib.Dec.{lit<}
use Rattle.form.specs.Header.{all_allowed, five}
use Rattle.form.proofs.HeaderRule.{one_not_allowed}
use Rattle.form.proofs.separators.Separators.allowed.Goals as goal

pub returns-then-not-allowed : goal.returns-then-not-allowed
unfolding five
returns-then-not-allowed c =
    let at-args = c.args in
    let at-allowed = c.allowed in
    let at-if1 = c.if-not-allowed in
    sym (one_not_allowed (five at-args.self) 0 (lit< tt) (sym at-allowed.ensures ∙ at-if1.true))

pub returns-then-not-allowed-2 : goal.returns-then-not-allowed-2
unfolding five
returns-then-not-allowed-2 c =
    let at-args = c.args in
    let at-allowed2 = c.allowed-2 in
    let at-if2 = c.if-not-allowed-2 in
    sym (one_not_allowed (five at-args.self) 1 (lit< tt) (sym at-allowed2.ensures ∙ at-if2.true))

pub returns-then-not-allowed-3 : goal.returns-then-not-allowed-3
unfolding five
returns-then-not-allowed-3 c =
    let at-args = c.args in
    let at-allowed3 = c.allowed-3 in
    let at-if3 = c.if-not-allowed-3 in
    sym (one_not_allowed (five at-args.self) 2 (lit< tt) (sym at-allowed3.ensures ∙ at-if3.true))

pub returns-then-not-allowed-4 : goal.returns-then-not-allowed-4
unfolding five
returns-then-not-allowed-4 c =
    let at-args = c.args in
    let at-allowed4 = c.allowed-4 in
    let at-if4 = c.if-not-allowed-4 in
    sym (one_not_allowed (five at-args.self) 3 (lit< tt) (sym at-allowed4.ensures ∙ at-if4.true))

pub returns : goal.returns
unfolding five all_allowed
returns c =
    let at-allowed = c.allowed in
    let at-allowed2 = c.allowed-2 in
    let at-allowed3 = c.allowed-3 in
    let at-allowed4 = c.allowed-4 in
    let at-allowed5 = c.allowed-5 in
    let at-if1 = c.if-not-allowed in
    let at-if2 = c.if-not-allowed-2 in
    let at-if3 = c.if-not-allowed-3 in
    let at-if4 = c.if-not-allowed-4 in
    rw (
      ← at-allowed.ensures,
      ← at-allowed2.ensures,
      ← at-allowed3.ensures,
      ← at-allowed4.ensures,
      ← at-allowed5.ensures,
      at-if1.false,
      at-if2.false,
      at-if3.false,
      at-if4.false,
      and-true,
    )
