-- `Separators::different` meets its contract: two that are the same decide.
-- Assumes nothing.
use mathlib.Core.Bool.{true, false}
use mathlib.Core.Logic.{⊎_elim}
use mathlib.Core.Path.{◌≡◌, sym}
use lib.Dec.{eqb, lit<}
use borrow.Author.Tests.{eqb-true, eqb-false}
use Rattle.laws.proofs.Tests.{either}
use Rattle.form.specs.Header.{five}
use Rattle.form.proofs.HeaderRule.{repeated, facts_different}
use Rattle.form.proofs.separators.Separators.different.Goals as goal

pub returns-then-self : goal.returns-then-self
unfolding five
returns-then-self c =
    let at-args = c.args in
    let at-if1 = c.if-self in
    sym (repeated (five at-args.self) 0 1 (lit< tt) (lit< tt) at-if1.true)

pub returns-then-self-2 : goal.returns-then-self-2
unfolding five
returns-then-self-2 c =
    let at-args = c.args in
    let at-if2 = c.if-self-2 in
    sym (repeated (five at-args.self) 0 2 (lit< tt) (lit< tt) at-if2.true)

pub returns-then-self-3 : goal.returns-then-self-3
unfolding five
returns-then-self-3 c =
    let at-args = c.args in
    let at-if3 = c.if-self-3 in
    sym (repeated (five at-args.self) 0 3 (lit< tt) (lit< tt) at-if3.true)

pub returns-then-self-4 : goal.returns-then-self-4
unfolding five
returns-then-self-4 c =
    let at-args = c.args in
    let at-if4 = c.if-self-4 in
    sym (repeated (five at-args.self) 0 4 (lit< tt) (lit< tt) at-if4.true)

pub returns-then-self-5 : goal.returns-then-self-5
unfolding five
returns-then-self-5 c =
    let at-args = c.args in
    let at-if5 = c.if-self-5 in
    sym (repeated (five at-args.self) 1 2 (lit< tt) (lit< tt) at-if5.true)

pub returns-then-self-6 : goal.returns-then-self-6
unfolding five
returns-then-self-6 c =
    let at-args = c.args in
    let at-if6 = c.if-self-6 in
    sym (repeated (five at-args.self) 1 3 (lit< tt) (lit< tt) at-if6.true)

pub returns-then-self-7 : goal.returns-then-self-7
unfolding five
returns-then-self-7 c =
    let at-args = c.args in
    let at-if7 = c.if-self-7 in
    sym (repeated (five at-args.self) 1 4 (lit< tt) (lit< tt) at-if7.true)

pub returns-then-self-8 : goal.returns-then-self-8
unfolding five
returns-then-self-8 c =
    let at-args = c.args in
    let at-if8 = c.if-self-8 in
    sym (repeated (five at-args.self) 2 3 (lit< tt) (lit< tt) at-if8.true)

pub returns-then-self-9 : goal.returns-then-self-9
unfolding five
returns-then-self-9 c =
    let at-args = c.args in
    let at-if9 = c.if-self-9 in
    sym (repeated (five at-args.self) 2 4 (lit< tt) (lit< tt) at-if9.true)

pub returns : goal.returns
unfolding five
returns c =
    let ps = c.args.self in
    ⊎_elim
    (λ (e : eqb ps.escape ps.subsubfield ≡ true). rw e
    (sym (repeated (five ps) 3 4 (lit< tt) (lit< tt) (eqb-true ps.escape ps.subsubfield e))))
    (λ (e : eqb ps.escape ps.subsubfield ≡ false). rw e
    (sym
    (facts_different ps
    (record {
      field_subfield = c.if-self.false;
      field_repeater = c.if-self-2.false;
      field_escape = c.if-self-3.false;
      field_subsubfield = c.if-self-4.false;
      subfield_repeater = c.if-self-5.false;
      subfield_escape = c.if-self-6.false;
      subfield_subsubfield = c.if-self-7.false;
      repeater_escape = c.if-self-8.false;
      repeater_subsubfield = c.if-self-9.false;
      escape_subsubfield = eqb-false ps.escape ps.subsubfield e;
    }))))
    (either (eqb ps.escape ps.subsubfield))
