-- `Kind::name` meets its contract: each number's name, and none past the last.
-- Assumes nothing.
use mathlib.Core.Path.{sym, ap}
use Rattle.laws.specs.Tables.{values}
use Rattle.laws.specs.Texts.{bytes}
use Rattle.laws.proofs.Lists.{Absent.nowhere, Absent.past}
use Rattle.form.specs.Names.{kind_names, name_of}
use Rattle.form.specs.inner.Lettering.{spelled}
use Rattle.form.proofs.Names.{nameless}
use Rattle.form.proofs.kind.Kind.name.Goals as goal

pub returns-in-1 : goal.returns-in-1
unfolding name_of kind_names bytes
returns-in-1 c = rw c.in-1.is

pub returns-in-2 : goal.returns-in-2
unfolding name_of kind_names bytes
returns-in-2 c = rw c.in-2.is

pub returns-in-3 : goal.returns-in-3
unfolding name_of kind_names bytes
returns-in-3 c = rw c.in-3.is

pub returns-in-4 : goal.returns-in-4
unfolding name_of kind_names bytes
returns-in-4 c = rw c.in-4.is

pub returns-in-5 : goal.returns-in-5
unfolding name_of kind_names bytes
returns-in-5 c = rw c.in-5.is

pub returns-in-6 : goal.returns-in-6
unfolding name_of kind_names bytes
returns-in-6 c = rw c.in-6.is

pub returns-in-7 : goal.returns-in-7
unfolding name_of kind_names bytes
returns-in-7 c = rw c.in-7.is

pub returns-in-8 : goal.returns-in-8
unfolding name_of kind_names bytes
returns-in-8 c = rw c.in-8.is

pub returns-in-9 : goal.returns-in-9
unfolding name_of kind_names bytes
returns-in-9 c = rw c.in-9.is

pub returns-in-10 : goal.returns-in-10
unfolding name_of kind_names bytes
returns-in-10 c = rw c.in-10.is

pub returns-in-11 : goal.returns-in-11
unfolding name_of kind_names bytes
returns-in-11 c = rw c.in-11.is

pub returns-in-12 : goal.returns-in-12
unfolding name_of kind_names bytes
returns-in-12 c = rw c.in-12.is

pub returns-in_default : goal.returns-in_default
unfolding kind_names values
returns-in_default c =
    let no = c.in_default.in_default-own.rest in
    ap spelled
    (sym
    (nameless kind_names c.args.kind
    (past no.0.0.0.0.0.0.0.0.0.0.0.1 (past no.0.0.0.0.0.0.0.0.0.0.1 (past no.0.0.0.0.0.0.0.0.0.1
    (past no.0.0.0.0.0.0.0.0.1 (past no.0.0.0.0.0.0.0.1 (past no.0.0.0.0.0.0.1 (past no.0.0.0.0.0.1
    (past no.0.0.0.0.1 (past no.0.0.0.1 (past no.0.0.1 (past no.0.1 (past no.1 nowhere))))))))))))))
