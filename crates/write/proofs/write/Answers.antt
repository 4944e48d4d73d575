-- `write::write` meets its contract: each return is one branch of `writing`.
-- Assumes nothing.
use mathlib.Core.Bool.{true, false}
use mathlib.Core.Path.{◌≡◌, sym, ap, ◌∙◌, subst, subst⁻¹}
use Prim.Native.Nat.{ℕ, ◌≤◌}
use lib.Dec.{ltb}
use lib.ListN.{length}
use borrow.Author.Tests.{lt-ltb, le-ltb}
use Rattle.form.specs.declared.limits.Limits.{Limits}
use Rattle.form.specs.Forms.{limits_of}
use Rattle.form.proofs.TwoForms.{form_lawful}
use Rattle.order.specs.Owners.{level}
use Rattle.table.specs.Lent.{Lent, lent}
use Rattle.write.specs.Answer.{answer, output_after}
use Rattle.write.specs.inner.ReadsBack.{is_table}
use Rattle.write.specs.inner.Message.{message_written}
use Rattle.write.specs.inner.Asked.{MessageFits}
use Rattle.write.proofs.Answers.{writing-message, tested-lent}
use Rattle.write.proofs.LentTables.{short-refused, no_table_refused}
use Rattle.write.proofs.write.Goals as goal
use Rattle.write.proofs.write.Goals.{Else-output-limits, Start, Then-is_table}

-- the form's limits, the lent table, and the output's length
abbrev limits : Start → Limits
limits s = limits_of s.args.form

abbrev table : Start → Lent
table s = lent s.args.card s.args.segments.now s.args.leaves.now s.args.text.now

abbrev room : Start → ℕ
room s = length s.args.output.now

long : (c : Else-output-limits) → ltb (room (goal.at.Else-output-limits c).Start) (limits (goal.at.Else-output-limits c).Start).bytes ≡ false
long c =
    subst (λ (L : Limits). ltb (room (goal.at.Else-output-limits c).Start) L.bytes ≡ false) c.limits-limits.ensures (le-ltb (room (goal.at.Else-output-limits c).Start) _ c.if-output-limits.false)

-- where the test is passed
passed : (c : Then-is_table) → is_table (limits (goal.at.Then-is_table c).Start) level (table (goal.at.Then-is_table c).Start) ≡ true
passed c = sym c.is_table.ensures ∙ c.if-is_table.true

pub returns-then-output-limits : goal.returns-then-output-limits
unfolding output_after
returns-then-output-limits c =
    let refused =
    short-refused (limits (goal.at.returns-then-output-limits c).Start) (form_lawful c.args.form) level (table (goal.at.returns-then-output-limits c).Start) (room (goal.at.returns-then-output-limits c).Start)
    (subst (λ (L : Limits). ltb (room (goal.at.returns-then-output-limits c).Start) L.bytes ≡ true) c.limits-limits.ensures (lt-ltb (room (goal.at.returns-then-output-limits c).Start) _ c.if-output-limits.true)) in
    record { answers = c.refusal.ensures ∙ ap answer (sym refused); message = sym (ap (output_after c.args.output.now) refused) }

pub write_message-requires : goal.write_message-requires
write_message-requires c =
    subst⁻¹ (λ (L : Limits). MessageFits L c.args.card c.args.leaves.now c.args.text.now c.args.output.now) c.limits-limits.ensures
    (record {
      lawful = form_lawful c.args.form;
      tested = tested-lent (limits (goal.at.write_message-requires c).Start) (form_lawful c.args.form) level (table (goal.at.write_message-requires c).Start) (room (goal.at.write_message-requires c).Start) (passed (goal.at.write_message-requires c).Then-is_table);
      roomy = subst (λ (L : Limits). L.bytes ≤ room (goal.at.write_message-requires c).Start) c.limits-limits.ensures c.if-output-limits.false;
    })

pub returns-then-is_table : goal.returns-then-is_table
returns-then-is_table c =
    let wrote = writing-message (limits (goal.at.returns-then-is_table c).Start) (form_lawful c.args.form) level (table (goal.at.returns-then-is_table c).Start) (room (goal.at.returns-then-is_table c).Start) (long (goal.at.returns-then-is_table c).Else-output-limits) (passed (goal.at.returns-then-is_table c).Then-is_table) in
    let same =
    ap (λ (L : Limits). message_written L c.args.card c.args.leaves.now c.args.text.now) c.limits-limits.ensures
    ∙ sym wrote in
    record { answers = c.write_message.ensures.answers ∙ ap answer same; message = c.write_message.ensures.message ∙ ap (output_after c.args.output.now) same }

pub returns : goal.returns
unfolding output_after
returns c =
    let refused =
    no_table_refused (limits (goal.at.returns c).Start) (form_lawful c.args.form) level (table (goal.at.returns c).Start) (room (goal.at.returns c).Start) (long (goal.at.returns c).Else-output-limits)
    (sym c.is_table.ensures ∙ c.if-is_table.false) in
    record { answers = c.refusal-2.ensures ∙ ap answer (sym refused); message = sym (ap (output_after c.args.output.now) refused) }
