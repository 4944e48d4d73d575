-- The promises of widening, proved: over any lawful limits, and for the small form, whose reader's buffers it fills.
-- Assumes nothing.
use mathlib.Core.Bool.{true, false}
use mathlib.Core.List.{List}
use mathlib.Core.Logic.{◌⊎◌, inl, inr, ◌↔◌}
use mathlib.Core.Path.{◌≡◌, sym, ap, ◌∙◌, subst}
use Prim.Native.Nat.{ℕ, ◌<◌}
use native.Mathlib.Omega.{arith}
use Rattle.laws.proofs.Equality.{only_one}
use Rattle.laws.proofs.Tests.{never_both}
use Rattle.form.specs.declared.forms.Form.TheVariants.{Small}
use Rattle.form.specs.declared.limits.Limits.{Limits}
use Rattle.form.specs.Forms.{small_form, limits_of}
use Rattle.form.specs.Limits.{Lawful}
use Rattle.form.specs.Numbers.{short_buffer}
use Rattle.form.proofs.TwoForms.{form_lawful}
use Rattle.order.specs.Owners.{level, former_level}
use Rattle.table.specs.Lent.{Lent, lent, counted}
use Rattle.table.specs.Reading.{Room, room_of, Outcome, refused, accepted, refuse_if, short, reading, stated}
use Rattle.table.specs.Rows.{Table, owner_in}
use Rattle.table.specs.inner.Back.{written}
use Rattle.read.specs.declared.Answer.{Answer}
use Rattle.read.specs.Answering.{answer_of, text_put, segments_put, leaves_put, no_card, Gives, ReadAs}
use Rattle.write.specs.Writing.{ReadTo}
use Rattle.write.proofs.RoundTrip.{round_trip}
use Rattle.tested.proofs.LentOwners.{owner-lent}
use Rattle.tested.proofs.PassedTables.{read_so}
use Rattle.tested.proofs.TableLeft.{message-left, table-left}
use Rattle.archive.specs.Promises.{Either, owner_by, Widens}
use Rattle.archive.specs.Refusals.{never_read}
use Rattle.archive.specs.Widening.{ever_read, widening, WidenedAs}
use Rattle.archive.proofs.OtherLevels.{written_as_message, written-table}
use Rattle.archive.proofs.Outcomes.{given_by, never-given, given-once, Widening, short-room, never, again, outcome}

-- a table that one message was read to, by either levels
either_to : (L : Limits) {levels : ℕ → ℕ → ℕ} (t : Table) → Either levels → ReadTo L levels t → ReadTo L level t ⊎ ReadTo L former_level t
either_to L t (inl e) to = inl (subst (λ (lv : ℕ → ℕ → ℕ). ReadTo L lv t) e to)
either_to L t (inr e) to = inr (subst (λ (lv : ℕ → ℕ → ℕ). ReadTo L lv t) e to)

short-read : (L : Limits) (levels : ℕ → ℕ → ℕ) (room : Room) (message : List ℕ) → short L room ≡ true → reading L levels room message ≡ refused short_buffer 0
unfolding reading refuse_if
short-read L levels room message h = rw (h, reading)

module _ (L : Limits) (lawful : Lawful L) where
  -- widening a table that a message was read to is reading that message now
  widened_so : (levels : ℕ → ℕ → ℕ) → Either levels → (message : List ℕ) (l : Lent) → reading L levels (stated L) message ≡ accepted (counted l)
      → (room : Room) → widening L room l ≡ reading L level room message
  widened_so levels either message l read room = go (outcome L room l)
    where
      go : Widening L room l → widening L room l ≡ reading L level room message
      go (short-room s e) = e ∙ sym (short-read L level room message s)
      go (never s none e) = absurd (never_both (given-once L lawful l (either_to L (counted l) either (message, read))) none)
      go (again s given e) = e ∙ written_as_message L lawful levels level message (counted l) read room s

  -- a table that a reader gave is widened: its message, as it is written, is accepted now
  accepted_now : (room : Room) (l : Lent) → short L room ≡ false → ever_read L l ≡ true
      → (t : Table) × (reading L level room (written L (counted l)) ≡ accepted t)
  accepted_now room l roomy given = go (given_by L lawful l given)
    where
      go : ReadTo L level (counted l) ⊎ ReadTo L former_level (counted l) → (t : Table) × (reading L level room (written L (counted l)) ≡ accepted t)
      go (inl to) = (_, written-table L lawful level level to.0 (counted l) to.1 room roomy)
      go (inr to) = (_, written-table L lawful former_level level to.0 (counted l) to.1 room roomy)

  module _ (l : Lent) {text segments leaves text' segments' leaves' : List ℕ} {r : Answer} (w : WidenedAs L l text segments leaves r text' segments' leaves') where
    abbrev room : Room
    room = room_of text segments leaves

    -- what an outcome says of the answer
    answered : {o : Outcome} → widening L room l ≡ o → r ≡ answer_of o
    answered e = w.answer ∙ ap answer_of e

    refused-number : {n : ℕ} → widening L room l ≡ refused n 0 → r.number ≡ n
    unfolding answer_of
    refused-number e = ap (λ (a : Answer). a.number) (answered e)

    widened_number : {t : Table} → widening L room l ≡ accepted t → r.number ≡ 0
    unfolding answer_of
    widened_number e = ap (λ (a : Answer). a.number) (answered e)

    again_number : short L room ≡ false → ever_read L l ≡ true → widening L room l ≡ reading L level room (written L (counted l)) → r.number ≡ 0
    again_number roomy given e = widened_number (e ∙ (accepted_now room l roomy given).1)

    widened : (r.number ≡ 0) ↔ ((short L room ≡ false) × (ReadTo L level (counted l) ⊎ ReadTo L former_level (counted l)))
    widened = by (outcome L room l)
      where
        by : Widening L room l → (r.number ≡ 0) ↔ ((short L room ≡ false) × (ReadTo L level (counted l) ⊎ ReadTo L former_level (counted l)))
        by (short-room s e) = (λ n. absurd (omega (arith, n, refused-number e)), λ g. absurd (never_both s g.0))
        by (never s none e) = (
          λ n. absurd (omega (arith, n, refused-number e)),
          λ g. absurd (never_both (given-once L lawful l g.1) none),
        )
        by (again s given e) = (λ n. (s, given_by L lawful l given), λ g. again_number s given e)

    short_so : (r.number ≡ short_buffer) ↔ (short L room ≡ true)
    short_so = by (outcome L room l)
      where
        by : Widening L room l → (r.number ≡ short_buffer) ↔ (short L room ≡ true)
        by (short-room s e) = (λ n. s, λ g. refused-number e)
        by (never s none e) = (λ n. absurd (omega (arith, n, refused-number e)), λ g. absurd (never_both g s))
        by (again s given e) = (λ n. absurd (omega (arith, n, again_number s given e)), λ g. absurd (never_both g s))

    never_so : (r.number ≡ never_read) ↔ ((short L room ≡ false) × (ReadTo L level (counted l) → ⊥) × (ReadTo L former_level (counted l) → ⊥))
    never_so = by (outcome L room l)
      where
        by : Widening L room l → (r.number ≡ never_read) ↔ ((short L room ≡ false) × (ReadTo L level (counted l) → ⊥) × (ReadTo L former_level (counted l) → ⊥))
        by (short-room s e) = (λ n. absurd (omega (arith, n, refused-number e)), λ g. absurd (never_both s g.0))
        by (never s none e) = (λ n. let g = never-given L lawful l none in (s, g.0, g.1), λ g. refused-number e)
        by (again s given e) = (λ n. absurd (omega (arith, n, again_number s given e)), λ g. absurd (neither g (given_by L lawful l given)))
          where
            neither : (short L room ≡ false) × (ReadTo L level (counted l) → ⊥) × (ReadTo L former_level (counted l) → ⊥)
                → ReadTo L level (counted l) ⊎ ReadTo L former_level (counted l) → ⊥
            neither g (inl to) = g.1 to
            neither g (inr to) = g.2 to

    -- owners that follow neither rule
    mixed : short L room ≡ false → (i j : ℕ) → i < l.card.segments → j < l.card.segments
        → (owner_in l.segment_rows i ≡ owner_by level l i → ⊥) → (owner_in l.segment_rows j ≡ owner_by former_level l j → ⊥) → r.number ≡ never_read
    mixed roomy i j i-there j-there not-now not-once =
        never_so.1 (
          roomy,
          λ to. not-now (owner-lent l (read_so L level l to).segments i i-there),
          λ to. not-once (owner-lent l (read_so L former_level l to).segments j j-there),
        )

    refused_so : {n : ℕ} → widening L room l ≡ refused n 0
        → (text' ≡ text) × (segments' ≡ segments) × (leaves' ≡ leaves) × (r.place ≡ 0) × (r.card ≡ no_card)
    unfolding answer_of text_put segments_put leaves_put
    refused_so e =
        let g = subst (λ (o : Outcome). Gives o text segments leaves r text' segments' leaves') e w in
        (g.text_area, g.segment_rows, g.leaf_rows, ap (λ (a : Answer). a.place) g.answer, ap (λ (a : Answer). a.card) g.answer)

    refusal_kept : (r.number ≡ 0 → ⊥) → (text' ≡ text) × (segments' ≡ segments) × (leaves' ≡ leaves) × (r.place ≡ 0) × (r.card ≡ no_card)
    refusal_kept other = by (outcome L room l)
      where
        by : Widening L room l → (text' ≡ text) × (segments' ≡ segments) × (leaves' ≡ leaves) × (r.place ≡ 0) × (r.card ≡ no_card)
        by (short-room s e) = refused_so e
        by (never s none e) = refused_so e
        by (again s given e) = absurd (other (again_number s given e))

    -- what is widened is what the reader gives for the message as it is written
    reread : r.number ≡ 0 → ReadAs L level (written L (counted l)) text segments leaves r text' segments' leaves'
    reread zero = by (outcome L room l)
      where
        by : Widening L room l → ReadAs L level (written L (counted l)) text segments leaves r text' segments' leaves'
        by (short-room s e) = absurd (omega (arith, zero, refused-number e))
        by (never s none e) = absurd (omega (arith, zero, refused-number e))
        by (again s given e) = subst (λ (o : Outcome). Gives o text segments leaves r text' segments' leaves') e w

    kept : r.number ≡ 0 → ReadTo L level (counted l) → counted (lent r.card segments' leaves' text') ≡ counted l
    kept zero to =
        let now = message-left L lawful level (written L (counted l)) (reread zero) zero in
        let back = round_trip L lawful level (stated L) to.0 (counted l) to.1 in
        let same : accepted (counted (lent r.card segments' leaves' text')) ≡ accepted (counted l) = sym now ∙ back in
        cc

  reads_as : (levels : ℕ → ℕ → ℕ) → Either levels → (message : List ℕ) {text segments leaves text₁ segments₁ leaves₁ : List ℕ} {r : Answer}
      → ReadAs L levels message text segments leaves r text₁ segments₁ leaves₁ → r.number ≡ 0
      → {newText newSegments newLeaves text₂ segments₂ leaves₂ : List ℕ} {s : Answer}
      → WidenedAs L (lent r.card segments₁ leaves₁ text₁) newText newSegments newLeaves s text₂ segments₂ leaves₂
      → ReadAs L level message newText newSegments newLeaves s text₂ segments₂ leaves₂
  reads_as levels either message {text₁ = text₁} {segments₁} {leaves₁} {r} read zero {newText} {newSegments} {newLeaves} {text₂} {segments₂} {leaves₂} {s} w =
      subst (λ (o : Outcome). Gives o newText newSegments newLeaves s text₂ segments₂ leaves₂)
      (widened_so levels either message (lent r.card segments₁ leaves₁ text₁) (message-left L lawful levels message read zero)
      (room_of newText newSegments newLeaves)) w

  pub widens : Widens L
  widens =
      record {
        reads_now = λ levels either message read yes w. reads_as levels either message read yes w;
        widened_exactly = λ l w. widened l w;
        short_exactly = λ l w. short_so l w;
        never_exactly = λ l w. never_so l w;
        refused-widening = λ l w other. refusal_kept l w other;
        one-widening = λ l g h.
            (only_one g.answer h.answer, only_one g.text_area h.text_area, only_one g.segment_rows h.segment_rows, only_one g.leaf_rows h.leaf_rows);
        table_now = λ l w zero. table-left L lawful level (written L (counted l)) (reread l w zero) zero;
        kept-numbers = λ l w zero to. kept l w zero to;
        one_rule = λ l w roomy i j h g a b. mixed l w roomy i j h g a b;
      }

-- for the small form
pub small_widens : Widens small_form
unfolding limits_of
small_widens = widens small_form (form_lawful Small)
