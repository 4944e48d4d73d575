-- A message that is accepted under some limits gives the same answer and the same table under larger ones (rule T8).
-- Assumes nothing.
use mathlib.Core.Bool.{false}
use mathlib.Core.List.{List}
use mathlib.Core.Path.{◌≡◌, sym, ap, ◌∙◌}
use Prim.Native.Nat.{ℕ}
use Rattle.form.specs.declared.limits.Limits.{Limits}
use Rattle.form.specs.Limits.{Lawful, NoLess}
use Rattle.table.specs.Lent.{lent, counted}
use Rattle.table.specs.Rows.{Table}
use Rattle.table.specs.Reading.{room_of, short, accepted, reading}
use Rattle.table.proofs.Accepting.{accepting, any-room}
use Rattle.table.proofs.LargerLimits.{accepted_still}
use Rattle.read.specs.declared.Answer.{Answer}
use Rattle.read.specs.Answering.{answer_of, ReadAs}
use Rattle.read.proofs.Acceptance.{number-accepted}
use Rattle.read.proofs.OnlyOne.{reading-numbered}
use Rattle.tested.proofs.TableLeft.{left-counted}

module _ (K : Limits) (lawful : Lawful K) (L : Limits) (lawful' : Lawful L) (more : NoLess K L) (levels : ℕ → ℕ → ℕ) (message : List ℕ)
    {text segments leaves text' segments' leaves' : List ℕ} {r : Answer} (less : ReadAs K levels message text segments leaves r text' segments' leaves')
    (yes : r.number ≡ 0) where
  -- its table
  table : (t : Table) × (reading K levels (room_of text segments leaves) message ≡ accepted t)
  table =
      let room = room_of text segments leaves in
      (number-accepted (reading K levels room message) less (reading-numbered K levels room message)).0 yes

  module _ {text₁ segments₁ leaves₁ text₂ segments₂ leaves₂ : List ℕ} {s : Answer} (roomy : short L (room_of text₁ segments₁ leaves₁) ≡ false)
      (read : ReadAs L levels message text₁ segments₁ leaves₁ s text₂ segments₂ leaves₂) where
    still : reading L levels (room_of text₁ segments₁ leaves₁) message ≡ accepted table.0
    still =
        let room = room_of text segments leaves in
        let passed = ((accepting K levels room message table.0).0 table.1).roomy in
        any-room L levels (room_of text₁ segments₁ leaves₁) message roomy
        ∙ accepted_still K L more levels message table.0 (sym (any-room K levels room message passed) ∙ table.1)

    pub same-table : (s ≡ r) × (counted (lent s.card segments₂ leaves₂ text₂) ≡ counted (lent r.card segments' leaves' text'))
    same-table = (
      read.answer ∙ ap answer_of (still ∙ sym table.1) ∙ sym less.answer,
      left-counted L lawful' levels message read table.0 still ∙ sym (left-counted K lawful levels message less table.0 table.1),
    )
