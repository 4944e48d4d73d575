-- What `sargaceu_write` answers: where the answer is too short, and where it has room.
-- Assumes nothing.
use mathlib.Core.List.{List, [], ◌∷◌}
use mathlib.Core.Path.{◌≡◌, refl, sym, ap, ◌∙◌, subst⁻¹}
use Prim.Native.Nat.{ℕ, ◌<◌, ◌≤◌}
use borrow.Author.Tests.{lt-ltb, le-ltb}
use lib.ListN.{length}
use Rattle.form.specs.declared.limits.Limits.{Limits}
use Rattle.form.specs.Numbers.{short_buffer}
use Rattle.order.specs.Owners.{level}
use Rattle.table.specs.declared.Card.{Card}
use Rattle.table.specs.Lent.{Lent, lent}
use Rattle.write.specs.declared.Written.{Written}
use Rattle.write.specs.Writing.{Writing, refuses, writing}
use Rattle.write.specs.Answer.{answer, output_after, WroteAs}
use Rattle.abi.specs.Putting.{put_all}
use Rattle.abi.specs.Writing.{write_outcome, write_numbers, TellsWriting, WroteInto}
use Rattle.abi.proofs.Puts.{put-short}

module _ (L : Limits) (table : Lent) (output numbers : List ℕ) where
  pub write_short_outcome : length numbers < 3 → write_outcome L table output numbers ≡ refuses short_buffer
  unfolding write_outcome
  write_short_outcome h = rw (lt-ltb (length numbers) 3 h, write_outcome)

  pub write_whole_outcome : 3 ≤ length numbers → write_outcome L table output numbers ≡ writing L level table (length output)
  unfolding write_outcome
  write_whole_outcome h = rw (le-ltb (length numbers) 3 h, write_outcome)

  pub write_short : length numbers < 3 → WroteInto L table output numbers short_buffer output numbers
  unfolding answer output_after write_numbers
  write_short h =
      subst⁻¹ (λ (w : Writing). TellsWriting w output numbers short_buffer output numbers) (write_short_outcome h)
      (record { number = refl; answers = sym (put-short numbers (write_numbers (refuses short_buffer)) h); message = refl })

-- the card that was written by is the one that came in
module _ (L : Limits) {card : Card} (taken : Card) (same : taken ≡ card) (segments leaves text output numbers : List ℕ) where
  pub write_whole : 3 ≤ length numbers → {r : Written} {output' numbers' : List ℕ}
      → WroteAs L level (lent taken segments leaves text) output r output'
      → numbers' ≡ put_all numbers (r.place ∷ r.bytes ∷ r.lines ∷ [])
      → WroteInto L (lent card segments leaves text) output numbers r.number output' numbers'
  unfolding write_numbers
  write_whole h {r} {output'} {numbers'} wrote stored =
      let came : writing L level (lent taken segments leaves text) (length output) ≡ write_outcome L (lent card segments leaves text) output numbers =
      ap (λ (c : Card). writing L level (lent c segments leaves text) (length output)) same
      ∙ sym (write_whole_outcome L (lent card segments leaves text) output numbers h) in
      let told = wrote.answers ∙ ap answer came in
      record {
        number = ap (λ (w : Written). w.number) told;
        answers = stored ∙ ap (λ (w : Written). put_all numbers (w.place ∷ w.bytes ∷ w.lines ∷ [])) told;
        message = wrote.message ∙ ap (output_after output) came;
      }
