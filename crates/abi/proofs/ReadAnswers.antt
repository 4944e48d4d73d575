-- What is told of reading a message, and of widening a table: where the answer is too short, and where it has room.
-- Assumes nothing.
use mathlib.Core.List.{List}
use mathlib.Core.Path.{◌≡◌, refl, sym, ap, ◌∙◌, subst⁻¹}
use Prim.Native.Nat.{ℕ, ◌<◌, ◌≤◌}
use borrow.Author.Tests.{lt-ltb, le-ltb}
use lib.ListN.{length}
use Rattle.form.specs.Numbers.{short_buffer}
use Rattle.table.specs.Reading.{Outcome, refused}
use Rattle.read.specs.declared.Answer.{Answer}
use Rattle.read.specs.Answering.{answer_of, text_put, segments_put, leaves_put, Gives}
use Rattle.abi.specs.Cards.{card_numbers}
use Rattle.abi.specs.Putting.{put_all}
use Rattle.abi.specs.Reading.{told_in, filed_numbers, TellsOutcome}
use Rattle.abi.proofs.Puts.{put-short}

module _ (answer : List ℕ) (o : Outcome) where
  told-short : length answer < 6 → told_in answer o ≡ refused short_buffer 0
  unfolding told_in
  told-short h = rw (lt-ltb (length answer) 6 h, told_in)

  pub told-whole : 6 ≤ length answer → told_in answer o ≡ o
  unfolding told_in
  told-whole h = rw (le-ltb (length answer) 6 h, told_in)

  pub tells_short : length answer < 6 → (text segments leaves : List ℕ)
      → TellsOutcome (told_in answer o) text segments leaves answer short_buffer text segments leaves answer
  unfolding answer_of text_put segments_put leaves_put card_numbers
  tells_short h text segments leaves =
      subst⁻¹ (λ (p : Outcome). TellsOutcome p text segments leaves answer short_buffer text segments leaves answer) (told-short h)
      (record {
        number = refl;
        numbers = sym (put-short answer (filed_numbers (answer_of (refused short_buffer 0))) h);
        text_area = refl;
        segment_rows = refl;
        leaf_rows = refl;
      })

  pub tells_whole : 6 ≤ length answer → {r : Answer} {n : ℕ} {text segments leaves text' segments' leaves' answer' : List ℕ}
      → Gives o text segments leaves r text' segments' leaves' → (n ≡ r.number) × (answer' ≡ put_all answer (filed_numbers r))
      → TellsOutcome (told_in answer o) text segments leaves answer n text' segments' leaves' answer'
  tells_whole h {r} {n} {text} {segments} {leaves} {text'} {segments'} {leaves'} {answer'} gives stored =
      subst⁻¹ (λ (p : Outcome). TellsOutcome p text segments leaves answer n text' segments' leaves' answer') (told-whole h)
      (record {
        number = stored.0 ∙ ap (λ (a : Answer). a.number) gives.answer;
        numbers = stored.1 ∙ ap (λ (a : Answer). put_all answer (filed_numbers a)) gives.answer;
        text_area = gives.text_area;
        segment_rows = gives.segment_rows;
        leaf_rows = gives.leaf_rows;
      })
