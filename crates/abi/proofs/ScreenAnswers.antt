-- What `sargaceu_screen` answers: where the answer is too short, and where it has room.
-- Assumes nothing.
use mathlib.Core.List.{List, [], ◌∷◌}
use mathlib.Core.Path.{◌≡◌, refl, sym, ap, ◌∙◌, subst⁻¹}
use Prim.Native.Nat.{ℕ, ◌<◌, ◌≤◌}
use borrow.Author.Tests.{lt-ltb, le-ltb}
use lib.ListN.{length}
use Rattle.form.specs.declared.limits.Limits.{Limits}
use Rattle.form.specs.Numbers.{short_buffer}
use Rattle.order.specs.Owners.{level}
use Rattle.table.specs.declared.Card.{Card}
use Rattle.table.specs.Lent.{Lent, lent}
use Rattle.screen.specs.declared.Verdict.{Verdict}
use Rattle.screen.specs.Verdicts.{refused_with, screened}
use Rattle.abi.specs.Putting.{put_all}
use Rattle.abi.specs.Screening.{screen_outcome, TellsVerdict, ScreenedInto}
use Rattle.abi.proofs.Puts.{put-short}

module _ (L : Limits) (table : Lent) (answer : List ℕ) where
  pub screen_short_outcome : length answer < 1 → screen_outcome L table answer ≡ refused_with short_buffer
  unfolding screen_outcome
  screen_short_outcome h = rw (lt-ltb (length answer) 1 h, screen_outcome)

  pub screen_whole_outcome : 1 ≤ length answer → screen_outcome L table answer ≡ screened L level table
  unfolding screen_outcome
  screen_whole_outcome h = rw (le-ltb (length answer) 1 h, screen_outcome)

  pub screen_short : length answer < 1 → ScreenedInto L table answer short_buffer answer
  screen_short h =
      subst⁻¹ (λ (v : Verdict). TellsVerdict v answer short_buffer answer) (screen_short_outcome h)
      (record { number = refl; answers = sym (put-short answer (0 ∷ []) h) })

-- the card that was judged by is the one that came in
module _ (L : Limits) {card : Card} (taken : Card) (same : taken ≡ card) (segments leaves text answer : List ℕ) where
  pub screen_whole : 1 ≤ length answer → {v : Verdict} {answer' : List ℕ} → v ≡ screened L level (lent taken segments leaves text)
      → answer' ≡ put_all answer (v.place ∷ []) → ScreenedInto L (lent card segments leaves text) answer v.number answer'
  screen_whole h {v} {answer'} judged stored =
      let told : v ≡ screen_outcome L (lent card segments leaves text) answer =
      judged
      ∙ ap (λ (c : Card). screened L level (lent c segments leaves text)) same
      ∙ sym (screen_whole_outcome L (lent card segments leaves text) answer h) in
      record {
        number = ap (λ (w : Verdict). w.number) told;
        answers = stored ∙ ap (λ (w : Verdict). put_all answer (w.place ∷ [])) told;
      }
