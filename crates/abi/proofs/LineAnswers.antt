-- What `sargaceu_line` answers.
-- Assumes nothing.
use mathlib.Core.List.{List, [], ◌∷◌}
use mathlib.Core.Path.{◌≡◌, sym, ◌∙◌, subst⁻¹}
use Prim.Native.Nat.{ℕ, ◌<◌, ◌≤◌}
use borrow.Author.Tests.{lt-ltb, le-ltb}
use lib.ListN.{length}
use Rattle.form.specs.Numbers.{short_buffer}
use Rattle.line.specs.declared.finder.Found.{Found}
use Rattle.line.specs.declared.finder.Found.TheVariants.{Line, End, Fault}
use Rattle.line.specs.Finding.{next_of}
use Rattle.abi.specs.Putting.{put_all}
use Rattle.abi.specs.Lines.{number_of, end_of, number_for, FoundLine}
use Rattle.abi.proofs.Puts.{put-short}

module _ (found : Found) (at : ℕ) (answer : List ℕ) where
  pub line-short : length answer < 2 → FoundLine found at answer short_buffer answer
  unfolding number_for
  line-short h =
      record {
        number = rw (lt-ltb (length answer) 2 h, number_for);
        places = sym (put-short answer (end_of at found ∷ next_of at found ∷ []) h);
      }

  module _ (room : 2 ≤ length answer) where
    line-number : number_of found ≡ number_for found answer
    unfolding number_for
    line-number = rw (le-ltb (length answer) 2 room, number_for)

    pub line-told : {r : ℕ} {answer' : List ℕ} → r ≡ number_of found → answer' ≡ put_all answer (end_of at found ∷ next_of at found ∷ [])
        → FoundLine found at answer r answer'
    line-told number places = record { number = number ∙ line-number; places = places }

module _ {found : Found} (at : ℕ) (answer : List ℕ) (room : 2 ≤ length answer) {r : ℕ} {answer' : List ℕ} where
  pub line-found : (e n : ℕ) → found ≡ Line e n → (r ≡ 0) × (answer' ≡ put_all answer (e ∷ n ∷ [])) → FoundLine found at answer r answer'
  unfolding number_of end_of next_of
  line-found e n is told = subst⁻¹ (λ (f : Found). FoundLine f at answer r answer') is (line-told (Line e n) at answer room told.0 told.1)

  pub line-end : found ≡ End → (r ≡ 0) × (answer' ≡ put_all answer (at ∷ at ∷ [])) → FoundLine found at answer r answer'
  unfolding number_of end_of next_of
  line-end is told = subst⁻¹ (λ (f : Found). FoundLine f at answer r answer') is (line-told End at answer room told.0 told.1)

  pub line-fault : (number place : ℕ) → found ≡ Fault number place → (r ≡ number) × (answer' ≡ put_all answer (place ∷ at ∷ []))
      → FoundLine found at answer r answer'
  unfolding number_of end_of next_of
  line-fault number place is told =
      subst⁻¹ (λ (f : Found). FoundLine f at answer r answer') is (line-told (Fault number place) at answer room told.0 told.1)
