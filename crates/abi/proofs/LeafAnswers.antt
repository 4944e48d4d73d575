-- What `sargaceu_find_leaf` and `sargaceu_find_leaf_in_segment` answer.
-- Assumes nothing.
use mathlib.Core.List.{List, [], ◌∷◌}
use mathlib.Core.Path.{◌≡◌, sym, ap, ◌∙◌, subst}
use Prim.Native.Nat.{ℕ}
use native.Mathlib.Omega.{arith}
use Rattle.table.specs.declared.Card.{Card}
use Rattle.table.specs.Lent.{Lent, lent}
use Rattle.look.specs.declared.leaf.Place.{Place}
use Rattle.look.specs.declared.leaf.Sought.{Sought}
use Rattle.look.specs.declared.leaf.Sought.TheVariants.{At, Empty, NotThere}
use Rattle.look.specs.Looking.{sought_number}
use Rattle.abi.specs.Putting.{put_all}
use Rattle.abi.specs.Looking.{leaf_numbers, TellsSought}
use Rattle.abi.proofs.Puts.{put_whole}

module _ {s : Sought} (answer : List ℕ) {r : ℕ} (told : r ≡ sought_number s) {answer' : List ℕ} where
  pub leaf_with_text : (start n : ℕ) → s ≡ At start n → answer' ≡ put_all answer (start ∷ n ∷ []) → TellsSought s answer r answer'
  unfolding leaf_numbers
  leaf_with_text start n found stored =
      record { told = told; numbers = stored ∙ sym (ap (λ (t : Sought). put_all answer (leaf_numbers t)) found) }

  pub leaf_empty : s ≡ Empty → answer' ≡ put_all answer (0 ∷ 0 ∷ []) → TellsSought s answer r answer'
  unfolding leaf_numbers
  leaf_empty found stored = record { told = told; numbers = stored ∙ sym (ap (λ (t : Sought). put_all answer (leaf_numbers t)) found) }

module _ {s : Sought} (answer : List ℕ) {r : ℕ} (told : r ≡ sought_number s) where
  pub leaf_not_there : s ≡ NotThere → TellsSought s answer r answer
  unfolding leaf_numbers
  leaf_not_there none =
      record { told = told; numbers = sym (ap (λ (t : Sought). put_all answer (leaf_numbers t)) none ∙ put_whole answer [] (omega arith)) }

-- told of a lookup that goes by the card that came in
pub tells_looked : (lookup : Lent → Place → Sought) {card read : Card} {segments leaves text : List ℕ} {place : Place} {s : Sought} {answer : List ℕ} {r : ℕ}
    {answer' : List ℕ} → TellsSought s answer r answer' → s ≡ lookup (lent read segments leaves text) place → read ≡ card
    → TellsSought (lookup (lent card segments leaves text) place) answer r answer'
tells_looked lookup {segments = segments} {leaves = leaves} {text = text} {place = place} {answer = answer} {r = r} {answer' = answer'} told found same =
    subst (λ (u : Sought). TellsSought u answer r answer') (found ∙ ap (λ (k : Card). lookup (lent k segments leaves text) place) same) told
