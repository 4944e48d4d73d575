-- What the contracts of the line finder and of the walk rule out, on short messages: a finder that puts the CR into the line, skips a byte
-- after it, or refuses a line of full length; a walk that stays at the CR, or goes past a fault; a part that has the line's bytes and lies
-- elsewhere.
-- Assumes nothing.
use mathlib.Core.List.{List, [], ◌∷◌, ◌++◌}
use mathlib.Core.Path.{◌≡◌, refl, sym, ap, ◌∙◌}
use Prim.Native.Nat.{ℕ, ◌+◌, ◌-◌}
use native.Mathlib.Omega.{arith}
use lib.ListN.{replicate}
use denote.Ref.{Bor}
use Rattle.laws.specs.Parts.{Part, whole_of, part_of}
use Rattle.laws.proofs.Equality.{only_one}
use Rattle.laws.proofs.LentParts.{at_its_place, at_no_other}
use Rattle.form.specs.Forms.{small_form}
use Rattle.form.specs.Numbers.{control_byte, long_line}
use Rattle.line.specs.Lines.{CR}
use Rattle.line.specs.Finding.{text_run, low_run, text_ended, found_from, found_at, part_found, part_at, next_of}
use Rattle.line.specs.declared.finder.Found.{Found}
use Rattle.line.specs.declared.finder.Found.TheVariants.{Line, End, Fault}
use Rattle.line.proofs.Finding.{part_found-line}

-- two lines, of two bytes and of one
unfoldable pub two : List ℕ
two = 80 ∷ 49 ∷ CR ∷ 76 ∷ CR ∷ []

-- a byte below 32 inside a line
unfoldable pub spoilt : List ℕ
spoilt = 80 ∷ 7 ∷ 49 ∷ CR ∷ []

-- a line of as many bytes as a line may have
unfoldable pub full : List ℕ
full = replicate 219 65 ++ (CR ∷ [])

two_found : found_at small_form two 0 ≡ Line 2 3
unfolding two text_run low_run text_ended found_from
two_found = refl

spoilt_found : found_at small_form spoilt 0 ≡ Fault control_byte 1
unfolding spoilt text_run low_run text_ended found_from
spoilt_found = refl

full_found : found_at small_form full 0 ≡ Line 219 220
unfolding full text_run low_run text_ended found_from
full_found = refl

-- what meets the contract of `line_at`
module _ (f : List ℕ → ℕ → Found) (meets : (m : List ℕ) (at : ℕ) → f m at ≡ found_at small_form m at) where
  pub cr_in_the_line : f two 0 ≡ Line 3 3 → ⊥
  cr_in_the_line e = let z : ◌≡◌ {A = ℕ} 2 3 = cc (meets two 0, two_found) in omega arith

  pub byte_after_cr_skipped : f two 0 ≡ Line 2 4 → ⊥
  byte_after_cr_skipped e = let z : ◌≡◌ {A = ℕ} 3 4 = cc (meets two 0, two_found) in omega arith

  pub full_line_refused : (place : ℕ) → f full 0 ≡ Fault long_line place → ⊥
  full_line_refused place e = let z : ◌≡◌ {A = ℕ} 0 1 = cc (meets full 0, full_found) in omega arith

-- what meets the contract of `next_place`, and so of the walk's `go_on`
module _ (g : List ℕ → ℕ → ℕ) (meets : (m : List ℕ) (at : ℕ) → g m at ≡ next_of at (found_at small_form m at)) where
  pub stays_at_the_cr : g two 0 ≡ 2 → ⊥
  unfolding next_of
  stays_at_the_cr e =
      let next : next_of 0 (found_at small_form two 0) ≡ 3 = rw two_found in
      let z : ◌≡◌ {A = ℕ} 2 3 = sym e ∙ meets two 0 ∙ next in
      omega arith

  pub goes_past_a_fault : g spoilt 0 ≡ 1 → ⊥
  unfolding next_of
  goes_past_a_fault e =
      let next : next_of 0 (found_at small_form spoilt 0) ≡ 0 = rw spoilt_found in
      let z : ◌≡◌ {A = ℕ} 1 0 = sym e ∙ meets spoilt 0 ∙ next in
      omega arith

-- what meets the contract of `line_part`, and so of the walk's `part`
module _ (message r : Bor (List ℕ)) (at : ℕ) (meets : whole_of r ≡ part_at small_form message at) where
  in_the_block : (f : Found) → (part_found message at f).block ≡ message.ref_ptr.0
  unfolding part_found
  in_the_block (Line e n) = refl
  in_the_block End = refl
  in_the_block (Fault n p) = refl

  -- the same bytes in another block
  pub a_copy : (r.ref_ptr.0 ≡ message.ref_ptr.0 → ⊥) → ⊥
  a_copy elsewhere = elsewhere (ap (λ (p : Part). p.block) meets ∙ in_the_block (found_at small_form message.now at))

  -- the same bytes at another place of the message
  pub another_place : (e n b : ℕ) → found_at small_form message.now at ≡ Line e n → (b ≡ at → ⊥) → r.ref_ptr.1 ≡ b + message.ref_ptr.1 → ⊥
  another_place e n b found other lies = other (at_no_other r message at (e - at) (meets ∙ part_found-line at message (found_at small_form message.now at) e n found) b lies)

-- two lines of the same byte
unfoldable pub twins : List ℕ
twins = 76 ∷ CR ∷ 76 ∷ CR ∷ []

twins_found : found_at small_form twins 0 ≡ Line 1 2
unfolding twins text_run low_run text_ended found_from
twins_found = refl

module _ (message : Bor (List ℕ)) (lent : message.now ≡ twins) where
  -- their bytes do not tell them apart
  pub twins_alike : (part_of message 0 1).bytes ≡ (part_of message 2 1).bytes
  unfolding twins
  twins_alike = rw lent refl

  -- but the second is no answer for the first
  pub the_other_twin : (r : Bor (List ℕ)) → whole_of r ≡ part_at small_form message 0 → whole_of r ≡ part_of message 2 1 → ⊥
  the_other_twin r meets other =
      another_place message r 0 meets 1 2 2 (ap (λ (m : List ℕ). found_at small_form m 0) lent ∙ twins_found) (λ e. omega arith) (at_its_place r message 2 1 other)

-- any two parts that meet it are the same
pub one_part : (message r r' : Bor (List ℕ)) (at : ℕ) → whole_of r ≡ part_at small_form message at → whole_of r' ≡ part_at small_form message at → whole_of r ≡ whole_of r'
one_part message r r' at e e' = only_one e e'
