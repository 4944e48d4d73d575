-- Going on: a walk that was opened and went on k times stands at the k-th line of the message, and then at its end or fault for ever.
-- Assumes nothing.
use mathlib.Core.Path.{◌≡◌, refl, sym, ap, ap₂, ◌∙◌}
use mathlib.Core.List.{List}
use Prim.Native.Nat.{ℕ, zero, suc, ◌+◌, ◌-◌, ◌≤◌}
use native.Mathlib.Nat.{suc-add, zero-add}
use native.Mathlib.Omega.{arith}
use lib.Dec.{lit≤}
use lib.ListN.{take, drop}
use denote.Ref.{Bor}
use Rattle.laws.specs.Parts.{Part}
use Rattle.form.specs.declared.limits.Limits.{Limits}
use Rattle.form.specs.Forms.{small_form}
use Rattle.line.specs.Lines.{Lines, end, fault, line, walk_from, walk}
use Rattle.line.specs.Finding.{found_at, part_found, part_at, next_of}
use Rattle.line.specs.inner.Ending.{handed_out}
use Rattle.line.specs.Going.{walk_after, place_after, after}
use Rattle.line.specs.declared.finder.Found.{Found}
use Rattle.line.specs.declared.finder.Found.TheVariants.{Line, End, Fault}
use Rattle.line.proofs.Handing.{walk_from-found}

-- one line more
pub after_suc : (k : ℕ) (ls : Lines) → after (suc k) ls ≡ after 1 (after k ls)
unfolding after
after_suc zero ls = refl
after_suc (suc k) end = refl
after_suc (suc k) (fault n p) = refl
after_suc (suc k) (line t ls) = after_suc k ls

module _ (L : Limits) (m : List ℕ) where
  -- what is found at a place tells the walk from the next place
  next_walked :
      (at : ℕ) (f : Found)
      → walk_from L at (drop at m) ≡ handed_out L m at f
      → walk_from L (next_of at f) (drop (next_of at f) m) ≡ after 1 (walk_from L at (drop at m))
  unfolding handed_out next_of after
  next_walked at (Line e n) h = sym (ap (after 1) h)
  next_walked at End h = h ∙ sym (ap (after 1) h)
  next_walked at (Fault n p) h = h ∙ sym (ap (after 1) h)

  -- what a found thing hands out shows what it is
  handed_end : (at : ℕ) (f : Found) → handed_out L m at f ≡ end → f ≡ End
  unfolding handed_out
  handed_end at (Line e n) h = let z : ◌≡◌ {A = ℕ} 0 1 = cc in absurd (omega arith)
  handed_end at End h = refl
  handed_end at (Fault n p) h = let z : ◌≡◌ {A = ℕ} 0 1 = cc in absurd (omega arith)

  handed_fault : (at : ℕ) (f : Found) (n p : ℕ) → handed_out L m at f ≡ fault n p → f ≡ Fault n p
  unfolding handed_out
  handed_fault at (Line e k) n p h = let z : ◌≡◌ {A = ℕ} 0 1 = cc in absurd (omega arith)
  handed_fault at End n p h = let z : ◌≡◌ {A = ℕ} 0 1 = cc in absurd (omega arith)
  handed_fault at (Fault k r) n p h = let a : k ≡ n = cc in let b : r ≡ p = cc in ap₂ Fault a b

  module _ (one : 1 ≤ L.line) where
    -- a walk that went on k times has the lines after the first k before it
    pub going_on : (k : ℕ) → walk_from L (place_after L m k) (drop (place_after L m k) m) ≡ after k (walk L m)
    unfolding place_after after walk
    going_on zero = refl
    going_on (suc k) =
        next_walked (place_after L m k) (found_at L m (place_after L m k)) (walk_from-found m (place_after L m k) L one)
        ∙ ap (after 1) (going_on k)
        ∙ sym (after_suc k (walk L m))

    -- so what is found there is the k-th line, the end or the fault
    pub handed_after : (k : ℕ) → handed_out L m (place_after L m k) (found_at L m (place_after L m k)) ≡ after k (walk L m)
    handed_after k = sym (walk_from-found m (place_after L m k) L one) ∙ going_on k

    pub found-after-end : (k : ℕ) → after k (walk L m) ≡ end → found_at L m (place_after L m k) ≡ End
    found-after-end k h = handed_end (place_after L m k) (found_at L m (place_after L m k)) (handed_after k ∙ h)

    pub found-after-fault : (k n p : ℕ) → after k (walk L m) ≡ fault n p → found_at L m (place_after L m k) ≡ Fault n p
    found-after-fault k n p h = handed_fault (place_after L m k) (found_at L m (place_after L m k)) n p (handed_after k ∙ h)

  -- at an end or a fault the place stays, for ever
  pub stays : (k j : ℕ) → next_of (place_after L m k) (found_at L m (place_after L m k)) ≡ place_after L m k → place_after L m (j + k) ≡ place_after L m k
  unfolding place_after
  stays k zero h = rw (zero-add k)
  stays k (suc j) h =
      ap (place_after L m) (suc-add j k) ∙ ap (λ (p : ℕ). next_of p (found_at L m p)) (stays k j h) ∙ h

-- the bytes of a lent message from a place on
abbrev pub standing : Bor (List ℕ) → ℕ → List ℕ → Part
standing s at t = record { block = s.ref_ptr.0; offset = at + s.ref_ptr.1; bytes = t }

-- The part that is the k-th line stands at its place of the message and has its text.
module _ (L : Limits) (s : Bor (List ℕ)) where
  handed_line : (at : ℕ) (f : Found) (t : List ℕ) (ls : Lines) → handed_out L s.now at f ≡ line t ls → part_found s at f ≡ standing s at t
  unfolding handed_out part_found
  handed_line at (Line e k) t ls h = let e : take (e - at) (drop at s.now) ≡ t = cc in ap (standing s at) e
  handed_line at End t ls h = let z : ◌≡◌ {A = ℕ} 0 1 = cc in absurd (omega arith)
  handed_line at (Fault k r) t ls h = let z : ◌≡◌ {A = ℕ} 0 1 = cc in absurd (omega arith)

  pub part_after_line :
      1 ≤ L.line
      → (k : ℕ) (t : List ℕ) (ls : Lines)
      → after k (walk L s.now) ≡ line t ls
      → part_at L s (place_after L s.now k) ≡ standing s (place_after L s.now k) t
  part_after_line one k t ls h =
      let at = place_after L s.now k in
      handed_line at (found_at L s.now at) t ls (handed_after L s.now one k ∙ h)

-- The walk that `open` and then k times `go_on` hand out, by their contracts.
module _ (s : Bor (List ℕ)) where
  pub walk_after-message : (k : ℕ) → (walk_after s k).message ≡ s
  unfolding walk_after
  walk_after-message zero = refl
  walk_after-message (suc k) = walk_after-message k

  pub walk_after-place : (k : ℕ) → (walk_after s k).at ≡ place_after small_form s.now k
  unfolding walk_after place_after
  walk_after-place zero = refl
  walk_after-place (suc k) =
      ap₂ (λ (x : Bor (List ℕ)) (p : ℕ). next_of p (found_at small_form x.now p)) (walk_after-message k) (walk_after-place k)

  -- Opening and going on k times gives the k-th line of the message, and then its end or fault for ever: `look` and `part` answer so.
  pub walk_after-lines :
      (k : ℕ)
      → handed_out small_form s.now (walk_after s k).at (found_at small_form (walk_after s k).message.now (walk_after s k).at) ≡ after k (walk small_form s.now)
  walk_after-lines k =
      ap₂ (λ (x : Bor (List ℕ)) (p : ℕ). handed_out small_form s.now p (found_at small_form x.now p)) (walk_after-message k) (walk_after-place k)
      ∙ handed_after small_form s.now (lit≤ tt) k
