-- Pieces put one behind the other are one piece.
-- Assumes nothing.
use mathlib.Core.List.{List, [], ◌++◌}
use mathlib.Core.Path.{◌≡◌, refl, ap, ◌∙◌}
use Prim.Native.Nat.{ℕ, ◌+◌, ◌≤◌}
use native.Mathlib.Omega.{arith}
use lib.ListN.{length, length-append}
use lib.Seq.{sets, length-sets}
use Rattle.laws.proofs.Stores.{sets-append}
use Rattle.listing.specs.declared.put.Pen.{Pen}
use Rattle.listing.specs.inner.Putting.{Put, PutWithin, Wrote}

-- the same piece by another name
pub put_as : {output piece same output' : List ℕ} {at next : ℕ} → piece ≡ same → Put output at piece output' next → Put output at same output' next
put_as {output} {at = at} e p =
    record { stored = p.stored ∙ ap (sets output at) e; reached = p.reached ∙ ap (λ (s : List ℕ). at + length s) e }

module _ {output : List ℕ} {at : ℕ} where
  pub put-nothing : Put output at [] output at
  put-nothing = record { stored = refl; reached = omega arith }

  module _ {first output₁ : List ℕ} {next : ℕ} (p : Put output at first output₁ next) where
    pub put_then : {second output₂ : List ℕ} {after : ℕ} → Put output₁ next second output₂ after → Put output at (first ++ second) output₂ after
    put_then {second} q =
        record {
          stored =
              q.stored
              ∙ ap (λ (o : List ℕ). sets o next second) p.stored
              ∙ ap (λ (n : ℕ). sets (sets output at first) n second) p.reached
              ∙ sets-append output at first second;
          reached = omega (arith, q.reached, p.reached, length-append first second);
        }

    -- the output is as long as before
    pub put-length : length output₁ ≡ length output
    put-length = ap length p.stored ∙ length-sets output at first

pub within_as : {output piece same output' : List ℕ} {at most next : ℕ} → piece ≡ same → PutWithin most output at piece output' next
    → PutWithin most output at same output' next
within_as e w = record { put = put_as e w.put; few = w.few }

pub within-room : {output piece output' : List ℕ} {at most next : ℕ} → PutWithin most output at piece output' next → (more : ℕ)
    → at + (most + more) ≤ length output → next + more ≤ length output'
within-room w more room = omega (arith, w.few, put-length w.put, room)

-- one short piece behind another, and one with room to spare
pub within_then : {output first output₁ second output₂ : List ℕ} {at most next more after : ℕ} → PutWithin most output at first output₁ next
    → PutWithin more output₁ next second output₂ after → PutWithin (most + more) output at (first ++ second) output₂ after
within_then v w = record { put = put_then v.put w.put; few = omega (arith, v.few, w.few) }

pub within_more : {output piece output' : List ℕ} {at most more next : ℕ} → most ≤ more → PutWithin most output at piece output' next
    → PutWithin more output at piece output' next
within_more h w = record { put = w.put; few = omega (arith, w.few, h) }

-- the same of a pen
module _ {p q : Pen} {piece : List ℕ} {most : ℕ} (w : Wrote most p piece q) where
  pub wrote_then : {other : List ℕ} {more : ℕ} {r : Pen} → Wrote more q other r → Wrote (most + more) p (piece ++ other) r
  wrote_then v = record { same_reference = v.same_reference ∙ w.same_reference; within = within_then w.within v.within }

  pub wrote_more : {more : ℕ} → most ≤ more → Wrote more p piece q
  wrote_more h = record { same_reference = w.same_reference; within = within_more h w.within }

  pub wrote_as : {same : List ℕ} → piece ≡ same → Wrote most p same q
  wrote_as e = record { same_reference = w.same_reference; within = within_as e w.within }

  pub wrote_room : (more : ℕ) → p.at + (most + more) ≤ length p.output.now → q.at + more ≤ length q.output.now
  wrote_room more room = within-room w.within more room
