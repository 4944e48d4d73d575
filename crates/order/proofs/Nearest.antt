-- One row more in what is known of the nearest rows: what stands at each place, and the loop that writes it.
-- Assumes nothing.
use mathlib.Core.List.{List}
use mathlib.Core.Path.{◌≡◌, refl, sym, ap, ap₂, ◌∙◌}
use Prim.Native.Nat.{ℕ, zero, suc, ◌+◌, ◌-◌, ◌≤◌, ◌<◌}
use native.Mathlib.Nat.{add-zero, add-suc, suc-add}
use native.Mathlib.Numerals.{add-one}
use native.Mathlib.Omega.{arith}
use borrow.Author.Tests.{eq-eqb, ne_eqb, lt-ltb, le-ltb}
use lib.ListN.{length, get_or, set, replicate, length-set}
use lib.Seq.{sets, length-sets, get_or-set_same, get_or-set_other}
use Rattle.order.specs.Owners.{is_c}
use Rattle.order.specs.inner.Owning.{level_place, added}

-- the cases of a kind's place
module _ (k l : ℕ) where
  pub place_C : k ≡ 12 → level_place k l ≡ 8
  unfolding level_place is_c
  place_C e = rw (eq-eqb k 12 e, level_place, is_c)

  pub place-level : (k ≡ 12 → ⊥) → l < 8 → level_place k l ≡ l
  unfolding level_place is_c
  place-level n h = rw (ne_eqb k 12 n, lt-ltb l 8 h, level_place, is_c)

  pub place_above : (k ≡ 12 → ⊥) → 8 ≤ l → level_place k l ≡ 8
  unfolding level_place is_c
  place_above n h = rw (ne_eqb k 12 n, le-ltb l 8 h, level_place, is_c)

-- a run of one row: what stands before it is kept, what lies in it is the row
run-before : (n i s : ℕ) (l : List ℕ) (row : ℕ) → s < i → get_or (sets l i (replicate n row)) s 0 ≡ get_or l s 0
run-before zero i s l row h = refl
run-before (suc n) i s l row h =
    run-before n (suc i) s (set l i row) row (omega arith) ∙ get_or-set_other l i s row 0 (λ e. let z : ⊥ = omega arith in z)

run-within : (n i j : ℕ) (l : List ℕ) (row : ℕ) → j < n → i + n ≤ length l → get_or (sets l i (replicate n row)) (i + j) 0 ≡ row
run-within zero i j l row h g = let z : ⊥ = omega arith in absurd z
run-within (suc n) i zero l row h g =
    ap (λ (m : ℕ). get_or (sets (set l i row) (suc i) (replicate n row)) m 0) (add-zero i)
    ∙ run-before n (suc i) i (set l i row) row (omega arith) ∙ get_or-set_same l i row 0 (omega arith)
run-within (suc n) i (suc j) l row h g =
    ap (λ (m : ℕ). get_or (sets (set l i row) (suc i) (replicate n row)) m 0) (add-suc i j ∙ sym (suc-add i j))
    ∙ run-within n (suc i) j (set l i row) row (omega arith) (simp length-set (omega arith))

module _ (nearest : List ℕ) (place row : ℕ) where
  pub length-added : length (added nearest place row) ≡ length nearest
  unfolding added
  length-added = length-sets nearest (place + 1) (replicate (8 - place) row)

  pub added-below : (s : ℕ) → s ≤ place → get_or (added nearest place row) s 0 ≡ get_or nearest s 0
  unfolding added
  added-below s h = run-before (8 - place) (place + 1) s nearest row (omega arith)

  pub added_above : (s : ℕ) → place < s → s ≤ 8 → length nearest ≡ 9 → get_or (added nearest place row) s 0 ≡ row
  unfolding added
  added_above s h g e =
      let i : place + 1 + (s - (place + 1)) ≡ s = omega arith in
      ap (λ (m : ℕ). get_or (sets nearest (place + 1) (replicate (8 - place) row)) m 0) (sym i)
      ∙ run-within (8 - place) (place + 1) (s - (place + 1)) nearest row (omega arith) (omega arith)

-- the loop that writes the row at every place above: up to the row's own place nothing is written, and from there on what is still to be
-- written gives the whole

pub record Writing (nearest₀ : List ℕ) (place row : ℕ) (nearest : List ℕ) (above : ℕ) : Type 0 where
  pub within : above ≤ 9
  pub kept : above ≤ place → nearest ≡ nearest₀
  pub rest : place < above → sets nearest above (replicate (9 - above) row) ≡ added nearest₀ place row

-- just above the place all is still to be written
rest-begins : (nearest : List ℕ) (place row above : ℕ) → above ≡ place + 1
    → sets nearest above (replicate (9 - above) row) ≡ added nearest place row
unfolding added
rest-begins nearest place row above e =
    let n : 9 - above ≡ 8 - place = omega arith in
    ap₂ (λ (i m : ℕ). sets nearest i (replicate m row)) e n

pub writing_begins : (nearest : List ℕ) (place row : ℕ) → Writing nearest place row nearest 1
writing_begins nearest place row =
    record { within = omega arith; kept = λ h. refl; rest = λ h. rest-begins nearest place row 1 (omega arith) }

module _ {nearest₀ : List ℕ} {place row : ℕ} {nearest : List ℕ} {above : ℕ} (w : Writing nearest₀ place row nearest above) where
  pub writing_on : above < 9 → place < above → Writing nearest₀ place row (set nearest above row) (above + 1)
  writing_on h past =
      let n : 9 - above ≡ suc (9 - (above + 1)) = omega arith in
      record {
        within = omega arith;
        kept = λ k. let z : ⊥ = omega arith in absurd z;
        rest = λ k. ap (λ (i : ℕ). sets (set nearest above row) i (replicate (9 - (above + 1)) row)) (add-one above)
            ∙ ap (λ (m : ℕ). sets nearest above (replicate m row)) (sym n) ∙ w.rest past;
      }

  pub writing_waits : above < 9 → above ≤ place → Writing nearest₀ place row nearest (above + 1)
  writing_waits h below =
      record {
        within = omega arith;
        kept = λ k. w.kept below;
        rest = λ k.
            ap (λ (v : List ℕ). sets v (above + 1) (replicate (9 - (above + 1)) row)) (w.kept below)
            ∙ rest-begins nearest₀ place row (above + 1) (omega arith);
      }

  pub writing-done : place ≤ 8 → 9 ≤ above → nearest ≡ added nearest₀ place row
  writing-done p h =
      let n : 9 - above ≡ 0 = omega arith in
      ap (λ (m : ℕ). sets nearest above (replicate m row)) (sym n) ∙ w.rest (omega arith)
