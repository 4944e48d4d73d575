-- The separator between two neighbouring leaf rows, by the first number of their places that differs.
-- Assumes nothing.
use mathlib.Core.Bool.{false}
use mathlib.Core.List.{List, [], ◌∷◌}
use mathlib.Core.Path.{◌≡◌, refl, sym, ap, ap₂, ◌∙◌}
use Prim.Native.Nat.{ℕ, ◌+◌, ◌*◌}
use native.Mathlib.Omega.{arith}
use lib.Dec.{eqb}
use lib.ListN.{get_or, take, drop}
use borrow.Author.Tests.{eq-eqb, ne_eqb, eqb-false}
use Rattle.laws.specs.Every.{none, also}
use Rattle.laws.proofs.Tests.{Tested, passed, failed, tested, never_both}
use Rattle.form.specs.declared.separators.Separators.{Separators}
use Rattle.form.specs.Header.{splitting}
use Rattle.line.specs.Lines.{CR}
use Rattle.table.specs.inner.Back.{between}
use Rattle.table.specs.inner.RowTests.{next_place}
use Rattle.table.proofs.Places.{between_here, between-later}
use Rattle.table.proofs.RowTests.{next-same}
use Rattle.write.specs.inner.Asked.{NextThere, NextInside}
use Rattle.write.proofs.PlaceTests.{five_at}
use Rattle.write.specs.inner.Filling.{InSegment}
use Rattle.write.specs.inner.Passing.{leading}
use Rattle.table.specs.Rows.{leaf_row_size, place_in}
use Rattle.table.specs.inner.Columns.{segment_in}

-- no separator between two places is CR where none of all is
between-clear : {ps : List ℕ} → InSegment ps → (from to : List ℕ) → eqb (between ps from to) CR ≡ false
unfolding between
between-clear none from to = refl
between-clear (also w ws) [] to = w
between-clear (also w ws) (m ∷ from) [] = w
between-clear (also {a} {s} w ws) (m ∷ from) (n ∷ to) = go (tested (eqb m n)) (between-clear ws from to)
  where
    go : Tested (eqb m n) → eqb (between s from to) CR ≡ false → eqb (between (a ∷ s) (m ∷ from) (n ∷ to)) CR ≡ false
    go (passed e) later = ap (λ (b : ℕ). eqb b CR) (between-later a s m n from to e) ∙ later
    go (failed e) later = ap (λ (b : ℕ). eqb b CR) (between_here a s m n from to e) ∙ w

-- no place comes next after itself
never-next : (p : List ℕ) → next_place p p ≡ false
unfolding next_place
never-next [] = refl
never-next (m ∷ p) = next-same m p m p refl ∙ never-next p

module _ (ps : Separators) {rows : List ℕ} {row : ℕ} (w : NextThere rows row) where
  -- the numbers of the two places
  abbrev here : ℕ → ℕ
  here j = get_or rows (row * leaf_row_size + j) 0

  abbrev there : ℕ → ℕ
  there j = get_or rows (row * leaf_row_size + leaf_row_size + j) 0

  abbrev first : ℕ
  first = segment_in rows row

  abbrev next : ℕ
  next = get_or rows (row * leaf_row_size + leaf_row_size) 0

  after : row * leaf_row_size + leaf_row_size ≡ (row + 1) * leaf_row_size
  after = omega arith

  place_here : place_in rows row ≡ first ∷ here 1 ∷ here 2 ∷ here 3 ∷ here 4 ∷ []
  place_here = five_at rows (row * leaf_row_size) (omega (arith, w.long))

  place-there : place_in rows (row + 1) ≡ next ∷ there 1 ∷ there 2 ∷ there 3 ∷ there 4 ∷ []
  place-there =
      ap (λ (k : ℕ). take 5 (drop k rows)) (sym after) ∙ five_at rows (row * leaf_row_size + leaf_row_size) (omega (arith, w.long))

  pub next-inside : first ≡ next → NextInside rows row
  next-inside e = record { row_there = w; same = e ∙ ap (λ (k : ℕ). get_or rows k 0) after }

  -- the separator that leads from one row to the next
  abbrev pub Between : ℕ → Type 0
  Between b = b ≡ leading ps rows row

  abbrev four : List ℕ
  four = ps.field ∷ ps.repeater ∷ ps.subfield ∷ ps.subsubfield ∷ []

  -- what is left of the places, and of the separators, after some numbers that are the same
  record Left (qs from to : List ℕ) : Type 0 where
    so : between qs from to ≡ leading ps rows row

  differs : {p : ℕ} {qs : List ℕ} {m n : ℕ} {from to : List ℕ} → Left (p ∷ qs) (m ∷ from) (n ∷ to) → (m ≡ n → ⊥) → Between p
  differs {p} {qs} {m} {n} {from} {to} l d = sym (between_here p qs m n from to (ne_eqb m n d)) ∙ l.so

  agrees : {p : ℕ} {qs : List ℕ} {m n : ℕ} {from to : List ℕ} → Left (p ∷ qs) (m ∷ from) (n ∷ to) → m ≡ n → Left qs from to
  agrees {p} {qs} {m} {n} {from} {to} l e = record { so = sym (between-later p qs m n from to (eq-eqb m n e)) ∙ l.so }

  whole : Left (CR ∷ four) (first ∷ here 1 ∷ here 2 ∷ here 3 ∷ here 4 ∷ []) (next ∷ there 1 ∷ there 2 ∷ there 3 ∷ there 4 ∷ [])
  unfolding splitting
  whole = record { so = sym (ap₂ (between (CR ∷ four)) place_here place-there) }

  pub other-segment : (first ≡ next → ⊥) → Between CR
  other-segment = differs whole

  module _ (s : first ≡ next) where
    -- within a segment it is not CR
    pub inside-clear : InSegment (splitting ps) → {b : ℕ} → Between b → b ≡ CR → ⊥
    unfolding splitting
    inside-clear v {b} e =
        eqb-false b CR
        (ap (λ (n : ℕ). eqb n CR) (e ∙ sym (agrees whole s).so)
        ∙ between-clear v (here 1 ∷ here 2 ∷ here 3 ∷ here 4 ∷ []) (there 1 ∷ there 2 ∷ there 3 ∷ there 4 ∷ []))

    pub other_field : (here 1 ≡ there 1 → ⊥) → Between ps.field
    other_field = differs (agrees whole s)

    module _ (f : here 1 ≡ there 1) where
      pub other_repetition : (here 2 ≡ there 2 → ⊥) → Between ps.repeater
      other_repetition = differs (agrees (agrees whole s) f)

      module _ (r : here 2 ≡ there 2) where
        pub other_subfield : (here 3 ≡ there 3 → ⊥) → Between ps.subfield
        other_subfield = differs (agrees (agrees (agrees whole s) f) r)

        -- the last numbers differ, since the places do
        pub other_subsubfield : here 3 ≡ there 3 → Between ps.subsubfield
        other_subsubfield u =
            differs (agrees (agrees (agrees (agrees whole s) f) r) u)
            (λ e. never_both w.next
            (ap₂ next_place place_here (place-there ∙ cc) ∙ never-next (first ∷ here 1 ∷ here 2 ∷ here 3 ∷ here 4 ∷ [])))

-- the same from what a row inside a segment is known by
pub inside-same : {rows : List ℕ} {row : ℕ} → NextInside rows row → segment_in rows row ≡ get_or rows (row * leaf_row_size + leaf_row_size) 0
inside-same {rows} {row} w = w.same ∙ ap (λ (k : ℕ). get_or rows k 0) (let e : (row + 1) * leaf_row_size ≡ row * leaf_row_size + leaf_row_size = omega arith in e)
