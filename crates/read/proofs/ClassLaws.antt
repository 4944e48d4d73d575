-- What the class of a byte says of one pass: a byte of class 0 is text, one of class 1 to 4 a separator of that sort.
-- Assumes nothing.
use mathlib.Core.Bool.{false}
use mathlib.Core.List.{List, [], ◌∷◌}
use mathlib.Core.Path.{◌≡◌, refl, sym, ap, ◌∙◌}
use Prim.Native.Nat.{ℕ, zero, suc, ◌<◌}
use native.Mathlib.Numerals.{add-one}
use native.Mathlib.Omega.{arith}
use lib.Dec.{eqb}
use lib.ListN.{take, get_or}
use borrow.Author.Tests.{eqb-true, eqb-false}
use Rattle.laws.specs.Lists.{among}
use Rattle.laws.specs.Every.{All, none, also}
use Rattle.laws.proofs.Tests.{Tested, passed, failed, tested}
use Rattle.laws.proofs.Lists.{first-within}
use Rattle.form.specs.declared.separators.Separators.{Separators}
use Rattle.form.specs.Header.{splitting}
use Rattle.line.specs.Lines.{CR}
use Rattle.table.specs.inner.Classes.{sort_of, class_table}
use Rattle.table.specs.inner.Flat.{ones, raised}
use Rattle.table.proofs.Classes.{class_text, class_sort, class_no_CR}
use Rattle.table.proofs.Flat.{raised-later}
use Rattle.table.proofs.Places.{raised_at, raised-first}
use Rattle.read.specs.declared.lay.Laying.{Laying}
use Rattle.read.specs.inner.Scanning.{plain_run}
use Rattle.read.specs.inner.Laying.{leaf_place, next_leaf}
use Rattle.read.proofs.PlainLaws.{plain-text, plain-none}

-- a separator of a sort raises that number of the place, and the finer ones are 1
module _ (ps : Separators) (b : ℕ) (l : Laying) (no_end : eqb b CR ≡ false) where
  -- the numbers of a place within its segment
  inner : List ℕ
  inner = l.field ∷ l.repetition ∷ l.subfield ∷ l.subsubfield ∷ []

  -- where the sort is known
  as_sorted : (k : ℕ) → sort_of ps b ≡ suc k → l.segment ∷ raised_at (splitting ps) k inner ≡ leaf_place (next_leaf l (suc k))
      → raised (CR ∷ splitting ps) b (leaf_place l) ≡ leaf_place (next_leaf l (sort_of ps b))
  unfolding leaf_place splitting sort_of inner
  as_sorted k e to =
      raised-later CR (splitting ps) b l.segment inner no_end
      ∙ ap {B = List ℕ} (λ p. l.segment ∷ p) (raised-first (splitting ps) b 0 k inner refl (e ∙ omega arith))
      ∙ to ∙ ap (λ (n : ℕ). leaf_place (next_leaf l n)) (sym e)

  sort_raised : (sort_of ps b ≡ 0 → ⊥) → raised (CR ∷ splitting ps) b (leaf_place l) ≡ leaf_place (next_leaf l (sort_of ps b))
  unfolding sort_of splitting leaf_place next_leaf ones inner
  sort_raised some = go (sort_of ps b) refl
    where
      go : (sort : ℕ) → sort_of ps b ≡ sort → raised (CR ∷ splitting ps) b (leaf_place l) ≡ leaf_place (next_leaf l (sort_of ps b))
      go zero e = absurd (some e)
      go (suc zero) e = as_sorted 0 e (rw add-one)
      go (suc (suc zero)) e = as_sorted 1 e (rw add-one)
      go (suc (suc (suc zero))) e = as_sorted 2 e (rw add-one)
      go (suc (suc (suc (suc zero)))) e = as_sorted 3 e (rw add-one)
      go (suc (suc (suc (suc (suc k))))) e = let most = first-within (eqb b) 0 (splitting ps) in absurd (omega arith)

-- so does its class
pub class_raised : (ps : Separators) (b : ℕ) → b < 256 → (get_or (class_table ps) b 0 ≡ 5 → ⊥) → (get_or (class_table ps) b 0 ≡ 0 → ⊥) → (l : Laying)
    → raised (CR ∷ splitting ps) b (leaf_place l) ≡ leaf_place (next_leaf l (get_or (class_table ps) b 0))
class_raised ps b byte no_end no_text l =
    let sort = class_sort ps b byte no_end in
    sort_raised ps b l (class_no_CR ps b byte no_end) (λ e. no_text (sort ∙ e)) ∙ ap (λ (k : ℕ). leaf_place (next_leaf l k)) (sym sort)

-- the text that a line begins with has no separator
pub plain_passes : (ps : Separators) {s : List ℕ} → All (λ (b : ℕ). b < 256) s
    → All (λ (b : ℕ). among (CR ∷ splitting ps) b ≡ false) (take (plain_run (class_table ps) s) s)
unfolding plain_run
plain_passes ps none = none
plain_passes ps (also {a = b} {s = s} byte w) = go (tested (eqb (get_or (class_table ps) b 0) 0)) (plain_passes ps w)
  where
    go : Tested (eqb (get_or (class_table ps) b 0) 0) → All (λ (a : ℕ). among (CR ∷ splitting ps) a ≡ false) (take (plain_run (class_table ps) s) s)
        → All (λ (a : ℕ). among (CR ∷ splitting ps) a ≡ false) (take (plain_run (class_table ps) (b ∷ s)) (b ∷ s))
    go (passed e) ih =
        let text : get_or (class_table ps) b 0 ≡ 0 = eqb-true (get_or (class_table ps) b 0) 0 e in
        rw (plain-text (class_table ps) b s text) (also (class_text ps b byte text) ih)
    go (failed e) ih = rw (plain-none (class_table ps) b s (eqb-false (get_or (class_table ps) b 0) 0 e)) none
