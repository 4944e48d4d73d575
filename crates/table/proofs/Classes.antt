-- The class table: that it is what is set over zeros, and what the class of a byte says of it: 5 below 32, else its sort, which is 0
-- exactly where the byte is no splitting separator.
-- Assumes nothing.
use mathlib.Core.Bool.{true, false}
use mathlib.Core.List.{List, ◌∷◌}
use mathlib.Core.Path.{◌≡◌, refl, ap, sym, ◌∙◌}
use Prim.Native.Nat.{ℕ, suc, ◌+◌, ◌-◌, ◌≤◌, ◌<◌}
use native.Mathlib.Nat.{zero-add}
use native.Mathlib.Omega.{arith}
use lib.Dec.{ltb, eqb}
use lib.ListN.{get_or, set, replicate}
use lib.Seq.{sets}
use borrow.Author.Tests.{ltb-true, ltb-false, ne_eqb, lt-ltb, le-ltb}
use Rattle.laws.specs.Lists.{among, first_from}
use Rattle.laws.specs.Tables.{values}
use Rattle.laws.proofs.Stores.{sets_first}
use Rattle.laws.proofs.Tests.{Tested, passed, failed, tested}
use Rattle.laws.proofs.Lists.{among_miss, first-within, first_not_among, first-among, not_first_among, found_among}
use Rattle.laws.proofs.Tables.{changed, set_values, replicate-values, get_or_values_zero}
use Rattle.form.specs.declared.separators.Separators.{Separators}
use Rattle.form.specs.Header.{splitting}
use Rattle.line.specs.Lines.{CR}
use Rattle.table.specs.inner.Classes.{sort_of, class_of, class_table, classes_over}

-- four stores into an empty table give the sorts: the coarsest, stored last, counts where two are the same byte
sorts_stored : (ps : Separators) (n : ℕ)
    → set (set (set (set (replicate n 0) ps.subsubfield 4) ps.subfield 3) ps.repeater 2) ps.field 1 ≡ values (sort_of ps) 0 n
unfolding sort_of splitting first_from
sorts_stored ps n =
    ap (λ (t : List ℕ). set (set (set (set t d 4) c 3) b 2) a 1) (replicate-values 0 0 n)
    ∙ ap (λ (t : List ℕ). set (set (set t c 3) b 2) a 1) (stored none d 4)
    ∙ ap (λ (t : List ℕ). set (set t b 2) a 1) (stored (changed none d 4) c 3)
    ∙ ap (λ (t : List ℕ). set t a 1) (stored (changed (changed none d 4) c 3) b 2)
    ∙ stored (changed (changed (changed none d 4) c 3) b 2) a 1
  where
    a : ℕ
    a = ps.field

    b : ℕ
    b = ps.repeater

    c : ℕ
    c = ps.subfield

    d : ℕ
    d = ps.subsubfield

    none : ℕ → ℕ
    none k = 0

    stored : (f : ℕ → ℕ) (k v : ℕ) → set (values f 0 n) k v ≡ values (changed f k v) 0 n
    stored f k v = set_values f 0 n k v ∙ ap (λ (m : ℕ). values (changed f m v) 0 n) (zero-add k)

-- over the sorts, 5 below 32 makes the classes
lows_stored : (ps : Separators) → sets (values (sort_of ps) 0 256) 0 (replicate 32 5) ≡ class_table ps
unfolding values class_table class_of
lows_stored ps = refl

-- over zeros the classes are the table's
pub classes-set : (ps : Separators) {class class' : List ℕ} → class ≡ replicate 256 0 → class' ≡ classes_over ps class → class' ≡ class_table ps
unfolding classes_over
classes-set ps clear is =
    is ∙ ap (classes_over ps) clear ∙ ap (λ (t : List ℕ). sets t 0 (replicate 32 5)) (sorts_stored ps 256) ∙ lows_stored ps

-- a loop stores 5 from b on: one more, and the last
pub lows_more : (class : List ℕ) (b : ℕ) → b < 32
    → sets (set class b 5) (b + 1) (replicate (32 - (b + 1)) 5) ≡ sets class b (replicate (32 - b) 5)
lows_more class b h =
    sym (sets_first class b 5 (replicate (32 - (b + 1)) 5))
    ∙ ap (λ (n : ℕ). sets class b (replicate n 5)) (let one : suc (32 - (b + 1)) ≡ 32 - b = omega arith in one)

-- the class of a byte
module _ (ps : Separators) (b : ℕ) where
  pub class_at : b < 256 → get_or (class_table ps) b 0 ≡ class_of ps b
  unfolding class_table
  class_at h = get_or_values_zero (class_of ps) 256 b 0 h

  pub class_low : b < 32 → class_of ps b ≡ 5
  unfolding class_of
  class_low h = rw (lt-ltb b 32 h, class_of)

  pub class_high : 32 ≤ b → class_of ps b ≡ sort_of ps b
  unfolding class_of
  class_high h = rw (le-ltb b 32 h, class_of)

  pub sort_within : sort_of ps b ≤ 4
  unfolding sort_of splitting
  sort_within = first-within (eqb b) 0 (splitting ps)

  pub sort_none : among (splitting ps) b ≡ false → sort_of ps b ≡ 0
  unfolding sort_of
  sort_none h = first_not_among b 1 (splitting ps) h

  pub sort_some : among (splitting ps) b ≡ true → 1 ≤ sort_of ps b
  unfolding sort_of
  sort_some h = first-among b 1 (splitting ps) h

  -- a class other than 5 is a sort, and the byte is no CR
  not_low : (class_of ps b ≡ 5 → ⊥) → 32 ≤ b
  not_low h = go (tested (ltb b 32))
    where
      go : Tested (ltb b 32) → 32 ≤ b
      go (passed e) = absurd (h (class_low (ltb-true b 32 e)))
      go (failed e) = ltb-false b 32 e

  no_CR : (class_of ps b ≡ 5 → ⊥) → eqb b CR ≡ false
  no_CR h = let high : 32 ≤ b = not_low h in ne_eqb b CR (λ e. omega arith)

-- so it is in the table: a byte of class 0 is text, one of class 1 to 4 a separator
module _ (ps : Separators) (b : ℕ) (byte : b < 256) where
  pub class_text : get_or (class_table ps) b 0 ≡ 0 → among (CR ∷ splitting ps) b ≡ false
  unfolding sort_of
  class_text h =
      let zero : class_of ps b ≡ 0 = sym (class_at ps b byte) ∙ h in
      let low : class_of ps b ≡ 5 → ⊥ = λ e. omega arith in
      among_miss CR (splitting ps) b (no_CR ps b low) ∙ not_first_among b 0 (splitting ps) (sym (class_high ps b (not_low ps b low)) ∙ zero)

  module _ (no_end : get_or (class_table ps) b 0 ≡ 5 → ⊥) where
    high : class_of ps b ≡ 5 → ⊥
    high e = no_end (class_at ps b byte ∙ e)

    pub class_no_CR : eqb b CR ≡ false
    class_no_CR = no_CR ps b high

    pub class_sort : get_or (class_table ps) b 0 ≡ sort_of ps b
    class_sort = class_at ps b byte ∙ class_high ps b (not_low ps b high)

    pub class_separator : (get_or (class_table ps) b 0 ≡ 0 → ⊥) → among (CR ∷ splitting ps) b ≡ true
    unfolding sort_of
    class_separator no_text =
        among_miss CR (splitting ps) b class_no_CR ∙ found_among b 1 (splitting ps) (λ e. no_text (class_sort ∙ e))
