-- The kinds and the owners that segment rows state, row by row: their order, and whether the owners are the kinds'.
-- Assumes nothing.
use mathlib.Core.Bool.{true, false, ◌&&◌}
use mathlib.Core.List.{List, ◌∷◌}
use mathlib.Core.Path.{◌≡◌, refl, sym, ap, ap₂, ◌∙◌, subst}
use Prim.Native.Nat.{ℕ, ◌+◌, ◌≤◌, ◌<◌}
use native.Mathlib.Omega.{arith}
use lib.Dec.{eqb}
use lib.ListN.{length, drop, get_or, drop_of_length-le}
use borrow.Author.Tests.{eq-eqb, ne_eqb, eqb-true, eqb-false}
use Rattle.laws.specs.Lists.{same}
use Rattle.laws.proofs.Parts.{left_cons}
use Rattle.laws.proofs.Tables.{length-values, get_or_values_zero}
use Rattle.laws.proofs.Tests.{Tested, passed, failed, tested, and_passed, and_fails_first}
use Rattle.order.specs.inner.Levels.{top_level}
use Rattle.order.specs.Owners.{owners}
use Rattle.order.specs.inner.Owning.{Owned, no_rows}
use Rattle.order.specs.inner.Place.{misplaced}
use Rattle.order.specs.Watcher.{begun}
use Rattle.order.specs.inner.Telling.{tell_of}
use Rattle.order.specs.declared.watcher.Watcher.{Watcher}
use Rattle.order.specs.declared.watcher.Told.{Told}
use Rattle.order.proofs.Checking.{Checked, check_begins, check_yes, check_no, check_whole, check_short}
use Rattle.order.proofs.Owner.{RowsKnown, row_read, length-owners, rows_begin}
use Rattle.table.specs.Rows.{kind_in, owner_in}
use Rattle.write.specs.inner.Tests.{kind_column, owner_column}

module _ (rows : List ℕ) (n : ℕ) where
  pub length-kinds : length (kind_column rows n) ≡ n
  unfolding kind_column
  length-kinds = length-values (λ (i : ℕ). kind_in rows i) 0 n

  pub kind_at : (i : ℕ) → i < n → get_or (kind_column rows n) i 0 ≡ kind_in rows i
  unfolding kind_column
  kind_at i h = get_or_values_zero (λ (k : ℕ). kind_in rows k) n i 0 h

  length-column : length (owner_column rows n) ≡ n
  unfolding owner_column
  length-column = length-values (λ (i : ℕ). owner_in rows i) 0 n

  owner_at : (i : ℕ) → i < n → get_or (owner_column rows n) i 0 ≡ owner_in rows i
  unfolding owner_column
  owner_at i h = get_or_values_zero (λ (k : ℕ). owner_in rows k) n i 0 h

-- the order of the kinds: the watcher has said yes to those of the first i rows
pub record Ordering (c : ℕ) (rows : List ℕ) (n i : ℕ) (w : Watcher) : Type 0 where
  pub within : i ≤ n
  pub checked : Checked c (kind_column rows n) i w

pub ordering_begins : {c : ℕ} {rows : List ℕ} {n : ℕ} {w : Watcher} → w ≡ begun c → Ordering c rows n 0 w
ordering_begins {c} {rows} {n} e =
    record { within = omega arith; checked = subst (Checked c (kind_column rows n) 0) (sym e) (check_begins c (kind_column rows n)) }

module _ {c : ℕ} {rows : List ℕ} {n i : ℕ} {w : Watcher} (h : Ordering c rows n i w) where
  module _ (l : i < n) {k : ℕ} (e : k ≡ kind_in rows i) {r : Told} (t : r ≡ tell_of w k) where
    told_so : r ≡ tell_of w (get_or (kind_column rows n) i 0)
    told_so = t ∙ ap (tell_of w) (e ∙ sym (kind_at rows n i l))

    pub ordered_on : r.yes ≡ true → Ordering c rows n (i + 1) r.watcher
    ordered_on y = record { within = omega arith; checked = check_yes h.checked (omega (arith, length-kinds rows n)) told_so y }

    pub ordered-fails : r.yes ≡ false → false ≡ eqb (misplaced c (kind_column rows n)) 0
    ordered-fails y =
        sym (ne_eqb (misplaced c (kind_column rows n)) 0 (λ z. let q = check_no h.checked (omega (arith, length-kinds rows n)) told_so y in omega (arith, q, z)))

  pub ordered-done : n ≤ i → eqb w.last 11 ≡ eqb (misplaced c (kind_column rows n)) 0
  ordered-done l = go (tested (eqb w.last 11))
    where
      go : Tested (eqb w.last 11) → eqb w.last 11 ≡ eqb (misplaced c (kind_column rows n)) 0
      go (passed e) =
          e ∙ sym (eq-eqb (misplaced c (kind_column rows n)) 0 (check_whole h.checked (omega (arith, length-kinds rows n)) (eqb-true w.last 11 e)))
      go (failed e) =
          e
          ∙ sym (ne_eqb (misplaced c (kind_column rows n)) 0
          (λ z. let q = check_short h.checked (omega (arith, length-kinds rows n)) (eqb-false w.last 11 e) in omega (arith, q, z)))

-- the owners of the kinds: those of the first i rows are right
pub record Owning (lv : ℕ → ℕ) (rows : List ℕ) (n i : ℕ) (near : List ℕ) : Type 0 where
  pub within : i ≤ n
  pub known : RowsKnown lv (kind_column rows n) i near
  pub so : same (drop i (owner_column rows n)) (drop i (owners lv (kind_column rows n))) ≡ same (owner_column rows n) (owners lv (kind_column rows n))

pub owning_begins : (lv : ℕ → ℕ) (rows : List ℕ) (n : ℕ) {near : List ℕ} → near ≡ no_rows → Owning lv rows n 0 near
owning_begins lv rows n e =
    record { within = omega arith; known = subst (RowsKnown lv (kind_column rows n) 0) (sym e) (rows_begin lv (kind_column rows n)); so = refl }

module _ {lv : ℕ → ℕ} {rows : List ℕ} {n i : ℕ} {near : List ℕ} (w : Owning lv rows n i near) (few : (j : ℕ) → lv j < top_level) (h : i < n)
    {after : List ℕ} {row k l o : ℕ} (e : row ≡ i + 1) (f : k ≡ kind_in rows i) (g : l ≡ lv k) (v : Owned near after row k l o) where
  abbrev ks : List ℕ
  ks = kind_column rows n

  inside : i < length ks
  inside = omega (arith, length-kinds rows n)

  kind : k ≡ get_or ks i 0
  kind = f ∙ sym (kind_at rows n i h)

  read : (o ≡ get_or (owners lv ks) i 0) × RowsKnown lv ks (i + 1) after
  read = row_read lv few w.known inside e (g ∙ ap lv kind) (subst (λ (j : ℕ). Owned near after row j l o) kind v)

  owning_turn : (eqb (owner_in rows i) o && same (drop (i + 1) (owner_column rows n)) (drop (i + 1) (owners lv ks)))
      ≡ same (owner_column rows n) (owners lv ks)
  unfolding same
  owning_turn =
      ap₂ (λ (a b : ℕ). same (a ∷ drop (i + 1) (owner_column rows n)) (b ∷ drop (i + 1) (owners lv ks))) (sym (owner_at rows n i h)) read.0
      ∙ ap₂ (λ (a b : List ℕ). same a b) (sym (left_cons (owner_column rows n) i 0 (omega (arith, length-column rows n))))
      (sym (left_cons (owners lv ks) i 0 (omega (arith, length-owners lv ks, length-kinds rows n))))
      ∙ w.so

  pub owning_fails : (o ≡ owner_in rows i → ⊥) → false ≡ same (owner_column rows n) (owners lv ks)
  owning_fails d =
      sym (and_fails_first (same (drop (i + 1) (owner_column rows n)) (drop (i + 1) (owners lv ks))) (ne_eqb (owner_in rows i) o (λ z. d (sym z))))
      ∙ owning_turn

  pub owning_on : o ≡ owner_in rows i → Owning lv rows n (i + 1) after
  owning_on d =
      record {
        within = omega arith;
        known = read.1;
        so =
            sym (and_passed (same (drop (i + 1) (owner_column rows n)) (drop (i + 1) (owners lv ks))) (eq-eqb (owner_in rows i) o (sym d)))
            ∙ owning_turn;
      }

pub owning_done : {lv : ℕ → ℕ} {rows : List ℕ} {n i : ℕ} {near : List ℕ} → Owning lv rows n i near → n ≤ i
    → true ≡ same (owner_column rows n) (owners lv (kind_column rows n))
unfolding same
owning_done {lv} {rows} {n} {i} {near} w h =
    ap₂ (λ (a b : List ℕ). same a b)
    (sym (drop_of_length-le (owner_column rows n) {i = i} (omega (arith, length-column rows n))))
    (sym (drop_of_length-le (owners lv (kind_column rows n)) {i = i} (omega (arith, length-owners lv (kind_column rows n), length-kinds rows n))))
    ∙ w.so
