-- The search for a row by kind and owner: the turns of the loop over the rows.
-- Assumes nothing.
use mathlib.Core.Bool.{true, false}
use mathlib.Core.List.{List}
use mathlib.Core.Logic.{◌⊎◌, inl, inr}
use mathlib.Core.Path.{◌≡◌, refl, sym, ap, ◌∙◌}
use Prim.Native.Nat.{ℕ, zero, suc, ◌+◌, ◌*◌, ◌/◌, ◌-◌, ◌<◌, ◌≤◌}
use native.Mathlib.Numerals.{add-one}
use native.Mathlib.Omega.{arith}
use borrow.Author.Tests.{leb-true, le-leb, lt-leb, eq-eqb, ne_eqb}
use lib.Dec.{leb, eqb}
use lib.ListN.{length}
use Rattle.laws.proofs.Cases.{less_or_not}
use Rattle.laws.proofs.Searching.{first_of, Searching, search_begins, search_hit, search_miss, search_done}
use Rattle.laws.proofs.Tests.{and_both, and_fails_first, and_fails_second}
use Rattle.table.specs.Rows.{segment_row_size, kind_in, owner_in}
use Rattle.look.specs.Looking.{segments_fit, has_kind_and_owner}
use Rattle.look.specs.inner.Searching.{row_from, row_after}

-- the count against the buffer, by division
pub fit_divided : (rows : List ℕ) (count : ℕ) → leb count (length rows / segment_row_size) ≡ segments_fit rows count
fit_divided rows count = go (less_or_not (length rows) (count * segment_row_size))
  where
    go : (length rows < count * segment_row_size) ⊎ (count * segment_row_size ≤ length rows) → leb count (length rows / segment_row_size) ≡ segments_fit rows count
    go (inl h) = lt-leb count (length rows / segment_row_size) (omega arith) ∙ sym (lt-leb (count * segment_row_size) (length rows) h)
    go (inr h) = le-leb count (length rows / segment_row_size) (omega arith) ∙ sym (le-leb (count * segment_row_size) (length rows) h)

-- the search is one for the first row that has the kind and the owner
pub row_first : (rows : List ℕ) (kind owner i n : ℕ) → row_from rows kind owner i n ≡ first_of (has_kind_and_owner rows kind owner) suc 0 i n
unfolding row_from first_of
row_first rows kind owner i zero = refl
row_first rows kind owner i (suc n) =
    ap (λ (r : ℕ). elim (has_kind_and_owner rows kind owner i) [ true ↦ suc i | false ↦ r ]) (row_first rows kind owner (suc i) n)

-- a count past its buffer
pub rows_past : (rows : List ℕ) (count after kind owner : ℕ) → segments_fit rows count ≡ false → 0 ≡ row_after rows count after kind owner
unfolding row_after
rows_past rows count after kind owner e = rw (e, row_after)

-- the loop over the rows after a given one, before its turn at row i
pub record RowSearch (rows : List ℕ) (count after kind owner i : ℕ) : Type 0 where
  pub fit : segments_fit rows count ≡ true
  pub within : count * segment_row_size ≤ length rows
  pub search : Searching (has_kind_and_owner rows kind owner) suc 0 after count i

pub rows_begin : {rows : List ℕ} {count after kind owner : ℕ} → segments_fit rows count ≡ true → RowSearch rows count after kind owner after
rows_begin {rows} {count} {after} {kind} {owner} e =
    record {
      fit = e;
      within = leb-true (count * segment_row_size) (length rows) e;
      search = search_begins (has_kind_and_owner rows kind owner) suc 0 after count;
    }

module _ {rows : List ℕ} {count after kind owner i : ℕ} (s : RowSearch rows count after kind owner i) where
  whole : first_of (has_kind_and_owner rows kind owner) suc 0 after (count - after) ≡ row_after rows count after kind owner
  unfolding row_after
  whole = sym ((rw (s.fit, row_after)) ∙ row_first rows kind owner after (count - after))

  pub no_row : count ≤ i → 0 ≡ row_after rows count after kind owner
  no_row h = search_done (has_kind_and_owner rows kind owner) suc 0 s.search h ∙ whole

  module _ (h : i < count) where
    missed : has_kind_and_owner rows kind owner i ≡ false → RowSearch rows count after kind owner (i + 1)
    missed e =
        record { fit = s.fit; within = s.within; search = search_miss (has_kind_and_owner rows kind owner) suc 0 s.search h e }

    pub other-kind : (kind_in rows i ≡ kind → ⊥) → RowSearch rows count after kind owner (i + 1)
    unfolding has_kind_and_owner
    other-kind n = missed (and_fails_first (eqb (owner_in rows i) owner) (ne_eqb (kind_in rows i) kind n))

    pub other-owner : (owner_in rows i ≡ owner → ⊥) → RowSearch rows count after kind owner (i + 1)
    unfolding has_kind_and_owner
    other-owner n = missed (and_fails_second (eqb (kind_in rows i) kind) (ne_eqb (owner_in rows i) owner n))

    pub row-found : kind_in rows i ≡ kind → owner_in rows i ≡ owner → i + 1 ≡ row_after rows count after kind owner
    unfolding has_kind_and_owner
    row-found k o =
        add-one i
        ∙ search_hit (has_kind_and_owner rows kind owner) suc 0 s.search h
        (and_both (eq-eqb (kind_in rows i) kind k) (eq-eqb (owner_in rows i) owner o))
        ∙ whole
