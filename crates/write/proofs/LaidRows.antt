-- Leaf rows that are laid out: each starts where the one before it ends and stands at the next place. What follows for the
-- texts, which are stretches of one text, and the loop that tests it.
-- Assumes nothing.
use mathlib.Core.Bool.{true, false}
use mathlib.Core.List.{List, []}
use mathlib.Core.Logic.{◌⊎◌, inl, inr}
use mathlib.Core.Path.{◌≡◌, sym, ap, ap₂, ◌∙◌, subst}
use Prim.Native.Nat.{ℕ, zero, suc, ◌+◌, ◌-◌, ◌*◌, ◌≤◌, ◌<◌}
use native.Mathlib.Omega.{arith}
use lib.Dec.{eqb}
use lib.ListN.{length, take, drop, length-append}
use Rattle.laws.specs.Tables.{values}
use Rattle.laws.proofs.Cases.{equal_or_not}
use Rattle.laws.proofs.Tests.{never_both}
use Rattle.table.specs.Rows.{leaf_row_size, text_of, start_in, length_in, place_in, width}
use Rattle.table.specs.inner.Back.{leaf_at}
use Rattle.table.specs.inner.RowTests.{next_place}
use Rattle.write.specs.inner.Tests.{Decides, InText, Laid, leaves_between}
use Rattle.write.proofs.LeafTests.{Ending, ending_begins, ending_fails, ending_on, ending_done}
use Rattle.write.proofs.SegmentTests.{row-length}
use Rattle.table.proofs.EndToEnd.{ended-within, ended-next, ended-first}

-- each row of a text that is all its leaves' states a part of it
pub in_text_fits : {rows text : List ℕ} {count : ℕ} → InText rows text count → (k : ℕ) → k < count → start_in rows k + length_in rows k ≤ length text
in_text_fits {rows} {text} {count} w = ended-within rows (length text) count w.ended

-- the bytes of texts that lie end to end: from the first one's start up to the last one's end
module _ (rows text : List ℕ) (count : ℕ) (w : InText rows text count) where
  abbrev ends : ℕ → ℕ
  ends k = start_in rows k + length_in rows k

  span : (n k : ℕ) → k + n < count → length (text_of (values (leaf_at rows text) k (suc n))) + start_in rows k ≡ ends (k + n)
  unfolding text_of values
  span zero k l =
      ap (λ (j : ℕ). length (text_of (values (leaf_at rows text) k 1)) + start_in rows k) (let e : k ≡ k = omega arith in e)
      ∙ omega (arith, length-append (leaf_at rows text k).text [], row-length rows text k (in_text_fits w k (omega arith)))
      ∙ ap ends (let e : k ≡ k + 0 = omega arith in e)
  span (suc n) k l =
      let later = values (leaf_at rows text) (suc k) (suc n) in
      omega (
        arith,
        length-append (leaf_at rows text k).text (text_of later),
        row-length rows text k (in_text_fits w k (omega arith)),
        ended-next rows (length text) count w.ended k (omega arith),
        span n (suc k) (omega arith),
        ap ends (let e : suc k + n ≡ k + suc n = omega arith in e),
      )

  pub texts_span : (first end : ℕ) → first < end → end ≤ count
      → length (text_of (leaves_between rows text first end)) + start_in rows first ≡ start_in rows (end - 1) + length_in rows (end - 1)
  texts_span first end from to =
      ap (λ (n : ℕ). length (text_of (values (leaf_at rows text) first n)) + start_in rows first) (let e : end - first ≡ suc (end - 1 - first) = omega arith in e)
      ∙ span (end - 1 - first) first (omega arith)
      ∙ ap ends (let e : first + (end - 1 - first) ≡ end - 1 = omega arith in e)

-- the loop over the rows: those up to i are laid out
pub record Laying (rows : List ℕ) (finish count i start : ℕ) : Type 0 where
  pub ending : Ending rows finish count i start
  pub some : 1 ≤ i
  pub next : (k : ℕ) → suc k < i → next_place (place_in rows k) (place_in rows (suc k)) ≡ true

pub laying_begins : (rows : List ℕ) (finish count : ℕ) → 1 ≤ count → start_in rows 0 ≡ 0 → {size : ℕ} → size ≡ length_in rows 0 → size < width
    → Laying rows finish count 1 size
laying_begins rows finish count many e {size} s few =
    record {
      ending =
          subst (Ending rows finish count 1) (let q : 0 + size ≡ size = omega arith in q)
          (ending_on (ending_begins rows finish count) (omega arith) e (omega arith) s few);
      some = omega arith;
      next = λ k l. let z : ⊥ = omega arith in absurd z;
    }

pub laying_never : (rows : List ℕ) (finish count : ℕ) → 1 ≤ count → (start_in rows 0 ≡ 0 → ⊥) → Laid rows count finish → ⊥
laying_never rows finish count many n l = n (ended-first rows finish count l.ended many)

module _ {rows : List ℕ} {finish count i start : ℕ} (w : Laying rows finish count i start) where
  pub laying_elsewhere : i < count → (start_in rows i ≡ start → ⊥) → Laid rows count finish → ⊥
  laying_elsewhere h n l = never_both l.ended (sym (ending_fails w.ending h n))

  module _ (h : i < count) where
    here : next_place (take 5 (drop (i * leaf_row_size - leaf_row_size) rows)) (place_in rows i) ≡ next_place (place_in rows (i - 1)) (place_in rows (suc (i - 1)))
    here =
        ap₂ (λ (a b : ℕ). next_place (take 5 (drop a rows)) (take 5 (drop b rows)))
        (let e : i * leaf_row_size - leaf_row_size ≡ (i - 1) * leaf_row_size = omega (arith, w.some) in e)
        (let e : i * leaf_row_size ≡ suc (i - 1) * leaf_row_size = omega (arith, w.some) in e)

    pub laying_misplaced : next_place (take 5 (drop (i * leaf_row_size - leaf_row_size) rows)) (place_in rows i) ≡ false → Laid rows count finish → ⊥
    laying_misplaced e l = never_both (l.next (i - 1) (omega (arith, w.some))) (sym here ∙ e)

    pub laying_on : start_in rows i ≡ start → start_in rows i < width
        → next_place (take 5 (drop (i * leaf_row_size - leaf_row_size) rows)) (place_in rows i) ≡ true
        → {size : ℕ} → size ≡ length_in rows i → size < width → Laying rows finish count (i + 1) (start + size)
    laying_on e low n {size} s few =
        record { ending = ending_on w.ending h e low s few; some = omega arith; next = λ k l. go k l (equal_or_not k (i - 1)) }
      where
        go : (k : ℕ) → suc k < i + 1 → (k ≡ i - 1) ⊎ (k ≡ i - 1 → ⊥) → next_place (place_in rows k) (place_in rows (suc k)) ≡ true
        go k l (inl q) = subst (λ (m : ℕ). next_place (place_in rows m) (place_in rows (suc m)) ≡ true) (sym q) (sym here ∙ n)
        go k l (inr d) = w.next k (omega (arith, w.some))

  pub laying_done : count ≤ i → Decides (eqb start finish) (Laid rows count finish)
  laying_done h = (
    λ e. record { ended = sym (ending_done w.ending h) ∙ e; next = λ k l. w.next k (omega arith) },
    λ e l. never_both l.ended (sym (ending_done w.ending h) ∙ e),
  )
