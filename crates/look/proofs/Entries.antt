-- What a lent buffer holds past the counted entries is not looked at (T7): it changes no answer of a lookup. Each answer is one of the
-- counted entries and of the buffers' lengths alone.
-- Assumes nothing.
use mathlib.Core.Bool.{Bool, true, false, ◌&&◌}
use mathlib.Core.List.{List, []}
use mathlib.Core.Path.{◌≡◌, refl, sym, ap, ap₂, ◌∙◌, subst⁻¹}
use Prim.Native.Nat.{ℕ, suc, ◌+◌, ◌-◌, ◌*◌, ◌<◌}
use native.Mathlib.Omega.{arith}
use borrow.Author.Tests.{leb-true}
use lib.Dec.{leb, eqb}
use lib.ListN.{length, take, drop}
use lib.Seq.{get_or-take}
use denote.Ref.{Bor}
use Rattle.laws.specs.Lists.{same}
use Rattle.laws.proofs.LentParts.{same_part}
use Rattle.laws.proofs.Parts.{part_taken}
use Rattle.laws.proofs.Searching.{first_of_same}
use Rattle.laws.proofs.Tests.{Tested, passed, failed, tested, and_first, and_second, and_where}
use Rattle.table.specs.declared.Card.{Card}
use Rattle.table.specs.Lent.{Lent, lent, within_buffers, counted, SameCounted}
use Rattle.table.specs.Rows.{Table, segment_row_size, leaf_row_size, kind_in, first_in, count_in, start_in, length_in}
use Rattle.table.proofs.Lent.{same-within}
use Rattle.look.specs.declared.leaf.Sought.{Sought}
use Rattle.look.specs.declared.leaf.Sought.TheVariants.{At, Empty, NotThere}
use Rattle.look.specs.declared.leaf.Place.{Place}
use Rattle.look.specs.Looking.{fits, leaf_fits, in_run, is_named, named_fits, segments_fit, has_kind_and_owner, is_order, order_at, order_place}
use Rattle.look.specs.Matches.{sought_part, looked_up}
use Rattle.look.specs.inner.Searching.{found_of, sought_from, sought_by, sought_in, sought_in_segment, row_from, row_after, same_texts, same_order}
use Rattle.look.specs.inner.Ordering.{order_text}
use Rattle.look.proofs.Seeking.{found_at, sought_first, Within, sought_counted, sought_uncounted, leaf_in_card}
use Rattle.look.proofs.RowSearch.{row_first}
use Rattle.look.proofs.Orders.{order-text, no_order, same-order-texts}

-- the search for a leaf, in the counted rows

-- a table that is lent lentWhole
abbrev pub lent_whole : Table → Lent
lent_whole T = lent T.card T.segment_rows T.leaf_rows T.text

module _ (t : Lent) where
  -- what a counted leaf row says
  pub start-taken : (k : ℕ) → k < t.card.leaves → start_in (counted t).leaf_rows k ≡ start_in t.leaf_rows k
  unfolding counted
  start-taken k h = get_or-take (t.card.leaves * leaf_row_size) t.leaf_rows (k * leaf_row_size + 5) 0 (omega arith)

  pub length_taken : (k : ℕ) → k < t.card.leaves → length_in (counted t).leaf_rows k ≡ length_in t.leaf_rows k
  unfolding counted
  length_taken k h = get_or-take (t.card.leaves * leaf_row_size) t.leaf_rows (k * leaf_row_size + 6) 0 (omega arith)

  pub fits-taken : (p : Place) (k : ℕ) → k < t.card.leaves → leaf_fits (lent_whole (counted t)) p k ≡ leaf_fits t p k
  unfolding fits counted
  fits-taken p k h =
      rw (
        part_taken t.leaf_rows (k * leaf_row_size) 5 (t.card.leaves * leaf_row_size) (omega arith),
        get_or-take (t.card.leaves * leaf_row_size) t.leaf_rows (k * leaf_row_size + 5) 0 (omega arith),
        get_or-take (t.card.leaves * leaf_row_size) t.leaf_rows (k * leaf_row_size + 6) 0 (omega arith),
      )

  -- what a counted segment row names
  pub named-taken : (s k : ℕ) → is_named (lent_whole (counted t)) s k ≡ is_named t s k
  unfolding is_named counted
  named-taken s k =
      let most = t.card.segments * segment_row_size in
      and_where (leb 1 s && leb s t.card.segments)
      (in_run (first_in (take most t.segment_rows) (s - 1)) (count_in (take most t.segment_rows) (s - 1)) k)
      (in_run (first_in t.segment_rows (s - 1)) (count_in t.segment_rows (s - 1)) k)
      (λ e.
      let least = leb-true 1 s (and_first (leb 1 s) (leb s t.card.segments) e) in
      let counts = leb-true s t.card.segments (and_second (leb 1 s) (leb s t.card.segments) e) in
      ap₂ (λ (first count : ℕ). in_run first count k)
      (get_or-take most t.segment_rows ((s - 1) * segment_row_size + 2) 0 (omega arith))
      (get_or-take most t.segment_rows ((s - 1) * segment_row_size + 3) 0 (omega arith)))

-- a search in a table, where its counts fit
sought_in_table : (Lent → ℕ → Bool) → Table → Bool → Sought
sought_in_table test T b = elim b [ true ↦ sought_from (test (lent_whole T)) T.leaf_rows 0 T.card.leaves | false ↦ NotThere ]

-- by a test that looks at counted entries alone
module _ (test : Lent → ℕ → Bool) (local : (t : Lent) (k : ℕ) → k < t.card.leaves → test (lent_whole (counted t)) k ≡ test t k) where
  sought_taken : (t : Lent) → sought_from (test (lent_whole (counted t))) (counted t).leaf_rows 0 t.card.leaves ≡ sought_from (test t) t.leaf_rows 0 t.card.leaves
  sought_taken t =
      sought_first (test (lent_whole (counted t))) (counted t).leaf_rows 0 t.card.leaves
      ∙ first_of_same (test (lent_whole (counted t))) (test t) (found_at (counted t).leaf_rows) (found_at t.leaf_rows) NotThere 0 t.card.leaves
      (λ k g h. local t k (omega arith)) (λ k g h. ap₂ found_of (start-taken t k (omega arith)) (length_taken t k (omega arith)))
      ∙ sym (sought_first (test t) t.leaf_rows 0 t.card.leaves)

  sought_by_entries : (t : Lent) → sought_by (test t) t ≡ sought_in_table test (counted t) (within_buffers t)
  unfolding sought_in_table counted
  sought_by_entries t = go (tested (within_buffers t))
    where
      go : Tested (within_buffers t) → sought_by (test t) t ≡ sought_in_table test (counted t) (within_buffers t)
      go (passed e) = sought_counted (test t) t e ∙ sym (sought_taken t) ∙ sym (rw (e, sought_in_table))
      go (failed e) = sought_uncounted (test t) t e ∙ sym (rw (e, sought_in_table))

  uncounted_sought : (t u : Lent) → SameCounted t u → sought_by (test t) t ≡ sought_by (test u) u
  uncounted_sought t u w =
      sought_by_entries t ∙ ap₂ (λ (T : Table) (b : Bool). sought_in_table test T b) w.entries (same-within t u w) ∙ sym (sought_by_entries u)

-- the search for a row, in the counted rows

module _ (rows : List ℕ) (count after kind owner : ℕ) where
  has_taken : (k : ℕ) → k < count → has_kind_and_owner (take (count * segment_row_size) rows) kind owner k ≡ has_kind_and_owner rows kind owner k
  unfolding has_kind_and_owner
  has_taken k h =
      rw (
        get_or-take (count * segment_row_size) rows (k * segment_row_size) 0 (omega arith),
        get_or-take (count * segment_row_size) rows (k * segment_row_size + 1) 0 (omega arith),
      )

  row-taken : row_from rows kind owner after (count - after) ≡ row_from (take (count * segment_row_size) rows) kind owner after (count - after)
  row-taken =
      sym (row_first (take (count * segment_row_size) rows) kind owner after (count - after)
      ∙ first_of_same (has_kind_and_owner (take (count * segment_row_size) rows) kind owner) (has_kind_and_owner rows kind owner) suc suc 0 after (count - after)
      (λ k g h. has_taken k (omega arith)) (λ k g h. refl)
      ∙ sym (row_first rows kind owner after (count - after)))

row_in : Table → ℕ → ℕ → ℕ → ℕ → ℕ
row_in T long after kind owner =
    elim (leb (T.card.segments * segment_row_size) long) [ true ↦ row_from T.segment_rows kind owner after (T.card.segments - after) | false ↦ 0 ]

row_by_entries : (t : Lent) (after kind owner : ℕ)
    → row_after t.segment_rows t.card.segments after kind owner ≡ row_in (counted t) (length t.segment_rows) after kind owner
unfolding row_after row_in counted
row_by_entries t after kind owner =
    ap (λ (r : ℕ). elim (leb (t.card.segments * segment_row_size) (length t.segment_rows)) [ true ↦ r | false ↦ 0 ])
    (row-taken t.segment_rows t.card.segments after kind owner)

-- whether a row is an order

order_in : Table → ℕ → ℕ → Bool
order_in T long row =
    leb (T.card.segments * segment_row_size) long
    && leb 1 row
    && leb row T.card.segments
    && eqb (kind_in T.segment_rows (row - 1)) 5

order_by_entries : (t : Lent) (row : ℕ) → order_at t row ≡ order_in (counted t) (length t.segment_rows) row
unfolding is_order order_in counted
order_by_entries t row =
    let fits : Bool = segments_fit t.segment_rows t.card.segments in
    and_where (fits && leb 1 row && leb row t.card.segments) (eqb (kind_in t.segment_rows (row - 1)) 5)
    (eqb (kind_in (counted t).segment_rows (row - 1)) 5)
    (λ e.
    let most = leb-true row t.card.segments (and_second (fits && leb 1 row) (leb row t.card.segments) e) in
    let least = leb-true 1 row (and_second fits (leb 1 row) (and_first (fits && leb 1 row) (leb row t.card.segments) e)) in
    rw (get_or-take (t.card.segments * segment_row_size) t.segment_rows ((row - 1) * segment_row_size) 0 (omega arith)))

-- the parts of the text, in the counted bytes

part_in : Table → List ℕ → Sought → List ℕ
part_in T substitute (At start n) = take n (drop start T.text)
part_in T substitute Empty = []
part_in T substitute NotThere = substitute

part_by_entries : (card : Card) (segments leaves : List ℕ) (text substitute : Bor (List ℕ)) (s : Sought) → Within card.text s
    → (sought_part text substitute s).bytes ≡ part_in (counted (lent card segments leaves text.now)) substitute.now s
unfolding sought_part part_in counted
part_by_entries card segments leaves text substitute (At start n) h = sym (part_taken text.now start n card.text h)
part_by_entries card segments leaves text substitute Empty h = refl
part_by_entries card segments leaves text substitute NotThere h = refl

-- where they lie, in a text area that lies where another does
module _ (text text' substitute : Bor (List ℕ)) where
  same_block : text.ref_ptr.0 ≡ text'.ref_ptr.0 → (s : Sought) → (sought_part text substitute s).block ≡ (sought_part text' substitute s).block
  unfolding sought_part
  same_block e (At start n) = e
  same_block e Empty = e
  same_block e NotThere = refl

  same-offset : text.ref_ptr.1 ≡ text'.ref_ptr.1 → (s : Sought) → (sought_part text substitute s).offset ≡ (sought_part text' substitute s).offset
  unfolding sought_part
  same-offset e (At start n) = ap (λ (k : ℕ). start + k) e
  same-offset e Empty = ap (λ (k : ℕ). 0 + k) e
  same-offset e NotThere = refl

texts_by_entries : (t u : Lent) (s r : Sought) → Within t.card.text s → Within u.card.text r
    → same_texts t.text s u.text r ≡ same_texts (counted t).text s (counted u).text r
unfolding same_texts counted
texts_by_entries t u (At a n) (At b m) h k =
    sym (ap₂ (λ (x y : List ℕ). same x y) (part_taken t.text a n t.card.text h) (part_taken u.text b m u.card.text k))
texts_by_entries t u (At a n) Empty h k = refl
texts_by_entries t u (At a n) NotThere h k = refl
texts_by_entries t u Empty r h k = refl
texts_by_entries t u NotThere r h k = refl

order_in_card : (t : Lent) (row : ℕ) → Within t.card.text (order_text t row)
order_in_card t row = go (tested (order_at t row))
  where
    go : Tested (order_at t row) → Within t.card.text (order_text t row)
    go (passed e) = subst⁻¹ (Within t.card.text) (order-text t row e) (leaf_in_card t (order_place row))
    go (failed e) = subst⁻¹ (Within t.card.text) (no_order t row e) tt

-- the answers

module _ (t u : Lent) (w : SameCounted t u) where
  pub uncounted_leaf : (p : Place) → sought_in t p ≡ sought_in u p
  uncounted_leaf p = uncounted_sought (λ l. leaf_fits l p) (λ l. fits-taken l p) t u w

  pub uncounted_leaf_in_segment : (p : Place) → sought_in_segment t p ≡ sought_in_segment u p
  uncounted_leaf_in_segment p =
      uncounted_sought (λ l. named_fits l p) (λ l k h. ap₂ ◌&&◌ (named-taken l p.segment k) (fits-taken l p k h)) t u w

  pub uncounted_row : (after kind owner : ℕ)
      → row_after t.segment_rows t.card.segments after kind owner ≡ row_after u.segment_rows u.card.segments after kind owner
  uncounted_row after kind owner =
      row_by_entries t after kind owner ∙ ap₂ (λ (T : Table) (n : ℕ). row_in T n after kind owner) w.entries w.segment_rows
      ∙ sym (row_by_entries u after kind owner)

  uncounted_order : (row : ℕ) → order_at t row ≡ order_at u row
  uncounted_order row =
      order_by_entries t row ∙ ap₂ (λ (T : Table) (n : ℕ). order_in T n row) w.entries w.segment_rows ∙ sym (order_by_entries u row)

  uncounted_order_text : (row : ℕ) → order_text t row ≡ order_text u row
  unfolding order_text
  uncounted_order_text row =
      ap₂ (λ (b : Bool) (s : Sought). elim b [ true ↦ s | false ↦ NotThere ]) (uncounted_order row) (uncounted_leaf (order_place row))

-- of the text that is handed back: its bytes, and the lentWhole part where the text area lies at the same place
module _ (card card' : Card) (segments leaves segments' leaves' : List ℕ) (text text' : Bor (List ℕ))
    (w : SameCounted (lent card segments leaves text.now) (lent card' segments' leaves' text'.now)) (p : Place) (substitute : Bor (List ℕ)) where
  abbrev one : Lent
  one = lent card segments leaves text.now

  abbrev other : Lent
  other = lent card' segments' leaves' text'.now

  pub uncounted_bytes : (looked_up card segments leaves text p substitute).bytes ≡ (looked_up card' segments' leaves' text' p substitute).bytes
  uncounted_bytes =
      part_by_entries card segments leaves text substitute (sought_in one p) (leaf_in_card one p)
      ∙ ap₂ (λ (T : Table) (s : Sought). part_in T substitute.now s) w.entries (uncounted_leaf one other w p)
      ∙ sym (part_by_entries card' segments' leaves' text' substitute (sought_in other p) (leaf_in_card other p))

  pub uncounted_text : text.ref_ptr.0 ≡ text'.ref_ptr.0 → text.ref_ptr.1 ≡ text'.ref_ptr.1
      → looked_up card segments leaves text p substitute ≡ looked_up card' segments' leaves' text' p substitute
  uncounted_text block offset =
      same_part (looked_up card segments leaves text p substitute) (looked_up card' segments' leaves' text' p substitute)
      (same_block text text' substitute block (sought_in one p)
      ∙ ap (λ (s : Sought). (sought_part text' substitute s).block) (uncounted_leaf one other w p))
      (same-offset text text' substitute offset (sought_in one p)
      ∙ ap (λ (s : Sought). (sought_part text' substitute s).offset) (uncounted_leaf one other w p))
      uncounted_bytes

-- of both tables
pub uncounted_same_order : (t t' u u' : Lent) → SameCounted t t' → SameCounted u u' → (row other : ℕ) → same_order t row u other ≡ same_order t' row u' other
uncounted_same_order t t' u u' w v row other =
    same-order-texts t row u other ∙ texts_by_entries t u (order_text t row) (order_text u other) (order_in_card t row) (order_in_card u other)
    ∙ ap₂ (λ (s r : Sought). same_texts (counted t).text s (counted u).text r) (uncounted_order_text t t' w row) (uncounted_order_text u u' v other)
    ∙ ap₂ (λ (T U : Table). same_texts T.text (order_text t' row) U.text (order_text u' other)) w.entries v.entries
    ∙ sym (same-order-texts t' row u' other ∙ texts_by_entries t' u' (order_text t' row) (order_text u' other) (order_in_card t' row) (order_in_card u' other))
