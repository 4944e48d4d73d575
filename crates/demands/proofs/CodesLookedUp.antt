-- The code that reading with an index counts is the text that the leaf lookup finds at 10.4.1 (X2, F1), in the table that the reading leaves.
-- Assumes nothing.
use mathlib.Core.Bool.{Bool, true, false, ◌&&◌, and-true}
use mathlib.Core.List.{List, [], ◌∷◌, map}
use mathlib.Core.Logic.{◌⊎◌, inl, inr}
use mathlib.Core.Path.{◌≡◌, refl, sym, ap, ap₂, ◌∙◌, subst}
use Prim.Native.Nat.{ℕ, zero, suc, ◌+◌, ◌≤◌, ◌<◌}
use native.Mathlib.Omega.{arith}
use borrow.Author.Tests.{le-leb}
use lib.Dec.{eqb}
use lib.ListN.{length, take, drop, get_or, length-map}
use Rattle.laws.specs.Lists.{same}
use Rattle.laws.specs.Tables.{values}
use Rattle.laws.proofs.Cases.{equal_or_not}
use Rattle.laws.proofs.Lists.{get_d_map}
use Rattle.laws.proofs.Parts.{part_taken}
use Rattle.laws.proofs.Searching.{first_of, first_of_hit, first_of_miss}
use Rattle.laws.proofs.Tables.{values-entries, values_same}
use Rattle.laws.proofs.Tests.{Tested, passed, failed, tested}
use Rattle.form.specs.declared.forms.Form.{Form}
use Rattle.form.specs.declared.limits.Limits.{Limits}
use Rattle.form.specs.declared.separators.Separators.{Separators}
use Rattle.form.specs.declared.separators.Header.TheVariants.{Sound}
use Rattle.form.specs.Forms.{limits_of}
use Rattle.form.specs.Header.{header_of}
use Rattle.form.specs.Limits.{Lawful}
use Rattle.form.proofs.TwoForms.{form_lawful}
use Rattle.order.specs.Owners.{level}
use Rattle.table.specs.Leaves.{Leaf}
use Rattle.table.specs.Lent.{Lent, lent, counted}
use Rattle.table.specs.Rows.{place_in, start_in, length_in}
use Rattle.table.specs.Reading.{room_of, reading, stated}
use Rattle.table.specs.inner.Back.{leaf_at, leaves_of}
use Rattle.table.proofs.Accepting.{Accepted, accepting}
use Rattle.table.proofs.EndToEnd.{ended-within}
use Rattle.table.proofs.Filing.{accepted-header, accepted-filed}
use Rattle.table.proofs.LeafRows.{leaves_of-table}
use Rattle.index.specs.declared.tally.Tally.{Tally}
use Rattle.read.specs.declared.Answer.{Answer}
use Rattle.read.specs.declared.indexed.Indexed.{Indexed}
use Rattle.read.specs.Answering.{answer_of, text_put, segments_put, leaves_put, ReadAs}
use Rattle.read.specs.Codes.{counted_kind, leaf_code, code_carried, codes_in}
use Rattle.read.specs.Counting.{IndexedAs}
use Rattle.read.specs.Sound.{segments_in}
use Rattle.read.proofs.Acceptance.{number-accepted}
use Rattle.read.proofs.OnlyOne.{reading-numbered}
use Rattle.write.specs.inner.ReadsBack.{is_table}
use Rattle.write.proofs.LentTables.{is_table_rows}
use Rattle.write.proofs.ReadTables.{filed-table}
use Rattle.look.specs.declared.leaf.Place.{Place}
use Rattle.look.specs.declared.leaf.Sought.TheVariants.{NotThere}
use Rattle.look.specs.Looking.{numbers_of, leaf_named, fits, leaf_fits, text_found}
use Rattle.look.specs.inner.Searching.{found_of, sought_in}
use Rattle.look.proofs.Entries.{start-taken, length_taken, fits-taken}
use Rattle.look.proofs.Seeking.{found_at, found_empty, found_some, sought_searched}
use Rattle.tested.proofs.LentRows.{count-lent, row_at}
use Rattle.tested.proofs.TableLeft.{message-left}
use Rattle.demands.specs.Counts.{segment_count, code_sought, code_in_row, LooksUpCodes}
use Rattle.demands.proofs.CodeLeaf.{text_at_place, text_at_first, text_at_later, code-leaf}
use Rattle.demands.proofs.Counting.{table-segments}
use Rattle.demands.proofs.Counts.{codes-sound, counts_hold}

-- the text of what a row states, be it empty or not
text_of_row : (text : List ℕ) (start n : ℕ) → text_found text (found_of start n) ≡ take n (drop start text)
unfolding text_found
text_of_row text start n = by (equal_or_not n 0)
  where
    by : (n ≡ 0) ⊎ (n ≡ 0 → ⊥) → text_found text (found_of start n) ≡ take n (drop start text)
    by (inl e) = ap (text_found text) (found_empty start n e) ∙ ap (λ (k : ℕ). take k (drop start text)) (sym e)
    by (inr e) = ap (text_found text) (found_some start n e)

-- a search by places over the rows of some leaves finds the text of the first leaf that has the place
module _ (text rows q : List ℕ) (test : ℕ → Bool) (stated : ℕ → Leaf) where
  searched_text : (i n : ℕ)
      → ((k : ℕ) → i ≤ k → k < i + n → test k ≡ same (stated k).place q)
      → ((k : ℕ) → i ≤ k → k < i + n → text_found text (found_at rows k) ≡ (stated k).text)
      → text_found text (first_of test (found_at rows) NotThere i n) ≡ text_at_place q (values stated i n)
  unfolding first_of values text_at_place text_found
  searched_text i zero places texts = refl
  searched_text i (suc n) places texts =
      go (tested (test i))
      (searched_text (suc i) n (λ k l h. places k (omega (arith, l)) (omega (arith, h))) (λ k l h. texts k (omega (arith, l)) (omega (arith, h))))
    where
      place : test i ≡ same (stated i).place q
      place = places i (omega arith) (omega arith)

      go : Tested (test i) → text_found text (first_of test (found_at rows) NotThere (suc i) n) ≡ text_at_place q (values stated (suc i) n)
          → text_found text (first_of test (found_at rows) NotThere i (suc n)) ≡ text_at_place q (stated i ∷ values stated (suc i) n)
      go (passed e) later =
          ap (text_found text) (first_of_hit test (found_at rows) NotThere i n e) ∙ texts i (omega arith) (omega arith)
          ∙ sym (text_at_first q (stated i) (values stated (suc i) n) (sym place ∙ e))
      go (failed e) later =
          ap (text_found text) (first_of_miss test (found_at rows) NotThere i n e) ∙ later
          ∙ sym (text_at_later q (stated i) (values stated (suc i) n) (sym place ∙ e))

-- in a lent table that passes the table test, the lookup finds the text of the first counted leaf that has the place
module _ (L : Limits) (lawful : Lawful L) (levels : ℕ → ℕ → ℕ) (t : Lent) (passes : is_table L levels t ≡ true) (p : Place) where
  inside : (k : ℕ) → k < t.card.leaves → start_in (counted t).leaf_rows k + length_in (counted t).leaf_rows k ≤ t.card.text
  unfolding counted
  inside k h = ended-within (counted t).leaf_rows t.card.text t.card.leaves ((is_table_rows L lawful levels t).0 passes).1.laid k h

  place-tested : (k : ℕ) → k < t.card.leaves → leaf_fits t p k ≡ same (leaf_at (counted t).leaf_rows (counted t).text k).place (numbers_of p)
  unfolding fits leaf_at counted
  place-tested k h =
      let rows = (counted t).leaf_rows in
      sym (fits-taken t p k h)
      ∙ ap (λ (b : Bool). same (place_in rows k) (numbers_of p) && b) (le-leb (start_in rows k + length_in rows k) t.card.text (inside k h))
      ∙ and-true (same (place_in rows k) (numbers_of p))

  text-stated : (k : ℕ) → k < t.card.leaves
      → text_found t.text (found_at t.leaf_rows k) ≡ (leaf_at (counted t).leaf_rows (counted t).text k).text
  unfolding leaf_at counted
  text-stated k h =
      let rows = (counted t).leaf_rows in
      text_of_row t.text (start_in t.leaf_rows k) (length_in t.leaf_rows k)
      ∙ ap₂ (λ (start n : ℕ). take n (drop start t.text)) (sym (start-taken t k h)) (sym (length_taken t k h))
      ∙ sym (part_taken t.text (start_in rows k) (length_in rows k) t.card.text (inside k h))

  looked_up_leaf : text_found t.text (sought_in t p) ≡ text_at_place (numbers_of p) (leaves_of (counted t))
  unfolding leaves_of counted
  looked_up_leaf =
      ap (text_found t.text) (sought_searched (leaf_fits t p) t ((is_table_rows L lawful levels t).0 passes).0)
      ∙ searched_text t.text t.leaf_rows (numbers_of p) (leaf_fits t p) (leaf_at (counted t).leaf_rows (counted t).text) 0 t.card.leaves
      (λ k l h. place-tested k (omega (arith, h))) (λ k l h. text-stated k (omega (arith, h)))

-- what the plain reader leaves of an accepted message
module _ (L : Limits) (lawful : Lawful L) (levels : ℕ → ℕ → ℕ) (message : List ℕ) {text segments leaves text' segments' leaves' : List ℕ} {r : Answer}
    (read : ReadAs L levels message text segments leaves r text' segments' leaves') (yes : r.number ≡ 0) where
  abbrev left_table : Lent
  left_table = lent r.card segments' leaves' text'

  left_passes : is_table L levels left_table ≡ true
  unfolding answer_of text_put segments_put leaves_put
  left_passes =
      let room = room_of text segments leaves in
      let t = (number-accepted (reading L levels room message) read (reading-numbered L levels room message)).0 yes in
      rw (read.answer, read.text_area, read.segment_rows, read.leaf_rows, t.1)
      (filed-table L lawful levels message text segments leaves t.0 t.1)

  left-accepted : Accepted L levels (stated L) message (counted left_table)
  left-accepted = (accepting L levels (stated L) message (counted left_table)).0 (message-left L lawful levels message read yes)

  abbrev separators : Separators
  separators = left-accepted.separators

  message-code : (i : ℕ) → code_sought left_table i ≡ leaf_code separators (get_or (segments_in L separators message) i [])
  unfolding numbers_of
  message-code i =
      let header = accepted-header lawful left-accepted in
      looked_up_leaf L lawful levels left_table left_passes (leaf_named (suc i) 4 1)
      ∙ ap (text_at_place (numbers_of (leaf_named (suc i) 4 1)))
      (ap leaves_of left-accepted.segments.table ∙ leaves_of-table levels separators (segments_in L separators message))
      ∙ code-leaf separators header.allowed header.different (segments_in L separators message) (accepted-filed lawful left-accepted) i

  pub read-code : (ps : Separators) → header_of message ≡ Sound ps → (i : ℕ) → code_sought left_table i ≡ leaf_code ps (get_or (segments_in L ps message) i [])
  read-code ps header i =
      let two : Sound separators ≡ Sound ps = sym left-accepted.header ∙ header in
      let one : separators ≡ ps = cc in
      subst (λ (qs : Separators). code_sought left_table i ≡ leaf_code qs (get_or (segments_in L qs message) i [])) one (message-code i)

  -- row by row
  carried_in_row : (i : ℕ) → i < length (segments_in L separators message)
      → code_carried separators (get_or (segments_in L separators message) i []) ≡ code_in_row left_table i
  unfolding code_carried code_in_row
  carried_in_row i h =
      let kind = (row_at left_table left-accepted.segments i (omega (arith, h, count-lent left_table left-accepted.segments))).kind_is in
      ap₂ {C = List ℕ} (λ (k : ℕ) (c : List ℕ). elim (eqb k counted_kind) [ true ↦ c | false ↦ [] ]) (sym kind) (sym (message-code i))

  pub read-codes : codes_in L message ≡ values (code_in_row left_table) 0 (segment_count L message)
  unfolding counted
  read-codes =
      let segs = segments_in L separators message in
      let cs = map (code_carried separators) segs in
      let many : segment_count L message ≡ length segs
      = sym (table-segments L levels (stated L) message (counted left_table) (message-left L lawful levels message read yes))
      ∙ count-lent left_table left-accepted.segments in
      codes-sound L message separators (record { fits = left-accepted.fits; header = left-accepted.header; lines = left-accepted.no_fault })
      ∙ sym (values-entries cs [])
      ∙ ap (values (λ (k : ℕ). get_or cs k []) 0) (length-map segs (code_carried separators))
      ∙ values_same (λ (k : ℕ). get_or cs k []) (code_in_row left_table) 0 (length segs)
      (λ k l h. let there : k < length segs = omega (arith, h) in get_d_map (code_carried separators) segs k [] [] there ∙ carried_in_row k there)
      ∙ ap (values (code_in_row left_table) 0) (sym many)

-- with an index
module _ (L : Limits) (lawful : Lawful L) (levels : ℕ → ℕ → ℕ) (message : List ℕ) {tally : Tally}
    {text segments leaves codes counts text' segments' leaves' codes' counts' : List ℕ} {r : Indexed}
    (w : IndexedAs L levels tally message text segments leaves codes counts r text' segments' leaves' codes' counts')
    (taken : r.answer.number ≡ 0) where
  as_read : ReadAs L levels message text segments leaves r.answer text' segments' leaves'
  as_read =
      (counts_hold L lawful levels).plain message w (λ e. omega (arith, e, taken)) (λ e. omega (arith, e, taken)) (λ e. omega (arith, e, taken))
      (λ e. omega (arith, e, taken))

  -- in each row the lookup finds at 10.4.1 what of an OBX is counted as its code
  pub code_looked_up : (ps : Separators) → header_of message ≡ Sound ps → (i : ℕ)
      → text_found text' (sought_in (lent r.answer.card segments' leaves' text') (leaf_named (suc i) 4 1))
      ≡ leaf_code ps (get_or (segments_in L ps message) i [])
  code_looked_up ps header i = read-code L lawful levels message as_read taken ps header i

  -- so the codes counted are, row by row, the texts that it finds where the row is an OBX
  pub codes_looked_up : codes_in L message ≡ values (code_in_row (lent r.answer.card segments' leaves' text')) 0 (segment_count L message)
  codes_looked_up = read-codes L lawful levels message as_read taken

pub looks_up_codes : (L : Limits) → Lawful L → (levels : ℕ → ℕ → ℕ) → LooksUpCodes L levels
looks_up_codes L lawful levels =
    record {
      each_row = λ message w taken. code_looked_up L lawful levels message w taken;
      all-rows = λ message w taken. codes_looked_up L lawful levels message w taken;
    }

-- in each form
pub forms_look_up_codes : (f : Form) → LooksUpCodes (limits_of f) level
forms_look_up_codes f = looks_up_codes (limits_of f) (form_lawful f) level
