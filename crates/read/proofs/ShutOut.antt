-- Readers that the contract shuts out, each by one of the worked examples K1 to K12, read in any form into buffers that are not short.
-- Assumes nothing.
use mathlib.Core.Bool.{false}
use mathlib.Core.List.{List, ◌++◌, map}
use mathlib.Core.Path.{◌≡◌, refl, ap, ◌∙◌, subst}
use Prim.Native.Nat.{ℕ, ◌+◌, ◌*◌, ◌<◌}
use native.Mathlib.Omega.{arith}
use lib.Dec.{lit≤}
use lib.ListN.{get_or, replicate}
use Rattle.laws.specs.Lists.{same, among, concat, first_from}
use Rattle.laws.specs.Texts.{bytes}
use Rattle.form.specs.declared.forms.Form.{Form}
use Rattle.form.specs.declared.forms.Form.TheVariants.{Small, Large}
use Rattle.form.specs.Forms.{limits_of}
use Rattle.form.proofs.TwoForms.{small_least}
use Rattle.form.specs.Header.{within, allowed, all_allowed, different, separators_of, five, sound_header, header_of}
use Rattle.form.specs.Names.{kind_names, context_names, number_among, kind_of, context_of}
use Rattle.form.specs.Numbers.{long_line, no_context}
use Rattle.line.specs.Lines.{inside, walk_from, walk, texts, fault_number}
use Rattle.line.specs.Joining.{addendum, carried, joined}
use Rattle.order.specs.Owners.{level}
use Rattle.table.specs.declared.Card.{Card}
use Rattle.table.specs.Leaves.{onto, split, kind_of_segment, context_of_header}
use Rattle.table.specs.Rows.{segment_row_size, leaf_row_size, owner_in, kinds_of, context_in, Table}
use Rattle.table.specs.inner.Columns.{segment_in}
use Rattle.table.specs.Reading.{room_of, Outcome, refused, accepted, refuse_if, refuse_at, short, first_unknown, judged, of_message, reading, stated}
use Rattle.table.specs.Examples.{Example, Says, refuses, files, says, read, filed, examples, k1, k6, k10, k11}
use Rattle.table.proofs.Accepting.{any-room}
use Rattle.table.proofs.Examples.{examples_hold}
use Rattle.read.specs.declared.Answer.{Answer}
use Rattle.read.specs.Answering.{answer_of, segments_put, leaves_put, Gives, ReadAs}
use Rattle.table.proofs.Room.{front_at, roomy-segments, roomy-leaves}

-- what an example says of the outcome
says-accepted : (f : Form) (o : Outcome) {t : Table} {bytes : ℕ} {lines : List ℕ} → says f o ≡ files t bytes lines → o ≡ accepted t
unfolding says
says-accepted f (refused n p) e = let z : ◌≡◌ {A = ℕ} 0 1 = cc in absurd (omega arith)
says-accepted f (accepted u) {t} e = ap accepted (let z : u ≡ t = cc in z)

says-refused : (f : Form) (o : Outcome) {n p : ℕ} → says f o ≡ refuses n p → o ≡ refused n p
unfolding says
says-refused f (refused m q) e = cc
says-refused f (accepted u) e = let z : ◌≡◌ {A = ℕ} 0 1 = cc in absurd (omega arith)

-- the messages
unfoldable pub K1 : List ℕ
K1 = bytes "H|~^\\&|||LAB||ORU\rP|1||||DUPONT~JEAN\rOBR|1\rOBX|1|NM|GLY||1.2\rL|1\r"

-- K5, 220: its first line has 220 bytes
unfoldable pub K5 : List ℕ
K5 = bytes "H|~^\\&|||LAB||ORU|" ++ replicate 202 120 ++ bytes "\rP|1||||DUPONT~JEAN\rOBR|1\rOBX|1|NM|GLY||1.2\rL|1\r"

-- K6, ORM
unfoldable pub K6 : List ℕ
K6 = bytes "H|~^\\&|||LAB||ORM\rP|1\rOBR|1\rL|1\r"

-- K7: six lines, five segments
unfoldable pub K7 : List ℕ
K7 = bytes "H|~^\\&|||LAB||ORU\rP|1||||DUPONT~JEAN\rOB\rA|R|1\rOBX|1|NM|GLY||1.2\rL|1\r"

unfoldable pub K10 : List ℕ
K10 = bytes "H|~^\\&|||LAB||ADM\rP|1\rC|1\rAP|1\rAC|1\rL|1\r"

unfoldable pub K11 : List ℕ
K11 = bytes "H|~^\\&|||LAB||ORA\rP|1\rAP|1\rAC|1\rAC|2\rOBR|1\rL|1\r"

-- no example: the header ends before its field 7, and a field before that is ADM
unfoldable pub short_header : List ℕ
short_header = bytes "H|~^\\&|ADM\rP|1\rL|1\r"

-- and their outcomes
example : (f : Form) (i : ℕ) → get_or (map (λ (e : Example). read f e.message) examples) i (refuses 0 0) ≡ get_or (map (λ (e : Example). e.expected) examples) i (refuses 0 0)
example f i = ap (λ (ss : List Says). get_or ss i (refuses 0 0)) (examples_hold f)

pub k1-read : (f : Form) → reading (limits_of f) level (stated (limits_of f)) K1 ≡ accepted k1
unfolding K1 examples read
k1-read f = says-accepted f (reading (limits_of f) level (stated (limits_of f)) K1) (example f 0)

pub k5-read : (f : Form) → reading (limits_of f) level (stated (limits_of f)) K5 ≡ refused long_line 219
unfolding K5 examples read
k5-read f = says-refused f (reading (limits_of f) level (stated (limits_of f)) K5) (example f 5)

pub k6-read : (f : Form) → reading (limits_of f) level (stated (limits_of f)) K6 ≡ accepted k6
unfolding K6 examples read
k6-read f = says-accepted f (reading (limits_of f) level (stated (limits_of f)) K6) (example f 6)

pub k7_read : (f : Form) → reading (limits_of f) level (stated (limits_of f)) K7 ≡ accepted k1
unfolding K7 examples read
k7_read f = says-accepted f (reading (limits_of f) level (stated (limits_of f)) K7) (example f 8)

pub k10-read : (f : Form) → reading (limits_of f) level (stated (limits_of f)) K10 ≡ accepted k10
unfolding K10 examples read
k10-read f = says-accepted f (reading (limits_of f) level (stated (limits_of f)) K10) (example f 12)

pub k11-read : (f : Form) → reading (limits_of f) level (stated (limits_of f)) K11 ≡ accepted k11
unfolding K11 examples read
k11-read f = says-accepted f (reading (limits_of f) level (stated (limits_of f)) K11) (example f 13)

pub short-header-read : (f : Form) → reading (limits_of f) level (stated (limits_of f)) short_header ≡ refused no_context 0
unfolding short_header same among first_from bytes within allowed all_allowed different separators_of five sound_header header_of kind_names context_names
    number_among kind_of context_of inside walk_from walk texts fault_number addendum carried joined onto split kind_of_segment context_of_header kinds_of
    context_in refuse_if refuse_at short stated first_unknown judged of_message reading limits_of
short-header-read Small = refl
short-header-read Large = refl

module _ (f : Form) (text segments leaves : List ℕ) {text' segments' leaves' : List ℕ} {r : Answer}
    (roomy : short (limits_of f) (room_of text segments leaves) ≡ false) where
  given : (m : List ℕ) {o : Outcome} → reading (limits_of f) level (stated (limits_of f)) m ≡ o → ReadAs (limits_of f) level m text segments leaves r text' segments' leaves'
      → Gives o text segments leaves r text' segments' leaves'
  given m e g =
      subst (λ (o : Outcome). Gives o text segments leaves r text' segments' leaves') (any-room (limits_of f) level (room_of text segments leaves) m roomy ∙ e) g

  -- one that refuses everything: K1 is accepted
  pub refuses_always : ReadAs (limits_of f) level K1 text segments leaves r text' segments' leaves' → (r.number ≡ 0 → ⊥) → ⊥
  unfolding answer_of
  refuses_always g h = h (ap (λ (a : Answer). a.number) (given K1 (k1-read f) g).answer)

  -- one that gives K1's table for everything: the context of K6 is another
  pub returns_k1_always : ReadAs (limits_of f) level K6 text segments leaves r text' segments' leaves' → r.card ≡ k1.card → ⊥
  unfolding answer_of k1 k6 filed
  returns_k1_always g h =
      let is : r.card.context ≡ 2 = ap (λ (a : Answer). a.card.context) (given K6 (k6-read f) g).answer in
      omega (arith, ap (λ (c : Card). c.context) h)

  -- one that leaves the rows of all segments but the first as they were: H has seven leaf rows, and the eighth begins with its segment, 2
  pub fills_first_segment_only : ReadAs (limits_of f) level K1 text segments leaves r text' segments' leaves' → segment_in leaves 7 ≡ 0
      → segment_in leaves' 7 ≡ segment_in leaves 7 → ⊥
  unfolding leaves_put k1 filed concat
  fills_first_segment_only g zeros unchanged =
      let is : segment_in leaves' 7 ≡ 2 =
      ap (λ (s : List ℕ). segment_in s 7) (given K1 (k1-read f) g).leaf_rows
      ∙ front_at leaves k1.leaf_rows (7 * leaf_row_size) (omega (arith, roomy-leaves (limits_of f) (room_of text segments leaves) roomy, (small_least f).leaves)) (lit≤ tt) in
      omega arith

  -- one that keeps a finer number behind a coarser separator: JEAN stands in row 14, at 2.6.1.2.1
  pub keeps_a_finer_number : ReadAs (limits_of f) level K1 text segments leaves r text' segments' leaves' → get_or leaves' (13 * leaf_row_size + 4) 0 ≡ 2 → ⊥
  unfolding leaves_put k1 filed concat
  keeps_a_finer_number g h =
      let is : get_or leaves' (13 * leaf_row_size + 4) 0 ≡ 1 =
      ap (λ (s : List ℕ). get_or s (13 * leaf_row_size + 4) 0) (given K1 (k1-read f) g).leaf_rows
      ∙ front_at leaves k1.leaf_rows (13 * leaf_row_size + 4) (omega (arith, roomy-leaves (limits_of f) (room_of text segments leaves) roomy, (small_least f).leaves)) (lit≤ tt) in
      omega arith

  -- one that counts a leaf too many
  pub counts-one-more : ReadAs (limits_of f) level K1 text segments leaves r text' segments' leaves' → r.card.leaves ≡ 25 → ⊥
  unfolding answer_of k1 filed
  counts-one-more g h =
      let is : r.card.leaves ≡ 24 = ap (λ (a : Answer). a.card.leaves) (given K1 (k1-read f) g).answer in
      omega arith

  -- one that splits the header bytes (S4): K1 would have three leaves more
  pub splits_the_separators : ReadAs (limits_of f) level K1 text segments leaves r text' segments' leaves' → r.card.leaves ≡ 27 → ⊥
  unfolding answer_of k1 filed
  splits_the_separators g h =
      let is : r.card.leaves ≡ 24 = ap (λ (a : Answer). a.card.leaves) (given K1 (k1-read f) g).answer in
      omega arith

  -- one that lets a line of 220 bytes through (L3)
  pub lets_220_through : ReadAs (limits_of f) level K5 text segments leaves r text' segments' leaves' → r.number ≡ 0 → ⊥
  unfolding answer_of
  lets_220_through g h =
      let is : r.number ≡ long_line = ap (λ (a : Answer). a.number) (given K5 (k5-read f) g).answer in
      omega arith

  -- one that gives each line a row: the addendum of K7 has none (A1)
  pub counts-lines_as_rows : ReadAs (limits_of f) level K7 text segments leaves r text' segments' leaves' → r.card.segments ≡ 6 → ⊥
  unfolding answer_of k1 filed
  counts-lines_as_rows g h =
      let is : r.card.segments ≡ 5 = ap (λ (a : Answer). a.card.segments) (given K7 (k7_read f) g).answer in
      omega arith

  -- one that lets a C own (O3): the AP in row 4 belongs to the P in row 2, not to the C in row 3
  pub makes_a_C_owner : ReadAs (limits_of f) level K10 text segments leaves r text' segments' leaves' → owner_in segments' 3 ≡ 3 → ⊥
  unfolding segments_put k10 filed concat
  makes_a_C_owner g h =
      let is : owner_in segments' 3 ≡ 2 =
      ap (λ (s : List ℕ). owner_in s 3) (given K10 (k10-read f) g).segment_rows
      ∙ front_at segments k10.segment_rows (3 * segment_row_size + 1) (omega (arith, roomy-segments (limits_of f) (room_of text segments leaves) roomy, (small_least f).segments)) (lit≤ tt) in
      omega arith

  -- one that looks at the first letter of an addendum only (A2): AP and AC of K10 have rows of their own, six in all
  pub takes-AP_for_an_addendum : ReadAs (limits_of f) level K10 text segments leaves r text' segments' leaves' → r.card.segments < 6 → ⊥
  unfolding answer_of k10 filed
  takes-AP_for_an_addendum g h =
      let is : r.card.segments ≡ 6 = ap (λ (a : Answer). a.card.segments) (given K10 (k10-read f) g).answer in
      omega arith

  -- one that takes the text of an earlier field for the context (C1): ADM stands in field 3, and there is no field 7
  pub takes_an_earlier_field : ReadAs (limits_of f) level short_header text segments leaves r text' segments' leaves' → r.number ≡ 0 → ⊥
  unfolding answer_of
  takes_an_earlier_field g h =
      let is : r.number ≡ 9 = ap (λ (a : Answer). a.number) (given short_header (short-header-read f) g).answer in
      omega arith
