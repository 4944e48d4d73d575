-- Indexes that the contract of reading with one shuts out, each by a message or by one of the statements.
-- Assumes nothing.
use mathlib.Core.Bool.{true, false}
use mathlib.Core.List.{List, [], ◌∷◌}
use mathlib.Core.Path.{◌≡◌, refl, ap, ◌∙◌}
use Prim.Native.Nat.{ℕ, ◌+◌, ◌≤◌}
use native.Mathlib.Omega.{arith}
use lib.ListN.{length}
use borrow.Author.Tests.{le-ltb}
use Rattle.laws.specs.Lists.{same, among, count, sum_of, first_from}
use Rattle.laws.specs.Texts.{bytes}
use Rattle.laws.specs.Every.{All}
use Rattle.laws.proofs.Tests.{never_both}
use Rattle.form.specs.declared.limits.Limits.{Limits}
use Rattle.form.specs.declared.forms.Form.{Form}
use Rattle.form.specs.declared.forms.Form.TheVariants.{Small, Large}
use Rattle.form.specs.Forms.{limits_of}
use Rattle.form.specs.Header.{within, allowed, all_allowed, different, separators_of, five, sound_header, header_of}
use Rattle.form.specs.Names.{kind_names, number_among, kind_of}
use Rattle.line.specs.Lines.{inside, walk_from, walk, texts}
use Rattle.line.specs.Joining.{addendum, carried, joined}
use Rattle.table.specs.Leaves.{onto, split, kind_of_segment}
use Rattle.index.specs.declared.tally.Tally.{Tally}
use Rattle.index.specs.Refusals.{full_index, full_count, no_index_number}
use Rattle.index.specs.Index.{codes_most, entries_in, sound_index, names, count_of}
use Rattle.index.proofs.Sizes.{roomy_parts}
use Rattle.index.proofs.Entries.{length-entries}
use Rattle.index.proofs.AddedAll.{length-all-named}
use Rattle.index.proofs.Halved.{sound-roomy, sound-rises}
use Rattle.read.specs.declared.indexed.Indexed.{Indexed}
use Rattle.read.specs.Codes.{leaf_code, code_carried, codes_in, codes_counted}
use Rattle.read.specs.Counting.{IndexedAs}
use Rattle.demands.specs.Counts.{segment_count, results_with, entries_with, AddedMessage, HoldsHistory}
use Rattle.demands.proofs.Counting.{none-long_fit}
use Rattle.demands.proofs.Counts.{refused_unchanged, no_index, full_index_lem, adds}

-- four results: one has no code, and two have the same one
unfoldable pub four_results : List ℕ
four_results = bytes "H|~^\\&|||LAB||ORU\rP|1\rOBR|1\rOBX|1|NM|GLY||1.2\rOBX|2|NM|URE~Urea||3\rOBX|3|NM|||4\rOBX|4|NM|GLY||5\rL|1\r"

-- the first code cut, its rest in an addendum
unfoldable pub cut_code : List ℕ
cut_code = bytes "H|~^\\&|||LAB||ORU\rP|1\rOBR|1\rOBX|1|NM|G\rA|LY||1.2\rOBX|2|NM|URE~Urea||3\rOBX|3|NM|||4\rOBX|4|NM|GLY||5\rL|1\r"

-- a second repetition of 10.4
unfoldable pub two_repetitions : List ℕ
two_repetitions = bytes "H|~^\\&|||LAB||ORU\rP|1\rOBR|1\rOBX|1|NM|GLY^URE||1.2\rL|1\r"

-- what they carry, in both forms
pub four-results : (f : Form) → codes_counted (codes_in (limits_of f) four_results) ≡ bytes "GLY" ∷ bytes "URE" ∷ bytes "GLY" ∷ []
unfolding four_results same among first_from bytes within allowed all_allowed different separators_of five sound_header header_of kind_names
    number_among kind_of inside walk_from walk texts addendum carried joined onto split kind_of_segment limits_of leaf_code code_carried codes_in codes_counted
four-results Small = refl
four-results Large = refl

pub cut-code : (f : Form) → codes_in (limits_of f) cut_code ≡ codes_in (limits_of f) four_results
unfolding four_results cut_code same among first_from bytes within allowed all_allowed different separators_of five sound_header header_of kind_names
    number_among kind_of inside walk_from walk texts addendum carried joined onto split kind_of_segment limits_of leaf_code code_carried codes_in codes_counted
cut-code Small = refl
cut-code Large = refl

cut-segments : (f : Form) → segment_count (limits_of f) cut_code ≡ 8
unfolding cut_code same among first_from bytes within allowed all_allowed different separators_of five sound_header header_of
    inside walk_from walk texts addendum carried joined limits_of segment_count
cut-segments Small = refl
cut-segments Large = refl

two_repetitions_lem : (f : Form) → codes_counted (codes_in (limits_of f) two_repetitions) ≡ bytes "GLY" ∷ []
unfolding two_repetitions same among first_from bytes within allowed all_allowed different separators_of five sound_header header_of kind_names
    number_among kind_of inside walk_from walk texts addendum carried joined onto split kind_of_segment limits_of leaf_code code_carried codes_in codes_counted
two_repetitions_lem Small = refl
two_repetitions_lem Large = refl

-- how often codes carry one: a count of a list that is known
rows_of : {cs ds : List (List ℕ)} (c : List ℕ) → cs ≡ ds → count (λ (d : List ℕ). same d c) cs ≡ count (λ (d : List ℕ). same d c) ds
rows_of c e = ap (λ (s : List (List ℕ)). count (λ (d : List ℕ). same d c) s) e

-- of any reading in a form
module _ (f : Form) (levels : ℕ → ℕ → ℕ) (message : List ℕ) {tally : Tally}
    {text segments leaves codes counts text' segments' leaves' codes' counts' : List ℕ} {r : Indexed}
    (w : IndexedAs (limits_of f) levels tally message text segments leaves codes counts r text' segments' leaves' codes' counts') where
  -- one that counts a refused message, be it in the index or in the tally
  pub counts_a_refused_message : (r.answer.number ≡ 0 → ⊥) → (codes' ≡ codes → counts' ≡ counts → r.tally ≡ tally → ⊥) → ⊥
  counts_a_refused_message declined other = let kept = refused_unchanged (limits_of f) levels message w declined in other kept.3 kept.4 kept.5

  -- one that counts the message where a count is full (52)
  pub counts_where_full : r.answer.number ≡ full_count → r.tally.messages ≡ tally.messages + 1 → ⊥
  counts_where_full e more =
      let kept = refused_unchanged (limits_of f) levels message w (λ z. omega (arith, e, z)) in
      omega (arith, more, ap (λ (t : Tally). t.messages) kept.5)

  -- one that judges the message before the index (53)
  pub judges_the_message_first : sound_index codes counts ≡ false → (r.answer.number ≡ no_index_number → ⊥) → ⊥
  judges_the_message_first e other = other ((no_index (limits_of f) levels message w).1 e)

-- one that counts lines: of nine lines there are eight segments
pub counts-lines : (f : Form) (levels : ℕ → ℕ → ℕ) {tally : Tally}
    {text segments leaves codes counts text' segments' leaves' codes' counts' : List ℕ} {r : Indexed}
    → IndexedAs (limits_of f) levels tally cut_code text segments leaves codes counts r text' segments' leaves' codes' counts' → r.answer.number ≡ 0
    → r.tally.segments ≡ tally.segments + 9 → ⊥
counts-lines f levels w taken nine =
    omega (arith, nine, ap (λ (t : Tally). t.segments) (adds (limits_of f) levels cut_code w taken).tallied, cut-segments f)

-- one that counts the parts of a cut code, or a code twice in the index for two rows in the message
pub counts_parts : (f : Form) (levels : ℕ → ℕ → ℕ) {tally : Tally}
    {text segments leaves codes counts text' segments' leaves' codes' counts' : List ℕ} {r : Indexed}
    → IndexedAs (limits_of f) levels tally cut_code text segments leaves codes counts r text' segments' leaves' codes' counts' → r.answer.number ≡ 0
    → (count_of (entries_in codes' counts') (bytes "GLY") ≡ count_of (entries_in codes counts) (bytes "GLY") + 2 → ⊥) → ⊥
unfolding count same bytes
counts_parts f levels w taken other =
    let two : results_with (limits_of f) cut_code (bytes "GLY") ≡ 2 = rows_of (bytes "GLY") (ap codes_counted (cut-code f) ∙ four-results f) in
    other (omega (arith, (adds (limits_of f) levels cut_code w taken).counted (bytes "GLY"), two))

-- one that counts a result without a code
pub counts_the_empty : (f : Form) (levels : ℕ → ℕ → ℕ) {tally : Tally}
    {text segments leaves codes counts text' segments' leaves' codes' counts' : List ℕ} {r : Indexed}
    → IndexedAs (limits_of f) levels tally four_results text segments leaves codes counts r text' segments' leaves' codes' counts'
    → r.answer.number ≡ 0
    → r.tally.results ≡ tally.results + 4 → ⊥
counts_the_empty f levels w taken four =
    omega (arith, four, ap (λ (t : Tally). t.results) (adds (limits_of f) levels four_results w taken).tallied, ap length (four-results f))

-- one that counts a second repetition
pub counts_a_repetition : (f : Form) (levels : ℕ → ℕ → ℕ) {tally : Tally}
    {text segments leaves codes counts text' segments' leaves' codes' counts' : List ℕ} {r : Indexed}
    → IndexedAs (limits_of f) levels tally two_repetitions text segments leaves codes counts r text' segments' leaves' codes' counts'
    → r.answer.number ≡ 0
    → count_of (entries_in codes' counts') (bytes "URE") ≡ count_of (entries_in codes counts) (bytes "URE") + 1 → ⊥
unfolding count same bytes
counts_a_repetition f levels w taken one =
    let nought : results_with (limits_of f) two_repetitions (bytes "URE") ≡ 0 = rows_of (bytes "URE") (two_repetitions_lem f) in
    omega (arith, one, (adds (limits_of f) levels two_repetitions w taken).counted (bytes "URE"), nought)

-- one that refuses with 51 where every code stood in the index: these take no place
pub full_though_named : (L : Limits) (levels : ℕ → ℕ → ℕ) (message : List ℕ) {tally : Tally}
    {text segments leaves codes counts text' segments' leaves' codes' counts' : List ℕ} {r : Indexed}
    → IndexedAs L levels tally message text segments leaves codes counts r text' segments' leaves' codes' counts'
    → All (λ (c : List ℕ). names (entries_in codes counts) c ≡ true) (codes_counted (codes_in L message)) → r.answer.number ≡ full_index → ⊥
full_though_named L levels message {codes = codes} {counts = counts} w named e =
    let so = (full_index_lem L levels message w).0 e in
    let sound = so.0.sound in
    let long =
    length-all-named (codes_counted (codes_in L message)) (entries_in codes counts) (none-long_fit (codes_in L message) so.1)
    (sound-rises codes counts sound) named in
    never_both so.2
    (le-ltb codes_most (length (entries_with L message codes counts))
    (omega (arith, long, length-entries codes counts, (roomy_parts codes counts (sound-roomy codes counts sound)).few_named)))

-- one that counts a message once which was added twice
pub counts-once : {codes counts : List ℕ} {tally : Tally} {before : List AddedMessage} (a : AddedMessage)
    → HoldsHistory codes counts tally (a ∷ a ∷ before) → (c : List ℕ) → 1 ≤ results_with a.limits a.message c
    → count_of (entries_in codes counts) c
    ≡ results_with a.limits a.message c + sum_of (λ (b : AddedMessage). results_with b.limits b.message c) before → ⊥
unfolding sum_of
counts-once a h c some once = omega (arith, h.counted c, once, some)
