-- Each exported function's contract has one outcome on all inputs: two that satisfy it are equal, the answer and each buffer.
-- Assumes nothing.
use mathlib.Core.Bool.{Bool}
use mathlib.Core.List.{List}
use mathlib.Core.Path.{◌≡◌}
use Prim.Native.Nat.{ℕ}
use lib.IntN.{ℤ}
use Rattle.laws.proofs.Equality.{only_one}
use Rattle.form.specs.declared.limits.Limits.{Limits}
use Rattle.index.specs.Index.{sound_index}
use Rattle.line.specs.declared.finder.Found.{Found}
use Rattle.order.specs.Owners.{level}
use Rattle.source.specs.declared.row.RowPlace.{RowPlace}
use Rattle.source.specs.declared.row.LineRun.{LineRun}
use Rattle.source.specs.declared.position.Position.{Position}
use Rattle.table.specs.Lent.{Lent}
use Rattle.write.specs.inner.ReadsBack.{is_table}
use Rattle.look.specs.declared.leaf.Place.{Place}
use Rattle.look.specs.inner.Searching.{row_after, same_order}
use Rattle.abi.specs.Reading.{ReadInto}
use Rattle.abi.specs.Writing.{WroteInto}
use Rattle.abi.specs.Looking.{FoundLeaf, FoundLeafInSegment}
use Rattle.abi.specs.Lines.{FoundLine}
use Rattle.abi.specs.Watching.{Watched, ToldNext}
use Rattle.abi.specs.Places.{ToldPlace, ToldRun, ToldPosition}
use Rattle.abi.specs.Values.{ReadValueInto, WroteValueInto, ReadValuesInto}
use Rattle.abi.specs.Screening.{ScreenedInto}
use Rattle.abi.specs.Widening.{WidenedInto}
use Rattle.abi.specs.Indexing.{ReadIndexedInto, AskedCodes, AskedCount, AskedCode}

pub read : (L : Limits) (message text segments leaves answer : List ℕ) {r s : ℕ} {text₁ segments₁ leaves₁ answer₁ text₂ segments₂ leaves₂ answer₂ : List ℕ}
    → ReadInto L message text segments leaves answer r text₁ segments₁ leaves₁ answer₁
    → ReadInto L message text segments leaves answer s text₂ segments₂ leaves₂ answer₂
    → (r ≡ s) × (text₁ ≡ text₂) × (segments₁ ≡ segments₂) × (leaves₁ ≡ leaves₂) × (answer₁ ≡ answer₂)
read L message text segments leaves answer g h = (
  only_one g.number h.number,
  only_one g.text_area h.text_area,
  only_one g.segment_rows h.segment_rows,
  only_one g.leaf_rows h.leaf_rows,
  only_one g.numbers h.numbers,
)

pub write : (L : Limits) (table : Lent) (output answer : List ℕ) {r s : ℕ} {output₁ answer₁ output₂ answer₂ : List ℕ}
    → WroteInto L table output answer r output₁ answer₁ → WroteInto L table output answer s output₂ answer₂
    → (r ≡ s) × (output₁ ≡ output₂) × (answer₁ ≡ answer₂)
write L table output answer g h = (
  only_one g.number h.number,
  only_one g.message h.message,
  only_one g.answers h.answers,
)

pub is_table_lem : (L : Limits) (table : Lent) (r s : Bool) → r ≡ is_table L level table → s ≡ is_table L level table → r ≡ s
is_table_lem L table r s g h = only_one g h

pub find_leaf : (table : Lent) (place : Place) (answer : List ℕ) {r s : ℕ} {answer₁ answer₂ : List ℕ}
    → FoundLeaf table place answer r answer₁ → FoundLeaf table place answer s answer₂ → (r ≡ s) × (answer₁ ≡ answer₂)
find_leaf table place answer g h = (only_one g.told h.told, only_one g.numbers h.numbers)

pub find_leaf_in_segment : (table : Lent) (place : Place) (answer : List ℕ) {r s : ℕ} {answer₁ answer₂ : List ℕ}
    → FoundLeafInSegment table place answer r answer₁ → FoundLeafInSegment table place answer s answer₂ → (r ≡ s) × (answer₁ ≡ answer₂)
find_leaf_in_segment table place answer g h = (only_one g.told h.told, only_one g.numbers h.numbers)

pub next_row : (rows : List ℕ) (count after kind owner r s : ℕ)
    → r ≡ row_after rows count after kind owner → s ≡ row_after rows count after kind owner → r ≡ s
next_row rows count after kind owner r s g h = only_one g h

pub same-order : (table : Lent) (row : ℕ) (other : Lent) (other_row : ℕ) (r s : Bool)
    → r ≡ same_order table row other other_row → s ≡ same_order table row other other_row → r ≡ s
same-order table row other other_row r s g h = only_one g h

pub line : (found : Found) (at : ℕ) (answer : List ℕ) {r s : ℕ} {answer₁ answer₂ : List ℕ}
    → FoundLine found at answer r answer₁ → FoundLine found at answer s answer₂ → (r ≡ s) × (answer₁ ≡ answer₂)
line found at answer g h = (only_one g.number h.number, only_one g.places h.places)

pub watch : (bytes : List ℕ) (kind : ℕ) {r s : Bool} {bytes₁ bytes₂ : List ℕ}
    → Watched bytes kind r bytes₁ → Watched bytes kind s bytes₂ → (r ≡ s) × (bytes₁ ≡ bytes₂)
watch bytes kind g h = (only_one g.verdict h.verdict, only_one g.watcher h.watcher)

pub read-value : (text : List ℕ) (answer : List ℤ) {r s : ℕ} {answer₁ answer₂ : List ℤ} → ReadValueInto text answer r answer₁ → ReadValueInto text answer s answer₂
    → (r ≡ s) × (answer₁ ≡ answer₂)
read-value text answer g h = (only_one g.number h.number, only_one g.answers h.answers)

pub write_value : (whole : ℤ) (decimals : ℕ) (output answer : List ℕ) {r s : ℕ} {output₁ answer₁ output₂ answer₂ : List ℕ}
    → WroteValueInto whole decimals output answer r output₁ answer₁ → WroteValueInto whole decimals output answer s output₂ answer₂
    → (r ≡ s) × (output₁ ≡ output₂) × (answer₁ ≡ answer₂)
write_value whole decimals output answer g h = (
  only_one g.number h.number,
  only_one g.text h.text,
  only_one g.answers h.answers,
)

pub order-values : (L : Limits) (t : Lent) (order : ℕ) (numbers : List ℕ) (wholes : List ℤ) (decimals answer : List ℕ) {r s : ℕ}
    {numbers₁ numbers₂ : List ℕ} {wholes₁ wholes₂ : List ℤ} {decimals₁ decimals₂ answer₁ answer₂ : List ℕ}
    → ReadValuesInto L t order numbers wholes decimals answer r numbers₁ wholes₁ decimals₁ answer₁
    → ReadValuesInto L t order numbers wholes decimals answer s numbers₂ wholes₂ decimals₂ answer₂
    → (r ≡ s) × (numbers₁ ≡ numbers₂) × (wholes₁ ≡ wholes₂) × (decimals₁ ≡ decimals₂) × (answer₁ ≡ answer₂)
order-values L t order numbers wholes decimals answer g h = (
  only_one g.number h.number,
  only_one g.numbers-put h.numbers-put,
  only_one g.wholes_put h.wholes_put,
  only_one g.decimals-put h.decimals-put,
  only_one g.answers h.answers,
)

pub screen : (L : Limits) (table : Lent) (answer : List ℕ) {r s : ℕ} {answer₁ answer₂ : List ℕ} → ScreenedInto L table answer r answer₁ → ScreenedInto L table answer s answer₂
    → (r ≡ s) × (answer₁ ≡ answer₂)
screen L table answer g h = (only_one g.number h.number, only_one g.answers h.answers)

pub widen : (L : Limits) (table : Lent) (text segments leaves answer : List ℕ) {r s : ℕ} {text₁ segments₁ leaves₁ answer₁ text₂ segments₂ leaves₂ answer₂ : List ℕ}
    → WidenedInto L table text segments leaves answer r text₁ segments₁ leaves₁ answer₁
    → WidenedInto L table text segments leaves answer s text₂ segments₂ leaves₂ answer₂
    → (r ≡ s) × (text₁ ≡ text₂) × (segments₁ ≡ segments₂) × (leaves₁ ≡ leaves₂) × (answer₁ ≡ answer₂)
widen L table text segments leaves answer g h = (
  only_one g.number h.number,
  only_one g.text_area h.text_area,
  only_one g.segment_rows h.segment_rows,
  only_one g.leaf_rows h.leaf_rows,
  only_one g.numbers h.numbers,
)

pub read_indexed : (L : Limits) (message text segments leaves codes counts tally answer : List ℕ) {r s : ℕ}
    {text₁ segments₁ leaves₁ codes₁ counts₁ tally₁ answer₁ text₂ segments₂ leaves₂ codes₂ counts₂ tally₂ answer₂ : List ℕ}
    → ReadIndexedInto L message text segments leaves codes counts tally answer r text₁ segments₁ leaves₁ codes₁ counts₁ tally₁ answer₁
    → ReadIndexedInto L message text segments leaves codes counts tally answer s text₂ segments₂ leaves₂ codes₂ counts₂ tally₂ answer₂
    → (r ≡ s) × (text₁ ≡ text₂) × (segments₁ ≡ segments₂) × (leaves₁ ≡ leaves₂) × (codes₁ ≡ codes₂) × (counts₁ ≡ counts₂) × (tally₁ ≡ tally₂)
    × (answer₁ ≡ answer₂)
read_indexed L message text segments leaves codes counts tally answer g h = (
  only_one g.number h.number,
  only_one g.text_area h.text_area,
  only_one g.segment_rows h.segment_rows,
  only_one g.leaf_rows h.leaf_rows,
  only_one g.codes_are h.codes_are,
  only_one g.counts_are h.counts_are,
  only_one g.tally_is h.tally_is,
  only_one g.numbers h.numbers,
)

pub index_sound : (codes counts : List ℕ) (r s : Bool) → r ≡ sound_index codes counts → s ≡ sound_index codes counts → r ≡ s
index_sound codes counts r s g h = only_one g h

pub index_codes : (codes counts answer : List ℕ) {r s : ℕ} {answer₁ answer₂ : List ℕ} → AskedCodes codes counts answer r answer₁ → AskedCodes codes counts answer s answer₂
    → (r ≡ s) × (answer₁ ≡ answer₂)
index_codes codes counts answer g h = (only_one g.told h.told, only_one g.answers h.answers)

pub index_count : (codes counts code answer : List ℕ) {r s : ℕ} {answer₁ answer₂ : List ℕ}
    → AskedCount codes counts code answer r answer₁ → AskedCount codes counts code answer s answer₂ → (r ≡ s) × (answer₁ ≡ answer₂)
index_count codes counts code answer g h = (only_one g.told h.told, only_one g.answers h.answers)

pub index_code : (codes counts : List ℕ) (k : ℕ) (answer : List ℕ) {r s : ℕ} {answer₁ answer₂ : List ℕ}
    → AskedCode codes counts k answer r answer₁ → AskedCode codes counts k answer s answer₂ → (r ≡ s) × (answer₁ ≡ answer₂)
index_code codes counts k answer g h = (only_one g.told h.told, only_one g.answers h.answers)

pub row-place : (place : RowPlace) (answer : List ℕ) {r s : ℕ} {answer₁ answer₂ : List ℕ} → ToldPlace place answer r answer₁ → ToldPlace place answer s answer₂
    → (r ≡ s) × (answer₁ ≡ answer₂)
row-place place answer g h = (only_one g.told h.told, only_one g.answers h.answers)

pub row_at : (run : LineRun) (answer : List ℕ) {r s : ℕ} {answer₁ answer₂ : List ℕ} → ToldRun run answer r answer₁ → ToldRun run answer s answer₂
    → (r ≡ s) × (answer₁ ≡ answer₂)
row_at run answer g h = (only_one g.told h.told, only_one g.answers h.answers)

pub position : (found : Position) (answer : List ℕ) {r s : ℕ} {answer₁ answer₂ : List ℕ} → ToldPosition found answer r answer₁ → ToldPosition found answer s answer₂
    → (r ≡ s) × (answer₁ ≡ answer₂)
position found answer g h = (only_one g.told h.told, only_one g.answers h.answers)

pub next-kinds : (context kind : ℕ) (kinds : List ℕ) {r s : Bool} {kinds₁ kinds₂ : List ℕ} → ToldNext context kind kinds r kinds₁ → ToldNext context kind kinds s kinds₂
    → (r ≡ s) × (kinds₁ ≡ kinds₂)
next-kinds context kind kinds g h = (only_one g.fits h.fits, only_one g.next h.next)
