-- Leaf rows that go on soundly after the header's two: their places follow each other, and their texts are one stretch of the text.
-- Assumes nothing.
use mathlib.Core.Bool.{Bool, true, false, not, ◌&&◌, and_assoc}
use mathlib.Core.List.{List, [], ◌∷◌, ◌++◌}
use mathlib.Core.Logic.{◌⊎◌, inl, inr}
use mathlib.Core.Path.{◌≡◌, refl, sym, ap, ap₂, ◌∙◌, subst}
use Prim.Native.Nat.{ℕ, zero, suc, ◌+◌, ◌-◌, ◌*◌, ◌≤◌, ◌<◌}
use native.Mathlib.Omega.{arith}
use lib.Dec.{leb}
use lib.ListN.{length, take, drop, get_or, length-drop, take-append-drop, drop_of_length-le}
use lib.Seq.{drop-drop, take_all}
use Rattle.laws.specs.Lists.{same, among}
use Rattle.laws.specs.Tables.{values}
use Rattle.laws.proofs.Cases.{equal_or_not}
use Rattle.laws.proofs.Lists.{same_equal, different-same}
use Rattle.laws.proofs.Tests.{and_first, and_second, and_fails_first}
use Rattle.form.specs.Header.{all_allowed, different, five, splitting}
use Rattle.line.specs.Lines.{space}
use Rattle.table.specs.inner.Flat.{ones}
use Rattle.table.specs.Rows.{leaf_row_size, place_in, start_in}
use Rattle.table.specs.inner.Columns.{field_in}
use Rattle.table.specs.inner.Back.{leaf_at, separators_at}
use Rattle.table.specs.inner.RowTests.{end_to_end, next_place, leaf_text, go_on, go_on_from}
use Rattle.table.proofs.EndToEnd.{ends-start, ends-later, ends_last, ended-from}
use Rattle.write.specs.inner.Local.{third_place}
use Rattle.write.specs.inner.Tests.{leaves_between, header_leaves_at, sound_leaves}
use Rattle.write.specs.inner.Asked.{Headed}
use Rattle.write.proofs.HeaderTest.{field_of, place-next, header-leaves, same_of}
use Rattle.write.proofs.SegmentTests.{leaves_cons}

-- a text in two parts
leaf-text-append : (ps s t : List ℕ) → leaf_text ps (s ++ t) ≡ (leaf_text ps s && leaf_text ps t)
unfolding leaf_text
leaf-text-append ps [] t = refl
leaf-text-append ps (b ∷ s) t =
    ap (λ (x : Bool). head && x) (leaf-text-append ps s t) ∙ sym (and_assoc head (leaf_text ps s) (leaf_text ps t))
  where
    head : Bool
    head = leb space b && not (among ps b)

-- the texts of rows that are laid out, tested as one stretch
module _ (ps rows text : List ℕ) where
  pub texts_decide : (j n start : ℕ) → end_to_end rows (length text) (suc j) n start ≡ true
      → ((k : ℕ) → j ≤ k → k < j + n → next_place (place_in rows k) (place_in rows (suc k)) ≡ true)
      → leaf_text ps (drop start text) ≡ go_on ps (leaf_at rows text j).place (values (leaf_at rows text) (suc j) n)
  unfolding values go_on leaf_at leaf_text
  texts_decide j zero start h next =
      ap (leaf_text ps) (drop_of_length-le text {i = start} (omega (arith, (ends_last rows (length text) (suc j) start).0 h)))
  texts_decide j (suc n) start h next =
      ap (leaf_text ps) (sym (take-append-drop len (drop start text)) ∙ ap (λ (r : List ℕ). take len (drop start text) ++ r) (drop-drop len start text))
      ∙ leaf-text-append ps (take len (drop start text)) (drop (start + len) text)
      ∙ ap₂ (λ (a b : Bool). a && b)
      (ap (λ (k : ℕ). leaf_text ps (take len (drop k text))) (sym (ends-start rows (length text) (suc j) n start h)))
      (texts_decide (suc j) n (start + len) (ends-later rows (length text) (suc j) n start h) (λ k low high. next k (omega arith) (omega arith)))
      ∙ ap (λ (b : Bool). b && leaf_text ps (leaf_at rows text (suc j)).text && go_on ps (leaf_at rows text (suc j)).place (values (leaf_at rows text) (suc (suc j)) n))
      (sym (next j (omega arith) (omega arith)))
    where
      len : ℕ
      len = get_or rows (suc j * leaf_row_size + 6) 0

  -- and where leaves go on soundly, their places follow each other
  pub goes_next : (j n : ℕ) → go_on ps (leaf_at rows text j).place (values (leaf_at rows text) (suc j) n) ≡ true
      → (k : ℕ) → j ≤ k → k < j + n → next_place (place_in rows k) (place_in rows (suc k)) ≡ true
  unfolding values go_on leaf_at
  goes_next j zero h k low high = let z : ⊥ = omega arith in absurd z
  goes_next j (suc n) h k low high = go (equal_or_not j k) (λ e d. goes_next (suc j) n e k d (omega arith))
    where
      next : Bool
      next = next_place (place_in rows j) (place_in rows (suc j))

      own : Bool
      own = leaf_text ps (leaf_at rows text (suc j)).text

      others : Bool
      others = go_on ps (leaf_at rows text (suc j)).place (values (leaf_at rows text) (suc (suc j)) n)

      go : (j ≡ k) ⊎ (j ≡ k → ⊥) → (others ≡ true → suc j ≤ k → next_place (place_in rows k) (place_in rows (suc k)) ≡ true)
          → next_place (place_in rows k) (place_in rows (suc k)) ≡ true
      go (inl e) ih = subst (λ (m : ℕ). next_place (place_in rows m) (place_in rows (suc m)) ≡ true) e (and_first next own (and_first (next && own) others h))
      go (inr d) ih = ih (and_second (next && own) others h) (omega arith)

-- leaves from the third on: whether the third stands at its place, its text, the others
module _ (ps rows text : List ℕ) (count : ℕ) (many : 3 ≤ count) where
  abbrev third-text : Bool
  third-text = leaf_text ps (leaf_at rows text 2).text

  abbrev after-third : Bool
  after-third = go_on ps (place_in rows 2) (leaves_between rows text 3 count)

  begun : (same (place_in rows 2) third_place && third-text && after-third) ≡ go_on_from ps third_place (leaves_between rows text 2 count)
  unfolding go_on_from leaf_at
  begun = ap (go_on_from ps third_place) (sym (leaves_cons rows text 2 count (omega arith)))

  pub third_elsewhere : (field_in rows 2 ≡ 3 → ⊥) → false ≡ go_on_from ps third_place (leaves_between rows text 2 count)
  third_elsewhere n = sym (and_fails_first after-third (and_fails_first third-text (different-same (λ e. n (field_of rows 2 3 e))))) ∙ begun

-- the rows after the header's: their texts, as one stretch, decide
pub third_decides : (ps rows text : List ℕ) (count : ℕ) → Headed rows text count → field_in rows 2 ≡ 3 → {from : ℕ} → from ≡ start_in rows 2
    → leaf_text ps (take (length text - from) (drop from text)) ≡ go_on_from ps third_place (leaves_between rows text 2 count)
unfolding go_on leaf_at
third_decides ps rows text count w third {from} e =
    let laid = w.laid in
    let many = laid.three in
    let next = laid.next 1 (omega arith) in
    let there = place-next rows 1 2 (omega arith) (omega (arith, laid.in_text.sized)) (header-leaves rows text w.header).second next third in
    ap (leaf_text ps) (take_all (length text - from) (drop from text) (omega (arith, length-drop from text)))
    ∙ ap (λ (k : ℕ). leaf_text ps (drop k text)) e
    ∙ texts_decide ps rows text 1 (count - 2) (start_in rows 2) (ended-from rows (length text) count laid.in_text.ended 1 (omega arith))
    (λ k low high. laid.next k (omega arith))
    ∙ ap (go_on ps (place_in rows 1)) (leaves_cons rows text 2 count (omega arith))
    ∙ ap (λ (b : Bool). b && third-text ps rows text count many && after-third ps rows text count many) (next ∙ sym (same_of (place_in rows 2) third_place there))
    ∙ begun ps rows text count many

-- what the tests of all leaves say
pub record SoundLeaves (field : ℕ) (rows text : List ℕ) (count : ℕ) : Type 0 where
  pub header : header_leaves_at rows text ≡ true
  pub allowed : all_allowed (five (separators_at field rows text)) ≡ true
  pub distinct : different (five (separators_at field rows text)) ≡ true
  pub goes : go_on_from (splitting (separators_at field rows text)) third_place (leaves_between rows text 2 count) ≡ true

module _ (field : ℕ) (rows text : List ℕ) (count : ℕ) (h : sound_leaves field rows text count ≡ true) where
  pub sound_parts : SoundLeaves field rows text count
  unfolding sound_leaves
  sound_parts =
      let ps = separators_at field rows text in
      let head = header_leaves_at rows text in
      let a = all_allowed (five ps) in
      let d = different (five ps) in
      let goes = go_on_from (splitting ps) third_place (leaves_between rows text 2 count) in
      let both = and_first (head && (a && d)) goes h in
      let rule = and_second head (a && d) both in
      record {
        header = and_first head (a && d) both;
        allowed = and_first a d rule;
        distinct = and_second a d rule;
        goes = and_second (head && (a && d)) goes h;
      }

  -- the first row is of field 1
  pub sound-first : field_in rows 0 ≡ 1
  sound-first = field_of rows 0 1 (header-leaves rows text sound_parts.header).first

  -- and each stands at the next place
  pub sound-next : 3 ≤ count → (k : ℕ) → suc k < count → next_place (place_in rows k) (place_in rows (suc k)) ≡ true
  unfolding leaf_at next_place same ones
  sound-next many k l = go k l
    where
      ps : List ℕ
      ps = splitting (separators_at field rows text)

      goes : (same (place_in rows 2) third_place && third-text ps rows text count many && after-third ps rows text count many) ≡ true
      goes = begun ps rows text count many ∙ sound_parts.goes

      head : Bool
      head = same (place_in rows 2) third_place && third-text ps rows text count many

      third : place_in rows 2 ≡ third_place
      third =
          same_equal (place_in rows 2) third_place
          (and_first (same (place_in rows 2) third_place) (third-text ps rows text count many) (and_first head (after-third ps rows text count many) goes))

      go : (k : ℕ) → suc k < count → next_place (place_in rows k) (place_in rows (suc k)) ≡ true
      go zero l = ap₂ next_place (header-leaves rows text sound_parts.header).first (header-leaves rows text sound_parts.header).second
      go (suc zero) l = ap₂ next_place (header-leaves rows text sound_parts.header).second third
      go (suc (suc k)) l =
          goes_next ps rows text 2 (count - 3) (and_second head (after-third ps rows text count many) goes) (suc (suc k)) (omega arith) (omega arith)
