-- The index by analysis code (X1 to X5), proved of any reading: one outcome, what a refusal leaves, each refusal exactly, what an accepted message adds,
-- and that cutting changes nothing.
-- Assumes nothing.
use mathlib.Core.Bool.{Bool, true, false, ◌||◌}
use mathlib.Core.List.{List, [], map}
use mathlib.Core.Logic.{◌↔◌, ◌⊎◌, inl, inr}
use mathlib.Core.Path.{◌≡◌, sym, ap, ap₂, ◌∙◌, subst}
use Prim.Native.Nat.{ℕ, ◌≤◌}
use native.Mathlib.Omega.{arith}
use Rattle.laws.proofs.Tests.{never_both}
use Rattle.form.specs.declared.limits.Limits.{Limits}
use Rattle.form.specs.declared.separators.Separators.{Separators}
use Rattle.form.specs.declared.separators.Header.{Header}
use Rattle.form.specs.declared.separators.Header.TheVariants.{Sound, Broken}
use Rattle.form.specs.Limits.{Lawful}
use Rattle.table.specs.Rows.{Table}
use Rattle.table.specs.Reading.{Room, room_of, Outcome, refused, accepted, reading}
use Rattle.index.specs.declared.tally.Tally.{Tally}
use Rattle.index.specs.Refusals.{long_code, full_index, full_count, no_index_number}
use Rattle.index.specs.Index.{sound_index}
use Rattle.index.specs.Adding.{too_many, too_large}
use Rattle.index.specs.Tallying.{tally_too_large}
use Rattle.read.specs.declared.indexed.Indexed.{Indexed}
use Rattle.read.specs.Answering.{no_card, Gives, ReadAs}
use Rattle.read.specs.Sound.{segments_in, SoundLines}
use Rattle.read.specs.Codes.{code_carried, codes_in, first_long}
use Rattle.read.specs.Counting.{Ledger, Counting, turned, counting_of, counting, as_outcome, Leaves, IndexedAs}
use Rattle.demands.specs.Counts.{entries_with, tally_with, Eligible, AddsMessage, Counts}
use Rattle.read.proofs.OnlyOne.{refusal_numbers}
use Rattle.read.proofs.CutAnyhow.{joined_separators, same-joined}
use Rattle.demands.proofs.Counting.{Judging, by_index, by_reader, by_long, by_many, by_large, counts_it, judging}
use Rattle.demands.proofs.Counting.{outcome_unsound, outcome_long, outcome_many, outcome_past, outcome_held, is_turned, is_counted}
use Rattle.demands.proofs.IndexMeans.{index_means}
use Rattle.demands.proofs.GivenEntries.{entries-given}
use Rattle.demands.proofs.MessageAdded.{adds-message}

-- one outcome, whatever it is
module _ {o : Counting} {tally : Tally} {text segments leaves codes counts : List ℕ} {r s : Indexed}
    {text₁ segments₁ leaves₁ codes₁ counts₁ text₂ segments₂ leaves₂ codes₂ counts₂ : List ℕ} where
  only-one-left : Leaves o tally text segments leaves codes counts r text₁ segments₁ leaves₁ codes₁ counts₁
      → Leaves o tally text segments leaves codes counts s text₂ segments₂ leaves₂ codes₂ counts₂
      → (r ≡ s) × (text₁ ≡ text₂) × (segments₁ ≡ segments₂) × (leaves₁ ≡ leaves₂) × (codes₁ ≡ codes₂) × (counts₁ ≡ counts₂)
  only-one-left g h =
      let answers : r.answer ≡ s.answer = g.given.answer ∙ sym h.given.answer in
      let tallies : r.tally ≡ s.tally = g.tally_is ∙ sym h.tally_is in
      let whole : r ≡ s = λ i. record { answer = answers i; tally = tallies i } in (
        whole,
        g.given.text_area ∙ sym h.given.text_area,
        g.given.segment_rows ∙ sym h.given.segment_rows,
        g.given.leaf_rows ∙ sym h.given.leaf_rows,
        g.codes_are ∙ sym h.codes_are,
        g.counts_are ∙ sym h.counts_are,
      )

module _ (L : Limits) (levels : ℕ → ℕ → ℕ) (message : List ℕ) {tally : Tally}
    {text segments leaves codes counts text' segments' leaves' codes' counts' : List ℕ} {r : Indexed}
    (w : IndexedAs L levels tally message text segments leaves codes counts r text' segments' leaves' codes' counts') where
  abbrev room : Room
  room = room_of text segments leaves

  abbrev Cases : Type 0
  Cases = Judging L levels room tally message codes counts

  abbrev eligible : Type 0
  eligible = Eligible L levels message text segments leaves codes counts

  abbrev none-long : Type 0
  none-long = first_long (codes_in L message) ≡ 0

  abbrev full : Bool
  full = too_many (entries_with L message codes counts)

  abbrev large : Bool
  large = too_large (entries_with L message codes counts) || tally_too_large (tally_with L message tally)

  cases : Cases
  cases = judging L levels room tally message codes counts

  -- refused, nothing changes
  unchanged_by : Cases → (r.answer.number ≡ 0 → ⊥)
      → (text' ≡ text) × (segments' ≡ segments) × (leaves' ≡ leaves) × (codes' ≡ codes) × (counts' ≡ counts) × (r.tally ≡ tally) × (r.answer.card ≡ no_card)
  unchanged_by (by_index e q) h = (is_turned w no_index_number 0 q).unchanged
  unchanged_by (by_reader n p e f q) h = (is_turned w n p q).unchanged
  unchanged_by (by_long t e f g q) h = (is_turned w long_code (first_long (codes_in L message)) q).unchanged
  unchanged_by (by_many t e f g m q) h = (is_turned w full_index 0 q).unchanged
  unchanged_by (by_large t e f g m l q) h = (is_turned w full_count 0 q).unchanged
  unchanged_by (counts_it t e f g m l q) h = absurd (h (is_counted w t _ _ q).number)

  pub refused_unchanged : (r.answer.number ≡ 0 → ⊥)
      → (text' ≡ text) × (segments' ≡ segments) × (leaves' ≡ leaves) × (codes' ≡ codes) × (counts' ≡ counts) × (r.tally ≡ tally) × (r.answer.card ≡ no_card)
  refused_unchanged h = unchanged_by cases h

  -- the numbers, by the case
  own_small : (n p : ℕ) → reading L levels room message ≡ refused n p → (1 ≤ n) × (n ≤ 11)
  own_small n p f = refusal_numbers L levels room message n p f

  -- the plain reader's answer and table
  as_plain : {o : Outcome} → as_outcome (counting L levels room (record { codes = codes; counts = counts; tally = tally }) message) ≡ o
      → reading L levels room message ≡ o → ReadAs L levels message text segments leaves r.answer text' segments' leaves'
  as_plain e f = subst (λ (o : Outcome). Gives o text segments leaves r.answer text' segments' leaves') (e ∙ sym f) w.given

  plain_by : Cases → (r.answer.number ≡ long_code → ⊥) → (r.answer.number ≡ full_index → ⊥) → (r.answer.number ≡ full_count → ⊥) → (r.answer.number ≡ no_index_number → ⊥)
      → ReadAs L levels message text segments leaves r.answer text' segments' leaves'
  unfolding as_outcome
  plain_by (by_index e q) h₀ h₁ h₂ h₃ = absurd (h₃ (is_turned w no_index_number 0 q).number)
  plain_by (by_reader n p e f q) h₀ h₁ h₂ h₃ = as_plain (ap as_outcome q) f
  plain_by (by_long t e f g q) h₀ h₁ h₂ h₃ = absurd (h₀ (is_turned w long_code (first_long (codes_in L message)) q).number)
  plain_by (by_many t e f g m q) h₀ h₁ h₂ h₃ = absurd (h₁ (is_turned w full_index 0 q).number)
  plain_by (by_large t e f g m l q) h₀ h₁ h₂ h₃ = absurd (h₂ (is_turned w full_count 0 q).number)
  plain_by (counts_it t e f g m l q) h₀ h₁ h₂ h₃ = as_plain (ap as_outcome q) f

  -- each number says which case it was
  unsound_by : Cases → r.answer.number ≡ no_index_number → sound_index codes counts ≡ false
  unsound_by (by_index e q) h = e
  unsound_by (by_reader n p e f q) h = absurd (omega (arith, h, (is_turned w n p q).number, (own_small n p f).1))
  unsound_by (by_long t e f g q) h = absurd (omega (arith, h, (is_turned w long_code (first_long (codes_in L message)) q).number))
  unsound_by (by_many t e f g m q) h = absurd (omega (arith, h, (is_turned w full_index 0 q).number))
  unsound_by (by_large t e f g m l q) h = absurd (omega (arith, h, (is_turned w full_count 0 q).number))
  unsound_by (counts_it t e f g m l q) h = absurd (omega (arith, h, (is_counted w t _ _ q).number))

  long_by : Cases → r.answer.number ≡ long_code → eligible × (none-long → ⊥)
  long_by (by_index e q) h = absurd (omega (arith, h, (is_turned w no_index_number 0 q).number))
  long_by (by_reader n p e f q) h = absurd (omega (arith, h, (is_turned w n p q).number, (own_small n p f).1))
  long_by (by_long t e f g q) h = (record { sound = e; table = t; reads = f }, g)
  long_by (by_many t e f g m q) h = absurd (omega (arith, h, (is_turned w full_index 0 q).number))
  long_by (by_large t e f g m l q) h = absurd (omega (arith, h, (is_turned w full_count 0 q).number))
  long_by (counts_it t e f g m l q) h = absurd (omega (arith, h, (is_counted w t _ _ q).number))

  full_by : Cases → r.answer.number ≡ full_index → eligible × none-long × (full ≡ true)
  full_by (by_index e q) h = absurd (omega (arith, h, (is_turned w no_index_number 0 q).number))
  full_by (by_reader n p e f q) h = absurd (omega (arith, h, (is_turned w n p q).number, (own_small n p f).1))
  full_by (by_long t e f g q) h = absurd (omega (arith, h, (is_turned w long_code (first_long (codes_in L message)) q).number))
  full_by (by_many t e f g m q) h = (record { sound = e; table = t; reads = f }, g, m)
  full_by (by_large t e f g m l q) h = absurd (omega (arith, h, (is_turned w full_count 0 q).number))
  full_by (counts_it t e f g m l q) h = absurd (omega (arith, h, (is_counted w t _ _ q).number))

  large_by : Cases → r.answer.number ≡ full_count → eligible × none-long × (full ≡ false) × (large ≡ true)
  large_by (by_index e q) h = absurd (omega (arith, h, (is_turned w no_index_number 0 q).number))
  large_by (by_reader n p e f q) h = absurd (omega (arith, h, (is_turned w n p q).number, (own_small n p f).1))
  large_by (by_long t e f g q) h = absurd (omega (arith, h, (is_turned w long_code (first_long (codes_in L message)) q).number))
  large_by (by_many t e f g m q) h = absurd (omega (arith, h, (is_turned w full_index 0 q).number))
  large_by (by_large t e f g m l q) h = (record { sound = e; table = t; reads = f }, g, m, l)
  large_by (counts_it t e f g m l q) h = absurd (omega (arith, h, (is_counted w t _ _ q).number))

  held_by : Cases → r.answer.number ≡ 0 → eligible × none-long × (full ≡ false) × (large ≡ false)
  held_by (by_index e q) h = absurd (omega (arith, h, (is_turned w no_index_number 0 q).number))
  held_by (by_reader n p e f q) h = absurd (omega (arith, h, (is_turned w n p q).number, (own_small n p f).0))
  held_by (by_long t e f g q) h = absurd (omega (arith, h, (is_turned w long_code (first_long (codes_in L message)) q).number))
  held_by (by_many t e f g m q) h = absurd (omega (arith, h, (is_turned w full_index 0 q).number))
  held_by (by_large t e f g m l q) h = absurd (omega (arith, h, (is_turned w full_count 0 q).number))
  held_by (counts_it t e f g m l q) h = (record { sound = e; table = t; reads = f }, g, m, l)

  -- each case has its number, and its place
  pub no_index : (r.answer.number ≡ no_index_number) ↔ (sound_index codes counts ≡ false)
  no_index = (unsound_by cases, λ e. (is_turned w no_index_number 0 (outcome_unsound L levels room tally message codes counts e)).number)

  pub long-code : (r.answer.number ≡ long_code) ↔ (eligible × (none-long → ⊥))
  long-code = (
    long_by cases,
    λ c.
        (is_turned w long_code (first_long (codes_in L message))
        (outcome_long L levels room tally message codes counts c.0.sound c.0.table c.0.reads c.1)).number,
  )

  pub full_index_lem : (r.answer.number ≡ full_index) ↔ (eligible × none-long × (full ≡ true))
  full_index_lem = (
    full_by cases,
    λ c. (is_turned w full_index 0 (outcome_many L levels room tally message codes counts c.0.sound c.0.table c.0.reads c.1 c.2)).number,
  )

  pub full_count_lem : (r.answer.number ≡ full_count) ↔ (eligible × none-long × (full ≡ false) × (large ≡ true))
  full_count_lem = (
    large_by cases,
    λ c. (is_turned w full_count 0 (outcome_past L levels room tally message codes counts c.0.sound c.0.table c.0.reads c.1 c.2 c.3)).number,
  )

  pub counted_exactly : (r.answer.number ≡ 0) ↔ (eligible × none-long × (full ≡ false) × (large ≡ false))
  counted_exactly = (
    held_by cases,
    λ c. (is_counted w c.0.table _ _ (outcome_held L levels room tally message codes counts c.0.sound c.0.table c.0.reads c.1 c.2 c.3)).number,
  )

  pub places : (r.answer.number ≡ long_code → r.answer.place ≡ first_long (codes_in L message))
      × (r.answer.number ≡ full_index → r.answer.place ≡ 0) × (r.answer.number ≡ full_count → r.answer.place ≡ 0)
      × (r.answer.number ≡ no_index_number → r.answer.place ≡ 0)
  places = (
    λ h.
        let c = long_by cases h in
        (is_turned w long_code (first_long (codes_in L message))
        (outcome_long L levels room tally message codes counts c.0.sound c.0.table c.0.reads c.1)).place,
    λ h.
        let c = full_by cases h in
        (is_turned w full_index 0 (outcome_many L levels room tally message codes counts c.0.sound c.0.table c.0.reads c.1 c.2)).place,
    λ h.
        let c = large_by cases h in
        (is_turned w full_count 0 (outcome_past L levels room tally message codes counts c.0.sound c.0.table c.0.reads c.1 c.2 c.3)).place,
    λ h. (is_turned w no_index_number 0 (outcome_unsound L levels room tally message codes counts (unsound_by cases h))).place,
  )

  -- a message that the plain reader accepts
  module _ {t : Table} (reads : reading L levels room message ≡ accepted t) where
    abbrev One : Type 0
    One = (sound_index codes counts ≡ false) ⊎ ((none-long → ⊥) ⊎ ((full ≡ true) ⊎ (large ≡ true)))

    refused_by : Cases → (r.answer.number ≡ 0 → ⊥) → One
    refused_by (by_index e q) h = inl e
    refused_by (by_reader n p e f q) h =
        let clash : refused n p ≡ accepted t = sym f ∙ reads in let z : ◌≡◌ {A = ℕ} 0 1 = cc in absurd (omega arith)
    refused_by (by_long u e f g q) h = inr (inl g)
    refused_by (by_many u e f g m q) h = inr (inr (inl m))
    refused_by (by_large u e f g m l q) h = inr (inr (inr l))
    refused_by (counts_it u e f g m l q) h = absurd (h (is_counted w u _ _ q).number)

    one-refuses : One → eligible × none-long × (full ≡ false) × (large ≡ false) → ⊥
    one-refuses (inl e) c = never_both c.0.sound e
    one-refuses (inr (inl g)) c = g c.1
    one-refuses (inr (inr (inl m))) c = never_both m c.2
    one-refuses (inr (inr (inr l))) c = never_both l c.3

    pub refused_exactly : (r.answer.number ≡ 0 → ⊥) ↔ One
    refused_exactly = (refused_by cases, λ o z. one-refuses o (held_by cases z))

  -- accepted, the message is added
  pub adds : r.answer.number ≡ 0 → AddsMessage L message tally codes counts r.tally codes' counts'
  adds h =
      let c = held_by cases h in
      let k = is_counted w c.0.table _ _ (outcome_held L levels room tally message codes counts c.0.sound c.0.table c.0.reads c.1 c.2 c.3) in
      adds-message L message codes counts c.0.sound c.1 c.2 k.codes_put_in k.counts_put_in k.tallied

-- the same joined segments, the same codes, the same outcome
pub codes-sound : (L : Limits) (message : List ℕ) (ps : Separators) → SoundLines L message ps → codes_in L message ≡ map (code_carried ps) (segments_in L ps message)
unfolding codes_in
codes-sound L message ps s =
    ap {B = List (List ℕ)} (λ (h : Header). elim h [ Sound qs ↦ map (code_carried qs) (segments_in L qs message) | Broken ↦ [] ]) s.header

module _ (L : Limits) (lawful : Lawful L) (levels : ℕ → ℕ → ℕ) (room : Room) (l : Ledger) (message other : List ℕ) {ps qs : Separators}
    (one : SoundLines L message ps) (two : SoundLines L other qs) (same : segments_in L ps message ≡ segments_in L qs other) where
  pub same_codes : codes_in L message ≡ codes_in L other
  same_codes =
      codes-sound L message ps one
      ∙ ap₂ (λ (xs : Separators) (ss : List (List ℕ)). map (code_carried xs) ss) (joined_separators L lawful message other one two same) same
      ∙ sym (codes-sound L other qs two)

  pub same-counting : counting L levels room l message ≡ counting L levels room l other
  unfolding counting
  same-counting =
      ap₂ {C = Counting}
      (λ (cs : List (List ℕ)) (o : Outcome). elim (sound_index l.codes l.counts) [ true ↦ counting_of cs l o | false ↦ turned no_index_number 0 ])
      same_codes (same-joined L lawful message other one two same levels room)

pub counts_hold : (L : Limits) → Lawful L → (levels : ℕ → ℕ → ℕ) → Counts L levels
counts_hold L lawful levels =
    record {
      one_outcome = λ message g h. only-one-left g h;
      refused_unchanged = λ message w h. refused_unchanged L levels message w h;
      plain = λ message w h₀ h₁ h₂ h₃. plain_by L levels message w (cases L levels message w) h₀ h₁ h₂ h₃;
      index_means = index_means;
      no_index = λ message w. no_index L levels message w;
      long-code = λ message w. long-code L levels message w;
      full_index_lem = λ message w. full_index_lem L levels message w;
      full_count_lem = λ message w. full_count_lem L levels message w;
      counted_exactly = λ message w. counted_exactly L levels message w;
      entries-given = λ message {codes} {counts} sound none. entries-given L message codes counts sound none;
      places = λ message w. places L levels message w;
      refused_exactly = λ message reads w. refused_exactly L levels message w reads;
      adds = λ message w h. adds L levels message w h;
      cut_anyhow = λ message other {tally} {text} {segments} {leaves} {codes} {counts} {ps} {qs} {r} {s} {text₁} {segments₁} {leaves₁} {codes₁} {counts₁} one two same g h.
          only-one-left
          (subst (λ (o : Counting). Leaves o tally text segments leaves codes counts r text₁ segments₁ leaves₁ codes₁ counts₁)
          (same-counting L lawful levels (room_of text segments leaves) (record { codes = codes; counts = counts; tally = tally }) message other one two same) g)
          h;
    }
