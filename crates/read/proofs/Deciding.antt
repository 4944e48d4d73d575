-- Deciding: the step equations of `decision_of`, that it stands for the outcome, test by test, and what it says where it accepts.
-- Assumes nothing.
use Rattle.std.proofs.Common.{Result, Ok, Err}
use mathlib.Core.Bool.{Bool, true, false}
use mathlib.Core.List.{List, []}
use mathlib.Core.Path.{◌≡◌, refl, sym, ap, ap₂, ◌∙◌, subst, subst⁻¹}
use Prim.Native.Nat.{ℕ, ◌+◌, ◌*◌, ◌≤◌, ◌<◌}
use native.Mathlib.Omega.{arith}
use lib.Dec.{ltb, eqb}
use lib.ListN.{length, get_or, drop}
use borrow.Author.Tests.{ltb-false, lt-ltb, le-ltb, eq-eqb, ne_eqb, eqb-false}
use Rattle.form.specs.declared.limits.Limits.{Limits}
use Rattle.form.specs.declared.separators.Separators.{Separators}
use Rattle.form.specs.declared.separators.Header.TheVariants.{Sound, Broken}
use Rattle.form.specs.Header.{header_of}
use Rattle.form.proofs.Names.{context-within}
use Rattle.form.specs.Numbers.{short_buffer, long_message, broken_header, many_segments, unknown_kind, no_context, misplaced_kind, many_leaves}
use Rattle.line.specs.Lines.{walk, fault_number, fault_place}
use Rattle.laws.proofs.Cases.{at_least_one}
use Rattle.table.specs.Leaves.{context_of_header, split}
use Rattle.table.specs.Rows.{segment_row_size, leaf_row_size, context_in, Table, table_of}
use Rattle.table.specs.inner.Fitting.{FitsRows}
use Rattle.table.specs.Reading.{Room, Outcome, refused, accepted, refuse_if, refuse_at, short, judged, of_message, reading}
use Rattle.read.specs.declared.decide.Decision.{Decision}
use Rattle.read.specs.declared.refused.Refused.{Refused}
use Rattle.read.specs.declared.survey.Survey.{Survey}
use Rattle.table.specs.inner.Classes.{class_table}
use Rattle.read.specs.Sound.{segments_in}
use Rattle.read.specs.inner.Deciding.{refused_at, accepted_by, decide_if, decide_at, decision_of, decided, Accepts, DecidesAs}
use Rattle.read.specs.inner.Noting.{Noted, Started}
use Rattle.read.specs.inner.Surveying.{SegmentsKnown, place_seen}

-- the place of refusal 10 by what was seen
module _ (s : Survey) where
  place-misplaced : (s.misplaced ≡ 0 → ⊥) → place_seen s ≡ s.misplaced
  unfolding place_seen
  place-misplaced h = rw (ne_eqb s.misplaced 0 h, place_seen)

  place_open : s.misplaced ≡ 0 → (s.watcher.last ≡ 11 → ⊥) → place_seen s ≡ s.segments + 1
  unfolding place_seen
  place_open h k = rw (eq-eqb s.misplaced 0 h, ne_eqb s.watcher.last 11 k, place_seen)

  pub place_none : s.misplaced ≡ 0 → s.watcher.last ≡ 11 → place_seen s ≡ 0
  unfolding place_seen
  place_none h k = rw (eq-eqb s.misplaced 0 h, eq-eqb s.watcher.last 11 k, place_seen)

-- a test that refuses, and one that passes
module _ (n : ℕ) (d : Result Decision Refused) where
  if_stops : {b : Bool} → b ≡ true → decide_if b n d ≡ refused_at n 0
  unfolding decide_if
  if_stops h = ap (λ (b : Bool). decide_if b n d) h

  if_goes : {b : Bool} → b ≡ false → decide_if b n d ≡ d
  unfolding decide_if
  if_goes h = ap (λ (b : Bool). decide_if b n d) h

  at_stops : {place : ℕ} → (place ≡ 0 → ⊥) → decide_at place n d ≡ refused_at n place
  unfolding decide_at
  at_stops {place} h = rw (ne_eqb place 0 h, decide_at)

  at_goes : {place : ℕ} → place ≡ 0 → decide_at place n d ≡ d
  unfolding decide_at
  at_goes {place} h = rw (eq-eqb place 0 h, decide_at)

-- each test in turn
module _ (L : Limits) (ps : Separators) (s : Survey) where
  abbrev leaves : ℕ
  leaves = s.separators + s.segments + 2

  abbrev from_11 : Result Decision Refused
  from_11 = decide_if (ltb L.leaves leaves) many_leaves (Ok (accepted_by ps s))

  abbrev from_9 : Result Decision Refused
  from_9 = decide_if (eqb s.watcher.context 0) no_context (decide_at (place_seen s) misplaced_kind from_11)

  pub decision_7 : L.segments < s.segments → decision_of L ps s ≡ refused_at many_segments 0
  unfolding decision_of
  decision_7 h = if_stops _ _ (lt-ltb L.segments s.segments h)

  module _ (few : s.segments ≤ L.segments) where
    past_7 : decision_of L ps s ≡ decide_at s.unknown unknown_kind from_9
    unfolding decision_of
    past_7 = if_goes _ _ (le-ltb L.segments s.segments few)

    pub decision_8 : (s.unknown ≡ 0 → ⊥) → decision_of L ps s ≡ refused_at unknown_kind s.unknown
    decision_8 h = past_7 ∙ at_stops _ _ h

    module _ (known : s.unknown ≡ 0) where
      past_8 : decision_of L ps s ≡ from_9
      past_8 = past_7 ∙ at_goes _ _ known

      pub decision_9 : s.watcher.context ≡ 0 → decision_of L ps s ≡ refused_at no_context 0
      decision_9 h = past_8 ∙ if_stops _ _ (eq-eqb s.watcher.context 0 h)

      module _ (context : s.watcher.context ≡ 0 → ⊥) where
        past_9 : decision_of L ps s ≡ decide_at (place_seen s) misplaced_kind from_11
        past_9 = past_8 ∙ if_goes _ _ (ne_eqb s.watcher.context 0 context)

        pub decision_misplaced : (s.misplaced ≡ 0 → ⊥) → decision_of L ps s ≡ refused_at misplaced_kind s.misplaced
        decision_misplaced h =
            past_9 ∙ at_stops _ _ (λ e. h (sym (place-misplaced s h) ∙ e)) ∙ ap (refused_at misplaced_kind) (place-misplaced s h)

        pub decision_open : s.misplaced ≡ 0 → (s.watcher.last ≡ 11 → ⊥) → decision_of L ps s ≡ refused_at misplaced_kind (s.segments + 1)
        decision_open h k =
            let place = place_open s h k in
            past_9 ∙ at_stops _ _ (λ e. omega (arith, place)) ∙ ap (refused_at misplaced_kind) place

        module _ (placed : place_seen s ≡ 0) where
          pub decision_11 : L.leaves < leaves → decision_of L ps s ≡ refused_at many_leaves 0
          decision_11 h = past_9 ∙ at_goes _ _ placed ∙ if_stops _ _ (lt-ltb L.leaves leaves h)

          pub decision_0 : leaves ≤ L.leaves → decision_of L ps s ≡ Ok (accepted_by ps s)
          decision_0 h = past_9 ∙ at_goes _ _ placed ∙ if_goes _ _ (le-ltb L.leaves leaves h)

-- the same tests on five numbers, and on those that were seen
abbrev judged_by : Limits → (count unknown context place leaves : ℕ) → Table → Outcome
judged_by L count unknown context place leaves t =
    refuse_if (ltb L.segments count) many_segments
    (refuse_at unknown unknown_kind
    (refuse_if (eqb context 0) no_context
    (refuse_at place misplaced_kind (refuse_if (ltb L.leaves leaves) many_leaves (accepted t)))))

abbrev tests_seen : Limits → Survey → Table → Outcome
tests_seen L s = judged_by L s.segments s.unknown s.watcher.context (place_seen s) (s.separators + s.segments + 2)

-- a refusal decides whatever outcome has its number and its place
pub refusal_decides : (L : Limits) (message class kinds starts : List ℕ) {outcome : (ℕ → ℕ → ℕ) → Outcome} {number place : ℕ} {r : Refused}
    → ((levels : ℕ → ℕ → ℕ) → outcome levels ≡ refused number place) → r ≡ record { number = number; place = place }
    → DecidesAs L message class kinds starts outcome (Err r)
refusal_decides L message class kinds starts same is =
    record { stands = λ levels. same levels ∙ ap (λ (q : Refused). refused q.number q.place) (sym is); accepts = λ d q. cc }

-- test by test a decision stands for what the outcome's tests say
module _ (L : Limits) (message : List ℕ) (levels : ℕ → ℕ → ℕ) where
  decided_if : (b : Bool) (n : ℕ) (d : Result Decision Refused)
      → decided L message (decide_if b n d) levels ≡ refuse_if b n (decided L message d levels)
  unfolding decide_if refuse_if
  decided_if true n d = refl
  decided_if false n d = refl

  decided_at : (place n : ℕ) (d : Result Decision Refused)
      → decided L message (decide_at place n d) levels ≡ refuse_at place n (decided L message d levels)
  unfolding decide_at refuse_at
  decided_at place n d = by (eqb place 0)
    where
      by : (b : Bool) → decided L message (elim b [ true ↦ d | false ↦ refused_at n place ]) levels
          ≡ elim b [ true ↦ decided L message d levels | false ↦ refused n place ]
      by true = refl
      by false = refl

  seen-decided : (ps : Separators) (s : Survey)
      → decided L message (decision_of L ps s) levels ≡ tests_seen L s (table_of levels ps (segments_in L ps message))
  unfolding decision_of
  seen-decided ps s =
      decided_if _ _ _
      ∙ ap (refuse_if (ltb L.segments s.segments) many_segments)
      (decided_at s.unknown _ _
      ∙ ap (refuse_at s.unknown unknown_kind)
      (decided_if _ _ _
      ∙ ap (refuse_if (eqb s.watcher.context 0) no_context)
      (decided_at (place_seen s) _ _
      ∙ ap (refuse_at (place_seen s) misplaced_kind)
      (decided_if _ _ _))))

-- a decision that accepts has passed each test
module _ (n : ℕ) (d : Result Decision Refused) {e : Decision} where
  passed_if : (b : Bool) → decide_if b n d ≡ Ok e → (b ≡ false) × (d ≡ Ok e)
  unfolding decide_if
  passed_if true q = cc
  passed_if false q = (refl, q)

  passed_at : (place : ℕ) → decide_at place n d ≡ Ok e → d ≡ Ok e
  unfolding decide_at
  passed_at place = by (eqb place 0)
    where
      by : (b : Bool) → (elim b as (λ x. Result Decision Refused) [ true ↦ d | false ↦ refused_at n place ]) ≡ Ok e → d ≡ Ok e
      by true q = q
      by false q = cc

record Passed (L : Limits) (ps : Separators) (s : Survey) (d : Decision) : Type 0 where
  is : accepted_by ps s ≡ d
  segments : s.segments ≤ L.segments
  context : s.watcher.context ≡ 0 → ⊥
  leaves : s.separators + s.segments + 2 ≤ L.leaves

decision_passed : (L : Limits) (ps : Separators) (s : Survey) {d : Decision} → decision_of L ps s ≡ Ok d → Passed L ps s d
unfolding decision_of
decision_passed L ps s q =
    let seven = passed_if many_segments _ (ltb L.segments s.segments) q in
    let eight = passed_at unknown_kind _ s.unknown seven.1 in
    let nine = passed_if no_context _ (eqb s.watcher.context 0) eight in
    let ten = passed_at misplaced_kind _ (place_seen s) nine.1 in
    let eleven = passed_if many_leaves _ (ltb L.leaves (s.separators + s.segments + 2)) ten in
    record {
      is = cc;
      segments = ltb-false L.segments s.segments seven.0;
      context = eqb-false s.watcher.context 0 nine.0;
      leaves = ltb-false L.leaves (s.separators + s.segments + 2) eleven.0;
    }

-- a message by its lines: judged where they are sound, else refused by its first fault
module _ (L : Limits) (levels : ℕ → ℕ → ℕ) (message : List ℕ) (ps : Separators) where
  pub message-judged : fault_number (walk L message) ≡ 0 → of_message L levels message ps ≡ judged L levels ps (segments_in L ps message)
  unfolding of_message
  message-judged h = rw (eq-eqb (fault_number (walk L message)) 0 h, of_message)

  pub message-fault : (fault_number (walk L message) ≡ 0 → ⊥)
      → of_message L levels message ps ≡ refused (fault_number (walk L message)) (fault_place (walk L message))
  unfolding of_message
  message-fault h = rw (ne_eqb (fault_number (walk L message)) 0 h, of_message)

-- the first three tests
module _ (L : Limits) (levels : ℕ → ℕ → ℕ) (room : Room) (message : List ℕ) where
  short-refused : short L room ≡ true → reading L levels room message ≡ refused short_buffer 0
  unfolding reading refuse_if
  short-refused h = rw (h, reading)

  pub short-text : room.text < L.bytes → reading L levels room message ≡ refused short_buffer 0
  unfolding short
  short-text h = short-refused (rw (lt-ltb room.text L.bytes h))

  module _ (text : L.bytes ≤ room.text) where
    pub short-segments : room.segment_rows < L.segments * segment_row_size → reading L levels room message ≡ refused short_buffer 0
    unfolding short
    short-segments h = short-refused (rw (le-ltb room.text L.bytes text, lt-ltb room.segment_rows (L.segments * segment_row_size) h))

    module _ (segments : L.segments * segment_row_size ≤ room.segment_rows) where
      pub short-leaves : room.leaf_rows < L.leaves * leaf_row_size → reading L levels room message ≡ refused short_buffer 0
      unfolding short
      short-leaves h =
          short-refused
          (rw (le-ltb room.text L.bytes text, le-ltb room.segment_rows (L.segments * segment_row_size) segments, lt-ltb room.leaf_rows (L.leaves * leaf_row_size) h))

      module _ (leaves : L.leaves * leaf_row_size ≤ room.leaf_rows) where
        roomy : short L room ≡ false
        unfolding short
        roomy =
            rw
            (le-ltb room.text L.bytes text, le-ltb room.segment_rows (L.segments * segment_row_size) segments, le-ltb room.leaf_rows (L.leaves * leaf_row_size) leaves)

        pub long-refused : L.bytes < length message → reading L levels room message ≡ refused long_message 0
        unfolding reading refuse_if
        long-refused h = rw (roomy, lt-ltb L.bytes (length message) h, reading)

        module _ (fits : length message ≤ L.bytes) where
          pub header_refused : header_of message ≡ Broken → reading L levels room message ≡ refused broken_header 0
          unfolding reading refuse_if
          header_refused h = rw (roomy, le-ltb L.bytes (length message) fits, h, reading)

          pub header_passes : (ps : Separators) → header_of message ≡ Sound ps → reading L levels room message ≡ of_message L levels message ps
          unfolding reading refuse_if
          header_passes ps h = rw (roomy, le-ltb L.bytes (length message) fits, h, reading)

-- a decision on the message behind its header is one on the message, once the first three tests are passed
module _ (L : Limits) (room : Room) (message : List ℕ) (text : L.bytes ≤ room.text) (segments : L.segments * segment_row_size ≤ room.segment_rows)
    (leaves : L.leaves * leaf_row_size ≤ room.leaf_rows) (fits : length message ≤ L.bytes) {ps : Separators} (header : header_of message ≡ Sound ps) where
  pub header_decides : {class kinds starts : List ℕ} {d : Result Decision Refused} → DecidesAs L message class kinds starts (λ levels. of_message L levels message ps) d
      → DecidesAs L message class kinds starts (λ levels. reading L levels room message) d
  header_decides w =
      record {
        stands = λ levels. header_passes L levels room message text segments leaves fits ps header ∙ w.stands levels;
        accepts = w.accepts;
      }

-- a message has one of the seven contexts, or none
header-within : (ps : Separators) (segments : List (List ℕ)) → context_in ps segments ≤ 7
unfolding context_in context_of_header
header-within ps segments = context-within (get_or (split ps.field (drop 7 (get_or segments 0 []))) 4 [])

-- what the first pass comes to decides: a fault of the lines refuses, else the tests of what was seen do
module _ (L : Limits) (ps : Separators) (message class kinds starts : List ℕ) where
  pub fault_decides : {r : Refused} → (r.number ≡ fault_number (walk L message)) × (r.number ≡ 0 → ⊥) × (r.place ≡ fault_place (walk L message))
      → DecidesAs L message class kinds starts (λ levels. of_message L levels message ps) (Err r)
  fault_decides fault =
      refusal_decides L message class kinds starts
      (λ levels.
      message-fault L levels message ps (λ e. fault.1 (fault.0 ∙ e)) ∙ ap₂ refused (sym fault.0) (sym fault.2))
      refl

  module _ (fits : FitsRows L) (header : header_of message ≡ Sound ps) (bytes : length message ≤ L.bytes) (notes : L.segments ≤ length kinds)
      (classes : class ≡ class_table ps) (sound : fault_number (walk L message) ≡ 0) {s : Survey} (known : SegmentsKnown ps (segments_in L ps message) s)
      (noted : Noted ps (segments_in L ps message) s.segments kinds) (begun : Started L ps message s.segments starts) where
    tests_seen_lem : (levels : ℕ → ℕ → ℕ) → of_message L levels message ps ≡ tests_seen L s (table_of levels ps (segments_in L ps message))
    unfolding judged
    tests_seen_lem levels =
        message-judged L levels message ps sound
        ∙ sym
        (λ i. judged_by L (known.count i) (known.unknown i) (known.context i) (known.place i) (known.leaves i)
        (table_of levels ps (segments_in L ps message)))

    pub survey_decides : {r : Result Decision Refused} → r ≡ decision_of L ps s
        → DecidesAs L message class kinds starts (λ levels. of_message L levels message ps) r
    survey_decides e =
        subst⁻¹ (DecidesAs L message class kinds starts (λ levels. of_message L levels message ps)) e
        (record {
          stands = λ levels. tests_seen_lem levels ∙ sym (seen-decided L message levels ps s);
          accepts = λ d q.
              let p = decision_passed L ps s q in
              subst (Accepts L message class kinds starts) p.is
              (record {
                fillable =
                    record {
                      fits = fits;
                      header = header;
                      classes = classes;
                      sound = sound;
                      bytes = bytes;
                      few = omega (arith, known.count, p.segments);
                      few_leaves = omega (arith, known.leaves, p.leaves);
                      named = known.context;
                      some_context = at_least_one s.watcher.context p.context;
                      seven_contexts = omega (arith, known.context, header-within ps (segments_in L ps message));
                      noted = λ i before. noted i (omega (arith, known.count));
                      all = omega (arith, known.count, p.segments);
                    };
                segments = known.count;
                leaves = known.leaves;
                begun = begun;
              });
        })
