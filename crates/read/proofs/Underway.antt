-- A survey underway: how a line begins that is joined to the open segment or begins the next, what it comes to, and the end.
-- Assumes nothing.
use mathlib.Core.Bool.{true, false}
use Rattle.std.proofs.Common.{Ok}
use mathlib.Core.List.{List, [], ◌∷◌, ◌++◌}
use mathlib.Core.Path.{◌≡◌, refl, sym, ap, ◌∙◌, subst, subst⁻¹}
use Prim.Native.Nat.{ℕ, ◌+◌, ◌-◌, ◌≤◌, ◌<◌, min}
use native.Mathlib.Omega.{arith}
use lib.ListN.{length, take, drop, length-take, length-drop}
use lib.Seq.{drop-drop, take-add, take-take}
use Rattle.laws.specs.Lists.{among, count}
use Rattle.laws.proofs.Every.{all_take, all_drop}
use Rattle.laws.proofs.Lists.{count-within}
use Rattle.form.specs.declared.limits.Limits.{Limits}
use Rattle.form.specs.declared.separators.Separators.{Separators}
use Rattle.form.specs.Header.{splitting}
use Rattle.laws.proofs.Bytes.{Bytes}
use Rattle.form.proofs.HeaderRule.{SoundHeader}
use Rattle.order.specs.inner.Followers.{followers}
use Rattle.order.specs.inner.Telling.{follows_by}
use Rattle.line.specs.Lines.{fault, line, walk_from, walk, texts, fault_number, fault_place}
use Rattle.line.specs.Finding.{text_run, found_at}
use Rattle.line.specs.inner.Ending.{handed_out, ended_line}
use Rattle.line.specs.Joining.{letter_a, addendum, joined}
use Rattle.line.specs.declared.finder.Found.TheVariants.{Line, Fault}
use Rattle.line.specs.inner.Left.{Left}
use Rattle.line.proofs.Joining.{addendum-line, addendum_front}
use Rattle.line.proofs.Left.{left-addendum, left-segment, left-first, none_faulty, none_left}
use Rattle.line.proofs.Runs.{text_run-more, text_run-take, text_run_past, text_run-length}
use Rattle.line.proofs.Finding.{found-ended, EndedAt, ended_at}
use Rattle.line.proofs.Handing.{walk_from-found, line-within}
use Rattle.table.specs.inner.Filed.{header_bytes}
use Rattle.table.proofs.HeaderBytes.{header-bytes}
use Rattle.read.specs.declared.survey.Survey.{Survey}
use Rattle.table.specs.inner.Classes.{class_table}
use Rattle.read.specs.inner.Scanning.{run, marks}
use Rattle.read.specs.inner.Starting.{text_from}
use Rattle.read.specs.inner.Seeing.{nothing_seen, text_joined, segment_shut, segment_begun}
use Rattle.read.specs.inner.Surveying.{SegmentsKnown}
use Rattle.read.specs.inner.Underway.{Seen, Underway, LineBegun, StepOf}
use Rattle.read.proofs.Scanning.{run-text, marks_separators}
use Rattle.read.proofs.Starting.{addendum-other, addendum_view, begins-segment, carries_on, carried_from, header_seven}
use Rattle.read.proofs.Seeing.{seen-begins, seen-text, seen_next, seen-closed}

-- a line at `at` of the message m
module _ (L : Limits) (ps : Separators) (m : List ℕ) (at : ℕ) (s : Survey) where
  -- that is no addendum begins a segment
  segment-begins :
      (table : List ℕ) → table ≡ followers → at < length m → Underway L ps m at s → addendum ps.field (drop at m) ≡ false
      → LineBegun L ps m at at (segment_begun (segment_shut (follows_by table) s))
  segment-begins table is some w a =
      record {
        done = w.done ++ w.last ∷ [];
        last = [];
        seen = seen_next ps s table is w.done w.last w.seen;
        joins = λ k ls e.
            let none : at - at ≡ 0 = omega arith in
            let whole : walk_from L at (drop at m) ≡ line (take k (drop at m)) ls
            = e ∙ ap (λ (n : ℕ). line (take n (drop at m) ++ take k (drop at m)) ls) none in
            left-segment (addendum_front ps.field k (drop at m) a) (subst (Left ps.field (walk L m) w.done w.last) whole w.left);
        fault = w.left.fault;
        few-segments = omega (arith, w.few-segments);
        few_separators = w.few_separators;
        some = some;
        text = omega arith;
        behind = omega arith;
        within = w.within;
        short = omega arith;
      }

  -- an addendum is joined to the open segment from its third byte on
  addendum-begins :
      33 ≤ ps.field → 7 ≤ L.line → Underway L ps m at s → addendum ps.field (drop at m) ≡ true
      → LineBegun L ps m at (at + 2) s
  addendum-begins high wide w a =
      let view : drop at m ≡ letter_a ∷ ps.field ∷ drop 2 (drop at m) = addendum_view ps.field (drop at m) a in
      let two : at + 2 - at ≡ 2 = omega arith in
      record {
        done = w.done;
        last = w.last;
        seen = w.seen;
        joins = λ k ls e.
            let rest : List ℕ = take k (drop (at + 2) m) in
            let whole : walk_from L at (drop at m) ≡ line (letter_a ∷ ps.field ∷ rest) ls
            = e ∙ ap (λ (n : ℕ). line (take n (drop at m) ++ rest) ls) two ∙ ap (λ (r : List ℕ). line (take 2 r ++ rest) ls) view in
            left-addendum (addendum-line ps.field rest) (subst (Left ps.field (walk L m) w.done w.last) whole w.left);
        fault = w.left.fault;
        few-segments = omega (arith, w.few-segments);
        few_separators = omega (arith, w.few_separators);
        some = omega (arith, ap length view, length-drop at m);
        text =
            omega (
              arith,
              ap text_run view,
              text_run-more letter_a (ps.field ∷ drop 2 (drop at m)) (omega arith),
              text_run-more ps.field (drop 2 (drop at m)) (omega arith),
            );
        behind = omega arith;
        within = omega (arith, ap length view, length-drop at m);
        short = omega arith;
      }

-- a line has been seen, and where the text of the next is joined from tells which one that is
module _ {L : Limits} {ps : Separators} {m : List ℕ} {at from : ℕ} {s : Survey}
    (w : Underway L ps m at s) (is-from : from ≡ text_from ps.field at (drop at m)) where
  -- an addendum
  pub goes_on_from : 33 ≤ ps.field → 7 ≤ L.line → (from ≡ at → ⊥) → LineBegun L ps m at from s
  goes_on_from high wide other =
      let later : text_from ps.field at (drop at m) ≡ at → ⊥ = λ e. other (is-from ∙ e) in
      subst⁻¹ (λ (n : ℕ). LineBegun L ps m at n s) (is-from ∙ carried_from ps.field at (drop at m) later)
      (addendum-begins L ps m at s high wide w (carries_on ps.field at (drop at m) later))

  -- or one that begins a segment, once the open one is closed
  pub begins-next : {table : List ℕ} {shut next : Survey} → table ≡ followers → from ≡ at → at < length m
      → shut ≡ segment_shut (follows_by table) s → next ≡ segment_begun shut → LineBegun L ps m at from next
  begins-next {table = table} {next = next} is here some shuts opens =
      let segment = begins-segment ps.field at (drop at m) (sym is-from ∙ here) in
      subst⁻¹ (λ (n : ℕ). LineBegun L ps m at n next) here
      (subst⁻¹ (LineBegun L ps m at at) (opens ∙ ap segment_begun shuts) (segment-begins L ps m at s table is some w segment))

-- a run that begins d bytes into a line and is looked at up to the line's last place ends where the line's text does
run_in_line : (most at d e r stop : ℕ) → d ≤ most → r ≤ e → stop ≡ at + min most (d + e) → (at + d) + min (stop - (at + d)) r ≡ at + min most (d + r)
run_in_line most at d e r stop short inside h = omega arith

-- the line at `at`, joined from `from` on, that a scan has gone through up to i
pub record LineScanned (L : Limits) (ps : Separators) (m : List ℕ) (at from : ℕ) (s : Survey) (stop i separators : ℕ) : Type 0 where
  pub one : 1 ≤ L.line
  pub begun : LineBegun L ps m at from s
  pub bytes : Bytes m
  pub stopped : stop ≡ at + min L.line (length m - at)
  pub scanned : i ≡ from + run (class_table ps) (take (stop - from) (drop from m))
  pub marked : separators ≡ marks (class_table ps) (take (stop - from) (drop from m))

module _ {L : Limits} {ps : Separators} {m : List ℕ} {at from : ℕ} {s : Survey} {stop i separators : ℕ}
    (q : LineScanned L ps m at from s stop i separators) where
  part : List ℕ
  part = take (stop - from) (drop from m)

  run_here : run (class_table ps) part ≡ min (stop - from) (text_run (drop from m))
  unfolding part
  run_here = run-text ps part (all_take (stop - from) (all_drop from q.bytes)) ∙ text_run-take (stop - from) (drop from m)

  left_over : text_run (drop at m) ≡ (from - at) + text_run (drop from m)
  left_over =
      let there : at + (from - at) ≡ from = omega (arith, q.begun.behind) in
      text_run_past (from - at) (drop at m) q.begun.text
      ∙ ap (λ (r : List ℕ). (from - at) + text_run r) (drop-drop (from - at) at m ∙ ap (λ (n : ℕ). drop n m) there)

  -- it is where the text of the line ends
  ends_there : i ≡ at + min L.line (text_run (drop at m))
  unfolding part
  ends_there =
      let there : at + (from - at) ≡ from = omega (arith, q.begun.behind) in
      let parts : length m - at ≡ (from - at) + (length m - from) = omega (arith, q.begun.behind, q.begun.within) in
      let short : from - at ≤ L.line = omega (arith, q.begun.short) in
      let inside : text_run (drop from m) ≤ length m - from = omega (arith, text_run-length (drop from m), length-drop from m) in
      q.scanned
      ∙ ap (λ (n : ℕ). from + n) run_here
      ∙ ap (λ (n : ℕ). n + min (stop - n) (text_run (drop from m))) (sym there)
      ∙ run_in_line L.line at (from - at) (length m - from) (text_run (drop from m)) stop short inside
      (q.stopped ∙ ap (λ (n : ℕ). at + min L.line n) parts)
      ∙ ap (λ (n : ℕ). at + min L.line n) (sym left_over)

  pub found-there : found_at L m at ≡ ended_line m at i
  found-there = found-ended L.line m at i q.begun.some ends_there

  -- and what has been marked are the separators of the text that is joined
  part_length : length part ≡ min (stop - from) (length m - from)
  unfolding part
  part_length = length-take (stop - from) (drop from m) ∙ ap (λ (n : ℕ). min (stop - from) n) (length-drop from m)

  text-joined : take (i - from) (drop from m) ≡ take (run (class_table ps) part) part
  unfolding part
  text-joined =
      let far : i - from ≡ run (class_table ps) part = omega (arith, q.scanned) in
      let within : run (class_table ps) part ≤ stop - from = omega (arith, run_here) in
      ap (λ (n : ℕ). take n (drop from m)) far ∙ sym (take-take (run (class_table ps) part) (stop - from) (drop from m) within)

  pub all_marked : separators ≡ count (among (splitting ps)) (take (i - from) (drop from m))
  unfolding part
  all_marked =
      q.marked ∙ marks_separators ps part (all_take (stop - from) (all_drop from q.bytes)) ∙ ap (count (among (splitting ps))) (sym text-joined)

  pub from-within : from ≤ i
  from-within = omega (arith, q.scanned)

  pub end-within : i ≤ length m
  end-within = omega (arith, ends_there, text_run-length (drop at m), length-drop at m, q.begun.some)

  -- so few separators that they can be counted
  pub few_marked : s.separators + separators ≤ i
  few_marked =
      omega (
        arith,
        all_marked,
        count-within (among (splitting ps)) (take (i - from) (drop from m)),
        length-take (i - from) (drop from m),
        q.begun.few_separators,
        from-within,
      )

  -- what joining the line's text asks
  pub line_part : (e n : ℕ) → ended_line m at i ≡ Line e n → (from ≤ e) × (e ≤ length m) × (s.separators + separators ≤ e)
  line_part e n h =
      let here : e ≡ i = subst (EndedAt i) h (ended_at m at i) in
      (omega (arith, from-within), omega (arith, end-within), omega (arith, few_marked))

  -- the survey goes on behind the line
  pub line-seen : (e n : ℕ) → ended_line m at i ≡ Line e n
      → StepOf L ps m s.segments at (Ok (record { seen = text_joined ps.field s (take (e - from) (drop from m)) separators; next = n }))
  unfolding handed_out
  line-seen e n h =
      let here : e ≡ i = subst (EndedAt i) h (ended_at m at i) in
      let found : found_at L m at ≡ Line e n = found-there ∙ h in
      let lies : (at < e) × (e < n) × (n ≤ length m) = line-within L m at e n found in
      let far : e - at ≡ (from - at) + (e - from) = omega (arith, q.begun.behind, from-within) in
      let there : at + (from - at) ≡ from = omega (arith, q.begun.behind) in
      let walked : walk_from L at (drop at m) ≡ line (take (from - at) (drop at m) ++ take (e - from) (drop from m)) (walk_from L n (drop n m))
      = walk_from-found m at L q.one
      ∙ ap (handed_out L m at) found
      ∙ ap (λ (l : List ℕ). line l (walk_from L n (drop n m)))
      (ap (λ (k : ℕ). take k (drop at m)) far
      ∙ take-add (from - at) (e - from) (drop at m)
      ∙ ap (λ (r : List ℕ). take (from - at) (drop at m) ++ take (e - from) r) (drop-drop (from - at) at m ∙ ap (λ (k : ℕ). drop k m) there)) in (
        omega arith,
        record {
          done = q.begun.done;
          last = q.begun.last ++ take (e - from) (drop from m);
          seen =
              seen-text ps s (take (e - from) (drop from m)) separators
              (all_marked ∙ ap (λ (k : ℕ). count (among (splitting ps)) (take (k - from) (drop from m))) (sym here)) q.begun.done q.begun.last q.begun.seen;
          left = q.begun.joins (e - from) (walk_from L n (drop n m)) walked;
          few-segments = omega (arith, q.begun.few-segments);
          few_separators = omega (arith, few_marked);
          within = lies.2;
        },
        refl,
      )

  -- or its fault is the message's
  pub line_faulty : (k p : ℕ) → ended_line m at i ≡ Fault k p → (k ≡ fault_number (walk L m)) × (k ≡ 0 → ⊥) × (p ≡ fault_place (walk L m))
  unfolding handed_out fault_number fault_place
  line_faulty k p h =
      let walked : walk_from L at (drop at m) ≡ fault k p = walk_from-found m at L q.one ∙ ap (handed_out L m at) (found-there ∙ h) in
      (sym (q.begun.fault.number ∙ ap fault_number walked), subst (EndedAt i) h (ended_at m at i), sym (q.begun.fault.place ∙ ap fault_place walked))

-- the first line: its seven header bytes are known
pub message-begins : (L : Limits) (ps : Separators) (m : List ℕ) → Bytes m → 7 ≤ L.line → SoundHeader m ps → LineBegun L ps m 0 7 nothing_seen
unfolding walk header_bytes
message-begins L ps m b wide h =
    let starts : take 7 m ≡ header_bytes ps = header-bytes ps m h in
    let field = h.allowed.field in
    record {
      done = [];
      last = take 7 m;
      seen = subst⁻¹ (λ (t : List ℕ). Seen ps [] t nothing_seen) starts
          (seen-begins ps (λ e. field.no_capital (omega arith) (omega arith)));
      joins = λ k ls e.
          left-first ps.field (walk L m) (take 7 m ++ take k (drop 7 m)) ls e
          (ap (λ (r : List ℕ). addendum ps.field (r ++ take k (drop 7 m))) starts
          ∙ addendum-other ps.field 72 (drop 1 (header_bytes ps) ++ take k (drop 7 m)) (λ z. omega arith));
      fault = record { number = refl; place = refl };
      few-segments = omega arith;
      few_separators = omega arith;
      some = omega (arith, h.long);
      text = omega (arith, text_run-take 7 m, ap text_run starts, header_seven ps m h);
      behind = omega arith;
      within = h.long;
      short = omega (arith, wide);
    }

-- the last line has been seen: no fault, and all that is asked of the segments is known
pub survey_ends : {L : Limits} {ps : Separators} {m : List ℕ} {at : ℕ} {s shut : Survey} {table : List ℕ}
    → Underway L ps m at s → table ≡ followers → length m ≤ at → shut ≡ segment_shut (follows_by table) s
    → (fault_number (walk L m) ≡ 0) × SegmentsKnown ps (joined ps.field (texts (walk L m))) shut
survey_ends {L} {ps} {m} {at} {s} {shut} {table} w is past shuts = (
  none_faulty L m at w.left past,
  subst⁻¹ (SegmentsKnown ps (joined ps.field (texts (walk L m)))) shuts
      (subst⁻¹ (λ (ss : List (List ℕ)). SegmentsKnown ps ss (segment_shut (follows_by table) s)) (none_left L m at w.left past)
      (seen-closed ps s table is w.done w.last w.seen)),
)
