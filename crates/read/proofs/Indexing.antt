-- Reading with an index (X2 to X5): what comes of a refusal of the index, of the reader and of what is counted, and of a message that is counted.
-- Assumes nothing.
use Rattle.std.proofs.Common.{Result, Ok, Err}
use mathlib.Core.Bool.{Bool, true, false, ◌||◌}
use mathlib.Core.List.{List}
use mathlib.Core.Path.{◌≡◌, refl, sym, ap, ◌∙◌, subst, subst⁻¹}
use Prim.Native.Nat.{ℕ, ◌<◌}
use lib.Dec.{eqb}
use native.Mathlib.Omega.{arith}
use lib.ListN.{length, get_or}
use Rattle.form.specs.declared.limits.Limits.{Limits}
use Rattle.form.specs.declared.separators.Separators.{Separators}
use Rattle.form.specs.declared.separators.Header.TheVariants.{Sound}
use Rattle.form.specs.Header.{header_of}
use Rattle.order.specs.inner.Levels.{level_in}
use Rattle.table.specs.Rows.{Table, table_of}
use Rattle.table.specs.Reading.{Room, room_of, Outcome, refused, accepted, reading}
use Rattle.index.specs.declared.tally.Tally.{Tally}
use Rattle.index.specs.Refusals.{long_code, full_index, full_count, no_index_number}
use Rattle.index.specs.Index.{Entry, entries_in, sound_index}
use Rattle.index.specs.Adding.{added_all, too_many, too_large}
use Rattle.index.specs.Tallying.{with_message, tally_too_large}
use Rattle.read.specs.declared.refused.Refused.{Refused}
use Rattle.read.specs.declared.decide.Decision.{Decision}
use Rattle.read.specs.declared.indexed.Indexed.{Indexed}
use Rattle.read.specs.Answering.{Gives, answer_of}
use Rattle.read.specs.Codes.{codes_in, codes_counted, first_long}
use Rattle.read.specs.Counting.{Counting, turned, counted, Ledger, counted_or, counting_of, counting, as_outcome, tally_left, front_left, Leaves, IndexedAs}
use Rattle.read.specs.inner.Admitting.{Admissible, AdmitsAs, admission, admitted, indexed_by}
use Rattle.read.specs.inner.Census.{carried_in}
use Rattle.read.specs.inner.Deciding.{DecidesAs}
use Rattle.read.specs.inner.Filling.{table_in}
use Rattle.read.proofs.Answering.{gives_refusal, refuses-reading, accepts-table}

-- what is answered with a refusal is a refusal by its number and place, and leaves the tally; what is answered with a tally leaves that
pub turned_outcome : (o : Counting) {u : Refused} → Err u ≡ admitted o → as_outcome o ≡ refused u.number u.place
unfolding as_outcome admitted
turned_outcome (turned n p) e = cc
turned_outcome (counted t es y) e = cc

pub turned-tally : (o : Counting) {u : Refused} → Err u ≡ admitted o → (tally : Tally) → tally_left tally o ≡ tally
unfolding tally_left admitted
turned-tally (turned n p) e tally = refl
turned-tally (counted t es y) e tally = cc

counted-tally : (o : Counting) {y : Tally} → Ok y ≡ admitted o → (tally : Tally) → tally_left tally o ≡ y
unfolding tally_left admitted
counted-tally (turned n p) e tally = cc
counted-tally (counted t es y) e tally = cc

-- tests 50 to 52 by what each comes to; and what is not turned away is the table
abbrev judged : Bool → Bool → Bool → (place : ℕ) → Table → List Entry → Tally → Counting
judged short many large place t entries tally =
    elim short [
      | true ↦
          elim many [
            | true ↦ turned full_index 0
            | false ↦ elim large [ true ↦ turned full_count 0 | false ↦ counted t entries tally ]
          ]
      | false ↦ turned long_code place
    ]

judged_outcome : (short many large : Bool) (place : ℕ) (t : Table) (es : List Entry) (tally : Tally) {y : Tally}
    → Ok y ≡ admitted (judged short many large place t es tally) → as_outcome (judged short many large place t es tally) ≡ accepted t
unfolding as_outcome admitted
judged_outcome true true large place t es tally e = cc
judged_outcome true false true place t es tally e = cc
judged_outcome true false false place t es tally e = refl
judged_outcome false many large place t es tally e = cc

pub counted_outcome : (cs : List (List ℕ)) (t : Table) (es : List Entry) (tally : Tally) {y : Tally} → Ok y ≡ admitted (counted_or cs t es tally)
    → as_outcome (counted_or cs t es tally) ≡ accepted t
unfolding counted_or
counted_outcome cs t es tally =
    judged_outcome (eqb (first_long cs) 0) (too_many es) (too_large es || tally_too_large tally) (first_long cs) t es tally

-- what a refusal leaves
module _ {o : Counting} {tally : Tally} {text segments leaves codes counts : List ℕ} where
  pub leaves-turned : {number place : ℕ} {r : Indexed} → o ≡ turned number place → r ≡ record { answer = answer_of (refused number place); tally = tally }
      → Leaves o tally text segments leaves codes counts r text segments leaves codes counts
  unfolding as_outcome tally_left front_left
  leaves-turned e is =
      rw e
      (record {
        given = gives_refusal refl (ap (λ (q : Indexed). q.answer) is);
        tally_is = ap (λ (q : Indexed). q.tally) is;
        codes_are = refl;
        counts_are = refl;
      })

-- what comes of it where the index is not sound; and where it is, by what the reader comes to
module _ (L : Limits) (levels : ℕ → ℕ → ℕ) (room : Room) (l : Ledger) (message : List ℕ) where
  pub counting_unsound : sound_index l.codes l.counts ≡ false → counting L levels room l message ≡ turned no_index_number 0
  unfolding counting
  counting_unsound e = rw (counting, e) refl

  pub counting-sound : sound_index l.codes l.counts ≡ true
      → counting L levels room l message ≡ counting_of (codes_in L message) l (reading L levels room message)
  unfolding counting
  counting-sound e = rw (counting, e) refl

  pub counting-refused : {number place : ℕ} → sound_index l.codes l.counts ≡ true → reading L levels room message ≡ refused number place
      → counting L levels room l message ≡ turned number place
  unfolding counting_of
  counting-refused e h = counting-sound e ∙ ap (counting_of (codes_in L message) l) h

-- a refusal of the index leaves all as it was
pub unsound_indexed : (L : Limits) (table : List ℕ) (tally : Tally) (message text segments leaves codes counts : List ℕ) → sound_index codes counts ≡ false
    → {r : Refused} → r ≡ record { number = no_index_number; place = 0 }
    → IndexedAs L (level_in table) tally message text segments leaves codes counts (indexed_by tally (Err r)) text segments leaves codes counts
unfolding answer_of
unsound_indexed L table tally message text segments leaves codes counts e is =
    leaves-turned
    (counting_unsound L (level_in table) (room_of text segments leaves) (record { codes = codes; counts = counts; tally = tally }) message e)
    (ap (λ (q : Refused). indexed_by tally (Err q)) is)

-- under the separators of the header, the codes of a message are those that its segments carry
pub codes-carried : (L : Limits) {ps : Separators} (message : List ℕ) → header_of message ≡ Sound ps → codes_in L message ≡ carried_in L ps message
unfolding codes_in
codes-carried L message e = rw (codes_in, e) refl

-- what was decided, by a table of levels, under a sound index
module _ {L : Limits} {message class kinds starts : List ℕ} {r : Result Decision Refused} (text segments leaves : List ℕ)
    (w : DecidesAs L message class kinds starts (λ levels. reading L levels (room_of text segments leaves) message) r) (table : List ℕ)
    (tally : Tally) (codes counts : List ℕ) (sound : sound_index codes counts ≡ true) where
  pub refusal_indexed : {e : Refused} → r ≡ Err e
      → IndexedAs L (level_in table) tally message text segments leaves codes counts (indexed_by tally (Err e)) text segments leaves codes counts
  unfolding answer_of
  refusal_indexed q =
      leaves-turned
      (counting-refused L (level_in table) (room_of text segments leaves) (record { codes = codes; counts = counts; tally = tally }) message sound
      (refuses-reading text segments leaves w table q))
      refl

  module _ {d : Decision} (yes : r ≡ Ok d) where
    pub accepted_admissible : ((i : ℕ) → get_or message i 0 < 256) → length starts ≡ L.segments → Admissible L class kinds starts d message codes counts
    accepted_admissible bytes e =
        let a = w.accepts d yes in
        record { accepts = a; bytes = bytes; room = omega (arith, e, a.segments, a.fillable.few); sound = sound }

    pub counting-admission :
        counting L (level_in table) (room_of text segments leaves) (record { codes = codes; counts = counts; tally = tally }) message
        ≡ admission L d tally message codes counts (table_in L table d.separators message)
    unfolding counting_of table_of
    counting-admission =
        let a = w.accepts d yes in
        let t = table_in L table d.separators message in
        let l : Ledger = record { codes = codes; counts = counts; tally = tally } in
        let carried = codes-carried L message a.fillable.header in
        counting-sound L (level_in table) (room_of text segments leaves) l message sound
        ∙ ap (counting_of (codes_in L message) l) (accepts-table text segments leaves w table yes)
        ∙ (λ i.
        counted_or (carried i) t (added_all (codes_counted (carried i)) (entries_in codes counts))
        (with_message tally (sym a.segments i) (length (codes_counted (carried i)))))

    -- what counting and filing leave is what reading leaves
    pub admitted_indexed : {q : Indexed} {text' segments' leaves' codes' counts' : List ℕ}
        → Leaves (admission L d tally message codes counts (table_in L table d.separators message)) tally text segments leaves codes counts
        q text' segments' leaves' codes' counts'
        → IndexedAs L (level_in table) tally message text segments leaves codes counts q text' segments' leaves' codes' counts'
    admitted_indexed {q} {text'} {segments'} {leaves'} {codes'} {counts'} left =
        subst⁻¹ (λ (o : Counting). Leaves o tally text segments leaves codes counts q text' segments' leaves' codes' counts') counting-admission left

-- what counting gives, filed in a table: a message that is turned away leaves all as it was, one that is counted the table
module _ {L : Limits} {d : Decision} {tally : Tally} {message codes counts : List ℕ} (t : Table) (text segments leaves : List ℕ)
    {codes' counts' : List ℕ} where
  pub turned_left : {e : Refused} → AdmitsAs L d tally message codes counts (Err e) codes' counts'
      → Leaves (admission L d tally message codes counts t) tally text segments leaves codes counts (indexed_by tally (Err e)) text segments leaves codes' counts'
  unfolding answer_of
  turned_left admits =
      let o = admission L d tally message codes counts t in
      record {
        given = gives_refusal (turned_outcome o (admits.answer t)) refl;
        tally_is = sym (turned-tally o (admits.answer t) tally);
        codes_are = admits.codes_are t;
        counts_are = admits.counts_are t;
      }

  pub counted-left : {y : Tally} → AdmitsAs L d tally message codes counts (Ok y) codes' counts' → {q : Indexed} {text' segments' leaves' : List ℕ}
      → Gives (accepted t) text segments leaves q.answer text' segments' leaves' → q.tally ≡ y
      → Leaves (admission L d tally message codes counts t) tally text segments leaves codes counts q text' segments' leaves' codes' counts'
  counted-left admits {q} {text'} {segments'} {leaves'} g u =
      let cs = carried_in L d.separators message in
      record {
        given =
            subst⁻¹ (λ (o : Outcome). Gives o text segments leaves q.answer text' segments' leaves')
            (counted_outcome cs t (added_all (codes_counted cs) (entries_in codes counts)) (with_message tally d.segments (length (codes_counted cs)))
            (admits.answer t))
            g;
        tally_is = u ∙ sym (counted-tally (admission L d tally message codes counts t) (admits.answer t) tally);
        codes_are = admits.codes_are t;
        counts_are = admits.counts_are t;
      }

-- the contract under the same levels, however these are written
pub indexed_same : {levels levels' : ℕ → ℕ → ℕ} → levels ≡ levels' → (L : Limits) (tally : Tally) (message : List ℕ)
    {text segments leaves codes counts : List ℕ} {r : Indexed} {text' segments' leaves' codes' counts' : List ℕ}
    → IndexedAs L levels tally message text segments leaves codes counts r text' segments' leaves' codes' counts'
    → IndexedAs L levels' tally message text segments leaves codes counts r text' segments' leaves' codes' counts'
indexed_same same L tally message {text} {segments} {leaves} {codes} {counts} {r} {text'} {segments'} {leaves'} {codes'} {counts'} h =
    subst (λ (lv : ℕ → ℕ → ℕ). IndexedAs L lv tally message text segments leaves codes counts r text' segments' leaves' codes' counts') same h
