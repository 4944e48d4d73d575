-- Where rows stand in a message's file, and what may come where a segment may not stand: the page's statements, proved.
-- Assumes nothing.
use mathlib.Core.Bool.{Bool, true, false}
use mathlib.Core.List.{List, [], ◌∷◌, ◌++◌}
use mathlib.Core.Logic.{◌↔◌, ⊎_elim}
use mathlib.Core.Path.{◌≡◌, refl, sym, ap, ◌∙◌, subst}
use Prim.Native.Nat.{ℕ, suc, ◌-◌, ◌≤◌, ◌<◌}
use native.Mathlib.Omega.{arith}
use lib.Dec.{eqb}
use lib.ListN.{length, get_or, take, length-map}
use borrow.Author.Tests.{eqb-false}
use Rattle.laws.proofs.Cases.{at_least_one}
use Rattle.laws.proofs.Lists.{first-within}
use Rattle.laws.proofs.Tests.{Tested, passed, failed, tested}
use Rattle.form.specs.declared.limits.Limits.{Limits}
use Rattle.form.specs.declared.forms.Form.{Form}
use Rattle.form.specs.declared.separators.Separators.{Separators}
use Rattle.form.specs.Forms.{small_form, limits_of}
use Rattle.form.specs.Numbers.{many_segments, unknown_kind, no_context, misplaced_kind, many_leaves, short_buffer}
use Rattle.order.specs.Grammar.{Begins}
use Rattle.order.specs.Contexts.{grammar, is_context}
use Rattle.order.specs.Misplaced.{FirstMisplaced}
use Rattle.order.specs.Owners.{level}
use Rattle.order.specs.Watcher.{begun, watched, next_kinds}
use Rattle.order.proofs.NextKinds.{next_exactly}
use Rattle.order.proofs.Seven.{context_or_never}
use Rattle.order.proofs.Watched.{begun-watched, never-begins}
use Rattle.table.specs.declared.Card.{Card}
use Rattle.table.specs.Leaves.{kind_of_segment}
use Rattle.table.specs.Rows.{Table, kinds_of, context_in}
use Rattle.table.specs.Reading.{room_of, Outcome, refused, accepted, refuse_if, refuse_at, short, first_unknown, judged, reading}
use Rattle.table.proofs.Accepting.{refuse_passed}
use Rattle.source.specs.Promises.{RowsStand, RowsShown}
use Rattle.source.proofs.Accepted.{accepted-rows, sound-count}
use Rattle.read.specs.declared.Answer.{Answer}
use Rattle.read.specs.Answering.{answer_of, Gives, ReadAs}
use Rattle.read.specs.Sound.{segments_in, SoundLines}
use Rattle.read.proofs.Acceptance.{number-accepted, sound-lines-judged}
use Rattle.read.proofs.Contract.{past, past_at, first-misplaced}
use Rattle.read.proofs.OnlyOne.{reading-numbered}
use Rattle.demands.specs.InFile.{row_count, told_before, InFile}

-- a watcher that was told a begun order goes on by the grammar
next-told : (c : ℕ) (w : List ℕ) → Begins (grammar c) w → (k : ℕ) → k < 13
    → (get_or (next_kinds (watched (begun c) w)) k 0 ≡ 1) ↔ Begins (grammar c) (w ++ (k ∷ []))
next-told c w b k h =
    ⊎_elim
    (λ (t : is_context c ≡ true).
    subst (λ (u : List ℕ). (get_or (next_kinds (watched (begun c) w)) k 0 ≡ 1) ↔ Begins (grammar c) (u ++ (k ∷ []))) (begun-watched c t w b).1
    (next_exactly c w k h))
    (λ e. absurd (never-begins c e w b))
    (context_or_never c)

-- joined segments that are refused with 8 are so at one of them
module _ (L : Limits) (levels : ℕ → ℕ → ℕ) (ps : Separators) (segs : List (List ℕ)) (p : ℕ) where
  -- what follows the test of kinds refuses with another number, or accepts
  never-later : (c : Bool) (m : ℕ) (last : Bool) (t : Table)
      → refuse_if c no_context (refuse_at m misplaced_kind (refuse_if last many_leaves (accepted t))) ≡ refused unknown_kind p → ⊥
  never-later c m last t e =
      let ten = (past {n = no_context} (λ z. omega (arith, z)) c e).1 in
      let eleven = past_at {n = misplaced_kind} (λ z. omega (arith, z)) m ten in
      let none : accepted t ≡ refused unknown_kind p = (past {n = many_leaves} (λ z. omega (arith, z)) last eleven).1 in
      let z : ◌≡◌ {A = ℕ} 0 1 = cc in omega arith

  at_unknown : (u : ℕ) (o : Outcome) → (o ≡ refused unknown_kind p → ⊥) → refuse_at u unknown_kind o ≡ refused unknown_kind p → (u ≡ p) × (u ≡ 0 → ⊥)
  unfolding refuse_at
  at_unknown u o never e = by (tested (eqb u 0))
    where
      by : Tested (eqb u 0) → (u ≡ p) × (u ≡ 0 → ⊥)
      by (passed h) = absurd (never (rw (h, refuse_at) at e))
      by (failed h) = let same : refused unknown_kind u ≡ refused unknown_kind p = rw (h, refuse_at) at e in let q : u ≡ p = cc in (q, eqb-false u 0 h)

  judged-unknown : judged L levels ps segs ≡ refused unknown_kind p → (1 ≤ p) × (p ≤ length segs)
  unfolding judged first_unknown kinds_of
  judged-unknown e =
      let kinds = kinds_of ps segs in
      let eight = (past {n = many_segments} (λ z. omega (arith, z)) _ e).1 in
      let at = at_unknown (first_unknown kinds) _ (never-later _ _ _ _) eight in (
        omega (arith, at.0, at_least_one (first_unknown kinds) at.1),
        omega (arith, at.0, first-within (eqb 0) 0 kinds, length-map segs (kind_of_segment ps)),
      )

-- the kinds are as many as the segments
kinds-length : (ps : Separators) (segs : List (List ℕ)) → length (kinds_of ps segs) ≡ length segs
unfolding kinds_of
kinds-length ps segs = length-map segs (kind_of_segment ps)

module _ (f : Form) (message : List ℕ) {text segments leaves text' segments' leaves' : List ℕ} {r : Answer}
    (g : ReadAs (limits_of f) level message text segments leaves r text' segments' leaves') where
  accepted_in_file : r.number ≡ 0 → RowsStand small_form message × RowsShown small_form message × (row_count message ≡ r.card.segments)
  unfolding answer_of
  accepted_in_file zero_number =
      let room = room_of text segments leaves in
      let o = reading (limits_of f) level room message in
      let t = (number-accepted o g (reading-numbered (limits_of f) level room message)).0 zero_number in
      let w = accepted-rows f level room message t.0 t.1 in
      let card : r.card ≡ t.0.card = ap (λ (a : Answer). a.card) (g.answer ∙ ap answer_of t.1) in
      (w.stand, w.shown, w.counted ∙ sym (ap (λ (c : Card). c.segments) card))

  module _ (ps : Separators) (sound : SoundLines (limits_of f) message ps) (roomy : short (limits_of f) (room_of text segments leaves) ≡ false) where
    unknown_in_file : r.number ≡ unknown_kind → (1 ≤ r.place) × (r.place ≤ row_count message)
    unfolding answer_of
    unknown_in_file eight =
        let segs = segments_in (limits_of f) ps message in
        let room = room_of text segments leaves in
        let same : reading (limits_of f) level room message ≡ judged (limits_of f) level ps segs
        = sound-lines-judged (limits_of f) level room message ps sound ∙ refuse_passed short_buffer (judged (limits_of f) level ps segs) roomy in
        by (judged (limits_of f) level ps segs) refl (subst (λ (o : Outcome). Gives o text segments leaves r text' segments' leaves') same g)
      where
        by : (o : Outcome) → judged (limits_of f) level ps (segments_in (limits_of f) ps message) ≡ o → Gives o text segments leaves r text' segments' leaves'
            → (1 ≤ r.place) × (r.place ≤ row_count message)
        by (accepted t) j h = let z : r.number ≡ 0 = ap (λ (a : Answer). a.number) h.answer in absurd (omega (arith, eight, z))
        by (refused n p) j h =
            let number : n ≡ unknown_kind = sym (ap (λ (a : Answer). a.number) h.answer) ∙ eight in
            let place : r.place ≡ p = ap (λ (a : Answer). a.place) h.answer in
            let w = judged-unknown (limits_of f) level ps (segments_in (limits_of f) ps message) p (j ∙ ap (λ (k : ℕ). refused k p) number) in
            (omega (arith, place, w.0), omega (arith, place, w.1, sound-count f message ps sound.header))

    module _ (ten : r.number ≡ misplaced_kind) where
      first : (q : ℕ) × (r.place ≡ suc q) × FirstMisplaced (context_in ps (segments_in (limits_of f) ps message)) (kinds_of ps (segments_in (limits_of f) ps message)) q
      first = first-misplaced (limits_of f) level message ps g sound roomy ten

      misplaced_in_file : (1 ≤ r.place) × (r.place ≤ suc (row_count message))
      misplaced_in_file =
          let segs = segments_in (limits_of f) ps message in
          (omega (arith, first.1), omega (arith, first.1, first.2.within, kinds-length ps segs, sound-count f message ps sound.header))

      expected_in_file : (kind : ℕ) → kind < 13
          → (get_or (next_kinds (watched (begun (context_in ps (segments_in (limits_of f) ps message))) (told_before (limits_of f) ps message r.place))) kind 0 ≡ 1)
          ↔ Begins (grammar (context_in ps (segments_in (limits_of f) ps message))) (told_before (limits_of f) ps message r.place ++ (kind ∷ []))
      expected_in_file kind h =
          let kinds = kinds_of ps (segments_in (limits_of f) ps message) in
          let before : r.place - 1 ≡ first.0 = omega (arith, first.1) in
          next-told (context_in ps (segments_in (limits_of f) ps message)) (told_before (limits_of f) ps message r.place)
          (subst (λ (n : ℕ). Begins (grammar (context_in ps (segments_in (limits_of f) ps message))) (take n kinds)) (sym before) first.2.begun) kind h

pub in_file : (f : Form) → InFile f
in_file f =
    record {
      accepted-rows = λ message g accepting. accepted_in_file f message g accepting;
      unknown-row = λ message sound roomy g eight. unknown_in_file f message g _ sound roomy eight;
      misplaced-row = λ message sound roomy g ten. misplaced_in_file f message g _ sound roomy ten;
      expected = λ message sound roomy g ten kind h. expected_in_file f message g _ sound roomy ten kind h;
    }
