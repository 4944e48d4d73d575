-- What the reader's contract says (rules N1 to N4): an accepted message has a sound header and is `Read`; 10 is at the first segment that may
-- not stand there; messages with the same joined segments leave the same answer and the same buffers.
-- Assumes nothing.
use mathlib.Core.Bool.{Bool, true, false}
use mathlib.Core.List.{List, []}
use mathlib.Core.Path.{◌≡◌, refl, sym, ap, ◌∙◌, subst}
use Prim.Native.Nat.{ℕ, zero, suc, ◌≤◌}
use native.Mathlib.Omega.{arith}
use lib.Dec.{eqb}
use lib.ListN.{drop, get_or}
use borrow.Author.Tests.{eqb-false, le-leb}
use Rattle.laws.proofs.Cases.{at_least_one}
use Rattle.laws.proofs.Tests.{Tested, passed, failed, tested, and_both}
use Rattle.form.specs.declared.limits.Limits.{Limits}
use Rattle.form.specs.declared.separators.Separators.{Separators}
use Rattle.form.specs.Limits.{Lawful}
use Rattle.form.specs.Numbers.{many_segments, unknown_kind, no_context, misplaced_kind, many_leaves, short_buffer}
use Rattle.form.proofs.Names.{context-within}
use Rattle.order.specs.Contexts.{is_context}
use Rattle.order.specs.Misplaced.{FirstMisplaced}
use Rattle.order.specs.inner.Place.{misplaced}
use Rattle.order.proofs.Misplaced.{misplaced_means}
use Rattle.table.specs.Leaves.{split, context_of_header}
use Rattle.table.specs.Rows.{Table, kinds_of, context_in}
use Rattle.table.specs.Reading.{room_of, Outcome, refused, accepted, refuse_if, refuse_at, short, judged, reading}
use Rattle.table.proofs.Accepting.{accepting, refuse_passed}
use Rattle.read.specs.declared.Answer.{Answer}
use Rattle.read.specs.Answering.{no_card, answer_of, Gives, ReadAs}
use Rattle.read.specs.Acceptance.{Read}
use Rattle.read.specs.Sound.{segments_in, SoundLines}
use Rattle.read.proofs.Acceptance.{accepted-read, number-accepted, sound-lines-judged}
use Rattle.read.proofs.CutAnyhow.{same_contract}
use Rattle.read.proofs.OnlyOne.{Numbered, only_one, reading-numbered}
use Rattle.read.proofs.OnlyOne as reader

module _ (L : Limits) (levels : ℕ → ℕ → ℕ) (message : List ℕ) {text segments leaves text' segments' leaves' : List ℕ} {r : Answer}
    (read : ReadAs L levels message text segments leaves r text' segments' leaves') where
  -- an accepted message has a sound header, and its table is given
  pub accepted-table : r.number ≡ 0 → (ps : Separators) × Read L levels message ps text segments leaves r text' segments' leaves'
  accepted-table e =
      let room = room_of text segments leaves in
      let t = (number-accepted (reading L levels room message) read (reading-numbered L levels room message)).0 e in
      let w = (accepting L levels room message t.0).0 t.1 in
      (w.separators, accepted-read L levels message w.separators w.header read e)

  -- a refused call changes no buffer, its card is all zero, and its number is one of the reader's
  refused-number : (o : Outcome) → Numbered o → Gives o text segments leaves r text' segments' leaves' → r.number ≤ 11
  unfolding answer_of
  refused-number (accepted t) h g = omega (arith, ap (λ (a : Answer). a.number) g.answer)
  refused-number (refused n p) h g = omega (arith, ap (λ (a : Answer). a.number) g.answer, h.1)

  pub refused_unchanged : (r.number ≡ 0 → ⊥)
      → (text' ≡ text) × (segments' ≡ segments) × (leaves' ≡ leaves) × (r.card ≡ no_card) × (r.number ≤ 11)
  refused_unchanged h =
      let room = room_of text segments leaves in
      let kept = reader.refused_unchanged L levels message read h in
      (kept.0, kept.1, kept.2, kept.3, refused-number (reading L levels room message) (reading-numbered L levels room message) read)

-- a test that refuses with another number was passed
module _ {n k p : ℕ} {else : Outcome} (other : n ≡ k → ⊥) where
  pub past : (test : Bool) → refuse_if test n else ≡ refused k p → (test ≡ false) × (else ≡ refused k p)
  unfolding refuse_if
  past true e = let z : n ≡ k = cc in absurd (other z)
  past false e = (refl, e)

  pub past_at : (place : ℕ) → refuse_at place n else ≡ refused k p → else ≡ refused k p
  unfolding refuse_at
  past_at place e = by (tested (eqb place 0))
    where
      by : Tested (eqb place 0) → else ≡ refused k p
      by (passed h) = rw (h, refuse_at) at e
      by (failed h) = let f : refused n place ≡ refused k p = rw (h, refuse_at) at e in let z : n ≡ k = cc in absurd (other z)

-- a context that joined segments name is one of the seven
named-context : (ps : Separators) (segs : List (List ℕ)) → eqb (context_in ps segs) 0 ≡ false → is_context (context_in ps segs) ≡ true
unfolding context_in context_of_header is_context
named-context ps segs h =
    let c = context_in ps segs in
    let most = context-within (get_or (split ps.field (drop 7 (get_or segs 0 []))) 4 []) in
    let some : 1 ≤ c = at_least_one c (eqb-false c 0 h) in
    and_both (le-leb 1 c some) (le-leb c 7 most)

-- joined segments that are refused with 10 are so at the first that may not stand where it stands
module _ (L : Limits) (levels : ℕ → ℕ → ℕ) (ps : Separators) (segs : List (List ℕ)) (p : ℕ) where
  at_misplaced : (m : ℕ) (last : Bool) (t : Table) → refuse_at m misplaced_kind (refuse_if last many_leaves (accepted t)) ≡ refused misplaced_kind p → (m ≡ p) × (m ≡ 0 → ⊥)
  unfolding refuse_at refuse_if
  at_misplaced m last t e = by (tested (eqb m 0)) last e
    where
      by : Tested (eqb m 0) → (last : Bool) → refuse_at m misplaced_kind (refuse_if last many_leaves (accepted t)) ≡ refused misplaced_kind p → (m ≡ p) × (m ≡ 0 → ⊥)
      by (failed h) last e = let f : refused misplaced_kind m ≡ refused misplaced_kind p = rw (h, refuse_at) at e in let same : m ≡ p = cc in (same, eqb-false m 0 h)
      by (passed h) true e =
          let f : refused many_leaves 0 ≡ refused misplaced_kind p = rw (h, refuse_at) at e in
          let z : many_leaves ≡ misplaced_kind = cc in absurd (omega (arith, z))
      by (passed h) false e =
          let f : accepted t ≡ refused misplaced_kind p = rw (h, refuse_at) at e in
          let z : ◌≡◌ {A = ℕ} 0 1 = cc in absurd (omega arith)

  judged-misplaced : judged L levels ps segs ≡ refused misplaced_kind p
      → (q : ℕ) × (p ≡ suc q) × FirstMisplaced (context_in ps segs) (kinds_of ps segs) q
  unfolding judged
  judged-misplaced e =
      let c = context_in ps segs in
      let known = past_at {n = unknown_kind} (λ z. omega (arith, z)) _ (past {n = many_segments} (λ z. omega (arith, z)) _ e).1 in
      let named = past {n = no_context} (λ z. omega (arith, z)) (eqb c 0) known in
      let m = at_misplaced (misplaced c (kinds_of ps segs)) _ _ named.1 in
      first (misplaced c (kinds_of ps segs)) refl m.0 m.1 (named-context ps segs named.0)
    where
      first : (m : ℕ) → misplaced (context_in ps segs) (kinds_of ps segs) ≡ m → m ≡ p → (m ≡ 0 → ⊥) → is_context (context_in ps segs) ≡ true
          → (q : ℕ) × (p ≡ suc q) × FirstMisplaced (context_in ps segs) (kinds_of ps segs) q
      first zero e same some context = absurd (some refl)
      first (suc q) e same some context = (q, sym same, (misplaced_means (context_in ps segs) context (kinds_of ps segs) q).0 e)

module _ (L : Limits) (levels : ℕ → ℕ → ℕ) (message : List ℕ) (ps : Separators) {text segments leaves text' segments' leaves' : List ℕ} {r : Answer}
    (read : ReadAs L levels message text segments leaves r text' segments' leaves') where
  pub first-misplaced : SoundLines L message ps → short L (room_of text segments leaves) ≡ false → r.number ≡ misplaced_kind
      → (q : ℕ) × (r.place ≡ suc q) × FirstMisplaced (context_in ps (segments_in L ps message)) (kinds_of ps (segments_in L ps message)) q
  unfolding answer_of
  first-misplaced sound roomy e =
      let segs = segments_in L ps message in
      let room = room_of text segments leaves in
      let same : reading L levels room message ≡ judged L levels ps segs
      = sound-lines-judged L levels room message ps sound ∙ refuse_passed short_buffer (judged L levels ps segs) roomy in
      by (judged L levels ps segs) refl (subst (λ (o : Outcome). Gives o text segments leaves r text' segments' leaves') same read)
    where
      by : (o : Outcome) → judged L levels ps (segments_in L ps message) ≡ o → Gives o text segments leaves r text' segments' leaves'
          → (q : ℕ) × (r.place ≡ suc q) × FirstMisplaced (context_in ps (segments_in L ps message)) (kinds_of ps (segments_in L ps message)) q
      by (accepted t) j g = let z : r.number ≡ 0 = ap (λ (a : Answer). a.number) g.answer in absurd (omega (arith, e, z))
      by (refused n p) j g =
          let number : n ≡ misplaced_kind = sym (ap (λ (a : Answer). a.number) g.answer) ∙ e in
          let place : r.place ≡ p = ap (λ (a : Answer). a.place) g.answer in
          let w = judged-misplaced L levels ps (segments_in L ps message) p (j ∙ ap (λ (k : ℕ). refused k p) number) in
          (w.0, place ∙ w.1, w.2)

-- two messages with the same joined segments, read into the same lent buffers
module _ (L : Limits) (lawful : Lawful L) (levels : ℕ → ℕ → ℕ) {ps qs : Separators} (m n : List ℕ) {text segments leaves : List ℕ} where
  pub cut_anyhow : SoundLines L m ps → SoundLines L n qs → segments_in L ps m ≡ segments_in L qs n
      → {r s : Answer} {text₁ segments₁ leaves₁ text₂ segments₂ leaves₂ : List ℕ}
      → ReadAs L levels m text segments leaves r text₁ segments₁ leaves₁ → ReadAs L levels n text segments leaves s text₂ segments₂ leaves₂
      → (r ≡ s) × (text₁ ≡ text₂) × (segments₁ ≡ segments₂) × (leaves₁ ≡ leaves₂)
  cut_anyhow one two same g h = only_one L levels n (same_contract L lawful m n one two same levels g) h
