-- The reader's contract has one outcome on all inputs (N1), and a refused call changes nothing (N3).
-- Assumes nothing.
use mathlib.Core.Bool.{Bool, true, false}
use mathlib.Core.List.{List, [], ◌∷◌, ◌++◌}
use mathlib.Core.Logic.{◌⊎◌, inl, inr, ⊎_elim}
use mathlib.Core.Path.{◌≡◌, refl, sym, ap, ◌∙◌, subst, subst⁻¹}
use Prim.Native.Nat.{ℕ, suc, ◌≤◌}
use native.Mathlib.Omega.{arith}
use lib.Dec.{eqb, lit≤}
use lib.ListN.{length}
use Rattle.laws.proofs.Cases.{less_or_not}
use Rattle.form.specs.declared.limits.Limits.{Limits}
use Rattle.form.specs.declared.separators.Separators.{Separators}
use Rattle.form.specs.declared.separators.Header.{Header}
use Rattle.form.specs.declared.separators.Header.TheVariants.{Sound, Broken}
use Rattle.form.specs.Header.{header_of}
use Rattle.form.specs.Numbers.{broken_header, control_byte, long_line, open_line}
use Rattle.line.specs.Lines.{space, inside, between, walk_from, walk, fault_number}
use Rattle.line.proofs.Steps.{byte_cases, inside_nil, inside_cr, inside_control, inside-long, inside-more, between_nil, between-low, between-text, walk_from_nil, walk_from-low, walk_from-text}
use Rattle.table.specs.Reading.{Room, Outcome, refused, accepted, refuse_if, refuse_at, judged, of_message, reading}
use Rattle.read.specs.declared.Answer.{Answer}
use Rattle.read.specs.Answering.{no_card, answer_of, text_put, segments_put, leaves_put, Gives, ReadAs}
use Rattle.read.proofs.Deciding.{message-judged, message-fault}

-- two outcomes that satisfy the contract are equal, the answer and each buffer
module _ (L : Limits) (levels : ℕ → ℕ → ℕ) (message : List ℕ) {text segments leaves : List ℕ} where
  pub only_one : {r s : Answer} {text₁ segments₁ leaves₁ text₂ segments₂ leaves₂ : List ℕ}
      → ReadAs L levels message text segments leaves r text₁ segments₁ leaves₁
      → ReadAs L levels message text segments leaves s text₂ segments₂ leaves₂
      → (r ≡ s) × (text₁ ≡ text₂) × (segments₁ ≡ segments₂) × (leaves₁ ≡ leaves₂)
  only_one g h = (
    g.answer ∙ sym h.answer,
    g.text_area ∙ sym h.text_area,
    g.segment_rows ∙ sym h.segment_rows,
    g.leaf_rows ∙ sym h.leaf_rows,
  )

-- a refused call, by its number: every buffer as it was, and a card that is all zero
pub refusal_unchanged : (o : Outcome) {text segments leaves text' segments' leaves' : List ℕ} {r : Answer}
    → Gives o text segments leaves r text' segments' leaves' → (r.number ≡ 0 → ⊥)
    → (text' ≡ text) × (segments' ≡ segments) × (leaves' ≡ leaves) × (r.card ≡ no_card)
unfolding answer_of text_put segments_put leaves_put
refusal_unchanged (refused n p) g h = (g.text_area, g.segment_rows, g.leaf_rows, ap (λ (a : Answer). a.card) g.answer)
refusal_unchanged (accepted t) g h = absurd (h (ap (λ (a : Answer). a.number) g.answer))

module _ (L : Limits) (levels : ℕ → ℕ → ℕ) (message : List ℕ) {text segments leaves text' segments' leaves' : List ℕ} {r : Answer}
    (read : ReadAs L levels message text segments leaves r text' segments' leaves') where
  pub refused_unchanged : (r.number ≡ 0 → ⊥) → (text' ≡ text) × (segments' ≡ segments) × (leaves' ≡ leaves) × (r.card ≡ no_card)
  refused_unchanged h = refusal_unchanged _ read h

-- the numbers of refusals: none is 0, so the number tells a refusal from an accepted message, and none is above 11

-- no fault, or one of the numbers 4 to 6
abbrev pub LineFault : ℕ → Type 0
LineFault n = (n ≡ 0) ⊎ ((control_byte ≤ n) × (n ≤ open_line))

control_fault : LineFault control_byte
control_fault = inr (lit≤ tt, lit≤ tt)

long-fault : LineFault long_line
long-fault = inr (lit≤ tt, lit≤ tt)

open_fault : LineFault open_line
open_fault = inr (lit≤ tt, lit≤ tt)

module _ (L : Limits) where
  fault_along : (s : List ℕ) → ((at : ℕ) (t : List ℕ) → LineFault (fault_number (inside L at t s))) × ((at : ℕ) → LineFault (fault_number (between L at s)))
  unfolding fault_number
  fault_along [] = (λ at t. rw (inside_nil L at t) open_fault, λ at. rw (between_nil L at) (inl refl))
  fault_along (b ∷ s) = (
    (λ at t.
        ⊎_elim
        (λ e. subst⁻¹ LineFault (ap (λ (c : ℕ). fault_number (inside L at t (c ∷ s))) e ∙ ap fault_number (inside_cr L at t s)) ((fault_along s).1 (suc at)))
        (⊎_elim
        (λ h. rw (inside_control L at t b s h.0 h.1) control_fault)
        (λ h.
        ⊎_elim
        (λ room. rw (inside-more L at t b s h room) ((fault_along s).0 (suc at) (t ++ (b ∷ []))))
        (λ full. rw (inside-long L at t b s h full) long-fault)
        (less_or_not (length t) L.line)))
        (byte_cases b)),
    (λ at.
        ⊎_elim
        (λ low. rw (between-low L at b s low) ((fault_along s).1 (suc at)))
        (λ h. rw (between-text L at b s h) ((fault_along s).0 (suc at) (b ∷ [])))
        (less_or_not b space)),
  )

  -- a walk ends in no fault, or in 4, 5 or 6
  pub line-fault : (at : ℕ) (m : List ℕ) → LineFault (fault_number (walk_from L at m))
  unfolding fault_number
  line-fault at [] = rw (walk_from_nil L at) (inl refl)
  line-fault at (b ∷ s) =
      ⊎_elim
      (λ low. rw (walk_from-low L at b s low) control_fault)
      (λ h. rw (walk_from-text L at b s h) ((fault_along s).0 (suc at) (b ∷ [])))
      (less_or_not b space)

-- that an outcome is no refusal, or one with a number from 1 to 11
abbrev pub Numbered : Outcome → Type 0
Numbered (refused n p) = (1 ≤ n) × (n ≤ 11)
Numbered (accepted t) = Unit

refuse_if-numbered : (test : Bool) (n : ℕ) (else : Outcome) → 1 ≤ n → n ≤ 11 → Numbered else → Numbered (refuse_if test n else)
unfolding refuse_if
refuse_if-numbered true n else least most h = (least, most)
refuse_if-numbered false n else least most h = h

refuse_at-numbered : (place n : ℕ) (else : Outcome) → 1 ≤ n → n ≤ 11 → Numbered else → Numbered (refuse_at place n else)
unfolding refuse_at
refuse_at-numbered place n else least most h = by (eqb place 0)
  where
    by : (b : Bool) → Numbered (elim b [ true ↦ else | false ↦ refused n place ])
    by true = h
    by false = (least, most)

module _ (L : Limits) (levels : ℕ → ℕ → ℕ) where
  judged-numbered : (ps : Separators) (segs : List (List ℕ)) → Numbered (judged L levels ps segs)
  unfolding judged
  judged-numbered ps segs =
      refuse_if-numbered _ _ _ (lit≤ tt) (lit≤ tt)
      (refuse_at-numbered _ _ _ (lit≤ tt) (lit≤ tt)
      (refuse_if-numbered _ _ _ (lit≤ tt) (lit≤ tt)
      (refuse_at-numbered _ _ _ (lit≤ tt) (lit≤ tt) (refuse_if-numbered _ _ _ (lit≤ tt) (lit≤ tt) tt))))

  message-numbered : (message : List ℕ) (ps : Separators) → Numbered (of_message L levels message ps)
  unfolding walk
  message-numbered message ps =
      ⊎_elim
      (λ h. rw (message-judged L levels message ps h) (judged-numbered ps _))
      (λ h. rw (message-fault L levels message ps (λ e. omega (arith, h.0, e))) ((omega (arith, h.0), omega (arith, h.1))))
      (line-fault L 0 message)

  pub reading-numbered : (room : Room) (message : List ℕ) → Numbered (reading L levels room message)
  unfolding reading
  reading-numbered room message =
      refuse_if-numbered _ _ _ (lit≤ tt) (lit≤ tt) (refuse_if-numbered _ _ _ (lit≤ tt) (lit≤ tt) (by (header_of message)))
    where
      by : (h : Header) → Numbered (elim h [ Sound ps ↦ of_message L levels message ps | Broken ↦ refused broken_header 0 ])
      by (Sound ps) = message-numbered message ps
      by Broken = (lit≤ tt, lit≤ tt)

  pub refusal_numbers : (room : Room) (message : List ℕ) (n p : ℕ) → reading L levels room message ≡ refused n p → (1 ≤ n) × (n ≤ 11)
  refusal_numbers room message n p e = subst Numbered e (reading-numbered room message)

  pub refusal_not_zero : (room : Room) (message : List ℕ) (n p : ℕ) → reading L levels room message ≡ refused n p → n ≡ 0 → ⊥
  refusal_not_zero room message n p e z = let h = refusal_numbers room message n p e in omega arith
