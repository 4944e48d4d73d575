-- Finding the line at a place: the step equations of `found_from`, and what the finder's loops tell of it.
-- Assumes nothing.
use mathlib.Core.Path.{◌≡◌, refl, sym, ap, ap₂, ◌∙◌, subst, subst⁻¹}
use mathlib.Core.Logic.{⊎_elim}
use mathlib.Core.List.{List, [], ◌∷◌}
use Prim.Native.Nat.{ℕ, suc, ◌+◌, ◌-◌, ◌≤◌, ◌<◌, min}
use native.Mathlib.Omega.{arith}
use native.Mathlib.Numerals.{add-one}
use lib.Dec.{eqb}
use lib.ListN.{length, get_or, drop, length-drop, drop_of_length-le}
use lib.Seq.{get_or-drop, drop-drop}
use denote.Ref.{Bor}
use borrow.Author.Tests.{lt-ltb, le-ltb, le-leb, lt-leb, eq-eqb, ne_eqb}
use Rattle.laws.specs.Parts.{part_of}
use Rattle.laws.proofs.Cases.{less_or_not, equal_or_not}
use Rattle.laws.proofs.Tests.{and_fails_second}
use Rattle.laws.proofs.Parts.{left_cons}
use Rattle.form.specs.Numbers.{control_byte, long_line, open_line}
use Rattle.line.specs.Lines.{CR, space}
use Rattle.line.specs.Finding.{text_run, low_run, text_ended, found_from, part_found, next_of}
use Rattle.line.specs.inner.Ending.{ended_line}
use Rattle.line.specs.declared.finder.Found.{Found}
use Rattle.line.specs.declared.finder.Found.TheVariants.{Line, End, Fault}
use Rattle.line.proofs.Runs.{text_run_nil, text_run-more, text_run-length, text_run-inside, text_run-after}

-- step equations

module _ (at : ℕ) where
  pub text_ended_nil : text_ended at [] ≡ Fault open_line at
  unfolding text_ended
  text_ended_nil = refl

  pub text_ended_cr : (s : List ℕ) → text_ended at (CR ∷ s) ≡ Line at (suc at + low_run s)
  unfolding text_ended
  text_ended_cr s = refl

  pub text_ended-other : (b : ℕ) (s : List ℕ) → (b ≡ CR → ⊥) → text_ended at (b ∷ s) ≡ Fault control_byte at
  unfolding text_ended
  text_ended-other b s h = rw (ne_eqb b CR h, text_ended)

module _ (most at : ℕ) where
  pub found_from_nil : found_from most at [] ≡ End
  unfolding found_from
  found_from_nil = refl

  pub found_from_low : (b : ℕ) (s : List ℕ) → b < space → found_from most at (b ∷ s) ≡ Fault control_byte at
  unfolding found_from
  found_from_low b s h = rw (lt-ltb b space h, found_from)

  pub found_from_text : (s : List ℕ) → 1 ≤ text_run s → text_run s ≤ most → found_from most at s ≡ text_ended (at + text_run s) (drop (text_run s) s)
  unfolding found_from
  found_from_text [] some fits = absurd (omega (arith, text_run_nil))
  found_from_text (b ∷ s) some fits = rw (le-ltb b space (text_run-inside (b ∷ s) 0 some), le-leb (text_run (b ∷ s)) most fits, found_from)

  pub found_from_long : (s : List ℕ) → 1 ≤ text_run s → most < text_run s → found_from most at s ≡ Fault long_line (at + most)
  unfolding found_from
  found_from_long [] some long = absurd (omega (arith, text_run_nil))
  found_from_long (b ∷ s) some long = rw (le-ltb b space (text_run-inside (b ∷ s) 0 some), lt-leb (text_run (b ∷ s)) most long, found_from)

-- what ends a line's text at the place i: the message's end, a byte of text, its CR, and any other byte below 32
module _ (m : List ℕ) (at i : ℕ) where
  pub ended_open : length m ≤ i → ended_line m at i ≡ Fault open_line i
  unfolding ended_line
  ended_open k = rw (le-leb (length m) i k, ended_line)

  pub ended-long : i < length m → space ≤ get_or m i 0 → ended_line m at i ≡ Fault long_line i
  unfolding ended_line
  ended-long k t = rw (lt-leb (length m) i k, le-leb space (get_or m i 0) t, ended_line)

  pub ended-line : i < length m → get_or m i 0 ≡ CR → at < i → ended_line m at i ≡ Line i (i + 1 + low_run (drop (i + 1) m))
  unfolding ended_line
  ended-line k c l =
      rw (lt-leb (length m) i k, lt-leb space (get_or m i 0) (omega arith), eq-eqb (get_or m i 0) CR c, lt-ltb at i l, ended_line)

  pub ended-first : i < length m → get_or m i 0 < space → i ≤ at → ended_line m at i ≡ Fault control_byte i
  unfolding ended_line
  ended-first k l g =
      rw (lt-leb (length m) i k, lt-leb space (get_or m i 0) l, and_fails_second (eqb (get_or m i 0) CR) (le-ltb at i g), ended_line)

  pub ended_control : i < length m → get_or m i 0 < space → (get_or m i 0 ≡ CR → ⊥) → ended_line m at i ≡ Fault control_byte i
  unfolding ended_line
  ended_control k l c =
      rw (lt-leb (length m) i k, lt-leb space (get_or m i 0) l, ne_eqb (get_or m i 0) CR c, ended_line)

-- where a line ends whose text goes up to i, and that a fault has a number
abbrev pub EndedAt : ℕ → Found → Type 0
EndedAt i (Line e n) = e ≡ i
EndedAt i End = ⊥
EndedAt i (Fault k p) = k ≡ 0 → ⊥

pub ended_at : (m : List ℕ) (at i : ℕ) → EndedAt i (ended_line m at i)
ended_at m at i = ⊎_elim within past (less_or_not i (length m))
  where
    other : i < length m → get_or m i 0 < space → (get_or m i 0 ≡ CR → ⊥) → EndedAt i (ended_line m at i)
    other k l c = subst⁻¹ (EndedAt i) (ended_control m at i k l c) (λ z. omega arith)

    cr : i < length m → get_or m i 0 < space → get_or m i 0 ≡ CR → EndedAt i (ended_line m at i)
    cr k l c =
        ⊎_elim
        (λ (g : at < i). subst⁻¹ (EndedAt i) (ended-line m at i k c g) refl)
        (λ (g : i ≤ at). subst⁻¹ (EndedAt i) (ended-first m at i k l g) (λ z. omega arith))
        (less_or_not at i)

    within : i < length m → EndedAt i (ended_line m at i)
    within k =
        ⊎_elim
        (λ (l : get_or m i 0 < space). ⊎_elim (cr k l) (other k l) (equal_or_not (get_or m i 0) CR))
        (λ (t : space ≤ get_or m i 0). subst⁻¹ (EndedAt i) (ended-long m at i k t) (λ z. omega arith))
        (less_or_not (get_or m i 0) space)

    past : length m ≤ i → EndedAt i (ended_line m at i)
    past k = subst⁻¹ (EndedAt i) (ended_open m at i k) (λ z. omega arith)

-- what the finder reads at the place i where the text that begins at `at` ends, or where a line may have no further byte
module _ (most : ℕ) (m : List ℕ) (at : ℕ) where
  pub found-end : length m ≤ at → found_from most at (drop at m) ≡ End
  found-end h = ap (found_from most at) (drop_of_length-le m h) ∙ found_from_nil most at

  there : (k : ℕ) → get_or m (at + k) 0 ≡ get_or (drop at m) k 0
  there k = sym (get_or-drop at m k 0)

  module _ (i : ℕ) (h : at < length m) (e : i ≡ at + min most (text_run (drop at m))) where
    -- no byte at i is text and within the line
    full : i < length m → space ≤ get_or m i 0 → most < text_run (drop at m)
    full k t =
        ⊎_elim
        (λ (l : most < text_run (drop at m)). l)
        (λ (f : text_run (drop at m) ≤ most).
        let p : i ≡ at + text_run (drop at m) = omega arith in
        let q : get_or m i 0 ≡ get_or (drop at m) (text_run (drop at m)) 0 = ap (λ (j : ℕ). get_or m j 0) p ∙ there (text_run (drop at m)) in
        absurd (omega (arith, text_run-after (drop at m) (omega (arith, length-drop at m)))))
        (less_or_not most (text_run (drop at m)))

    -- a byte at i that is no text ends the run
    run : get_or m i 0 < space → i ≡ at + text_run (drop at m)
    run l =
        ⊎_elim
        (λ (g : most < text_run (drop at m)).
        let p : i ≡ at + most = omega arith in
        let q : get_or m i 0 ≡ get_or (drop at m) most 0 = ap (λ (j : ℕ). get_or m j 0) p ∙ there most in
        absurd (omega (arith, text_run-inside (drop at m) most g)))
        (λ (f : text_run (drop at m) ≤ most). omega arith)
        (less_or_not most (text_run (drop at m)))

    -- what is left after the run, where it ends at i
    rest : i ≡ at + text_run (drop at m) → drop (text_run (drop at m)) (drop at m) ≡ drop i m
    rest p = drop-drop (text_run (drop at m)) at m ∙ ap (λ (j : ℕ). drop j m) (sym p)

    ended : i ≡ at + text_run (drop at m) → at < i → found_from most at (drop at m) ≡ text_ended i (drop i m)
    ended p l =
        found_from_text most at (drop at m) (omega arith) (omega arith) ∙ ap₂ text_ended (sym p) (rest p)

    pub found_open : length m ≤ i → found_from most at (drop at m) ≡ Fault open_line i
    found_open k =
        ended (omega (arith, text_run-length (drop at m), length-drop at m)) (omega arith)
        ∙ ap (text_ended i) (drop_of_length-le m k)
        ∙ text_ended_nil i

    pub found-long : i < length m → space ≤ get_or m i 0 → found_from most at (drop at m) ≡ Fault long_line i
    found-long k t =
        let g : most < text_run (drop at m) = full k t in
        found_from_long most at (drop at m) (omega arith) g ∙ ap (Fault long_line) (omega arith)

    pub found-line : i < length m → get_or m i 0 ≡ CR → at < i → found_from most at (drop at m) ≡ Line i (i + 1 + low_run (drop (i + 1) m))
    found-line k c l =
        ended (run (omega arith)) l
        ∙ ap (text_ended i) (left_cons m i 0 k ∙ ap (λ (b : ℕ). b ∷ drop (i + 1) m) c)
        ∙ text_ended_cr i (drop (i + 1) m)
        ∙ ap (λ (j : ℕ). Line i (j + low_run (drop (i + 1) m))) (sym (add-one i))

    pub found_first : i < length m → get_or m i 0 < space → i ≤ at → found_from most at (drop at m) ≡ Fault control_byte i
    found_first k l g =
        let p : i ≡ at = omega arith in
        subst⁻¹ (λ (j : ℕ). found_from most at (drop at m) ≡ Fault control_byte j) p
        (ap (found_from most at) (left_cons m at 0 h)
        ∙ found_from_low most at (get_or m at 0) (drop (at + 1) m) (subst (λ (j : ℕ). get_or m j 0 < space) p l))

    pub found_control : i < length m → get_or m i 0 < space → (get_or m i 0 ≡ CR → ⊥) → found_from most at (drop at m) ≡ Fault control_byte i
    found_control k l c =
        ⊎_elim
        (λ (g : at < i).
        ended (run l) g
        ∙ ap (text_ended i) (left_cons m i 0 k)
        ∙ text_ended-other i (get_or m i 0) (drop (i + 1) m) c)
        (λ (g : i ≤ at). found_first k l g)
        (less_or_not at i)

    -- so what is found is a line whose text goes up to i, by what stands there
    pub found-ended : found_from most at (drop at m) ≡ ended_line m at i
    found-ended = ⊎_elim within past (less_or_not i (length m))
      where
        other : i < length m → get_or m i 0 < space → (get_or m i 0 ≡ CR → ⊥) → found_from most at (drop at m) ≡ ended_line m at i
        other k l c = found_control k l c ∙ sym (ended_control m at i k l c)

        cr : i < length m → get_or m i 0 < space → get_or m i 0 ≡ CR → found_from most at (drop at m) ≡ ended_line m at i
        cr k l c =
            ⊎_elim
            (λ (g : at < i). found-line k c g ∙ sym (ended-line m at i k c g))
            (λ (g : i ≤ at). found_first k l g ∙ sym (ended-first m at i k l g))
            (less_or_not at i)

        within : i < length m → found_from most at (drop at m) ≡ ended_line m at i
        within k =
            ⊎_elim
            (λ (l : get_or m i 0 < space). ⊎_elim (cr k l) (other k l) (equal_or_not (get_or m i 0) CR))
            (λ (t : space ≤ get_or m i 0). found-long k t ∙ sym (ended-long m at i k t))
            (less_or_not (get_or m i 0) space)

        past : length m ≤ i → found_from most at (drop at m) ≡ ended_line m at i
        past k = found_open k ∙ sym (ended_open m at i k)

-- An answer is one of these ways. What holds of each holds of what is found.
module _ (P : Found → Type 0) where
  pub text_ended_cases :
      (at : ℕ) (s : List ℕ)
      → (s ≡ [] → P (Fault open_line at))
      → ((b : ℕ) (r : List ℕ) → s ≡ b ∷ r → (b ≡ CR → ⊥) → P (Fault control_byte at))
      → ((r : List ℕ) → s ≡ CR ∷ r → P (Line at (suc at + low_run r)))
      → P (text_ended at s)
  text_ended_cases at [] none other cr = subst⁻¹ P (text_ended_nil at) (none refl)
  text_ended_cases at (b ∷ s) none other cr =
      ⊎_elim
      (λ (e : b ≡ CR).
      subst⁻¹ P (ap (λ (c : ℕ). text_ended at (c ∷ s)) e ∙ text_ended_cr at s) (cr s (ap (λ (c : ℕ). c ∷ s) e)))
      (λ (o : b ≡ CR → ⊥). subst⁻¹ P (text_ended-other at b s o) (other b s refl o))
      (equal_or_not b CR)

  pub found_cases :
      (most at : ℕ) (s : List ℕ)
      → (s ≡ [] → P End)
      → ((b : ℕ) (r : List ℕ) → s ≡ b ∷ r → b < space → P (Fault control_byte at))
      → (1 ≤ text_run s → most < text_run s → P (Fault long_line (at + most)))
      → (1 ≤ text_run s → text_run s ≤ most → P (text_ended (at + text_run s) (drop (text_run s) s)))
      → P (found_from most at s)
  found_cases most at [] none low long text = subst⁻¹ P (found_from_nil most at) (none refl)
  found_cases most at (b ∷ s) none low long text =
      ⊎_elim
      (λ (l : b < space). subst⁻¹ P (found_from_low most at b s l) (low b s refl l))
      (λ (t : space ≤ b).
      let one : 1 ≤ text_run (b ∷ s) = omega (arith, text_run-more b s t) in
      ⊎_elim
      (λ (g : most < text_run (b ∷ s)). subst⁻¹ P (found_from_long most at (b ∷ s) one g) (long one g))
      (λ (f : text_run (b ∷ s) ≤ most). subst⁻¹ P (found_from_text most at (b ∷ s) one f) (text one f))
      (less_or_not most (text_run (b ∷ s))))
      (less_or_not b space)

-- the next place and the part, by what was found
module _ (at : ℕ) where
  pub next_of_line : (f : Found) (e n : ℕ) → f ≡ Line e n → next_of at f ≡ n
  unfolding next_of
  next_of_line f e n h = ap (next_of at) h

  pub next_of_end : (f : Found) → f ≡ End → next_of at f ≡ at
  unfolding next_of
  next_of_end f h = ap (next_of at) h

  pub next_of_fault : (f : Found) (k p : ℕ) → f ≡ Fault k p → next_of at f ≡ at
  unfolding next_of
  next_of_fault f k p h = ap (next_of at) h

  module _ (m : Bor (List ℕ)) where
    pub part_found-line : (f : Found) (e n : ℕ) → f ≡ Line e n → part_found m at f ≡ part_of m at (e - at)
    unfolding part_found
    part_found-line f e n h = ap (part_found m at) h

    pub part_found-end : (f : Found) → f ≡ End → part_found m at f ≡ part_of m 0 0
    unfolding part_found
    part_found-end f h = ap (part_found m at) h

    pub part_found-fault : (f : Found) (k p : ℕ) → f ≡ Fault k p → part_found m at f ≡ part_of m 0 0
    unfolding part_found
    part_found-fault f k p h = ap (part_found m at) h
