-- Runs of text and of bytes below 32: their step equations, the same as the turn of a loop, and what stands where a run ends.
-- Assumes nothing.
use mathlib.Core.Path.{◌≡◌, refl, sym, ap, ◌∙◌}
use mathlib.Core.Logic.{⊎_elim}
use mathlib.Core.List.{List, [], ◌∷◌}
use Prim.Native.Nat.{ℕ, zero, suc, ◌+◌, ◌≤◌, ◌<◌, min}
use native.Mathlib.Nat.{not-suc-le-zero}
use native.Mathlib.Omega.{arith}
use lib.ListN.{length, get_or, take, drop, length-drop, drop_of_length-le}
use lib.Seq.{get_or-drop}
use borrow.Author.Tests.{lt-ltb, le-ltb}
use Rattle.laws.proofs.Cases.{less_or_not}
use Rattle.laws.proofs.Parts.{left_cons}
use Rattle.line.specs.Lines.{space}
use Rattle.line.specs.Finding.{text_run, low_run}

pub text_run_nil : text_run [] ≡ 0
unfolding text_run
text_run_nil = refl

pub text_run-more : (b : ℕ) (s : List ℕ) → space ≤ b → text_run (b ∷ s) ≡ suc (text_run s)
unfolding text_run
text_run-more b s h = rw (le-ltb b space h, text_run)

pub text_run_stop : (b : ℕ) (s : List ℕ) → b < space → text_run (b ∷ s) ≡ 0
unfolding text_run
text_run_stop b s h = rw (lt-ltb b space h, text_run)

pub low_run_nil : low_run [] ≡ 0
unfolding low_run
low_run_nil = refl

pub low_run-more : (b : ℕ) (s : List ℕ) → b < space → low_run (b ∷ s) ≡ suc (low_run s)
unfolding low_run
low_run-more b s h = rw (lt-ltb b space h, low_run)

pub low_run_stop : (b : ℕ) (s : List ℕ) → space ≤ b → low_run (b ∷ s) ≡ 0
unfolding low_run
low_run_stop b s h = rw (le-ltb b space h, low_run)

-- the turn of a loop at the place i of a message m
module _ (m : List ℕ) (i : ℕ) where
  pub low_run_turn_end : length m ≤ i → low_run (drop i m) ≡ 0
  low_run_turn_end h = rw (drop_of_length-le m h) low_run_nil

  module _ (h : i < length m) where
    pub text_run_turn_more : space ≤ get_or m i 0 → text_run (drop i m) ≡ suc (text_run (drop (i + 1) m))
    text_run_turn_more t = ap text_run (left_cons m i 0 h) ∙ text_run-more (get_or m i 0) (drop (i + 1) m) t

    pub text_run_turn_stop : get_or m i 0 < space → text_run (drop i m) ≡ 0
    text_run_turn_stop t = ap text_run (left_cons m i 0 h) ∙ text_run_stop (get_or m i 0) (drop (i + 1) m) t

    pub low_run_turn_more : get_or m i 0 < space → low_run (drop i m) ≡ suc (low_run (drop (i + 1) m))
    low_run_turn_more t = ap low_run (left_cons m i 0 h) ∙ low_run-more (get_or m i 0) (drop (i + 1) m) t

    pub low_run_turn_stop : space ≤ get_or m i 0 → low_run (drop i m) ≡ 0
    low_run_turn_stop t = ap low_run (left_cons m i 0 h) ∙ low_run_stop (get_or m i 0) (drop (i + 1) m) t

-- a run is no longer than its list
pub text_run-length : (s : List ℕ) → text_run s ≤ length s
text_run-length [] = omega (arith, text_run_nil)
text_run-length (b ∷ s) =
    ⊎_elim
    (λ (h : b < space). omega (arith, text_run_stop b s h))
    (λ (h : space ≤ b). omega (arith, text_run-more b s h, text_run-length s))
    (less_or_not b space)

pub low_run-length : (s : List ℕ) → low_run s ≤ length s
low_run-length [] = omega (arith, low_run_nil)
low_run-length (b ∷ s) =
    ⊎_elim
    (λ (h : b < space). omega (arith, low_run-more b s h, low_run-length s))
    (λ (h : space ≤ b). omega (arith, low_run_stop b s h))
    (less_or_not b space)

-- each byte of a run of text is text, and the byte after it is none
pub text_run-inside : (s : List ℕ) (k : ℕ) → k < text_run s → space ≤ get_or s k 0
text_run-inside [] k h = absurd (omega (arith, text_run_nil))
text_run-inside (b ∷ s) zero h =
    ⊎_elim (λ (l : b < space). absurd (omega (arith, text_run_stop b s l))) (λ (t : space ≤ b). t) (less_or_not b space)
text_run-inside (b ∷ s) (suc k) h =
    ⊎_elim
    (λ (l : b < space). absurd (omega (arith, text_run_stop b s l)))
    (λ (t : space ≤ b). text_run-inside s k (omega (arith, text_run-more b s t)))
    (less_or_not b space)

pub text_run-after : (s : List ℕ) → text_run s < length s → get_or s (text_run s) 0 < space
text_run-after [] h = absurd (not-suc-le-zero h)
text_run-after (b ∷ s) h =
    ⊎_elim
    (λ (l : b < space). rw (text_run_stop b s l) l)
    (λ (t : space ≤ b). rw (text_run-more b s t) (text_run-after s (omega (arith, text_run-more b s t))))
    (less_or_not b space)

pub text_run-next : (s : List ℕ) (b : ℕ) (r : List ℕ) → drop (text_run s) s ≡ b ∷ r → b < space
text_run-next s b r e =
    let long : text_run s < length s = omega (arith, ap length e, length-drop (text_run s) s) in
    let first : get_or s (text_run s) 0 ≡ b
    = ap (λ (k : ℕ). get_or s k 0) (omega arith) ∙ sym (get_or-drop (text_run s) s 0 0) ∙ ap (λ (l : List ℕ). get_or l 0 0) e in
    omega (arith, text_run-after s long)

-- the run of a list's front is the list's own as far as it goes
pub text_run-take : (k : ℕ) (s : List ℕ) → text_run (take k s) ≡ min k (text_run s)
text_run-take zero s = omega (arith, text_run_nil)
text_run-take (suc k) [] = omega (arith, text_run_nil)
text_run-take (suc k) (b ∷ s) =
    ⊎_elim
    (λ (l : b < space). omega (arith, text_run_stop b s l, text_run_stop b (take k s) l))
    (λ (t : space ≤ b). omega (arith, text_run-more b s t, text_run-more b (take k s) t, text_run-take k s))
    (less_or_not b space)

-- past some of its bytes, what is left of a run
pub text_run_past : (k : ℕ) (s : List ℕ) → k ≤ text_run s → text_run s ≡ k + text_run (drop k s)
text_run_past zero s h = omega arith
text_run_past (suc k) [] h = absurd (omega (arith, text_run_nil))
text_run_past (suc k) (b ∷ s) h =
    ⊎_elim
    (λ (l : b < space). absurd (omega (arith, text_run_stop b s l)))
    (λ (t : space ≤ b). omega (arith, text_run-more b s t, text_run_past k s (omega (arith, text_run-more b s t))))
    (less_or_not b space)

-- a list all of whose first k bytes are text begins with a run of k
pub text_run_reaches : (k : ℕ) (s : List ℕ) → k ≤ length s → ((i : ℕ) → i < k → space ≤ get_or s i 0) → k ≤ text_run s
text_run_reaches zero s h t = omega arith
text_run_reaches (suc k) [] h t = absurd (omega arith)
text_run_reaches (suc k) (b ∷ s) h t =
    omega
    (arith, text_run-more b s (t 0 (omega arith)), text_run_reaches k s (omega arith) (λ i l. t (suc i) (omega arith)))
