-- A line that stands at a place of a message whose walk ends in no fault: where its text ends, where the next one begins, and whether
-- it is an addendum.
-- Assumes nothing.
use mathlib.Core.Bool.{Bool, true, ◌&&◌, and-false}
use mathlib.Core.Path.{◌≡◌, refl, sym, ap, ap₂, ◌∙◌}
use mathlib.Core.Logic.{⊎_elim}
use mathlib.Core.List.{List, [], ◌∷◌}
use Prim.Native.Nat.{ℕ, zero, suc, ◌+◌, ◌-◌, ◌≤◌, ◌<◌}
use native.Mathlib.Omega.{arith}
use lib.Dec.{eqb}
use lib.ListN.{length, get_or, take, drop, length-drop}
use lib.Seq.{drop-drop}
use borrow.Author.Tests.{eqb-true, ne_eqb}
use Rattle.laws.proofs.Tests.{Tested, passed, failed, tested}
use Rattle.laws.proofs.Cases.{less_or_not}
use Rattle.form.specs.declared.limits.Limits.{Limits}
use Rattle.line.specs.Lines.{line, CR, space, walk_from, fault_number}
use Rattle.line.specs.Joining.{letter_a, addendum}
use Rattle.line.specs.Finding.{text_run, low_run, found_at}
use Rattle.line.specs.inner.Ending.{handed_out}
use Rattle.line.specs.declared.finder.Found.{Found}
use Rattle.line.specs.declared.finder.Found.TheVariants.{Line}
use Rattle.line.proofs.Runs.{text_run_nil, text_run-more, text_run_stop}
use Rattle.line.proofs.Finding.{text_ended_cases, found_cases}
use Rattle.line.proofs.Handing.{walk_from-found}

-- a run of text from one of its bytes on
pub text_run-later : (k : ℕ) (s : List ℕ) → k ≤ text_run s → text_run (drop k s) ≡ text_run s - k
text_run-later zero s h = omega arith
text_run-later (suc k) [] h = absurd (omega (arith, text_run_nil))
text_run-later (suc k) (b ∷ s) h =
    ⊎_elim
    (λ (l : b < space). absurd (omega (arith, text_run_stop b s l)))
    (λ (t : space ≤ b). text_run-later k s (omega (arith, text_run-more b s t)) ∙ omega (arith, text_run-more b s t))
    (less_or_not b space)

-- it has the bytes that are text one after the other
pub text_run-least : (k : ℕ) (s : List ℕ) → k ≤ length s → ((i : ℕ) → i < k → space ≤ get_or s i 0) → k ≤ text_run s
text_run-least zero s h w = omega arith
text_run-least (suc k) [] h w = absurd (omega arith)
text_run-least (suc k) (b ∷ s) h w =
    omega (arith, text_run-more b s (w 0 (omega arith)), text_run-least k s (omega arith) (λ i less. w (suc i) (omega arith)))

-- the place of the next line, where the text of a line ends at e
abbrev pub next_place : List ℕ → ℕ → ℕ
next_place m e = e + 1 + low_run (drop (e + 1) m)

-- a line at a place
pub record LineHere (L : Limits) (m : List ℕ) (at : ℕ) : Type 0 where
  pub some : 1 ≤ text_run (drop at m)
  pub ends : at + text_run (drop at m) < length m
  pub goes :
      walk_from L at (drop at m)
      ≡ line (take (text_run (drop at m)) (drop at m))
      (walk_from L (next_place m (at + text_run (drop at m))) (drop (next_place m (at + text_run (drop at m))) m))

module _ (L : Limits) (m : List ℕ) (at : ℕ) (one : 1 ≤ L.line) (h : at < length m) where
  -- what is left of the message, and how much text it begins with
  abbrev s : List ℕ
  s = drop at m

  abbrev n : ℕ
  n = text_run s

  -- a fault would be the walk's
  Here : Found → Type 0
  Here f = found_at L m at ≡ f → fault_number (handed_out L m at f) ≡ 0 → LineHere L m at

  ends_in_CR : 1 ≤ n → (r : List ℕ) → drop n s ≡ CR ∷ r → found_at L m at ≡ Line (at + n) (suc (at + n) + low_run r) → LineHere L m at
  unfolding handed_out
  ends_in_CR some r e is =
      let place : at + (n + 1) ≡ at + n + 1 = omega arith in
      let rest : r ≡ drop (at + n + 1) m
      = sym (ap (drop 1) e) ∙ drop-drop 1 n s ∙ drop-drop (n + 1) at m ∙ ap (λ (k : ℕ). drop k m) place in
      let next : suc (at + n) + low_run r ≡ next_place m (at + n)
      = ap (λ (t : List ℕ). suc (at + n) + low_run t) rest ∙ omega arith in
      let length-of : at + n - at ≡ n = omega arith in
      record {
        some = some;
        ends = omega (arith, ap length e, length-drop n s, length-drop at m);
        goes =
            walk_from-found m at L one
            ∙ ap (handed_out L m at) is
            ∙ ap₂ line (ap (λ (k : ℕ). take k s) length-of) (ap (λ (k : ℕ). walk_from L k (drop k m)) next);
      }

  -- the message has a line at each place before its end
  pub line_here : fault_number (walk_from L at (drop at m)) ≡ 0 → LineHere L m at
  unfolding Here handed_out fault_number
  line_here sound =
      found_cases Here L.line at s
      (λ e is z. absurd (omega (arith, ap length e, length-drop at m)))
      (λ b r e low is z. absurd (omega arith))
      (λ some long is z. absurd (omega arith))
      (λ some fits.
      text_ended_cases Here (at + n) (drop n s)
      (λ e is z. absurd (omega arith))
      (λ b r e other is z. absurd (omega arith))
      (λ r e is z. ends_in_CR some r e is))
      refl (sym (ap fault_number (walk_from-found m at L one)) ∙ sound)

-- the text of a line tells an addendum as the message does from there on, since a separator is text
pub addendum-run : (f : ℕ) (s : List ℕ) → space ≤ f → addendum f (take (text_run s) s) ≡ addendum f s
unfolding addendum text_run
addendum-run f [] h = refl
addendum-run f (a ∷ []) h =
    ⊎_elim
    (λ (l : a < space). ap (λ (k : ℕ). addendum f (take k (a ∷ []))) (text_run_stop a [] l))
    (λ (t : space ≤ a). ap (λ (k : ℕ). addendum f (take k (a ∷ []))) (text_run-more a [] t))
    (less_or_not a space)
addendum-run f (a ∷ b ∷ s) h =
    ⊎_elim
    (λ (l : a < space).
    ap (λ (k : ℕ). addendum f (take k (a ∷ b ∷ s))) (text_run_stop a (b ∷ s) l)
    ∙ sym (ap (λ (x : Bool). x && eqb b f) (ne_eqb a letter_a (λ e. omega arith))))
    (λ (t : space ≤ a). ap (λ (k : ℕ). addendum f (take k (a ∷ b ∷ s))) (text_run-more a (b ∷ s) t) ∙ second)
    (less_or_not a space)
  where
    second : addendum f (take (suc (text_run (b ∷ s))) (a ∷ b ∷ s)) ≡ addendum f (a ∷ b ∷ s)
    second =
        ⊎_elim
        (λ (l : b < space).
        ap (λ (k : ℕ). addendum f (take (suc k) (a ∷ b ∷ s))) (text_run_stop b s l)
        ∙ sym (ap (λ (x : Bool). eqb a letter_a && x) (ne_eqb b f (λ e. omega arith)) ∙ and-false (eqb a letter_a)))
        (λ (t : space ≤ b). ap (λ (k : ℕ). addendum f (take (suc k) (a ∷ b ∷ s))) (text_run-more b s t))
        (less_or_not b space)

-- and the text of an addendum has both bytes
module _ (f : ℕ) (h : space ≤ f) where
  addendum_two : (a b : ℕ) (s : List ℕ) → Tested (eqb a letter_a) → Tested (eqb b f) → addendum f (a ∷ b ∷ s) ≡ true → 2 ≤ text_run (a ∷ b ∷ s)
  unfolding addendum
  addendum_two a b s (passed p) (passed q) e =
      let first = eqb-true a letter_a p in
      let second = eqb-true b f q in
      omega (arith, text_run-more a (b ∷ s) (omega arith), text_run-more b s (omega arith))
  addendum_two a b s (failed p) q e = let z : ◌≡◌ {A = ℕ} 0 1 = cc in absurd (omega arith)
  addendum_two a b s (passed p) (failed q) e = let z : ◌≡◌ {A = ℕ} 0 1 = cc in absurd (omega arith)

pub addendum-text : (f : ℕ) (s : List ℕ) → space ≤ f → addendum f s ≡ true → 2 ≤ text_run s
unfolding addendum
addendum-text f [] h e = let z : ◌≡◌ {A = ℕ} 0 1 = cc in absurd (omega arith)
addendum-text f (a ∷ []) h e = let z : ◌≡◌ {A = ℕ} 0 1 = cc in absurd (omega arith)
addendum-text f (a ∷ b ∷ s) h e = addendum_two f h a b s (tested (eqb a letter_a)) (tested (eqb b f)) e
