-- What is left of the lines, one line on: an addendum carries the last segment on, any other line begins the next; and at the end.
-- Assumes nothing.
use mathlib.Core.Bool.{true, false}
use mathlib.Core.List.{List, [], ◌∷◌, ◌++◌, append_assoc, append-nil}
use mathlib.Core.Path.{◌≡◌, sym, ap, ap₂, ◌∙◌}
use Prim.Native.Nat.{ℕ, ◌+◌, ◌≤◌}
use native.Mathlib.Omega.{arith}
use lib.ListN.{length, drop, length-append, drop_of_length-le}
use Rattle.form.specs.declared.limits.Limits.{Limits}
use Rattle.line.specs.Lines.{Lines, end, line, walk_from, walk, texts, fault_number, fault_place}
use Rattle.line.specs.Joining.{addendum, carried, joined}
use Rattle.line.specs.inner.Left.{SameFault, Left, LeftAt}
use Rattle.line.proofs.Steps.{walk_from_nil}
use Rattle.line.proofs.Joining.{carried-addendum, carried-segment, joined-addendum, joined-segment}

fault_on : {whole : Lines} {l : List ℕ} {ls : Lines} → SameFault whole (line l ls) → SameFault whole ls
unfolding fault_number fault_place
fault_on w = record { number = w.number; place = w.place }

module _ {f : ℕ} {whole : Lines} {done : List (List ℕ)} {last l : List ℕ} {ls : Lines} where
  -- an addendum carries the last segment on
  pub left-addendum : addendum f l ≡ true → Left f whole done last (line l ls) → Left f whole done (last ++ drop 2 l) ls
  unfolding texts
  left-addendum a w =
      record {
        joins =
            w.joins
            ∙ ap₂ (λ (x : List ℕ) (y : List (List ℕ)). done ++ (last ++ x) ∷ y) (carried-addendum f l (texts ls) a) (joined-addendum f l (texts ls) a)
            ∙ ap (λ (x : List ℕ). done ++ x ∷ joined f (texts ls)) (sym (append_assoc last (drop 2 l) (carried f (texts ls))));
        fault = fault_on w.fault;
      }

  -- any other line begins the next
  pub left-segment : addendum f l ≡ false → Left f whole done last (line l ls) → Left f whole (done ++ last ∷ []) l ls
  unfolding texts
  left-segment a w =
      record {
        joins =
            w.joins
            ∙ ap₂ (λ (x : List ℕ) (y : List (List ℕ)). done ++ (last ++ x) ∷ y) (carried-segment f l (texts ls) a) (joined-segment f l (texts ls) a)
            ∙ ap (λ (x : List ℕ). done ++ x ∷ (l ++ carried f (texts ls)) ∷ joined f (texts ls)) (append-nil last)
            ∙ sym (append_assoc done (last ∷ []) ((l ++ carried f (texts ls)) ∷ joined f (texts ls)));
        fault = fault_on w.fault;
      }

-- the first line begins the first segment
pub left-first : (f : ℕ) (whole : Lines) (l : List ℕ) (ls : Lines) → whole ≡ line l ls → addendum f l ≡ false → Left f whole [] l ls
unfolding texts fault_number fault_place
left-first f whole l ls e a =
    record {
      joins = ap (λ (w : Lines). joined f (texts w)) e ∙ joined-segment f l (texts ls) a;
      fault = record { number = ap fault_number e; place = ap fault_place e };
    }

-- at the message's end nothing is left: the lines had no fault, and the segments are all
module _ (L : Limits) {f : ℕ} (m : List ℕ) {done : List (List ℕ)} {last : List ℕ} (at : ℕ) (left : LeftAt L f m done last at) where
  module _ (past : length m ≤ at) where
    over : walk_from L at (drop at m) ≡ end
    over = ap (walk_from L at) (drop_of_length-le m past) ∙ walk_from_nil L at

    pub none_faulty : fault_number (walk L m) ≡ 0
    unfolding fault_number
    none_faulty = left.fault.number ∙ ap fault_number over

    pub none_left : joined f (texts (walk L m)) ≡ done ++ last ∷ []
    unfolding texts carried joined
    none_left =
        left.joins
        ∙ ap (λ (ls : Lines). done ++ (last ++ carried f (texts ls)) ∷ joined f (texts ls)) over
        ∙ ap (λ (t : List ℕ). done ++ t ∷ []) (append-nil last)

  -- how many segments there are at least
  pub segments-left : length done + 1 ≤ length (joined f (texts (walk L m)))
  segments-left =
      let ls : List (List ℕ) = texts (walk_from L at (drop at m)) in
      omega (arith, ap length left.joins, length-append done ((last ++ carried f ls) ∷ joined f ls))
