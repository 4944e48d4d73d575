-- Line and column (rule E4): the two counts, byte by byte, and what they mean.
-- Assumes nothing.
use mathlib.Core.List.{List, [], ◌∷◌}
use mathlib.Core.Path.{◌≡◌, refl, sym, ap, ap₂, ◌∙◌}
use Prim.Native.Nat.{ℕ, suc, ◌+◌, ◌≤◌, ◌<◌}
use native.Mathlib.Omega.{arith}
use lib.Dec.{eqb}
use lib.ListN.{length, get_or, drop, drop_of_length-le}
use lib.Seq.{take_all}
use borrow.Author.Tests.{ne_eqb}
use Rattle.laws.specs.Lists.{count}
use Rattle.laws.proofs.Lists.{count_pass, count_fail}
use Rattle.laws.proofs.Parts.{left_cons}
use Rattle.line.specs.Lines.{CR}
use Rattle.source.specs.Positions.{line_ends, bytes_since, position_behind, position_of}
use Rattle.source.specs.declared.position.Position.{Position}

-- the two counts at a CR, and at another byte
pub ends-CR : (s : List ℕ) → line_ends (CR ∷ s) ≡ suc (line_ends s)
unfolding line_ends
ends-CR s = count_pass (eqb CR) CR s refl

pub ends-other : (b : ℕ) (s : List ℕ) → (b ≡ CR → ⊥) → line_ends (b ∷ s) ≡ line_ends s
unfolding line_ends
ends-other b s h = count_fail (eqb CR) b s (ne_eqb CR b (λ e. h (sym e)))

pub since_CR : (n : ℕ) (s : List ℕ) → bytes_since n (CR ∷ s) ≡ bytes_since 0 s
unfolding bytes_since
since_CR n s = refl

pub since_other : (n b : ℕ) (s : List ℕ) → (b ≡ CR → ⊥) → bytes_since n (b ∷ s) ≡ bytes_since (suc n) s
unfolding bytes_since
since_other n b s h = rw (ne_eqb CR b (λ e. h (sym e)), bytes_since)

-- the counts once the first bytes have passed
pub record Passed (s : List ℕ) (at ends since : ℕ) : Type 0 where
  pub lines : ends + line_ends (drop at s) ≡ line_ends s
  pub bytes : bytes_since since (drop at s) ≡ bytes_since 0 s
  pub few-ends : ends ≤ at
  pub few_since : since ≤ at
  pub within : at ≤ length s

pub passed_none : (s : List ℕ) → Passed s 0 0 0
passed_none s = record { lines = omega arith; bytes = refl; few-ends = omega arith; few_since = omega arith; within = omega arith }

module _ (s : List ℕ) (at ends since : ℕ) (p : Passed s at ends since) where
  pub passed-CR : at < length s → get_or s at 0 ≡ CR → Passed s (at + 1) (ends + 1) 0
  passed-CR h e =
      let cons : drop at s ≡ CR ∷ drop (at + 1) s = left_cons s at 0 h ∙ ap (λ (b : ℕ). b ∷ drop (at + 1) s) e in
      record {
        lines = omega (arith, p.lines, ap line_ends cons, ends-CR (drop (at + 1) s));
        bytes = sym (since_CR since (drop (at + 1) s)) ∙ sym (ap (bytes_since since) cons) ∙ p.bytes;
        few-ends = omega (arith, p.few-ends);
        few_since = omega arith;
        within = omega arith;
      }

  pub passed-other : at < length s → (get_or s at 0 ≡ CR → ⊥) → Passed s (at + 1) ends (since + 1)
  passed-other h o =
      let cons : drop at s ≡ get_or s at 0 ∷ drop (at + 1) s = left_cons s at 0 h in
      let one_more : since + 1 ≡ suc since = omega arith in
      record {
        lines = omega (arith, p.lines, ap line_ends cons, ends-other (get_or s at 0) (drop (at + 1) s) o);
        bytes =
            ap (λ (n : ℕ). bytes_since n (drop (at + 1) s)) one_more
            ∙ sym (since_other since (get_or s at 0) (drop (at + 1) s) o)
            ∙ sym (ap (bytes_since since) cons)
            ∙ p.bytes;
        few-ends = omega (arith, p.few-ends);
        few_since = omega (arith, p.few_since);
        within = omega arith;
      }

  pub passed-all : length s ≤ at → record { line = ends + 1; column = since + 1 } ≡ position_behind s
  unfolding position_behind line_ends count bytes_since
  passed-all h =
      let none : drop at s ≡ [] = drop_of_length-le s {i = at} h in
      let line : ends + 1 ≡ suc (line_ends s) = omega (arith, p.lines, ap line_ends none) in
      let column : since + 1 ≡ suc (bytes_since 0 s) = let q : since ≡ bytes_since 0 s = sym (ap (bytes_since since) none) ∙ p.bytes in omega (arith, q) in
      ap₂ {C = Position} (λ (l c : ℕ). record { line = l; column = c }) line column

-- an offset past the end is the end
pub at_the_end : (s : List ℕ) (offset : ℕ) → length s ≤ offset → position_behind s ≡ position_of s offset
unfolding position_of
at_the_end s offset h = ap position_behind (sym (take_all offset s h))
