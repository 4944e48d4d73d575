-- Going over the fields before a code: text changes nothing, and what is left of the line gives what the whole line gives.
-- Assumes nothing.
use mathlib.Core.Bool.{true, false}
use mathlib.Core.List.{List, [], ◌∷◌}
use mathlib.Core.Logic.{⊎_elim}
use mathlib.Core.Path.{◌≡◌, refl, sym, ap, ◌∙◌, subst, subst⁻¹}
use Prim.Native.Nat.{ℕ, ◌+◌, ◌-◌, ◌≤◌, ◌<◌}
use native.Mathlib.Omega.{arith}
use lib.Dec.{eqb}
use lib.ListN.{length, get_or, take, drop}
use Rattle.laws.proofs.Cases.{less_or_not, equal_or_not}
use Rattle.laws.proofs.Tests.{either}
use borrow.Author.Tests.{ne_eqb}
use Rattle.read.specs.declared.codes.Reached.{Reached}
use Rattle.read.specs.declared.codes.Taken.{Taken}
use Rattle.read.specs.inner.Scanning.{run, plain_run}
use Rattle.read.specs.inner.Segments.{line_text}
use Rattle.read.specs.inner.Coding.{Gathered, gather_bytes, HeldCode, Skips, FieldsSkipped, TakesLine, LineHeld, LineTaken, made_whole, left_open}
use Rattle.read.proofs.Coding.{gather_append, byte_passed}
use Rattle.read.proofs.PlainLaws.{plain-text, plain-none, plain_turn, plain_stop, run_turn, line_turn, run-split, line-split}

-- the loop over text: what is left of it, from here on, ends where all of it ends
pub record PlainTo (class m : List ℕ) (from at : ℕ) : Type 0 where
  pub ends : at + plain_run class (drop at m) ≡ from + plain_run class (drop from m)
  pub inside : at + plain_run class (drop at m) < length m

module _ {class m : List ℕ} {from at : ℕ} (w : PlainTo class m from at) where
  pub plain_on : get_or class (get_or m at 0) 0 ≡ 0 → PlainTo class m from (at + 1)
  plain_on h =
      let one = plain_turn class m at (let i = w.inside in omega arith) h in
      record { ends = omega (arith, w.ends, one); inside = omega (arith, w.inside, one) }

  pub plain_done : (get_or class (get_or m at 0) 0 ≡ 0 → ⊥) → at ≡ from + plain_run class (drop from m)
  plain_done h = omega (arith, w.ends, plain_stop class m at (let i = w.inside in omega arith) h)

-- text in a field before the code changes nothing
gather_plain : (class : List ℕ) (left : ℕ) (code : List ℕ) → 1 ≤ left → (left ≡ 1 → ⊥) → (s : List ℕ)
    → gather_bytes class (record { left = left; code = code }) (take (plain_run class s) s) ≡ record { left = left; code = code }
unfolding gather_bytes plain_run
gather_plain class left code h e [] = refl
gather_plain class left code h e (b ∷ s) =
    ⊎_elim
    (λ (z : get_or class b 0 ≡ 0).
    ap (λ (n : ℕ). gather_bytes class (record { left = left; code = code }) (take n (b ∷ s))) (plain-text class b s z)
    ∙ ap (λ (g : Gathered). gather_bytes class g (take (plain_run class s) s))
    (byte_passed (get_or class b 0) b code left h e
    ∙ ap {B = Gathered} (λ (n : ℕ). record { left = n; code = code }) (no_field z))
    ∙ gather_plain class left code h e s)
    (λ (z : get_or class b 0 ≡ 0 → ⊥). ap (λ (n : ℕ). gather_bytes class (record { left = left; code = code }) (take n (b ∷ s))) (plain-none class b s z))
    (equal_or_not (get_or class b 0) 0)
  where
    no_field : get_or class b 0 ≡ 0 → elim (eqb (get_or class b 0) 1) [ true ↦ left - 1 | false ↦ left ] ≡ left
    no_field z = rw (ne_eqb (get_or class b 0) 1 (λ y. omega (arith, z, y))) refl

-- the loop over fields
pub record Skipping (class m : List ℕ) (taken : Taken) (at left : ℕ) : Type 0 where
  pub inside : taken.at + run class (drop taken.at m) < length m
  pub skipped : FieldsSkipped class m taken (record { left = left; length = taken.length; at = at })

pub skipping_begins : {class m : List ℕ} {taken : Taken} → Skips class m taken.at taken.left → Skipping class m taken taken.at taken.left
skipping_begins h =
    record { inside = h.inside; skipped = record { later = omega arith; ends = refl; begun = h.begun; same = refl; rest = λ code. refl } }

module _ {class m : List ℕ} {taken : Taken} {at left : ℕ} (w : Skipping class m taken at left) (other : left ≡ 1 → ⊥) where
  -- the text from here on ends within the line
  text-within : plain_run class (drop at m) ≤ run class (drop at m)
  text-within = omega (arith, run-split class m at (at + plain_run class (drop at m)) refl)

  pub text-inside : at + plain_run class (drop at m) < length m
  text-inside = omega (arith, text-within, w.inside, w.skipped.ends)

  abbrev stop : ℕ
  stop = at + plain_run class (drop at m)

  -- at its end
  pub skipping_text : Skipping class m taken stop left
  skipping_text =
      record {
        inside = w.inside;
        skipped =
            record {
              later = omega (arith, w.skipped.later);
              ends = omega (arith, w.skipped.ends, run-split class m at stop refl);
              begun = w.skipped.begun;
              same = refl;
              rest = λ code.
                  ap (λ (g : Gathered). gather_bytes class g (line_text class m stop)) (sym (gather_plain class left code w.skipped.begun other (drop at m)))
                  ∙ sym (gather_append class (record { left = left; code = code }) (take (plain_run class (drop at m)) (drop at m)) (line_text class m stop))
                  ∙ ap (gather_bytes class (record { left = left; code = code })) (sym (line-split class m at stop refl))
                  ∙ w.skipped.rest code;
            };
      }

-- behind a byte that ends no line
module _ {class m : List ℕ} {taken : Taken} {at left : ℕ} (w : Skipping class m taken at left) (other : left ≡ 1 → ⊥) (on : get_or class (get_or m at 0) 0 ≡ 5 → ⊥) where
  abbrev sort : ℕ
  sort = get_or class (get_or m at 0) 0

  within : at < length m
  within = let i = w.inside in omega (arith, w.skipped.ends)

  pub skipping_next : {next : ℕ} → next ≡ elim (eqb sort 1) [ true ↦ left - 1 | false ↦ left ] → Skipping class m taken (at + 1) next
  unfolding gather_bytes
  skipping_next {next} e =
      let one = run_turn class m at within on in
      record {
        inside = w.inside;
        skipped =
            record {
              later = omega (arith, w.skipped.later);
              ends = omega (arith, w.skipped.ends, one);
              begun = subst⁻¹ (λ (n : ℕ). 1 ≤ n) e still;
              same = refl;
              rest = λ code.
                  ap (λ (g : Gathered). gather_bytes class g (line_text class m (at + 1)))
                  (ap {B = Gathered} (λ (n : ℕ). record { left = n; code = code }) e ∙ sym (byte_passed sort (get_or m at 0) code left w.skipped.begun other))
                  ∙ ap (gather_bytes class (record { left = left; code = code })) (sym (line_turn class m at within on))
                  ∙ w.skipped.rest code;
            };
      }
    where
      still : 1 ≤ elim (eqb sort 1) [ true ↦ left - 1 | false ↦ left ]
      still =
          let two : 2 ≤ left = ⊎_elim (λ (l : left < 2). absurd (other (omega (arith, w.skipped.begun)))) (λ (l : 2 ≤ left). l) (less_or_not left 2) in
          ⊎_elim (λ (h : eqb sort 1 ≡ true). rw h (omega arith)) (λ (h : eqb sort 1 ≡ false). rw h w.skipped.begun) (either (eqb sort 1))

-- a line, by what it has from a later byte on
module _ {class m : List ℕ} {taken : Taken} {code : List ℕ} (h : TakesLine class m taken code) {later : Taken}
    (s : FieldsSkipped class m taken later) where
  pub skipped_takes : TakesLine class m later code
  skipped_takes = record { room = h.room; inside = omega (arith, h.inside, s.ends); begun = s.begun; short = omega (arith, h.short, s.later, s.same) }

  skipped_held : {left size : ℕ} {code' : List ℕ} → LineHeld class m later code left size code' → LineHeld class m taken code left size code'
  skipped_held {left} {size} {code'} t = λ g held.
      let g-is : g ≡ record { left = taken.left; code = g.code } = ap {B = Gathered} (λ (n : ℕ). record { left = n; code = g.code }) (sym held.left_is) in
      subst (λ (k : Gathered). HeldCode k left size code')
      (s.rest g.code ∙ ap (λ (k : Gathered). gather_bytes class k (line_text class m taken.at)) (sym g-is))
      (t (record { left = later.left; code = g.code }) (record { left_is = refl; size_is = s.same ∙ held.size_is; bytes = held.bytes }))

  pub skipped_taken : {r : Reached} {code' : List ℕ} → LineTaken class m later code r code' → LineTaken class m taken code r code'
  skipped_taken (made_whole size is held) = made_whole size is (skipped_held held)
  skipped_taken (left_open t is held ends begun short) = left_open t is (skipped_held held) (ends ∙ s.ends) begun short
