-- A message as it grows: text is joined to its last segment, or one more segment begins. What is glued, filed and counted grows with it.
-- Assumes nothing.
use mathlib.Core.List.{List, [], ◌∷◌, ◌++◌, append_assoc, append-nil}
use mathlib.Core.Path.{◌≡◌, refl, sym, ap, ◌∙◌, subst}
use Prim.Native.Nat.{ℕ, ◌+◌, ◌≤◌}
use native.Mathlib.Omega.{arith}
use lib.ListN.{length, take, drop, get_or, length-append, length-take}
use lib.Seq.{take-append-le, drop-append-le}
use Rattle.laws.specs.Lists.{among, count}
use Rattle.laws.specs.Every.{All, none, also}
use Rattle.laws.proofs.Lists.{count-append}
use Rattle.laws.proofs.Every.{all_append, all_first, all_rest}
use Rattle.form.specs.declared.separators.Separators.{Separators}
use Rattle.form.specs.Header.{splitting}
use Rattle.line.specs.Lines.{CR}
use Rattle.table.specs.Rows.{all_leaves}
use Rattle.table.specs.inner.Flat.{Without, glued_to, glued, step, steps, ended}
use Rattle.table.specs.inner.Filed.{header_bytes, Filed}
use Rattle.table.specs.inner.OnePass.{header_pass, pass_over}
use Rattle.table.proofs.Counting.{length-all_leaves}
use Rattle.table.proofs.Passes.{left, left-steps, left-none, steps-append, steps-one}
use Rattle.table.proofs.Back.{filed-some}
use Rattle.table.proofs.SoundTables.{filed-leaves}

-- gluing

pub glued_to-begins : (b t : List ℕ) (others : List (List ℕ)) → glued_to (b ++ t) others ≡ b ++ glued_to t others
unfolding glued_to
glued_to-begins b t [] = refl
glued_to-begins b t (s ∷ ss) = append_assoc b t (CR ∷ glued_to s ss)

glued_to_grows : (s : List ℕ) (closed : List (List ℕ)) (b t : List ℕ) (others : List (List ℕ))
    → glued_to s (closed ++ ((b ++ t) ∷ others)) ≡ glued_to s (closed ++ (b ∷ [])) ++ glued_to t others
unfolding glued_to
glued_to_grows s [] b t others =
    ap (λ (r : List ℕ). s ++ CR ∷ r) (glued_to-begins b t others) ∙ sym (append_assoc s (CR ∷ b) (glued_to t others))
glued_to_grows s (c ∷ closed) b t others =
    ap (λ (r : List ℕ). s ++ CR ∷ r) (glued_to_grows c closed b t others)
    ∙ sym (append_assoc s (CR ∷ glued_to c (closed ++ (b ∷ []))) (glued_to t others))

-- what is joined to the last segment, and the segments after it, come behind
pub glued_grows : (closed : List (List ℕ)) (b t : List ℕ) (others : List (List ℕ))
    → glued (closed ++ ((b ++ t) ∷ others)) ≡ glued (closed ++ (b ∷ [])) ++ glued_to t others
unfolding glued glued_to
glued_grows [] b t others = glued_to-begins b t others
glued_grows (c ∷ closed) b t others = glued_to_grows c closed b t others

glued_to-long : (s : List ℕ) (ss : List (List ℕ)) → length s ≤ length (glued_to s ss)
unfolding glued_to
glued_to-long s [] = omega arith
glued_to-long s (t ∷ ts) = omega (arith, length-append s (CR ∷ glued_to t ts))

-- filing

header-long : (ps : Separators) (h : List ℕ) → take 7 h ≡ header_bytes ps → 7 ≤ length h
unfolding header_bytes
header-long ps h e = omega (arith, length-take 7 h, ap length e)

pub filed-long : (ps : Separators) (segments : List (List ℕ)) → Filed ps segments → 7 ≤ length (glued segments)
unfolding glued
filed-long ps [] f = absurd (filed-some ps f)
filed-long ps (h ∷ ss) f = omega (arith, header-long ps h f.header, glued_to-long h ss)

module _ (ps : Separators) where
  header_grows : (closed : List (List ℕ)) (b t : List ℕ) (others : List (List ℕ)) → take 7 (get_or (closed ++ (b ∷ [])) 0 []) ≡ header_bytes ps
      → take 7 (get_or (closed ++ ((b ++ t) ∷ others)) 0 []) ≡ header_bytes ps
  header_grows [] b t others e = take-append-le 7 b t (header-long ps b e) ∙ e
  header_grows (c ∷ closed) b t others e = e

  clear_grows : (closed : List (List ℕ)) (b t : List ℕ) (others : List (List ℕ)) → All (Without CR) (closed ++ (b ∷ [])) → Without CR t
      → All (Without CR) others → All (Without CR) (closed ++ ((b ++ t) ∷ others))
  clear_grows [] b t others w v us = also (all_append (all_first w) v) us
  clear_grows (c ∷ closed) b t others w v us = also (all_first w) (clear_grows closed b t others (all_rest w) v us)

  pub filed_grows : (closed : List (List ℕ)) (b t : List ℕ) (others : List (List ℕ)) → Filed ps (closed ++ (b ∷ [])) → Without CR t
      → All (Without CR) others → Filed ps (closed ++ ((b ++ t) ∷ others))
  filed_grows closed b t others f v us =
      record { header = header_grows closed b t others f.header; lines = clear_grows closed b t others f.lines v us }

  -- joined to, or followed by a segment that begins
  pub filed-joined : (closed : List (List ℕ)) (b t : List ℕ) → Filed ps (closed ++ (b ∷ [])) → Without CR t → Filed ps (closed ++ ((b ++ t) ∷ []))
  filed-joined closed b t f v = filed_grows closed b t [] f v none

  pub filed-next : (closed : List (List ℕ)) (b : List ℕ) → Filed ps (closed ++ (b ∷ [])) → Filed ps ((closed ++ (b ∷ [])) ++ ([] ∷ []))
  filed-next closed b f =
      subst (Filed ps) (sym (append_assoc closed (b ∷ []) ([] ∷ []) ∙ ap (λ (s : List ℕ). closed ++ (s ∷ [] ∷ [])) (sym (append-nil b))))
      (filed_grows closed b [] ([] ∷ []) f none (also none none))

  -- one pass

  pub pass_joined : (closed : List (List ℕ)) (b t : List ℕ) → Filed ps (closed ++ (b ∷ []))
      → pass_over ps (closed ++ ((b ++ t) ∷ [])) ≡ steps (CR ∷ splitting ps) (pass_over ps (closed ++ (b ∷ []))) t
  unfolding pass_over glued_to
  pass_joined closed b t f =
      ap (steps (CR ∷ splitting ps) (header_pass ps))
      (ap (drop 7) (glued_grows closed b t []) ∙ drop-append-le 7 (glued (closed ++ (b ∷ []))) t (filed-long ps (closed ++ (b ∷ [])) f))
      ∙ steps-append (CR ∷ splitting ps) (header_pass ps) (drop 7 (glued (closed ++ (b ∷ [])))) t

  pub pass_next : (closed : List (List ℕ)) (b : List ℕ) → Filed ps (closed ++ (b ∷ []))
      → pass_over ps ((closed ++ (b ∷ [])) ++ ([] ∷ [])) ≡ step (CR ∷ splitting ps) (pass_over ps (closed ++ (b ∷ []))) CR
  unfolding pass_over glued_to
  pass_next closed b f =
      ap (pass_over ps) (append_assoc closed (b ∷ []) ([] ∷ []) ∙ ap (λ (s : List ℕ). closed ++ (s ∷ [] ∷ [])) (sym (append-nil b)))
      ∙ ap (steps (CR ∷ splitting ps) (header_pass ps))
      (ap (drop 7) (glued_grows closed b [] ([] ∷ []))
      ∙ drop-append-le 7 (glued (closed ++ (b ∷ []))) (CR ∷ []) (filed-long ps (closed ++ (b ∷ [])) f))
      ∙ steps-one (CR ∷ splitting ps) (header_pass ps) (drop 7 (glued (closed ++ (b ∷ [])))) CR

  -- at its end the pass has all leaves
  pub pass_ended : (segments : List (List ℕ)) → Filed ps segments → ended (pass_over ps segments) ≡ all_leaves ps segments
  unfolding pass_over header_pass left
  pass_ended [] f = absurd (filed-some ps f)
  pass_ended (h ∷ ss) f =
      sym (left-none (CR ∷ splitting ps) (pass_over ps (h ∷ ss)))
      ∙ left-steps (CR ∷ splitting ps) (header_pass ps) (drop 7 (glued (h ∷ ss))) []
      ∙ ap (left (CR ∷ splitting ps) (header_pass ps)) (append-nil (drop 7 (glued (h ∷ ss))))
      ∙ sym (filed-leaves ps h ss f)

  -- counting

  pub count-leaves : (segments : List (List ℕ)) → Filed ps segments
      → length (all_leaves ps segments) ≡ 3 + count (among (CR ∷ splitting ps)) (drop 7 (glued segments))
  count-leaves [] f = absurd (filed-some ps f)
  count-leaves (h ∷ ss) f = length-all_leaves ps h ss (header-long ps h f.header) f.lines

  count-begun : (t : List ℕ) (others : List (List ℕ)) → count (among (CR ∷ splitting ps)) t ≤ count (among (CR ∷ splitting ps)) (glued_to t others)
  unfolding glued_to
  count-begun t [] = omega arith
  count-begun t (s ∷ ss) = omega (arith, count-append (among (CR ∷ splitting ps)) t (CR ∷ glued_to s ss))

  -- what is joined on has a leaf for each separator at least
  pub leaves_grow : (closed : List (List ℕ)) (b t : List ℕ) (others : List (List ℕ)) → Filed ps (closed ++ (b ∷ []))
      → Filed ps (closed ++ ((b ++ t) ∷ others))
      → length (all_leaves ps (closed ++ (b ∷ []))) + count (among (CR ∷ splitting ps)) t
      ≤ length (all_leaves ps (closed ++ ((b ++ t) ∷ others)))
  leaves_grow closed b t others f g =
      let whole : drop 7 (glued (closed ++ ((b ++ t) ∷ others))) ≡ drop 7 (glued (closed ++ (b ∷ []))) ++ glued_to t others
      = ap (drop 7) (glued_grows closed b t others)
      ∙ drop-append-le 7 (glued (closed ++ (b ∷ []))) (glued_to t others) (filed-long ps (closed ++ (b ∷ [])) f) in
      omega (
        arith,
        count-leaves (closed ++ (b ∷ [])) f,
        count-leaves (closed ++ ((b ++ t) ∷ others)) g,
        ap (count (among (CR ∷ splitting ps))) whole,
        count-append (among (CR ∷ splitting ps)) (drop 7 (glued (closed ++ (b ∷ [])))) (glued_to t others),
        count-begun t others,
      )
