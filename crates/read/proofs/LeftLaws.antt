-- The lines left: at each place before the message's end stands one more, which is joined to the segment begun or begins the next;
-- and how many leaves they have at most.
-- Assumes nothing.
use mathlib.Core.Bool.{Bool, true, false, ◌&&◌}
use mathlib.Core.List.{List, [], ◌∷◌, ◌++◌, append_assoc, append-nil}
use mathlib.Core.Logic.{⊎_elim}
use mathlib.Core.Path.{◌≡◌, refl, sym, ap, ap₂, ◌∙◌, subst, subst⁻¹}
use Prim.Native.Nat.{ℕ, ◌+◌, ◌-◌, ◌≤◌, ◌<◌}
use native.Mathlib.Omega.{arith}
use lib.Dec.{eqb}
use lib.ListN.{length, get_or, take, drop}
use lib.Seq.{take-add, drop_at, drop-drop, length-take-le}
use borrow.Author.Tests.{ne_eqb}
use Rattle.laws.specs.Lists.{among, count}
use Rattle.laws.specs.Every.{All, none, also}
use Rattle.laws.proofs.Tests.{Tested, passed, failed, tested}
use Rattle.laws.proofs.Cases.{less_or_not}
use Rattle.laws.proofs.Lists.{count-append, count-more}
use Rattle.laws.proofs.Every.{all_append, all_drop}
use Rattle.form.specs.declared.limits.Limits.{Limits}
use Rattle.form.specs.declared.separators.Separators.{Separators}
use Rattle.form.specs.Header.{splitting}
use Rattle.laws.proofs.Bytes.{Bytes}
use Rattle.line.specs.Lines.{line, CR, space, walk_from, walk, texts, fault_number}
use Rattle.line.specs.Joining.{letter_a, addendum, carried, joined}
use Rattle.line.specs.Finding.{text_run}
use Rattle.line.specs.inner.Left.{Left, LeftAt}
use Rattle.line.specs.inner.Sound.{SoundLine}
use Rattle.line.proofs.Runs.{text_run_nil, text_run-more, text_run_stop, text_run-length}
use Rattle.line.proofs.Joining.{carried-addendum, carried-segment, joined-addendum, joined-segment}
use Rattle.line.proofs.Walking.{texts-sound}
use Rattle.line.proofs.Left.{left-addendum, left-segment, left-first}
use Rattle.line.proofs.Standing.{text_run-later, next_place, LineHere, line_here, addendum-run, addendum-text}
use Rattle.table.specs.Rows.{all_leaves}
use Rattle.table.specs.inner.Flat.{Without}
use Rattle.table.specs.inner.Filed.{Filed}
use Rattle.table.proofs.Filing.{text-clear}
use Rattle.table.proofs.Growing.{filed_grows, leaves_grow}
use Rattle.table.specs.inner.Classes.{class_table}
use Rattle.read.specs.inner.Scanning.{run, marks}
use Rattle.read.specs.Sound.{segments_in}
use Rattle.read.specs.inner.Segments.{line_text, line_after}
use Rattle.read.proofs.Scanning.{run-text, marks_separators}

-- the text that a list begins with has no CR
run-clear : (s : List ℕ) → Without CR (take (text_run s) s)
run-clear [] = rw text_run_nil none
run-clear (b ∷ s) =
    ⊎_elim
    (λ (l : b < space). rw (text_run_stop b s l) none)
    (λ (t : space ≤ b). rw (text_run-more b s t) (also (ne_eqb b CR (λ e. omega arith)) (run-clear s)))
    (less_or_not b space)

module _ (L : Limits) (f : ℕ) where
  carried-clear : (ls : List (List ℕ)) → All (SoundLine L) ls → Without CR (carried f ls)
  unfolding carried
  carried-clear [] h = none
  carried-clear (l ∷ ls) (also h hs) = go (tested (addendum f l)) (carried-clear ls hs)
    where
      go : Tested (addendum f l) → Without CR (carried f ls) → Without CR (carried f (l ∷ ls))
      go (passed e) ih = rw (carried-addendum f l ls e) (all_append (all_drop 2 (text-clear l h.text)) ih)
      go (failed e) ih = rw (carried-segment f l ls e) none

  joined-clear : (ls : List (List ℕ)) → All (SoundLine L) ls → All (Without CR) (joined f ls)
  unfolding joined
  joined-clear [] h = none
  joined-clear (l ∷ ls) (also h hs) = go (tested (addendum f l)) (joined-clear ls hs)
    where
      go : Tested (addendum f l) → All (Without CR) (joined f ls) → All (Without CR) (joined f (l ∷ ls))
      go (passed e) ih = rw (joined-addendum f l ls e) ih
      go (failed e) ih = rw (joined-segment f l ls e) (also (all_append (text-clear l h.text) (carried-clear ls hs)) ih)

-- a byte that is no `A` begins no addendum
pub no_addendum : (f : ℕ) (s : List ℕ) → (get_or s 0 0 ≡ letter_a → ⊥) → addendum f s ≡ false
unfolding addendum
no_addendum f [] h = refl
no_addendum f (a ∷ []) h = refl
no_addendum f (a ∷ b ∷ s) h = ap (λ (x : Bool). x && eqb b f) (ne_eqb a letter_a h)

-- what the laws of lines ask of a message: a line has room for a byte, the field separator is text, the classes are those of the
-- separators, each element is a byte, and no line has a fault
pub record Readable (L : Limits) (ps : Separators) (class m : List ℕ) : Type 0 where
  pub one : 1 ≤ L.line
  pub high : space ≤ ps.field
  pub classes : class ≡ class_table ps
  pub bytes : Bytes m
  pub sound : fault_number (walk L m) ≡ 0

module _ {L : Limits} {ps : Separators} {class m : List ℕ} (s : Readable L ps class m) where
  -- a run by classes is the text
  run_is : (from : ℕ) → run class (drop from m) ≡ text_run (drop from m)
  run_is from = ap (λ (c : List ℕ). run c (drop from m)) s.classes ∙ run-text ps (drop from m) (all_drop from s.bytes)

  pub line_clear : (from : ℕ) → Without CR (line_text class m from)
  line_clear from = subst⁻¹ (λ (j : ℕ). Without CR (take j (drop from m))) (run_is from) (run-clear (drop from m))

  -- the line at a place: its text from the k-th byte on
  module _ (at : ℕ) (k : ℕ) (inside : k ≤ text_run (drop at m)) where
    run-left : run class (drop (at + k) m) ≡ text_run (drop at m) - k
    run-left = run_is (at + k) ∙ ap text_run (sym (drop-drop k at m)) ∙ text_run-later k (drop at m) inside

    -- it ends where the line ends
    pub line-ends : at + k + run class (drop (at + k) m) ≡ at + text_run (drop at m)
    line-ends = omega (arith, run-left)

    pub line-next : line_after class m (at + k) ≡ next_place m (at + text_run (drop at m))
    line-next = ap (next_place m) line-ends

    -- the line is its first k bytes and that text
    pub line_parts : take (text_run (drop at m)) (drop at m) ≡ take k (drop at m) ++ line_text class m (at + k)
    line_parts =
        let all : text_run (drop at m) ≡ k + (text_run (drop at m) - k) = omega arith in
        ap (λ (j : ℕ). take j (drop at m)) all
        ∙ take-add k (text_run (drop at m) - k) (drop at m)
        ∙ ap₂ (λ (j : ℕ) (t : List ℕ). take k (drop at m) ++ take j t) (sym run-left) (drop-drop k at m)

  -- the text of a line from the k-th byte on ends within the message
  pub line-fits : {at : ℕ} → LineHere L m at → (k : ℕ) → k ≤ text_run (drop at m) → at + k + run class (drop (at + k) m) < length m
  line-fits {at} here k inside = omega (arith, line-ends at k inside, here.ends)

  -- a line stands at the message's first byte, and begins the first segment
  pub first-line : 0 < length m → LineHere L m 0
  unfolding walk
  first-line some = line_here L m 0 s.one some s.sound

  pub left-begins : 7 ≤ text_run m → 0 < length m → addendum ps.field m ≡ false
      → LeftAt L ps.field m [] (take 7 m ++ line_text class m 7) (line_after class m 7)
  unfolding walk
  left-begins seven some other =
      subst (λ (t : List ℕ). LeftAt L ps.field m [] t (line_after class m 7)) (line_parts 0 7 seven)
      (subst⁻¹ (LeftAt L ps.field m [] (take (text_run m) m)) (line-next 0 7 seven)
      (left-first ps.field (walk L m) (take (text_run m) m) _ (first-line some).goes (addendum-run ps.field m s.high ∙ other)))

  -- one stands at each place before the end
  module _ {done : List (List ℕ)} {last : List ℕ} (at : ℕ) (left : LeftAt L ps.field m done last at) (h : at < length m) where
    abbrev text : List ℕ
    text = take (text_run (drop at m)) (drop at m)

    abbrev next : ℕ
    next = next_place m (at + text_run (drop at m))

    stands-line : LineHere L m at
    stands-line = line_here L m at s.one h (sym left.fault.number ∙ s.sound)

    left_here : Left ps.field (walk L m) done last (line text (walk_from L next (drop next m)))
    left_here = subst (Left ps.field (walk L m) done last) stands-line.goes left

    pub addendum-within : addendum ps.field (drop at m) ≡ true → at + 2 + run class (drop (at + 2) m) < length m
    addendum-within a = line-fits stands-line 2 (addendum-text ps.field (drop at m) s.high a)

    pub segment-within : at + run class (drop at m) < length m
    segment-within =
        subst (λ (j : ℕ). j + run class (drop j m) < length m) (let e : at + 0 ≡ at = omega arith in e) (line-fits stands-line 0 (omega arith))

    -- an addendum is joined to the last segment
    pub addendum-left : addendum ps.field (drop at m) ≡ true
        → LeftAt L ps.field m done (last ++ line_text class m (at + 2)) (line_after class m (at + 2))
    addendum-left a =
        let two : 2 ≤ text_run (drop at m) = addendum-text ps.field (drop at m) s.high a in
        let short : length (take 2 (drop at m)) ≡ 2
        = length-take-le 2 (drop at m) (let w = text_run-length (drop at m) in omega arith) in
        let rest : drop 2 text ≡ line_text class m (at + 2)
        = ap (drop 2) (line_parts at 2 two) ∙ drop_at (take 2 (drop at m)) (line_text class m (at + 2)) 2 short in
        subst⁻¹ (LeftAt L ps.field m done (last ++ line_text class m (at + 2))) (line-next at 2 two)
        (subst (λ (t : List ℕ). LeftAt L ps.field m done (last ++ t) next) rest
        (left-addendum (addendum-run ps.field (drop at m) s.high ∙ a) left_here))

    -- any other line begins the next
    pub segment-left : addendum ps.field (drop at m) ≡ false
        → LeftAt L ps.field m (done ++ (last ∷ [])) (line_text class m at) (line_after class m at)
    segment-left a =
        let none-past : at + 0 ≡ at = omega arith in
        let same : line_text class m at ≡ text
        = subst (λ (j : ℕ). line_text class m j ≡ text) none-past (sym (line_parts at 0 (omega arith))) in
        let place : line_after class m at ≡ next
        = subst (λ (j : ℕ). line_after class m j ≡ next) none-past (line-next at 0 (omega arith)) in
        subst⁻¹ (λ (t : List ℕ). LeftAt L ps.field m (done ++ (last ∷ [])) t (line_after class m at)) same
        (subst⁻¹ (LeftAt L ps.field m (done ++ (last ∷ [])) text) place
        (left-segment (addendum-run ps.field (drop at m) s.high ∙ a) left_here))

-- leaves
module _ {L : Limits} {ps : Separators} {class m : List ℕ} (s : Readable L ps class m) (done : List (List ℕ)) (last : List ℕ)
    (f : Filed ps (done ++ (last ∷ []))) where
  -- the leaves so far and those of what is joined on are no more than all leaves
  leaves-joined : (t : List ℕ) (at : ℕ) → Without CR t → LeftAt L ps.field m done (last ++ t) at
      → length (all_leaves ps (done ++ (last ∷ []))) + count (among (CR ∷ splitting ps)) t ≤ length (all_leaves ps (segments_in L ps m))
  leaves-joined t at clear left =
      let c : List ℕ = carried ps.field (texts (walk_from L at (drop at m))) in
      let js : List (List ℕ) = joined ps.field (texts (walk_from L at (drop at m))) in
      let whole : segments_in L ps m ≡ done ++ ((last ++ (t ++ c)) ∷ js)
      = left.joins ∙ ap (λ (x : List ℕ). done ++ (x ∷ js)) (append_assoc last t c) in
      let lines : All (SoundLine L) (texts (walk_from L at (drop at m))) = texts-sound L s.one at (drop at m) in
      let all : Filed ps (done ++ ((last ++ (t ++ c)) ∷ js))
      = filed_grows ps done last (t ++ c) js f (all_append clear (carried-clear L ps.field (texts (walk_from L at (drop at m))) lines))
      (joined-clear L ps.field (texts (walk_from L at (drop at m))) lines) in
      omega (
        arith,
        leaves_grow ps done last (t ++ c) js f all,
        ap (λ (x : List (List ℕ)). length (all_leaves ps x)) whole,
        count-append (among (CR ∷ splitting ps)) t c,
      )

  pub leaves-left : (at : ℕ) → LeftAt L ps.field m done last at
      → length (all_leaves ps (done ++ (last ∷ []))) ≤ length (all_leaves ps (segments_in L ps m))
  leaves-left at left =
      let here : LeftAt L ps.field m done (last ++ []) at = subst⁻¹ (λ (x : List ℕ). LeftAt L ps.field m done x at) (append-nil last) left in
      omega (arith, leaves-joined [] at none here)

  -- the same with the leaves that a line closes
  pub leaves-line : (from at : ℕ) → LeftAt L ps.field m done (last ++ line_text class m from) at
      → length (all_leaves ps (done ++ (last ∷ []))) + marks class (drop from m) ≤ length (all_leaves ps (segments_in L ps m))
  leaves-line from at left =
      let marked : marks class (drop from m) ≡ count (among (splitting ps)) (line_text class m from)
      = subst⁻¹ (λ (k : List ℕ). marks k (drop from m) ≡ count (among (splitting ps)) (line_text k m from)) s.classes
      (marks_separators ps (drop from m) (all_drop from s.bytes)) in
      omega (arith, marked, leaves-joined (line_text class m from) at (line_clear s from) left, count-more CR (splitting ps) (line_text class m from))
