-- The code of a segment, line by line: what has been taken, and what is left of the lines, give the segment's leaf 10.4.1.
-- Assumes nothing.
use mathlib.Core.List.{List, [], ◌∷◌, ◌++◌, append-nil}
use mathlib.Core.Logic.{⊎_elim}
use mathlib.Core.Path.{◌≡◌, refl, sym, ap, ◌∙◌, subst, subst⁻¹}
use Prim.Native.Nat.{ℕ, ◌+◌, ◌≤◌, ◌<◌}
use native.Mathlib.Omega.{arith}
use lib.ListN.{length, get_or, take, drop, length-append}
use lib.Seq.{get_or_at}
use Rattle.laws.specs.Every.{All, none, also}
use Rattle.laws.proofs.Bytes.{Bytes}
use Rattle.laws.proofs.Cases.{less_or_not, equal_or_not}
use Rattle.laws.proofs.Every.{all_append, all_drop}
use Rattle.form.specs.declared.limits.Limits.{Limits}
use Rattle.form.specs.declared.separators.Separators.{Separators}
use Rattle.line.specs.Lines.{walk_from, texts}
use Rattle.line.specs.Joining.{carried, joined}
use Rattle.line.specs.Finding.{low_run}
use Rattle.line.specs.inner.Left.{LeftAt}
use Rattle.table.specs.inner.Classes.{class_table}
use Rattle.index.specs.Index.{code_most}
use Rattle.read.specs.declared.codes.Reached.TheVariants.{Whole, Open}
use Rattle.read.specs.declared.codes.Taken.{Taken}
use Rattle.read.specs.Codes.{leaf_code}
use Rattle.read.specs.Sound.{segments_in}
use Rattle.read.specs.inner.Filling.{Fillable}
use Rattle.read.specs.inner.Scanning.{run}
use Rattle.read.specs.inner.Segments.{line_text, line_after}
use Rattle.read.specs.inner.Starting.{text_from}
use Rattle.read.specs.inner.Coding.{Gathered, nothing_gathered, gather_bytes, HeldCode, TakesLine, LineHeld, LineTaken, made_whole, left_open, CodeAhead, CodeTaken, code_of_row}
use Rattle.read.proofs.Coding.{Shown, gathered-ends, gathered-whole, gather_append}
use Rattle.read.proofs.LeftLaws.{addendum-within, segment-within, addendum-left, segment-left}
use Rattle.read.proofs.Noting.{nothing-carried}
use Rattle.read.proofs.PlainLaws.{run_more, run-ended}
use Rattle.read.proofs.StandLaws.{readable}
use Rattle.read.proofs.Starting.{begins-segment, carries_on, carried_from, from_past}

-- a line from `from` on is about to be looked at for the code of segment `row`; `last` is what the segment has before it
pub record AtCode
    (L : Limits) (class kinds : List ℕ) (ps : Separators) (context : ℕ) (m : List ℕ) (row long from left size : ℕ) (code : List ℕ)
    : Type 0 where
  pub given : Fillable L class kinds ps context m
  pub bytes : Bytes m
  pub done : List (List ℕ)
  pub last : List ℕ
  pub number : length done ≡ row
  pub lines : LeftAt L ps.field m done (last ++ line_text class m from) (line_after class m from)
  pub inside : from + run class (drop from m) < length m
  pub shown : All (Shown ps) last
  pub held : HeldCode (gather_bytes class nothing_gathered last) left size code
  pub begun : 1 ≤ left
  pub short : size ≤ from
  pub room : code_most ≤ length code
  pub same : length code ≡ long

-- the bytes of a line's text end no line
run-shown : (ps : Separators) (s : List ℕ) → Bytes s → All (Shown ps) (take (run (class_table ps) s) s)
unfolding run
run-shown ps [] h = none
run-shown ps (b ∷ s) (also h hs) =
    ⊎_elim
    (λ (e : get_or (class_table ps) b 0 ≡ 5). rw (run-ended (class_table ps) b s e) none)
    (λ (e : get_or (class_table ps) b 0 ≡ 5 → ⊥). rw (run_more (class_table ps) b s e) (also (h, e) (run-shown ps s hs)))
    (equal_or_not (get_or (class_table ps) b 0) 5)

-- a code that was gathered whole, as it is held
code-taken : {g : Gathered} {left size : ℕ} {code bytes : List ℕ} → HeldCode g left size bytes → g.code ≡ code → CodeTaken code size bytes
code-taken {size = size} {bytes = bytes} h e =
    subst (λ (c : List ℕ). CodeTaken c size bytes) e (record { size_is = h.size_is; bytes = h.bytes })

-- the first line of the segment
pub code-begins : {L : Limits} {class kinds : List ℕ} {ps : Separators} {context : ℕ} {m : List ℕ} {row start : ℕ} {code : List ℕ}
    → CodeAhead L class kinds ps context m row start code → Bytes m → AtCode L class kinds ps context m row (length code) start 4 0 code
unfolding gather_bytes
code-begins {start = start} w bytes =
    let s = readable w.given bytes in
    let b = w.begins in
    record {
      given = w.given;
      bytes = bytes;
      done = b.done ++ (b.last ∷ []);
      last = [];
      number = omega (arith, length-append b.done (b.last ∷ []), b.number);
      lines = segment-left s start b.left b.some b.begins;
      inside = segment-within s start b.left b.some;
      shown = none;
      held = record { left_is = refl; size_is = refl; bytes = λ k h. absurd (let z : ⊥ = omega arith in z) };
      begun = omega arith;
      short = omega arith;
      room = w.room;
      same = refl;
    }

module _ {L : Limits} {class kinds : List ℕ} {ps : Separators} {context : ℕ} {m : List ℕ} {row long from left size : ℕ} {code : List ℕ}
    (w : AtCode L class kinds ps context m row long from left size code) where
  pub line-takes : TakesLine class m (record { left = left; length = size; at = from }) code
  line-takes = record { room = w.room; inside = w.inside; begun = w.begun; short = w.short }

  -- the segment with the text of this line, and all of it
  abbrev so_far : List ℕ
  so_far = w.last ++ line_text class m from

  abbrev next : ℕ
  next = line_after class m from

  abbrev rest : List ℕ
  rest = carried ps.field (texts (walk_from L next (drop next m)))

  segment_is : get_or (segments_in L ps m) row [] ≡ so_far ++ rest
  segment_is =
      ap (λ (ss : List (List ℕ)). get_or ss row []) w.lines.joins
      ∙ get_or_at w.done (so_far ++ rest) (joined ps.field (texts (walk_from L next (drop next m)))) [] row w.number

  shown_so_far : All (Shown ps) so_far
  shown_so_far =
      all_append w.shown
      (subst⁻¹ (λ (c : List ℕ). All (Shown ps) (line_text c m from)) w.given.classes (run-shown ps (drop from m) (all_drop from w.bytes)))

  -- the line that is looked at
  abbrev looked : Taken
  looked = record { left = left; length = size; at = from }

  held_so_far : {left' size' : ℕ} {code' : List ℕ} → LineHeld class m looked code left' size' code'
      → HeldCode (gather_bytes (class_table ps) nothing_gathered so_far) left' size' code'
  held_so_far {left'} {size'} {code'} t =
      subst (λ (c : List ℕ). HeldCode (gather_bytes c nothing_gathered so_far) left' size' code') w.given.classes
      (subst⁻¹ (λ (g : Gathered). HeldCode g left' size' code') (gather_append class nothing_gathered w.last (line_text class m from))
      (t (gather_bytes class nothing_gathered w.last) w.held))

  -- the code is whole
  pub code-whole : {n : ℕ} {code' : List ℕ} → LineTaken class m looked code (Whole n) code' → CodeTaken (code_of_row L ps m row) n code'
  code-whole {n} {code'} (made_whole size is t) =
      let same : n ≡ size = cc in
      let held = held_so_far t in
      subst⁻¹ (λ (k : ℕ). CodeTaken (code_of_row L ps m row) k code') same
      (code-taken held (gathered-whole ps so_far shown_so_far rest (sym held.left_is) ∙ ap (leaf_code ps) (sym segment_is)))
  code-whole (left_open t is held ends begun short) = cc

  -- it may go on behind the line
  pub record OpenYet (r : Taken) (code' : List ℕ) : Type 0 where
    pub held : HeldCode (gather_bytes (class_table ps) nothing_gathered so_far) r.left r.length code'
    pub ends : r.at ≡ from + run class (drop from m)
    pub begun : 1 ≤ r.left
    pub short : r.length ≤ r.at

  pub code-open : {r : Taken} {code' : List ℕ} → LineTaken class m looked code (Open r) code' → OpenYet r code'
  code-open (made_whole size is t) = cc
  code-open {r} {code'} (left_open t is held ends begun short) =
      let same : t ≡ r = cc in
      subst (λ (k : Taken). OpenYet k code') same (record { held = held_so_far held; ends = ends; begun = begun; short = short })

  module _ {r : Taken} {code' : List ℕ} (o : OpenYet r code') {at : ℕ} (low : at ≡ r.at + 1 + low_run (drop (r.at + 1) m)) {on : ℕ} (e : on ≡ text_from ps.field at (drop at m)) where
    at_next : at ≡ next
    at_next = low ∙ ap (λ (n : ℕ). n + 1 + low_run (drop (n + 1) m)) o.ends

    -- the segment ends
    pub code-ends : on ≡ at → CodeTaken (code_of_row L ps m row) r.length code'
    code-ends here =
        let other = begins-segment ps.field at (drop at m) (sym e ∙ here) in
        let nothing : rest ≡ []
        = subst (λ (n : ℕ). carried ps.field (texts (walk_from L n (drop n m))) ≡ []) at_next
        (nothing-carried L ps.field m at other (omega (arith, w.given.fits.lawful.header))) in
        code-taken o.held
        (gathered-ends ps so_far shown_so_far
        ∙ ap (leaf_code ps) (sym (segment_is ∙ ap (λ (t : List ℕ). so_far ++ t) nothing ∙ append-nil so_far)))

    -- an addendum goes on with it
    module _ (past : on ≡ at → ⊥) where
      not_at : text_from ps.field at (drop at m) ≡ at → ⊥
      not_at z = past (e ∙ z)

      on_is : on ≡ at + 2
      on_is = e ∙ carried_from ps.field at (drop at m) not_at

      within : at < length m
      within = ⊎_elim (λ less. less) (λ none_left. absurd (not_at (from_past ps.field at m none_left))) (less_or_not at (length m))

      here_left : LeftAt L ps.field m w.done so_far at
      here_left = subst⁻¹ (LeftAt L ps.field m w.done so_far) at_next w.lines

      pub code_on : length code' ≡ length code → AtCode L class kinds ps context m row long on r.left r.length code'
      code_on same =
          let s = readable w.given w.bytes in
          let marked = carries_on ps.field at (drop at m) not_at in
          record {
            given = w.given;
            bytes = w.bytes;
            done = w.done;
            last = so_far;
            number = w.number;
            lines =
                subst⁻¹ (λ (j : ℕ). LeftAt L ps.field m w.done (so_far ++ line_text class m j) (line_after class m j)) on_is
                (addendum-left s at here_left within marked);
            inside = subst⁻¹ (λ (j : ℕ). j + run class (drop j m) < length m) on_is (addendum-within s at here_left within marked);
            shown = shown_so_far;
            held =
                subst⁻¹ (λ (c : List ℕ). HeldCode (gather_bytes c nothing_gathered so_far) r.left r.length code') w.given.classes o.held;
            begun = o.begun;
            short = omega (arith, o.short, low, on_is);
            room = omega (arith, w.room, same);
            same = same ∙ w.same;
          }

      -- further on in the message
      pub further : from < on
      further = omega (arith, at_next, on_is)
