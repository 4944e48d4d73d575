-- Leaves that go on soundly, as a loop tests them row by row: the same as `Sound` with CR for the coarsest separator, and no byte of
-- their texts below 32.
-- Assumes nothing.
use mathlib.Core.Bool.{true, false, ◌&&◌, false≢true}
use mathlib.Core.List.{List, [], ◌∷◌}
use mathlib.Core.Logic.{◌↔◌}
use mathlib.Core.Path.{◌≡◌, refl, sym, ap, ◌∙◌, subst}
use Prim.Native.Nat.{ℕ, suc}
use native.Mathlib.Omega.{arith}
use lib.Dec.{eqb}
use lib.ListN.{length}
use borrow.Author.Tests.{eqb-true, eqb-false, ne_eqb}
use Rattle.laws.specs.Lists.{same, among}
use Rattle.laws.specs.Every.{none, also}
use Rattle.laws.proofs.Every.{all_append, all_left, all_right}
use Rattle.laws.proofs.Lists.{Absent.nowhere, Absent.past, among_hit, among_miss, same_self, same_equal}
use Rattle.laws.proofs.Tests.{Tested, passed, failed, tested, never_both, and_first, and_second, and_both}
use Rattle.form.specs.declared.separators.Separators.{Separators}
use Rattle.form.specs.Header.{different, splitting}
use Rattle.form.proofs.HeaderRule.{AllAllowed, AllDifferent, different-more}
use Rattle.line.specs.Lines.{CR}
use Rattle.table.specs.Leaves.{Leaf}
use Rattle.table.specs.Rows.{text_of}
use Rattle.table.specs.inner.Flat.{ones, leaf, raised}
use Rattle.table.specs.inner.Back.{between}
use Rattle.table.specs.inner.Sound.{Plain, Sound, last, next}
use Rattle.table.specs.inner.RowTests.{next_place, leaf_text, go_on, go_on_from}
use Rattle.table.proofs.LeafTexts.{AllText}
use Rattle.table.proofs.Places.{length-ones, length-raised}
use Rattle.table.proofs.RowTests.{next-same, next-raised, onward-next, leaf-text}
use Rattle.table.proofs.SoundTest.{onward-among, onward-raised, onward-holds}

-- the next place has as many numbers
pub next-length : (from to : List ℕ) → next_place from to ≡ true → length to ≡ length from
unfolding next_place
next-length [] to h = absurd (false≢true h)
next-length (m ∷ from) [] h = absurd (false≢true h)
next-length (m ∷ from) (n ∷ to) h = go (tested (eqb m n)) (next-length from to)
  where
    go : Tested (eqb m n) → (next_place from to ≡ true → length to ≡ length from) → suc (length to) ≡ suc (length from)
    go (passed e) ih = ap suc (ih (sym (next-same m from n to (eqb-true m n e)) ∙ h))
    go (failed e) ih =
        let raised = sym (next-raised m from n to (eqb-false m n e)) ∙ h in
        ap suc (ap length (sym (same_equal (ones from) to (and_second (eqb (suc m) n) (same (ones from) to) raised))) ∙ length-ones from)

-- CR and the splitting separators differ
pub coarsest_different : (ps : Separators) → AllAllowed ps → AllDifferent ps → different (CR ∷ splitting ps) ≡ true
unfolding splitting different
coarsest_different ps allowed unlike =
    different-more
    (past (λ (e : CR ≡ ps.field). omega (arith, allowed.field.low))
    (past (λ (e : CR ≡ ps.repeater). omega (arith, allowed.repeater.low))
    (past (λ (e : CR ≡ ps.subfield). omega (arith, allowed.subfield.low))
    (past (λ (e : CR ≡ ps.subsubfield). omega (arith, allowed.subsubfield.low)) nowhere))))
    (different-more
    (past unlike.field_repeater (past unlike.field_subfield (past unlike.field_subsubfield nowhere)))
    (different-more
    (past (λ e. unlike.subfield_repeater (sym e)) (past unlike.repeater_subsubfield nowhere))
    (different-more (past unlike.subfield_subsubfield nowhere)
    (different-more nowhere refl))))

-- text that is plain is plain of CR too
pub plain_cr : (ps : List ℕ) {s : List ℕ} → AllText s → Plain ps s → Plain (CR ∷ ps) s
plain_cr ps none none = none
plain_cr ps (also {a = b} h w) (also k v) = also (among_miss CR ps b (ne_eqb b CR (λ (e : b ≡ CR). omega arith)) ∙ k) (plain_cr ps w v)

pub cr_plain : (ps : List ℕ) {s : List ℕ} → Plain (CR ∷ ps) s → Plain ps s
cr_plain ps none = none
cr_plain ps (also {a = b} {s = s} k v) = also (go (tested (eqb b CR))) (cr_plain ps v)
  where
    go : Tested (eqb b CR) → among ps b ≡ false
    go (passed e) = absurd (never_both (among_hit CR ps b e) k)
    go (failed e) = sym (among_miss CR ps b e) ∙ k

-- the step laws of the test
module _ (ps place : List ℕ) (l : Leaf) (ls : List Leaf) where
  pub go_next : go_on ps place (l ∷ ls) ≡ true → next_place place l.place ≡ true
  unfolding go_on
  go_next h =
      and_first (next_place place l.place) (leaf_text ps l.text)
      (and_first (next_place place l.place && leaf_text ps l.text) (go_on ps l.place ls) h)

  pub go_text : go_on ps place (l ∷ ls) ≡ true → leaf_text ps l.text ≡ true
  unfolding go_on
  go_text h =
      and_second (next_place place l.place) (leaf_text ps l.text)
      (and_first (next_place place l.place && leaf_text ps l.text) (go_on ps l.place ls) h)

  pub go_rest : go_on ps place (l ∷ ls) ≡ true → go_on ps l.place ls ≡ true
  unfolding go_on
  go_rest h = and_second (next_place place l.place && leaf_text ps l.text) (go_on ps l.place ls) h

  pub go_more : next_place place l.place ≡ true → leaf_text ps l.text ≡ true → go_on ps l.place ls ≡ true → go_on ps place (l ∷ ls) ≡ true
  unfolding go_on
  go_more a b c = and_both (and_both a b) c

  pub begin_place : go_on_from ps place (l ∷ ls) ≡ true → l.place ≡ place
  unfolding go_on_from
  begin_place h =
      same_equal l.place place
      (and_first (same l.place place) (leaf_text ps l.text)
      (and_first (same l.place place && leaf_text ps l.text) (go_on ps l.place ls) h))

  pub begin_text : go_on_from ps place (l ∷ ls) ≡ true → leaf_text ps l.text ≡ true
  unfolding go_on_from
  begin_text h =
      and_second (same l.place place) (leaf_text ps l.text)
      (and_first (same l.place place && leaf_text ps l.text) (go_on ps l.place ls) h)

  pub begin_rest : go_on_from ps place (l ∷ ls) ≡ true → go_on ps l.place ls ≡ true
  unfolding go_on_from
  begin_rest h = and_second (same l.place place && leaf_text ps l.text) (go_on ps l.place ls) h

  pub begin_more : l.place ≡ place → leaf_text ps l.text ≡ true → go_on ps l.place ls ≡ true → go_on_from ps place (l ∷ ls) ≡ true
  unfolding go_on_from
  begin_more a b c = and_both (and_both (ap (λ (q : List ℕ). same q place) a ∙ same_self place) b) c

module _ (ps : List ℕ) (unlike : different (CR ∷ ps) ≡ true) where
  -- the text of one leaf
  text-plain : (s : List ℕ) → leaf_text ps s ≡ true → Plain (CR ∷ ps) s
  text-plain s h = let w = (leaf-text ps s).0 h in plain_cr ps w.0 w.1

  plain-text : {s : List ℕ} → AllText s → Plain (CR ∷ ps) s → leaf_text ps s ≡ true
  plain-text {s} w h = (leaf-text ps s).1 (w, cr_plain ps h)

  -- leaves after one that go on soundly
  go_sound : (place text : List ℕ) (ls : List Leaf) → length place ≡ suc (length ps) → Plain (CR ∷ ps) text → go_on ps place ls ≡ true
      → Sound (CR ∷ ps) place (leaf place text ∷ ls) × AllText (text_of ls)
  unfolding text_of
  go_sound place text [] fits w h = (last w, none)
  go_sound place text (l ∷ ls) fits w h =
      let next_is = go_next ps place l ls h in
      let on = onward-next (CR ∷ ps) place l.place unlike fits ∙ next_is in
      let own = go_text ps place l ls h in
      let rest = go_sound l.place l.text ls (next-length place l.place next_is ∙ fits) (text-plain l.text own) (go_rest ps place l ls h) in (
        next (between (CR ∷ ps) place l.place) w (onward-among (CR ∷ ps) place l.place on)
            (subst (λ (q : List ℕ). Sound (CR ∷ ps) q (l ∷ ls)) (sym (onward-raised (CR ∷ ps) place l.place on)) rest.0),
        all_append ((leaf-text ps l.text).0 own).0 rest.1,
      )

  go_from : (place to : List ℕ) (ls : List Leaf) → next_place place to ≡ true → go_on_from ps to ls ≡ true → go_on ps place ls ≡ true
  unfolding go_on
  go_from place to [] n h = refl
  go_from place to (l ∷ ls) n h =
      go_more ps place l ls (ap (next_place place) (begin_place ps to l ls h) ∙ n) (begin_text ps to l ls h) (begin_rest ps to l ls h)

  sound_go : {place : List ℕ} {ls : List Leaf} → length place ≡ suc (length ps) → Sound (CR ∷ ps) place ls → AllText (text_of ls) → go_on_from ps place ls ≡ true
  unfolding text_of go_on
  sound_go fits (last {place} {text} w) all = begin_more ps place (leaf place text) [] refl (plain-text (all_left text [] all) w) refl
  sound_go fits (next {place} {text} {ls} b w h others) all =
      let on = onward-holds (CR ∷ ps) place b fits h in
      let next_is = sym (onward-next (CR ∷ ps) place (raised (CR ∷ ps) b place) unlike fits) ∙ on in
      begin_more ps place (leaf place text) ls refl (plain-text (all_left text (text_of ls) all) w)
      (go_from place (raised (CR ∷ ps) b place) ls next_is (sound_go (length-raised (CR ∷ ps) b place fits) others (all_right text (text_of ls) all)))

  -- leaves from a place on
  pub begin_sound : (place : List ℕ) (ls : List Leaf) → length place ≡ suc (length ps)
      → (go_on_from ps place ls ≡ true) ↔ (Sound (CR ∷ ps) place ls × AllText (text_of ls))
  unfolding go_on_from text_of
  begin_sound place ls fits = (forth ls, λ w. sound_go fits w.0 w.1)
    where
      forth : (ls : List Leaf) → go_on_from ps place ls ≡ true → Sound (CR ∷ ps) place ls × AllText (text_of ls)
      forth [] h = absurd (false≢true h)
      forth (l ∷ ls) h =
          let at = begin_place ps place l ls h in
          let own = begin_text ps place l ls h in
          let rest = go_sound l.place l.text ls (ap length at ∙ fits) (text-plain l.text own) (begin_rest ps place l ls h) in
          (subst (λ (q : List ℕ). Sound (CR ∷ ps) q (l ∷ ls)) at rest.0, all_append ((leaf-text ps l.text).0 own).0 rest.1)
