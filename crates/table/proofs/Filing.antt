-- The segments of an accepted message can be filed: the first begins with the seven header bytes, none contains CR, none is empty and
-- none is an addendum (H1, L1, A1).
-- Assumes nothing.
use mathlib.Core.Bool.{false, ◌&&◌}
use mathlib.Core.List.{List, [], ◌∷◌, ◌++◌}
use mathlib.Core.Path.{◌≡◌, refl, sym, ap, ◌∙◌, subst}
use Prim.Native.Nat.{ℕ, ◌≤◌}
use native.Mathlib.Omega.{arith}
use lib.Dec.{eqb, lit≤}
use lib.ListN.{length, take, drop, get_or, take-append-drop}
use borrow.Author.Tests.{eqb-true, eq-eqb, ne_eqb}
use Rattle.laws.specs.Every.{All, none, also}
use Rattle.laws.proofs.Tests.{Tested, passed, failed, tested, and_first, and_second}
use Rattle.laws.proofs.Every.{all_first, all_rest}
use Rattle.form.specs.declared.limits.Limits.{Limits}
use Rattle.form.specs.declared.separators.Separators.{Separators}
use Rattle.form.specs.Limits.{Lawful}
use Rattle.form.specs.Names.{kind_names, kind_of, number_among}
use Rattle.form.proofs.HeaderRule.{Allowed, SoundHeader, sound-header}
use Rattle.form.proofs.Names.{known_no_addendum}
use Rattle.laws.specs.Lists.{same, first_from}
use Rattle.laws.specs.Texts.{bytes}
use Rattle.line.specs.Lines.{CR, walk, texts, fault_number}
use Rattle.line.specs.Joining.{letter_a, addendum, joined}
use Rattle.line.specs.inner.Sound.{Text}
use Rattle.line.proofs.Walking.{texts-sound}
use Rattle.line.proofs.Joining.{joined-segment}
use Rattle.line.proofs.Written.{Worded, joined_worded}
use Rattle.line.proofs.FirstLine.{FirstBegins, walk_begins}
use Rattle.table.specs.Leaves.{split, onto, kind_of_segment}
use Rattle.table.specs.inner.Flat.{Without}
use Rattle.table.specs.inner.Filed.{header_bytes, Filed}
use Rattle.table.specs.Rows.{Table, kinds_of}
use Rattle.table.specs.Reading.{Room}
use Rattle.table.proofs.Splitting.{split_at, split-onto}
use Rattle.table.proofs.HeaderBytes.{header-bytes, header-text}
use Rattle.table.proofs.Accepting.{Known, Accepted}

-- text has no CR
pub text-clear : (s : List ℕ) → Text s → Without CR s
text-clear [] w = none
text-clear (b ∷ s) (also h w) = also (ne_eqb b CR (λ e. omega arith)) (text-clear s w)

pub worded_clear : (ss : List (List ℕ)) → All Worded ss → All (Without CR) ss
worded_clear [] w = none
worded_clear (s ∷ ss) (also h w) = also (text-clear s h.1) (worded_clear ss w)

-- a segment of known kind has a byte, and is no addendum
module _ (ps : Separators) where
  nothing-unknown : kind_of_segment ps [] ≡ 0
  unfolding kind_of_segment split kind_of kind_names bytes number_among first_from same
  nothing-unknown = refl

  pub known_some : (s : List ℕ) → (kind_of_segment ps s ≡ 0 → ⊥) → 1 ≤ length s
  known_some [] h = absurd (h nothing-unknown)
  known_some (b ∷ s) h = omega arith

  -- the first field of an addendum is `A`
  addendum_field : (t : List ℕ) → eqb letter_a ps.field ≡ false
      → get_or (split ps.field (letter_a ∷ ps.field ∷ t)) 0 [] ≡ letter_a ∷ []
  unfolding onto
  addendum_field t other =
      ap (λ (ts : List (List ℕ)). get_or ts 0 [])
      (split-onto ps.field letter_a (ps.field ∷ t) other
      ∙ ap (onto letter_a) (split_at ps.field ps.field t (eq-eqb ps.field ps.field refl)))

  pub known-whole : Allowed ps.field → (s : List ℕ) → (kind_of_segment ps s ≡ 0 → ⊥) → addendum ps.field s ≡ false
  unfolding addendum kind_of_segment
  known-whole allowed [] h = refl
  known-whole allowed (a ∷ []) h = refl
  known-whole allowed (a ∷ b ∷ s) h = go (tested (eqb a letter_a && eqb b ps.field))
    where
      go : Tested (eqb a letter_a && eqb b ps.field) → (eqb a letter_a && eqb b ps.field) ≡ false
      go (failed e) = e
      go (passed e) =
          let first : a ≡ letter_a = eqb-true a letter_a (and_first (eqb a letter_a) (eqb b ps.field) e) in
          let second : b ≡ ps.field = eqb-true b ps.field (and_second (eqb a letter_a) (eqb b ps.field) e) in
          let other : eqb letter_a ps.field ≡ false =
          ne_eqb letter_a ps.field (λ q. allowed.no_capital (omega arith) (omega arith)) in
          absurd
          (known_no_addendum (get_or (split ps.field (a ∷ b ∷ s)) 0 []) h
          (rw (first, second) (addendum_field s other)))

  pub all_whole : Allowed ps.field → (ss : List (List ℕ)) → Known (kinds_of ps ss) → All (λ (s : List ℕ). addendum ps.field s ≡ false) ss
  unfolding kinds_of
  all_whole allowed [] w = none
  all_whole allowed (s ∷ ss) w = also (known-whole allowed s (all_first w)) (all_whole allowed ss (all_rest w))

  -- known segments of text are worded
  pub all_worded : (ss : List (List ℕ)) → Known (kinds_of ps ss) → All Text ss → All Worded ss
  unfolding kinds_of
  all_worded [] w t = none
  all_worded (s ∷ ss) w (also h t) = also (known_some s (all_first w), h) (all_worded ss (all_rest w) t)

  -- lines of which the first begins with the header's bytes join to segments of which the first does
  pub joined-header : (ls : List (List ℕ)) → FirstBegins (header_bytes ps) ls
      → take 7 (get_or (joined ps.field ls) 0 []) ≡ header_bytes ps
  unfolding header_bytes addendum
  joined-header ls w =
      let first = header_bytes ps ++ w.0 in
      ap (λ (ks : List (List ℕ)). take 7 (get_or (joined ps.field ks) 0 [])) w.2
      ∙ ap (λ (ss : List (List ℕ)). take 7 (get_or ss 0 [])) (joined-segment ps.field first w.1 refl)

module _ {L : Limits} {levels : ℕ → ℕ → ℕ} {room : Room} {m : List ℕ} {t : Table} (lawful : Lawful L) (w : Accepted L levels room m t) where
  -- the joined segments of an accepted message
  abbrev pub segments_of_accepted : List (List ℕ)
  segments_of_accepted = joined w.separators.field (texts (walk L m))

  pub accepted-header : SoundHeader m w.separators
  accepted-header = sound-header m w.separators w.header

  pub accepted_worded : All Worded segments_of_accepted
  unfolding walk
  accepted_worded =
      joined_worded L w.separators.field (texts (walk L m)) (texts-sound L (omega (arith, lawful.header)) 0 m)

  begins : FirstBegins (header_bytes w.separators) (texts (walk L m))
  unfolding header_bytes
  begins =
      subst (λ (s : List ℕ). fault_number (walk L s) ≡ 0 → FirstBegins (header_bytes w.separators) (texts (walk L s)))
      (ap (λ (u : List ℕ). u ++ drop 7 m) (sym (header-bytes w.separators m accepted-header)) ∙ take-append-drop 7 m)
      (walk_begins L (header_bytes w.separators) (drop 7 m) (lit≤ tt) lawful.header (header-text w.separators accepted-header.allowed))
      w.no_fault

  pub accepted-filed : Filed w.separators segments_of_accepted
  accepted-filed =
      record {
        header = joined-header w.separators (texts (walk L m)) begins;
        lines = worded_clear segments_of_accepted accepted_worded;
      }
