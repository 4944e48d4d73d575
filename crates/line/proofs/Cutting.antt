-- Cutting (rules W1 to W3): joining what was cut gives the segments, and how many lines and bytes are written.
-- Assumes nothing.
use mathlib.Core.Bool.{false}
use mathlib.Core.Path.{◌≡◌, refl, sym, ap, ap₂, ◌∙◌, subst}
use mathlib.Core.List.{List, [], ◌∷◌, ◌++◌, append_assoc, append-nil}
use Prim.Native.Nat.{ℕ, zero, suc, ◌+◌, ◌-◌, ◌*◌, ◌≤◌, ◌<◌}
use native.Mathlib.Nat.{suc-mul, zero-mul}
use native.Mathlib.Omega.{arith}
use lib.Dec.{lit≤}
use lib.ListN.{length, take, drop, length-append, length-take, length-drop, take-append-drop}
use Rattle.laws.specs.Lists.{concat, sum_of}
use Rattle.laws.specs.Every.{All, none, also}
use Rattle.laws.proofs.Every.{all_append, all_take, all_drop, all_both, all_map, all_from}
use Rattle.laws.proofs.Sums.{sum_of_cons, length-concat}
use Rattle.form.specs.declared.limits.Limits.{Limits}
use Rattle.form.specs.Limits.{Lawful, line_count, rounded_up}
use Rattle.form.proofs.RoundedUp.{rounded_up-holds, rounded_up_tight, rounded_up_zero, rounded_up-more, some_more, line_count-addenda}
use Rattle.line.specs.Lines.{CR, space}
use Rattle.line.specs.Joining.{letter_a, addendum, carried, joined}
use Rattle.line.specs.Cutting.{pieces, addenda, cut, cuts, unlines}
use Rattle.line.specs.inner.Sound.{Text, SoundLine}
use Rattle.line.proofs.Joining.{addendum-take, carried-segment, joined-segment, carried-addenda, joined-addenda}

-- pieces

pub pieces_none : (k : ℕ) (s : List ℕ) → pieces k 0 s ≡ []
unfolding pieces
pieces_none k s = refl

pub pieces_more : (k n : ℕ) (s : List ℕ) → pieces k (suc n) s ≡ take k s ∷ pieces k n (drop k s)
unfolding pieces
pieces_more k n s = refl

-- so many pieces as hold a text are the text
pub concat-pieces : (k n : ℕ) (s : List ℕ) → length s ≤ n * k → concat (pieces k n s) ≡ s
unfolding concat pieces
concat-pieces k zero [] h = refl
concat-pieces k zero (b ∷ s) h = absurd (omega (arith, zero-mul k))
concat-pieces k (suc n) s h =
    ap (λ (r : List ℕ). take k s ++ r) (concat-pieces k n (drop k s) (omega (arith, suc-mul n k, length-drop k s)))
    ∙ take-append-drop k s

pub length-pieces : (k n : ℕ) (s : List ℕ) → length (pieces k n s) ≡ n
unfolding pieces
length-pieces k zero s = refl
length-pieces k (suc n) s = ap suc (length-pieces k n (drop k s))

-- where no fewer hold the text, each piece has a byte at least and k at most
pub each_piece : (k n : ℕ) (s : List ℕ) → 1 ≤ k → n * k < length s + k → All (λ (t : List ℕ). (1 ≤ length t) × (length t ≤ k)) (pieces k n s)
unfolding pieces
each_piece k zero s pos h = none
each_piece k (suc n) s pos h =
    also {a = take k s} (omega (arith, length-take k s, suc-mul n k), omega (arith, length-take k s)) (each_piece k n (drop k s) pos (left n h))
  where
    left : (n : ℕ) → suc n * k < length s + k → n * k < length (drop k s) + k
    left zero h = omega (arith, zero-mul k)
    left (suc n) h = omega (arith, suc-mul n k, suc-mul (suc n) k, length-drop k s)

pub text-pieces : (k n : ℕ) (s : List ℕ) → Text s → All Text (pieces k n s)
unfolding pieces
text-pieces k zero s h = none
text-pieces k (suc n) s h = also (all_take k h) (text-pieces k n (drop k s) (all_drop k h))

-- as few pieces as hold a text, and their step equations: the turns of a loop that writes them
pub filled : ℕ → List ℕ → List (List ℕ)
filled k s = pieces k (rounded_up (length s) k) s

pub filled_none : (k : ℕ) → 1 ≤ k → filled k [] ≡ []
unfolding filled
filled_none k h = rw (rounded_up_zero k h) (pieces_none k [])

pub filled_more : (k : ℕ) (s : List ℕ) → 1 ≤ k → 1 ≤ length s → filled k s ≡ take k s ∷ filled k (drop k s)
unfolding filled
filled_more k s h some =
    rw (rounded_up-more (length s) k h some, length-drop k s) (pieces_more k (rounded_up (length s - k) k) s)

-- addenda

pub addenda_nil : (f : ℕ) → addenda f [] ≡ []
unfolding addenda
addenda_nil f = refl

pub addenda_cons : (f : ℕ) (t : List ℕ) (ts : List (List ℕ)) → addenda f (t ∷ ts) ≡ (letter_a ∷ f ∷ t) ∷ addenda f ts
unfolding addenda
addenda_cons f t ts = refl

pub length-addenda : (f : ℕ) (ts : List (List ℕ)) → length (addenda f ts) ≡ length ts
unfolding addenda
length-addenda f [] = refl
length-addenda f (t ∷ ts) = ap suc (length-addenda f ts)

-- an addendum has two bytes more than it carries
pub sum_addenda : (f : ℕ) (ts : List (List ℕ)) → sum_of length (addenda f ts) ≡ sum_of length ts + 2 * length ts
unfolding addenda sum_of
sum_addenda f [] = refl
sum_addenda f (t ∷ ts) = omega (arith, sum_addenda f ts)

-- lines as bytes: the bytes of each, and its CR
pub unlines_nil : unlines [] ≡ []
unfolding unlines
unlines_nil = refl

pub unlines_cons : (l : List ℕ) (ls : List (List ℕ)) → unlines (l ∷ ls) ≡ l ++ CR ∷ unlines ls
unfolding unlines
unlines_cons l ls = refl

pub length-unlines : (ls : List (List ℕ)) → length (unlines ls) ≡ sum_of length ls + length ls
unfolding unlines sum_of
length-unlines [] = refl
length-unlines (l ∷ ls) = omega (arith, length-append l (CR ∷ unlines ls), length-unlines ls)

pub unlines-append : (ls ks : List (List ℕ)) → unlines (ls ++ ks) ≡ unlines ls ++ unlines ks
unfolding unlines
unlines-append [] ks = refl
unlines-append (l ∷ ls) ks =
    ap (λ (r : List ℕ). l ++ CR ∷ r) (unlines-append ls ks) ∙ rw (append_assoc l (CR ∷ unlines ls) (unlines ks))

-- one segment

-- how many addenda a segment of n bytes takes
pub addenda_count : Limits → ℕ → ℕ
addenda_count L n = rounded_up (n - L.line) L.more

-- what a segment's addenda carry
pub carried_pieces : Limits → List ℕ → List (List ℕ)
carried_pieces L s = pieces L.more (addenda_count L (length s)) (drop L.line s)

module _ (L : Limits) (lawful : Lawful L) (f : ℕ) where
  -- a cut without its line count: the first line, and the rest in the fewest addenda
  pub cut-addenda : (s : List ℕ) → cut L f s ≡ take L.line s ∷ addenda f (carried_pieces L s)
  unfolding cut addenda_count carried_pieces
  cut-addenda s = rw (line_count-addenda L lawful (length s))

  pub carried-filled : (s : List ℕ) → carried_pieces L s ≡ filled L.more (drop L.line s)
  unfolding carried_pieces addenda_count filled
  carried-filled s = rw (length-drop L.line s)

  pub concat-carried : (s : List ℕ) → concat (carried_pieces L s) ≡ drop L.line s
  unfolding addenda_count carried_pieces
  concat-carried s =
      concat-pieces L.more (addenda_count L (length s)) (drop L.line s)
      (rw (length-drop L.line s) (rounded_up-holds (length s - L.line) L.more (some_more L lawful)))

  length-carried : (s : List ℕ) → length (carried_pieces L s) ≡ addenda_count L (length s)
  unfolding carried_pieces
  length-carried s = length-pieces L.more (addenda_count L (length s)) (drop L.line s)

  -- a segment takes as many lines as W2 says
  pub length_cut : (s : List ℕ) → length (cut L f s) ≡ line_count L (length s)
  unfolding addenda_count
  length_cut s =
      rw (cut-addenda s, line_count-addenda L lawful (length s)) (ap suc (length-addenda f (carried_pieces L s) ∙ length-carried s))

  -- the bytes of its lines: its own, and the `A` and separator of each addendum
  pub sum_cut : (s : List ℕ) → sum_of length (cut L f s) + 2 ≡ length s + 2 * line_count L (length s)
  unfolding addenda_count
  sum_cut s =
      rw (cut-addenda s)
      (omega (
        arith,
        sum_of_cons length (take L.line s) (addenda f (carried_pieces L s)),
        sum_addenda f (carried_pieces L s),
        length-carried s,
        line_count-addenda L lawful (length s),
        length-concat (carried_pieces L s),
        ap length (concat-carried s),
        length-take L.line s,
        length-drop L.line s,
      ))

  -- the bytes written for it: three for each addendum, and the first line's CR
  pub length-unlines-cut : (s : List ℕ) → length (unlines (cut L f s)) + 2 ≡ length s + 3 * line_count L (length s)
  length-unlines-cut s = omega (arith, length-unlines (cut L f s), length_cut s, sum_cut s)

  -- no line is too long, and every addendum carries a byte
  pub first_short : (s : List ℕ) → length (take L.line s) ≤ L.line
  first_short s = omega (arith, length-take L.line s)

  pub each-carried : (s : List ℕ) → All (λ (t : List ℕ). (1 ≤ length t) × (length t ≤ L.more)) (carried_pieces L s)
  unfolding carried_pieces addenda_count
  each-carried s =
      each_piece L.more (addenda_count L (length s)) (drop L.line s) (some_more L lawful)
      (rw (length-drop L.line s) (rounded_up_tight (length s - L.line) L.more (some_more L lawful)))

  pub addenda_bounds : (s : List ℕ) → All (λ (l : List ℕ). (3 ≤ length l) × (length l ≤ L.line)) (addenda f (carried_pieces L s))
  unfolding addenda
  addenda_bounds s =
      all_map (λ (t : List ℕ). letter_a ∷ f ∷ t) (λ t h. omega (arith, lawful.addendum)) (each-carried s)

  pub cut_short : (s : List ℕ) → All (λ (l : List ℕ). length l ≤ L.line) (cut L f s)
  cut_short s =
      rw (cut-addenda s) (also (first_short s) (all_from (λ l h. h.1) (addenda_bounds s)))

  -- the lines of a segment that has a byte, and none below 32, are sound
  pub cut-sound : (s : List ℕ) → space ≤ f → 1 ≤ length s → Text s → All (SoundLine L) (cut L f s)
  unfolding addenda carried_pieces
  cut-sound s sep some text =
      let pieces-text = text-pieces L.more (addenda_count L (length s)) (drop L.line s) (all_drop L.line text) in
      rw (cut-addenda s)
      (also {a = take L.line s}
      (record { some = omega (arith, length-take L.line s, lawful.header); short = first_short s; text = all_take L.line text })
      (all_map (λ (t : List ℕ). letter_a ∷ f ∷ t) addendum-sound (all_both (each-carried s) pieces-text)))
    where
      addendum-sound : (t : List ℕ) → ((1 ≤ length t) × (length t ≤ L.more)) × Text t → SoundLine L (letter_a ∷ f ∷ t)
      addendum-sound t h = record { some = omega arith; short = omega (arith, lawful.addendum); text = also (lit≤ tt) (also sep h.1) }

-- all segments

module _ (L : Limits) (f : ℕ) where
  pub cuts_nil : cuts L f [] ≡ []
  unfolding cuts concat
  cuts_nil = refl

  pub cuts_cons : (s : List ℕ) (ss : List (List ℕ)) → cuts L f (s ∷ ss) ≡ cut L f s ++ cuts L f ss
  unfolding cuts concat
  cuts_cons s ss = refl

module _ (L : Limits) (lawful : Lawful L) (f : ℕ) where
  -- how many lines and bytes all segments take, which the writer answers (W3)
  pub length-cuts : (ss : List (List ℕ)) → length (cuts L f ss) ≡ sum_of (λ (s : List ℕ). line_count L (length s)) ss
  unfolding sum_of
  length-cuts [] = rw (cuts_nil L f)
  length-cuts (s ∷ ss) =
      rw (cuts_cons L f s ss) (omega (arith, length-append (cut L f s) (cuts L f ss), length_cut L lawful f s, length-cuts ss))

  pub length-unlines-cuts : (ss : List (List ℕ)) → length (unlines (cuts L f ss)) + 2 * length ss ≡ sum_of length ss + 3 * sum_of (λ (s : List ℕ). line_count L (length s)) ss
  unfolding sum_of unlines
  length-unlines-cuts [] = rw (cuts_nil L f)
  length-unlines-cuts (s ∷ ss) =
      rw (cuts_cons L f s ss, unlines-append (cut L f s) (cuts L f ss))
      (omega (
        arith,
        length-append (unlines (cut L f s)) (unlines (cuts L f ss)),
        length-unlines-cut L lawful f s,
        length-unlines-cuts ss,
      ))

  pub cuts-sound : (ss : List (List ℕ)) → space ≤ f → All (λ (s : List ℕ). (1 ≤ length s) × Text s) ss → All (SoundLine L) (cuts L f ss)
  cuts-sound [] sep h = rw (cuts_nil L f) none
  cuts-sound (s ∷ ss) sep (also h hs) =
      rw (cuts_cons L f s ss) (all_append (cut-sound L lawful f s sep h.0 h.1) (cuts-sound ss sep hs))

  -- a first line begins a segment where the segment is no addendum
  pub first-segment : (s : List ℕ) → addendum f s ≡ false → addendum f (take L.line s) ≡ false
  first-segment s h =
      let two : L.line ≡ suc (suc (L.line - 2)) = omega (arith, lawful.header) in
      subst (λ (k : ℕ). addendum f (take k s) ≡ false) (sym two) (addendum-take f (L.line - 2) s ∙ h)

  pub carried-cuts : (ss : List (List ℕ)) → All (λ (s : List ℕ). addendum f s ≡ false) ss → carried f (cuts L f ss) ≡ []
  unfolding carried
  carried-cuts [] h = rw (cuts_nil L f)
  carried-cuts (s ∷ ss) (also h hs) =
      rw (cuts_cons L f s ss, cut-addenda L lawful f s)
      (carried-segment f (take L.line s) (addenda f (carried_pieces L s) ++ cuts L f ss) (first-segment s h))

  -- joining what was cut gives the segments
  pub joined-cuts : (ss : List (List ℕ)) → All (λ (s : List ℕ). addendum f s ≡ false) ss → joined f (cuts L f ss) ≡ ss
  unfolding joined
  joined-cuts [] h = rw (cuts_nil L f)
  joined-cuts (s ∷ ss) (also h hs) =
      rw (cuts_cons L f s ss, cut-addenda L lawful f s)
      (joined-segment f (take L.line s) (addenda f (carried_pieces L s) ++ cuts L f ss) (first-segment s h)
      ∙ ap₂ (λ (r : List ℕ) (rs : List (List ℕ)). (take L.line s ++ r) ∷ rs)
      (carried-addenda f (carried_pieces L s) (cuts L f ss)
      ∙ rw (carried-cuts ss hs, concat-carried L lawful f s) (append-nil (drop L.line s)))
      (joined-addenda f (carried_pieces L s) (cuts L f ss) ∙ joined-cuts ss hs)
      ∙ ap (λ (r : List ℕ). r ∷ ss) (take-append-drop L.line s))
