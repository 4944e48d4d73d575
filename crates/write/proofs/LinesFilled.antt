-- Bytes put one after the other are the lines of the cut segments (W1).
-- Assumes nothing.
use mathlib.Core.Bool.{true, false}
use mathlib.Core.List.{List, [], ◌∷◌, ◌++◌}
use mathlib.Core.Path.{◌≡◌, refl, sym, ap, ap₂, ◌∙◌}
use Prim.Native.Nat.{ℕ, suc, ◌+◌, ◌-◌, ◌≤◌}
use native.Mathlib.Omega.{arith}
use lib.Dec.{eqb}
use lib.ListN.{length, take, drop}
use lib.Seq.{sets, take-nil, drop-nil}
use borrow.Author.Tests.{eqb-true}
use Rattle.laws.proofs.Stores.{sets_first, sets-append}
use Rattle.laws.proofs.Tests.{Tested, passed, failed, tested}
use Rattle.form.specs.declared.limits.Limits.{Limits}
use Rattle.form.specs.Limits.{Lawful}
use Rattle.form.proofs.RoundedUp.{some_more}
use Rattle.line.specs.Lines.{CR}
use Rattle.line.specs.Joining.{letter_a}
use Rattle.line.specs.Cutting.{addenda, cut, cuts, unlines}
use Rattle.line.proofs.Cutting.{filled, filled_none, filled_more, addenda_nil, addenda_cons, cut-addenda, carried-filled, cuts_nil, cuts_cons}
use Rattle.table.specs.Leaves.{onto, split}
use Rattle.table.proofs.Splitting.{first_part, other_parts, first_ends, first_more, others_begin, others-later, split_parts}
use Rattle.write.specs.inner.Filling.{Stand, stand, placed, segment_closed, broken, puts}
use Rattle.write.proofs.Filling.{going, same-going, some_left, opened_full, opened_room, put_close, put_open}

module _ (L : Limits) (lawful : Lawful L) (f : ℕ) where
  -- the lines of a segment, and of a text with CR between its segments, where the line begun still holds some bytes
  lines_of_one : ℕ → List ℕ → List (List ℕ)
  lines_of_one room s = take room s ∷ addenda f (filled L.more (drop room s))

  lines_left : ℕ → List ℕ → List (List ℕ)
  lines_left room x = lines_of_one room (first_part CR x) ++ cuts L f (other_parts CR x)

  one_none : (room : ℕ) → lines_of_one room [] ≡ [] ∷ []
  unfolding lines_of_one
  one_none room =
      ap₂ (λ (s t : List ℕ). s ∷ addenda f (filled L.more t)) (take-nil room) (drop-nil room)
      ∙ ap (λ (ts : List (List ℕ)). [] ∷ addenda f ts) (filled_none L.more (some_more L lawful))
      ∙ ap (λ (ts : List (List ℕ)). [] ∷ ts) (addenda_nil f)

  one-cut : (s : List ℕ) → lines_of_one L.line s ≡ cut L f s
  unfolding lines_of_one
  one-cut s =
      sym (cut-addenda L lawful f s ∙ ap (λ (ts : List (List ℕ)). take L.line s ∷ addenda f ts) (carried-filled L lawful f s))

  -- from an empty line on they are the cut segments
  left_cuts : (x : List ℕ) → lines_left L.line x ≡ cuts L f (split CR x)
  unfolding lines_left
  left_cuts x =
      ap (λ (ls : List (List ℕ)). ls ++ cuts L f (other_parts CR x)) (one-cut (first_part CR x))
      ∙ sym (cuts_cons L f (first_part CR x) (other_parts CR x))
      ∙ ap (cuts L f) (sym (split_parts CR x))

  left-none : (room : ℕ) → lines_left room [] ≡ [] ∷ []
  unfolding lines_left first_part other_parts
  left-none room = ap₂ (λ (ls ks : List (List ℕ)). ls ++ ks) (one_none room) (cuts_nil L f)

  module _ (b : ℕ) (x : List ℕ) where
    -- CR ends the line begun
    left-closed : (room : ℕ) → eqb b CR ≡ true → lines_left room (b ∷ x) ≡ [] ∷ lines_left L.line x
    unfolding lines_left
    left-closed room h =
        ap₂ (λ (s : List ℕ) (ss : List (List ℕ)). lines_of_one room s ++ cuts L f ss) (first_ends CR b x h) (others_begin CR b x h)
        ∙ ap (λ (ls : List (List ℕ)). ls ++ cuts L f (split CR x)) (one_none room)
        ∙ ap (λ (ls : List (List ℕ)). [] ∷ ls) (sym (left_cuts x))

    begun : (room : ℕ) → eqb b CR ≡ false
        → lines_left room (b ∷ x) ≡ lines_of_one room (b ∷ first_part CR x) ++ cuts L f (other_parts CR x)
    unfolding lines_left
    begun room h =
        ap₂ (λ (s : List ℕ) (ss : List (List ℕ)). lines_of_one room s ++ cuts L f ss) (first_more CR b x h) (others-later CR b x h)

    -- a byte goes into the line begun where that has room
    left-placed : (room : ℕ) → 1 ≤ room → eqb b CR ≡ false → lines_left room (b ∷ x) ≡ onto b (lines_left (room - 1) x)
    unfolding lines_left lines_of_one onto
    left-placed room some h =
        begun room h
        ∙ ap (λ (n : ℕ). lines_of_one n (b ∷ first_part CR x) ++ cuts L f (other_parts CR x)) (let e : room ≡ suc (room - 1) = omega arith in e)

    -- and else into an addendum
    left-broken : eqb b CR ≡ false → lines_left 0 (b ∷ x) ≡ [] ∷ onto letter_a (onto f (onto b (lines_left (L.more - 1) x)))
    unfolding lines_left lines_of_one onto
    left-broken h =
        begun 0 h
        ∙ ap (λ (ts : List (List ℕ)). ([] ∷ addenda f ts) ++ cuts L f (other_parts CR x))
        (filled_more L.more (b ∷ first_part CR x) (some_more L lawful) (omega arith)
        ∙ ap (λ (n : ℕ). take n (b ∷ first_part CR x) ∷ filled L.more (drop n (b ∷ first_part CR x))) (let some = some_more L lawful in let e : L.more ≡ suc (L.more - 1) = omega arith in e))
        ∙ ap (λ (ls : List (List ℕ)). ([] ∷ ls) ++ cuts L f (other_parts CR x))
        (addenda_cons f (b ∷ take (L.more - 1) (first_part CR x)) (filled L.more (drop (L.more - 1) (first_part CR x))))

  -- the output once some lines are written, the first of which goes on the line begun
  ended : Stand → List (List ℕ) → Stand
  ended s ls =
      stand (sets s.output s.going.out (unlines ls))
      (going (s.going.out + length (unlines ls)) L.line (s.going.lines + length ls))

  ended-closed : (s : Stand) (ls : List (List ℕ)) → ended (segment_closed L s) ls ≡ ended s ([] ∷ ls)
  unfolding ended segment_closed unlines
  ended-closed s ls =
      ap₂ stand (sym (sets_first s.output s.going.out CR (unlines ls))) (same-going (omega arith) refl (omega arith))

  ended-placed : (s : Stand) (b : ℕ) (l : List ℕ) (ls : List (List ℕ)) → ended (placed s b) (l ∷ ls) ≡ ended s (onto b (l ∷ ls))
  unfolding ended placed unlines onto
  ended-placed s b l ls =
      ap₂ stand (sym (sets_first s.output s.going.out b (unlines (l ∷ ls)))) (same-going (omega arith) refl (omega arith))

  ended-broken : (s : Stand) (l : List ℕ) (ls : List (List ℕ)) → ended (broken L f s) (l ∷ ls) ≡ ended s ([] ∷ onto letter_a (onto f (l ∷ ls)))
  unfolding ended broken unlines onto
  ended-broken s l ls =
      ap₂ stand (sets-append s.output s.going.out (CR ∷ letter_a ∷ f ∷ []) (unlines (l ∷ ls)))
      (same-going (omega arith) refl (omega arith))

  -- one byte more, by cases
  module _ (s : Stand) (b : ℕ) (x : List ℕ) where
    step-closed : eqb b CR ≡ true → ended (segment_closed L s) (lines_left L.line x) ≡ ended s (lines_left s.going.room (b ∷ x))
    step-closed h = ended-closed s (lines_left L.line x) ∙ ap (ended s) (sym (left-closed b x s.going.room h))

    step-placed : eqb b CR ≡ false → 1 ≤ s.going.room
        → ended (placed s b) (lines_left (s.going.room - 1) x) ≡ ended s (lines_left s.going.room (b ∷ x))
    unfolding lines_left lines_of_one
    step-placed h some =
        ended-placed s b (take (s.going.room - 1) (first_part CR x))
        (addenda f (filled L.more (drop (s.going.room - 1) (first_part CR x))) ++ cuts L f (other_parts CR x))
        ∙ ap (ended s) (sym (left-placed b x s.going.room some h))

    step-broken : eqb b CR ≡ false → s.going.room ≡ 0
        → ended (placed (broken L f s) b) (lines_left (L.more - 1) x) ≡ ended s (lines_left s.going.room (b ∷ x))
    unfolding lines_left lines_of_one onto
    step-broken h full =
        ended-placed (broken L f s) b (take (L.more - 1) (first_part CR x)) rest
        ∙ ended-broken s (b ∷ take (L.more - 1) (first_part CR x)) rest
        ∙ ap (ended s) (sym (left-broken b x h) ∙ ap (λ (n : ℕ). lines_left n (b ∷ x)) (sym full))
      where
        rest : List (List ℕ)
        rest = addenda f (filled L.more (drop (L.more - 1) (first_part CR x))) ++ cuts L f (other_parts CR x)

  -- a text and a last CR are the lines of its segments
  lines_from : (x : List ℕ) (s : Stand) → puts L f s (x ++ (CR ∷ [])) ≡ ended s (lines_left s.going.room x)
  unfolding puts ended segment_closed placed broken unlines
  lines_from [] s = put_close L f s CR refl ∙ sym (ap (ended s) (left-none s.going.room))
  lines_from (b ∷ x) s = go (tested (eqb b CR)) (tested (eqb s.going.room 0)) (lines_from x)
    where
      go : Tested (eqb b CR) → Tested (eqb s.going.room 0)
          → ((t : Stand) → puts L f t (x ++ (CR ∷ [])) ≡ ended t (lines_left t.going.room x))
          → puts L f s (b ∷ (x ++ (CR ∷ []))) ≡ ended s (lines_left s.going.room (b ∷ x))
      go (passed h) r ih =
          ap (λ (t : Stand). puts L f t (x ++ (CR ∷ []))) (put_close L f s b h) ∙ ih (segment_closed L s) ∙ step-closed s b x h
      go (failed h) (failed r) ih =
          ap (λ (t : Stand). puts L f t (x ++ (CR ∷ []))) (put_open L f s b h ∙ ap (λ (t : Stand). placed t b) (opened_room L f s r))
          ∙ ih (placed s b)
          ∙ step-placed s b x h (some_left s.going.room r)
      go (failed h) (passed r) ih =
          ap (λ (t : Stand). puts L f t (x ++ (CR ∷ []))) (put_open L f s b h ∙ ap (λ (t : Stand). placed t b) (opened_full L f s r))
          ∙ ih (placed (broken L f s) b)
          ∙ step-broken s b x h (eqb-true s.going.room 0 r)

  -- from the front of an output on
  pub lines-filled : (output x : List ℕ)
      → puts L f (stand output (going 0 L.line 0)) (x ++ (CR ∷ []))
      ≡ stand (sets output 0 (unlines (cuts L f (split CR x))))
      (going (length (unlines (cuts L f (split CR x)))) L.line (length (cuts L f (split CR x))))
  unfolding ended
  lines-filled output x =
      lines_from x (stand output (going 0 L.line 0))
      ∙ ap (ended (stand output (going 0 L.line 0))) (left_cuts x)
      ∙ ap (stand (sets output 0 (unlines (cuts L f (split CR x))))) (same-going (omega arith) refl (omega arith))
