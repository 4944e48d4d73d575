-- Writing byte by byte: what one byte does by cases, that bytes are put one after the other, and what they keep.
-- Assumes nothing.
use mathlib.Core.Bool.{true, false}
use mathlib.Core.List.{List, [], ◌∷◌, ◌++◌}
use mathlib.Core.Path.{◌≡◌, refl, sym, ap, ap₂, ◌∙◌, subst}
use Prim.Native.Nat.{ℕ, zero, suc, ◌≤◌}
use native.Mathlib.Omega.{arith}
use lib.Dec.{eqb}
use lib.ListN.{length, length-set}
use lib.Seq.{length-sets}
use borrow.Author.Tests.{eqb-false, eq-eqb, ne_eqb}
use Rattle.laws.specs.Every.{none, also}
use Rattle.laws.proofs.Stores.{sets_first}
use Rattle.laws.proofs.Tests.{Tested, passed, failed, tested}
use Rattle.form.specs.declared.limits.Limits.{Limits}
use Rattle.line.specs.Lines.{CR}
use Rattle.line.specs.Joining.{letter_a}
use Rattle.write.specs.declared.lines.Going.{Going}
use Rattle.form.proofs.RoundedUp.{some_more}
use Rattle.write.specs.inner.Asked.{Opens, RoomForByte, RoomForEnd, ByteInside}
use Rattle.write.specs.inner.Filling.{Stand, stand, placed, filled, segment_closed, broken, line_opened, put_byte, puts, Fits, InSegment}

-- how far an output is written, from its three numbers
abbrev pub going : ℕ → ℕ → ℕ → Going
going out room lines = record { out = out; room = room; lines = lines }

pub same-going : {o o' r r' l l' : ℕ} → o ≡ o' → r ≡ r' → l ≡ l' → going o r l ≡ going o' r' l'
same-going p q s = cc

-- a number that is not 0 leaves room for one byte
pub some_left : (n : ℕ) → eqb n 0 ≡ false → 1 ≤ n
some_left zero h = absurd (eqb-false zero zero h refl)
some_left (suc n) h = omega arith

pub stand_self : (t : Stand) → t ≡ stand t.output (going t.going.out t.going.room t.going.lines)
stand_self t = refl

-- what a byte keeps: the output's length, and that lines are no more than bytes; the bytes written never get fewer
pub record Kept (s t : Stand) : Type 0 where
  pub same_length : length t.output ≡ length s.output
  pub onward : s.going.out ≤ t.going.out
  pub lines : s.going.lines ≤ s.going.out → t.going.lines ≤ t.going.out

pub kept_self : (s : Stand) → Kept s s
kept_self s = record { same_length = refl; onward = omega arith; lines = λ h. h }

pub kept_on : {s t u : Stand} → Kept s t → Kept t u → Kept s u
kept_on k l =
    record { same_length = l.same_length ∙ k.same_length; onward = omega arith; lines = λ h. l.lines (k.lines h) }

placed-kept : (s : Stand) (b : ℕ) → Kept s (placed s b)
unfolding placed
placed-kept s b = record { same_length = length-set s.output s.going.out b; onward = omega arith; lines = λ less. omega arith }

module _ (L : Limits) (f : ℕ) where
  -- one byte by cases
  pub opened_full : (s : Stand) → eqb s.going.room 0 ≡ true → line_opened L f s ≡ broken L f s
  unfolding line_opened
  opened_full s h = rw (h, line_opened)

  pub opened_room : (s : Stand) → eqb s.going.room 0 ≡ false → line_opened L f s ≡ s
  unfolding line_opened
  opened_room s h = rw (h, line_opened)

  pub put_close : (s : Stand) (b : ℕ) → eqb b CR ≡ true → put_byte L f s b ≡ segment_closed L s
  unfolding put_byte
  put_close s b h = rw (h, put_byte)

  pub put_open : (s : Stand) (b : ℕ) → eqb b CR ≡ false → put_byte L f s b ≡ placed (line_opened L f s) b
  unfolding put_byte
  put_open s b h = rw (h, put_byte)

  -- the steps of putting bytes
  pub puts_none : (s : Stand) → puts L f s [] ≡ s
  unfolding puts
  puts_none s = refl

  pub puts-more : (s : Stand) (b : ℕ) (x : List ℕ) → puts L f s (b ∷ x) ≡ puts L f (put_byte L f s b) x
  unfolding puts
  puts-more s b x = refl

  pub puts_one : (s : Stand) (b : ℕ) → puts L f s (b ∷ []) ≡ put_byte L f s b
  unfolding puts
  puts_one s b = refl

  pub puts-append : (s : Stand) (x y : List ℕ) → puts L f s (x ++ y) ≡ puts L f (puts L f s x) y
  unfolding puts
  puts-append s [] y = refl
  puts-append s (b ∷ x) y = puts-append (put_byte L f s b) x y

  pub opened_kept : (s : Stand) → Kept s (line_opened L f s)
  unfolding broken
  opened_kept s = go (tested (eqb s.going.room 0))
    where
      go : Tested (eqb s.going.room 0) → Kept s (line_opened L f s)
      go (passed h) =
          subst (Kept s) (sym (opened_full s h))
          (record { same_length = length-sets s.output s.going.out (CR ∷ letter_a ∷ f ∷ []); onward = omega arith; lines = λ less. omega arith })
      go (failed h) = subst (Kept s) (sym (opened_room s h)) (kept_self s)

  closed-kept : (s : Stand) → Kept s (segment_closed L s)
  unfolding segment_closed
  closed-kept s = record { same_length = length-set s.output s.going.out CR; onward = omega arith; lines = λ less. omega arith }

  pub put-kept : (s : Stand) (b : ℕ) → Kept s (put_byte L f s b)
  put-kept s b = go (tested (eqb b CR))
    where
      go : Tested (eqb b CR) → Kept s (put_byte L f s b)
      go (passed h) = subst (Kept s) (sym (put_close s b h)) (closed-kept s)
      go (failed h) = subst (Kept s) (sym (put_open s b h)) (kept_on (opened_kept s) (placed-kept (line_opened L f s) b))

  pub puts-kept : (s : Stand) (x : List ℕ) → Kept s (puts L f s x)
  unfolding puts
  puts-kept s [] = kept_self s
  puts-kept s (b ∷ x) = kept_on (put-kept s b) (puts-kept (put_byte L f s b) x)

  -- where bytes fit, the first of them do, and after these the others
  pub fits-first : (s : Stand) (x y : List ℕ) → Fits L f s (x ++ y) → Fits L f s x
  fits-first s x y w =
      record {
        holds = omega (arith, ap (λ (t : Stand). t.going.out) (puts-append s x y), (puts-kept (puts L f s x) y).onward, w.holds);
        lines = w.lines;
      }

  pub fits_next : (s : Stand) (x y : List ℕ) → Fits L f s (x ++ y) → Fits L f (puts L f s x) y
  fits_next s x y w =
      record {
        holds = omega (arith, ap (λ (t : Stand). t.going.out) (puts-append s x y), (puts-kept s x).same_length, w.holds);
        lines = (puts-kept s x).lines w.lines;
      }

  -- a byte that is no CR finds a line with room
  module _ (some : 1 ≤ L.more) where
    pub opened_some : (s : Stand) → 1 ≤ (line_opened L f s).going.room
    unfolding broken
    opened_some s = go (tested (eqb s.going.room 0))
      where
        go : Tested (eqb s.going.room 0) → 1 ≤ (line_opened L f s).going.room
        go (passed h) = subst (λ (t : Stand). 1 ≤ t.going.room) (sym (opened_full s h)) some
        go (failed h) =
            subst (λ (t : Stand). 1 ≤ t.going.room) (sym (opened_room s h))
            (some_left s.going.room h)

    pub opened_again : (s : Stand) → line_opened L f (line_opened L f s) ≡ line_opened L f s
    opened_again s =
        let room = opened_some s in
        opened_room (line_opened L f s) (ne_eqb (line_opened L f s).going.room 0 (λ e. omega arith))

    -- so it may be opened first
    pub puts_opened : (s : Stand) (b : ℕ) (x : List ℕ) → eqb b CR ≡ false → puts L f (line_opened L f s) (b ∷ x) ≡ puts L f s (b ∷ x)
    puts_opened s b x h =
        puts-more (line_opened L f s) b x
        ∙ ap (λ (t : Stand). puts L f t x)
        (put_open (line_opened L f s) b h ∙ ap (λ (t : Stand). placed t b) (opened_again s) ∙ sym (put_open s b h))
        ∙ sym (puts-more s b x)

  -- bytes that a line has room for go into it
  pub puts-room : (t : Stand) {x : List ℕ} → InSegment x → length x ≤ t.going.room
      → puts L f t x
      ≡ filled t x
  unfolding puts placed filled
  puts-room t none h =
      puts_none t ∙ stand_self t ∙ ap (stand t.output) (same-going (omega arith) (omega arith) refl)
  puts-room t (also {a} {s} w ws) h =
      let room : eqb t.going.room 0 ≡ false = ne_eqb t.going.room 0 (λ e. omega arith) in
      puts-more t a s
      ∙ ap (λ (u : Stand). puts L f u s) (put_open t a w ∙ ap (λ (u : Stand). placed u a) (opened_room t room))
      ∙ puts-room (placed t a) ws (omega arith)
      ∙ ap₂ stand (sym (sets_first t.output t.going.out a s)) (same-going (omega arith) (omega arith) refl)

  -- what the steps of one byte ask, where it fits
  pub break_fits : (s : Stand) → s.going.room ≡ 0 → Opens L f s → RoomForEnd s.going s.output 3
  unfolding broken
  break_fits s h w =
      record { within = omega (arith, w.holds, ap (λ (t : Stand). t.going.out) (opened_full s (eq-eqb s.going.room 0 h))); lines = w.lines }

  module _ (s : Stand) (b : ℕ) where
    put_wide : (b ≡ CR → ⊥) → (put_byte L f s b).going.out ≡ suc (line_opened L f s).going.out
    unfolding placed
    put_wide h = omega (arith, ap (λ (t : Stand). t.going.out) (put_open s b (ne_eqb b CR h)))

    pub open_fits : {x : List ℕ} → (b ≡ CR → ⊥) → Fits L f s (b ∷ x) → Opens L f s
    open_fits {x} h w =
        record {
          holds =
              omega (
                arith,
                put_wide h,
                (puts-kept (put_byte L f s b) x).onward,
                ap (λ (t : Stand). t.going.out) (puts-more s b x),
                w.holds,
              );
          lines = w.lines;
        }

    pub close_fits : b ≡ CR → Fits L f s (b ∷ []) → RoomForEnd s.going s.output 1
    unfolding segment_closed
    close_fits h w =
        record { within = omega (arith, ap (λ (t : Stand). t.going.out) (puts_one s b ∙ put_close s b (eq-eqb b CR h)), w.holds); lines = w.lines }

    -- and what they give
    pub closed-one : {t : Stand} → b ≡ CR → t ≡ segment_closed L s → t ≡ puts L f s (b ∷ [])
    closed-one h e = e ∙ sym (puts_one s b ∙ put_close s b (eq-eqb b CR h))

-- a byte inside a segment
module _ {L : Limits} {f : ℕ} {s : Stand} {b : ℕ} (w : ByteInside L f s b) where
  pub inside_opens : Opens L f s
  inside_opens = open_fits L f s b w.inside w.fits

  module _ {t : Stand} (e : t ≡ line_opened L f s) where
    pub place-fits : RoomForByte t.going t.output
    place-fits =
        subst (λ (u : Stand). RoomForByte u.going u.output) (sym e)
        (record {
          within =
              omega (
                arith,
                put_wide L f s b w.inside,
                ap (λ (u : Stand). u.going.out) (puts_one L f s b),
                (opened_kept L f s).same_length,
                w.fits.holds,
              );
          room = opened_some L f (some_more L w.lawful) s;
        })

    pub placed_one : {u : Stand} → u ≡ placed t b → u ≡ puts L f s (b ∷ [])
    placed_one d = d ∙ ap (λ (t : Stand). placed t b) e ∙ sym (puts_one L f s b ∙ put_open L f s b (ne_eqb b CR w.inside))
