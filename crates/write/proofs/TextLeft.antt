-- Putting a text, line by line: what is left of it gives the whole.
-- Assumes nothing.
use mathlib.Core.Bool.{false}
use mathlib.Core.List.{List, [], ◌∷◌, ◌++◌}
use mathlib.Core.Path.{◌≡◌, refl, sym, ap, ap₂, ◌∙◌, subst}
use Prim.Native.Nat.{ℕ, ◌+◌, ◌-◌, ◌*◌, ◌≤◌, ◌<◌}
use native.Mathlib.Omega.{arith}
use lib.Dec.{eqb}
use lib.ListN.{length, get_or, take, drop, set, length-set, length-take, length-drop}
use lib.Seq.{sets, drop-length}
use Rattle.std.proofs.lemmas.List.{take-append-drop}
use borrow.Author.Tests.{eqb-false, eq-eqb}
use Rattle.laws.proofs.Every.{all_first, all_left, all_right}
use Rattle.laws.proofs.Parts.{left_cons}
use Rattle.laws.proofs.Stores.{sets_first}
use Rattle.form.specs.declared.limits.Limits.{Limits}
use Rattle.line.specs.Lines.{CR}
use Rattle.form.specs.Limits.{Lawful}
use Rattle.form.proofs.RoundedUp.{some_more}
use Rattle.write.specs.inner.Asked.{RoomForText, RoomForEnd}
use Rattle.write.specs.inner.Filling.{Stand, filled, broken, line_opened, puts, Fits, InSegment}
use Rattle.write.proofs.Filling.{puts-append, puts_opened, puts-room, opened_kept, opened_full, puts-kept, fits-first, fits_next, open_fits, break_fits}

-- copying: what is left to copy from i on gives the whole
pub record Copying (text output₀ : List ℕ) (out : ℕ) (output : List ℕ) (i : ℕ) : Type 0 where
  pub up_to : i ≤ length text
  pub same : length output ≡ length output₀
  pub stored : sets output (out + i) (drop i text) ≡ sets output₀ out text

pub copying_begins : (text output : List ℕ) (out : ℕ) → Copying text output out output 0
copying_begins text output out =
    record { up_to = omega arith; same = refl; stored = ap (λ (o : ℕ). sets output o text) (let e : out + 0 ≡ out = omega arith in e) }

module _ {text output₀ : List ℕ} {out : ℕ} {output : List ℕ} {i : ℕ} (w : Copying text output₀ out output i) where
  pub copying_more : i < length text → Copying text output₀ out (set output (out + i) (get_or text i 0)) (i + 1)
  copying_more less =
      record {
        up_to = omega arith;
        same = length-set output (out + i) (get_or text i 0) ∙ w.same;
        stored =
            ap (λ (o : ℕ). sets (set output (out + i) (get_or text i 0)) o (drop (i + 1) text)) (let e : out + (i + 1) ≡ out + i + 1 = omega arith in e)
            ∙ sym (sets_first output (out + i) (get_or text i 0) (drop (i + 1) text))
            ∙ ap (sets output (out + i)) (sym (left_cons text i 0 less))
            ∙ w.stored;
      }

  pub copying_done : length text ≤ i → output ≡ sets output₀ out text
  copying_done past =
      let all : i ≡ length text = omega (arith, w.up_to) in
      let none : drop i text ≡ [] = rw all (drop-length text) in
      sym (ap (sets output (out + i)) none) ∙ w.stored

pub record TextLeft (L : Limits) (f : ℕ) (s₀ : Stand) (whole : List ℕ) (s : Stand) (left : List ℕ) : Type 0 where
  pub in_segment : InSegment left
  pub fits : Fits L f s left
  pub same : length s.output ≡ length s₀.output
  pub gives : puts L f s left ≡ puts L f s₀ whole

-- one turn: more is left than the line has room for, so it is filled and broken
module _ {L : Limits} {f : ℕ} {s₀ : Stand} {whole : List ℕ} {s : Stand} {left : List ℕ}
    (w : TextLeft L f s₀ whole s left) (lawful : Lawful L) (more : s.going.room < length left)
    {bytes others : List ℕ} (front : bytes ≡ take s.going.room left) (back : others ≡ drop s.going.room left) where
  abbrev count : ℕ
  count = s.going.room

  size : length bytes ≡ count
  size = omega (arith, ap length front, length-take count left)

  halves : left ≡ bytes ++ others
  halves = sym (ap₂ (λ (x y : List ℕ). x ++ y) front back ∙ take-append-drop count left)

  in_bytes : InSegment bytes
  in_bytes = all_left bytes others (subst InSegment halves w.in_segment)

  in_others : InSegment others
  in_others = all_right bytes others (subst InSegment halves w.in_segment)

  poured : puts L f s bytes ≡ filled s bytes
  poured = puts-room L f s in_bytes (omega (arith, size))

  pub text-fits : RoomForText s.going s.output bytes
  unfolding filled
  text-fits =
      record {
        within = omega (arith, ap (λ (u : Stand). u.going.out) poured, (fits-first L f s bytes others (subst (Fits L f s) halves w.fits)).holds);
        room = omega (arith, size);
      }

  module _ {full : Stand} (d : full ≡ filled s bytes) where
    is_put : full ≡ puts L f s bytes
    is_put = d ∙ sym poured

    no_room : full.going.room ≡ 0
    unfolding filled
    no_room = omega (arith, ap (λ (u : Stand). u.going.room) d, size)

    first : others ≡ get_or left count 0 ∷ drop (count + 1) left
    first = back ∙ left_cons left count 0 more

    no_CR : eqb (get_or left count 0) CR ≡ false
    no_CR = all_first (subst InSegment first in_others)

    others_fit : Fits L f full others
    others_fit = subst (λ (u : Stand). Fits L f u others) (sym is_put) (fits_next L f s bytes others (subst (Fits L f s) halves w.fits))

    pub text-broken : RoomForEnd full.going full.output 3
    text-broken =
        break_fits L f full no_room
        (open_fits L f full (get_or left count 0) (eqb-false (get_or left count 0) CR no_CR) (subst (Fits L f full) first others_fit))

    kept : length full.output ≡ length s₀.output
    kept = ap (λ (u : Stand). length u.output) is_put ∙ (puts-kept L f s bytes).same_length ∙ w.same

    opens : line_opened L f full ≡ broken L f full
    opens = opened_full L f full (eq-eqb full.going.room 0 no_room)

    pub text_turn : {t : Stand} → t ≡ broken L f full → TextLeft L f s₀ whole t others
    text_turn {t} e =
        let same-puts : puts L f t others ≡ puts L f full others =
        ap (λ (u : Stand). puts L f u others) (e ∙ sym opens)
        ∙ ap (puts L f (line_opened L f full)) first
        ∙ puts_opened L f (some_more L lawful) full (get_or left count 0) (drop (count + 1) left) no_CR
        ∙ ap (puts L f full) (sym first) in
        let same_size : length t.output ≡ length full.output = ap (λ (u : Stand). length u.output) (e ∙ sym opens) ∙ (opened_kept L f full).same_length in
        record {
          in_segment = in_others;
          fits =
              record {
                holds = omega (arith, ap (λ (u : Stand). u.going.out) same-puts, same_size, others_fit.holds);
                lines =
                    subst (λ (u : Stand). u.going.lines ≤ u.going.out) (sym (e ∙ sym opens)) ((opened_kept L f full).lines others_fit.lines);
              };
          same = same_size ∙ kept;
          gives =
              same-puts
              ∙ ap (λ (u : Stand). puts L f u others) is_put
              ∙ sym (puts-append L f s bytes others)
              ∙ ap (puts L f s) (sym halves)
              ∙ w.gives;
        }

    -- a turn takes a byte at least, or finds a full line and leaves one with room
    pub text_less : {t : Stand} → t ≡ broken L f full → length others * 2 + (1 - t.going.room) < length left * 2 + (1 - s.going.room)
    unfolding broken
    text_less {t} e =
        let roomy : t.going.room ≡ L.more = ap (λ (u : Stand). u.going.room) e in omega (arith, some_more L lawful, ap length back, length-drop count left)

-- at last the line has room for all that is left
module _ {L : Limits} {f : ℕ} {s₀ : Stand} {whole : List ℕ} {s : Stand} {left : List ℕ}
    (w : TextLeft L f s₀ whole s left) (roomy : length left ≤ s.going.room) where
  rest_poured : puts L f s left ≡ filled s left
  rest_poured = puts-room L f s w.in_segment roomy

  pub rest-fits : RoomForText s.going s.output left
  unfolding filled
  rest-fits = record { within = omega (arith, ap (λ (u : Stand). u.going.out) rest_poured, w.fits.holds); room = roomy }

  module _ {t : Stand} (d : t ≡ filled s left) where
    pub text-done : t ≡ puts L f s₀ whole
    text-done = d ∙ sym rest_poured ∙ w.gives
