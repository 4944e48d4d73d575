-- The header rule by its seven bytes (H1, H2): a header is sound exactly where the message begins with them.
-- Assumes nothing.
use mathlib.Core.Bool.{false}
use mathlib.Core.List.{List, [], ◌∷◌}
use mathlib.Core.Path.{◌≡◌, refl, ap}
use Prim.Native.Nat.{ℕ, ◌≤◌}
use native.Mathlib.Omega.{arith}
use lib.Dec.{eqb, lit≤}
use lib.ListN.{length, take}
use borrow.Author.Tests.{ne_eqb}
use Rattle.laws.specs.Every.{none, also}
use Rattle.form.specs.declared.separators.Separators.{Separators}
use Rattle.form.specs.declared.separators.Header.TheVariants.{Sound}
use Rattle.form.specs.Header.{separators_of, header_of}
use Rattle.form.proofs.HeaderRule.{Allowed, AllAllowed, AllDifferent, SoundHeader, header-sound}
use Rattle.line.specs.Lines.{CR, space}
use Rattle.line.specs.inner.Sound.{Text}
use Rattle.table.specs.inner.Flat.{Without}
use Rattle.table.specs.inner.Filed.{header_bytes}

-- separators from the five bytes
unfoldable pub from_bytes : ℕ → ℕ → ℕ → ℕ → ℕ → Separators
from_bytes f s r e x = record { field = f; subfield = s; repeater = r; escape = e; subsubfield = x }

-- the first seven bytes of a message with a sound header
pub header-bytes : (ps : Separators) (s : List ℕ) → SoundHeader s ps → take 7 s ≡ header_bytes ps
unfolding header_bytes separators_of
header-bytes ps [] w = absurd (omega (arith, w.long))
header-bytes ps (a ∷ []) w = absurd (omega (arith, w.long))
header-bytes ps (a ∷ b ∷ []) w = absurd (omega (arith, w.long))
header-bytes ps (a ∷ b ∷ c ∷ []) w = absurd (omega (arith, w.long))
header-bytes ps (a ∷ b ∷ c ∷ d ∷ []) w = absurd (omega (arith, w.long))
header-bytes ps (a ∷ b ∷ c ∷ d ∷ e ∷ []) w = absurd (omega (arith, w.long))
header-bytes ps (a ∷ b ∷ c ∷ d ∷ e ∷ f ∷ []) w = absurd (omega (arith, w.long))
header-bytes ps (a ∷ b ∷ c ∷ d ∷ e ∷ f ∷ g ∷ s) w =
    let field : ps.field ≡ b = ap (λ (q : Separators). q.field) w.separators in
    let subfield : ps.subfield ≡ c = ap (λ (q : Separators). q.subfield) w.separators in
    let repeater : ps.repeater ≡ d = ap (λ (q : Separators). q.repeater) w.separators in
    let escape : ps.escape ≡ e = ap (λ (q : Separators). q.escape) w.separators in
    let subsubfield : ps.subsubfield ≡ f = ap (λ (q : Separators). q.subsubfield) w.separators in
    let letter : a ≡ 72 = w.letter in
    let again : g ≡ ps.field = w.again in
    cc

-- and a message that begins so has a sound header
module _ (ps : Separators) (allowed : AllAllowed ps) (different : AllDifferent ps) where
  pub bytes-header : (s : List ℕ) → take 7 s ≡ header_bytes ps → SoundHeader s ps
  unfolding header_bytes separators_of from_bytes
  bytes-header [] h = absurd (omega (arith, ap length h))
  bytes-header (a ∷ []) h = absurd (omega (arith, ap length h))
  bytes-header (a ∷ b ∷ []) h = absurd (omega (arith, ap length h))
  bytes-header (a ∷ b ∷ c ∷ []) h = absurd (omega (arith, ap length h))
  bytes-header (a ∷ b ∷ c ∷ d ∷ []) h = absurd (omega (arith, ap length h))
  bytes-header (a ∷ b ∷ c ∷ d ∷ e ∷ []) h = absurd (omega (arith, ap length h))
  bytes-header (a ∷ b ∷ c ∷ d ∷ e ∷ f ∷ []) h = absurd (omega (arith, ap length h))
  bytes-header (a ∷ b ∷ c ∷ d ∷ e ∷ f ∷ g ∷ s) h =
      record {
        separators =
            let made : from_bytes ps.field ps.subfield ps.repeater ps.escape ps.subsubfield ≡ from_bytes b c d e f = cc in made;
        long = omega arith;
        letter = cc;
        again = cc;
        allowed = allowed;
        different = different;
      }

  pub bytes-sound : (s : List ℕ) → take 7 s ≡ header_bytes ps → header_of s ≡ Sound ps
  bytes-sound s h = header-sound s ps (bytes-header s h)

-- the seven bytes are text
module _ (ps : Separators) (allowed : AllAllowed ps) where
  text_byte : {b : ℕ} → Allowed b → space ≤ b
  text_byte w = omega (arith, w.low)

  clear_byte : {b : ℕ} → Allowed b → eqb b CR ≡ false
  clear_byte {b} w = ne_eqb b CR (λ e. omega (arith, w.low))

  pub header-text : Text (header_bytes ps)
  unfolding header_bytes
  header-text =
      also (lit≤ tt)
      (also (text_byte allowed.field)
      (also (text_byte allowed.subfield)
      (also (text_byte allowed.repeater)
      (also (text_byte allowed.escape) (also (text_byte allowed.subsubfield) (also (text_byte allowed.field) none))))))

  pub header-clear : Without CR (header_bytes ps)
  unfolding header_bytes
  header-clear =
      also refl
      (also (clear_byte allowed.field)
      (also (clear_byte allowed.subfield)
      (also (clear_byte allowed.repeater)
      (also (clear_byte allowed.escape) (also (clear_byte allowed.subsubfield) (also (clear_byte allowed.field) none))))))
