-- The codes rise place by place exactly where the entries do.
-- Assumes nothing.
use mathlib.Core.Bool.{Bool, true, false, ◌&&◌}
use mathlib.Core.List.{List, []}
use mathlib.Core.Path.{◌≡◌, refl, sym, ap, ap₂, ◌∙◌}
use Prim.Native.Nat.{ℕ, zero, suc, ◌+◌, ◌*◌, ◌≤◌}
use native.Mathlib.Nat.{add-zero}
use native.Mathlib.Omega.{arith}
use borrow.Author.Tests.{leb-true}
use lib.Dec.{leb}
use lib.ListN.{length, get_or, take, drop, length-drop}
use lib.Seq.{get_or-take, get_or-drop, drop-drop, length-take-le}
use Rattle.laws.specs.Tables.{values}
use Rattle.laws.proofs.Parts.{part_taken}
use Rattle.laws.proofs.Tests.{Tested, passed, failed, tested}
use Rattle.index.specs.Order.{comes_before}
use Rattle.index.specs.Index.{code_most, place_size, length_of, entry_code, named_in, entry_at, entries_in, roomy, rises_after, rises, sound_index}
use Rattle.index.specs.inner.Comparing.{compared}
use Rattle.index.specs.inner.Rising.{length_at, is_length, is_behind, code_from, follows_at, rises_from, all_rise}
use Rattle.index.proofs.Sizes.{roomy_parts}
use Rattle.index.proofs.Orders.{behind-before, some-behind, is_before_lem, compared-order}

and_true : (b : Bool) → b ≡ (b && true)
and_true true = refl
and_true false = refl

module _ (codes counts : List ℕ) where
  -- the length and the code of an entry are those at its place
  pub length-there : (i : ℕ) → length_of (entry_at codes counts i) ≡ length_at codes i
  length-there i =
      get_or-take place_size (drop (i * place_size) codes) 0 0 (omega arith)
      ∙ get_or-drop (i * place_size) codes 0 0
      ∙ ap (λ (n : ℕ). get_or codes n 0) (add-zero (i * place_size))

  pub code-there : (i : ℕ) → length_at codes i ≤ code_most → entry_code (entry_at codes counts i) ≡ code_from codes (i * place_size)
  code-there i fits =
      ap (λ (n : ℕ). take n (drop 1 (take place_size (drop (i * place_size) codes)))) (length-there i)
      ∙ part_taken (drop (i * place_size) codes) 1 (length_at codes i) place_size (omega arith)
      ∙ ap (take (length_at codes i)) (drop-drop 1 (i * place_size) codes)

  -- a code of 1 byte or more is behind the empty one
  filled-behind : (at : ℕ) → 1 ≤ get_or codes at 0 → get_or codes at 0 + (at + 1) ≤ length codes → comes_before [] (code_from codes at) ≡ true
  filled-behind at some long =
      let n : length (code_from codes at) ≡ get_or codes at 0 =
      length-take-le (get_or codes at 0) (drop (at + 1) codes) (omega (arith, length-drop (at + 1) codes, long)) in
      is_before_lem [] (code_from codes at) (some-behind (code_from codes at) (omega (arith, n, some)))

  pub entry-behind : (i : ℕ) → suc i * place_size ≤ length codes → 1 ≤ length_of (entry_at codes counts i) → length_of (entry_at codes counts i) ≤ code_most
      → comes_before [] (entry_code (entry_at codes counts i)) ≡ true
  entry-behind i long some short =
      let n : length_at codes i ≤ code_most = omega (arith, length-there i, short) in
      ap (comes_before []) (code-there i n) ∙ filled-behind (i * place_size) (omega (arith, length-there i, some)) (omega (arith, n, long))

  -- the code at a place behind the one at another: as the codes of their entries stand
  behind-there : (at next : ℕ) → get_or codes at 0 + (at + 1) ≤ length codes
      → is_behind (compared (code_from codes next) (get_or codes at 0) (drop (at + 1) codes)) ≡ comes_before (code_from codes at) (code_from codes next)
  behind-there at next long =
      ap is_behind (compared-order (code_from codes next) (get_or codes at 0) (drop (at + 1) codes) (omega (arith, length-drop (at + 1) codes, long)))
      ∙ behind-before (code_from codes next) (code_from codes at)

  -- an entry by its two tests: without a code's length it ends the rise, with one the code before it and the entries behind it decide
  entry-rises : (last : List ℕ) (i n : ℕ) (b d : Bool)
      → (length_at codes i ≤ code_most → 1 ≤ length_at codes i → b ≡ comes_before last (code_from codes (i * place_size)))
      → (length_at codes i ≤ code_most → d ≡ rises_after (code_from codes (i * place_size)) (values (entry_at codes counts) (suc i) n))
      → (is_length (length_at codes i) && b && d) ≡ rises_after last (values (entry_at codes counts) i (suc n))
  unfolding rises_after values is_length
  entry-rises last i n b d first rest = go (tested (leb 1 (length_at codes i))) (tested (leb (length_at codes i) code_most))
    where
      go : Tested (leb 1 (length_at codes i)) → Tested (leb (length_at codes i) code_most)
          → (is_length (length_at codes i) && b && d) ≡ rises_after last (values (entry_at codes counts) i (suc n))
      go (failed t) u = rw (length-there i, t)
      go (passed t) (failed u) = rw (length-there i, t, u)
      go (passed t) (passed u) =
          let fits = leb-true (length_at codes i) code_most u in
          ap₂ (λ (b d : Bool). (leb 1 (length_at codes i) && leb (length_at codes i) code_most) && b && d)
          (first fits (leb-true 1 (length_at codes i) t)) (rest fits)
          ∙ (rw (t, u))
          ∙ sym
          (ap₂
          (λ (k : ℕ) (d : List ℕ).
          leb 1 k && leb k code_most && comes_before last d && rises_after d (values (entry_at codes counts) (suc i) n))
          (length-there i) (code-there i fits))

  none_left : (last : List ℕ) (i : ℕ) → true ≡ rises_after last (values (entry_at codes counts) i 0)
  unfolding rises_after values
  none_left last i = refl

  -- the places behind place i
  places_behind : (n i : ℕ) → length_at codes i ≤ code_most → (suc i + n) * place_size ≤ length codes
      → rises_from codes (i * place_size) n ≡ rises_after (code_from codes (i * place_size)) (values (entry_at codes counts) (suc i) n)
  unfolding rises_from follows_at
  places_behind zero i fits long = none_left (code_from codes (i * place_size)) (suc i)
  places_behind (suc n) i fits long =
      ap
      (λ (at : ℕ).
      is_length (get_or codes at 0) && is_behind (compared (code_from codes at) (length_at codes i) (drop (i * place_size + 1) codes))
      && rises_from codes at n)
      (let e : i * place_size + place_size ≡ suc i * place_size = omega arith in e)
      ∙ entry-rises (code_from codes (i * place_size)) (suc i) n
      (is_behind (compared (code_from codes (suc i * place_size)) (length_at codes i) (drop (i * place_size + 1) codes)))
      (rises_from codes (suc i * place_size) n)
      (λ short some. behind-there (i * place_size) (suc i * place_size) (omega (arith, fits, long)))
      (λ short. places_behind n (suc i) short (omega (arith, long)))

  all_rise_lem : (n : ℕ) → n * place_size ≤ length codes → all_rise codes n ≡ rises (values (entry_at codes counts) 0 n)
  unfolding all_rise
  all_rise_lem zero long = none_left [] 0
  all_rise_lem (suc n) long =
      ap (λ (b : Bool). b && rises_from codes 0 n) (and_true (is_length (length_at codes 0)))
      ∙ entry-rises [] 0 n true (rises_from codes 0 n)
      (λ short some. sym (filled-behind (0 * place_size) some (omega (arith, short, long))))
      (λ short. places_behind n 0 short (omega (arith, long)))

  -- of roomy buffers
  pub sound-decided : roomy codes counts ≡ true → all_rise codes (named_in counts) ≡ sound_index codes counts
  unfolding sound_index entries_in
  sound-decided e =
      let r = roomy_parts codes counts e in
      rw e (all_rise_lem (named_in counts) (omega (arith, r.codes_room, r.few_named)))

  pub not_roomy_sound : roomy codes counts ≡ false → false ≡ sound_index codes counts
  unfolding sound_index
  not_roomy_sound e = rw e
