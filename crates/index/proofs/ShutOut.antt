-- What the contracts rule out: a finder that misses a code or comes to its neighbour; a judge that takes a code twice or an empty one, or looks
-- behind the codes; answers that count the places, count nought for no code, or number from nought; a tally that leaves the message out, goes
-- past the last number, or changes though it is full.
-- Assumes nothing.
use mathlib.Core.Bool.{Bool, true, false, ◌&&◌, ◌||◌}
use mathlib.Core.List.{List, []}
use mathlib.Core.Logic.{◌⊎◌, inl, inr}
use mathlib.Core.Path.{◌≡◌, refl, sym, ap, ap₂, ◌∙◌}
use Prim.Native.Nat.{ℕ, zero, suc, ◌+◌, ◌-◌, ◌*◌, ◌<◌, ◌≤◌}
use native.Mathlib.Omega.{arith}
use borrow.Author.Tests.{le-leb}
use lib.Dec.{leb}
use lib.ListN.{length}
use Rattle.laws.specs.Tables.{values}
use Rattle.laws.proofs.Tests.{Tested, passed, failed, tested, never_both, or_first, or_second}
use Rattle.index.specs.declared.finding.Found.{Found}
use Rattle.index.specs.declared.asking.Codes.{Codes}
use Rattle.index.specs.declared.asking.Codes.TheVariants as C
use Rattle.index.specs.declared.asking.Count.{Count}
use Rattle.index.specs.declared.asking.Count.TheVariants as N
use Rattle.index.specs.declared.asking.Code.{Code}
use Rattle.index.specs.declared.asking.Code.TheVariants as K
use Rattle.index.specs.declared.tally.Tally.{Tally}
use Rattle.index.specs.declared.tally.Tallied.{Tallied}
use Rattle.index.specs.Order.{byte_order, comes_before}
use Rattle.index.specs.Index.{Entry, codes_most, code_most, place_size, counts_past, length_of, entry_code, named_in, entry_at, entries_in}
use Rattle.index.specs.Index.{roomy, rises_after, rises, sound_index, names, count_of}
use Rattle.index.specs.Finding.{place_found, codes_asked, count_asked, code_asked}
use Rattle.index.specs.Tallying.{with_message, tally_too_large, tallied}
use Rattle.index.proofs.Orders.{before_not_same, order_self}
use Rattle.index.proofs.Entries.{length-entries, entry-there}
use Rattle.index.proofs.RisingEntries.{length-there}
use Rattle.index.proofs.Halved.{rises-between, sound-rises, place-filled}
use Rattle.index.proofs.Asked.{some-codes, no_code, code_zero}
use Rattle.index.proofs.Answered.{finds_code, count_answered, code_answered}

-- what meets the contract of `find`, of a sound index
module _ (codes counts code : List ℕ) (sound : sound_index codes counts ≡ true) {r : Found} (meets : r ≡ place_found codes counts code) where
  -- a finder that misses a code that is named
  pub misses_a_code : names (entries_in codes counts) code ≡ true → r.named ≡ false → ⊥
  misses_a_code n e = never_both (ap (λ (f : Found). f.named) meets ∙ (finds_code codes counts sound code).name ∙ n) e

  -- a finder that comes to a place next to the code's own, or to any other
  pub finds_a_neighbour : r.named ≡ true → (entry_code (entry_at codes counts r.at) ≡ code → ⊥) → ⊥
  finds_a_neighbour e other =
      let at = (place_found codes counts code).at in
      let here = (finds_code codes counts sound code).here (ap (λ (f : Found). f.named) (sym meets) ∙ e) in
      other
      (ap (λ (f : Found). entry_code (entry_at codes counts f.at)) meets
      ∙ ap (λ (e : Entry). entry_code e) (sym (entry-there codes counts at (omega (arith, here.inside, length-entries codes counts))))
      ∙ here.code)

-- what meets the contract of `is_sound`
module _ (codes counts : List ℕ) {r : Bool} (meets : r ≡ sound_index codes counts) where
  -- a judge that takes a code twice, at places next to each other or further apart
  pub takes_a_code_twice : (i j : ℕ) → i < j → j < named_in counts → entry_code (entry_at codes counts i) ≡ entry_code (entry_at codes counts j)
      → r ≡ true → ⊥
  takes_a_code_twice i j h k twice e =
      before_not_same
      (rises-between [] (entries_in codes counts) (sound-rises codes counts (sym meets ∙ e)) i j h (omega (arith, k, length-entries codes counts)))
      (ap₂ (λ (d e : Entry). byte_order (entry_code d) (entry_code e)) (entry-there codes counts i (omega (arith, h, k))) (entry-there codes counts j k)
      ∙ ap (byte_order (entry_code (entry_at codes counts i))) (sym twice)
      ∙ order_self (entry_code (entry_at codes counts i)))

  -- a judge that takes an empty code
  pub takes_an_empty_code : (i : ℕ) → i < named_in counts → length_of (entry_at codes counts i) ≡ 0 → r ≡ true → ⊥
  takes_an_empty_code i h empty e = omega (arith, place-filled codes counts (sym meets ∙ e) i h, length-there codes counts i, empty)

-- entries of the same lengths and codes rise alike, whatever else stands in their places, and however often they were counted
alike_rise : (f g : ℕ → Entry) (i n : ℕ) (last : List ℕ)
    → ((k : ℕ) → i ≤ k → k < i + n → length_of (f k) ≡ length_of (g k)) → ((k : ℕ) → i ≤ k → k < i + n → entry_code (f k) ≡ entry_code (g k))
    → rises_after last (values f i n) ≡ rises_after last (values g i n)
unfolding rises_after values
alike_rise f g i zero last long code = refl
alike_rise f g i (suc n) last long code =
    ap (λ (b : Bool). leb 1 (length_of (f i)) && leb (length_of (f i)) code_most && comes_before last (entry_code (f i)) && b)
    (alike_rise f g (suc i) n (entry_code (f i)) (λ k low high. long k (omega arith) (omega arith)) (λ k low high. code k (omega arith) (omega arith)))
    ∙ ap₂ (λ (m : ℕ) (c : List ℕ). leb 1 m && leb m code_most && comes_before last c && rises_after c (values g (suc i) n))
    (long i (omega arith) (omega arith)) (code i (omega arith) (omega arith))

module _ (codes counts codes' counts' : List ℕ) {r s : Bool} (meets : r ≡ sound_index codes counts) (meets' : s ≡ sound_index codes' counts') where
  -- a judge that refuses an index for what stands behind its codes, in their places or past them, or for their counts: nothing decides but the
  -- lengths of the buffers, how many codes are named, and those codes with the lengths that stand before them
  pub refuses_what_stands_behind : length codes ≡ length codes' → length counts ≡ length counts' → named_in counts ≡ named_in counts'
      → ((i : ℕ) → i < named_in counts → length_of (entry_at codes counts i) ≡ length_of (entry_at codes' counts' i))
      → ((i : ℕ) → i < named_in counts → entry_code (entry_at codes counts i) ≡ entry_code (entry_at codes' counts' i))
      → r ≡ s
  unfolding sound_index roomy entries_in
  refuses_what_stands_behind a b n long code =
      let room : roomy codes counts ≡ roomy codes' counts' =
      ap₂ (λ (x y : ℕ). leb (codes_most * place_size) x && leb (suc codes_most) y && leb (named_in counts) codes_most) a b
      ∙ ap (λ (m : ℕ). leb (codes_most * place_size) (length codes') && leb (suc codes_most) (length counts') && leb m codes_most) n in
      let rise : rises (entries_in codes counts) ≡ rises (entries_in codes' counts') =
      alike_rise (entry_at codes counts) (entry_at codes' counts') 0 (named_in counts) []
      (λ k low high. long k (omega arith)) (λ k low high. code k (omega arith))
      ∙ ap (λ (m : ℕ). rises (values (entry_at codes' counts') 0 m)) n in
      meets ∙ ap₂ (λ (x y : Bool). x && y) room rise ∙ sym meets'

-- what meets the contract of `named_codes`
module _ (codes counts : List ℕ) {r : Codes} (meets : r ≡ codes_asked codes counts) where
  -- an answer that counts the places, not the codes
  pub counts_the_places : roomy codes counts ≡ true → named_in counts < codes_most → r ≡ C.Named codes_most → ⊥
  counts_the_places room few e = let z : named_in counts ≡ codes_most = cc (some-codes codes counts room) in omega (arith, z, few)

-- what meets the contract of `count_of`, of a sound index
module _ (codes counts c : List ℕ) (sound : sound_index codes counts ≡ true) {r : Count} (meets : r ≡ count_asked codes counts c) where
  -- whether the code is named decides what comes back
  told_by_names : (b : Bool) → names (entries_in codes counts) c ≡ b
      → r ≡ elim b [ true ↦ N.Times (count_of (entries_in codes counts) c) | false ↦ N.NotNamed ]
  told_by_names b e =
      meets ∙ count_answered codes counts sound c
      ∙ ap {B = Count} (λ (b : Bool). elim b [ true ↦ N.Times (count_of (entries_in codes counts) c) | false ↦ N.NotNamed ]) e

  -- an answer that counts nought for a code that is not named
  pub counts_nought_for_none : names (entries_in codes counts) c ≡ false → r ≡ N.Times 0 → ⊥
  counts_nought_for_none n e = let t = told_by_names false n in let z : ◌≡◌ {A = ℕ} 0 1 = cc in omega arith

  -- an answer that counts another code, or miscounts
  pub counts_another : (n : ℕ) → r ≡ N.Times n → (n ≡ count_of (entries_in codes counts) c → ⊥) → ⊥
  counts_another n e other = go (tested (names (entries_in codes counts) c))
    where
      go : Tested (names (entries_in codes counts) c) → ⊥
      go (passed t) = other (let u = told_by_names true t in let z : n ≡ count_of (entries_in codes counts) c = cc in z)
      go (failed t) = let u = told_by_names false t in let z : ◌≡◌ {A = ℕ} 0 1 = cc in omega arith

-- what meets the contract of `code_numbered`
module _ (codes counts : List ℕ) {r : Code} where
  -- an answer that numbers the codes from nought
  pub numbers-from_nought : r ≡ code_asked codes counts 0 → (start n times : ℕ) → r ≡ K.At start n times → ⊥
  numbers-from_nought meets start n times e = go (tested (roomy codes counts))
    where
      go : Tested (roomy codes counts) → ⊥
      go (passed t) = let u = code_zero codes counts 0 t refl in let z : ◌≡◌ {A = ℕ} 0 1 = cc in omega arith
      go (failed t) = let u = no_code codes counts 0 t in let z : ◌≡◌ {A = ℕ} 0 1 = cc in omega arith

  -- an answer that gives the code behind the one asked for
  pub gives_the_next : sound_index codes counts ≡ true → (k : ℕ) → 1 ≤ k → k ≤ named_in counts → r ≡ code_asked codes counts k
      → (start n times : ℕ) → r ≡ K.At start n times → start ≡ k * place_size + 1 → ⊥
  gives_the_next sound k some within meets start n times e next =
      let u = code_answered codes counts sound k some within in
      let z : start ≡ (k - 1) * place_size + 1 = cc in
      omega (arith, z, next, some)

-- one of the sums is past the last number that a count has, and so the tally with the message is too large
module _ (t : Tally) (segments results : ℕ) where
  abbrev pub OneIsPast : Type 0
  OneIsPast = (counts_past ≤ t.messages + 1) ⊎ ((counts_past ≤ t.segments + segments) ⊎ (counts_past ≤ t.results + results))

  past_large : OneIsPast → tally_too_large (with_message t segments results) ≡ true
  unfolding tally_too_large
  past_large (inl h) =
      or_first (leb counts_past (t.results + results)) (or_first (leb counts_past (t.segments + segments)) (le-leb counts_past (t.messages + 1) h))
  past_large (inr (inl h)) =
      or_first (leb counts_past (t.results + results)) (or_second (leb counts_past (t.messages + 1)) (le-leb counts_past (t.segments + segments) h))
  past_large (inr (inr h)) =
      or_second (leb counts_past (t.messages + 1) || leb counts_past (t.segments + segments)) (le-leb counts_past (t.results + results) h)

-- what meets the contract of `Tally::with_message`
module _ (t : Tally) (segments results : ℕ) {r : Tallied} (meets : r ≡ tallied t segments results) where
  -- the one test decides what comes back
  tallied_by : (b : Bool) → tally_too_large (with_message t segments results) ≡ b
      → r ≡ elim b [ true ↦ record { fits = false; tally = t } | false ↦ record { fits = true; tally = with_message t segments results } ]
  unfolding tallied
  tallied_by b e =
      meets
      ∙ ap {B = Tallied}
      (λ (b : Bool). elim b [ true ↦ record { fits = false; tally = t } | false ↦ record { fits = true; tally = with_message t segments results } ]) e

  -- a tally that leaves the message out
  pub adds_no_message : r.fits ≡ true → r.tally.messages ≡ t.messages → ⊥
  adds_no_message fit e = go (tested (tally_too_large (with_message t segments results)))
    where
      go : Tested (tally_too_large (with_message t segments results)) → ⊥
      go (passed large) = never_both fit (ap (λ (x : Tallied). x.fits) (tallied_by true large))
      go (failed small) = omega (arith, e, ap (λ (x : Tallied). x.tally.messages) (tallied_by false small))

  -- a tally that adds past the last number
  pub adds_past_the_last : r.fits ≡ true → OneIsPast t segments results → ⊥
  adds_past_the_last fit past = never_both fit (ap (λ (x : Tallied). x.fits) (tallied_by true (past_large t segments results past)))

  -- a tally that changes though it is full
  pub changes_a_full_tally : r.fits ≡ false → (r.tally ≡ t → ⊥) → ⊥
  changes_a_full_tally full changed = go (tested (tally_too_large (with_message t segments results)))
    where
      go : Tested (tally_too_large (with_message t segments results)) → ⊥
      go (passed large) = changed (ap (λ (x : Tallied). x.tally) (tallied_by true large))
      go (failed small) = never_both (ap (λ (x : Tallied). x.fits) (tallied_by false small)) full
