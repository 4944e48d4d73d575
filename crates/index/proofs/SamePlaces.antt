-- What the places alone decide: entries with the same places and other counts name the same, rise alike, and take a code at the same place.
-- Assumes nothing.
use mathlib.Core.Bool.{Bool, true, false, ◌&&◌}
use mathlib.Core.List.{List, [], ◌∷◌, map}
use mathlib.Core.Path.{◌≡◌, refl, sym, ap, ◌∙◌, subst}
use Prim.Native.Nat.{ℕ}
use lib.Dec.{leb}
use lib.ListN.{length, length-map}
use Rattle.laws.specs.Every.{All, none, also}
use Rattle.laws.specs.Lists.{same}
use Rattle.laws.proofs.Tests.{never_both}
use Rattle.index.specs.Order.{byte_order, comes_before}
use Rattle.index.specs.Index.{Entry, code_most, place_size, length_of, entry_code, rises_after, rises, names}
use Rattle.index.specs.Adding.{new_entry, code_added}
use Rattle.index.proofs.Sizes.{Sized}
use Rattle.index.proofs.Orders.{Three, is_b, is_s, is_a, three, order_alike_same, after_differs}
use Rattle.index.proofs.Steps.{names_miss, added_here, added_sooner, added-later, Rising, rises-rising, sooner_unnamed}

-- the places of entries
abbrev pub place_list : List Entry → List (List ℕ)
place_list es = map (λ (e : Entry). e.place) es

-- entries of the same places that count nothing
abbrev bare : List ℕ → Entry
bare p = record { place = p; count = 0 }

abbrev uncounted : List (List ℕ) → List Entry
uncounted ps = map bare ps

bare_names : (es : List Entry) (d : List ℕ) → names es d ≡ names (uncounted (place_list es)) d
unfolding names
bare_names [] d = refl
bare_names (e ∷ es) d = ap (λ (b : Bool). elim (same d (entry_code e)) [ true ↦ true | false ↦ b ]) (bare_names es d)

bare_rises : (last : List ℕ) (es : List Entry) → rises_after last es ≡ rises_after last (uncounted (place_list es))
unfolding rises_after
bare_rises last [] = refl
bare_rises last (e ∷ es) =
    ap (λ (b : Bool). leb 1 (length_of e) && leb (length_of e) code_most && comes_before last (entry_code e) && b) (bare_rises (entry_code e) es)

bare_added : (c : List ℕ) (es : List Entry) → place_list (code_added c es) ≡ place_list (code_added c (uncounted (place_list es)))
unfolding code_added
bare_added c [] = refl
bare_added c (e ∷ es) = go (three (byte_order c (entry_code e))) (bare_added c es)
  where
    twice : (es : List Entry) → place_list es ≡ place_list (uncounted (place_list es))
    twice [] = refl
    twice (e ∷ es) = ap (λ (ps : List (List ℕ)). e.place ∷ ps) (twice es)

    go : Three (byte_order c (entry_code e)) → place_list (code_added c es) ≡ place_list (code_added c (uncounted (place_list es)))
        → place_list (code_added c (e ∷ es)) ≡ place_list (code_added c (uncounted (place_list (e ∷ es))))
    go (is_b h) ih =
        ap place_list (added_sooner c e es h)
        ∙ ap (λ (ps : List (List ℕ)). (new_entry c).place ∷ e.place ∷ ps) (twice es)
        ∙ sym (ap place_list (added_sooner c (bare e.place) (uncounted (place_list es)) h))
    go (is_s h) ih =
        ap place_list (added_here c e es (order_alike_same c (entry_code e) h))
        ∙ ap (λ (ps : List (List ℕ)). e.place ∷ ps) (twice es)
        ∙ sym (ap place_list (added_here c (bare e.place) (uncounted (place_list es)) (order_alike_same c (entry_code e) h)))
    go (is_a h) ih =
        ap place_list (added-later c e es h)
        ∙ ap (λ (ps : List (List ℕ)). e.place ∷ ps) ih
        ∙ sym (ap place_list (added-later c (bare e.place) (uncounted (place_list es)) h))

-- entries with the same places
module _ (es fs : List Entry) (alike : place_list es ≡ place_list fs) where
  pub same_names : (d : List ℕ) → names es d ≡ names fs d
  same_names d = bare_names es d ∙ ap (λ (ps : List (List ℕ)). names (uncounted ps) d) alike ∙ sym (bare_names fs d)

  pub same-rises : rises es ≡ rises fs
  same-rises = bare_rises [] es ∙ ap (λ (ps : List (List ℕ)). rises (uncounted ps)) alike ∙ sym (bare_rises [] fs)

  pub same_many : length es ≡ length fs
  same_many =
      sym (length-map es (λ (e : Entry). e.place)) ∙ ap (λ (ps : List (List ℕ)). length ps) alike ∙ length-map fs (λ (e : Entry). e.place)

  pub same-added : (c : List ℕ) → place_list (code_added c es) ≡ place_list (code_added c fs)
  same-added c = bare_added c es ∙ ap (λ (ps : List (List ℕ)). place_list (code_added c (uncounted ps))) alike ∙ sym (bare_added c fs)

-- whole places stay whole
places-sized : (es : List Entry) → Sized es → All (λ (p : List ℕ). length p ≡ place_size) (place_list es)
places-sized [] none = none
places-sized (e ∷ es) (also h w) = also h (places-sized es w)

sized-places : (es : List Entry) → All (λ (p : List ℕ). length p ≡ place_size) (place_list es) → Sized es
sized-places [] w = none
sized-places (e ∷ es) (also h w) = also h (sized-places es w)

pub same-sized : (es fs : List Entry) → place_list es ≡ place_list fs → Sized es → Sized fs
same-sized es fs alike w =
    sized-places fs (subst (λ (ps : List (List ℕ)). All (λ (p : List ℕ). length p ≡ place_size) ps) alike (places-sized es w))

-- a code that is named leaves the places as they are
named-after : (last c : List ℕ) (es : List Entry) → rises_after last es ≡ true → names es c ≡ true → place_list (code_added c es) ≡ place_list es
unfolding names
named-after last c [] w n = absurd (never_both n refl)
named-after last c (e ∷ es) w n = go (three (byte_order c (entry_code e))) (rises-rising last e es w) (named-after (entry_code e) c es)
  where
    go : Three (byte_order c (entry_code e)) → Rising last e es
        → (rises_after (entry_code e) es ≡ true → names es c ≡ true → place_list (code_added c es) ≡ place_list es)
        → place_list (code_added c (e ∷ es)) ≡ place_list (e ∷ es)
    go (is_b h) r ih = absurd (never_both n (sooner_unnamed c r h))
    go (is_s h) r ih = ap place_list (added_here c e es (order_alike_same c (entry_code e) h))
    go (is_a h) r ih =
        ap place_list (added-later c e es h)
        ∙ ap (λ (ps : List (List ℕ)). e.place ∷ ps) (ih r.rest (sym (names_miss e es c (after_differs c (entry_code e) h)) ∙ n))

pub named-places : (c : List ℕ) (es : List Entry) → rises es ≡ true → names es c ≡ true → place_list (code_added c es) ≡ place_list es
named-places c es w n = named-after [] c es w n
