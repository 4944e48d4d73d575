-- Walking: what was written is walked line by line, every line that a walk gives is sound, and low bytes after a CR change no line.
-- Assumes nothing.
use mathlib.Core.Path.{◌≡◌, refl, sym, ap, ap₂, ◌∙◌, subst}
use mathlib.Core.Logic.{◌⊎◌, inl, inr}
use mathlib.Core.List.{List, [], ◌∷◌, ◌++◌, append_assoc, append-nil}
use Prim.Native.Nat.{ℕ, suc, ◌+◌, ◌≤◌, ◌<◌}
use native.Mathlib.Nat.{add-suc}
use native.Mathlib.Omega.{arith}
use lib.Dec.{lit<, lit≤}
use lib.ListN.{length, length-append}
use Rattle.laws.specs.Every.{All, none, also}
use Rattle.laws.proofs.Every.{all_append, all_first, all_rest}
use Rattle.form.specs.declared.limits.Limits.{Limits}
use Rattle.form.specs.Numbers.{open_line}
use Rattle.line.specs.Lines.{Lines, end, fault, line, CR, space, inside, between, walk_from, walk, texts, fault_number, fault_place}
use Rattle.line.specs.Cutting.{unlines}
use Rattle.line.specs.inner.Sound.{Text, SoundLine, given_lines, shifted}
use Rattle.line.proofs.Steps.{inside_nil, inside_cr, inside-more, between_nil, between-low, between-text, walk_from_nil, walk_from-low, walk_from-text, inside_both, between_both, walk_from_both}

-- what was written

module _ (L : Limits) where
  -- text that fits goes to the line begun
  pub inside-run : (at : ℕ) (t u s : List ℕ) → Text u → length t + length u ≤ L.line
      → inside L at t (u ++ s) ≡ inside L (at + length u) (t ++ u) s
  inside-run at t [] s text fits = ap₂ (λ (p : ℕ) (x : List ℕ). inside L p x s) (omega arith) (sym (append-nil t))
  inside-run at t (b ∷ u) s (also byte text) fits =
      inside-more L at t b (u ++ s) byte (omega arith)
      ∙ inside-run (suc at) (t ++ (b ∷ [])) u s text (omega (arith, length-append t (b ∷ [])))
      ∙ ap₂ (λ (p : ℕ) (x : List ℕ). inside L p x s) (omega arith) (append_assoc t (b ∷ []) u)

  -- and up to a CR it is the rest of that line
  inside-text : (at : ℕ) (t u s : List ℕ) → Text u → length t + length u ≤ L.line
      → inside L at t (u ++ CR ∷ s) ≡ line (t ++ u) (between L (suc (at + length u)) s)
  inside-text at t u s text fits = inside-run at t u (CR ∷ s) text fits ∙ inside_cr L (at + length u) (t ++ u) s

  -- a sound line and its CR, walked after a CR and walked from the start
  pub between-line :
      (at : ℕ) (t s : List ℕ) → SoundLine L t → between L at (t ++ CR ∷ s) ≡ line t (between L (suc (at + length t)) s)
  between-line at [] s sound = absurd (omega (arith, sound.some))
  between-line at (b ∷ u) s sound =
      between-text L at b (u ++ CR ∷ s) (all_first sound.text)
      ∙ inside-text (suc at) (b ∷ []) u s (all_rest sound.text) (omega (arith, sound.short))
      ∙ ap (λ (p : ℕ). line (b ∷ u) (between L (suc p) s)) (omega arith)

  pub walk_from-line :
      (at : ℕ) (t s : List ℕ) → SoundLine L t → walk_from L at (t ++ CR ∷ s) ≡ line t (between L (suc (at + length t)) s)
  walk_from-line at [] s sound = absurd (omega (arith, sound.some))
  walk_from-line at (b ∷ u) s sound =
      walk_from-text L at b (u ++ CR ∷ s) (all_first sound.text)
      ∙ inside-text (suc at) (b ∷ []) u s (all_rest sound.text) (omega (arith, sound.short))
      ∙ ap (λ (p : ℕ). line (b ∷ u) (between L (suc p) s)) (omega arith)

  pub between-unlines : (at : ℕ) (ls : List (List ℕ)) → All (SoundLine L) ls → between L at (unlines ls) ≡ given_lines ls
  unfolding unlines given_lines
  between-unlines at [] sound = between_nil L at
  between-unlines at (l ∷ ls) (also first rest) =
      between-line at l (unlines ls) first ∙ ap (line l) (between-unlines (suc (at + length l)) ls rest)

  -- walking what was written gives those lines
  pub walk-unlines : (ls : List (List ℕ)) → All (SoundLine L) ls → walk L (unlines ls) ≡ given_lines ls
  unfolding unlines given_lines walk
  walk-unlines [] sound = walk_from_nil L 0
  walk-unlines (l ∷ ls) (also first rest) =
      walk_from-line 0 l (unlines ls) first ∙ ap (line l) (between-unlines (suc (0 + length l)) ls rest)

pub texts-given : (ls : List (List ℕ)) → texts (given_lines ls) ≡ ls
unfolding texts given_lines
texts-given [] = refl
texts-given (l ∷ ls) = ap (λ (r : List (List ℕ)). l ∷ r) (texts-given ls)

pub no_fault_given : (ls : List (List ℕ)) → fault_number (given_lines ls) ≡ 0
unfolding fault_number given_lines
no_fault_given [] = refl
no_fault_given (l ∷ ls) = no_fault_given ls

-- what a walk gives

-- What holds of one walk, by going along the message: of `inside` for every text that has what `Q` says, and of `between`.
module _ (L : Limits) (P : Lines → Type 0) (Q : List ℕ → Type 0)
    (ends : P end)
    (faults : (n p : ℕ) → 1 ≤ n → P (fault n p))
    (closes : (t : List ℕ) (ls : Lines) → Q t → P ls → P (line t ls))
    (begins : (b : ℕ) → space ≤ b → Q (b ∷ []))
    (grows : (t : List ℕ) (b : ℕ) → Q t → space ≤ b → length t < L.line → Q (t ++ (b ∷ []))) where
  along : (s : List ℕ) → ((at : ℕ) (t : List ℕ) → Q t → P (inside L at t s)) × ((at : ℕ) → P (between L at s))
  along [] =
      ((λ at t q. subst P (sym (inside_nil L at t)) (faults open_line at (lit≤ tt))), (λ at. subst P (sym (between_nil L at)) ends))
  along (b ∷ s) = (
    (λ at t q.
        inside_both L (λ (x y : Lines). P x) at at b s s t
        (closes t (between L (suc at) s) q ((along s).1 (suc at)))
        (λ n h. faults n at h)
        (λ text room. (along s).0 (suc at) (t ++ (b ∷ [])) (grows t b q text room))),
    (λ at.
        between_both L (λ (x y : Lines). P x) at at b s s
        ((along s).1 (suc at))
        (λ text. (along s).0 (suc at) (b ∷ []) (begins b text))),
  )

  pub walk_from_along : (at : ℕ) (s : List ℕ) → P (walk_from L at s)
  walk_from_along at [] = subst P (sym (walk_from_nil L at)) ends
  walk_from_along at (b ∷ s) =
      walk_from_both L (λ (x y : Lines). P x) at at b s s
      (λ n h. faults n at h)
      (λ text. (along s).0 (suc at) (b ∷ []) (begins b text))

-- every line that a walk gives is sound, the lines before a fault too
pub texts-sound : (L : Limits) → 1 ≤ L.line → (at : ℕ) (m : List ℕ) → All (SoundLine L) (texts (walk_from L at m))
unfolding texts
texts-sound L some at m =
    walk_from_along L (λ (ls : Lines). All (SoundLine L) (texts ls)) (SoundLine L)
    none
    (λ n p h. none)
    (λ t ls q h. also q h)
    (λ b text. record { some = lit≤ tt; short = some; text = also text none })
    (λ t b q text room.
    record {
      some = omega (arith, length-append t (b ∷ []));
      short = omega (arith, length-append t (b ∷ []));
      text = all_append q.text (also text none);
    })
    at
    m

-- low bytes after a CR

-- the same texts and the same number; the fault's place is the same or k bytes later
pub record Alike (k : ℕ) (x y : Lines) : Type 0 where
  pub lines : texts x ≡ texts y
  pub number : fault_number x ≡ fault_number y
  pub place : (fault_place x ≡ fault_place y) ⊎ (fault_place x ≡ k + fault_place y)

pub alike_same : (k : ℕ) (x : Lines) → Alike k x x
alike_same k x = record { lines = refl; number = refl; place = inl refl }

pub alike_line : (k : ℕ) (t : List ℕ) (x y : Lines) → Alike k x y → Alike k (line t x) (line t y)
unfolding texts fault_number fault_place
alike_line k t x y a = record { lines = ap (λ (r : List (List ℕ)). t ∷ r) a.lines; number = a.number; place = a.place }

pub alike_shifted : (k : ℕ) (x : Lines) → Alike k (shifted k x) x
unfolding texts fault_number fault_place shifted
alike_shifted k end = alike_same k end
alike_shifted k (fault n p) = record { lines = refl; number = refl; place = inr refl }
alike_shifted k (line t x) = alike_line k t (shifted k x) x (alike_shifted k x)

module _ (L : Limits) (k : ℕ) where
  -- a walk that begins k bytes later is the same walk shifted
  shifts : (s : List ℕ) → ((at : ℕ) (t : List ℕ) → inside L (k + at) t s ≡ shifted k (inside L at t s)) × ((at : ℕ) → between L (k + at) s ≡ shifted k (between L at s))
  unfolding shifted
  shifts [] = (
    (λ at t. inside_nil L (k + at) t ∙ ap (shifted k) (sym (inside_nil L at t))),
    (λ at. between_nil L (k + at) ∙ ap (shifted k) (sym (between_nil L at))),
  )
  shifts (b ∷ s) = (
    (λ at t.
        inside_both L (λ (x y : Lines). x ≡ shifted k y) (k + at) at b s s t
        (ap (line t) (rw (← add-suc k at) ((shifts s).1 (suc at))))
        (λ n h. refl)
        (λ text room. rw (← add-suc k at) ((shifts s).0 (suc at) (t ++ (b ∷ []))))),
    (λ at.
        between_both L (λ (x y : Lines). x ≡ shifted k y) (k + at) at b s s
        (rw (← add-suc k at) ((shifts s).1 (suc at)))
        (λ text. rw (← add-suc k at) ((shifts s).0 (suc at) (b ∷ [])))),
  )

  pub between-shifted : (at : ℕ) (s : List ℕ) → between L (k + at) s ≡ shifted k (between L at s)
  between-shifted at s = (shifts s).1 at

abbrev pub Low : List ℕ → Type 0
Low s = All (λ (b : ℕ). b < space) s

-- control bytes behind a CR are skipped (L2)
pub between_lows : (L : Limits) (at : ℕ) (low s : List ℕ) → Low low → between L at (low ++ s) ≡ between L (at + length low) s
between_lows L at [] s h = ap (λ (p : ℕ). between L p s) (omega arith)
between_lows L at (b ∷ low) s (also h hs) =
    between-low L at b (low ++ s) h ∙ between_lows L (suc at) low s hs ∙ ap (λ (p : ℕ). between L p s) (omega arith)

module _ (L : Limits) (low rest : List ℕ) (h : Low low) where
  pub between_alike : (at : ℕ) → Alike (length low) (between L at (low ++ rest)) (between L at rest)
  between_alike at =
      let moved : between L at (low ++ rest) ≡ shifted (length low) (between L at rest)
      = between_lows L at low rest h ∙ ap (λ (p : ℕ). between L p rest) (omega arith) ∙ between-shifted L (length low) at rest in
      rw moved (alike_shifted (length low) (between L at rest))

  -- the message before the CR is walked alike
  inserted : (a : List ℕ)
      → ((at : ℕ) (t : List ℕ) → Alike (length low) (inside L at t (a ++ CR ∷ (low ++ rest))) (inside L at t (a ++ CR ∷ rest)))
      × ((at : ℕ) → Alike (length low) (between L at (a ++ CR ∷ (low ++ rest))) (between L at (a ++ CR ∷ rest)))
  inserted [] = (
    (λ at t.
        rw (inside_cr L at t (low ++ rest), inside_cr L at t rest)
        (alike_line (length low) t (between L (suc at) (low ++ rest)) (between L (suc at) rest) (between_alike (suc at)))),
    (λ at.
        rw (between-low L at CR (low ++ rest) (lit< tt), between-low L at CR rest (lit< tt)) (between_alike (suc at))),
  )
  inserted (b ∷ a) = (
    (λ at t.
        inside_both L (Alike (length low)) at at b (a ++ CR ∷ (low ++ rest)) (a ++ CR ∷ rest) t
        (alike_line (length low) t (between L (suc at) (a ++ CR ∷ (low ++ rest))) (between L (suc at) (a ++ CR ∷ rest)) ((inserted a).1 (suc at)))
        (λ n h. alike_same (length low) (fault n at))
        (λ text room. (inserted a).0 (suc at) (t ++ (b ∷ [])))),
    (λ at.
        between_both L (Alike (length low)) at at b (a ++ CR ∷ (low ++ rest)) (a ++ CR ∷ rest)
        ((inserted a).1 (suc at))
        (λ text. (inserted a).0 (suc at) (b ∷ []))),
  )

  -- bytes below 32 put in after a CR change no text and no number, and move a fault by as many bytes or not at all
  pub walk_lows : (a : List ℕ) → Alike (length low) (walk L (a ++ CR ∷ (low ++ rest))) (walk L (a ++ CR ∷ rest))
  unfolding walk
  walk_lows [] = rw (walk_from-low L 0 CR (low ++ rest) (lit< tt), walk_from-low L 0 CR rest (lit< tt)) (alike_same (length low) _)
  walk_lows (b ∷ a) =
      walk_from_both L (Alike (length low)) 0 0 b (a ++ CR ∷ (low ++ rest)) (a ++ CR ∷ rest)
      (λ n h. alike_same (length low) (fault n 0))
      (λ text. (inserted a).0 1 (b ∷ []))
