-- Laying a line: it is laid from the byte i on, and what is left from there gives the whole.
-- Assumes nothing.
use mathlib.Core.Bool.{false}
use mathlib.Core.List.{List, ◌∷◌}
use mathlib.Core.Path.{◌≡◌, refl, sym, ap, ◌∙◌, subst⁻¹}
use Prim.Native.Nat.{ℕ, ◌+◌, ◌≤◌, ◌<◌}
use native.Mathlib.Omega.{arith}
use lib.ListN.{length, drop, get_or}
use lib.Seq.{sets, length-sets}
use Rattle.laws.specs.Lists.{among}
use Rattle.laws.specs.Every.{All}
use Rattle.laws.proofs.Every.{all_at, all_drop}
use Rattle.form.specs.Header.{splitting}
use Rattle.laws.proofs.Bytes.{Bytes}
use Rattle.line.specs.Lines.{CR}
use Rattle.table.specs.inner.Flat.{step, steps}
use Rattle.table.proofs.Passes.{steps-append}
use Rattle.read.specs.declared.lay.Laying.{Laying}
use Rattle.read.specs.declared.lay.Laid.{Laid}
use Rattle.read.specs.inner.Scanning.{run, plain_run}
use Rattle.read.specs.inner.Laying.{row_of, next_leaf, RowFits, Held, Lays, LaidBy}
use Rattle.read.proofs.PlainLaws.{plain_text, line_from, run-split, marks-split, line-split, length-text, no_text, run_turn, run_stop, marks_turn, marks_stop, line_turn}
use Rattle.read.proofs.ClassLaws.{plain_passes}
use Rattle.read.proofs.HeldLaws.{out_to, leaf_closes, leaf-segment, held-text, held_separator}

-- the n bytes of text from the byte i on are copied, behind the text so far
abbrev pub Copied : List ℕ → List ℕ → ℕ → Laying → List ℕ → ℕ → List ℕ → Type 0
Copied class message i l text n text₁ =
    (n ≡ plain_run class (drop i message)) × (text₁ ≡ sets text l.out (plain_text class message i))

-- the state there
abbrev pub out_by : Laying → ℕ → Laying
out_by l n = out_to l (l.out + n)

module _ {class message : List ℕ} {i : ℕ} {l : Laying} {text leaves : List ℕ} {n : ℕ} {text₁ : List ℕ}
    (bytes : Bytes message) (asked : Lays class message i l text leaves) (copied : Copied class message i l text n text₁) where
  abbrev stop : ℕ
  stop = i + n

  stops : stop ≡ i + plain_run class (drop i message)
  stops = ap (λ (k : ℕ). i + k) copied.0

  runs : run class (drop i message) ≡ plain_run class (drop i message) + run class (drop stop message)
  runs = run-split class message i stop stops

  same_text : length text₁ ≡ length text
  same_text = ap length copied.1 ∙ length-sets text l.out (plain_text class message i)

  pub lays-text : Lays class message stop (out_by l n) text₁ leaves
  lays-text =
      let split = runs in
      let marked = marks-split class message i stop stops in
      let kept = same_text in
      let count = copied.0 in
      record {
        ahead = omega arith;
        room = omega arith;
        short = omega arith;
        rows = omega arith;
        few = omega arith;
        counted = omega arith;
      }

  pub laid-text : {r : Laid} {text' leaves' : List ℕ}
      → LaidBy class message stop (out_by l n) text₁ leaves r text' leaves' → LaidBy class message i l text leaves r text' leaves'
  laid-text d =
      let split = runs in
      let marked = marks-split class message i stop stops in
      let count = copied.0 in
      record {
        ends = omega arith;
        row = omega arith;
        segment = d.segment;
        out = omega arith;
        counted = d.counted;
        text-length = d.text-length ∙ same_text;
        leaves-length = d.leaves-length;
        held = λ ps text₀ leaves₀ pass is h.
            rw (
              line-split class message i stop stops,
              steps-append (CR ∷ splitting ps) pass (plain_text class message i) (line_from class message stop),
            )
            (d.held ps text₀ leaves₀ (steps (CR ∷ splitting ps) pass (plain_text class message i)) is
            (subst⁻¹ (λ (t : List ℕ). Held text₀ leaves₀ (steps (CR ∷ splitting ps) pass (plain_text class message i)) (out_by l n) t leaves) copied.1
            (held-text h (CR ∷ splitting ps) (l.out + n)
            (subst⁻¹ (λ (k : List ℕ). All (λ (b : ℕ). among (CR ∷ splitting ps) b ≡ false) (plain_text k message i)) is
            (plain_passes ps (all_drop i bytes)))
            (omega (arith, length-text class message i stop stops (omega arith))))));
      }

-- the byte at `stop` is a separator: its row is put, and the next leaf begins
module _ {class message : List ℕ} {l : Laying} {text leaves : List ℕ} {stop : ℕ} {leaves₁ : List ℕ}
    (bytes : Bytes message) (asked : Lays class message stop l text leaves)
    (no_end : get_or class (get_or message stop 0) 0 ≡ 5 → ⊥) (other : get_or class (get_or message stop 0) 0 ≡ 0 → ⊥)
    (put : leaves₁ ≡ sets leaves l.row (row_of l)) where
  within : stop < length message
  within = omega arith

  same_rows : length leaves₁ ≡ length leaves
  same_rows = ap length put ∙ length-sets leaves l.row (row_of l)

  pub lays-leaf : Lays class message (stop + 1) (next_leaf l (get_or class (get_or message stop 0) 0)) text leaves₁
  lays-leaf =
      let one = run_turn class message stop within no_end in
      let mark = marks_turn class message stop within no_end other in
      let kept = same_rows in
      let next = leaf_closes l (get_or class (get_or message stop 0) 0) in
      record {
        ahead = omega arith;
        room = omega arith;
        short = omega arith;
        rows = omega arith;
        few = omega arith;
        counted = next.counted asked.counted;
      }

  pub laid_leaf : {r : Laid} {text' leaves' : List ℕ}
      → LaidBy class message (stop + 1) (next_leaf l (get_or class (get_or message stop 0) 0)) text leaves₁ r text' leaves'
      → LaidBy class message stop l text leaves r text' leaves'
  unfolding steps
  laid_leaf d =
      let one = run_turn class message stop within no_end in
      let mark = marks_turn class message stop within no_end other in
      let next = leaf_closes l (get_or class (get_or message stop 0) 0) in
      record {
        ends = omega arith;
        row = omega arith;
        segment = d.segment ∙ leaf-segment l (get_or class (get_or message stop 0) 0);
        out = omega arith;
        counted = d.counted;
        text-length = d.text-length;
        leaves-length = d.leaves-length ∙ same_rows;
        held = λ ps text₀ leaves₀ pass is h.
            rw (line_turn class message stop within no_end)
            (d.held ps text₀ leaves₀ (step (CR ∷ splitting ps) pass (get_or message stop 0)) is
            (subst⁻¹ (λ (v : List ℕ). Held text₀ leaves₀ (step (CR ∷ splitting ps) pass (get_or message stop 0)) (next_leaf l (get_or class (get_or message stop 0) 0)) text v) put
            (held_separator h ps class (get_or message stop 0) is (all_at stop 0 bytes within) no_end other)));
      }

-- so the text from the byte i on has room, and so has the row of a leaf that a separator closes
pub text-fits : {class message : List ℕ} {i : ℕ} {l : Laying} {text leaves : List ℕ} → Lays class message i l text leaves
    → (i + plain_run class (drop i message) < length message) × (l.out + plain_run class (drop i message) ≤ length text)
text-fits {class} {message} {i} asked = let split = run-split class message i (i + plain_run class (drop i message)) refl in omega arith

pub row_fits : {class message : List ℕ} {i : ℕ} {l : Laying} {text leaves : List ℕ} → Lays class message i l text leaves
    → (n : ℕ) → n ≡ get_or message i 0 → (get_or class n 0 ≡ 5 → ⊥) → (get_or class (get_or message i 0) 0 ≡ 0 → ⊥)
    → RowFits l leaves
row_fits {class} {message} {i} asked n e no_end other =
    let mark = marks_turn class message i (omega arith) (λ z. no_end (ap (λ (b : ℕ). get_or class b 0) e ∙ z)) other in
    record { room = omega arith; short = omega arith; next = record { few = omega arith; counted = asked.counted } }

-- the byte at `stop` ends the line
pub laid_end : {class message : List ℕ} {l : Laying} {text leaves : List ℕ} {stop : ℕ}
    → Lays class message stop l text leaves → get_or class (get_or message stop 0) 0 ≡ 5
    → LaidBy class message stop l text leaves (record { laying = l; end = stop }) text leaves
unfolding steps
laid_end {class} {message} {l} {text} {leaves} {stop} asked ends =
    let no_run = run_stop class message stop (omega arith) ends in
    let no-marks = marks_stop class message stop (omega arith) ends in
    record {
      ends = omega arith;
      row = omega arith;
      segment = refl;
      out = omega arith;
      counted = asked.counted;
      text-length = refl;
      leaves-length = refl;
      held = λ ps text₀ leaves₀ pass is h. rw no_run h;
    }

-- the loop's state: what is left is asked, and gives the whole
pub record Going (class message : List ℕ) (from : ℕ) (l₀ : Laying) (text₀ leaves₀ text leaves : List ℕ) (l : Laying) (i : ℕ) : Type 0 where
  pub bytes : Bytes message
  pub asked : Lays class message i l text leaves
  pub text-length : length text ≡ length text₀
  pub leaves-length : length leaves ≡ length leaves₀
  pub whole : (r : Laid) (text' leaves' : List ℕ)
      → LaidBy class message i l text leaves r text' leaves' → LaidBy class message from l₀ text₀ leaves₀ r text' leaves'

pub going-begins : {class message : List ℕ} {from : ℕ} {l : Laying} {text leaves : List ℕ}
    → Bytes message → Lays class message from l text leaves → Going class message from l text leaves text leaves l from
going-begins known a = record { bytes = known; asked = a; text-length = refl; leaves-length = refl; whole = λ r text' leaves' d. d }

module _ {class message : List ℕ} {from : ℕ} {l₀ : Laying} {text₀ leaves₀ text leaves : List ℕ} {l : Laying} {i : ℕ}
    (g : Going class message from l₀ text₀ leaves₀ text leaves l i) where
  -- text is copied
  pub going-text : {n : ℕ} {text₁ : List ℕ} → Copied class message i l text n text₁
      → Going class message from l₀ text₀ leaves₀ text₁ leaves (out_by l n) (i + n)
  going-text copied =
      record {
        bytes = g.bytes;
        asked = lays-text g.bytes g.asked copied;
        text-length = same_text g.bytes g.asked copied ∙ g.text-length;
        leaves-length = g.leaves-length;
        whole = λ r text' leaves' d. g.whole r text' leaves' (laid-text g.bytes g.asked copied d);
      }

  -- it stops at a byte that is none
  pub going_stops : {n : ℕ} {text₁ : List ℕ} → Copied class message i l text n text₁ → get_or class (get_or message (i + n) 0) 0 ≡ 0 → ⊥
  going_stops {n} copied =
      let ahead = (lays-text g.bytes g.asked copied).ahead in
      no_text class message i (i + n) (stops g.bytes g.asked copied) (omega arith)

  -- the line ends here
  pub going_done : (n : ℕ) → n ≡ get_or message i 0 → get_or class n 0 ≡ 5
      → LaidBy class message from l₀ text₀ leaves₀ (record { laying = l; end = i }) text leaves
  going_done n e ends =
      g.whole (record { laying = l; end = i }) text leaves (laid_end g.asked (ap (λ (b : ℕ). get_or class b 0) (sym e) ∙ ends))

  -- a separator stands here
  pub going-leaf : {leaves₁ : List ℕ} {next : Laying} (n : ℕ) → n ≡ get_or message i 0 → (get_or class n 0 ≡ 5 → ⊥)
      → (get_or class (get_or message i 0) 0 ≡ 0 → ⊥) → leaves₁ ≡ sets leaves l.row (row_of l) → next ≡ next_leaf l (get_or class n 0)
      → Going class message from l₀ text₀ leaves₀ text leaves₁ next (i + 1)
  going-leaf {leaves₁} {next} n e no_end other put to =
      let here : get_or class n 0 ≡ get_or class (get_or message i 0) 0 = ap (λ (b : ℕ). get_or class b 0) e in
      let ended : get_or class (get_or message i 0) 0 ≡ 5 → ⊥ = λ z. no_end (here ∙ z) in
      subst⁻¹ (λ (k : Laying). Going class message from l₀ text₀ leaves₀ text leaves₁ k (i + 1))
      (to ∙ ap (next_leaf l) here)
      (record {
        bytes = g.bytes;
        asked = lays-leaf g.bytes g.asked ended other put;
        text-length = g.text-length;
        leaves-length = same_rows g.bytes g.asked ended other put ∙ g.leaves-length;
        whole = λ r text' leaves' d. g.whole r text' leaves' (laid_leaf g.bytes g.asked ended other put d);
      })
