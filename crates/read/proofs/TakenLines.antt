-- Taking a code from a line, byte by byte: what is held, and what is left of the line, give what the whole line gives.
-- Assumes nothing.
use mathlib.Core.Bool.{true, false}
use mathlib.Core.List.{List, [], ◌∷◌, ◌++◌}
use mathlib.Core.Logic.{⊎_elim}
use mathlib.Core.Path.{◌≡◌, refl, sym, ap, ◌∙◌, subst⁻¹}
use Prim.Native.Nat.{ℕ, suc, ◌+◌, ◌-◌, ◌≤◌, ◌<◌}
use native.Mathlib.Omega.{arith}
use lib.Dec.{eqb}
use lib.ListN.{length, get_or, set, take, drop, length-set, length-append, get_or-append}
use lib.Seq.{get_or-set_same, get_or-set_other, get_or-append_seam}
use borrow.Author.Tests.{lt-ltb, le-ltb}
use Rattle.laws.proofs.Cases.{less_or_not}
use Rattle.laws.proofs.Tests.{either}
use Rattle.index.specs.Index.{code_most}
use Rattle.read.specs.declared.codes.Reached.TheVariants.{Whole, Open}
use Rattle.read.specs.declared.codes.Taken.{Taken}
use Rattle.read.specs.inner.Scanning.{run}
use Rattle.read.specs.inner.Segments.{line_text}
use Rattle.read.specs.inner.Coding.{Gathered, gather_byte, gather_bytes, kept, HeldCode, TakesLine, LineTaken, made_whole, left_open}
use Rattle.read.proofs.PlainLaws.{run_turn, run_stop, line_turn}
use Rattle.read.proofs.Coding.{gather_whole, byte_kept, byte_ends, byte_passed}

-- what has been gathered of a line once the loop stands at a byte
pub record TakenTo (class m : List ℕ) (from : ℕ) (g : Gathered) (at left size : ℕ) (code : List ℕ) : Type 0 where
  pub now : Gathered
  pub holds : HeldCode now left size code
  pub rest : gather_bytes class now (line_text class m at) ≡ gather_bytes class g (line_text class m from)

pub record Taking (class m : List ℕ) (from left₀ size₀ : ℕ) (code₀ : List ℕ) (at left size : ℕ) (code : List ℕ) : Type 0 where
  pub ends : at + run class (drop at m) ≡ from + run class (drop from m)
  pub inside : at + run class (drop at m) < length m
  pub begun : 1 ≤ left
  pub short : size ≤ at
  pub room : code_most ≤ length code
  pub same : length code ≡ length code₀
  pub held : (g : Gathered) → HeldCode g left₀ size₀ code₀ → TakenTo class m from g at left size code

pub taking_begins : {class m : List ℕ} {taken : Taken} {code : List ℕ} → TakesLine class m taken code
    → Taking class m taken.at taken.left taken.length code taken.at taken.left taken.length code
taking_begins h =
    record {
      ends = refl;
      inside = h.inside;
      begun = h.begun;
      short = h.short;
      room = h.room;
      same = refl;
      held = λ g w. record { now = g; holds = w; rest = refl };
    }

-- a byte stored: at its place where there is room, and nothing else changes
module _ (code : List ℕ) (size b : ℕ) where
  pub kept_in : size < code_most → kept code size b ≡ set code size b
  unfolding kept
  kept_in h = rw (lt-ltb size code_most h, kept)

  pub kept_out : code_most ≤ size → kept code size b ≡ code
  unfolding kept
  kept_out h = rw (le-ltb size code_most h, kept)

  kept-length : length (kept code size b) ≡ length code
  kept-length =
      ⊎_elim (λ (l : size < code_most). ap length (kept_in l) ∙ simp length-set) (λ (g : code_most ≤ size). ap length (kept_out g)) (less_or_not size code_most)

  kept-before : (k : ℕ) → k < size → get_or (kept code size b) k 0 ≡ get_or code k 0
  kept-before k h =
      ⊎_elim
      (λ (l : size < code_most). ap (λ (s : List ℕ). get_or s k 0) (kept_in l) ∙ get_or-set_other code size k b 0 (λ e. omega arith))
      (λ (g : code_most ≤ size). ap (λ (s : List ℕ). get_or s k 0) (kept_out g))
      (less_or_not size code_most)

  kept_here : code_most ≤ length code → size < code_most → get_or (kept code size b) size 0 ≡ b
  kept_here room l = ap (λ (s : List ℕ). get_or s size 0) (kept_in l) ∙ get_or-set_same code size b 0 (omega arith)

-- so the code has one byte more
held_kept : (g : Gathered) (left size : ℕ) (code : List ℕ) (b : ℕ) → left ≡ 1 → code_most ≤ length code → HeldCode g left size code
    → HeldCode (record { left = 1; code = g.code ++ (b ∷ []) }) left (size + 1) (kept code size b)
held_kept g left size code b one room w =
    let long : length (g.code ++ (b ∷ [])) ≡ length g.code + 1 = length-append g.code (b ∷ []) in
    record {
      left_is = one;
      size_is = omega (arith, w.size_is, long);
      bytes = λ k within few.
          ⊎_elim
          (λ (l : k < length g.code).
          kept-before code size b k (omega (arith, w.size_is)) ∙ w.bytes k l few ∙ sym (get_or-append g.code (b ∷ []) 0 k l))
          (λ (past : length g.code ≤ k).
          let here : k ≡ size = omega (arith, w.size_is, long, within) in
          ap (λ (n : ℕ). get_or (kept code size b) n 0) here ∙ kept_here code size b room (omega (arith, here, few))
          ∙ sym (ap (λ (n : ℕ). get_or (g.code ++ (b ∷ [])) n 0) (here ∙ w.size_is) ∙ get_or-append_seam g.code b [] 0))
          (less_or_not k (length g.code));
    }

module _ {class m : List ℕ} {from left₀ size₀ : ℕ} {code₀ : List ℕ} {at left size : ℕ} {code : List ℕ}
    (w : Taking class m from left₀ size₀ code₀ at left size code) where
  abbrev sort : ℕ
  sort = get_or class (get_or m at 0) 0

  within : at < length m
  within = let i = w.inside in omega arith

  -- at the line's end
  pub taking_ends : sort ≡ 5
      → LineTaken class m (record { left = left₀; length = size₀; at = from }) code₀ (Open (record { left = left; length = size; at = at })) code
  unfolding gather_bytes
  taking_ends e =
      let none = run_stop class m at within e in
      let stop : at ≡ from + run class (drop from m) = omega (arith, w.ends, none) in
      left_open (record { left = left; length = size; at = at }) refl
      (λ g h.
      subst⁻¹ (λ (k : Gathered). HeldCode k left size code)
      (sym (w.held g h).rest ∙ ap (λ (n : ℕ). gather_bytes class (w.held g h).now (take n (drop at m))) none)
      (w.held g h).holds)
      stop w.begun w.short

  module _ (on : sort ≡ 5 → ⊥) where
    run-next : run class (drop at m) ≡ suc (run class (drop (at + 1) m))
    run-next = run_turn class m at within on

    -- one byte gathered more
    gathered_next : (g : Gathered) (h : HeldCode g left₀ size₀ code₀) {k : Gathered}
        → gather_byte sort (get_or m at 0) (w.held g h).now.left (w.held g h).now.code ≡ k
        → gather_bytes class k (line_text class m (at + 1)) ≡ gather_bytes class g (line_text class m from)
    unfolding gather_bytes
    gathered_next g h e =
        ap (λ (k : Gathered). gather_bytes class k (line_text class m (at + 1))) (sym e)
        ∙ ap (gather_bytes class (w.held g h).now) (sym (line_turn class m at within on))
        ∙ (w.held g h).rest

    -- behind the code
    pub taking_whole : left ≡ 1 → (sort ≡ 0 → ⊥) → LineTaken class m (record { left = left₀; length = size₀; at = from }) code₀ (Whole size) code
    taking_whole one some =
        made_whole size refl
        (λ g h.
        let n = (w.held g h).now in
        let p = (w.held g h).holds in
        let ended : gather_byte sort (get_or m at 0) n.left n.code ≡ record { left = 0; code = n.code }
        = ap {B = Gathered} (λ (k : ℕ). gather_byte sort (get_or m at 0) k n.code) (sym p.left_is ∙ one) ∙ byte_ends sort (get_or m at 0) n.code some in
        subst⁻¹ (λ (k : Gathered). HeldCode k 0 size code)
        (sym (gathered_next g h ended) ∙ gather_whole class (record { left = 0; code = n.code }) (line_text class m (at + 1)) refl)
        (record { left_is = refl; size_is = p.size_is; bytes = p.bytes }))

    -- a byte of the code
    pub taking_kept : left ≡ 1 → sort ≡ 0 → Taking class m from left₀ size₀ code₀ (at + 1) left (size + 1) (kept code size (get_or m at 0))
    taking_kept one text =
        record {
          ends = omega (arith, w.ends, run-next);
          inside = omega (arith, w.inside, run-next);
          begun = w.begun;
          short = omega (arith, w.short);
          room = omega (arith, w.room, kept-length code size (get_or m at 0));
          same = kept-length code size (get_or m at 0) ∙ w.same;
          held = λ g h.
              let n = (w.held g h).now in
              let p = (w.held g h).holds in
              let more : gather_byte sort (get_or m at 0) n.left n.code ≡ record { left = 1; code = n.code ++ (get_or m at 0 ∷ []) }
              = ap {B = Gathered} (λ (k : ℕ). gather_byte sort (get_or m at 0) k n.code) (sym p.left_is ∙ one) ∙ byte_kept sort (get_or m at 0) n.code text in
              record {
                now = record { left = 1; code = n.code ++ (get_or m at 0 ∷ []) };
                holds = held_kept n left size code (get_or m at 0) one w.room p;
                rest = gathered_next g h more;
              };
        }

    -- a byte of a field before it
    pub taking_on : (left ≡ 1 → ⊥) → {next : ℕ} → next ≡ elim (eqb sort 1) [ true ↦ left - 1 | false ↦ left ]
        → Taking class m from left₀ size₀ code₀ (at + 1) next size code
    taking_on more {next} e =
        record {
          ends = omega (arith, w.ends, run-next);
          inside = omega (arith, w.inside, run-next);
          begun = subst⁻¹ (λ (n : ℕ). 1 ≤ n) e still;
          short = omega (arith, w.short);
          room = w.room;
          same = w.same;
          held = λ g h.
              let n = (w.held g h).now in
              let p = (w.held g h).holds in
              let passed : gather_byte sort (get_or m at 0) n.left n.code ≡ record { left = next; code = n.code }
              = ap {B = Gathered} (λ (k : ℕ). gather_byte sort (get_or m at 0) k n.code) (sym p.left_is)
              ∙ byte_passed sort (get_or m at 0) n.code left w.begun more
              ∙ ap {B = Gathered} (λ (k : ℕ). record { left = k; code = n.code }) (sym e) in
              record {
                now = record { left = next; code = n.code };
                holds = record { left_is = refl; size_is = p.size_is; bytes = p.bytes };
                rest = gathered_next g h passed;
              };
        }
      where
        still : 1 ≤ elim (eqb sort 1) [ true ↦ left - 1 | false ↦ left ]
        still =
            let two : 2 ≤ left = ⊎_elim (λ (l : left < 2). absurd (more (omega (arith, w.begun)))) (λ (l : 2 ≤ left). l) (less_or_not left 2) in
            ⊎_elim (λ (h : eqb sort 1 ≡ true). rw h (omega arith)) (λ (h : eqb sort 1 ≡ false). rw h w.begun) (either (eqb sort 1))
