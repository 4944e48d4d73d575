-- Copying text: what is left to copy after n bytes, stored behind them, gives the whole.
-- Assumes nothing.
use mathlib.Core.List.{List}
use mathlib.Core.Path.{◌≡◌, refl, sym, ap, ap₂, ◌∙◌}
use Prim.Native.Nat.{ℕ, suc, ◌+◌, ◌≤◌, ◌<◌}
use native.Mathlib.Omega.{arith}
use lib.ListN.{length, take, drop, get_or, set, length-set}
use lib.Seq.{sets}
use Rattle.laws.proofs.Stores.{sets_first}
use Rattle.read.specs.inner.Scanning.{plain_run}
use Rattle.read.proofs.PlainLaws.{plain_text, plain_turn, plain_stop, text_turn}

pub record Copying (class message : List ℕ) (from : ℕ) (text₀ : List ℕ) (out : ℕ) (text : List ℕ) (n b : ℕ) : Type 0 where
  pub ahead : from + n + plain_run class (drop (from + n) message) < length message
  pub room : out + n + plain_run class (drop (from + n) message) ≤ length text
  pub counted : n + plain_run class (drop (from + n) message) ≡ plain_run class (drop from message)
  pub byte : b ≡ get_or message (from + n) 0
  pub same : length text ≡ length text₀
  pub stored : sets text (out + n) (plain_text class message (from + n)) ≡ sets text₀ out (plain_text class message from)

pub copying_begins : {class message : List ℕ} {from : ℕ} {text : List ℕ} {out b : ℕ}
    → from + plain_run class (drop from message) < length message → out + plain_run class (drop from message) ≤ length text
    → b ≡ get_or message from 0
    → Copying class message from text out text 0 b
copying_begins {class} {message} {from} {text} {out} a r e =
    let none_from : from + 0 ≡ from = omega arith in
    let none_out : out + 0 ≡ out = omega arith in
    record {
      ahead = rw none_from a;
      room = rw (none_from, none_out) r;
      counted = rw none_from (omega arith);
      byte = rw none_from e;
      same = refl;
      stored = ap₂ (λ (p q : ℕ). sets text p (plain_text class message q)) none_out none_from;
    }

module _ {class message : List ℕ} {from : ℕ} {text₀ : List ℕ} {out : ℕ} {text : List ℕ} {n b : ℕ}
    (c : Copying class message from text₀ out text n b) where
  abbrev i : ℕ
  i = from + n

  abbrev o : ℕ
  o = out + n

  within : i < length message
  within = omega arith

  class_here : (k : ℕ) → k ≡ b → get_or class k 0 ≡ get_or class (get_or message i 0) 0
  class_here k e = ap (λ (m : ℕ). get_or class m 0) (e ∙ c.byte)

  -- a byte of text leaves one less to copy
  pub copying_left : (k : ℕ) → k ≡ b → get_or class k 0 ≡ 0 → plain_run class (drop i message) ≡ suc (plain_run class (drop (i + 1) message))
  copying_left k e h = plain_turn class message i within (sym (class_here k e) ∙ h)

  pub copying_more : (k : ℕ) → k ≡ b → get_or class k 0 ≡ 0
      → Copying class message from text₀ out (set text o b) (n + 1) (get_or message (from + (n + 1)) 0)
  copying_more k e h =
      let one = copying_left k e h in
      let from_next : from + (n + 1) ≡ i + 1 = omega arith in
      let out-next : out + (n + 1) ≡ o + 1 = omega arith in
      record {
        ahead = rw from_next (omega arith);
        room = rw (from_next, length-set text o b) (omega arith);
        counted = rw from_next (omega arith);
        byte = refl;
        same = length-set text o b ∙ c.same;
        stored =
            ap₂ (λ (p q : ℕ). sets (set text o b) p (plain_text class message q)) out-next from_next
            ∙ ap (λ (a : ℕ). sets (set text o a) (o + 1) (plain_text class message (i + 1))) c.byte
            ∙ sym (sets_first text o (get_or message i 0) (plain_text class message (i + 1)))
            ∙ ap (sets text o) (sym (text_turn class message i within (sym (class_here k e) ∙ h)))
            ∙ c.stored;
      }

  -- another byte leaves none
  pub copying_done : (k : ℕ) → k ≡ b → (get_or class k 0 ≡ 0 → ⊥)
      → (n ≡ plain_run class (drop from message)) × (text ≡ sets text₀ out (plain_text class message from))
  copying_done k e h =
      let none : plain_run class (drop i message) ≡ 0 = plain_stop class message i within (λ z. h (class_here k e ∙ z)) in
      (omega arith, ap (λ (j : ℕ). sets text o (take j (drop i message))) (sym none) ∙ c.stored)
