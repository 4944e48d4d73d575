-- `read::name::gather` meets its contract. The loop's invariant: what is left of the bytes, gathered on, gives the whole.
-- Assumes nothing.
use mathlib.Core.Path.{◌≡◌, sym, ap₂, ◌∙◌}
use Prim.Native.Nat.{ℕ}
use native.Mathlib.Omega.{arith}
use Rattle.form.specs.declared.letters.Letters.{Letters}
use Rattle.read.specs.declared.name.Name.{Name}
use Rattle.read.proofs.Naming.{byte_ends, byte_next, byte_letter, gathering_turn, gathering_done, gathering_settled}
use Rattle.read.proofs.name.gather.Goals as goal
use Rattle.read.proofs.name.gather.Goals.{then-b-field+then-left-ne0, then-b-field+else-left-ne0, else-b-field}

-- a name of these parts
made : {n m : ℕ} {l k : Letters} → n ≡ m → l ≡ k → ◌≡◌ {A = Name} (record { left = n; letters = l }) (record { left = m; letters = k })
made = ap₂ {C = Name} (λ (n : ℕ) (l : Letters). record { left = n; letters = l })

pub loop-b-preserved : goal.loop-b-preserved
loop-b-preserved c =
    gathering_turn c.loop-b.invariant c.loop-b-test.true
    (elim c.if-b-field.branch [
      | then-b-field+then-left-ne0 w ↦ byte_next _ _ _ (omega (arith, w.if-left-ne0.true)) w.if-b-field.true ∙ made (sym w.left-is) (sym w.letters-is)
      | then-b-field+else-left-ne0 w ↦ byte_ends _ _ _ (omega (arith, w.if-left-ne0.false, c.if-left-eq0.false)) w.if-b-field.true ∙ made (omega (arith, w.left-is, w.if-left-ne0.false)) (sym w.letters-is)
      | else-b-field w ↦ byte_letter _ _ _ c.if-left-eq0.false w.if-b-field.false ∙ made (sym w.left-is) (sym (w.letters-is ∙ w.with-letters.ensures))
    ])

pub returns-after-loop-b : goal.returns-after-loop-b
returns-after-loop-b c = gathering_done c.loop-b.invariant c.loop-b-test.false

pub returns-then-left-eq0 : goal.returns-then-left-eq0
returns-then-left-eq0 c = gathering_settled c.loop-b.invariant c.if-left-eq0.true
