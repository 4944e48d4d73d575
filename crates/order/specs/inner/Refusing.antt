-- Where an order watcher says no for the first time: refusal 10 (rule N1).
-- Assumes nothing.
use Rattle.std.specs.Prelude.{true, false, List, [], ◌∷◌, ℕ, suc}
use Rattle.order.specs.inner.Telling.{tell_of}
use Rattle.order.specs.declared.watcher.Watcher.{Watcher}

-- the place, counted from `at`, of the first kind that the watcher says no to, or 0 where it says yes to all
unfoldable pub first_no : ℕ → Watcher → List ℕ → ℕ
first_no at w [] = 0
first_no at w (k ∷ ks) = elim (tell_of w k).yes [ true ↦ first_no (suc at) (tell_of w k).watcher ks | false ↦ at ]
