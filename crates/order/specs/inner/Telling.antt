-- What an order watcher answers (rules V1 and V2) at every state and every number, by what may follow what.
-- Assumes nothing.
use Rattle.std.specs.Prelude.{Bool, true, false, ◌&&◌, ◌||◌, not, List, ℕ, ◌+◌, ◌*◌, ◌-◌, ◌≤◌, leb, ltb, eqb, get_or}
use Rattle.laws.specs.Tables.{values}
use Rattle.order.specs.Contexts.{is_context}
use Rattle.order.specs.Owners.{level}
use Rattle.order.specs.inner.Followers.{follows, as_entry}
use Rattle.order.specs.declared.watcher.Watcher.{Watcher}
use Rattle.order.specs.declared.watcher.Told.{Told}

-- what a follower table lists: its entry for a context, a kind that stands and a kind that comes is 1
unfoldable pub follows_by : List ℕ → ℕ → ℕ → ℕ → Bool
follows_by table c x k = eqb (get_or table ((c - 1) * 121 + (x - 1) * 11 + (k - 1)) 0) 1

-- the numbers that the table has an entry for
pub record InTable (c x k : ℕ) : Type 0 where
  pub context-from : 1 ≤ c
  pub context-to : c ≤ 7
  pub last-from : 1 ≤ x
  pub last-to : x ≤ 11
  pub kind-from : 1 ≤ k
  pub kind-to : k ≤ 11

-- whether C may stand after the last kind (C3): after each of the kinds from H to ERR, the numbers 1 to 10
unfoldable pub allows_c : ℕ → Bool
allows_c x = leb 1 x && ltb x 11

-- whether a kind that is no C may come after the last one: H comes first, and then what may follow
unfoldable pub allows_next : (ℕ → ℕ → ℕ → Bool) → ℕ → ℕ → ℕ → Bool
allows_next may c x k = elim (eqb x 0) [ true ↦ eqb k 1 | false ↦ leb x 11 && (leb 1 k && (leb k 11 && may c x k)) ]

-- whether the kind k may come next in context c after the last kind x, C aside, or after nothing where x is 0;
-- `may` says which kinds may follow which
unfoldable pub allows : (ℕ → ℕ → ℕ → Bool) → ℕ → ℕ → ℕ → Bool
allows may c x k = is_context c && elim (eqb k 12) [ true ↦ allows_c x | false ↦ allows_next may c x k ]

-- the watcher once it said yes to a kind: it keeps the last one that is no C
unfoldable pub took_kind : Watcher → ℕ → Watcher
took_kind w k = elim (eqb k 12) [ true ↦ w | false ↦ record { context = w.context; last = k } ]

-- told a kind, the next watcher and its answer: after a no it is the same watcher (V2)
unfoldable pub tell_by : (ℕ → ℕ → ℕ → Bool) → Watcher → ℕ → Told
tell_by may w k =
    elim (allows may w.context w.last k) [
      | true ↦ record { watcher = took_kind w k; yes = true }
      | false ↦ record { watcher = w; yes = false }
    ]

-- by what the grammar says may follow
unfoldable pub tell_of : Watcher → ℕ → Told
tell_of w k = tell_by follows w k

-- whether a context has a kind; before the first kind, where the number is 0, there is none to have
unfoldable pub has_last : ℕ → ℕ → Bool
has_last c x = eqb x 0 || not (eqb (level c x) 0)

-- what a watcher would say to each kind from 0 to 12, as entries of a table
unfoldable pub kinds_told : Watcher → List ℕ
kinds_told w = values (λ k. as_entry (tell_of w k).yes) 0 13
