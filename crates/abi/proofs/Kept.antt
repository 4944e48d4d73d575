-- What stays as it was, for every function that meets the contracts of include/sargaceu.h: all that was lent where the answer is short, and
-- all but the answer where a call is refused.
-- Assumes nothing.
use mathlib.Core.Bool.{Bool, false}
use mathlib.Core.List.{List, [], ◌∷◌}
use mathlib.Core.Logic.{⊎_elim}
use mathlib.Core.Path.{◌≡◌, sym, ap, ◌∙◌}
use Prim.Native.Nat.{ℕ, ◌<◌}
use native.Mathlib.Omega.{arith}
use borrow.Author.Tests.{le-leb}
use lib.ListN.{length, get_or, set}
use lib.Seq.{set-get_or}
use Rattle.form.specs.declared.limits.Limits.{Limits}
use Rattle.laws.proofs.Cases.{less_or_not}
use Rattle.laws.proofs.Tests.{and_passed}
use Rattle.line.specs.declared.finder.Found.{Found}
use Rattle.order.specs.declared.watcher.Watcher.{Watcher}
use Rattle.order.specs.inner.Telling.{tell_of}
use Rattle.order.proofs.Watched.{stays}
use Rattle.table.specs.Lent.{Lent}
use Rattle.order.specs.Owners.{level}
use Rattle.table.specs.Reading.{room_of, Outcome, refused, accepted, reading}
use Rattle.read.specs.Answering.{answer_of, text_put, segments_put, leaves_put}
use Rattle.write.specs.Writing.{Writing, refuses, writes}
use Rattle.write.specs.Answer.{answer, output_after}
use Rattle.look.specs.declared.leaf.Sought.{Sought}
use Rattle.look.specs.declared.leaf.Sought.TheVariants.{At, Empty, NotThere}
use Rattle.look.specs.Looking.{sought_number}
use Rattle.abi.specs.Cards.{card_numbers}
use Rattle.abi.specs.Putting.{put_all}
use Rattle.abi.specs.Reading.{TellsOutcome, ReadInto}
use Rattle.abi.specs.Widening.{WidenedInto}
use Rattle.archive.specs.Widening.{widening}
use Rattle.abi.specs.Writing.{write_numbers, TellsWriting, WroteInto}
use Rattle.abi.specs.Looking.{leaf_numbers, TellsSought}
use Rattle.abi.specs.Lines.{FoundLine}
use Rattle.abi.specs.Watching.{watcher_bytes, watcher_of, says_yes, Watched}
use Rattle.abi.specs.Screening.{ScreenedInto}
use Rattle.abi.proofs.Puts.{put-short, put_whole}
use Rattle.abi.proofs.ReadAnswers.{tells_short}
use Rattle.abi.proofs.WriteAnswers.{write_short}
use Rattle.abi.proofs.LineAnswers.{line-short}
use Rattle.abi.proofs.WatcherBytes.{watch_short}
use Rattle.abi.proofs.ScreenAnswers.{screen_short}
use Rattle.abi.proofs.OnlyOne as only

-- `sargaceu_read` into an answer that is short: 1, and every buffer is kept
module _ (L : Limits) (message text segments leaves answer : List ℕ) {r : ℕ} {text' segments' leaves' answer' : List ℕ}
    (read : ReadInto L message text segments leaves answer r text' segments' leaves' answer') where
  pub read-short-kept : length answer < 6 → (r ≡ 1) × (text' ≡ text) × (segments' ≡ segments) × (leaves' ≡ leaves) × (answer' ≡ answer)
  read-short-kept h = only.read L message text segments leaves answer read (tells_short answer (reading L level (room_of text segments leaves) message) h text segments leaves)

-- any refusal of it: the three buffers are kept, and an answer that is long enough gets the place and a card of zeros (N3)
pub refusal_kept : (o : Outcome) {text segments leaves answer : List ℕ} {r : ℕ} {text' segments' leaves' answer' : List ℕ}
    → TellsOutcome o text segments leaves answer r text' segments' leaves' answer' → (r ≡ 0 → ⊥)
    → (text' ≡ text) × (segments' ≡ segments) × (leaves' ≡ leaves) × (answer' ≡ put_all answer ((answer_of o).place ∷ 0 ∷ 0 ∷ 0 ∷ 0 ∷ 0 ∷ []))
unfolding answer_of text_put segments_put leaves_put card_numbers
refusal_kept (refused n p) g h = (g.text_area, g.segment_rows, g.leaf_rows, g.numbers)
refusal_kept (accepted t) g h = absurd (h g.number)

-- `sargaceu_write` into an answer that is short: 1, and the output is kept
pub write_short_kept : (L : Limits) (table : Lent) (output numbers : List ℕ) {r : ℕ} {output' numbers' : List ℕ}
    → WroteInto L table output numbers r output' numbers' → length numbers < 3 → (r ≡ 1) × (output' ≡ output) × (numbers' ≡ numbers)
write_short_kept L table output numbers wrote h = only.write L table output numbers wrote (write_short L table output numbers h)

-- any refusal of it: the output is kept, and an answer that is long enough gets zeros, as place and as counts (N3)
pub write_refusal_kept : (w : Writing) {output numbers : List ℕ} {r : ℕ} {output' numbers' : List ℕ}
    → TellsWriting w output numbers r output' numbers' → (r ≡ 0 → ⊥) → (output' ≡ output) × (numbers' ≡ put_all numbers (0 ∷ 0 ∷ 0 ∷ []))
unfolding answer output_after write_numbers
write_refusal_kept (refuses n) g h = (g.message, g.answers)
write_refusal_kept (writes bytes lines) g h = absurd (h g.number)

-- `sargaceu_find_leaf` or `sargaceu_find_leaf_in_segment` says not there: the answer is kept
pub leaf_not_there_kept : (s : Sought) {numbers numbers' : List ℕ} → TellsSought s numbers 0 numbers' → numbers' ≡ numbers
unfolding sought_number leaf_numbers
leaf_not_there_kept (At start n) g = let z : ◌≡◌ {A = ℕ} 0 1 = g.told in absurd (omega arith)
leaf_not_there_kept Empty g = let z : ◌≡◌ {A = ℕ} 0 2 = g.told in absurd (omega arith)
leaf_not_there_kept NotThere {numbers} g = g.numbers ∙ put_whole numbers [] (omega arith)

-- it is kept as well where two numbers do not fit it, whatever was found
pub leaf-short-kept : (s : Sought) {numbers : List ℕ} {r : ℕ} {numbers' : List ℕ}
    → TellsSought s numbers r numbers' → length numbers < 2 → numbers' ≡ numbers
unfolding leaf_numbers
leaf-short-kept (At start n) {numbers} g h = g.numbers ∙ put-short numbers (start ∷ n ∷ []) h
leaf-short-kept Empty {numbers} g h = g.numbers ∙ put-short numbers (0 ∷ 0 ∷ []) h
leaf-short-kept NotThere {numbers} g h = g.numbers ∙ put_whole numbers [] (omega arith)

-- `sargaceu_line` into an answer that is short: 1, and the answer is kept
pub line-short-kept : (found : Found) (at : ℕ) (numbers : List ℕ) {r : ℕ} {numbers' : List ℕ}
    → FoundLine found at numbers r numbers' → length numbers < 2 → (r ≡ 1) × (numbers' ≡ numbers)
line-short-kept found at numbers g h = only.line found at numbers g (line-short found at numbers h)

-- the bytes of a watcher, put back, are as they were
bytes_back : (bytes : List ℕ) → put_all bytes (watcher_bytes (watcher_of bytes)) ≡ bytes
unfolding watcher_bytes watcher_of
bytes_back bytes =
    ⊎_elim
    (λ short. put-short bytes (watcher_bytes (watcher_of bytes)) short)
    (λ room.
    put_whole bytes (watcher_bytes (watcher_of bytes)) room
    ∙ ap (λ (l : List ℕ). set l 1 (get_or bytes 1 0)) (set-get_or bytes 0 0)
    ∙ set-get_or bytes 1 0)
    (less_or_not (length bytes) 2)

-- `sargaceu_watch` says no: the watcher is kept (V2)
pub watch_no_kept : (bytes : List ℕ) (kind : ℕ) {bytes' : List ℕ} → Watched bytes kind false bytes' → bytes' ≡ bytes
unfolding says_yes watcher_bytes
watch_no_kept bytes kind g =
    ⊎_elim
    (λ short. g.watcher ∙ put-short bytes (watcher_bytes (tell_of (watcher_of bytes) kind).watcher) short)
    (λ room.
    let no = sym (and_passed (tell_of (watcher_of bytes) kind).yes (le-leb 2 (length bytes) room)) ∙ sym g.verdict in
    g.watcher ∙ ap (λ (w : Watcher). put_all bytes (watcher_bytes w)) (stays (watcher_of bytes) kind no) ∙ bytes_back bytes)
    (less_or_not (length bytes) 2)

-- fewer than two bytes are no watcher: the answer is no, and they are kept
pub watch_short_no : (bytes : List ℕ) (kind : ℕ) {r : Bool} {bytes' : List ℕ} → Watched bytes kind r bytes' → length bytes < 2
    → (r ≡ false) × (bytes' ≡ bytes)
watch_short_no bytes kind g h = only.watch bytes kind g (watch_short bytes kind h)

-- `sargaceu_screen` into an answer of no number: 1, and the answer is kept
pub screen_short_kept : (L : Limits) (table : Lent) (answer : List ℕ) {r : ℕ} {answer' : List ℕ} → ScreenedInto L table answer r answer' → length answer < 1
    → (r ≡ 1) × (answer' ≡ answer)
screen_short_kept L table answer screened h = only.screen L table answer screened (screen_short L table answer h)

-- `sargaceu_widen` into an answer that is short: 1, and every buffer is kept
pub widen_short_kept : (L : Limits) (table : Lent) (text segments leaves answer : List ℕ) {r : ℕ} {text' segments' leaves' answer' : List ℕ}
    → WidenedInto L table text segments leaves answer r text' segments' leaves' answer' → length answer < 6
    → (r ≡ 1) × (text' ≡ text) × (segments' ≡ segments) × (leaves' ≡ leaves) × (answer' ≡ answer)
widen_short_kept L table text segments leaves answer widened h =
    only.widen L table text segments leaves answer widened
    (tells_short answer (widening L (room_of text segments leaves) table) h text segments leaves)
