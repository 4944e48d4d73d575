-- Forms that the contract of the reader shuts out: one that refuses its last segment, its last leaf or its last byte. Each limit of a form is
-- itself allowed: where a message keeps to all of them and its order is right, it is accepted.
-- Assumes nothing.
use mathlib.Core.List.{List}
use mathlib.Core.Path.{◌≡◌}
use Prim.Native.Nat.{ℕ}
use native.Mathlib.Omega.{arith}
use lib.ListN.{length}
use Rattle.form.specs.declared.forms.Form.TheVariants.{Large}
use Rattle.form.specs.declared.separators.Separators.{Separators}
use Rattle.form.specs.Forms.{large_form, limits_of}
use Rattle.form.specs.Numbers.{long_message, many_segments, many_leaves}
use Rattle.order.specs.Contexts.{grammar}
use Rattle.order.specs.Grammar.{Derives}
use Rattle.order.specs.Owners.{level}
use Rattle.table.specs.Reading.{room_of}
use Rattle.table.specs.Rows.{all_leaves, context_in, kinds_of}
use Rattle.read.specs.declared.Answer.{Answer}
use Rattle.read.specs.Answering.{ReadAs}
use Rattle.read.specs.Sound.{segments_in, SoundMessage}
use Rattle.demands.proofs.Demands.{form_demands}

module _ (message : List ℕ) (text segments leaves : List ℕ) {text' segments' leaves' : List ℕ} {r : Answer} {ps : Separators}
    (sound : SoundMessage large_form (room_of text segments leaves) message ps)
    (right : Derives (grammar (context_in ps (segments_in large_form ps message))) (kinds_of ps (segments_in large_form ps message)))
    (read : ReadAs large_form level message text segments leaves r text' segments' leaves') where
  accepted_so : r.number ≡ 0
  unfolding limits_of
  accepted_so = ((form_demands Large).third.accepted_exactly message sound read).1 right

  pub refuses_the_last_segment : length (segments_in large_form ps message) ≡ 4096 → r.number ≡ many_segments → ⊥
  refuses_the_last_segment many e = omega (arith, accepted_so, e)

  pub refuses_the_last_leaf : length (all_leaves ps (segments_in large_form ps message)) ≡ 65536 → r.number ≡ many_leaves → ⊥
  refuses_the_last_leaf many e = omega (arith, accepted_so, e)

  pub refuses_the_last_byte : length message ≡ 1048576 → r.number ≡ long_message → ⊥
  refuses_the_last_byte long e = omega (arith, accepted_so, e)
