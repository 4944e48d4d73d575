-- The listing of the worked example K1 as it is printed, closed by computation; and listings that the contract shuts out.
-- Assumes nothing.
use mathlib.Core.List.{List, ◌++◌}
use mathlib.Core.Path.{◌≡◌, refl, ap, ◌∙◌}
use Prim.Native.Nat.{ℕ, ◌≤◌, ◌<◌}
use native.Mathlib.Omega.{arith}
use lib.ListN.{length}
use lib.Seq.{sets}
use Rattle.laws.specs.Lists.{concat}
use Rattle.laws.specs.Texts.{bytes}
use Rattle.laws.specs.Tables.{values}
use Rattle.form.specs.declared.forms.Form.TheVariants.{Small}
use Rattle.form.specs.Forms.{small_form, limits_of}
use Rattle.form.specs.Limits.{line_count, rounded_up}
use Rattle.form.specs.Header.{splitting}
use Rattle.form.specs.Names.{kind_names, context_names, name_of}
use Rattle.line.specs.Cutting.{pieces, addenda, cut, cuts, unlines}
use Rattle.order.specs.Owners.{level}
use Rattle.table.specs.Leaves.{onto, split}
use Rattle.table.specs.Reading.{Outcome, accepted, stated, reading}
use Rattle.table.specs.inner.Back.{leaf_at, leaves_of, separators_at, between, unsplit_from, unsplit, segments_of, lines_of, written}
use Rattle.table.specs.Examples.{filed, k1}
use Rattle.read.proofs.ShutOut.{K1, k1-read}
use Rattle.listing.specs.Decimal.{digits_within, decimal}
use Rattle.listing.specs.Listing.{entry_of, entry, and_number, columns, row_line, row_lines, answer_lines, context_line, count_lines, listing, listing_size, Lists}
use Rattle.listing.proofs.Listed.{listed_short, listed_roomy}

-- the whole listing of K1 (G1)
unfoldable pub printed : List ℕ
printed = bytes "form=1\nanswer=0\nplace=0\ncontext=ORU\nsegments=5\nleaves=24\ntext=41\nwritten=65\nseg=1,H,0,1,7\nseg=2,P,1,8,7\nseg=3,OBR,2,15,2\nseg=4,OBX,3,17,6\nseg=5,L,0,23,2\n"

k1-size : length (written small_form k1) ≡ 65
unfolding bytes concat values line_count rounded_up splitting pieces addenda cut cuts unlines onto split leaf_at leaves_of separators_at between unsplit_from unsplit segments_of lines_of written filed k1
k1-size = refl

k1-table : listing small_form (accepted k1) ≡ printed
unfolding printed concat bytes values kind_names context_names filed k1 digits_within decimal entry_of entry name_of and_number columns row_line row_lines answer_lines context_line count_lines listing
k1-table = ap (λ (n : ℕ). answer_lines 0 0 ++ (count_lines k1.card n ++ row_lines k1.segment_rows k1.card.segments)) k1-size

pub k1_listed : listing small_form (reading small_form level (stated small_form) K1) ≡ printed
unfolding limits_of
k1_listed = ap (listing small_form) (k1-read Small) ∙ k1-table

-- a listing of K1 that stops after the counts has fewer bytes than the contract says
module _ {text segments leaves list text' segments' leaves' list' : List ℕ} {r : ℕ} where
  pub stops_early : Lists small_form (reading small_form level (stated small_form) K1) text segments leaves list r text' segments' leaves' list'
      → listing_size small_form ≤ length list → r < length printed → ⊥
  stops_early w room h =
      omega (arith, w.bytes, ap length (listed_roomy small_form (reading small_form level (stated small_form) K1) (length list) room ∙ k1_listed))

  -- one that writes into a short buffer as far as it goes leaves it unlike the contract does
  pub fills_short : (o : Outcome) → Lists small_form o text segments leaves list r text' segments' leaves' list' → length list < listing_size small_form → list' ≡ list
  fills_short o w h = w.listing ∙ ap (sets list 0) (listed_short small_form o (length list) h)
