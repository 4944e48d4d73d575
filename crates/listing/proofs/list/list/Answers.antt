-- `listing::list::list` meets its contract: a short buffer, a refused message, an accepted one.
-- Assumes nothing.
use native.Mathlib.Omega.{arith}
use Rattle.std.proofs.Common.{rules}
use Rattle.form.specs.declared.forms.Form.TheVariants.{Small}
use Rattle.form.specs.Forms.{small_form, limits_of}
use Rattle.form.proofs.TwoForms.{form_lawful}
use Rattle.order.specs.Owners.{level}
use Rattle.table.specs.Reading.{room_of, reading}
use Rattle.listing.specs.Listing.{listing_size}
use Rattle.listing.proofs.Listed.{list_short, list_refused, list_ready, list_accepted}
use Rattle.listing.proofs.Putting.{put-length}
use Rattle.listing.proofs.list.list.Goals as goal

pub returns-then-list-lt-SIZE : goal.returns-then-list-lt-SIZE
unfolding listing_size limits_of
returns-then-list-lt-SIZE c =
    let outcome = reading small_form level (room_of c.args.text.now c.args.segments.now c.args.leaves.now) c.args.message.now in
    record {
      listed_as = list_short small_form outcome c.args.text.now c.args.segments.now c.args.leaves.now c.args.list.now c.if-list-lt-SIZE.true;
      within = omega arith;
    }

pub returns-then-answer-ne-ACCEPTED : goal.returns-then-answer-ne-ACCEPTED
unfolding listing_size limits_of
returns-then-answer-ne-ACCEPTED c =
    let refused =
    list_refused small_form level c.args.message.now c.args.text.now c.args.segments.now c.args.leaves.now c.args.list.now
    c.read-answer.ensures c.if-list-lt-SIZE.false c.if-answer-ne-ACCEPTED.true c.put_answer.ensures.within in
    record {
      listed_as =
          record {
            bytes = refused.bytes;
            listing = search (rules, refused.listing);
            text_area = refused.text_area;
            segment_rows = refused.segment_rows;
            leaf_rows = refused.leaf_rows;
          };
      within = omega (arith, c.put_answer.ensures.within.few, c.if-list-lt-SIZE.false);
    }

pub put_table-requires : goal.put_table-requires
unfolding listing_size limits_of
put_table-requires c =
    list_ready small_form level c.args.message.now c.args.text.now c.args.segments.now c.args.leaves.now c.args.list.now
    c.read-answer.ensures c.if-list-lt-SIZE.false (form_lawful Small) (omega arith) (omega arith) c.if-answer-ne-ACCEPTED.false c.put_answer.ensures.within

pub returns : goal.returns
unfolding listing_size limits_of
returns c =
    let ready =
    list_ready small_form level c.args.message.now c.args.text.now c.args.segments.now c.args.leaves.now c.args.list.now
    c.read-answer.ensures c.if-list-lt-SIZE.false (form_lawful Small) (omega arith) (omega arith) c.if-answer-ne-ACCEPTED.false c.put_answer.ensures.within in
    let listed =
    list_accepted small_form level c.args.message.now c.args.text.now c.args.segments.now c.args.leaves.now c.args.list.now
    c.read-answer.ensures c.if-list-lt-SIZE.false (form_lawful Small) (omega arith) (omega arith) c.if-answer-ne-ACCEPTED.false c.put_answer.ensures.within
    c.put_table.ensures.within.put in
    record {
      listed_as =
          record {
            bytes = listed.bytes;
            listing = search (rules, listed.listing);
            text_area = listed.text_area;
            segment_rows = listed.segment_rows;
            leaf_rows = listed.leaf_rows;
          };
      within = omega (arith, c.put_table.ensures.within.few, ready.room, put-length c.put_answer.ensures.within.put);
    }
