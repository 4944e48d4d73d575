-- What a survey knows: how it begins, what a text joined to the open segment adds, what closing the open segment judges, and what is known
-- in the end.
-- Assumes nothing.
use mathlib.Core.Bool.{Bool, not}
use mathlib.Core.List.{List, [], ◌∷◌, ◌++◌}
use mathlib.Core.Logic.{⊎_elim}
use mathlib.Core.Path.{◌≡◌, refl, sym, ap, ap₂, ◌∙◌}
use Prim.Native.Nat.{ℕ, suc, ◌+◌, ◌≤◌}
use native.Mathlib.Omega.{arith}
use lib.Dec.{eqb}
use lib.ListN.{length, get_or, take, drop, length-append, length-take, length-map, take-append-drop}
use lib.Seq.{drop-append-le, take-append-le}
use borrow.Author.Tests.{eq-eqb, ne_eqb}
use Rattle.laws.specs.Lists.{same, among, count, first_from, sum_of}
use Rattle.laws.specs.inner.First.{first_held}
use Rattle.laws.specs.Texts.{bytes}
use Rattle.laws.proofs.Cases.{equal_or_not}
use Rattle.laws.proofs.Lists.{map-append, count-append, first-append}
use Rattle.laws.proofs.Sums.{sum_of_nil, sum_of_cons, sum_of_append}
use Rattle.form.specs.declared.separators.Separators.{Separators}
use Rattle.form.specs.Header.{splitting}
use Rattle.form.specs.Names.{context_names, kind_names, number_among, kind_of, context_of}
use Rattle.form.specs.inner.Lettering.{name_in}
use Rattle.order.specs.inner.Followers.{followers}
use Rattle.order.specs.Watcher.{begun, watched}
use Rattle.order.specs.inner.Telling.{follows_by, tell_by, tell_of}
use Rattle.order.specs.inner.Refusing.{first_no}
use Rattle.order.specs.inner.Place.{misplaced}
use Rattle.order.specs.declared.watcher.Watcher.{Watcher}
use Rattle.order.specs.declared.watcher.Told.{Told}
use Rattle.order.proofs.Watching.{by_this_table}
use Rattle.order.proofs.Watched.{same-context}
use Rattle.order.proofs.Checking.{place_by_watcher}
use Rattle.order.proofs.Refusing.{watched-append, no_append, place_told, place-told}
use Rattle.table.specs.Leaves.{split, kind_of_segment, context_of_header}
use Rattle.table.specs.inner.Filed.{header_bytes}
use Rattle.table.specs.Rows.{kinds_of, context_in, all_leaves}
use Rattle.table.specs.Reading.{first_unknown}
use Rattle.table.proofs.Counting.{length_all_segments}
use Rattle.read.specs.declared.name.Name.{Name}
use Rattle.read.specs.declared.survey.Survey.{Survey}
use Rattle.read.specs.inner.Naming.{fresh, with_bytes, gathered}
use Rattle.read.specs.inner.Seeing.{nothing_seen, text_joined, kind_seen, context_seen, watching, told_now, segment_shut, segment_begun}
use Rattle.read.specs.inner.Surveying.{place_seen, SegmentsKnown}
use Rattle.read.specs.inner.Underway.{name_so_far, Seen}
use Rattle.read.proofs.FieldLaws.{first-cut, first_more}
use Rattle.read.proofs.Naming.{bytes-none, bytes-append, segment-kind, header-context}

-- kind and watcher: the first segment is an H, and begins the watcher
module _ (s : Survey) where
  pub kind-first : s.segments ≡ 1 → kind_seen s ≡ 1
  unfolding kind_seen
  kind-first h = rw (eq-eqb s.segments 1 h, kind_seen)

  pub kind-later : (s.segments ≡ 1 → ⊥) → kind_seen s ≡ kind_of (name_in s.name.letters)
  unfolding kind_seen
  kind-later h = rw (ne_eqb s.segments 1 h, kind_seen)

  pub watching-first : s.segments ≡ 1 → watching s ≡ begun (context_seen s)
  unfolding watching
  watching-first h = rw (eq-eqb s.segments 1 h, watching)

  pub watching-later : (s.segments ≡ 1 → ⊥) → watching s ≡ s.watcher
  unfolding watching
  watching-later h = rw (ne_eqb s.segments 1 h, watching)

-- the struct that closing a segment makes, from what its calls answer
module _ (s : Survey) (may : ℕ → ℕ → ℕ → Bool) where
  abbrev closed_struct : ℕ → ℕ → Watcher → Survey
  closed_struct unknown misplaced watcher =
      record {
        segments = s.segments;
        separators = s.separators;
        unknown = unknown;
        misplaced = misplaced;
        watcher = watcher;
        name = s.name;
      }

  pub closed_as : {kind : ℕ} {watcher : Watcher} {told : Told} {unknown misplaced : ℕ}
      → kind ≡ kind_seen s → watcher ≡ watching s → told ≡ tell_by may watcher kind
      → unknown ≡ first_held s.unknown (eqb kind 0) s.segments → misplaced ≡ first_held s.misplaced (not told.yes) s.segments
      → closed_struct unknown misplaced told.watcher ≡ segment_shut may s
  unfolding told_now
  closed_as {told = told} {unknown = unknown} k v x u p =
      ap (λ (b : ℕ). closed_struct unknown b told.watcher) p
      ∙ ap₂ (λ (a : ℕ) (y : Told). closed_struct a (first_held s.misplaced (not y.yes) s.segments) y.watcher)
      (u ∙ ap (λ (j : ℕ). first_held s.unknown (eqb j 0) s.segments) k) (x ∙ ap₂ (tell_by may) v k)

-- leaves: a text joined to the last segment brings one for each separator, one more segment brings one
module _ (ps : Separators) where
  abbrev marked : List ℕ → ℕ
  marked s = count (among (splitting ps)) s

  abbrev leaf_sum : List (List ℕ) → ℕ
  leaf_sum ss = sum_of (λ (s : List ℕ). suc (marked s)) ss

  abbrev leaf_count : List (List ℕ) → ℕ
  leaf_count segments = length (all_leaves ps segments)

  leaf_sum_last : (ss : List (List ℕ)) (s : List ℕ) → leaf_sum (ss ++ s ∷ []) ≡ leaf_sum ss + suc (marked s)
  leaf_sum_last ss s =
      sum_of_append (λ (t : List ℕ). suc (marked t)) ss (s ∷ [])
      ∙ ap (λ (n : ℕ). leaf_sum ss + n)
      (sum_of_cons (λ (t : List ℕ). suc (marked t)) s [] ∙ ap (λ (n : ℕ). suc (marked s) + n) (sum_of_nil (λ (t : List ℕ). suc (marked t))) ∙ omega arith)

  leaves-text : (done : List (List ℕ)) (last t : List ℕ) → 7 ≤ length (get_or (done ++ last ∷ []) 0 [])
      → leaf_count (done ++ (last ++ t) ∷ []) ≡ leaf_count (done ++ last ∷ []) + marked t
  leaves-text [] last t long =
      let more : marked (drop 7 (last ++ t)) ≡ marked (drop 7 last) + marked t
      = ap marked (drop-append-le 7 last t long) ∙ count-append (among (splitting ps)) (drop 7 last) t in
      omega (arith, length_all_segments ps (last ++ t) [], length_all_segments ps last [])
  leaves-text (h ∷ ds) last t long =
      omega (
        arith,
        length_all_segments ps h (ds ++ (last ++ t) ∷ []),
        length_all_segments ps h (ds ++ last ∷ []),
        leaf_sum_last ds (last ++ t),
        leaf_sum_last ds last,
        count-append (among (splitting ps)) last t,
      )

  leaves-next : (done : List (List ℕ)) (last : List ℕ) → leaf_count ((done ++ last ∷ []) ++ [] ∷ []) ≡ leaf_count (done ++ last ∷ []) + 1
  unfolding count
  leaves-next [] last =
      omega (arith, length_all_segments ps last ([] ∷ []), length_all_segments ps last [], leaf_sum_last [] [])
  leaves-next (h ∷ ds) last =
      omega
      (arith, length_all_segments ps h ((ds ++ last ∷ []) ++ [] ∷ []), length_all_segments ps h (ds ++ last ∷ []), leaf_sum_last (ds ++ last ∷ []) [])

-- a text joined to the open segment
name-text : (ps : Separators) (t : List ℕ) (done : List (List ℕ)) (last : List ℕ) → 7 ≤ length (get_or (done ++ last ∷ []) 0 [])
    → with_bytes ps.field (name_so_far ps done last) t ≡ name_so_far ps done (last ++ t)
unfolding name_so_far
name-text ps t [] last long =
    sym (bytes-append ps.field (fresh 5) (drop 7 last) t) ∙ ap (with_bytes ps.field (fresh 5)) (sym (drop-append-le 7 last t long))
name-text ps t (h ∷ ds) last long = sym (bytes-append ps.field (fresh 1) last t)

header-text : (t : List ℕ) (done : List (List ℕ)) (last : List ℕ) → 7 ≤ length (get_or (done ++ last ∷ []) 0 [])
    → take 7 (get_or (done ++ (last ++ t) ∷ []) 0 []) ≡ take 7 (get_or (done ++ last ∷ []) 0 [])
header-text t [] last long = take-append-le 7 last t long
header-text t (h ∷ ds) last long = refl

long-header : (ps : Separators) (t : List ℕ) → take 7 t ≡ header_bytes ps → 7 ≤ length t
unfolding header_bytes
long-header ps t h = omega (arith, ap length h, length-take 7 t)

module _ (ps : Separators) (s : Survey) (t : List ℕ) (n : ℕ) (all : n ≡ count (among (splitting ps)) t) where
  pub seen-text : (done : List (List ℕ)) (last : List ℕ) → Seen ps done last s → Seen ps done (last ++ t) (text_joined ps.field s t n)
  seen-text done last w =
      let long = long-header ps (get_or (done ++ last ∷ []) 0 []) w.header in
      record {
        count = w.count;
        leaves = omega (arith, w.leaves, leaves-text ps done last t long);
        judged = record { unknown = w.judged.unknown; misplaced = w.judged.misplaced; watcher = w.judged.watcher };
        name = ap (λ (l : Name). with_bytes ps.field l t) w.name ∙ name-text ps t done last long;
        header = header-text t done last long ∙ w.header;
        no_letter = w.no_letter;
      }

-- the first segment, whatever follows
first_stays : (done : List (List ℕ)) (last : List ℕ) (more : List (List ℕ)) → get_or ((done ++ last ∷ []) ++ more) 0 [] ≡ get_or (done ++ last ∷ []) 0 []
first_stays [] last more = refl
first_stays (h ∷ ds) last more = refl

-- a segment that begins with the header bytes is an H
pub header-kind : (ps : Separators) → (72 ≡ ps.field → ⊥) → (t : List ℕ) → kind_of_segment ps (header_bytes ps ++ t) ≡ 1
unfolding header_bytes kind_of_segment kind_of number_among kind_names first_from same bytes
header-kind ps other t =
    let rest : List ℕ = drop 2 (header_bytes ps) ++ t in
    ap kind_of
    (first_more ps.field 72 (ps.field ∷ rest) other ∙ ap (λ (u : List ℕ). 72 ∷ u) (first-cut ps.field ps.field rest refl))

-- the letters gathered of the open segment spell its kind
pub kind-seen : (ps : Separators) (s : Survey) (done : List (List ℕ)) (last : List ℕ) → Seen ps done last s → kind_seen s ≡ kind_of_segment ps last
unfolding name_so_far
kind-seen ps s [] last w =
    kind-first s w.count
    ∙ sym (header-kind ps w.no_letter (drop 7 last))
    ∙ ap (λ (t : List ℕ). kind_of_segment ps (t ++ drop 7 last)) (sym w.header)
    ∙ ap (kind_of_segment ps) (take-append-drop 7 last)
kind-seen ps s (h ∷ ds) last w =
    kind-later s (λ e. omega (arith, w.count)) ∙ ap (λ (l : Name). kind_of (name_in l.letters)) w.name ∙ segment-kind ps last

-- nothing is gathered of the next segment's kind yet
name-next : (ps : Separators) (done : List (List ℕ)) (last : List ℕ) → fresh 1 ≡ name_so_far ps (done ++ last ∷ []) []
unfolding name_so_far
name-next ps [] last = sym (bytes-none ps.field (fresh 1))
name-next ps (h ∷ ds) last = sym (bytes-none ps.field (fresh 1))

-- closing the open segment
module _ (ps : Separators) (s : Survey) (table : List ℕ) (is : table ≡ followers) where
  abbrev segments_of : List (List ℕ) → List ℕ → List (List ℕ)
  segments_of done last = done ++ last ∷ []

  abbrev watcher_of : List (List ℕ) → List ℕ → Watcher
  watcher_of done last = begun (context_in ps (segments_of done last))

  kinds-last : (done : List (List ℕ)) (last : List ℕ) → kinds_of ps (segments_of done last) ≡ kinds_of ps done ++ kind_of_segment ps last ∷ []
  unfolding kinds_of
  kinds-last done last = map-append (kind_of_segment ps) done (last ∷ [])

  length-kinds : (ss : List (List ℕ)) → length (kinds_of ps ss) ≡ length ss
  unfolding kinds_of
  length-kinds ss = length-map ss (kind_of_segment ps)

  -- what has been told to the watcher that the message's context begins
  watching-seen : (done : List (List ℕ)) (last : List ℕ) → Seen ps done last s → watching s ≡ watched (watcher_of done last) (kinds_of ps done)
  unfolding kinds_of watched context_in name_so_far
  watching-seen [] last w =
      watching-first s w.count ∙ ap begun (ap (λ (l : Name). context_of (gathered l)) w.name ∙ header-context ps last)
  watching-seen (h ∷ ds) last w = watching-later s (λ e. omega (arith, w.count)) ∙ w.judged.watcher

  misplaced-seen : (done : List (List ℕ)) (last : List ℕ) → Seen ps done last s → s.misplaced ≡ first_no 1 (watcher_of done last) (kinds_of ps done)
  unfolding kinds_of first_no context_in
  misplaced-seen [] last w = w.judged.misplaced
  misplaced-seen (h ∷ ds) last w = w.judged.misplaced

  module _ (done : List (List ℕ)) (last : List ℕ) (w : Seen ps done last s) where
    told-seen : told_now (follows_by table) s ≡ tell_of (watched (watcher_of done last) (kinds_of ps done)) (kind_of_segment ps last)
    unfolding told_now
    told-seen = by_this_table table is (watching s) (kind_seen s) ∙ ap₂ tell_of (watching-seen done last w) (kind-seen ps s done last w)

    place_here : suc 0 + length (kinds_of ps done) ≡ s.segments
    place_here = omega (arith, length-kinds done, w.count)

    zero_test : (k : ℕ) → eqb k 0 ≡ eqb 0 k
    zero_test k =
        ⊎_elim
        (λ (e : k ≡ 0). eq-eqb k 0 e ∙ sym (eq-eqb 0 k (sym e)))
        (λ (e : k ≡ 0 → ⊥). ne_eqb k 0 e ∙ sym (ne_eqb 0 k (λ q. e (sym q))))
        (equal_or_not k 0)

    unknown-closed : (segment_shut (follows_by table) s).unknown ≡ first_unknown (kinds_of ps (segments_of done last))
    unfolding first_unknown
    unknown-closed =
        ap₂ (λ (a : ℕ) (b : Bool). first_held a b s.segments) w.judged.unknown (zero_test (kind_seen s) ∙ ap (eqb 0) (kind-seen ps s done last w))
        ∙ ap (first_held (first_unknown (kinds_of ps done)) (eqb 0 (kind_of_segment ps last))) (sym place_here)
        ∙ sym (first-append (eqb 0) 0 (kinds_of ps done) (kind_of_segment ps last))
        ∙ ap (first_from (eqb 0) 1) (sym (kinds-last done last))

    misplaced-closed : (segment_shut (follows_by table) s).misplaced ≡ first_no 1 (watcher_of done last) (kinds_of ps (segments_of done last))
    misplaced-closed =
        ap₂ (λ (a : ℕ) (b : Bool). first_held a (not b) s.segments) (misplaced-seen done last w) (ap (λ (x : Told). x.yes) told-seen)
        ∙ ap
        (first_held (first_no 1 (watcher_of done last) (kinds_of ps done))
        (not (tell_of (watched (watcher_of done last) (kinds_of ps done)) (kind_of_segment ps last)).yes))
        (sym place_here)
        ∙ sym (no_append 0 (watcher_of done last) (kinds_of ps done) (kind_of_segment ps last))
        ∙ ap (first_no 1 (watcher_of done last)) (sym (kinds-last done last))

    watcher-closed : (segment_shut (follows_by table) s).watcher ≡ watched (watcher_of done last) (kinds_of ps (segments_of done last))
    watcher-closed =
        ap (λ (x : Told). x.watcher) told-seen
        ∙ sym (watched-append (watcher_of done last) (kinds_of ps done) (kind_of_segment ps last))
        ∙ ap (watched (watcher_of done last)) (sym (kinds-last done last))

    -- the open segment closed and the next begun
    pub seen_next : Seen ps (segments_of done last) [] (segment_begun (segment_shut (follows_by table) s))
    seen_next =
        record {
          count = omega (arith, w.count, length-append done (last ∷ []));
          leaves = omega (arith, w.leaves, leaves-next ps done last);
          judged = record { unknown = unknown-closed; misplaced = misplaced-closed; watcher = watcher-closed };
          name = name-next ps done last;
          header = rw (first_stays done last ([] ∷ [])) w.header;
          no_letter = w.no_letter;
        }

    place-closed : place_seen (segment_shut (follows_by table) s) ≡ misplaced (context_in ps (segments_of done last)) (kinds_of ps (segments_of done last))
    unfolding place_seen place_told
    place-closed =
        let past : s.segments + 1 ≡ suc 0 + length (kinds_of ps (segments_of done last))
        = omega (arith, w.count, length-kinds (segments_of done last), length-append done (last ∷ [])) in
        ap₂ (λ (a : ℕ) (v : Watcher). place_told a v.last (s.segments + 1)) misplaced-closed watcher-closed
        ∙ ap
        (place_told (first_no 1 (watcher_of done last) (kinds_of ps (segments_of done last)))
        (watched (watcher_of done last) (kinds_of ps (segments_of done last))).last)
        past
        ∙ sym (place-told 0 (watcher_of done last) (kinds_of ps (segments_of done last)))
        ∙ place_by_watcher (context_in ps (segments_of done last)) (kinds_of ps (segments_of done last))

    -- all segments closed: what tests 7 to 11 ask
    pub seen-closed : SegmentsKnown ps (segments_of done last) (segment_shut (follows_by table) s)
    seen-closed =
        record {
          count = omega (arith, w.count, length-append done (last ∷ []));
          leaves = w.leaves;
          unknown = unknown-closed;
          context =
              ap (λ (v : Watcher). v.context) watcher-closed
              ∙ same-context (watcher_of done last) (kinds_of ps (segments_of done last));
          place = place-closed;
        }

-- before the first line: the header's seven bytes are the open segment
no_context : (ps : Separators) → context_in ps [] ≡ 0
unfolding context_in context_of_header split context_of number_among context_names first_from same bytes
no_context ps = refl

pub seen-begins : (ps : Separators) → (72 ≡ ps.field → ⊥) → Seen ps [] (header_bytes ps) nothing_seen
unfolding header_bytes count sum_of first_unknown kinds_of first_from first_no watched name_so_far
seen-begins ps other =
    record {
      count = refl;
      leaves = sym (length_all_segments ps (header_bytes ps) []);
      judged = record { unknown = refl; misplaced = refl; watcher = ap begun (sym (no_context ps)) };
      name = sym (bytes-none ps.field (fresh 5));
      header = refl;
      no_letter = other;
    }
