-- Where the nodes of a row stand once all of its dirty nodes are written.
use Rattle.std.proofs.Common.{◌≡◌, ℕ, zero, suc, ◌+◌, ◌<◌, true, false, List, [], ◌∷◌, ◌++◌, length, map, refl, ap, sym, ◌∙◌, subst, arith, inl, inr, append-nil, append_assoc, length-append}
use Rattle.std.specs.Prelude.{◌⊎◌, ◌==◌, ◌||◌, All, Option, None, Some, is_none, is_some, option_map, slice_get, unwrap_or}
use Rattle.std.proofs.lemmas.Bool.{cases_Bool}
use Rattle.std.proofs.lemmas.Bool.Decides.{nat_tests}
use Rattle.std.proofs.lemmas.List.{length-map, map-append}
use Rattle.std.proofs.lemmas.List.Elements.{All-head, All-tail}
use Rattle.ubifs_base.specs.declared.key.Key.{Key}
use Rattle.ubifs_base.specs.declared.raw_geometry.RawGeometry.{RawGeometry}
use Rattle.index_tree.specs.Shape.{done, fits}
use Rattle.index_media.specs.Clean.{is_clean_row}
use Rattle.index_media.specs.InsertionSound.{fit_node}
use Rattle.index_media.specs.KeyedRow.{KeyedRow, no_more, leaf_in, node_in, bare}
use Rattle.index_media.specs.PlacedRow.{Stretch}
use Rattle.told_value.specs.declared.told.Told.{Told}
use Rattle.table_nodes.specs.Beyond.{is_loaded}
use Rattle.table_nodes.specs.BeyondLaws.{loaded_row}
use Rattle.table_nodes.specs.Clean.{are_clean_below, is_clean_below}
use Rattle.node_table.specs.Dirty.{dirty_among, dirty_behind, dirty_below, dirty_from, dirty_lists, dirty_node}
use Rattle.table_nodes.specs.NodeView.{NodeView, node_before, row_of, stretch_at, tree_at, node_view_of, node_views, views_behind}
use Rattle.node_table.specs.Placing.{without_number}
use Rattle.node_table.specs.Unloaded.{are_loaded_if_dirty, is_loaded_if_dirty}
use Rattle.table_nodes.specs.Sound.{AreSoundViews, IsSoundView}
use Rattle.table_nodes.specs.StubLaws.{stub_view, viewed}
use Rattle.table_nodes.specs.Stubs.{unplaced, unplaced_node, IsStubOf}
use Rattle.table_nodes.specs.declared.link.Link.{Link}
use Rattle.table_nodes.specs.declared.link.Link.TheVariants.{ToLeaf, ToNode}
use Rattle.table_nodes.specs.declared.node.NodePlace.{NodePlace}
use Rattle.table_nodes.specs.declared.node.Root.{Root}
use Rattle.table_nodes.specs.declared.node.TableNode.{TableNode}
use Rattle.table_nodes.specs.declared.seen.MediumSeen.{MediumSeen}
use Rattle.table_nodes.specs.declared.stub_node.StubNode.{StubNode}
use Rattle.index_cache.specs.Paged.{dirty_of, fanout_of, frozen_of}
use Rattle.index_cache.specs.declared.paged.PagedIndex.{PagedIndex}
use Rattle.index_commit.specs.Rooms.{Room, AreDistinctNumbers, IsNotAmong, all_rooms, place_by_number, place_room, taken_room, rooms_of}
use Rattle.index_commit.specs.Written.{AreFirstsTaken, IsIndexKept, IsIndexTaken}
use Rattle.index_commit.proofs.Rooms.{node_kept}
use Rattle.node_cache.specs.CleanRows.{and_left, and_right, clean_node}

-- ---- rooms that are given to dirty nodes
-- each node without a room takes the next one of a list
abbrev fill : List (Option Room) → List (Option Room) → List (Option Room)
fill given [] = []
fill given (Some room ∷ rooms) = Some room ∷ fill given rooms
fill [] (None ∷ rooms) = None ∷ fill [] rooms
fill (o ∷ given) (None ∷ rooms) = o ∷ fill given rooms

abbrev nones : List (Option Room) → ℕ
nones [] = 0
nones (None ∷ rooms) = suc (nones rooms)
nones (Some room ∷ rooms) = nones rooms

nones_both : (xs ys : List (Option Room)) → nones (xs ++ ys) ≡ nones xs + nones ys
nones_both [] ys = omega arith
nones_both (None ∷ xs) ys = let more = nones_both xs ys in omega (arith, more)
nones_both (Some room ∷ xs) ys = nones_both xs ys

fill_both : (given more xs ys : List (Option Room)) → length given ≡ nones xs → fill (given ++ more) (xs ++ ys) ≡ fill given xs ++ fill more ys
fill_both [] more [] ys long = refl
fill_both (o ∷ given) more [] ys long = absurd (omega (arith, long))
fill_both given more (Some room ∷ xs) ys long = ap (λ (l : List (Option Room)). Some room ∷ l) (fill_both given more xs ys long)
fill_both [] more (None ∷ xs) ys long = absurd (omega (arith, long))
fill_both (o ∷ given) more (None ∷ xs) ys long = ap (λ (l : List (Option Room)). o ∷ l) (fill_both given more xs ys (omega (arith, long)))

-- these numbers stand for the nodes without rooms, in order, and with the rooms that they have then this is what was there before
abbrev IsFilled : (ℕ → Option Room) → List ℕ → List (Option Room) → List (Option Room) → Type 0
IsFilled at numbers before after = (after ≡ fill (map at numbers) before) × (length numbers ≡ nones before)

filled_both : (at : ℕ → Option Room) (xs ys : List ℕ) (a b c d : List (Option Room)) → IsFilled at xs a c → IsFilled at ys b d → IsFilled at (xs ++ ys) (a ++ b) (c ++ d)
filled_both at xs ys a b c d h k =
    let one = h.1 in
    let other = k.1 in
    let same = length-map xs at in
    let sum = length-append xs ys in
    let count = nones_both a b in
    let long : length (map at xs) ≡ nones a = omega (arith, same, one) in (
      ap (λ (l : List (Option Room)). l ++ d) h.0 ∙ ap (λ (l : List (Option Room)). fill (map at xs) a ++ l) k.0 ∙ sym (fill_both (map at xs) (map at ys) a b long)
          ∙ ap (λ (l : List (Option Room)). fill l (a ++ b)) (sym (map-append at xs ys)),
      omega (arith, one, other, sum, count),
    )

clean_nones : (row : KeyedRow) → is_clean_row row ≡ true → nones (rooms_of row) ≡ 0
clean_nones no_more c = refl
clean_nones (leaf_in x rest) c = clean_nones rest c
clean_nones (node_in key None children rest) c = let none = (clean_node key None children rest c).0 in absurd cc
clean_nones (node_in key (Some s) children rest) c =
    let parts = clean_node key (Some s) children rest c in
    let below = clean_nones children parts.1 in
    let behind = clean_nones rest parts.2 in
    let sum = nones_both (rooms_of children) (Some (place_room s) ∷ rooms_of rest) in
    omega (arith, below, behind, sum)

-- ---- nodes that are added to both tables
abbrev node_rooms : NodeView → List (Option Room)
node_rooms v = rooms_of v.children ++ option_map place_room v.place ∷ []

abbrev AreFilled : (ℕ → Option Room) → List NodeView → List NodeView → List (List ℕ) → Type 0
AreFilled at seen later known =
    (i : ℕ) (v : NodeView) → slice_get seen i ≡ Some v → (w : NodeView) × (slice_get later i ≡ Some w) × IsFilled at (unwrap_or (slice_get known i) []) (node_rooms v) (node_rooms w)

node_filled : (at : ℕ → Option Room) (f : ℕ) (seen later : List NodeView) (known : List (List ℕ)) (key : Key) (k : ℕ) (o : Option NodeView) (behind : List ℕ) (row new : KeyedRow) → slice_get seen k ≡ o
    → AreFilled at seen later known → fits f (bare (node_before key o row)) ≡ true → IsFilled at behind (rooms_of row) (rooms_of new)
    → IsFilled at (unwrap_or (slice_get known k) [] ++ behind) (rooms_of (node_before key o row)) (rooms_of (node_before key (slice_get later k) new))
node_filled at f seen later known key k None behind row new is all fit rest = let none = (fit_node f done (bare row) fit).least in absurd (omega (arith, none))
node_filled at f seen later known key k (Some v) behind row new is all fit rest =
    let own = all k v is in
    let w = own.0 in
    let numbers = unwrap_or (slice_get known k) [] in
    let both = filled_both at numbers behind (node_rooms v) (rooms_of row) (node_rooms w) (rooms_of new) own.2 rest in
    let front : node_rooms v ++ rooms_of row ≡ rooms_of (node_before key (Some v) row) = append_assoc (rooms_of v.children) (option_map place_room v.place ∷ []) (rooms_of row) in
    let back : node_rooms w ++ rooms_of new ≡ rooms_of (node_before key (Some w) new) = append_assoc (rooms_of w.children) (option_map place_room w.place ∷ []) (rooms_of new) in
    let A : List (Option Room) → Type 0 = λ l. IsFilled at (numbers ++ behind) l (node_rooms w ++ rooms_of new) in
    let B : List (Option Room) → Type 0 = λ l. IsFilled at (numbers ++ behind) (rooms_of (node_before key (Some v) row)) l in
    let O : Option NodeView → Type 0 = λ q. IsFilled at (numbers ++ behind) (rooms_of (node_before key (Some v) row)) (rooms_of (node_before key q new)) in
    subst O (sym own.1) (subst B back (subst A front both))

links_filled : (at : ℕ → Option Room) (f : ℕ) (seen later : List NodeView) (known : List (List ℕ)) (links : List Link) → AreFilled at seen later known → fits f (bare (row_of seen links)) ≡ true
    → IsFilled at (dirty_among known links) (rooms_of (row_of seen links)) (rooms_of (row_of later links))
links_filled at f seen later known [] all fit = (refl, refl)
links_filled at f seen later known (ToLeaf x ∷ links) all fit = links_filled at f seen later known links all fit
links_filled at f seen later known (ToNode key k ∷ links) all fit =
    node_filled at f seen later known key k (slice_get seen k) (dirty_among known links) (row_of seen links) (row_of later links) refl all fit
    (links_filled at f seen later known links all (others_fit key (slice_get seen k) fit))
  where
    others_fit : (key : Key) (o : Option NodeView) → fits f (bare (node_before key o (row_of seen links))) ≡ true → fits f (bare (row_of seen links)) ≡ true
    others_fit key None fit = (fit_node f done (bare (row_of seen links)) fit).others
    others_fit key (Some v) fit = (fit_node f (bare v.children) (bare (row_of seen links)) fit).others

no_number : (numbers : List ℕ) → length numbers ≡ 0 → numbers ≡ []
no_number [] e = refl
no_number (n ∷ numbers) e = absurd (omega (arith, e))

own_filled : (at : ℕ → Option Room) (n : ℕ) (below : List ℕ) (row new : KeyedRow) (old now : Option NodePlace) → IsFilled at below (rooms_of row) (rooms_of new)
    → at n ≡ option_map place_room (stretch_at now) → (stretch_at now ≡ stretch_at old) ⊎ (stretch_at old ≡ None) → (is_none (stretch_at old) || is_clean_row row) ≡ true
    → IsFilled at (dirty_node old n below) (rooms_of row ++ option_map place_room (stretch_at old) ∷ []) (rooms_of new ++ option_map place_room (stretch_at now) ∷ [])
own_filled at n below row new None now h is kept clean =
    filled_both at below (n ∷ []) (rooms_of row) (None ∷ []) (rooms_of new) (option_map place_room (stretch_at now) ∷ []) h (ap (λ (o : Option Room). o ∷ []) (sym is), refl)
own_filled at n below row new (Some p) now h is kept clean =
    let none = clean_nones row clean in
    let count = h.1 in
    let empty : below ≡ [] = no_number below (omega (arith, none, count)) in
    let P : List ℕ → Type 0 = λ l. IsFilled at l (rooms_of row) (rooms_of new) in
    let same : stretch_at now ≡ stretch_at (Some p) = elim kept [ inl e ↦ e | inr e ↦ absurd cc ] in
    filled_both at [] [] (rooms_of row) (option_map place_room (stretch_at (Some p)) ∷ []) (rooms_of new) (option_map place_room (stretch_at now) ∷ []) (subst P empty h)
    (ap (λ (s : Option Stretch). option_map place_room s ∷ []) same, refl)

get_front : {X : Type 0} (xs : List X) (x v : X) (n : ℕ) → slice_get xs n ≡ Some v → slice_get (xs ++ x ∷ []) n ≡ Some v
get_front [] x v n is = absurd cc
get_front (y ∷ xs) x v zero is = is
get_front (y ∷ xs) x v (suc n) is = get_front xs x v n is

pub get_end : {X : Type 0} (xs : List X) (x : X) → slice_get (xs ++ x ∷ []) (length xs) ≡ Some x
get_end [] x = refl
get_end (y ∷ xs) x = get_end xs x

-- an element of a list with one more
pub get_cases : {X : Type 0} (xs : List X) (x v : X) (n : ℕ) → slice_get (xs ++ x ∷ []) n ≡ Some v → ((n < length xs) × (slice_get xs n ≡ Some v)) ⊎ ((n ≡ length xs) × (Some x ≡ Some v))
get_cases [] x v zero is = inr (refl, is)
get_cases [] x v (suc n) is = absurd cc
get_cases (y ∷ xs) x v zero is = inl (omega arith, is)
get_cases (y ∷ xs) x v (suc n) is = elim (get_cases xs x v n is) [
  | inl one ↦ let less = one.0 in inl (omega (arith, less), one.1)
  | inr end ↦ let same = end.0 in inr (omega (arith, same), end.1)
]

pub list_front : (lists : List (List ℕ)) (own : List ℕ) (n : ℕ) → n < length lists → unwrap_or (slice_get (lists ++ own ∷ []) n) [] ≡ unwrap_or (slice_get lists n) []
list_front [] own n less = absurd (omega (arith, less))
list_front (list ∷ lists) own zero less = refl
list_front (list ∷ lists) own (suc n) less = list_front lists own n (omega (arith, less))

-- what was seen of a node stays
pub seen_stays : (seen : List NodeView) (nodes : List TableNode) (n : ℕ) (v : NodeView) → slice_get seen n ≡ Some v → slice_get (views_behind seen nodes) n ≡ Some v
seen_stays seen [] n v is = is
seen_stays seen (node ∷ nodes) n v is = seen_stays (seen ++ node_view_of seen node ∷ []) nodes n v (get_front seen (node_view_of seen node) v n is)

more_filled : (at : ℕ → Option Room) (seen later : List NodeView) (known : List (List ℕ)) (v w : NodeView) (own : List ℕ) → length later ≡ length seen → length known ≡ length seen → AreFilled at seen later known
    → IsFilled at own (node_rooms v) (node_rooms w) → AreFilled at (seen ++ v ∷ []) (later ++ w ∷ []) (known ++ own ∷ [])
more_filled at seen later known v w own same count all mine i x is = elim (get_cases seen v x i is) [
  | inl front ↦
      let less = front.0 in
      let one = all i x front.1 in
      let P : List ℕ → Type 0 = λ l. IsFilled at l (node_rooms x) (node_rooms one.0) in
      (one.0, get_front later w one.0 i one.1, subst P (sym (list_front known own i (omega (arith, less, count)))) one.2)
  | inr end ↦
      let here = end.0 in
      let e : v ≡ x = let both = end.1 in cc in
      let place : i ≡ length later = omega (arith, here, same) in
      let list : i ≡ length known = omega (arith, here, count) in
      let W : ℕ → Type 0 = λ n. slice_get (later ++ w ∷ []) n ≡ Some w in
      let own_list : unwrap_or (slice_get (known ++ own ∷ []) i) [] ≡ own =
      ap (λ (n : ℕ). unwrap_or (slice_get (known ++ own ∷ []) n) []) list ∙ ap (λ (o : Option (List ℕ)). unwrap_or o []) (get_end known own) in
      let P : List ℕ → Type 0 = λ l. IsFilled at l (node_rooms x) (node_rooms w) in
      let Q : NodeView → Type 0 = λ z. IsFilled at own (node_rooms z) (node_rooms w) in
      (w, subst W (sym place) (get_end later w), subst P (sym own_list) (subst Q e mine))
]

abbrev rest_nodes : List TableNode → List TableNode
rest_nodes [] = []
rest_nodes (node ∷ nodes) = nodes

-- ---- a node that isn't loaded stays as it is
-- what is known of a node that tells what is below it, and has a place
stub_by : (x : TableNode) (place : Option NodePlace) (beyond : Option (Told MediumSeen)) → x.place ≡ place → x.beyond ≡ beyond → is_none beyond ≡ false → (is_some place || is_none beyond) ≡ true → (stub : StubNode) × IsStubOf x stub
stub_by x place None e f tells placed = absurd cc
stub_by x None (Some told) e f tells placed = absurd cc
stub_by x (Some p) (Some told) e f tells placed = (record { level = x.level; place = p; told = told }, record { told = told; beyond = f; tells = refl; place = e; level = refl })

-- rooms none of which is wanting
fill_whole : (rooms : List (Option Room)) → nones rooms ≡ 0 → fill [] rooms ≡ rooms
fill_whole [] none = refl
fill_whole (Some room ∷ rooms) none = ap (λ (l : List (Option Room)). Some room ∷ l) (fill_whole rooms none)
fill_whole (None ∷ rooms) none = absurd (omega (arith, none))

-- such a node shows the same later, and has the room that it had
stub_filled : (at : ℕ → Option Room) (n : ℕ) (seen later : List NodeView) (x y : TableNode) (below : List ℕ) (stub : StubNode) → IsStubOf x stub → IsStubOf y stub → is_clean_below (node_view_of seen x) ≡ true
    → IsFilled at (dirty_node x.place n below) (node_rooms (node_view_of seen x)) (node_rooms (node_view_of later y))
stub_filled at n seen later x y below stub was now clean =
    let v = stub_view stub in
    let C : NodeView → Type 0 = λ u. is_clean_below u ≡ true in
    let none = clean_nones v.children (subst C (viewed seen x stub was) clean) in
    let sum = nones_both (rooms_of v.children) (option_map place_room v.place ∷ []) in
    let count : nones (node_rooms v) ≡ 0 = omega (arith, none, sum) in
    let own : IsFilled at [] (node_rooms v) (node_rooms v) = (sym (fill_whole (node_rooms v) count), sym count) in
    let P : List ℕ → Type 0 = λ l. IsFilled at l (node_rooms v) (node_rooms v) in
    let Q : NodeView → Type 0 = λ u. IsFilled at (dirty_node x.place n below) (node_rooms u) (node_rooms v) in
    let R : NodeView → Type 0 = λ u. IsFilled at (dirty_node x.place n below) (node_rooms (node_view_of seen x)) (node_rooms u) in
    let clean_list : dirty_node x.place n below ≡ [] = ap (λ (o : Option NodePlace). dirty_node o n below) was.place in
    subst R (sym (viewed later y stub now)) (subst Q (sym (viewed seen x stub was)) (subst P (sym clean_list) own))

-- what is known of all nodes of both tables
record AreTables (at : ℕ → Option Room) (f : ℕ) (seen later : List NodeView) : Type 0 where
  sound : (i : ℕ) (v : NodeView) → slice_get seen i ≡ Some v → fits f (bare v.children) ≡ true
  clean : (i : ℕ) (v : NodeView) → slice_get seen i ≡ Some v → is_clean_below v ≡ true
  places : (i : ℕ) (v w : NodeView) → slice_get seen i ≡ Some v → slice_get later i ≡ Some w → (at i ≡ option_map place_room w.place) × ((w.place ≡ v.place) ⊎ (v.place ≡ None))

-- one node of each table, the second one as the first but for its place
one_filled : (at : ℕ → Option Room) (f n : ℕ) (seen later : List NodeView) (known : List (List ℕ)) (x y : TableNode) → unplaced_node y ≡ unplaced_node x → is_loaded_if_dirty x ≡ true → AreFilled at seen later known
    → fits f (bare (node_view_of seen x).children) ≡ true → is_clean_below (node_view_of seen x) ≡ true → at n ≡ option_map place_room (stretch_at y.place) → (stretch_at y.place ≡ stretch_at x.place) ⊎ (stretch_at x.place ≡ None)
    → IsFilled at (dirty_node x.place n (dirty_among known x.links.items)) (node_rooms (node_view_of seen x)) (node_rooms (node_view_of later y))
one_filled at f n seen later known x y same dirty all fit clean here places =
    let v = node_view_of seen x in
    let w = node_view_of later y in
    let theirs : y.links.items ≡ x.links.items = ap (λ (t : TableNode). t.links.items) same in
    let tells : y.beyond ≡ x.beyond = ap (λ (t : TableNode). t.beyond) same in
    elim (cases_Bool (is_loaded x)) [
      | inl loaded ↦
          let L : List Link → Type 0 = λ l. IsFilled at (dirty_among known x.links.items) (rooms_of (row_of seen x.links.items)) (rooms_of (row_of later l)) in
          let front = loaded_row seen x loaded in
          let back = loaded_row later y (ap (λ (o : Option (Told MediumSeen)). is_none o) tells ∙ loaded) in
          let F : KeyedRow → Type 0 = λ r. fits f (bare r) ≡ true in
          let linked = subst L (sym theirs) (links_filled at f seen later known x.links.items all (subst F front fit)) in
          let R : KeyedRow → Type 0 = λ r. IsFilled at (dirty_among known x.links.items) (rooms_of r) (rooms_of (row_of later y.links.items)) in
          let S : KeyedRow → Type 0 = λ r. IsFilled at (dirty_among known x.links.items) (rooms_of v.children) (rooms_of r) in
          own_filled at n (dirty_among known x.links.items) v.children w.children x.place y.place (subst S (sym back) (subst R (sym front) linked)) here places clean
      | inr beyond ↦
          let stub = stub_by x x.place x.beyond refl refl beyond dirty in
          let was = stub.1 in
          let theirs_too : is_loaded y ≡ false = ap (λ (o : Option (Told MediumSeen)). is_none o) tells ∙ beyond in
          let place : y.place ≡ x.place = sym (kept_place y theirs_too) ∙ ap (λ (t : TableNode). t.place) same ∙ kept_place x beyond in
          let now : IsStubOf y stub.0 = record { told = was.told; beyond = tells ∙ was.beyond; tells = was.tells; place = place ∙ was.place; level = was.level ∙ sym (ap (λ (t : TableNode). t.level) same) } in
          stub_filled at n seen later x y (dirty_among known x.links.items) stub.0 was now clean
    ]
  where
    kept_place : (t : TableNode) → is_loaded t ≡ false → (unplaced_node t).place ≡ t.place
    kept_place t h = rw h refl

all_filled : (at : ℕ → Option Room) (f : ℕ) (seen later : List NodeView) (known : List (List ℕ)) (nodes news : List TableNode) → length later ≡ length seen → length known ≡ length seen
    → unplaced news ≡ unplaced nodes → are_loaded_if_dirty nodes ≡ true → AreTables at f (views_behind seen nodes) (views_behind later news) → AreFilled at seen later known
    → AreFilled at (views_behind seen nodes) (views_behind later news) (dirty_behind known nodes)
all_filled at f seen later known [] [] same count nodes_are dirty tables all = all
all_filled at f seen later known [] (y ∷ news) same count nodes_are dirty tables all = absurd cc
all_filled at f seen later known (x ∷ nodes) [] same count nodes_are dirty tables all = absurd cc
all_filled at f seen later known (x ∷ nodes) (y ∷ news) same count nodes_are dirty tables all =
    let v = node_view_of seen x in
    let w = node_view_of later y in
    let own = dirty_node x.place (length known) (dirty_among known x.links.items) in
    let here = seen_stays (seen ++ v ∷ []) nodes (length seen) v (get_end seen v) in
    let there : slice_get (views_behind (later ++ w ∷ []) news) (length seen) ≡ Some w =
    let P : ℕ → Type 0 = λ n. slice_get (views_behind (later ++ w ∷ []) news) n ≡ Some w in
    subst P same (seen_stays (later ++ w ∷ []) news (length later) w (get_end later w)) in
    let places = tables.places (length seen) v w here there in
    let first : unplaced_node y ≡ unplaced_node x = cc in
    let N : ℕ → Type 0 = λ n. at n ≡ option_map place_room (stretch_at y.place) in
    let mine = one_filled at f (length known) seen later known x y first (and_left (is_loaded_if_dirty x) (are_loaded_if_dirty nodes) dirty) all (tables.sound (length seen) v here) (tables.clean (length seen) v here)
    (subst N (sym count) places.0) places.1 in
    let one = length-append seen (v ∷ []) in
    let two = length-append later (w ∷ []) in
    let three = length-append known (own ∷ []) in
    all_filled at f (seen ++ v ∷ []) (later ++ w ∷ []) (known ++ own ∷ []) nodes news (omega (arith, one, two, same)) (omega (arith, one, three, count)) (ap rest_nodes nodes_are)
    (and_right (is_loaded_if_dirty x) (are_loaded_if_dirty nodes) dirty) tables (more_filled at seen later known v w own same count all mine)

-- ---- the tables of an index before and after
pub get_all : {X : Type 0} (P : X → Type 0) (xs : List X) (n : ℕ) (x : X) → All P xs → slice_get xs n ≡ Some x → P x
get_all P [] n x all is = absurd cc
get_all P (y ∷ xs) zero x all is = let e : y ≡ x = cc in subst P e (All-head P y xs all)
get_all P (y ∷ xs) (suc n) x all is = get_all P xs n x (All-tail P y xs all) is

get_clean : (seen : List NodeView) (n : ℕ) (v : NodeView) → are_clean_below seen ≡ true → slice_get seen n ≡ Some v → is_clean_below v ≡ true
get_clean [] n v all is = absurd cc
get_clean (w ∷ seen) zero v all is =
    let e : w ≡ v = cc in
    let P : NodeView → Type 0 = λ z. is_clean_below z ≡ true in
    subst P e (and_left (is_clean_below w) (are_clean_below seen) all)
get_clean (w ∷ seen) (suc n) v all is = get_clean seen n v (and_right (is_clean_below w) (are_clean_below seen) all) is

abbrev room_now : PagedIndex → ℕ → Option Room
room_now index number = option_map place_room (place_by_number index number)

tables_are : (a b : PagedIndex) → IsIndexKept a b → AreTables (room_now b) (fanout_of a) (node_views a.table.nodes.items) (node_views b.table.nodes.items)
tables_are a b kept = record {
  sound = λ i v is.
      let all : AreSoundViews (fanout_of a) (node_views a.table.nodes.items) = a.table.sound in
      let one = get_all (IsSoundView (fanout_of a)) (node_views a.table.nodes.items) i v all is in
      (fit_node (fanout_of a) (bare v.children) done one.0).children;
  clean = λ i v is. get_clean (node_views a.table.nodes.items) i v a.table.clean is;
  places = λ i v w is now.
      let here : place_by_number a i ≡ v.place = ap place_seen is in
      let there : place_by_number b i ≡ w.place = ap place_seen now in (
        ap (option_map place_room) there,
        elim (node_kept a b i kept).0 [ inl e ↦ inl (sym there ∙ e ∙ here) | inr e ↦ inr (sym here ∙ e) ],
      );
}
  where
    place_seen : Option NodeView → Option Stretch
    place_seen None = None
    place_seen (Some v) = v.place

none_filled : (at : ℕ → Option Room) → AreFilled at [] [] []
none_filled at i v is = absurd cc

-- below a root
root_filled : (a b : PagedIndex) (root : Root) → IsIndexKept a b → fits (fanout_of a) (bare (tree_at a.table.nodes.items (Some root))) ≡ true
    → IsFilled (room_now b) (dirty_below a.table.nodes.items (Some root)) (rooms_of (tree_at a.table.nodes.items (Some root))) (rooms_of (tree_at b.table.nodes.items (Some root)))
root_filled a b root kept fit =
    let all = all_filled (room_now b) (fanout_of a) [] [] [] a.table.nodes.items b.table.nodes.items refl refl kept.unplaced a.table.dirty (tables_are a b kept) (none_filled (room_now b)) in
    let numbers = dirty_from a.table.nodes.items root.number in
    let P : List ℕ → Type 0 = λ l. IsFilled (room_now b) l (rooms_of (tree_at a.table.nodes.items (Some root))) (rooms_of (tree_at b.table.nodes.items (Some root))) in
    subst P (append-nil numbers) (node_filled (room_now b) (fanout_of a) (node_views a.table.nodes.items) (node_views b.table.nodes.items) (dirty_lists a.table.nodes.items) root.key root.number
    (slice_get (node_views a.table.nodes.items) root.number) [] no_more no_more refl all fit (refl, refl))

-- ---- all that were dirty have the rooms, one after another
without_absent : (x : ℕ) (numbers : List ℕ) → IsNotAmong numbers x → without_number x numbers ≡ numbers
without_absent x [] none = refl
without_absent x (n ∷ numbers) none = elim (cases_Bool (n == x)) [
  | inl e ↦ let same : n ≡ x = grind (arith, nat_tests, e) in absurd (none 0 (ap (λ (k : ℕ). Some k) same))
  | inr e ↦ rw e (ap (λ (l : List ℕ). n ∷ l) (without_absent x numbers (λ m is. none (suc m) is)))
]

all_taken : (numbers dirty : List ℕ) → AreFirstsTaken numbers dirty [] → AreDistinctNumbers dirty → numbers ≡ dirty
all_taken [] dirty h distinct = h
all_taken (x ∷ numbers) [] h distinct = let bad = h.0 in absurd cc
all_taken (x ∷ numbers) (y ∷ dirty) h distinct =
    let same : y ≡ x = let first = h.0 in cc in
    let itself : (y == x) ≡ true = grind (arith, nat_tests, same) in
    let absent : IsNotAmong dirty x = λ n is.
    let first : slice_get (y ∷ dirty) 0 ≡ Some x = ap (λ (k : ℕ). Some k) same in
    let twice = distinct 0 (suc n) x first is in
    omega (arith, twice) in
    let rest : AreFirstsTaken numbers (without_number x dirty) [] = rw itself at h.1 in
    let T : List ℕ → Type 0 = λ l. AreFirstsTaken numbers l [] in
    let others = all_taken numbers dirty (subst T (without_absent x dirty absent) rest) (λ n m k is other. let e = distinct (suc n) (suc m) k is other in omega (arith, e)) in
    ap (λ (l : List ℕ). x ∷ l) others ∙ ap (λ (k : ℕ). k ∷ dirty) (sym same)

rooms_filled : (geo : RawGeometry) (lebs : List ℕ) (at : ℕ → Option Room) (m : ℕ) (numbers : List ℕ) (rooms : List (Option Room)) → length numbers ≡ nones rooms
    → ((n k : ℕ) → slice_get numbers n ≡ Some k → at k ≡ Some (taken_room geo lebs (m + n))) → fill (map at numbers) rooms ≡ all_rooms geo lebs m rooms
rooms_filled geo lebs at m numbers [] long h = refl
rooms_filled geo lebs at m numbers (Some room ∷ rooms) long h = ap (λ (l : List (Option Room)). Some room ∷ l) (rooms_filled geo lebs at m numbers rooms long h)
rooms_filled geo lebs at m [] (None ∷ rooms) long h = absurd (omega (arith, long))
rooms_filled geo lebs at m (x ∷ numbers) (None ∷ rooms) long h =
    let here : m + 0 ≡ m = omega arith in
    let first : at x ≡ Some (taken_room geo lebs m) = h 0 x refl ∙ ap (λ (n : ℕ). Some (taken_room geo lebs n)) here in
    let rest = rooms_filled geo lebs at (m + 1) numbers rooms (omega (arith, long)) (λ n k is.
    let later : m + suc n ≡ m + 1 + n = omega arith in
    h (suc n) k is ∙ ap (λ (i : ℕ). Some (taken_room geo lebs i)) later) in
    ap (λ (o : Option Room). o ∷ fill (map at numbers) rooms) first ∙ ap (λ (l : List (Option Room)). Some (taken_room geo lebs m) ∷ l) rest

pub row_rooms : (geo : RawGeometry) (lebs : List ℕ) (a b : PagedIndex) (i k : ℕ) → IsIndexTaken (taken_room geo lebs) a b i k → dirty_of b ≡ [] → fits (fanout_of a) (bare (frozen_of a)) ≡ true → AreDistinctNumbers (dirty_of a)
    → rooms_of (frozen_of b) ≡ all_rooms geo lebs 0 (rooms_of (frozen_of a))
row_rooms geo lebs a b i k taken none fit distinct =
    let A : List ℕ → Type 0 = λ l. AreFirstsTaken taken.numbers (dirty_of a) l in
    let whole : taken.numbers ≡ dirty_of a = all_taken taken.numbers (dirty_of a) (subst A none taken.taken) distinct in
    let roots : rooms_of (frozen_of b) ≡ rooms_of (tree_at b.table.nodes.items a.frozen) = ap (λ (o : Option Root). rooms_of (tree_at b.table.nodes.items o)) taken.kept.roots.frozen in
    roots ∙ by a.frozen fit whole
  where
    by : (o : Option Root) → fits (fanout_of a) (bare (tree_at a.table.nodes.items o)) ≡ true → taken.numbers ≡ dirty_below a.table.nodes.items o
        → rooms_of (tree_at b.table.nodes.items o) ≡ all_rooms geo lebs 0 (rooms_of (tree_at a.table.nodes.items o))
    by None fit whole = refl
    by (Some root) fit whole =
        let filled = root_filled a b root taken.kept fit in
        let count = filled.1 in
        let same = ap length whole in
        filled.0 ∙ ap (λ (l : List ℕ). fill (map (room_now b) l) (rooms_of (tree_at a.table.nodes.items (Some root)))) (sym whole)
        ∙ rooms_filled geo lebs (room_now b) 0 taken.numbers (rooms_of (tree_at a.table.nodes.items (Some root))) (omega (arith, count, same))
        (λ n number is. let later : n ≡ 0 + n = omega arith in ap (option_map place_room) (taken.rooms n number is).place ∙ ap (λ (m : ℕ). Some (taken_room geo lebs m)) later)
