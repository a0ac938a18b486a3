-- Nodes that have their places in rooms, one after another.
use Rattle.std.proofs.Common.{◌≡◌, ℕ, zero, suc, ◌+◌, ◌<◌, true, false, List, [], ◌∷◌, ◌++◌, length, map, refl, ap, sym, ◌∙◌, subst, arith, inl, inr, append_assoc, append-nil}
use Rattle.std.specs.Prelude.{◌⊎◌, ◌==◌, Bool, Option, None, Some, get_or, slice_get}
use Rattle.std.specs.List.{list_any}
use Rattle.std.proofs.lemmas.Bool.{cases_Bool}
use Rattle.std.proofs.lemmas.Bool.Decides.{nat_tests}
use Rattle.std.proofs.lemmas.List.{map-append}
use Rattle.std.proofs.lemmas.Option.{slice_get_within}
use Rattle.ubifs_base.specs.declared.key.Key.{Key}
use Rattle.ubifs_base.specs.declared.key.Key.TheVariants.{Ino}
use Rattle.index_media.specs.Clean.{is_clean_row, placed_of}
use Rattle.index_media.specs.KeyedRow.{KeyedRow, no_more, leaf_in, node_in}
use Rattle.index_media.specs.PlacedRow.{Stretch, branches_of}
use Rattle.media_sys.specs.Index.{Index}
use Rattle.table_nodes.specs.NodeView.{NodeView, children_in, node_before, stretch_at, tree_at, node_view_of, node_views, views_behind}
use Rattle.node_table.specs.Placing.{KeepsPlaces, with_place, without_number}
use Rattle.node_table.specs.Pruning.{stretch_in}
use Rattle.table_nodes.specs.declared.node.NodePlace.{NodePlace}
use Rattle.table_nodes.specs.declared.node.Root.{Root}
use Rattle.table_nodes.specs.declared.node.TableNode.{TableNode}
use Rattle.index_cache.specs.Commit.{below_node, level_in, node_length, said_of}
use Rattle.index_cache.specs.declared.paged.PagedIndex.{PagedIndex}
use Rattle.index_commit.specs.Rooms.{Room, AreDistinctNumbers, AreInRooms, IsInRoom, IsNotAmong, place_by_number}
use Rattle.index_commit.specs.Written.{AreFirstsTaken, IsIndexKept}
use Rattle.node_cache.specs.CleanRows.{clean_node}

-- ---- what is seen of the nodes of a table
abbrev level_seen : NodeView → ℕ
level_seen v = v.level

abbrev place_seen : NodeView → Option Stretch
place_seen v = v.place

abbrev level_kept : TableNode → ℕ
level_kept node = node.level

abbrev place_kept : TableNode → Option Stretch
place_kept node = stretch_at node.place

levels_behind : (seen : List NodeView) (nodes : List TableNode) → map level_seen (views_behind seen nodes) ≡ map level_seen seen ++ map level_kept nodes
levels_behind seen [] = sym (append-nil (map level_seen seen))
levels_behind seen (node ∷ nodes) =
    levels_behind (seen ++ node_view_of seen node ∷ []) nodes ∙ ap (λ (l : List ℕ). l ++ map level_kept nodes) (map-append level_seen seen (node_view_of seen node ∷ []))
    ∙ append_assoc (map level_seen seen) (node.level ∷ []) (map level_kept nodes)

places_behind : (seen : List NodeView) (nodes : List TableNode) → map place_seen (views_behind seen nodes) ≡ map place_seen seen ++ map place_kept nodes
places_behind seen [] = sym (append-nil (map place_seen seen))
places_behind seen (node ∷ nodes) =
    places_behind (seen ++ node_view_of seen node ∷ []) nodes ∙ ap (λ (l : List (Option Stretch)). l ++ map place_kept nodes) (map-append place_seen seen (node_view_of seen node ∷ []))
    ∙ append_assoc (map place_seen seen) (stretch_at node.place ∷ []) (map place_kept nodes)

level_at : (vs : List NodeView) (n : ℕ) → level_in (slice_get vs n) ≡ get_or (map level_seen vs) n 0
level_at [] n = refl
level_at (v ∷ vs) zero = refl
level_at (v ∷ vs) (suc n) = level_at vs n

place_at : (vs : List NodeView) (n : ℕ) → stretch_in (slice_get vs n) ≡ get_or (map place_seen vs) n None
place_at [] n = refl
place_at (v ∷ vs) zero = refl
place_at (v ∷ vs) (suc n) = place_at vs n

levels_with : (n : ℕ) (p : NodePlace) (nodes : List TableNode) → map level_kept (with_place n p nodes) ≡ map level_kept nodes
levels_with n p [] = refl
levels_with zero p (node ∷ nodes) = refl
levels_with (suc n) p (node ∷ nodes) = ap (λ (l : List ℕ). node.level ∷ l) (levels_with n p nodes)

place_with : (n : ℕ) (p : NodePlace) (nodes : List TableNode) → n < length nodes → get_or (map place_kept (with_place n p nodes)) n None ≡ stretch_at (Some p)
place_with n p [] there = absurd (omega (arith, there))
place_with zero p (node ∷ nodes) there = refl
place_with (suc n) p (node ∷ nodes) there = place_with n p nodes (omega (arith, there))

other_with : (n k : ℕ) (p : NodePlace) (nodes : List TableNode) → (k ≡ n → ⊥) → get_or (map place_kept (with_place n p nodes)) k None ≡ get_or (map place_kept nodes) k None
other_with n k p [] other = refl
other_with zero zero p (node ∷ nodes) other = absurd (other refl)
other_with zero (suc k) p (node ∷ nodes) other = refl
other_with (suc n) zero p (node ∷ nodes) other = refl
other_with (suc n) (suc k) p (node ∷ nodes) other = other_with n k p nodes (λ e. other (ap (λ (i : ℕ). suc i) e))

-- a node that gets its place has it, and all keep their levels
pub level_stays : (n number : ℕ) (p : NodePlace) (old new : List TableNode) → new ≡ with_place n p old → level_in (slice_get (node_views new) number) ≡ level_in (slice_get (node_views old) number)
level_stays n number p old new e =
    let same : map level_seen (node_views new) ≡ map level_seen (node_views old) = levels_behind [] new ∙ ap (map level_kept) e ∙ levels_with n p old ∙ sym (levels_behind [] old) in
    level_at (node_views new) number ∙ ap (λ (l : List ℕ). get_or l number 0) same ∙ sym (level_at (node_views old) number)

pub place_given : (n : ℕ) (p : NodePlace) (old new : List TableNode) → n < length old → new ≡ with_place n p old → stretch_in (slice_get (node_views new) n) ≡ stretch_at (Some p)
place_given n p old new there e =
    place_at (node_views new) n ∙ ap (λ (l : List (Option Stretch)). get_or l n None) (places_behind [] new ∙ ap (map place_kept) e) ∙ place_with n p old there

pub other_places : (n k : ℕ) (p : NodePlace) (old new : List TableNode) → (k ≡ n → ⊥) → new ≡ with_place n p old → stretch_in (slice_get (node_views new) k) ≡ stretch_in (slice_get (node_views old) k)
other_places n k p old new other e =
    place_at (node_views new) k ∙ ap (λ (l : List (Option Stretch)). get_or l k None) (places_behind [] new ∙ ap (map place_kept) e) ∙ other_with n k p old other
    ∙ ap (λ (l : List (Option Stretch)). get_or l k None) (sym (places_behind [] old)) ∙ sym (place_at (node_views old) k)

-- ---- a node by its number
pub view_node : (key : Key) (v : Option NodeView) → node_before key v no_more ≡ node_in key (stretch_in v) (children_in v) no_more
view_node key None = refl
view_node key (Some v) = refl

abbrev top_place : KeyedRow → Option Stretch
top_place no_more = None
top_place (leaf_in x rest) = None
top_place (node_in key place children rest) = place

abbrev top_children : KeyedRow → KeyedRow
top_children no_more = no_more
top_children (leaf_in x rest) = no_more
top_children (node_in key place children rest) = children

-- what keeps its places keeps the place of each node, and what is below it
pub node_kept : (a b : PagedIndex) (number : ℕ) → IsIndexKept a b
    → ((place_by_number b number ≡ place_by_number a number) ⊎ (place_by_number a number ≡ None)) × KeepsPlaces (below_node a number) (below_node b number)
node_kept a b number kept =
    let key : Key = Ino 0 in
    let va = slice_get (node_views a.table.nodes.items) number in
    let vb = slice_get (node_views b.table.nodes.items) number in
    let root : Root = record { key = key; number = number } in
    let A : KeyedRow → Type 0 = λ r. KeepsPlaces r (tree_at b.table.nodes.items (Some root)) in
    let B : KeyedRow → Type 0 = λ r. KeepsPlaces (node_in key (stretch_in va) (children_in va) no_more) r in
    let k : KeepsPlaces (node_in key (stretch_in va) (children_in va) no_more) (node_in key (stretch_in vb) (children_in vb) no_more) =
    subst B (view_node key vb) (subst A (view_node key va) (kept.trees (Some root))) in
    let place : stretch_in vb ≡ k.0 = ap top_place k.3 in
    let below : children_in vb ≡ k.1 = ap top_children k.3 in
    let C : KeyedRow → Type 0 = λ r. KeepsPlaces (children_in va) r in
    (elim k.4 [ inl e ↦ inl (place ∙ e) | inr e ↦ inr e ], subst C (sym below) k.5)

-- a clean row keeps all
pub clean_kept : (row new : KeyedRow) → is_clean_row row ≡ true → KeepsPlaces row new → new ≡ row
clean_kept no_more new c h = h
clean_kept (leaf_in x rest) new c h = h.1 ∙ ap (leaf_in x) (clean_kept rest h.0 c h.2)
clean_kept (node_in key None children rest) new c h = let none = (clean_node key None children rest c).0 in absurd cc
clean_kept (node_in key (Some s) children rest) new c h =
    let parts = clean_node key (Some s) children rest c in
    let place : h.0 ≡ Some s = elim h.4 [ inl e ↦ e | inr e ↦ absurd cc ] in
    let below = clean_kept children h.1 parts.1 h.5 in
    let behind = clean_kept rest h.2 parts.2 h.6 in
    h.3 ∙ ap (λ (o : Option Stretch). node_in key o h.1 h.2) place ∙ ap (λ (c : KeyedRow). node_in key (Some s) c h.2) below ∙ ap (node_in key (Some s) children) behind

abbrev saying : ℕ → KeyedRow → Index
saying level row = record { level = level; branches = branches_of (placed_of row) }

-- a node below which all is clean says what it said
pub said_stays : (a b : PagedIndex) (number : ℕ) → IsIndexKept a b → is_clean_row (below_node a number) ≡ true → said_of b number ≡ said_of a number
said_stays a b number kept clean =
    let same = clean_kept (below_node a number) (below_node b number) clean (node_kept a b number kept).1 in
    ap (λ (row : KeyedRow). saying (said_of b number).level row) same ∙ ap (λ (n : ℕ). saying n (below_node a number)) (kept.levels number)

-- ---- rooms
pub room_stays : (a b : PagedIndex) (room : Room) (number : ℕ) → IsIndexKept a b → IsInRoom a room number → IsInRoom b room number
room_stays a b room number kept h =
    let node = node_kept a b number kept in
    let said = said_stays a b number kept h.clean in
    let same = clean_kept (below_node a number) (below_node b number) h.clean node.1 in
    let C : KeyedRow → Type 0 = λ r. is_clean_row r ≡ true in
    let stretch : Index → Stretch = λ said. record { lnum = room.lnum; offs = room.offs; len = node_length said } in
    record {
      place = elim node.0 [
        | inl e ↦ e ∙ h.place ∙ ap (λ (s : Index). Some (stretch s)) (sym said)
        | inr none ↦ let bad = sym none ∙ h.place in absurd cc
      ];
      clean = subst C (sym same) h.clean;
    }

-- no number stands in an empty list
pub none_there : (n number : ℕ) → slice_get {X = ℕ} [] n ≡ Some number → ⊥
none_there n number is = absurd cc

-- a number of one list behind another stands in the one or in the other
pub get_both : (xs ys : List ℕ) (n x : ℕ) → slice_get (xs ++ ys) n ≡ Some x
    → ((n < length xs) × (slice_get xs n ≡ Some x)) ⊎ ((m : ℕ) × (n ≡ length xs + m) × (slice_get ys m ≡ Some x))
get_both [] ys n x h = inr (n, omega arith, h)
get_both (y ∷ xs) ys zero x h = inl (omega arith, h)
get_both (y ∷ xs) ys (suc n) x h = elim (get_both xs ys n x h) [
  | inl one ↦ let less = one.0 in inl (omega (arith, less), one.1)
  | inr other ↦ let is = other.1 in inr (other.0, omega (arith, is), other.2)
]

get_front : (xs ys : List ℕ) (n x : ℕ) → slice_get xs n ≡ Some x → slice_get (xs ++ ys) n ≡ Some x
get_front [] ys n x h = absurd cc
get_front (y ∷ xs) ys zero x h = h
get_front (y ∷ xs) ys (suc n) x h = get_front xs ys n x h

get_behind : (xs ys : List ℕ) (n x : ℕ) → slice_get ys n ≡ Some x → slice_get (xs ++ ys) (length xs + n) ≡ Some x
get_behind [] ys n x h =
    let same : n ≡ 0 + n = omega arith in
    let P : ℕ → Type 0 = λ k. slice_get ys k ≡ Some x in
    subst P same h
get_behind (y ∷ xs) ys n x h =
    let same : suc (length xs + n) ≡ suc (length xs) + n = omega arith in
    let P : ℕ → Type 0 = λ k. slice_get (y ∷ (xs ++ ys)) k ≡ Some x in
    subst P same (get_behind xs ys n x h)

-- a number that isn't in both lists isn't in one
pub not_front : (xs ys : List ℕ) (number : ℕ) → IsNotAmong (xs ++ ys) number → IsNotAmong xs number
not_front xs ys number none n is = none n (get_front xs ys n number is)

pub not_behind : (xs ys : List ℕ) (number : ℕ) → IsNotAmong (xs ++ ys) number → IsNotAmong ys number
not_behind xs ys number none n is = none (length xs + n) (get_behind xs ys n number is)

pub rooms_both : (r r1 r2 : ℕ → Room) (b c : PagedIndex) (xs ys : List ℕ) → IsIndexKept b c → AreInRooms r1 b xs → AreInRooms r2 c ys → ((n : ℕ) → n < length xs → r1 n ≡ r n)
    → ((n : ℕ) → n < length ys → r2 n ≡ r (length xs + n)) → AreInRooms r c (xs ++ ys)
rooms_both r r1 r2 b c xs ys kept one other first second n number h = elim (get_both xs ys n number h) [
  | inl here ↦
      let P : Room → Type 0 = λ room. IsInRoom c room number in
      subst P (first n here.0) (room_stays b c (r1 n) number kept (one n number here.1))
  | inr there ↦
      let P : Room → Type 0 = λ room. IsInRoom c room number in
      let same : r (length xs + there.0) ≡ r n = ap r (sym there.1) in
      subst P (second there.0 (slice_get_within ys there.0 number there.2) ∙ same) (other there.0 number there.2)
]

-- ---- numbers that are taken
pub taken_then : (xs ys a b c : List ℕ) → AreFirstsTaken xs a b → AreFirstsTaken ys b c → AreFirstsTaken (xs ++ ys) a c
taken_then [] ys a b c h k =
    let P : List ℕ → Type 0 = λ x. AreFirstsTaken ys x c in
    subst P h k
taken_then (x ∷ xs) ys a b c h k = (h.0, taken_then xs ys (without_number x a) b c h.1 k)

is_number : ℕ → ℕ → Bool
is_number number n = n == number

test_without : (k number : ℕ) (numbers : List ℕ) → list_any (is_number k) (without_number number numbers) ≡ true → list_any (is_number k) numbers ≡ true
unfolding is_number
test_without k number [] h = h
test_without k number (n ∷ numbers) h = elim (cases_Bool (n == number)) [
  | inl e ↦ elim (cases_Bool (n == k)) [
    | inl f ↦ rw f refl
    | inr f ↦ let gone : list_any (is_number k) (without_number number numbers) ≡ true = rw e at h in rw f (test_without k number numbers gone)
  ]
  | inr e ↦ elim (cases_Bool (n == k)) [
    | inl f ↦ rw f refl
    | inr f ↦ let more : list_any (is_number k) (without_number number numbers) ≡ true = rw (e, f) at h in rw f (test_without k number numbers more)
  ]
]

test_gone : (k : ℕ) (numbers : List ℕ) → list_any (is_number k) (without_number k numbers) ≡ false
unfolding is_number
test_gone k [] = refl
test_gone k (n ∷ numbers) = elim (cases_Bool (n == k)) [
  | inl e ↦ rw e (test_gone k numbers)
  | inr e ↦ rw (e, e) (test_gone k numbers)
]

first_found : (k : ℕ) (numbers : List ℕ) → slice_get numbers 0 ≡ Some k → list_any (is_number k) numbers ≡ true
unfolding is_number
first_found k [] h = absurd cc
first_found k (n ∷ numbers) h =
    let same : n ≡ k = cc in
    let e : (n == k) ≡ true = grind (arith, nat_tests, same) in
    rw e refl

taken_found : (numbers old new : List ℕ) (n k : ℕ) → AreFirstsTaken numbers old new → slice_get numbers n ≡ Some k → list_any (is_number k) old ≡ true
taken_found [] old new n k h is = absurd cc
taken_found (x ∷ numbers) old new zero k h is = first_found k old (h.0 ∙ is)
taken_found (x ∷ numbers) old new (suc n) k h is = test_without k x old (taken_found numbers (without_number x old) new n k h.1 is)

once_more : (x : ℕ) (numbers old new : List ℕ) (n k : ℕ) → AreFirstsTaken numbers (without_number x old) new → Some x ≡ Some k → slice_get numbers n ≡ Some k → ⊥
once_more x numbers old new n k h first is =
    let found = taken_found numbers (without_number x old) new n k h is in
    let same : x ≡ k = cc in
    let P : ℕ → Type 0 = λ y. list_any (is_number k) (without_number y old) ≡ true in
    let gone = test_gone k old in
    let bad = sym gone ∙ subst P same found in
    absurd cc

pub taken_distinct : (numbers old new : List ℕ) → AreFirstsTaken numbers old new → AreDistinctNumbers numbers
taken_distinct [] old new h n m k is other = absurd cc
taken_distinct (x ∷ numbers) old new h zero zero k is other = refl
taken_distinct (x ∷ numbers) old new h zero (suc m) k is other = absurd (once_more x numbers old new m k h.1 is other)
taken_distinct (x ∷ numbers) old new h (suc n) zero k is other = absurd (once_more x numbers old new n k h.1 other is)
taken_distinct (x ∷ numbers) old new h (suc n) (suc m) k is other = ap (λ (i : ℕ). suc i) (taken_distinct numbers (without_number x old) new h.1 n m k is other)
