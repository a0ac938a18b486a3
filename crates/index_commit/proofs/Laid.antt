-- Nodes that are laid one after another.
use Rattle.std.proofs.Common.{◌≡◌, ℕ, zero, suc, ◌+◌, ◌*◌, ◌<◌, ◌≤◌, true, List, [], ◌∷◌, ◌++◌, length, take, drop, refl, ap, sym, ◌∙◌, subst, arith, inl, inr, length-append, append-nil, append_assoc}
use Rattle.std.specs.Prelude.{◌==◌, Option, Some, slice_get}
use Rattle.std.proofs.lemmas.Bool.{cases_Bool}
use Rattle.std.proofs.lemmas.Bool.Decides.{nat_tests}
use Rattle.std.proofs.lemmas.Option.{slice_get_within}
use Rattle.std.proofs.Math.Nat.{add-mul}
use Rattle.std.proofs.Math.Seq.{drop-append_seam, take-append_seam}
use Rattle.ubifs_base.specs.declared.key.Key.{Key}
use Rattle.index_tree.specs.Levels.{levelled}
use Rattle.index_media.specs.Clean.{is_clean_row}
use Rattle.index_media.specs.KeyedRow.{KeyedRow, bare}
use Rattle.index_media.specs.PlacedRow.{Stretch}
use Rattle.index_media.specs.Standing.{AreStandingAs, StandsAs}
use Rattle.media_sys.specs.SystemNode.{index, IsSystemNode}
use Rattle.media_sys.specs.Index.{Index}
use Rattle.table_nodes.specs.NodeView.{stretch_at, tree_at}
use Rattle.node_table.specs.Placing.{IsPlacedRow, KeepsPlaces, with_place, without_number}
use Rattle.table_nodes.specs.declared.node.NodePlace.{NodePlace}
use Rattle.table_nodes.specs.Stubs.{unplaced}
use Rattle.table_nodes.specs.declared.node.Root.{Root}
use Rattle.index_cache.specs.Commit.{IsNextNode, below_node, node_length, place_for, said_of}
use Rattle.index_cache.specs.Paged.{dirty_of, frozen_of, keyed_tree_of, KeepsRoots}
use Rattle.index_cache.specs.declared.paged.PagedIndex.{PagedIndex}
use Rattle.index_commit.specs.Rooms.{IsInRoom, Room, room_in}
use Rattle.index_commit.specs.Written.{AreFirstsTaken, IsIndexKept, IsIndexTaken, AreNodesLaid, Laying, Meets, with_leb_bytes}
use Rattle.index_commit.specs.LebTexts.{in_room}
use Rattle.index_commit.proofs.LebTexts.{both_texts, firsts_taken, one_text}
use Rattle.index_commit.proofs.Rooms.{clean_kept, level_stays, node_kept, none_there, not_behind, not_front, other_places, place_given, rooms_both, said_stays, taken_distinct, taken_then}
use Rattle.index_commit.proofs.Standing.{Grows, row_placed}

-- ---- the laws of the table on places
abbrev pub GivenIsKept : Type 0
GivenIsKept = (place : NodePlace) (below old new : KeyedRow) → IsPlacedRow place below old new → KeepsPlaces old new

abbrev pub NoneIsKept : Type 0
NoneIsKept = (row : KeyedRow) → KeepsPlaces row row

abbrev pub BothAreKept : Type 0
BothAreKept = (first second third : KeyedRow) → KeepsPlaces first second → KeepsPlaces second third → KeepsPlaces first third

abbrev pub AreFewer : Type 0
AreFewer = (number : ℕ) (numbers : List ℕ) → slice_get numbers 0 ≡ Some number → length (without_number number numbers) < length numbers

-- ---- numbers that are taken
pub taken_fewer : AreFewer → (xs a b : List ℕ) → AreFirstsTaken xs a b → length b + length xs ≤ length a
taken_fewer fewer [] a b h = let same = ap length h in omega (arith, same)
taken_fewer fewer (x ∷ xs) a b h =
    let one = fewer x a h.0 in
    let more = taken_fewer fewer xs (without_number x a) b h.1 in
    omega (arith, one, more)

-- ---- the index
roots_then : (a b c : PagedIndex) → KeepsRoots a b → KeepsRoots b c → KeepsRoots a c
roots_then a b c h k = record {
  root = k.root ∙ h.root;
  frozen = k.frozen ∙ h.frozen;
  fanout = k.fanout ∙ h.fanout;
  sound = λ root s. k.sound root (h.sound root s);
}

pub kept_then : BothAreKept → (a b c : PagedIndex) → IsIndexKept a b → IsIndexKept b c → IsIndexKept a c
kept_then both a b c h k = record {
  levels = λ number. k.levels number ∙ h.levels number;
  unplaced = k.unplaced ∙ h.unplaced;
  frozen = both (frozen_of a) (frozen_of b) (frozen_of c) h.frozen k.frozen;
  tree = both (keyed_tree_of a) (keyed_tree_of b) (keyed_tree_of c) h.tree k.tree;
  trees = λ root. both (tree_at a.table.nodes.items root) (tree_at b.table.nodes.items root) (tree_at c.table.nodes.items root) (h.trees root) (k.trees root);
  roots = roots_then a b c h.roots k.roots;
}

-- the same rooms by another name
pub index_rooms : (r r1 : ℕ → Room) (a b : PagedIndex) (i j : ℕ) → (h : IsIndexTaken r1 a b i j) → ((n : ℕ) → n < length h.numbers → r1 n ≡ r n) → IsIndexTaken r a b i j
index_rooms r r1 a b i j h same = record {
  kept = h.kept;
  numbers = h.numbers;
  taken = h.taken;
  firsts = h.firsts;
  distinct = h.distinct;
  rooms = λ n number is.
      let P : Room → Type 0 = λ room. IsInRoom b room number in
      subst P (same n (slice_get_within h.numbers n number is)) (h.rooms n number is);
  others = h.others;
  number = h.number;
  most = h.most;
}

-- nodes are written in the rooms of the first part, and then in those of the second
abbrev pub index_then : BothAreKept → (r r1 r2 : ℕ → Room) (a b c : PagedIndex) (i j k : ℕ) → (h : IsIndexTaken r1 a b i j) → (g : IsIndexTaken r2 b c j k)
    → ((n : ℕ) → n < length h.numbers → r1 n ≡ r n) → ((n : ℕ) → n < length g.numbers → r2 n ≡ r (length h.numbers + n)) → IsIndexTaken r a c i k
index_then both r r1 r2 a b c i j k h g front back =
    let first = h.number in
    let second = g.number in
    let one = h.most in
    let other = g.most in
    let sum = length-append h.numbers g.numbers in
    let taken = taken_then h.numbers g.numbers (dirty_of a) (dirty_of b) (dirty_of c) h.taken g.taken in
    record {
      kept = kept_then both a b c h.kept g.kept;
      numbers = h.numbers ++ g.numbers;
      taken = taken;
      firsts = firsts_taken (h.numbers ++ g.numbers) (dirty_of a) (dirty_of c) taken;
      distinct = taken_distinct (h.numbers ++ g.numbers) (dirty_of a) (dirty_of c) taken;
      rooms = rooms_both r r1 r2 b c h.numbers g.numbers g.kept h.rooms g.rooms front back;
      others = λ number none. g.others number (not_behind h.numbers g.numbers number none) ∙ h.others number (not_front h.numbers g.numbers number none);
      number = omega (arith, first, second, sum);
      most = omega (arith, one, other);
    }

pub kept_none : NoneIsKept → (a : PagedIndex) → IsIndexKept a a
kept_none none a = record {
  levels = λ number. refl;
  unplaced = refl;
  frozen = none (frozen_of a);
  tree = none (keyed_tree_of a);
  trees = λ root. none (tree_at a.table.nodes.items root);
  roots = record { root = refl; frozen = refl; fanout = refl; sound = λ root s. s };
}

abbrev pub index_none : NoneIsKept → (r : ℕ → Room) (a : PagedIndex) (i : ℕ) → IsIndexTaken r a a i i
index_none none r a i = record {
  kept = kept_none none a;
  numbers = [];
  taken = refl;
  firsts = refl;
  distinct = λ n m k is other. absurd (none_there n k is);
  rooms = λ n number is. absurd (none_there n number is);
  others = λ number none. refl;
  number = omega arith;
  most = omega arith;
}

-- ---- a LEB in contents
pub leb_here : (lnum : ℕ) (bytes : List ℕ) (contents : ℕ → List ℕ) → with_leb_bytes lnum bytes contents lnum ≡ bytes
leb_here lnum bytes contents = let itself : (lnum == lnum) ≡ true = grind (arith, nat_tests) in rw itself refl

pub leb_grows : (lnum : ℕ) (front own : List ℕ) (contents : ℕ → List ℕ) → Grows (with_leb_bytes lnum front contents) (with_leb_bytes lnum (front ++ own) contents)
leb_grows lnum front own contents k = elim (cases_Bool (k == lnum)) [
  | inl e ↦ (own, rw e refl)
  | inr e ↦ ([], rw e (sym (append-nil (contents k))))
]

-- ---- bytes that are laid
pub laid_same : NoneIsKept → (lnum room : ℕ) (a : PagedIndex) (sqnum : ℕ) (front bytes : List ℕ) → bytes ≡ front
    → AreNodesLaid lnum room (record { index = a; sqnum = sqnum; bytes = front }) (record { index = a; sqnum = sqnum; bytes = bytes })
laid_same none lnum room a sqnum front bytes e =
    let long = ap length e in
    record {
      index = index_none none (room_in lnum room (length front)) a sqnum;
      more = [];
      bytes = e ∙ sym (append-nil front);
      long = omega (arith, long);
      text = refl;
      stand = λ contents asked root own h. subst (λ x. AreStandingAs (with_leb_bytes lnum x contents) (Meets asked) (tree_at a.table.nodes.items root)) (sym e) h;
    }

abbrev room_at : ℕ → ℕ → Room
room_at lnum offs = record { lnum = lnum; offs = offs }

-- a room behind others
room_behind : (lnum len from then n m : ℕ) → then ≡ from + m * len → room_in lnum len then n ≡ room_in lnum len from (m + n)
room_behind lnum len from then n m e =
    let sum = add-mul m n len in
    let offs : then + n * len ≡ from + (m + n) * len = omega (arith, e, sum) in
    ap (λ (o : ℕ). room_at lnum o) offs

pub laid_then : BothAreKept → (lnum room : ℕ) (a b c : Laying) → AreNodesLaid lnum room a b → AreNodesLaid lnum room b c → AreNodesLaid lnum room a c
laid_then both lnum room a b c h k =
    let first = h.long in
    let second = k.long in
    let sum = add-mul (length h.index.numbers) (length k.index.numbers) room in
    let count = length-append h.index.numbers k.index.numbers in
    let whole = ap (λ (n : ℕ). n * room) count in
    let i = h.index.number in
    let j = k.index.number in
    record {
      index = index_then both (room_in lnum room (length a.bytes)) (room_in lnum room (length a.bytes)) (room_in lnum room (length b.bytes)) a.index b.index c.index a.sqnum b.sqnum c.sqnum h.index
          k.index (λ n few. refl) (λ n few. room_behind lnum room (length a.bytes) (length b.bytes) n (length h.index.numbers) first);
      more = h.more ++ k.more;
      bytes = k.bytes ∙ ap (λ x. x ++ k.more) h.bytes ∙ append_assoc a.bytes h.more k.more;
      long = omega (arith, first, second, sum, whole);
      text = both_texts (room_in lnum room (length a.bytes)) room a.sqnum b.sqnum b.index c.index h.index.numbers k.index.numbers h.more k.more k.index.kept h.index.rooms i h.text k.text;
      stand = λ contents asked root own x. k.stand contents asked root (λ place n e low most. own place n e (omega (arith, low, i)) most) (h.stand contents asked root (λ place n e low most. own place n e low (omega (arith, most, j))) x);
    }

-- what a node that is laid and placed makes of the index
pub record IsPlaced (lnum offs node : ℕ) (old new : PagedIndex) : Type 0 where
  pub next : IsNextNode old node
  pub levels : levelled (said_of old node).level (bare (below_node old node)) ≡ true
  pub frozen : IsPlacedRow (place_for lnum offs (said_of old node)) (below_node old node) (frozen_of old) (frozen_of new)
  pub tree : IsPlacedRow (place_for lnum offs (said_of old node)) (below_node old node) (keyed_tree_of old) (keyed_tree_of new)
  pub trees : (root : Option Root) → IsPlacedRow (place_for lnum offs (said_of old node)) (below_node old node) (tree_at old.table.nodes.items root) (tree_at new.table.nodes.items root)
  pub nodes : new.table.nodes.items ≡ with_place node (place_for lnum offs (said_of old node)) old.table.nodes.items
  pub dirty : dirty_of new ≡ without_number node (dirty_of old)
  pub unplaced : unplaced new.table.nodes.items ≡ unplaced old.table.nodes.items
  pub roots : KeepsRoots old new

-- and of the bytes
pub record IsLaidBehind (said room offs : ℕ) (front own bytes : List ℕ) : Type 0 where
  pub start : offs ≡ length front
  pub whole : bytes ≡ front ++ own
  pub long : length own ≡ room
  pub fits : said ≤ room

node_stands : (lnum room node offs after : ℕ) (old new : PagedIndex) (front own bytes : List ℕ) (contents : ℕ → List ℕ) (P : Stretch → ℕ → ℕ → Type 0) (key : Key) → IsPlaced lnum offs node old new
    → IsLaidBehind (node_length (said_of old node)) room offs front own bytes
    → IsSystemNode (take (node_length (said_of old node)) own) after 0 (index (said_of old node)) → P (record { lnum = lnum; offs = offs; len = node_length (said_of old node) }) after 0
    → StandsAs (with_leb_bytes lnum bytes contents) P key (record { lnum = lnum; offs = offs; len = node_length (said_of old node) }) (below_node old node)
node_stands lnum room node offs after old new front own bytes contents P key p b is said =
    let here = leb_here lnum bytes contents in
    let behind : drop offs bytes ≡ own = ap (drop offs) b.whole ∙ ap (λ n. drop n (front ++ own)) b.start ∙ drop-append_seam front own in
    let own_long = b.long in
    let fits = b.fits in
    let start = b.start in
    let whole = ap length b.whole ∙ length-append front own in
    let L : List ℕ → Type 0 = λ leb. offs + node_length (said_of old node) ≤ length leb in
    let Q : List ℕ → Type 0 = λ leb. IsSystemNode (take (node_length (said_of old node)) (drop offs leb)) after 0 (index (said_of old node)) in
    let R : List ℕ → Type 0 = λ leb. IsSystemNode (take (node_length (said_of old node)) leb) after 0 (index (said_of old node)) in
    record {
      clean = p.next.ready.below;
      level = (said_of old node).level;
      levels = p.levels;
      node = record {
        sqnum = after;
        group = 0;
        room = subst L (sym here) (omega (arith, own_long, fits, start, whole));
        is = subst Q (sym here) (subst R (sym behind) is);
      };
      holds = said;
    }

placed_kept : GivenIsKept → (lnum offs node : ℕ) (old new : PagedIndex) → IsPlaced lnum offs node old new → IsIndexKept old new
placed_kept given lnum offs node old new p =
    let place = place_for lnum offs (said_of old node) in
    let below = below_node old node in
    record {
      levels = λ number. level_stays node number place old.table.nodes.items new.table.nodes.items p.nodes;
      unplaced = p.unplaced;
      frozen = given place below (frozen_of old) (frozen_of new) p.frozen;
      tree = given place below (keyed_tree_of old) (keyed_tree_of new) p.tree;
      trees = λ root. given place below (tree_at old.table.nodes.items root) (tree_at new.table.nodes.items root) (p.trees root);
      roots = p.roots;
    }

-- the node has its place in the next room
node_room : (lnum offs node : ℕ) (old new : PagedIndex) → IsPlaced lnum offs node old new → IsIndexKept old new → IsInRoom new (room_at lnum offs) node
node_room lnum offs node old new p kept =
    let clean = p.next.ready.below in
    let said = said_stays old new node kept clean in
    let same = clean_kept (below_node old node) (below_node new node) clean (node_kept old new node kept).1 in
    let C : KeyedRow → Type 0 = λ r. is_clean_row r ≡ true in
    record {
      place = place_given node (place_for lnum offs (said_of old node)) old.table.nodes.items new.table.nodes.items p.next.ready.there p.nodes ∙ ap (λ (s : Index). stretch_at (Some (place_for lnum offs s))) (sym said);
      clean = subst C (sym same) clean;
    }

one_room : (lnum room from offs node n number : ℕ) (old new : PagedIndex) → IsPlaced lnum offs node old new → IsIndexKept old new → offs ≡ from → slice_get (node ∷ []) n ≡ Some number
    → IsInRoom new (room_in lnum room from n) number
one_room lnum room from offs node zero number old new p kept start is =
    let same : node ≡ number = cc in
    let here : offs ≡ from + 0 * room = omega (arith, start) in
    let P : ℕ → Type 0 = λ k. IsInRoom new (room_at lnum offs) k in
    let Q : ℕ → Type 0 = λ o. IsInRoom new (room_at lnum o) number in
    subst Q here (subst P same (node_room lnum offs node old new p kept))
one_room lnum room from offs node (suc n) number old new p kept start is = absurd cc

pub laid_one : GivenIsKept → AreFewer → (lnum room node offs sqnum after : ℕ) (old new : PagedIndex) (front own bytes : List ℕ) → IsPlaced lnum offs node old new
    → IsLaidBehind (node_length (said_of old node)) room offs front own bytes → after ≡ sqnum + 1
    → IsSystemNode (take (node_length (said_of old node)) own) after 0 (index (said_of old node)) → own ≡ in_room room after (said_of old node)
    → AreNodesLaid lnum room (record { index = old; sqnum = sqnum; bytes = front }) (record { index = new; sqnum = after; bytes = bytes })
laid_one given fewer lnum room node offs sqnum after old new front own bytes p b e is text =
    let place = place_for lnum offs (said_of old node) in
    let below = below_node old node in
    let whole = ap length b.whole ∙ length-append front own in
    let own_long = b.long in
    let less = fewer node (dirty_of old) p.next.first in
    let gone = ap length p.dirty in
    let kept = placed_kept given lnum offs node old new p in
    let taken : AreFirstsTaken (node ∷ []) (dirty_of old) (dirty_of new) = (p.next.first, p.dirty) in
    record {
      index = record {
        kept = kept;
        numbers = node ∷ [];
        taken = taken;
        firsts = firsts_taken (node ∷ []) (dirty_of old) (dirty_of new) taken;
        distinct = taken_distinct (node ∷ []) (dirty_of old) (dirty_of new) taken;
        rooms = λ n number is. one_room lnum room (length front) offs node n number old new p kept b.start is;
        others = λ number none. other_places node number place old.table.nodes.items new.table.nodes.items (λ e. none 0 (ap (λ (k : ℕ). Some k) (sym e))) p.nodes;
        number = e;
        most = omega (arith, e, less, gone);
      };
      more = own;
      bytes = b.whole;
      long = omega (arith, whole, own_long);
      text = one_text room sqnum after old new node own kept p.next.ready.below e text;
      stand = λ contents asked root said h.
          let grows : Grows (with_leb_bytes lnum front contents) (with_leb_bytes lnum bytes contents) = subst (λ x. Grows (with_leb_bytes lnum front contents) (with_leb_bytes lnum x contents)) (sym b.whole) (leb_grows lnum front own contents) in
          row_placed (with_leb_bytes lnum front contents) (with_leb_bytes lnum bytes contents) (Meets asked) place below (tree_at old.table.nodes.items root) (tree_at new.table.nodes.items root) grows
          (λ key. node_stands lnum room node offs after old new front own bytes contents (Meets asked) key p b is (said (record { lnum = lnum; offs = offs; len = node_length (said_of old node) }) after refl (omega (arith, e)) (omega arith))) p.next.ready.below (p.trees root) h;
    }

-- ---- the buffer
pub front_kept : (used : ℕ) (leb front x : List ℕ) → length front ≡ used → front ≡ take used leb → take used (front ++ x) ≡ take used leb
front_kept used leb front x long e = ap (λ n. take n (front ++ x)) (sym long) ∙ take-append_seam front x ∙ e

pub own_kept : (used room : ℕ) (leb front own x : List ℕ) → length front ≡ used → front ≡ take used leb → length own ≡ room → take (used + room) (front ++ (own ++ x)) ≡ take used leb ++ own
own_kept used room leb front own x long e size =
    let sum = length-append front own in
    let whole : used + room ≡ length (front ++ own) = omega (arith, sum, long, size) in
    ap (λ y. take (used + room) y) (sym (append_assoc front own x)) ∙ ap (λ n. take n ((front ++ own) ++ x)) whole ∙ take-append_seam (front ++ own) x ∙ ap (λ y. y ++ own) e
