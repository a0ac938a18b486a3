-- Where the nodes of an index stand.
use Rattle.std.specs.Prelude.{◌≡◌, ◌⊎◌, ℕ, ◌+◌, ◌==◌, ◌&&◌, IsTrue, not, Bool, true, if◌then◌else◌, List, [], ◌∷◌, drop, map, Option, Some, None}
use Rattle.std.specs.List.{list_any}
use Rattle.std.specs.Option.{option_map, option_map_or}
use Rattle.index_tree.specs.Listing.{ListedNode}
use Rattle.store_model.specs.Events.{below_of}
use Rattle.store_model.specs.Lebs.{is_among}
use Rattle.store_model.specs.Legal.{has_placed_children, KeepPlaces}
use Rattle.store_model.specs.Store.{Branching, StoreIndex, Item, leaf, branching, gap, Leb, Next, IndexNodePlace, Store, View}
use Rattle.store_model.specs.Texts.{item_len, text_in}
use Rattle.store_model.specs.WrittenNodes.{rows_of, written_nodes}

-- the index node at an offset, in a text that begins at another
abbrev pub branching_at : ℕ → ℕ → List Item → Option Branching
branching_at offs from [] = None
branching_at offs from (leaf placed ∷ items) = branching_at offs (from + item_len (leaf placed)) items
branching_at offs from (gap n ∷ items) = branching_at offs (from + n) items
branching_at offs from (branching b ∷ items) = if from == offs then Some b else branching_at offs (from + item_len (branching b)) items

-- a node of an index stands at its place, with the places of its children
abbrev pub IsBranchingAt : List Leb → IndexNodePlace → ListedNode → List IndexNodePlace → Type 0
IsBranchingAt lebs place node below = option_map {U = ListedNode × List IndexNodePlace} (λ b. (b.node, b.below)) (branching_at place.offs 0 (text_in lebs place.lnum)) ≡ Some (node, below)

-- each of these nodes has a place and stands there, unless its LEB is among those that aren't written yet
abbrev pub AreBranchingsAt : List Leb → List ℕ → List ListedNode → List IndexNodePlace → List (List IndexNodePlace) → Type 0
AreBranchingsAt lebs unwritten [] [] below = Unit {0}
AreBranchingsAt lebs unwritten (node ∷ nodes) (place ∷ places) (children ∷ below) =
    (IsTrue (is_among unwritten place.lnum) ⊎ IsBranchingAt lebs place node children) × AreBranchingsAt lebs unwritten nodes places below
AreBranchingsAt lebs unwritten nodes places below = ⊥

-- no two places are one
abbrev pub are_other_places : List IndexNodePlace → Bool
are_other_places [] = true
are_other_places (place ∷ places) = not (list_any (λ other. (other.lnum == place.lnum) && (other.offs == place.offs)) places) && are_other_places places

-- Each node of a view's index stands at a place of its own, with the places of its children.
pub record IsIndexIn (lebs : List Leb) (unwritten : List ℕ) (view : View) : Type 0 where
  pub nodes : AreBranchingsAt lebs unwritten (written_nodes view.shape) view.places (below_of [] (written_nodes view.shape) view.places)
  pub apart : IsTrue (are_other_places view.places)

-- the LEBs that a running commit has still to write
abbrev pub unwritten_lebs : Next → List ℕ
unwritten_lebs next = drop next.written next.taken

-- the index that the last commit leads to, ended or not
abbrev pub committed_index : View → StoreIndex
committed_index view = record { shape = view.shape; places = map Some view.places }

abbrev pub last_index : Store → StoreIndex
last_index m = committed_index (option_map_or (λ next. next.view) m.next m.now)

-- A node of the present index that has a place is one of the last commit's, with all that is below it, and has its place.
abbrev pub HasLastPlaces : Store → Type 0
HasLastPlaces m = KeepPlaces (last_index m) (rows_of m.index.shape) m.index.places

-- the index of a running commit's view stands, but for what isn't written
abbrev pub IsNextIndexIn : List Leb → Option Next → Type 0
IsNextIndexIn lebs None = Unit {0}
IsNextIndexIn lebs (Some next) = IsIndexIn lebs (unwritten_lebs next) next.view

-- The nodes of the indexes stand at their places.
pub record IsIndexed (m : Store) : Type 0 where
  pub now : IsIndexIn m.lebs [] m.now
  pub next : IsNextIndexIn m.lebs m.next
  pub last : HasLastPlaces m
  -- a node that has a place has no child without one
  pub children : IsTrue (has_placed_children m.index)
