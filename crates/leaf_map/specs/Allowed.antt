-- What is asked of what a mount has read, so that it finds a tree that a cut may leave.
use Rattle.std.specs.Prelude.{◌≡◌, ◌⊎◌, ℕ, ◌==◌, Bool, true, false, not, is_some, List, [], ◌∷◌, map, Option, Some}
use Rattle.std.specs.BTreeMap.{is_at}
use Rattle.std.specs.List.{AllByRecursion, list_all, list_any}
use Rattle.std.specs.Map.{lookup}
use Rattle.std.specs.Option.{option_map}
use Rattle.media_leaf.specs.LeafNode.{IsLeaf, LeafNode}
use Rattle.fs_model.specs.declared.change.Change.{Change}
use Rattle.fs_model.specs.declared.change.Change.TheVariants.{SetBlock, SetEntry, SetInode}
use Rattle.fs_model.specs.Change.{apply}
use Rattle.fs_model.specs.Files.{Tree, inode_at, name_cmp, pair_cmp}
use Rattle.fs_model.specs.Orphan.{is_nameless}
use Rattle.fs_model.specs.Proper.{IsInOrder}
use Rattle.fs_model.specs.Recovery.{Numbered, as_replayed, by_number}
use Rattle.group_nodes.specs.Nodes.{change_of}
use Rattle.leaf_map.specs.Kept.{Kept, Placed, shown_by}
use Rattle.leaf_map.specs.LastChange.{Made, last_made, makes_block, makes_entry, makes_inode}
use Rattle.leaf_map.specs.LeafMap.{IsLeafMap}
use Rattle.leaf_map.specs.Parts.{Committed, Named, Parts, own_node, shows_nothing}
use Rattle.leaf_map.specs.Recovered.{committed_highest, nodes_in_order, leaves_found, listed_left}
use Rattle.leaf_map.specs.Shown.{tree_of}

-- these nodes are nodes of the grammar with the numbers of these changes, and carry what recovery makes of them
abbrev pub AreRead : List Placed → Numbered → Type 0
AreRead [] [] = Unit {0}
AreRead [] (change ∷ changes) = ⊥
AreRead (x ∷ nodes) [] = ⊥
AreRead (x ∷ nodes) (change ∷ changes) = IsLeaf x.node × (x.sqnum ≡ change.0) × (change_of x.node ≡ Some (as_replayed change.1)) × AreRead nodes changes

-- a place is touched
abbrev pub IsTouched : {X : Type 0} → Made X → Type 0
IsTouched made = is_some made ≡ true

-- whether a change sets an inode of this number
abbrev pub sets_inode : ℕ → Change → Bool
sets_inode q (SetInode ino inode) = ino == q
sets_inode q change = false

-- an inode of a tree without a name, which is listed and which no change sets: it goes, whatever else happens
pub record IsForgotten (list : List ℕ) (changes : List Change) (tree : Tree) (q : ℕ) : Type 0 where
  pub nameless : is_nameless tree q ≡ true
  pub listed : list_any (λ ino. q == ino) list ≡ true
  pub unset : list_all (λ change. not (sets_inode q change)) changes ≡ true

-- of either tree
abbrev pub AreForgotten : List ℕ → List Change → Tree → Tree → ℕ → Type 0
AreForgotten listed changes a b q = IsForgotten listed changes a q × IsForgotten listed changes b q

-- Trees that differ in nothing but what these changes touch, and in inodes that go with their blocks. They have the same inodes, though maybe other things are told of these.
pub record AgreeBut (listed : List ℕ) (changes : List Change) (a b : Tree) : Type 0 where
  pub there : (q : ℕ) → is_some (inode_at a q) ≡ is_some (inode_at b q)
  pub inodes : (q : ℕ) → (inode_at a q ≡ inode_at b q) ⊎ (IsTouched (last_made (makes_inode q) b changes) ⊎ AreForgotten listed changes a b q)
  pub blocks : (q : ℕ × ℕ) → (lookup (is_at (pair_cmp q)) a.blocks ≡ lookup (is_at (pair_cmp q)) b.blocks) ⊎ (IsTouched (last_made (makes_block q) b changes) ⊎ AreForgotten listed changes a b q.0)
  pub entries : (q : ℕ × List ℕ) → (lookup (is_at (name_cmp q)) a.entries ≡ lookup (is_at (name_cmp q)) b.entries) ⊎ IsTouched (last_made (makes_entry q) b changes)
  pub highest : a.highest ≡ b.highest

-- the changes as they are replayed: in order of number, where an inode without links goes
abbrev pub in_turn : Numbered → List Change
in_turn changes = map (λ c. as_replayed c.1) (by_number changes)

-- What was read fits a committed tree and changes: the nodes carry the changes, both in order of number, the leaves that were found show that tree but for what the changes touch and for listed inodes that go, and what has no name at last is listed and goes.
pub record FitsTree (parts : Parts) (committed : Tree) (changes : Numbered) : Type 0 where
  pub nodes : AreRead (nodes_in_order parts.nodes) (by_number changes)
  pub leaves : IsLeafMap (leaves_found parts)
  pub sorted : IsInOrder committed
  pub shows : AgreeBut (listed_left parts) (in_turn changes) (tree_of (leaves_found parts) (committed_highest parts)) committed
  pub listed : (q : ℕ) → is_nameless (apply committed (in_turn changes)) q ≡ true → list_any (λ ino. q == ino) (listed_left parts) ≡ true

-- each committed leaf has its own node, and with it is one of these
abbrev pub AreOriginals : List Named → List Kept → List Committed → Type 0
AreOriginals named [] [] = Unit {0}
AreOriginals named [] (c ∷ committed) = ⊥
AreOriginals named (x ∷ kept) [] = ⊥
AreOriginals named (x ∷ kept) (c ∷ committed) =
    (found : Placed) × (own_node named c ≡ Some found) × (record { leaf = c.leaf; sqnum = found.sqnum; node = found.node } ≡ x) × AreOriginals named kept committed

-- a node is that of one of these leaves
abbrev pub IsNodeOfLeaves : List Kept → LeafNode → Type 0
IsNodeOfLeaves [] node = ⊥
IsNodeOfLeaves (x ∷ kept) node = (node ≡ x.node) ⊎ IsNodeOfLeaves kept node

-- a leaf as it was read: where it has an own node, that is the leaf's node; and no node of its key and length stands at its place that shows nothing
pub record IsReadLeaf (parts : Parts) (x : Kept) (c : Committed) : Type 0 where
  pub leaf : c.leaf ≡ x.leaf
  pub own : (found : Placed) → own_node parts.named c ≡ Some found → found.node ≡ x.node
  pub known : shows_nothing parts.named c ≡ false

-- each of these leaves
abbrev pub AreReadLeaves : Parts → List Kept → List Committed → Type 0
AreReadLeaves parts [] [] = Unit {0}
AreReadLeaves parts [] (c ∷ committed) = ⊥
AreReadLeaves parts (x ∷ kept) [] = ⊥
AreReadLeaves parts (x ∷ kept) (c ∷ committed) = IsReadLeaf parts x c × AreReadLeaves parts kept committed

-- What was read fits the leaves that were committed, with their nodes: own nodes are theirs, and each copy is one of a leaf's node. Any of the originals may be gone.
pub record FitsLeaves (parts : Parts) (kept : List Kept) : Type 0 where
  pub leaves : IsLeafMap kept
  pub read : AreReadLeaves parts kept parts.committed
  pub copies : AllByRecursion (λ d. IsLeaf d.node × IsNodeOfLeaves kept d.node) parts.copies

-- a node is the own node of one of these committed leaves
abbrev pub IsOwnNode : List Named → List Committed → LeafNode → Type 0
IsOwnNode named [] node = ⊥
IsOwnNode named (c ∷ committed) node = (option_map (λ (found : Placed). found.node) (own_node named c) ≡ Some node) ⊎ IsOwnNode named committed node

-- a node is one of these copies
abbrev pub IsNodeCopied : List Placed → LeafNode → Type 0
IsNodeCopied [] node = ⊥
IsNodeCopied (d ∷ copies) node = (node ≡ d.node) ⊎ IsNodeCopied copies node

-- these changes of a tree touch what a leaf shows
abbrev pub IsTouchedIn : Tree → List Change → Option Change → Type 0
IsTouchedIn tree changes (Some (SetInode ino inode)) = IsTouched (last_made (makes_inode ino) tree changes)
IsTouchedIn tree changes (Some (SetBlock ino number bytes)) = IsTouched (last_made (makes_block (ino, number)) tree changes)
IsTouchedIn tree changes (Some (SetEntry e)) = IsTouched (last_made (makes_entry (e.dir, e.name)) tree changes)
IsTouchedIn tree changes shown = ⊥

-- where a leaf shows a block, the tree has its inode
abbrev pub HasInode : Tree → Option Change → Type 0
HasInode tree (Some (SetBlock ino number bytes)) = is_some (inode_at tree ino) ≡ true
HasInode tree shown = Unit {0}

-- what a leaf shows is such an inode or a block of one
abbrev pub IsOfForgotten : List ℕ → List Change → Tree → Option Change → Type 0
IsOfForgotten listed changes tree (Some (SetInode ino inode)) = IsForgotten listed changes tree ino
IsOfForgotten listed changes tree (Some (SetBlock ino number bytes)) = IsForgotten listed changes tree ino
IsOfForgotten listed changes tree shown = ⊥

-- A committed leaf isn't missed: its node stands at its place still, or a copy of it was read, or changes touch what it shows, or it is of a listed inode that goes.
abbrev pub IsSafe : Parts → Tree → List Change → Kept → Type 0
IsSafe parts tree changes x =
    (IsOwnNode parts.named parts.committed x.node ⊎ IsNodeCopied parts.copies x.node) ⊎ (IsTouchedIn tree changes (shown_by x) ⊎ IsOfForgotten parts.listed changes tree (shown_by x))

-- What was read of committed leaves and of changes loses nothing: no leaf is missed, the nodes carry the changes, both in order of number, and what has no name at last is listed.
pub record LosesNothing (parts : Parts) (kept : List Kept) (changes : Numbered) : Type 0 where
  pub read : FitsLeaves parts kept
  pub nodes : AreRead (nodes_in_order parts.nodes) (by_number changes)
  pub safe : AllByRecursion (IsSafe parts (tree_of kept (committed_highest parts)) (in_turn changes)) kept
  pub listed : (q : ℕ) → is_nameless (apply (tree_of kept (committed_highest parts)) (in_turn changes)) q ≡ true → list_any (λ ino. q == ino) parts.listed ≡ true
