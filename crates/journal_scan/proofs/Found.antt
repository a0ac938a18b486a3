-- Nodes that were found, and whether they are leaf nodes.
use Rattle.std.proofs.Common.{◌≡◌, ℕ, Bool, true, false, List, [], ◌∷◌, refl, ap, sym, ◌∙◌, subst}
use Rattle.std.specs.Prelude.{if◌then◌else◌}
use Rattle.std.specs.List.{AllByRecursion}
use Rattle.ubifs_base.specs.declared.node_type.NodeType.TheVariants as types
use Rattle.media_leaf.specs.LeafNode.{LeafNode, inode, block, entry, truncation}
use Rattle.media_sys.specs.SystemNode.{SystemNode, padding, superblock, master, reference, index, commit_start, orphans, node_type}
use Rattle.leb_scan.specs.Text.{AnyNode, StandsAt, Stand, behind, leaf, leaf_type, system, nodes_of}
use Rattle.leb_scan.specs.declared.found.Found.{Found}
use Rattle.leb_scan.specs.declared.item.Item.{Item}
use Rattle.leb_scan.specs.declared.item.Item.TheVariants.{Node, Padding, Word}
use Rattle.journal_scan.specs.Stands.{HasNode, is_leaf_type}

at_offs : (leb : List ℕ) (place : ℕ) (found : Found) (node : AnyNode) → StandsAt leb place found node → HasNode leb found
at_offs leb place found node s =
    let P : ℕ → Type 0 = λ q. StandsAt leb q found node in
    (node, subst P (sym s.here) s)

-- each node of a text stands where it was found
pub each_stands : (leb : List ℕ) (place end : ℕ) (items : List Item) → Stand leb place items end → AllByRecursion (HasNode leb) (nodes_of items)
each_stands leb place end [] h = tt
each_stands leb place end (Node found ∷ items) h = (at_offs leb place found h.0.node h.0.stands, each_stands leb (behind leb place (Node found)) end items h.1)
each_stands leb place end (Padding found pad_len ∷ items) h = (at_offs leb place found (system (padding (record { pad_len = pad_len }))) h.0.stands, each_stands leb (behind leb place (Padding found pad_len)) end items h.1)
each_stands leb place end (Word ∷ items) h = each_stands leb (behind leb place Word) end items h.1

entry_is : (attribute : Bool) → is_leaf_type (if attribute then types.Attribute else types.Entry) ≡ true
entry_is true = refl
entry_is false = refl

leaf_is : (n : LeafNode) → is_leaf_type (leaf_type n) ≡ true
leaf_is (inode node) = refl
leaf_is (block node) = refl
leaf_is (entry node) = entry_is node.attribute
leaf_is (truncation node) = refl

system_is : (n : SystemNode) → is_leaf_type (node_type n) ≡ false
system_is (padding node) = refl
system_is (superblock node) = refl
system_is (master node) = refl
system_is (reference node) = refl
system_is (index node) = refl
system_is (commit_start node) = refl
system_is (orphans node) = refl

-- a node of a leaf's type is a leaf node
pub leaf_there : (leb : List ℕ) (found : Found) → HasNode leb found → is_leaf_type found.kind ≡ true → (n : LeafNode) × StandsAt leb found.offs found (leaf n)
leaf_there leb found (leaf n, s) is = (n, s)
leaf_there leb found (system n, s) is = let never : true ≡ false = sym is ∙ ap is_leaf_type s.kind ∙ system_is n in absurd cc

-- and one of another type is none
pub system_there : (leb : List ℕ) (found : Found) → HasNode leb found → is_leaf_type found.kind ≡ false → (n : SystemNode) × StandsAt leb found.offs found (system n)
system_there leb found (leaf n, s) other = let never : false ≡ true = sym other ∙ ap is_leaf_type s.kind ∙ leaf_is n in absurd cc
system_there leb found (system n, s) other = (n, s)
