-- What was read of an image stands in the volume.
use Rattle.std.proofs.Common.{◌≡◌, inl, inr, ℕ, Bool, true, false, List, [], ◌∷◌, map, refl, ap, sym, ◌∙◌, subst, Option, Some, None}
use Rattle.std.specs.Prelude.{◌==◌, if◌then◌else◌, is_some, not}
use Rattle.std.specs.List.{AllByRecursion}
use Rattle.ubifs_base.specs.R5.{r5_of}
use Rattle.ubifs_base.specs.declared.key.Key.TheVariants.{Ino, Xent}
use Rattle.media_leaf.specs.LeafNode.{LeafNode, inode, block, entry, truncation}
use Rattle.media_leaf.specs.declared.dent_node.DentNode.{DentNode}
use Rattle.media_leaf.specs.declared.ino_node.InoNode.{InoNode}
use Rattle.group_nodes.specs.Nodes.{bits_of, kind_of_bits}
use Rattle.media_sys.specs.declared.ref_node.RefNode.{RefNode}
use Rattle.bud_log.specs.Buds.{buds_of}
use Rattle.index_tree.specs.Shape.{contents as leaves_in}
use Rattle.index_tree.specs.declared.leaf.Leaf.{Leaf}
use Rattle.index_media.specs.PlacedRow.{plain}
use Rattle.journal_scan.specs.Content.{node_content_of, told}
use Rattle.journal_scan.specs.declared.node_content.NodeContent.{NodeContent}
use Rattle.journal_scan.specs.declared.node_content.NodeContent.TheVariants.{Inode, Entry, Unknown}
use Rattle.journal_scan.specs.Journal.{BudRead, copies_in, journal_nodes_in}
use Rattle.journal_scan.specs.declared.journal_read.JournalRead.{JournalRead}
use Rattle.leaf_map.specs.Kept.{Kept, Placed}
use Rattle.leaf_map.specs.Parts.{Committed, Parts}
use Rattle.leaf_map.specs.Recovered.{nodes_in_order, leaves_found, recovered_of}
use Rattle.leaf_recovery.specs.Repeated.{repeated_leaves}
use Rattle.leaf_recovery.specs.Told.{AreLeavesTold, IsAtLeaf, IsOneNode, WasRead, IsSource}
use Rattle.leaf_recovery.specs.declared.recovered_leaf.Place.{Place}
use Rattle.leaf_recovery.specs.declared.recovered_leaf.RecoveredLeaf.{RecoveredLeaf}
use Rattle.log_replay.specs.declared.committed_leaf.CommittedLeaf.{CommittedLeaf}
use Rattle.sound_image.specs.Image.{Image, named_by_ref_node, parts_of}
use Rattle.sound_image.specs.Leaves.{AreCommitted, IsFoundAt, IsPlacedIn}
use Rattle.shown_leaves.specs.Copies.{FoundStands}
use Rattle.shown_leaves.specs.Sources.{AreSourced, HasSource, IsKnownBlock}
use Rattle.image_tree.specs.Reads.{IsJournalOfImage, IsTreeReadOf}
use Rattle.image_tree.specs.Sources.{block_of, source_of, sourced_of}
use Rattle.image_tree.specs.Trees.{AreNodesTold}
use Rattle.image_tree.specs.declared.tree_read.TreeRead.{TreeRead}
use Rattle.image_tree.proofs.StandingNodes.{StandingLaws}

-- ---- committed leaves
found_stands : (contents : ℕ → List ℕ) (leaf other : Leaf) (found : Option Placed) → IsFoundAt contents leaf found → FoundStands contents (record { leaf = other; found = found })
found_stands contents leaf other None h = tt
found_stands contents leaf other (Some node) h = h.1

pub committed_stand : (contents : ℕ → List ℕ) (leaves : List Leaf) (committed : List Committed) → AreCommitted contents leaves committed → AllByRecursion (FoundStands contents) committed
committed_stand contents [] [] h = tt
committed_stand contents [] (x ∷ committed) h = absurd h
committed_stand contents (leaf ∷ leaves) [] h = absurd h
committed_stand contents (leaf ∷ leaves) (x ∷ committed) h = (found_stands contents leaf x.leaf x.found h.1, committed_stand contents leaves committed h.2)

leaves_are : (contents : ℕ → List ℕ) (leaves : List Leaf) (committed : List Committed) → AreCommitted contents leaves committed → leaves ≡ map (λ x. x.leaf) committed
leaves_are contents [] [] h = refl
leaves_are contents [] (x ∷ committed) h = absurd h
leaves_are contents (leaf ∷ leaves) [] h = absurd h
leaves_are contents (leaf ∷ leaves) (x ∷ committed) h = ap (λ (l : Leaf). l ∷ leaves) (sym h.0) ∙ ap (λ (ls : List Leaf). x.leaf ∷ ls) (leaves_are contents leaves committed h.2)

-- ---- where nodes were read
at_leaf : (contents : ℕ → List ℕ) (node : Placed) (committed : List Committed) → AllByRecursion (FoundStands contents) committed → IsAtLeaf node committed → IsPlacedIn contents node
at_leaf contents node [] h is = absurd is
at_leaf contents node (x ∷ committed) h (inl e) = let P : Option Placed → Type 0 = λ o. FoundStands contents (record { leaf = x.leaf; found = o }) in subst P e h.0
at_leaf contents node (x ∷ committed) h (inr is) = at_leaf contents node committed h.1 is

one_node : (Q : Placed → Type 0) (node : Placed) (nodes : List Placed) → AllByRecursion Q nodes → IsOneNode node nodes → Q node
one_node Q node [] h is = absurd is
one_node Q node (x ∷ nodes) h (inl e) = subst Q e h.0
one_node Q node (x ∷ nodes) h (inr is) = one_node Q node nodes h.1 is

source_here : (contents : ℕ → List ℕ) (parts : Parts) (x : Kept) (o : Option Place) → ((node : Placed) → WasRead parts node → IsPlacedIn contents node) → IsSource parts x o → HasSource contents x (source_of o)
source_here contents parts x None reads s = s
source_here contents parts x (Some place) reads (node, read, is, e) =
    (node, record { lnum = ap (λ (p : Place). p.lnum) (sym is); offs = ap (λ (p : Place). p.offs) (sym is); len = ap (λ (p : Place). p.len) (sym is) }, reads node read, e)

inode_here : (node : InoNode) (kind : Bool) → IsKnownBlock (inode node) (block_of (if kind then Inode node.ino (not (node.nlink == 0)) else Unknown (Ino node.ino) (not (node.nlink == 0))))
inode_here node true = tt
inode_here node false = tt

entry_here : (node : DentNode) (attribute : Bool) → IsKnownBlock (entry node) (block_of (if attribute then Unknown (Xent node.dir (r5_of node.name)) true else Entry node.dir node.name (not (node.inum == 0))))
entry_here node true = tt
entry_here node false = tt

block_here : (node : LeafNode) → IsKnownBlock node (block_of (node_content_of node))
block_here (inode node) = inode_here node (is_some (kind_of_bits (bits_of node.mode)))
block_here (block node) = (node.bytes, refl)
block_here (entry node) = entry_here node node.attribute
block_here (truncation node) = tt

sourced_all : (contents : ℕ → List ℕ) (parts : Parts) (kept : List Kept) (rs : List RecoveredLeaf) → ((node : Placed) → WasRead parts node → IsPlacedIn contents node) → AreLeavesTold parts kept rs → AreSourced contents kept (map sourced_of rs)
sourced_all contents parts [] [] reads h = tt
sourced_all contents parts [] (r ∷ rs) reads h = absurd h
sourced_all contents parts (x ∷ kept) [] reads h = absurd h
sourced_all contents parts (x ∷ kept) (r ∷ rs) reads h = (record { is = h.0.leaf; source = source_here contents parts x r.source reads h.0.source; known = (let P : NodeContent → Type 0 = λ k. IsKnownBlock x.node (block_of k) in subst P (sym h.0.content) (block_here x.node)) }, sourced_all contents parts kept rs reads h.1)

sourced_there : (contents now : ℕ → List ℕ) (parts : Parts) (kept : List Kept) (rs items : List RecoveredLeaf) → ((node : Placed) → WasRead parts node → IsPlacedIn contents node) → AreLeavesTold parts kept rs → now ≡ contents → items ≡ rs
    → AreSourced now kept (map sourced_of items)
sourced_there contents now parts kept rs items reads told same is =
    let S : (ℕ → List ℕ) → Type 0 = λ holds. AreSourced holds kept (map sourced_of items) in
    let L : List RecoveredLeaf → Type 0 = λ xs. AreSourced contents kept (map sourced_of xs) in
    subst S (sym same) (subst L (sym is) (sourced_all contents parts kept rs reads told))

module _ (laws : StandingLaws) (contents : ℕ → List ℕ) (leaves : List Leaf) (references : List RefNode) (journal : JournalRead) (image : Image) (read : TreeRead) (s : IsJournalOfImage contents leaves references journal image) (r : IsTreeReadOf contents image read) where
  stand : AllByRecursion (FoundStands contents) image.committed
  stand = committed_stand contents (leaves_in (plain image.placed)) image.committed r.rule.committed

  copies : AllByRecursion (IsPlacedIn contents) (copies_in image.buds)
  copies = laws.copies contents (buds_of references) image.buds s.rule

  nodes : AllByRecursion (IsPlacedIn contents) (journal_nodes_in image.buds)
  nodes = laws.nodes contents (buds_of references) image.buds s.rule

  reads_here : (node : Placed) → WasRead (parts_of image) node → IsPlacedIn contents node
  reads_here node (inl is) = at_leaf contents node image.committed stand is
  reads_here node (inr (inl is)) = one_node (IsPlacedIn contents) node (journal_nodes_in image.buds) nodes is
  reads_here node (inr (inr is)) = one_node (IsPlacedIn contents) node (copies_in image.buds) copies is

  nodes_told : AreNodesTold contents (parts_of image) leaves references read.committed.items journal
  nodes_told = record {
    parts_told = record {
      leaves = record { log = ap (map named_by_ref_node) (sym s.references_are); told_leaves = r.told; stand = stand };
      told_copies = subst (λ (reads : List BudRead). journal.copies.items ≡ map told (copies_in reads)) s.buds s.read.copies;
      stand = copies;
    };
    nodes_told = subst (λ (reads : List BudRead). journal.nodes.items ≡ map told (nodes_in_order (journal_nodes_in reads))) s.buds s.read.nodes;
    leaf_nodes = laws.grammar contents (journal_nodes_in image.buds) nodes;
    leaves_are = s.leaves_are ∙ leaves_are contents (leaves_in (plain image.placed)) image.committed r.rule.committed;
  }

  -- what is kept, and what is repeated, in contents that are these, of leaves that are those which were read
  pub kept_sourced : (now : ℕ → List ℕ) (items : List RecoveredLeaf) → now ≡ contents → items ≡ read.recovered.kept.items → AreSourced now (recovered_of (parts_of image)).kept (map sourced_of items)
  kept_sourced now items same is = sourced_there contents now (parts_of image) (recovered_of (parts_of image)).kept read.recovered.kept.items items reads_here r.recovered.kept same is

  pub repeated_sourced : (now : ℕ → List ℕ) (items : List RecoveredLeaf) → now ≡ contents → items ≡ read.recovered.repeated.items → AreSourced now (repeated_leaves (leaves_found (parts_of image))) (map sourced_of items)
  repeated_sourced now items same is = sourced_there contents now (parts_of image) (repeated_leaves (leaves_found (parts_of image))) read.recovered.repeated.items items reads_here r.recovered.repeated same is

  -- and the nodes, of committed leaves that are those which were read
  pub nodes_there : (committed : List CommittedLeaf) → committed ≡ read.committed.items → AreNodesTold contents (parts_of image) leaves references committed journal
  nodes_there committed is = let C : List CommittedLeaf → Type 0 = λ cs. AreNodesTold contents (parts_of image) leaves references cs journal in subst C (sym is) nodes_told
