-- The inode number of a node's key, as it is told.
use Rattle.std.proofs.Common.{◌≡◌, ℕ, max, fold, map, cond, Bool, true, false, List, [], ◌∷◌, refl, ap, ◌∙◌}
use Rattle.std.specs.Prelude.{◌==◌, not, is_some}
use Rattle.ubifs_base.specs.Key.{key_words}
use Rattle.ubifs_base.specs.R5.{r5_of}
use Rattle.ubifs_base.specs.declared.key.Key.TheVariants.{Dent, Ino, Xent}
use Rattle.media_leaf.specs.LeafNode.{LeafNode, inode, block, entry, truncation}
use Rattle.media_leaf.specs.declared.dent_node.DentNode.{DentNode}
use Rattle.media_leaf.specs.declared.ino_node.InoNode.{InoNode}
use Rattle.leaf_map.specs.Kept.{bits_of, kind_of_bits}
use Rattle.leaf_map.specs.Kept.{Placed, node_key}
use Rattle.leaf_map.specs.Recovered.{highest_key}
use Rattle.journal_scan.specs.Content.{node_content_of, number_told, told}
use Rattle.journal_scan.specs.declared.journal_node.JournalNode.{JournalNode}
use Rattle.journal_scan.specs.declared.node_content.NodeContent.TheVariants.{Inode, Entry, Unknown}

inode_number : (node : InoNode) (linked known : Bool) → number_told (cond known (Inode node.ino linked) (Unknown (Ino node.ino) linked)) ≡ node.ino
inode_number node linked true = refl
inode_number node linked false = refl

entry_number : (node : DentNode) (linked attribute : Bool) → number_told (cond attribute (Unknown (Xent node.dir (r5_of node.name)) true) (Entry node.dir node.name linked)) ≡ (key_words (cond attribute (Xent node.dir (r5_of node.name)) (Dent node.dir (r5_of node.name)))).0
entry_number node linked true = refl
entry_number node linked false = refl

number_is : (node : LeafNode) → number_told (node_content_of node) ≡ (key_words (node_key node)).0
number_is (inode node) = inode_number node (not (node.nlink == 0)) (is_some (kind_of_bits (bits_of node.mode)))
number_is (block node) = refl
number_is (entry node) = entry_number node (not (node.inum == 0)) node.attribute
number_is (truncation node) = refl

pub highest_is : (low : ℕ) (xs : List Placed) → fold (λ (n : ℕ) (x : JournalNode). max n (number_told x.content)) low (map told xs) ≡ highest_key low (map (λ (x : Placed). node_key x.node) xs)
highest_is low [] = refl
highest_is low (x ∷ xs) =
    ap (λ (n : ℕ). fold (λ (m : ℕ) (y : JournalNode). max m (number_told y.content)) (max low n) (map told xs)) (number_is x.node) ∙ highest_is (max low (key_words (node_key x.node)).0) xs
