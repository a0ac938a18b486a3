-- What is told of a node says which key its leaf has.
use Rattle.std.proofs.Common.{◌≡◌, ℕ, zero, suc, ◌≤◌, Bool, true, false, cond, not, refl, arith, Option, Some, None}
use Rattle.std.specs.Prelude.{◌==◌, is_some}
use Rattle.std.specs.Option.{option_map}
use Rattle.std.proofs.lemmas.Bool.{false≢true}
use Rattle.ubifs_base.specs.R5.{r5_of}
use Rattle.ubifs_base.specs.declared.key.Key.{Key}
use Rattle.ubifs_base.specs.declared.key.Key.TheVariants.{Dent, Ino, Xent}
use Rattle.media_leaf.specs.LeafNode.{LeafNode, IsLeaf, inode, block, entry, truncation}
use Rattle.media_leaf.specs.declared.dent_node.DentNode.{DentNode}
use Rattle.media_leaf.specs.declared.ino_node.InoNode.{InoNode}
use Rattle.fs_model.specs.declared.change.Change.TheVariants.{SetInode, SetEntry, DropEntry}
use Rattle.fs_model.specs.declared.inode.Kind.{Kind}
use Rattle.group_nodes.specs.Nodes.{bits_of, inode_of, kind_of_bits, kind_of_type}
use Rattle.leaf_map.specs.Kept.{node_key, shown}
use Rattle.leaf_map.specs.Parts.{is_shown}
use Rattle.journal_scan.specs.Content.{node_content_of}
use Rattle.journal_scan.specs.declared.node_content.NodeContent.TheVariants.{Inode, Entry, Unknown}
use Rattle.log_replay.specs.Things.{key_told}

-- an entry's node is of a known kind
pub known : (k : ℕ) → k ≤ 6 → is_some (kind_of_type k) ≡ true
known zero h = refl
known (suc zero) h = refl
known (suc (suc zero)) h = refl
known (suc (suc (suc zero))) h = refl
known (suc (suc (suc (suc zero)))) h = refl
known (suc (suc (suc (suc (suc zero))))) h = refl
known (suc (suc (suc (suc (suc (suc zero)))))) h = refl
known (suc (suc (suc (suc (suc (suc (suc k))))))) h = absurd (omega (arith, h))

-- the key, if something is set
abbrev pub if_set : Bool → Key → Option Key
if_set true key = Some key
if_set false key = None

inode_key : (node : InoNode) (l : Bool) (k : Option Kind) → key_told (cond (is_some k) (Inode node.ino l) (Unknown (Ino node.ino) l)) ≡ if_set (is_shown (option_map (λ kind. SetInode node.ino (inode_of node kind)) k)) (node_key (inode node))
inode_key node l None = refl
inode_key node l (Some kind) = refl

entry_key : (node : DentNode) (a z : Bool) (k : Option Kind) → is_some k ≡ true
    → key_told (cond a (Unknown (Xent node.dir (r5_of node.name)) true) (Entry node.dir node.name (not z)))
    ≡ if_set (is_shown (cond a None (cond z (Some (DropEntry node.dir node.name)) (option_map (λ kind. SetEntry (record { dir = node.dir; name = node.name; ino = node.inum; kind = kind })) k)))) (cond a (Xent node.dir (r5_of node.name)) (Dent node.dir (r5_of node.name)))
entry_key node true z k h = refl
entry_key node false true k h = refl
entry_key node false false None h = absurd (false≢true h)
entry_key node false false (Some kind) h = refl

-- a node's key is told if it sets something
pub told_key : (node : LeafNode) → IsLeaf node → key_told (node_content_of node) ≡ if_set (is_shown (shown node)) (node_key node)
told_key (inode node) leaf = inode_key node (not (node.nlink == 0)) (kind_of_bits (bits_of node.mode))
told_key (block node) leaf = refl
told_key (entry node) leaf = entry_key node node.attribute (node.inum == 0) (kind_of_type node.kind) (known node.kind leaf.kind_known)
told_key (truncation node) leaf = refl
