-- What is told of a node says whether it says a change, and the number of its inode.
use Rattle.std.proofs.Common.{◌≡◌, ℕ, Bool, true, false, cond, not, refl, ap, sym, subst, ◌∙◌, Option, Some, None, List, map, fold}
use Rattle.std.specs.Prelude.{◌==◌, is_some}
use Rattle.std.specs.List.{AllByRecursion}
use Rattle.std.specs.Option.{option_map}
use Rattle.std.proofs.lemmas.Bool.{false≢true}
use Rattle.ubifs_base.specs.Key.{key_words}
use Rattle.ubifs_base.specs.R5.{r5_of}
use Rattle.ubifs_base.specs.declared.key.Key.TheVariants.{Dent, Ino, Xent}
use Rattle.media_leaf.specs.LeafNode.{LeafNode, IsLeaf, inode, block, entry, truncation}
use Rattle.media_leaf.specs.declared.dent_node.DentNode.{DentNode}
use Rattle.media_leaf.specs.declared.ino_node.InoNode.{InoNode}
use Rattle.fs_model.specs.declared.change.Change.{Change}
use Rattle.fs_model.specs.declared.change.Change.TheVariants.{SetInode, SetEntry, DropEntry, DropInode}
use Rattle.fs_model.specs.declared.inode.Kind.{Kind}
use Rattle.group_nodes.specs.Nodes.{bits_of, change_of, inode_of, kind_of_bits, kind_of_type}
use Rattle.leaf_map.specs.Kept.{Placed, node_key}
use Rattle.leaf_map.specs.Recovered.{nodes_in_order}
use Rattle.journal_scan.specs.Content.{node_content_of, number_told, told}
use Rattle.journal_scan.specs.declared.journal_node.JournalNode.{JournalNode}
use Rattle.journal_scan.specs.declared.node_content.NodeContent.TheVariants.{Inode, Entry, Unknown}
use Rattle.log_replay.specs.KeyToldLaws.{known}
use Rattle.sound_image.specs.Wrong.{Wrong, differs}
use Rattle.image_check.specs.FirstLaws.{first_same}
use Rattle.image_check.specs.WrongValues.{IsFirstOf, sooner_of, wrong_at}
use Rattle.image_check.specs.declared.wrong_value.WrongValue.{WrongValue}
use Rattle.shown_leaves.specs.FalseNodes.{IsUnchanging, wrong_node}
use Rattle.shown_leaves.specs.Told.{is_unchanging, unchanging_told, wrong_node_told}
use Rattle.shown_leaves.proofs.Firsts.{IsToldIn, first_told}
use Rattle.shown_leaves.proofs.Members.{all_at, map_of_one, one_of_map}
use Rattle.shown_leaves.proofs.Ordered.{in_order_one, one_in_order}

-- ---- the inode number of its key
inode_number : (node : InoNode) (linked known : Bool) → number_told (cond known (Inode node.ino linked) (Unknown (Ino node.ino) linked)) ≡ node.ino
inode_number node linked true = refl
inode_number node linked false = refl

entry_number : (node : DentNode) (linked attribute : Bool) → number_told (cond attribute (Unknown (Xent node.dir (r5_of node.name)) true) (Entry node.dir node.name linked)) ≡ (key_words (cond attribute (Xent node.dir (r5_of node.name)) (Dent node.dir (r5_of node.name)))).0
entry_number node linked true = refl
entry_number node linked false = refl

pub number_is : (node : LeafNode) → number_told (node_content_of node) ≡ (key_words (node_key node)).0
number_is (inode node) = inode_number node (not (node.nlink == 0)) (is_some (kind_of_bits (bits_of node.mode)))
number_is (block node) = refl
number_is (entry node) = entry_number node (not (node.inum == 0)) node.attribute
number_is (truncation node) = refl

-- what is told to be wrong at a node is wrong there
pub wrong_is : (x : Placed) → wrong_at (wrong_node_told (told x)) ≡ wrong_node x
wrong_is x = ap (λ (n : ℕ). record { lnum = x.lnum; offs = x.offs; misfit = differs n 0 }) (number_is x.node)

-- ---- whether it says a change
inode_unchanging : (node : InoNode) (z : Bool) (k : Option Kind)
    → is_unchanging (cond (is_some k) (Inode node.ino (not z)) (Unknown (Ino node.ino) (not z))) ≡ not (is_some (cond z (Some (DropInode node.ino)) (option_map (λ kind. SetInode node.ino (inode_of node kind)) k)))
inode_unchanging node true None = refl
inode_unchanging node true (Some kind) = refl
inode_unchanging node false None = refl
inode_unchanging node false (Some kind) = refl

entry_unchanging : (node : DentNode) (a z : Bool) (k : Option Kind) → is_some k ≡ true
    → is_unchanging (cond a (Unknown (Xent node.dir (r5_of node.name)) true) (Entry node.dir node.name (not z)))
    ≡ not (is_some (cond a None (cond z (Some (DropEntry node.dir node.name)) (option_map (λ kind. SetEntry (record { dir = node.dir; name = node.name; ino = node.inum; kind = kind })) k))))
entry_unchanging node true z k h = refl
entry_unchanging node false true k h = refl
entry_unchanging node false false None h = absurd (false≢true h)
entry_unchanging node false false (Some kind) h = refl

pub unchanging_is : (node : LeafNode) → IsLeaf node → is_unchanging (node_content_of node) ≡ not (is_some (change_of node))
unchanging_is (inode node) leaf = inode_unchanging node (node.nlink == 0) (kind_of_bits (bits_of node.mode))
unchanging_is (block node) leaf = refl
unchanging_is (entry node) leaf = entry_unchanging node node.attribute (node.inum == 0) (kind_of_type node.kind) (known node.kind leaf.kind_known)
unchanging_is (truncation node) leaf = refl

none_of_false : (o : Option Change) → not (is_some o) ≡ true → o ≡ None
none_of_false None h = refl
none_of_false (Some change) h = absurd (false≢true h)

some_told : (b : Bool) (v w : WrongValue) → cond b (Some v) None ≡ Some w → (b ≡ true) × (v ≡ w)
some_told true v w h = (refl, cc)
some_told false v w h = absurd cc

pub first_unchanging : (placed : List Placed) (items : List JournalNode) (o : Option WrongValue) → AllByRecursion (λ (x : Placed). IsLeaf x.node) placed → items ≡ map told (nodes_in_order placed)
    → o ≡ fold (λ first x. sooner_of first (unchanging_told x)) None items → IsFirstOf (IsUnchanging placed) o
first_unchanging placed items o leaves e is =
    let P : List JournalNode → Type 0 = λ xs. IsFirstOf (IsToldIn unchanging_told xs) o in
    first_same (IsToldIn unchanging_told (map told (nodes_in_order placed))) (IsUnchanging placed) o to from
    (subst P e (subst (IsFirstOf (IsToldIn unchanging_told items)) (sym is) (first_told unchanging_told items)))
  where
    to : (at : Wrong) → IsToldIn unchanging_told (map told (nodes_in_order placed)) at → IsUnchanging placed at
    to at (y, one, (w, tell, is)) =
        let r = one_of_map told y (nodes_in_order placed) one in
        let x = r.0 in
        let there = one_in_order x placed r.1 in
        let t = some_told (is_unchanging (node_content_of x.node)) (wrong_node_told (told x)) w (ap unchanging_told (sym r.2) ∙ tell) in
        (x, there, none_of_false (change_of x.node) (sym (unchanging_is x.node (all_at (λ (z : Placed). IsLeaf z.node) x placed leaves there)) ∙ t.0), is ∙ ap wrong_at (sym t.1) ∙ wrong_is x)

    from : (at : Wrong) → IsUnchanging placed at → IsToldIn unchanging_told (map told (nodes_in_order placed)) at
    from at (x, one, none, is) =
        let leaf = all_at (λ (z : Placed). IsLeaf z.node) x placed leaves one in
        let yes : is_unchanging (node_content_of x.node) ≡ true = unchanging_is x.node leaf ∙ ap (λ (c : Option Change). not (is_some c)) none in
        (told x, map_of_one told x (nodes_in_order placed) (in_order_one x placed one), (wrong_node_told (told x), ap (λ (b : Bool). cond b (Some (wrong_node_told (told x))) None) yes, is ∙ sym (wrong_is x)))
