-- One node makes of an index and its maps those of the leaves after it.
use Rattle.std.proofs.Common.{◌≡◌, ℕ, Bool, true, false, cond, not, List, refl, sym, ap, subst, ◌∙◌, Option, Some, None}
use Rattle.std.specs.Prelude.{◌==◌, is_some}
use Rattle.std.specs.BTreeMap.{BTreeMap, get, is_at}
use Rattle.std.specs.List.{find}
use Rattle.std.specs.Option.{MatchOption, option_map}
use Rattle.std.specs.Ordering.{nat_cmp}
use Rattle.std.proofs.lemmas.Bool.{false≢true}
use Rattle.ubifs_base.specs.R5.{r5_of}
use Rattle.ubifs_base.specs.declared.key.Key.{Key}
use Rattle.ubifs_base.specs.declared.key.Key.TheVariants.{Ino, Block, Dent, Xent}
use Rattle.media_leaf.specs.LeafNode.{LeafNode, IsLeaf, inode, block, entry, truncation}
use Rattle.media_leaf.specs.declared.dent_node.DentNode.{DentNode}
use Rattle.media_leaf.specs.declared.ino_node.InoNode.{InoNode}
use Rattle.index_tree.specs.declared.leaf.Leaf.{Leaf}
use Rattle.index_tree.specs.Distinct.{AreDistinct}
use Rattle.index_tree.specs.Order.{key_rank}
use Rattle.index_tree.specs.RangeRemoval.{outside_range}
use Rattle.fs_model.specs.declared.change.Change.{Change}
use Rattle.fs_model.specs.declared.change.Change.TheVariants.{SetInode, SetEntry, DropEntry, SetBlock, CutBlocks, DropInode}
use Rattle.fs_model.specs.declared.inode.Entry.{Entry}
use Rattle.fs_model.specs.declared.inode.Inode.{Inode}
use Rattle.fs_model.specs.declared.inode.Kind.{Kind}
use Rattle.fs_model.specs.Files.{name_cmp}
use Rattle.group_nodes.specs.Nodes.{bits_of, change_of, inode_of, kind_of_bits, kind_of_type}
use Rattle.leaf_map.specs.After.{ShowsChange, has_inode, is_gone, is_idle, is_inode, is_set, kept_after, kept_by, put_leaf, read}
use Rattle.leaf_map.specs.Follows.{block_key_from, last_block_key, with_leaf, without_old}
use Rattle.leaf_map.specs.Kept.{Kept, Placed, kept_at, node_key, shown, shown_by}
use Rattle.leaf_map.specs.KeyedLaws.{node_keyed, read_carried}
use Rattle.leaf_map.specs.LeafMap.{IsLeafMap}
use Rattle.journal_scan.specs.Content.{node_content_of, told}
use Rattle.journal_scan.specs.declared.journal_node.JournalNode.{JournalNode}
use Rattle.journal_scan.specs.declared.node_content.NodeContent.TheVariants.{Inode as InodeNode, Entry as EntryNode, Unknown}
use Rattle.log_replay.specs.declared.application.Place.{Place}
use Rattle.log_replay.specs.declared.standing.Standing.{Standing}
use Rattle.log_replay.specs.Changes.{StandingCutsBlocks, Does, DoesBy, StandingDropsInode, DropsName, IsOfKey, PutsBlock, StandingSetsBlock, StandingSetsInode, SetsName, first_of_key, put_over, taken_out}
use Rattle.log_replay.specs.KeyToldLaws.{known}
use Rattle.log_replay.specs.Standing.{IsFreshPlace, StandsForLeaves, is_entry, is_linked_inode, is_name_shown, leaf_of_key, leaves, leaves_in, links_among, leaf_of_name}
use Rattle.log_replay.proofs.Distinct.{all_distinct, left_distinct, names_beside, names_stay, put_distinct}
use Rattle.log_replay.proofs.First.{any_found, block_at, block_key, cut_range, find_same, first_is, found_key, inode_at, inode_key, name_key}
use Rattle.log_replay.proofs.Maps.{links_beside, links_dropped, links_set, links_stay, place, place_beside, place_dropped, place_set, place_stay}
use Rattle.log_replay.proofs.Tests.{all_goes, block_goes, block_stays, cut_goes, cut_stays, entry_goes, entry_is, inode_goes, inode_is, key, name_goes, no_inode}

-- the laws of leaves that an index follows
pub record Laws : Type 0 where
  pub set : (change : Change) (new : Placed) (kept : List Kept) → is_set change ≡ true → is_idle kept change ≡ false → IsLeaf new.node → ShowsChange change new.node → IsLeafMap kept → AreDistinct (leaves kept)
      → leaves (kept_by change (kept_at new) kept) ≡ with_leaf (find (is_gone change) kept) (kept_at new).leaf (leaves kept)
  pub dropped : (dir : ℕ) (name : List ℕ) (new : Kept) (kept : List Kept) → IsLeafMap kept → AreDistinct (leaves kept)
      → leaves (kept_by (DropEntry dir name) new kept) ≡ without_old (find (is_gone (DropEntry dir name)) kept) (leaves kept)
  pub cut : (ino old_size new_size : ℕ) (new : Kept) (kept : List Kept) → IsLeafMap kept
      → leaves (kept_by (CutBlocks ino old_size new_size) new kept) ≡ outside_range (key_rank (block_key_from ino new_size)) (key_rank (last_block_key ino)) (leaves kept)
  pub inode : (ino : ℕ) (new : Kept) (kept : List Kept) → IsLeafMap kept
      → leaves (kept_by (DropInode ino) new kept) ≡ outside_range (key_rank (Ino ino)) (key_rank (last_block_key ino)) (leaves kept)
  pub after : (new : Placed) (kept : List Kept) → IsLeaf new.node → IsLeafMap kept → IsLeafMap (kept_after kept new)

-- the place of a node
abbrev at : Placed → Place
at new = record { lnum = new.lnum; offs = new.offs; len = new.len }

distinct_in : (kept : List Kept) (s : Standing) → StandsForLeaves kept s → AreDistinct (leaves kept)
distinct_in kept s st = all_distinct kept st.leaf_map.keyed st.leaf_map.apart st.distinct

map_after : Laws → (change : Change) (new : Placed) (kept : List Kept) → change_of new.node ≡ Some change → IsLeaf new.node → IsLeafMap kept → IsLeafMap (kept_by change (kept_at new) kept)
map_after L change new kept e leaf is = subst (λ c. IsLeafMap (read c new kept)) e (L.after new kept leaf is)

over : (o : Option Kept) (leaf : Leaf) (xs : List Leaf) → put_over (place o) leaf xs ≡ with_leaf o leaf xs
over None leaf xs = refl
over (Some old) leaf xs = refl

out : (o : Option Kept) (xs : List Leaf) → taken_out (place o) xs ≡ without_old o xs
out None xs = refl
out (Some old) xs = refl

-- the leaves after a node that sets one
set_leaves : Laws → (change : Change) (new : Placed) (kept : List Kept) (s t : Standing) (o : Option Leaf) (k : Key) → is_set change ≡ true → is_idle kept change ≡ false → IsLeaf new.node → ShowsChange change new.node → StandsForLeaves kept s
    → node_key new.node ≡ k → o ≡ place (find (is_gone change) kept) → IsOfKey k (place (find (is_gone change) kept))
    → (IsOfKey k o → leaves_in t ≡ put_over o (leaf_of_key k (at new)) (leaves_in s)) → leaves_in t ≡ leaves (kept_by change (kept_at new) kept)
set_leaves L change new kept s t o k set busy leaf carries st nk eo ok does =
    does (subst (IsOfKey k) (sym eo) ok)
    ∙ ap (λ (z : Option Leaf). put_over z (leaf_of_key k (at new)) (leaves_in s)) eo
    ∙ ap (λ (xs : List Leaf). put_over (place (find (is_gone change) kept)) (leaf_of_key k (at new)) xs) st.in_index
    ∙ over (find (is_gone change) kept) (leaf_of_key k (at new)) (leaves kept)
    ∙ ap (λ (z : Key). with_leaf (find (is_gone change) kept) (leaf_of_key z (at new)) (leaves kept)) (sym nk)
    ∙ sym (L.set change new kept set busy leaf carries st.leaf_map (distinct_in kept s st))

-- an inode that is set has links
linked_entry : (node : DentNode) (ino : ℕ) (set : Inode) (a z : Bool) (k : Option Kind)
    → cond a None (cond z (Some (DropEntry node.dir node.name)) (option_map (λ kind. SetEntry (record { dir = node.dir; name = node.name; ino = node.inum; kind = kind })) k)) ≡ Some (SetInode ino set) → is_linked_inode (Some (SetInode ino set)) ≡ true
linked_entry node ino set true z k e = absurd cc
linked_entry node ino set false true k e = absurd cc
linked_entry node ino set false false None e = absurd cc
linked_entry node ino set false false (Some kind) e = absurd cc

linked_inode : (node : InoNode) (ino : ℕ) (set : Inode) (z : Bool) (k : Option Kind) → (node.nlink == 0) ≡ z
    → cond z (Some (DropInode node.ino)) (option_map (λ kind. SetInode node.ino (inode_of node kind)) k) ≡ Some (SetInode ino set) → is_linked_inode (Some (SetInode ino set)) ≡ true
linked_inode node ino set true k h e = absurd cc
linked_inode node ino set false None h e = absurd cc
linked_inode node ino set false (Some kind) h e = sym (ap is_linked_inode e) ∙ ap not h

linked_node : (node : LeafNode) (ino : ℕ) (set : Inode) → change_of node ≡ Some (SetInode ino set) → is_linked_inode (Some (SetInode ino set)) ≡ true
linked_node (inode node) ino set e = linked_inode node ino set (node.nlink == 0) (kind_of_bits (bits_of node.mode)) refl e
linked_node (block node) ino set e = absurd cc
linked_node (entry node) ino set e = linked_entry node ino set node.attribute (node.inum == 0) (kind_of_type node.kind) e
linked_node (truncation node) ino set e = absurd cc

pub same_places : (s t : Standing) → t.names ≡ s.names → (q : ℕ × List ℕ) → get name_cmp t.names q ≡ get name_cmp s.names q
same_places s t e q = ap (λ (m : BTreeMap (ℕ × List ℕ) Leaf). get name_cmp m q) e

pub same_links : (s t : Standing) → t.inodes ≡ s.inodes → (q : ℕ) → get nat_cmp t.inodes q ≡ get nat_cmp s.inodes q
same_links s t e q = ap (λ (m : BTreeMap ℕ Bool). get nat_cmp m q) e

-- ---- each kind of node
inode_set : Laws → (ino : ℕ) (set : Inode) (new : Placed) (kept : List Kept) (s t : Standing) → change_of new.node ≡ Some (SetInode ino set) → IsLeaf new.node → StandsForLeaves kept s
    → StandingSetsInode ino (leaf_of_key (Ino ino) (at new)) s t → StandsForLeaves (kept_by (SetInode ino set) (kept_at new) kept) t
inode_set L ino set new kept s t e leaf st d =
    let carries : shown new.node ≡ Some (SetInode ino set) = read_carried new.node (SetInode ino set) e in
    let nk : node_key new.node ≡ Ino ino = node_keyed new.node (kept_at new).leaf (SetInode ino set) refl leaf carries refl in
    let gone : Kept → Bool = is_gone (SetInode ino set) in
    let first : first_of_key (Ino ino) (leaves_in s) ≡ place (find gone kept) =
    ap (first_of_key (Ino ino)) st.in_index ∙ first_is (Ino ino) gone kept st.leaf_map.keyed (λ x h. inode_at ino x.leaf (shown_by x) h ∙ sym (inode_is ino set (shown_by x))) in
    let ok : IsOfKey (Ino ino) (place (find gone kept)) = found_key (Ino ino) gone kept st.leaf_map.keyed (λ x h g. inode_key ino x.leaf (shown_by x) h (sym (inode_is ino set (shown_by x)) ∙ g)) in
    let plain : is_entry (shown new.node) ≡ false = ap is_entry carries in
    record {
      in_index = set_leaves L (SetInode ino set) new kept s t (first_of_key (Ino ino) (leaves_in s)) (Ino ino) refl refl leaf carries st nk first ok d.leaves;
      leaf_map = map_after L (SetInode ino set) new kept e leaf st.leaf_map;
      distinct = subst (λ (xs : List Kept). AreDistinct (leaves xs)) (sym (names_beside gone (kept_at new) kept plain (λ x g. inode_goes ino set (shown_by x) g))) st.distinct;
      inodes = λ q. d.inodes q ∙ ap (λ (z : Option Bool). cond (is_at (nat_cmp ino) q) (Some true) z) (st.inodes q)
          ∙ sym (links_set ino set (kept_at new) kept q carries ∙ ap (λ (b : Bool). cond (is_at (nat_cmp ino) q) (Some b) (links_among kept q)) (ap is_linked_inode carries ∙ linked_node new.node ino set e));
      names = λ q. same_places s t d.names q ∙ st.names q ∙ sym (place_beside gone (kept_at new) kept q plain (λ x g. inode_goes ino set (shown_by x) g));
    }

inode_dropped : Laws → (ino : ℕ) (new : Placed) (kept : List Kept) (s t : Standing) → change_of new.node ≡ Some (DropInode ino) → IsLeaf new.node → StandsForLeaves kept s → StandingDropsInode ino s t → StandsForLeaves (kept_by (DropInode ino) (kept_at new) kept) t
inode_dropped L ino new kept s t e leaf st d =
    let gone : Kept → Bool = is_gone (DropInode ino) in
    record {
      in_index = d.leaves ∙ ap (outside_range (key_rank (Ino ino)) (key_rank (last_block_key ino))) st.in_index ∙ sym (L.inode ino (kept_at new) kept st.leaf_map);
      leaf_map = map_after L (DropInode ino) new kept e leaf st.leaf_map;
      distinct = subst (λ (xs : List Kept). AreDistinct (leaves xs)) (sym (names_stay gone kept (λ x g. all_goes ino (shown_by x) g))) st.distinct;
      inodes = λ q. d.inodes q ∙ ap (λ (z : Option Bool). cond (is_at (nat_cmp ino) q) None z) (st.inodes q) ∙ sym (links_dropped ino kept q);
      names = λ q. same_places s t d.names q ∙ st.names q ∙ sym (place_stay gone kept q (λ x g. all_goes ino (shown_by x) g));
    }

cut : Laws → (ino old_size new_size : ℕ) (new : Placed) (kept : List Kept) (s t : Standing) → change_of new.node ≡ Some (CutBlocks ino old_size new_size) → IsLeaf new.node → StandsForLeaves kept s → StandingCutsBlocks ino new_size s t
    → StandsForLeaves (kept_by (CutBlocks ino old_size new_size) (kept_at new) kept) t
cut L ino old_size new_size new kept s t e leaf st d =
    let gone : Kept → Bool = is_gone (CutBlocks ino old_size new_size) in
    record {
      in_index = d.leaves ∙ cut_range ino new_size (leaves_in s) ∙ ap (outside_range (key_rank (block_key_from ino new_size)) (key_rank (last_block_key ino))) st.in_index ∙ sym (L.cut ino old_size new_size (kept_at new) kept st.leaf_map);
      leaf_map = map_after L (CutBlocks ino old_size new_size) new kept e leaf st.leaf_map;
      distinct = subst (λ (xs : List Kept). AreDistinct (leaves xs)) (sym (names_stay gone kept (λ x g. cut_goes ino old_size new_size (shown_by x) g))) st.distinct;
      inodes = λ q. same_links s t d.inodes q ∙ st.inodes q ∙ sym (links_stay gone kept q (λ x g. cut_stays q ino old_size new_size (shown_by x) g));
      names = λ q. same_places s t d.names q ∙ st.names q ∙ sym (place_stay gone kept q (λ x g. cut_goes ino old_size new_size (shown_by x) g));
    }

block_put : Laws → (ino number : ℕ) (bytes : List ℕ) (new : Placed) (kept : List Kept) (s t : Standing) → change_of new.node ≡ Some (SetBlock ino number bytes) → IsLeaf new.node → has_inode kept ino ≡ true → StandsForLeaves kept s
    → PutsBlock (leaf_of_key (Block ino number) (at new)) s t → StandsForLeaves (put_leaf (is_gone (SetBlock ino number bytes)) (kept_at new) kept) t
block_put L ino number bytes new kept s t e leaf there st d =
    let carries : shown new.node ≡ Some (SetBlock ino number bytes) = read_carried new.node (SetBlock ino number bytes) e in
    let keyed = node_keyed new.node (kept_at new).leaf (SetBlock ino number bytes) refl leaf carries refl in
    let gone : Kept → Bool = is_gone (SetBlock ino number bytes) in
    let k : Key = Block ino number in
    let busy : is_idle kept (SetBlock ino number bytes) ≡ false = ap not there in
    let same : kept_by (SetBlock ino number bytes) (kept_at new) kept ≡ put_leaf gone (kept_at new) kept = rw busy refl in
    let first : first_of_key k (leaves_in s) ≡ place (find gone kept) =
    ap (first_of_key k) st.in_index ∙ first_is k gone kept st.leaf_map.keyed (λ x h. block_at ino number bytes keyed.1 x.leaf (shown_by x) h) in
    let ok : IsOfKey k (place (find gone kept)) = found_key k gone kept st.leaf_map.keyed (λ x h g. block_key ino number bytes x.leaf (shown_by x) h g) in
    let plain : is_entry (shown new.node) ≡ false = ap is_entry carries in
    record {
      in_index = set_leaves L (SetBlock ino number bytes) new kept s t (first_of_key k (leaves_in s)) k refl busy leaf carries st keyed.0 first ok d.leaves ∙ ap leaves same;
      leaf_map = subst IsLeafMap same (map_after L (SetBlock ino number bytes) new kept e leaf st.leaf_map);
      distinct = subst (λ (xs : List Kept). AreDistinct (leaves xs)) (sym (names_beside gone (kept_at new) kept plain (λ x g. block_goes ino number bytes (shown_by x) g))) st.distinct;
      inodes = λ q. same_links s t d.inodes q ∙ st.inodes q ∙ sym (links_beside gone (kept_at new) kept q (ap (is_inode q) carries) (λ x g. block_stays q ino number bytes (shown_by x) g));
      names = λ q. same_places s t d.names q ∙ st.names q ∙ sym (place_beside gone (kept_at new) kept q plain (λ x g. block_goes ino number bytes (shown_by x) g));
    }

block_set : Laws → (ino number : ℕ) (bytes : List ℕ) (new : Placed) (kept : List Kept) (s t : Standing) → change_of new.node ≡ Some (SetBlock ino number bytes) → IsLeaf new.node → StandsForLeaves kept s
    → StandingSetsBlock ino (leaf_of_key (Block ino number) (at new)) s t → StandsForLeaves (kept_by (SetBlock ino number bytes) (kept_at new) kept) t
block_set L ino number bytes new kept s t e leaf st d = by (find (λ x. is_inode ino (shown_by x)) kept) refl (subst (λ (o : Option Bool). MatchOption o (t ≡ s) (λ linked. PutsBlock (leaf_of_key (Block ino number) (at new)) s t)) (st.inodes ino) d)
  where
    there : (o : Option Kept) → find (λ x. is_inode ino (shown_by x)) kept ≡ o → has_inode kept ino ≡ is_some o
    there o f = any_found (λ x. is_inode ino (shown_by x)) kept ∙ ap is_some f

    by : (o : Option Kept) → find (λ x. is_inode ino (shown_by x)) kept ≡ o → MatchOption (option_map (λ x. is_linked_inode (shown_by x)) o) (t ≡ s) (λ linked. PutsBlock (leaf_of_key (Block ino number) (at new)) s t)
        → StandsForLeaves (kept_by (SetBlock ino number bytes) (kept_at new) kept) t
    by None f m =
        let none : has_inode kept ino ≡ false = there None f in
        let same : kept_by (SetBlock ino number bytes) (kept_at new) kept ≡ kept = rw none refl in
        subst (λ (ks : List Kept). StandsForLeaves ks t) (sym same) (subst (StandsForLeaves kept) (sym m) st)
    by (Some x) f m =
        let some : has_inode kept ino ≡ true = there (Some x) f in
        let same : kept_by (SetBlock ino number bytes) (kept_at new) kept ≡ put_leaf (is_gone (SetBlock ino number bytes)) (kept_at new) kept = rw some refl in
        subst (λ (ks : List Kept). StandsForLeaves ks t) (sym same) (block_put L ino number bytes new kept s t e leaf some st m)

name_set : Laws → (q : Entry) (new : Placed) (kept : List Kept) (s t : Standing) → change_of new.node ≡ Some (SetEntry q) → IsLeaf new.node → IsFreshPlace kept new → StandsForLeaves kept s
    → SetsName (key q) (leaf_of_key (Dent q.dir (r5_of q.name)) (at new)) s t → StandsForLeaves (kept_by (SetEntry q) (kept_at new) kept) t
name_set L q new kept s t e leaf fresh st d =
    let carries : shown new.node ≡ Some (SetEntry q) = read_carried new.node (SetEntry q) e in
    let k : Key = Dent q.dir (r5_of q.name) in
    let nk : node_key new.node ≡ Dent q.dir (r5_of q.name) = node_keyed new.node (kept_at new).leaf (SetEntry q) refl leaf carries refl in
    let gone : Kept → Bool = is_gone (SetEntry q) in
    let found : get name_cmp s.names (key q) ≡ place (find gone kept) = st.names (key q) ∙ ap place (find_same (λ x. is_name_shown (key q) (shown_by x)) gone kept (λ x. sym (entry_is q (shown_by x)))) in
    let ok : IsOfKey k (place (find gone kept)) = found_key k gone kept st.leaf_map.keyed (λ x h g. name_key (key q) x.leaf (shown_by x) h (sym (entry_is q (shown_by x)) ∙ g)) in
    let named : is_entry (shown new.node) ≡ true = ap is_entry carries in
    let here : leaf_of_key k (at new) ≡ (kept_at new).leaf = ap (λ (z : Key). leaf_of_key z (at new)) (sym nk) in
    record {
      in_index = set_leaves L (SetEntry q) new kept s t (get name_cmp s.names (key q)) k refl refl leaf carries st nk found ok d.leaves;
      leaf_map = map_after L (SetEntry q) new kept e leaf st.leaf_map;
      distinct = put_distinct gone (kept_at new) kept named (fresh named) st.distinct;
      inodes = λ i. same_links s t d.inodes i ∙ st.inodes i ∙ sym (links_beside gone (kept_at new) kept i (no_inode i (shown new.node) named) (λ x g. no_inode i (shown_by x) (entry_goes q (shown_by x) g)));
      names = λ p. d.names p ∙ ap (λ (z : Option Leaf). cond (is_at (name_cmp (key q)) p) (Some (leaf_of_key k (at new))) z) (st.names p)
          ∙ ap (λ (z : Leaf). cond (is_at (name_cmp (key q)) p) (Some z) (leaf_of_name kept p)) here ∙ sym (place_set q (kept_at new) kept p carries);
    }

name_dropped : Laws → (dir : ℕ) (name : List ℕ) (new : Placed) (kept : List Kept) (s t : Standing) → change_of new.node ≡ Some (DropEntry dir name) → IsLeaf new.node → StandsForLeaves kept s → DropsName (dir, name) s t
    → StandsForLeaves (kept_by (DropEntry dir name) (kept_at new) kept) t
name_dropped L dir name new kept s t e leaf st d =
    let gone : Kept → Bool = is_gone (DropEntry dir name) in
    record {
      in_index = d.leaves ∙ ap (λ (z : Option Leaf). taken_out z (leaves_in s)) (st.names (dir, name)) ∙ ap (taken_out (leaf_of_name kept (dir, name))) st.in_index
          ∙ out (find (λ x. is_name_shown (dir, name) (shown_by x)) kept) (leaves kept) ∙ sym (L.dropped dir name (kept_at new) kept st.leaf_map (distinct_in kept s st));
      leaf_map = map_after L (DropEntry dir name) new kept e leaf st.leaf_map;
      distinct = left_distinct (λ x. not (gone x)) kept st.distinct;
      inodes = λ i. same_links s t d.inodes i ∙ st.inodes i ∙ sym (links_stay gone kept i (λ x g. no_inode i (shown_by x) (name_goes dir name (shown_by x) g)));
      names = λ p. d.names p ∙ ap (λ (z : Option Leaf). cond (is_at (name_cmp (dir, name)) p) None z) (st.names p) ∙ sym (place_dropped dir name kept p);
    }

-- ---- all of them
-- what a node does that carries this
abbrev ByChange : Option Change → Place → Standing → Standing → Type 0
ByChange None place s t = t ≡ s
ByChange (Some (SetInode ino set)) place s t = StandingSetsInode ino (leaf_of_key (Ino ino) place) s t
ByChange (Some (DropInode ino)) place s t = StandingDropsInode ino s t
ByChange (Some (SetEntry q)) place s t = SetsName (key q) (leaf_of_key (Dent q.dir (r5_of q.name)) place) s t
ByChange (Some (DropEntry dir name)) place s t = DropsName (dir, name) s t
ByChange (Some (SetBlock ino number bytes)) place s t = StandingSetsBlock ino (leaf_of_key (Block ino number) place) s t
ByChange (Some (CutBlocks ino old_size new_size)) place s t = StandingCutsBlocks ino new_size s t

inode_does : (node : InoNode) (place : Place) (s t : Standing) (z : Bool) (k : Option Kind) → DoesBy (cond (is_some k) (InodeNode node.ino (not z)) (Unknown (Ino node.ino) (not z))) place s t
    → ByChange (cond z (Some (DropInode node.ino)) (option_map (λ kind. SetInode node.ino (inode_of node kind)) k)) place s t
inode_does node place s t true (Some kind) d = d
inode_does node place s t true None d = d
inode_does node place s t false (Some kind) d = d
inode_does node place s t false None d = d

entry_does : (node : DentNode) (place : Place) (s t : Standing) (a z : Bool) (k : Option Kind) → is_some k ≡ true → DoesBy (cond a (Unknown (Xent node.dir (r5_of node.name)) true) (EntryNode node.dir node.name (not z))) place s t
    → ByChange (cond a None (cond z (Some (DropEntry node.dir node.name)) (option_map (λ kind. SetEntry (record { dir = node.dir; name = node.name; ino = node.inum; kind = kind })) k))) place s t
entry_does node place s t true z k h d = d
entry_does node place s t false true k h d = d
entry_does node place s t false false (Some kind) h d = d
entry_does node place s t false false None h d = absurd (false≢true h)

does_change : (node : LeafNode) (place : Place) (s t : Standing) → IsLeaf node → DoesBy (node_content_of node) place s t → ByChange (change_of node) place s t
does_change (inode node) place s t leaf d = inode_does node place s t (node.nlink == 0) (kind_of_bits (bits_of node.mode)) d
does_change (block node) place s t leaf d = d
does_change (entry node) place s t leaf d = entry_does node place s t node.attribute (node.inum == 0) (kind_of_type node.kind) (known node.kind leaf.kind_known) d
does_change (truncation node) place s t leaf d = d

told_stands : Laws → (new : Placed) (kept : List Kept) (s t : Standing) → IsLeaf new.node → IsFreshPlace kept new → StandsForLeaves kept s → Does (told new) s t → StandsForLeaves (kept_after kept new) t
told_stands L new kept s t leaf fresh st d = by (change_of new.node) refl (does_change new.node (at new) s t leaf d)
  where
    by : (c : Option Change) → change_of new.node ≡ c → ByChange c (at new) s t → StandsForLeaves (read c new kept) t
    by None e m = subst (StandsForLeaves kept) (sym m) st
    by (Some (SetInode ino set)) e m = inode_set L ino set new kept s t e leaf st m
    by (Some (DropInode ino)) e m = inode_dropped L ino new kept s t e leaf st m
    by (Some (SetEntry q)) e m = name_set L q new kept s t e leaf fresh st m
    by (Some (DropEntry dir name)) e m = name_dropped L dir name new kept s t e leaf st m
    by (Some (SetBlock ino number bytes)) e m = block_set L ino number bytes new kept s t e leaf st m
    by (Some (CutBlocks ino old_size new_size)) e m = cut L ino old_size new_size new kept s t e leaf st m

pub node_stands : Laws → (node : JournalNode) (new : Placed) (kept : List Kept) (s t : Standing) → node ≡ told new → IsLeaf new.node → IsFreshPlace kept new → StandsForLeaves kept s → Does node s t → StandsForLeaves (kept_after kept new) t
node_stands L node new kept s t e leaf fresh st d = told_stands L new kept s t leaf fresh st (subst (λ (n : JournalNode). Does n s t) e d)
