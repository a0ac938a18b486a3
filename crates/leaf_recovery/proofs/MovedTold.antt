-- What is told of leaves and copies tells which leaves stand at copies.
use Rattle.std.proofs.Common.{◌≡◌, ℕ, Bool, true, false, cond, not, ◌&&◌, ◌||◌, List, [], ◌∷◌, map, refl, sym, ap, subst, ◌∙◌, Option, Some, None}
use Rattle.std.specs.Prelude.{◌==◌, is_some}
use Rattle.std.proofs.lemmas.Bool.{and_parts, eqb-true}
use Rattle.ubifs_base.specs.declared.key.Key.{Key}
use Rattle.ubifs_base.specs.declared.key.Key.TheVariants.{Ino, Block as BlockKey, Dent, Xent}
use Rattle.media_leaf.specs.LeafNode.{LeafNode, block, inode}
use Rattle.group_nodes.specs.Nodes.{gone_inode, inode_node}
use Rattle.media_sys.specs.declared.ref_node.RefNode.{RefNode}
use Rattle.index_tree.specs.declared.leaf.Leaf.{Leaf}
use Rattle.leaf_map.specs.Kept.{Kept, Placed, kept_at, shown, shown_by}
use Rattle.leaf_map.specs.LeafMap.{shows_same}
use Rattle.leaf_map.specs.Parts.{Parts, is_named}
use Rattle.leaf_map.specs.Recovered.{at_copy, copy_of_leaf, is_copied, moved_to_its_copy, stand_in}
use Rattle.journal_scan.specs.Content.{node_content_of}
use Rattle.journal_scan.specs.declared.journal_node.JournalNode.{JournalNode}
use Rattle.journal_scan.specs.declared.node_content.NodeContent.{NodeContent}
use Rattle.journal_scan.specs.declared.node_content.NodeContent.TheVariants.{Inode, Block, Entry, Truncation, Unknown}
use Rattle.log_replay.specs.Things.{is_block_told, is_inode_told}
use Rattle.leaf_recovery.specs.declared.recovered_leaf.Place.{Place}
use Rattle.leaf_recovery.specs.declared.recovered_leaf.RecoveredLeaf.{RecoveredLeaf}
use Rattle.leaf_recovery.specs.Moved.{copy_of_told, is_copied_told, moved_to_copy, moved_told}
use Rattle.leaf_recovery.specs.Named.{is_named_told, named_by_reference}
use Rattle.leaf_recovery.specs.Things.{leaf_told, node_key_told, shows_told}
use Rattle.leaf_recovery.specs.Told.{IsSource, Pairwise}
use Rattle.leaf_recovery.proofs.Pairs.{IfBoth, all_pairs, find_pairs, map_pairs}
use Rattle.leaf_recovery.proofs.Telling.{KeptTold, NodeTold, named_is, node_leaf, node_shows, node_sqnum, same_shown}

-- a leaf at a copy, if there is one
abbrev kept_moved : Kept → Option Placed → Kept
kept_moved x None = x
kept_moved x (Some copy) = record x { leaf = (kept_at copy).leaf }

at_is : (copies : List Placed) (x : Kept) → at_copy copies x ≡ kept_moved x (copy_of_leaf copies x)
at_is copies x = by (copy_of_leaf copies x) refl
  where
    by : (o : Option Placed) → copy_of_leaf copies x ≡ o → at_copy copies x ≡ kept_moved x (copy_of_leaf copies x)
    by None e = rw e refl
    by (Some c) e = rw e refl

-- the copy that is found shows what the leaf shows
found_shows : (js : List JournalNode) (r : RecoveredLeaf) (j : JournalNode) → copy_of_told js r ≡ Some j → shows_told r.content j.content ≡ true
found_shows [] r j e = absurd cc
found_shows (k ∷ js) r j e = by (found_shows js r j) ((k.sqnum == r.sqnum) && shows_told r.content k.content) refl e
  where
    by : (copy_of_told js r ≡ Some j → shows_told r.content j.content ≡ true) → (b : Bool) → ((k.sqnum == r.sqnum) && shows_told r.content k.content) ≡ b → cond b (Some k) (copy_of_told js r) ≡ Some j
        → shows_told r.content j.content ≡ true
    by more true h f = let same : k ≡ j = cc in ap (λ (n : JournalNode). shows_told r.content n.content) (sym same) ∙ (and_parts (k.sqnum == r.sqnum) (shows_told r.content k.content) h).1
    by more false h f = more f

-- what shows an inode, and what shows a block, has its key
inode_key : (ino : ℕ) (d : NodeContent) → is_inode_told ino d ≡ true → Ino ino ≡ node_key_told d
inode_key ino (Inode a linked) e = ap Ino (sym (eqb-true a ino e))
inode_key ino (Block a number) e = absurd cc
inode_key ino (Entry dir name true) e = absurd cc
inode_key ino (Entry dir name false) e = absurd cc
inode_key ino (Truncation a size) e = absurd cc
inode_key ino (Unknown key linked) e = absurd cc

block_key : (ino number : ℕ) (d : NodeContent) → is_block_told ino number d ≡ true → BlockKey ino number ≡ node_key_told d
block_key ino number (Block a at) e =
    let p = and_parts (a == ino) (at == number) e in
    ap (λ (i : ℕ). BlockKey i number) (sym (eqb-true a ino p.0)) ∙ ap (BlockKey a) (sym (eqb-true at number p.1))
block_key ino number (Inode a linked) e = absurd cc
block_key ino number (Entry dir name true) e = absurd cc
block_key ino number (Entry dir name false) e = absurd cc
block_key ino number (Truncation a size) e = absurd cc
block_key ino number (Unknown key linked) e = absurd cc

-- a copy of what stands for a node that nobody can read has its key
stand_in_key : (x : Kept) (j : JournalNode) → stand_in x.leaf.key ≡ Some x.node → shows_told (node_content_of x.node) j.content ≡ true → x.leaf.key ≡ (leaf_told j).key
stand_in_key x j = by x.leaf.key
  where
    by : (key : Key) → stand_in key ≡ Some x.node → shows_told (node_content_of x.node) j.content ≡ true → key ≡ node_key_told j.content
    by (Ino ino) e same =
        let is : inode (inode_node ino gone_inode) ≡ x.node = cc in
        inode_key ino j.content (ap (λ (n : LeafNode). shows_told (node_content_of n) j.content) is ∙ same)
    by (BlockKey ino number) e same =
        let is : block (record { ino = ino; block = number; bytes = [] }) ≡ x.node = cc in
        block_key ino number j.content (ap (λ (n : LeafNode). shows_told (node_content_of n) j.content) is ∙ same)
    by (Dent dir hash) e same = absurd cc
    by (Xent ino hash) e same = absurd cc

module _ (parts : Parts) (references : List RefNode) (named : parts.named ≡ map named_by_reference references) (js : List JournalNode) (copies : Pairwise (NodeTold parts) parts.copies js) where
  copy_pair : (x : Kept) (r : RecoveredLeaf) → KeptTold parts x r → IfBoth (NodeTold parts) (copy_of_leaf parts.copies x) (copy_of_told js r)
  copy_pair x r t =
      find_pairs (NodeTold parts) (λ c. (c.sqnum == x.sqnum) && shows_same (shown_by x) (shown c.node)) (λ j. (j.sqnum == r.sqnum) && shows_told r.content j.content) same parts.copies js copies
    where
      same : (c : Placed) (j : JournalNode) → NodeTold parts c j → ((c.sqnum == x.sqnum) && shows_same (shown_by x) (shown c.node)) ≡ ((j.sqnum == r.sqnum) && shows_told r.content j.content)
      same c j n = rw (node_sqnum parts c j n, t.told.sqnum, same_shown r.content j.content (shown_by x) (shown c.node) t.shows (node_shows parts c j n)) refl

  some_pair : (o : Option Placed) (p : Option JournalNode) → IfBoth (NodeTold parts) o p → is_some o ≡ is_some p
  some_pair None None h = refl
  some_pair None (Some j) h = absurd h
  some_pair (Some c) None h = absurd h
  some_pair (Some c) (Some j) h = refl

  copied_pairs : (lnum : ℕ) (xs : List Kept) (rs : List RecoveredLeaf) → Pairwise (KeptTold parts) xs rs → is_copied parts.copies xs lnum ≡ is_copied_told js rs lnum
  copied_pairs lnum xs rs h =
      all_pairs (KeptTold parts) (λ x. not (x.leaf.lnum == lnum) || is_some (copy_of_leaf parts.copies x)) (λ r. not (r.leaf.lnum == lnum) || is_some (copy_of_told js r)) same xs rs h
    where
      same : (x : Kept) (r : RecoveredLeaf) → KeptTold parts x r → (not (x.leaf.lnum == lnum) || is_some (copy_of_leaf parts.copies x)) ≡ (not (r.leaf.lnum == lnum) || is_some (copy_of_told js r))
      same x r t =
          ap (λ (l : Leaf). not (l.lnum == lnum) || is_some (copy_of_leaf parts.copies x)) (sym t.told.leaf)
          ∙ ap (λ (b : Bool). not (r.leaf.lnum == lnum) || b) (some_pair (copy_of_leaf parts.copies x) (copy_of_told js r) (copy_pair x r t))

  -- a source goes with its leaf: what stands for a node that nobody can read does so at a copy too, which has its key
  source_there : (x : Kept) (r : RecoveredLeaf) (c : Placed) (j : JournalNode) → KeptTold parts x r → NodeTold parts c j → shows_told r.content j.content ≡ true → (o : Option Place) → IsSource parts x o → IsSource parts (record x { leaf = (kept_at c).leaf }) o
  source_there x r c j t n same (Some place) s = s
  source_there x r c j t n same None s =
      let key : x.leaf.key ≡ (kept_at c).leaf.key = stand_in_key x j s (ap (λ (d : NodeContent). shows_told d j.content) (sym t.told.content) ∙ same) ∙ ap (λ (l : Leaf). l.key) (node_leaf parts c j n) in
      ap stand_in (sym key) ∙ s

  moved_pair : (x : Kept) (r : RecoveredLeaf) (o : Option Placed) (p : Option JournalNode) → KeptTold parts x r → IfBoth (NodeTold parts) o p → ((j : JournalNode) → p ≡ Some j → shows_told r.content j.content ≡ true) → KeptTold parts (kept_moved x o) (moved_to_copy r p)
  moved_pair x r None None t h same = t
  moved_pair x r None (Some j) t h same = absurd h
  moved_pair x r (Some c) None t h same = absurd h
  moved_pair x r (Some c) (Some j) t h same = record { told = record { leaf = node_leaf parts c j h; content = t.told.content; sqnum = t.told.sqnum; source = source_there x r c j t h (same j refl) r.source t.told.source }; shows = t.shows }

  one_pair : (xs : List Kept) (rs : List RecoveredLeaf) → Pairwise (KeptTold parts) xs rs → (x : Kept) (r : RecoveredLeaf) → KeptTold parts x r → KeptTold parts (moved_to_its_copy parts xs x) (moved_told references js rs r)
  one_pair xs rs h x r t =
      by (is_named parts.named x.leaf.lnum) (is_named_told references r.leaf.lnum) outside (is_copied parts.copies xs x.leaf.lnum) (is_copied_told js rs r.leaf.lnum) copied
    where
      outside : is_named parts.named x.leaf.lnum ≡ is_named_told references r.leaf.lnum
      outside = ap (λ z. is_named z x.leaf.lnum) named ∙ ap (λ (l : Leaf). is_named (map named_by_reference references) l.lnum) (sym t.told.leaf) ∙ sym (named_is references r.leaf.lnum)

      copied : is_copied parts.copies xs x.leaf.lnum ≡ is_copied_told js rs r.leaf.lnum
      copied = ap (λ (l : Leaf). is_copied parts.copies xs l.lnum) (sym t.told.leaf) ∙ copied_pairs r.leaf.lnum xs rs h

      by : (a b : Bool) → a ≡ b → (u v : Bool) → u ≡ v → KeptTold parts (cond (not a && u) (at_copy parts.copies x) x) (cond (not b && v) (moved_to_copy r (copy_of_told js r)) r)
      by true true e u v f = t
      by false false e true true f = subst (λ (k : Kept). KeptTold parts k (moved_to_copy r (copy_of_told js r))) (sym (at_is parts.copies x)) (moved_pair x r (copy_of_leaf parts.copies x) (copy_of_told js r) t (copy_pair x r t) (found_shows js r))
      by false false e false false f = t
      by false false e true false f = absurd cc
      by false false e false true f = absurd cc
      by true false e u v f = absurd cc
      by false true e u v f = absurd cc

  pub moved_pairs : (xs : List Kept) (rs : List RecoveredLeaf) → Pairwise (KeptTold parts) xs rs → Pairwise (KeptTold parts) (map (moved_to_its_copy parts xs) xs) (map (moved_told references js rs) rs)
  moved_pairs xs rs h = map_pairs (KeptTold parts) (KeptTold parts) (moved_to_its_copy parts xs) (moved_told references js rs) (one_pair xs rs h) xs rs h
