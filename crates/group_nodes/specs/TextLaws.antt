-- How long the texts of nodes are.
use Rattle.std.proofs.Common.{◌≡◌, ℕ, suc, ◌+◌, ◌-◌, ◌%◌, ◌≤◌, List, [], ◌∷◌, ◌++◌, length, replicate, refl, sym, subst, ◌∙◌, ap, arith, length-append, append_assoc, Option, Some, None}
use Rattle.std.specs.List.{sum_by}
use Rattle.std.specs.Option.{option_map_or}
use Rattle.std.proofs.lemmas.List.{length-replicate}
use Rattle.std.proofs.lemmas.List.Sums.{sum_by-cons}
use Rattle.ubifs_base.specs.Node.{node_bytes}
use Rattle.node_fields.specs.Fields.{spelling, total_width}
use Rattle.node_fields.specs.FieldLaws.{length-spelling}
use Rattle.media_leaf.specs.LeafNode.{LeafNode, inode, block, entry, truncation, type_of, fields_of, tail_of, written}
use Rattle.fs_model.specs.declared.change.Change.{Change}
use Rattle.fs_model.specs.declared.change.Change.TheVariants.{SetInode, SetEntry, DropEntry, SetBlock, CutBlocks, DropInode}
use Rattle.fs_model.specs.declared.inode.Inode.{Inode}
use Rattle.fs_model.specs.Cover.{inode_bytes, round_8}
use Rattle.fs_model.specs.Files.{Tree, inode_at}
use Rattle.fs_model.specs.Need.{change_bytes}
use Rattle.group_nodes.specs.Nodes.{node_of}
use Rattle.group_nodes.specs.Texts.{leaf_len, padded_leaf_bytes, padded_node, leaf_text, text_bytes}
use Rattle.group_nodes.specs.Groups.{group_type, texts_from, group_text}

length-node_bytes : (sqnum kind group : ℕ) (body : List ℕ) → length (node_bytes sqnum kind group (0 ∷ 0 ∷ []) body) ≡ 24 + length body
unfolding node_bytes
length-node_bytes sqnum kind group body = omega arith

pub width : (leaf : LeafNode) → 24 + (total_width (fields_of leaf) + length (tail_of leaf)) ≡ leaf_len leaf
width (inode node) = omega arith
width (block node) = omega arith
width (entry node) = let l = length-append node.name (0 ∷ []) in omega (arith, l)
width (truncation node) = omega arith

-- a node has its length
pub length-written : (sqnum group : ℕ) (leaf : LeafNode) → length (written sqnum group leaf) ≡ leaf_len leaf
length-written sqnum group leaf =
    length-node_bytes sqnum (type_of leaf) group (spelling (fields_of leaf) (tail_of leaf))
    ∙ ap (λ (n : ℕ). 24 + n) (length-spelling (fields_of leaf) (tail_of leaf))
    ∙ width leaf

length-padded : (bytes : List ℕ) → length (padded_node bytes) ≡ round_8 (length bytes)
length-padded bytes =
    let n = round_8 (length bytes) - length bytes in
    let l = length-append bytes (replicate n 0xCE) in
    let r = length-replicate {A = ℕ} n 0xCE in
    omega (arith, l, r)

pub length-leaf_text : (sqnum group : ℕ) (leaf : LeafNode) → length (leaf_text sqnum group leaf) ≡ padded_leaf_bytes leaf
unfolding leaf_text
length-leaf_text sqnum group leaf = length-padded (written sqnum group leaf) ∙ ap round_8 (length-written sqnum group leaf)

pub length-texts_from : (n i sqnum : ℕ) (changes : List Change) → length (texts_from n i sqnum changes) ≡ sum_by text_bytes changes
length-texts_from n i sqnum [] = refl
length-texts_from n i sqnum (change ∷ changes) =
    let here = length-leaf_text (sqnum + 1) (group_type n i) (node_of change) in
    let more = length-texts_from n (suc i) (sqnum + 1) changes in
    let all = sum_by-cons text_bytes change changes in
    let both = length-append (leaf_text (sqnum + 1) (group_type n i) (node_of change)) (texts_from n (suc i) (sqnum + 1) changes) in
    omega (arith, here, more, all, both)

-- the texts of changes behind others
pub texts_from-append : (n i sqnum : ℕ) (before after : List Change) →
    texts_from n i sqnum (before ++ after) ≡ texts_from n i sqnum before ++ texts_from n (i + length before) (sqnum + length before) after
texts_from-append n i sqnum [] after = rw (none i, none sqnum) refl
  where
    none : (k : ℕ) → k + 0 ≡ k
    none k = omega arith
texts_from-append n i sqnum (change ∷ before) after =
    rw (texts_from-append n (suc i) (sqnum + 1) before after, next i, next_number)
    (sym (append_assoc (leaf_text (sqnum + 1) (group_type n i) (node_of change)) (texts_from n (suc i) (sqnum + 1) before) (texts_from n (i + length (change ∷ before)) (sqnum + length (change ∷ before)) after)))
  where
    next : (k : ℕ) → suc k + length before ≡ k + length (change ∷ before)
    next k = omega arith

    next_number : sqnum + 1 + length before ≡ sqnum + length (change ∷ before)
    next_number = omega arith

-- behind the nodes of the changes before it stands a change's own node, with the number and the group type of its place
pub node_in_group : (sqnum : ℕ) (before after : List Change) (change : Change) →
    let n = length (before ++ change ∷ after) in
    group_text sqnum (before ++ change ∷ after)
    ≡ texts_from n 0 sqnum before ++ (leaf_text (sqnum + length before + 1) (group_type n (length before)) (node_of change) ++ texts_from n (suc (length before)) (sqnum + length before + 1) after)
node_in_group sqnum before after change =
    subst (λ i. texts_from n 0 sqnum (before ++ change ∷ after) ≡ texts_from n 0 sqnum before ++ texts_from n i (sqnum + length before) (change ∷ after)) first
    (texts_from-append n 0 sqnum before (change ∷ after))
  where
    n : ℕ
    n = length (before ++ change ∷ after)

    first : 0 + length before ≡ length before
    first = omega arith

-- a group's bytes are those of its nodes, whatever their numbers
pub length-group_text : (sqnum : ℕ) (group : List Change) → length (group_text sqnum group) ≡ sum_by text_bytes group
length-group_text sqnum group = length-texts_from (length group) 0 sqnum group

even_texts : (n i sqnum : ℕ) (changes : List Change) → length (texts_from n i sqnum changes) % 8 ≡ 0
even_texts n i sqnum [] = refl
even_texts n i sqnum (change ∷ changes) =
    let here = length-leaf_text (sqnum + 1) (group_type n i) (node_of change) in
    let more = even_texts n (suc i) (sqnum + 1) changes in
    let both = length-append (leaf_text (sqnum + 1) (group_type n i) (node_of change)) (texts_from n (suc i) (sqnum + 1) changes) in
    omega (arith, here, more, both)

pub even_group : (sqnum : ℕ) (group : List Change) → length (group_text sqnum group) % 8 ≡ 0
even_group sqnum group = even_texts (length group) 0 sqnum group

-- a change takes no more than admission reckons
least_inode : (found : Option Inode) → 160 ≤ option_map_or inode_bytes found 160
least_inode None = omega arith
least_inode (Some node) = omega arith

pub text_bytes-change_bytes : (tree : Tree) (change : Change) → text_bytes change ≤ change_bytes tree change
text_bytes-change_bytes tree (SetInode ino node) = omega arith
text_bytes-change_bytes tree (SetEntry e) = omega arith
text_bytes-change_bytes tree (DropEntry dir name) = omega arith
text_bytes-change_bytes tree (SetBlock ino number bytes) = omega arith
text_bytes-change_bytes tree (CutBlocks ino old_size new_size) = omega arith
text_bytes-change_bytes tree (DropInode ino) = least_inode (inode_at tree ino)
