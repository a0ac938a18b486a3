-- What is told of nodes and of listed orphans makes of told leaves what they make of leaves.
use Rattle.std.proofs.Common.{◌≡◌, ℕ, Bool, true, false, cond, not, List, [], ◌∷◌, refl, sym, ap, subst, ◌∙◌, Option, Some, None}
use Rattle.std.specs.Prelude.{filter, fold, nat_le}
use Rattle.std.specs.List.{list_any}
use Rattle.index_tree.specs.declared.leaf.Leaf.{Leaf}
use Rattle.index_tree.specs.Order.{leaf_rank}
use Rattle.fs_model.specs.declared.change.Change.{Change}
use Rattle.fs_model.specs.declared.change.Change.TheVariants.{SetInode, SetEntry, SetBlock, DropEntry, CutBlocks, DropInode}
use Rattle.group_nodes.specs.Nodes.{change_of}
use Rattle.leaf_map.specs.After.{is_gone, is_idle, is_inode, is_set, kept_after, put_leaf, read}
use Rattle.leaf_map.specs.Kept.{Kept, Placed, kept_at, shown_by}
use Rattle.leaf_map.specs.LeafMap.{shows_same}
use Rattle.leaf_map.specs.Parts.{Parts, is_shown}
use Rattle.leaf_map.specs.Recovered.{is_unlinked, without_orphan}
use Rattle.journal_scan.specs.declared.node_content.NodeContent.{NodeContent}
use Rattle.journal_scan.specs.declared.node_content.NodeContent.TheVariants.{Inode, Block, Entry, Truncation, Unknown}
use Rattle.journal_scan.specs.declared.journal_node.JournalNode.{JournalNode}
use Rattle.log_replay.specs.Things.{is_inode_told}
use Rattle.leaf_recovery.specs.declared.recovered_leaf.RecoveredLeaf.{RecoveredLeaf}
use Rattle.leaf_recovery.specs.Applied.{kept_after_told, put_leaf_told, without_ended, without_orphan_told, without_parts}
use Rattle.leaf_recovery.specs.Found.{leaf_at_node}
use Rattle.leaf_recovery.specs.Things.{becomes_leaf, ends_told, has_inode_told, is_idle_told, is_part_told, is_unlinked_told}
use Rattle.leaf_recovery.specs.Told.{Pairwise}
use Rattle.leaf_recovery.proofs.Pairs.{any_pairs, filter_pairs}
use Rattle.leaf_recovery.proofs.Rough.{becomes_is, change_told, ends_is, inode_is, inode_rough, part_is, rough, rough_of, shown_rough, shown_told, shows_rough, unlinked_is, unlinked_rough}
use Rattle.leaf_recovery.proofs.Telling.{KeptTold, NodeTold, kept_there, node_carries}

-- ---- a leaf that is put
pub put_pairs : (parts : Parts) (old : Kept → Bool) (content : NodeContent) (new : Kept) (new' : RecoveredLeaf) → KeptTold parts new new' → ((x : Kept) (r : RecoveredLeaf) → KeptTold parts x r → old x ≡ ends_told content r.content)
    → (xs : List Kept) (rs : List RecoveredLeaf) → Pairwise (KeptTold parts) xs rs → Pairwise (KeptTold parts) (put_leaf old new xs) (put_leaf_told content new' rs)
put_pairs parts old content new new' n same [] [] h = (n, tt)
put_pairs parts old content new new' n same [] (r ∷ rs) h = absurd h
put_pairs parts old content new new' n same (x ∷ xs) [] h = absurd h
put_pairs parts old content new new' n same (x ∷ xs) (r ∷ rs) h =
    by (old x) (ends_told content r.content) (same x r h.0) (nat_le (leaf_rank x.leaf) (leaf_rank new.leaf)) (nat_le (leaf_rank r.leaf) (leaf_rank new'.leaf)) ranks (put_pairs parts old content new new' n same xs rs h.1)
  where
    ranks : nat_le (leaf_rank x.leaf) (leaf_rank new.leaf) ≡ nat_le (leaf_rank r.leaf) (leaf_rank new'.leaf)
    ranks = ap (λ (l : Leaf). nat_le (leaf_rank l) (leaf_rank new.leaf)) (sym h.0.told.leaf) ∙ ap (λ (l : Leaf). nat_le (leaf_rank r.leaf) (leaf_rank l)) (sym n.told.leaf)

    by : (a b : Bool) → a ≡ b → (u v : Bool) → u ≡ v → Pairwise (KeptTold parts) (put_leaf old new xs) (put_leaf_told content new' rs)
        → Pairwise (KeptTold parts) (cond a (new ∷ xs) (cond u (x ∷ put_leaf old new xs) (new ∷ x ∷ xs))) (cond b (new' ∷ rs) (cond v (r ∷ put_leaf_told content new' rs) (new' ∷ r ∷ rs)))
    by true true e u v f more = (n, h.1)
    by false false e true true f more = (h.0, more)
    by false false e false false f more = (n, (h.0, h.1))
    by false false e true false f more = absurd cc
    by false false e false true f more = absurd cc
    by true false e u v f more = absurd cc
    by false true e u v f more = absurd cc

-- ---- what a node does
-- whether a change does nothing, by what is told of leaves
abbrev idle_by : List RecoveredLeaf → Option Change → Bool
idle_by rs (Some (SetBlock ino number bytes)) = not (has_inode_told rs ino)
idle_by rs other = false

idle_told : (rs : List RecoveredLeaf) (c : NodeContent) → is_idle_told rs c ≡ idle_by rs (change_told c)
idle_told rs (Inode a true) = refl
idle_told rs (Inode a false) = refl
idle_told rs (Block a k) = refl
idle_told rs (Entry p q true) = refl
idle_told rs (Entry p q false) = refl
idle_told rs (Truncation a z) = refl
idle_told rs (Unknown k true) = refl
idle_told rs (Unknown k false) = refl

inode_pair : (parts : Parts) (ino : ℕ) (x : Kept) (r : RecoveredLeaf) → KeptTold parts x r → is_inode ino (shown_by x) ≡ is_inode_told ino r.content
inode_pair parts ino x r t = sym (inode_is ino r.content ∙ ap (is_inode ino) t.shows ∙ inode_rough ino (shown_by x))

idle_pairs : (parts : Parts) (c : Change) (xs : List Kept) (rs : List RecoveredLeaf) → Pairwise (KeptTold parts) xs rs → is_idle xs c ≡ idle_by rs (Some (rough c))
idle_pairs parts (SetBlock ino number bytes) xs rs h = ap not (any_pairs (KeptTold parts) (λ x. is_inode ino (shown_by x)) (λ r. is_inode_told ino r.content) (inode_pair parts ino) xs rs h)
idle_pairs parts (SetInode a x) xs rs h = refl
idle_pairs parts (SetEntry e) xs rs h = refl
idle_pairs parts (DropEntry d n) xs rs h = refl
idle_pairs parts (CutBlocks a o n) xs rs h = refl
idle_pairs parts (DropInode a) xs rs h = refl

ends_pair : (parts : Parts) (content : NodeContent) (change : Option Change) → change_told content ≡ rough_of change → (x : Kept) (r : RecoveredLeaf) → KeptTold parts x r → shows_same change (shown_by x) ≡ ends_told content r.content
ends_pair parts content change e x r t =
    sym (ends_is content r.content ∙ ap (λ z. shows_same z (shown_told r.content)) e ∙ ap (shows_same (rough_of change)) t.shows ∙ shows_rough change (shown_by x))

all_stay : (xs : List Kept) → xs ≡ filter (λ (x : Kept). not false) xs
all_stay [] = refl
all_stay (x ∷ xs) = ap (λ z. x ∷ z) (all_stay xs)

pub node_pairs : (parts : Parts) (p : Placed) (j : JournalNode) → NodeTold parts p j → (xs : List Kept) (rs : List RecoveredLeaf) → Pairwise (KeptTold parts) xs rs → Pairwise (KeptTold parts) (kept_after xs p) (kept_after_told rs j)
node_pairs parts p j t xs rs h = by (change_of p.node) (node_carries parts p j t)
  where
    conds : (a b : Bool) → a ≡ b → (u v : Bool) → u ≡ v → (ks ls : List Kept) (qs ss : List RecoveredLeaf) → Pairwise (KeptTold parts) ks qs → Pairwise (KeptTold parts) ls ss
        → Pairwise (KeptTold parts) (cond a xs (cond u ks ls)) (cond b rs (cond v qs ss))
    conds true true e u v f ks ls qs ss k l = h
    conds false false e true true f ks ls qs ss k l = k
    conds false false e false false f ks ls qs ss k l = l
    conds false false e true false f ks ls qs ss k l = absurd cc
    conds false false e false true f ks ls qs ss k l = absurd cc
    conds true false e u v f ks ls qs ss k l = absurd cc
    conds false true e u v f ks ls qs ss k l = absurd cc

    neither : (b v : Bool) → b ≡ false → v ≡ false → (qs ss : List RecoveredLeaf) → Pairwise (KeptTold parts) xs ss → Pairwise (KeptTold parts) xs (cond b rs (cond v qs ss))
    neither false false e f qs ss l = l
    neither true v e f qs ss l = absurd cc
    neither false true e f qs ss l = absurd cc

    becomes : (change : Option Change) → change_told j.content ≡ rough_of change → is_shown change ≡ becomes_leaf j.content
    becomes change e = sym (becomes_is j.content ∙ ap is_shown e ∙ shown_rough change)

    left : (change : Option Change) → change_told j.content ≡ rough_of change → Pairwise (KeptTold parts) (filter (λ x. not (shows_same change (shown_by x))) xs) (without_ended j.content rs)
    left change e = filter_pairs (KeptTold parts) (λ x. not (shows_same change (shown_by x))) (λ r. not (ends_told j.content r.content)) (λ x r k. ap not (ends_pair parts j.content change e x r k)) xs rs h

    by : (change : Option Change) → change_told j.content ≡ rough_of change → Pairwise (KeptTold parts) (read change p xs) (kept_after_told rs j)
    by None e =
        neither (is_idle_told rs j.content) (becomes_leaf j.content) (idle_told rs j.content ∙ ap (idle_by rs) e) (sym (becomes None e)) (put_leaf_told j.content (leaf_at_node j) rs) (without_ended j.content rs)
        (subst (λ (zs : List Kept). Pairwise (KeptTold parts) zs (without_ended j.content rs)) (sym (all_stay xs)) (left None e))
    by (Some c) e =
        conds (is_idle xs c) (is_idle_told rs j.content) (idle_pairs parts c xs rs h ∙ sym (idle_told rs j.content ∙ ap (idle_by rs) e)) (is_set c) (becomes_leaf j.content) (becomes (Some c) e)
        (put_leaf (is_gone c) (kept_at p) xs) (filter (λ x. not (is_gone c x)) xs) (put_leaf_told j.content (leaf_at_node j) rs) (without_ended j.content rs)
        (put_pairs parts (is_gone c) j.content (kept_at p) (leaf_at_node j) (kept_there parts p j t) (ends_pair parts j.content (Some c) e) xs rs h) (left (Some c) e)

pub nodes_pairs : (parts : Parts) (ps : List Placed) (js : List JournalNode) → Pairwise (NodeTold parts) ps js → (xs : List Kept) (rs : List RecoveredLeaf) → Pairwise (KeptTold parts) xs rs
    → Pairwise (KeptTold parts) (fold kept_after xs ps) (fold kept_after_told rs js)
nodes_pairs parts [] [] t xs rs h = h
nodes_pairs parts [] (j ∷ js) t xs rs h = absurd t
nodes_pairs parts (p ∷ ps) [] t xs rs h = absurd t
nodes_pairs parts (p ∷ ps) (j ∷ js) t xs rs h = nodes_pairs parts ps js t.1 (kept_after xs p) (kept_after_told rs j) (node_pairs parts p j t.0 xs rs h)

-- ---- listed orphans
gone_pair : (parts : Parts) (ino : ℕ) (x : Kept) (r : RecoveredLeaf) → KeptTold parts x r → is_gone (DropInode ino) x ≡ is_part_told ino r.content
gone_pair parts ino x r t = sym (sym (part_is ino r.content) ∙ ap (shows_same (Some (DropInode ino))) t.shows ∙ shows_rough (Some (DropInode ino)) (shown_by x))

unlinked_pair : (parts : Parts) (ino : ℕ) (x : Kept) (r : RecoveredLeaf) → KeptTold parts x r → is_unlinked ino (shown_by x) ≡ is_unlinked_told ino r.content
unlinked_pair parts ino x r t = sym (unlinked_is ino r.content ∙ ap (is_unlinked ino) t.shows ∙ unlinked_rough ino (shown_by x))

orphan_pairs : (parts : Parts) (ino : ℕ) (xs : List Kept) (rs : List RecoveredLeaf) → Pairwise (KeptTold parts) xs rs → Pairwise (KeptTold parts) (without_orphan xs ino) (without_orphan_told rs ino)
orphan_pairs parts ino xs rs h =
    by (list_any (λ x. is_unlinked ino (shown_by x)) xs) (list_any (λ r. is_unlinked_told ino r.content) rs)
    (any_pairs (KeptTold parts) (λ x. is_unlinked ino (shown_by x)) (λ r. is_unlinked_told ino r.content) (unlinked_pair parts ino) xs rs h)
  where
    by : (a b : Bool) → a ≡ b → Pairwise (KeptTold parts) (cond a (filter (λ x. not (is_gone (DropInode ino) x)) xs) xs) (cond b (without_parts ino rs) rs)
    by true true e = filter_pairs (KeptTold parts) (λ x. not (is_gone (DropInode ino) x)) (λ r. not (is_part_told ino r.content)) (λ x r k. ap not (gone_pair parts ino x r k)) xs rs h
    by false false e = h
    by true false e = absurd cc
    by false true e = absurd cc

pub orphans_pairs : (parts : Parts) (listed : List ℕ) (xs : List Kept) (rs : List RecoveredLeaf) → Pairwise (KeptTold parts) xs rs → Pairwise (KeptTold parts) (fold without_orphan xs listed) (fold without_orphan_told rs listed)
orphans_pairs parts [] xs rs h = h
orphans_pairs parts (ino ∷ listed) xs rs h = orphans_pairs parts listed (without_orphan xs ino) (without_orphan_told rs ino) (orphan_pairs parts ino xs rs h)
