-- Leaves that are found have the keys of what they show, in order.
use Rattle.std.proofs.Common.{◌≡◌, ℕ, ◌≤◌, true, not, List, [], ◌∷◌, map, refl, sym, subst, ◌∙◌, arith, Option, Some, None}
use Rattle.std.specs.Prelude.{◌==◌, IsTrue, nat_le}
use Rattle.std.specs.List.{AllByRecursion, list_any}
use Rattle.std.specs.Option.{option_map}
use Rattle.std.proofs.lemmas.Bool.{and_parts, and_from, leb-true, le-leb}
use Rattle.ubifs_base.specs.declared.key.Key.{Key}
use Rattle.ubifs_base.specs.declared.key.Key.TheVariants.{Ino, Block, Dent, Xent}
use Rattle.ubifs_base.specs.Key.{IsKey}
use Rattle.media_leaf.specs.LeafNode.{LeafNode, inode, block}
use Rattle.index_tree.specs.declared.index.Index.{Index}
use Rattle.index_tree.specs.declared.leaf.Leaf.{Leaf}
use Rattle.index_tree.specs.Order.{leaf_rank, ordered_from}
use Rattle.index_tree.specs.Shape.{contents}
use Rattle.index_tree.specs.Tree.{shape}
use Rattle.fs_model.specs.declared.change.Change.{Change}
use Rattle.fs_model.specs.declared.change.Change.TheVariants.{SetInode, SetEntry, SetBlock}
use Rattle.group_nodes.specs.Nodes.{gone_inode, inode_node}
use Rattle.leaf_map.specs.Kept.{Kept, Placed, kept_at, shown}
use Rattle.leaf_map.specs.LeafMap.{HasKeyOf, IsKeyed, IsLeafMap, are_apart}
use Rattle.leaf_map.specs.Parts.{Committed, Parts, own_node}
use Rattle.leaf_map.specs.RankLaws.{key_of_place}
use Rattle.leaf_map.specs.Recovered.{copies_left, copy_of_key, is_original, leaves_found, spare_copies, stand_in}
use Rattle.log_replay.specs.Placing.{present_leaves}
use Rattle.log_replay.specs.Settling.{HasGrammar}
use Rattle.log_replay.specs.Standing.{leaves}
use Rattle.log_replay.specs.Told.{IsSetting}
use Rattle.log_replay.proofs.Founds.{HaveTrueKeys, at_copy, found_as, found_present, founds, present_one, true_keys, with_one}
use Rattle.log_replay.proofs.Owning.{owns}
use Rattle.log_replay.proofs.Ranked.{filter_setting, find_all, found_rank}
use Rattle.log_replay.proofs.Settles.{left_setting}
use Rattle.log_replay.proofs.Telling.{has_key}

-- a leaf that is found for a committed one has the key of what it shows, and the other's place in the order
record IsAt (leaf : Leaf) (x : Kept) : Type 0 where
  keyed : IsKeyed x
  rank : leaf_rank x.leaf ≡ leaf_rank leaf

with_key : (l m : Leaf) (s : Option Change) → l.key ≡ m.key → HasKeyOf l s → HasKeyOf m s
with_key l m (Some (SetInode ino x)) e h = sym e ∙ h
with_key l m (Some (SetBlock ino number x)) e h = (sym e ∙ h.0, h.1)
with_key l m (Some (SetEntry x)) e h = sym e ∙ h
with_key l m s e h = absurd h

stand_keyed : (leaf : Leaf) (node : LeafNode) → IsKey leaf.key → stand_in leaf.key ≡ Some node → HasKeyOf leaf (shown node)
stand_keyed leaf node k e = by leaf.key refl k e
  where
    by : (key : Key) → leaf.key ≡ key → IsKey key → stand_in key ≡ Some node → HasKeyOf leaf (shown node)
    by (Ino ino) h i s = let same : inode (inode_node ino gone_inode) ≡ node = cc in subst (λ (z : LeafNode). HasKeyOf leaf (shown z)) same h
    by (Block ino number) h i s = let same : block (record { ino = ino; block = number; bytes = [] }) ≡ node = cc in subst (λ (z : LeafNode). HasKeyOf leaf (shown z)) same (h, i.1)
    by (Dent dir hash) h i s = absurd cc
    by (Xent dir hash) h i s = absurd cc

one_at : (parts : Parts) (left : List Placed) (c : Committed) (own : Option Placed) → own_node parts.named c ≡ own → HasGrammar c → IsKey c.leaf.key → AllByRecursion (λ d. IsSetting d.node) left → (x : Kept) → found_as left c own ≡ Some x → IsAt c.leaf x
one_at parts left c own e g k all x f = by own e f
  where
    stand : (s : Option LeafNode) → stand_in c.leaf.key ≡ s → option_map (λ (node : LeafNode). record { leaf = c.leaf; sqnum = 0; node = node }) s ≡ Some x → IsAt c.leaf x
    stand None s f = absurd cc
    stand (Some node) s f = let same : record { leaf = c.leaf; sqnum = 0; node = node } ≡ x = cc in subst (IsAt c.leaf) same (record { keyed = stand_keyed c.leaf node k s; rank = refl })

    copy : (d : Option Placed) → copy_of_key c.leaf left ≡ d → at_copy c d ≡ Some x → IsAt c.leaf x
    copy None f h = stand (stand_in c.leaf.key) refl h
    copy (Some d) f h =
        let same : kept_at d ≡ x = cc in
        let is = find_all (λ z. IsSetting z.node) (λ z. leaf_rank (kept_at z).leaf == leaf_rank c.leaf) left d all f in
        subst (IsAt c.leaf) same (record { keyed = has_key d is; rank = found_rank (leaf_rank c.leaf) left d f })

    by : (own : Option Placed) → own_node parts.named c ≡ own → found_as left c own ≡ Some x → IsAt c.leaf x
    by (Some n) e f =
        let o = owns parts.named c n g e in
        let same : record { leaf = c.leaf; sqnum = n.sqnum; node = n.node } ≡ x = cc in
        let key = key_of_place (kept_at n).leaf (shown n.node) c.leaf.key (has_key n o.setting) k (sym o.one.rank) in
        subst (IsAt c.leaf) same (record { keyed = with_key (kept_at n).leaf c.leaf (shown n.node) key (has_key n o.setting); rank = refl })
    by None e f = copy (copy_of_key c.leaf left) refl f

-- what is below a mark is below all that is in order from there on
ordered_low : (low mark : ℕ) (xs : List Leaf) → low ≤ mark → ordered_from mark xs ≡ true → ordered_from low xs ≡ true
ordered_low low mark [] l o = refl
ordered_low low mark (x ∷ xs) l o =
    let p = and_parts (nat_le mark (leaf_rank x)) (ordered_from (leaf_rank x) xs) o in
    let here = leb-true mark (leaf_rank x) p.0 in
    and_from (nat_le low (leaf_rank x)) (ordered_from (leaf_rank x) xs) (le-leb low (leaf_rank x) (omega (arith, l, here))) p.1

-- leaves of an index as they are found: each has its key, and they are in order
record AreInOrder (cs : List Committed) (kept : List Kept) : Type 0 where
  keyed : AllByRecursion IsKeyed kept
  ordered : (low : ℕ) → ordered_from low (map (λ c. c.leaf) cs) ≡ true → ordered_from low (leaves kept) ≡ true

one_more : (c : Committed) (cs : List Committed) (k : Option Kept) (kept : List Kept) → ((x : Kept) → k ≡ Some x → IsAt c.leaf x) → AreInOrder cs kept → AreInOrder (c ∷ cs) (with_one k kept)
one_more c cs None kept at more = record {
  keyed = more.keyed;
  ordered = λ low o.
      let p = and_parts (nat_le low (leaf_rank c.leaf)) (ordered_from (leaf_rank c.leaf) (map (λ c. c.leaf) cs)) o in
      more.ordered low (ordered_low low (leaf_rank c.leaf) (map (λ c. c.leaf) cs) (leb-true low (leaf_rank c.leaf) p.0) p.1);
}
one_more c cs (Some x) kept at more = record {
  keyed = ((at x refl).keyed, more.keyed);
  ordered = λ low o. rw (at x refl).rank (let p = and_parts (nat_le low (leaf_rank c.leaf)) (ordered_from (leaf_rank c.leaf) (map (λ c. c.leaf) cs)) o in
      and_from (nat_le low (leaf_rank c.leaf)) (ordered_from (leaf_rank c.leaf) (leaves kept)) p.0 (more.ordered (leaf_rank c.leaf) p.1));
}

in_order_all : (parts : Parts) (left : List Placed) (cs : List Committed) → AllByRecursion HasGrammar cs → HaveTrueKeys cs → AllByRecursion (λ d. IsSetting d.node) left → AreInOrder cs (present_leaves (founds parts left cs))
in_order_all parts left [] g k all = record { keyed = tt; ordered = λ low o. refl }
in_order_all parts left (c ∷ cs) g k all =
    let own = own_node parts.named c in
    let rest = founds parts (copies_left left c own) cs in
    subst (AreInOrder (c ∷ cs)) (sym (present_one (record { leaf = c.leaf; kept = found_as left c own }) rest))
    (one_more c cs (found_as left c own) (present_leaves rest) (λ x f. one_at parts left c own refl g.0 k.0 all x f) (in_order_all parts (copies_left left c own) cs g.1 k.1 (left_setting parts c left own all)))

-- so they are those of an index, if no two show the same
pub found_of_index : (parts : Parts) (index : Index) → contents (shape index.root) ≡ map (λ c. c.leaf) parts.committed → AllByRecursion HasGrammar parts.committed → AllByRecursion (λ c. IsSetting c.node) parts.copies
    → IsTrue (are_apart (leaves_found parts)) → IsLeafMap (leaves_found parts)
found_of_index parts index i g set apart =
    let spare = filter_setting (λ c. not (list_any (is_original parts.named c) parts.committed)) parts.copies set in
    let all = in_order_all parts (spare_copies parts) parts.committed g (true_keys parts.committed (contents (shape index.root)) i index.keyed) spare in
    let here : AreInOrder parts.committed (leaves_found parts) = subst (AreInOrder parts.committed) (found_present parts (spare_copies parts) parts.committed) all in
    record { keyed = here.keyed; ordered = here.ordered 0 (subst (λ (xs : List Leaf). ordered_from 0 xs ≡ true) i index.ordered); apart = apart }
