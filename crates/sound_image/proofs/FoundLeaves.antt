-- The leaves that are found are those of an index, where no two show the same.
use Rattle.std.proofs.Common.{◌≡◌, ℕ, ◌≤◌, nat_le, Bool, true, false, cond, not, List, [], ◌∷◌, ◌++◌, map, filter, Option, Some, None, refl, ap, sym, ◌∙◌, subst, arith}
use Rattle.std.specs.Prelude.{◌==◌, ◌&&◌, if◌then◌else◌}
use Rattle.std.specs.List.{AllByRecursion, find, list_any}
use Rattle.std.specs.Option.{option_map}
use Rattle.std.proofs.lemmas.Bool.{eqb-true, le-leb, leb-true}
use Rattle.std.proofs.lemmas.List.Elements.{recursion_from_All}
use Rattle.ubifs_base.specs.Key.{IsKey, key_words}
use Rattle.ubifs_base.specs.R5.{r5_of}
use Rattle.ubifs_base.specs.declared.key.Key.{Key}
use Rattle.ubifs_base.specs.declared.key.Key.TheVariants.{Ino, Block, Dent, Xent}
use Rattle.media_leaf.specs.LeafNode.{IsLeaf, LeafNode, inode, block, entry, truncation}
use Rattle.index_tree.specs.Keyed.{HasKey, HaveKeys}
use Rattle.index_tree.specs.Order.{key_rank, leaf_rank, ordered_from}
use Rattle.index_tree.specs.Removal.{same_leaf}
use Rattle.index_tree.specs.declared.leaf.Leaf.{Leaf}
use Rattle.fs_model.specs.declared.change.Change.{Change}
use Rattle.fs_model.specs.declared.change.Change.TheVariants.{SetBlock, SetEntry, SetInode, DropEntry}
use Rattle.fs_model.specs.declared.inode.Kind.{Kind}
use Rattle.group_nodes.specs.Nodes.{bits_of, gone_inode, inode_node, inode_of, kind_of_bits, kind_of_type}
use Rattle.leaf_map.specs.Kept.{Kept, Placed, kept_at, node_key, shown}
use Rattle.leaf_map.specs.LeafMap.{HasKeyOf, IsKeyed, IsLeafMap, are_apart, shows_same}
use Rattle.leaf_map.specs.Parts.{Committed, Named, Parts, in_bud, is_own, is_shown, own_node}
use Rattle.leaf_map.specs.RankLaws.{key_of_place}
use Rattle.leaf_map.specs.Recovered.{copies_left, copy_of_key, found_leaves, is_original, leaf_found_for, leaves_found, spare_copies, stand_in}
use Rattle.log_replay.specs.Settling.{HasGrammar}
use Rattle.log_replay.specs.Told.{IsSetting}
use Rattle.sound_image.proofs.Lists.{two_true}

-- a node that sets something has the key of what it shows
pub shown_key : (node : LeafNode) (leaf : Leaf) → IsLeaf node → is_shown (shown node) ≡ true → leaf.key ≡ node_key node → HasKeyOf leaf (shown node)
shown_key (inode node) leaf is set e = by (kind_of_bits (bits_of node.mode)) set
  where
    by : (k : Option Kind) → is_shown (option_map (λ kind. SetInode node.ino (inode_of node kind)) k) ≡ true → HasKeyOf leaf (option_map (λ kind. SetInode node.ino (inode_of node kind)) k)
    by None h = absurd cc
    by (Some kind) h = e
shown_key (block node) leaf is set e = (e, is.block_fits)
shown_key (entry node) leaf is set e = by node.attribute (node.inum == 0) (kind_of_type node.kind) set e
  where
    by : (a z : Bool) (k : Option Kind)
        → is_shown (if a then None else if z then Some (DropEntry node.dir node.name) else option_map (λ kind. SetEntry (record { dir = node.dir; name = node.name; ino = node.inum; kind = kind })) k) ≡ true
        → leaf.key ≡ (if a then Xent node.dir (r5_of node.name) else Dent node.dir (r5_of node.name))
        → HasKeyOf leaf (if a then None else if z then Some (DropEntry node.dir node.name) else option_map (λ kind. SetEntry (record { dir = node.dir; name = node.name; ino = node.inum; kind = kind })) k)
    by true z k h f = absurd cc
    by false true k h f = absurd cc
    by false false None h f = absurd cc
    by false false (Some kind) h f = f
shown_key (truncation node) leaf is set e = absurd cc

pub setting_key : (x : Placed) → IsSetting x.node → HasKeyOf (kept_at x).leaf (shown x.node)
setting_key x is = shown_key x.node (kept_at x).leaf is.leaf is.shown refl

with_key : (l m : Leaf) (s : Option Change) → l.key ≡ m.key → HasKeyOf l s → HasKeyOf m s
with_key l m (Some (SetInode ino x)) e h = sym e ∙ h
with_key l m (Some (SetBlock ino number x)) e h = (sym e ∙ h.0, h.1)
with_key l m (Some (SetEntry x)) e h = sym e ∙ h
with_key l m s e h = absurd h

-- ---- a leaf at its own node
same_rank : (x y : Leaf) → same_leaf x y ≡ true → leaf_rank x ≡ leaf_rank y
unfolding same_leaf
same_rank x y h = by (leaf_rank x == leaf_rank y) refl h
  where
    by : (b : Bool) → (leaf_rank x == leaf_rank y) ≡ b → cond b (cond (x.lnum == y.lnum) (cond (x.offs == y.offs) (x.len == y.len) false) false) false ≡ true → leaf_rank x ≡ leaf_rank y
    by true e t = eqb-true (leaf_rank x) (leaf_rank y) e
    by false e t = absurd cc

-- a leaf's own node sets something, at the leaf's place in the order
pub record IsOwnOf (c : Committed) (own : Placed) : Type 0 where
  pub setting : IsSetting own.node
  pub rank : leaf_rank c.leaf ≡ leaf_rank (kept_at own).leaf

pub own_of : (named : List Named) (c : Committed) (own : Placed) → HasGrammar c → own_node named c ≡ Some own → IsOwnOf c own
own_of named c own g e = by c.found g e
  where
    test : (found : Placed) → IsLeaf found.node → (b : Bool) → is_own named c.leaf found ≡ b → cond b (Some found) None ≡ Some own → IsOwnOf c own
    test found leaf false o f = absurd cc
    test found leaf true o f =
        let same : found ≡ own = cc in
        let p = two_true (not (in_bud named c.leaf) && is_shown (shown found.node)) (same_leaf c.leaf (kept_at found).leaf) o in
        let q = two_true (not (in_bud named c.leaf)) (is_shown (shown found.node)) p.0 in
        subst (IsOwnOf c) same (record { setting = record { leaf = leaf; shown = q.1 }; rank = same_rank c.leaf (kept_at found).leaf p.1 })

    by : (found : Option Placed) → HasGrammar (record { leaf = c.leaf; found = found }) → own_node named (record { leaf = c.leaf; found = found }) ≡ Some own → IsOwnOf c own
    by None g f = absurd cc
    by (Some found) g f = test found g (is_own named c.leaf found) refl f

-- ---- a leaf that is found
-- it has the key of what it shows, which is the committed leaf's
record IsFoundFor (leaf : Leaf) (x : Kept) : Type 0 where
  keyed : IsKeyed x
  key : x.leaf.key ≡ leaf.key

stand_keyed : (leaf : Leaf) (key : Key) (node : LeafNode) → leaf.key ≡ key → IsKey key → stand_in key ≡ Some node → HasKeyOf leaf (shown node)
stand_keyed leaf (Ino ino) node h i s = let same : inode (inode_node ino gone_inode) ≡ node = cc in subst (λ (z : LeafNode). HasKeyOf leaf (shown z)) same h
stand_keyed leaf (Block ino number) node h i s = let same : block (record { ino = ino; block = number; bytes = [] }) ≡ node = cc in subst (λ (z : LeafNode). HasKeyOf leaf (shown z)) same (h, i.1)
stand_keyed leaf (Dent dir hash) node h i s = absurd cc
stand_keyed leaf (Xent dir hash) node h i s = absurd cc

find_all : (Q : Placed → Type 0) (p : Placed → Bool) (ds : List Placed) (d : Placed) → AllByRecursion Q ds → find p ds ≡ Some d → Q d × (p d ≡ true)
find_all Q p [] d a f = absurd cc
find_all Q p (e ∷ ds) d a f = by (find_all Q p ds d a.1) (p e) refl f
  where
    by : (find p ds ≡ Some d → Q d × (p d ≡ true)) → (b : Bool) → p e ≡ b → cond b (Some e) (find p ds) ≡ Some d → Q d × (p d ≡ true)
    by more true t g = let same : e ≡ d = cc in subst (λ (z : Placed). Q z × (p z ≡ true)) same (a.0, t)
    by more false t g = more g

abbrev pub AreSetting : List Placed → Type 0
AreSetting nodes = AllByRecursion (λ d. IsSetting d.node) nodes

pub filter_setting : (p : Placed → Bool) (xs : List Placed) → AreSetting xs → AreSetting (filter p xs)
filter_setting p [] a = tt
filter_setting p (x ∷ xs) a = by (p x) (filter_setting p xs a.1)
  where
    by : (b : Bool) → AreSetting (filter p xs) → AreSetting (cond b (x ∷ filter p xs) (filter p xs))
    by true more = (a.0, more)
    by false more = more

left_setting : (copies : List Placed) (c : Committed) (own : Option Placed) → AreSetting copies → AreSetting (copies_left copies c own)
left_setting copies c (Some own) all = all
left_setting copies c None all = by (copy_of_key c.leaf copies) refl
  where
    by : (d : Option Placed) → copy_of_key c.leaf copies ≡ d → AreSetting (copies_left copies c None)
    by None f = rw f all
    by (Some d) f = rw f (filter_setting (λ z. not (shows_same (shown d.node) (shown z.node))) copies all)

found_one : (named : List Named) (copies : List Placed) (c : Committed) (own : Option Placed) → own_node named c ≡ own → HasGrammar c → IsKey c.leaf.key → AreSetting copies → AllByRecursion (IsFoundFor c.leaf) (leaf_found_for copies c own)
found_one named copies c (Some own) e g k all =
    let is = own_of named c own g e in
    let key = key_of_place (kept_at own).leaf (shown own.node) c.leaf.key (setting_key own is.setting) k (sym is.rank) in
    (record { keyed = with_key (kept_at own).leaf c.leaf (shown own.node) key (setting_key own is.setting); key = refl }, tt)
found_one named copies c None e g k all = copy (copy_of_key c.leaf copies) refl
  where
    stand : (s : Option LeafNode) → stand_in c.leaf.key ≡ s → copy_of_key c.leaf copies ≡ None → AllByRecursion (IsFoundFor c.leaf) (leaf_found_for copies c None)
    stand None s f = rw (f, s) tt
    stand (Some node) s f = rw (f, s) (record { keyed = stand_keyed c.leaf c.leaf.key node refl k s; key = refl }, tt)

    copy : (d : Option Placed) → copy_of_key c.leaf copies ≡ d → AllByRecursion (IsFoundFor c.leaf) (leaf_found_for copies c None)
    copy None f = stand (stand_in c.leaf.key) refl f
    copy (Some d) f =
        let is = find_all (λ z. IsSetting z.node) (λ z. leaf_rank (kept_at z).leaf == leaf_rank c.leaf) copies d all f in
        let rank = eqb-true (leaf_rank (kept_at d).leaf) (leaf_rank c.leaf) is.1 in
        rw f (record { keyed = setting_key d is.0; key = key_of_place (kept_at d).leaf (shown d.node) c.leaf.key (setting_key d is.0) k rank }, tt)

-- ---- all of them
-- a leaf's key names no number above this one
abbrev pub IsNumbered : ℕ → Leaf → Type 0
IsNumbered most leaf = (key_words leaf.key).0 ≤ most

-- leaves have the keys of what they show, in the order of these committed ones and with their numbers
record AreFoundFor (leaves : List Leaf) (kept : List Kept) : Type 0 where
  keyed : AllByRecursion IsKeyed kept
  ordered : (low : ℕ) → ordered_from low leaves ≡ true → ordered_from low (map (λ x. x.leaf) kept) ≡ true
  numbered : (most : ℕ) → AllByRecursion (IsNumbered most) leaves → AllByRecursion (λ x. IsNumbered most x.leaf) kept

and_true : (a b : Bool) → a ≡ true → b ≡ true → (a && b) ≡ true
and_true a b e f = rw (e, f) refl

lower : (low high : ℕ) (leaves : List Leaf) → low ≤ high → ordered_from high leaves ≡ true → ordered_from low leaves ≡ true
lower low high [] le h = refl
lower low high (x ∷ leaves) le h =
    let p = two_true (nat_le high (leaf_rank x)) (ordered_from (leaf_rank x) leaves) h in
    let q = leb-true high (leaf_rank x) p.0 in
    and_true (nat_le low (leaf_rank x)) (ordered_from (leaf_rank x) leaves) (le-leb low (leaf_rank x) (omega (arith, le, q))) p.1

join_found : (leaf : Leaf) (leaves : List Leaf) (front rest : List Kept) → AllByRecursion (IsFoundFor leaf) front → AreFoundFor leaves rest → AreFoundFor (leaf ∷ leaves) (front ++ rest)
join_found leaf leaves [] rest a more = record {
  keyed = more.keyed;
  ordered = λ low o.
      let p = two_true (nat_le low (leaf_rank leaf)) (ordered_from (leaf_rank leaf) leaves) o in
      lower low (leaf_rank leaf) (map (λ x. x.leaf) rest) (leb-true low (leaf_rank leaf) p.0) (more.ordered (leaf_rank leaf) p.1);
  numbered = λ most n. more.numbered most n.1;
}
join_found leaf leaves (x ∷ front) rest a more =
    let inner = join_found leaf leaves front rest a.1 more in
    let rank : leaf_rank x.leaf ≡ leaf_rank leaf = ap key_rank a.0.key in
    record {
      keyed = (a.0.keyed, inner.keyed);
      ordered = λ low o.
          let p = two_true (nat_le low (leaf_rank leaf)) (ordered_from (leaf_rank leaf) leaves) o in
          let here : nat_le low (leaf_rank x.leaf) ≡ true = ap (λ (n : ℕ). nat_le low n) rank ∙ p.0 in
          let again : ordered_from (leaf_rank leaf) (leaf ∷ leaves) ≡ true = and_true (nat_le (leaf_rank leaf) (leaf_rank leaf)) (ordered_from (leaf_rank leaf) leaves) (le-leb (leaf_rank leaf) (leaf_rank leaf) (omega arith)) p.1 in
          let behind = ap (λ (n : ℕ). ordered_from n (map (λ y. y.leaf) (front ++ rest))) rank ∙ inner.ordered (leaf_rank leaf) again in
          and_true (nat_le low (leaf_rank x.leaf)) (ordered_from (leaf_rank x.leaf) (map (λ y. y.leaf) (front ++ rest))) here behind;
      numbered = λ most n. (subst (λ (k : Key). (key_words k).0 ≤ most) (sym a.0.key) n.0, inner.numbered most n);
    }

all_found : (named : List Named) (copies : List Placed) (cs : List Committed) → AllByRecursion HasGrammar cs → AllByRecursion (λ c. IsKey c.leaf.key) cs → AreSetting copies → AreFoundFor (map (λ c. c.leaf) cs) (found_leaves named copies cs)
all_found named copies [] g k all = record { keyed = tt; ordered = λ low o. o; numbered = λ most n. tt }
all_found named copies (c ∷ cs) g k all =
    join_found c.leaf (map (λ d. d.leaf) cs) (leaf_found_for copies c (own_node named c)) (found_leaves named (copies_left copies c (own_node named c)) cs) (found_one named copies c (own_node named c) refl g.0 k.0 all)
    (all_found named (copies_left copies c (own_node named c)) cs g.1 k.1 (left_setting copies c (own_node named c) all))

true_keys : (cs : List Committed) → AllByRecursion (λ (x : Leaf). IsKey x.key) (map (λ c. c.leaf) cs) → AllByRecursion (λ c. IsKey c.leaf.key) cs
true_keys [] h = tt
true_keys (c ∷ cs) h = (h.0, true_keys cs h.1)

-- So they are those of an index, given committed leaves in order, nodes of the grammar at their places, and copies that each set something.
pub found_of_index : (parts : Parts) → HaveKeys (map (λ c. c.leaf) parts.committed) → ordered_from 0 (map (λ c. c.leaf) parts.committed) ≡ true → AllByRecursion HasGrammar parts.committed → AreSetting parts.copies
    → are_apart (leaves_found parts) ≡ true → IsLeafMap (leaves_found parts)
found_of_index parts keys ordered g set apart =
    let spare = filter_setting (λ c. not (list_any (is_original parts.named c) parts.committed)) parts.copies set in
    let all = all_found parts.named (spare_copies parts) parts.committed g (true_keys parts.committed (recursion_from_All HasKey (map (λ c. c.leaf) parts.committed) keys)) spare in
    record { keyed = all.keyed; ordered = all.ordered 0 ordered; apart = apart }

-- and none of them names a number above those of the committed ones
pub found_numbers : (parts : Parts) (most : ℕ) → HaveKeys (map (λ c. c.leaf) parts.committed) → AllByRecursion HasGrammar parts.committed → AreSetting parts.copies → AllByRecursion (IsNumbered most) (map (λ c. c.leaf) parts.committed)
    → AllByRecursion (λ x. IsNumbered most x.leaf) (leaves_found parts)
found_numbers parts most keys g set numbered =
    let spare = filter_setting (λ c. not (list_any (is_original parts.named c) parts.committed)) parts.copies set in
    let all = all_found parts.named (spare_copies parts) parts.committed g (true_keys parts.committed (recursion_from_All HasKey (map (λ c. c.leaf) parts.committed) keys)) spare in
    all.numbered most numbered
