-- The leaves that are found have their keys, in order.
use Rattle.std.proofs.Common.{◌≡◌, ℕ, ◌≤◌, ◌^◌, ◌<◌, Bool, true, false, cond, List, [], ◌∷◌, refl, sym, ap, subst, ◌∙◌, arith, Option, Some, None}
use Rattle.std.specs.Prelude.{◌==◌, nat_le, filter}
use Rattle.std.specs.List.{AllByRecursion, find}
use Rattle.std.proofs.lemmas.Bool.{false≢true, and_parts, and_from, eqb-true, leb-true, le-leb}
use Rattle.ubifs_base.specs.declared.key.Key.{Key}
use Rattle.ubifs_base.specs.declared.key.Key.TheVariants.{Ino, Block, Dent, Xent}
use Rattle.media_leaf.specs.LeafNode.{IsLeaf, LeafNode, inode, block}
use Rattle.index_tree.specs.declared.leaf.Leaf.{Leaf}
use Rattle.index_tree.specs.Order.{leaf_rank, ordered_from}
use Rattle.fs_model.specs.declared.change.Change.{Change}
use Rattle.fs_model.specs.declared.change.Change.TheVariants.{SetInode, SetEntry, SetBlock}
use Rattle.group_nodes.specs.Nodes.{gone_inode, inode_node}
use Rattle.leaf_map.specs.Allowed.{IsReadLeaf}
use Rattle.leaf_map.specs.Kept.{Kept, Placed, kept_at, shown, shown_by}
use Rattle.leaf_map.specs.KeyedLaws.{node_keyed}
use Rattle.leaf_map.specs.LeafMap.{HasKeyOf, IsKeyed}
use Rattle.leaf_map.specs.Parts.{Committed, Parts, is_shown, own_node}
use Rattle.leaf_map.specs.RankLaws.{is_entry}
use Rattle.leaf_map.specs.Recovered.{copy_of_key, found_leaves, stand_in}
use Rattle.leaf_map.proofs.Ranks.{leaves}
use Rattle.leaf_map.proofs.Walk.{Walk, left, own_leaf, stand_leaf}

-- a copy that becomes a leaf
abbrev pub IsGood : Placed → Type 0
IsGood d = IsLeaf d.node × (is_shown (shown d.node) ≡ true)

pub find_passes : (p : Placed → Bool) (ds : List Placed) (d : Placed) → find p ds ≡ Some d → p d ≡ true
find_passes p [] d f = absurd cc
find_passes p (e ∷ ds) d f = by (find_passes p ds d) (p e) refl f
  where
    by : (find p ds ≡ Some d → p d ≡ true) → (b : Bool) → p e ≡ b → cond b (Some e) (find p ds) ≡ Some d → p d ≡ true
    by more true t g = let same : e ≡ d = cc g in subst (λ z. p z ≡ true) same t
    by more false t g = more g

pub find_all : (Q : Placed → Type 0) (p : Placed → Bool) (ds : List Placed) (d : Placed) → AllByRecursion Q ds → find p ds ≡ Some d → Q d
find_all Q p [] d a f = absurd cc
find_all Q p (e ∷ ds) d a f = by (find_all Q p ds d a.1) (p e) f
  where
    by : (find p ds ≡ Some d → Q d) → (b : Bool) → cond b (Some e) (find p ds) ≡ Some d → Q d
    by more true g = let same : e ≡ d = cc g in subst Q same a.0
    by more false g = more g

pub filter_all : (Q : Placed → Type 0) (p : Placed → Bool) (ds : List Placed) → AllByRecursion Q ds → AllByRecursion Q (filter p ds)
filter_all Q p [] a = tt
filter_all Q p (e ∷ ds) a = by (filter_all Q p ds a.1) (p e)
  where
    by : AllByRecursion Q (filter p ds) → (b : Bool) → AllByRecursion Q (cond b (e ∷ filter p ds) (filter p ds))
    by more true = (a.0, more)
    by more false = more

-- ---- one leaf
pub own_keyed : (parts : Parts) (x : Kept) (c : Committed) (n : Placed) → IsReadLeaf parts x c → own_node parts.named c ≡ Some n → IsKeyed x → IsKeyed (own_leaf c n)
own_keyed parts x c n pair e k =
    let first : HasKeyOf c.leaf (shown_by x) = subst (λ l. HasKeyOf l (shown_by x)) (sym pair.leaf) k in
    subst (λ z. HasKeyOf c.leaf (shown z)) (sym (pair.own n e)) first

good_keyed : (d : Placed) (s : Option Change) → shown d.node ≡ s → IsLeaf d.node → is_shown s ≡ true → HasKeyOf (kept_at d).leaf s
good_keyed d None e l h = absurd (false≢true h)
good_keyed d (Some change) e l h = node_keyed d.node (kept_at d).leaf change refl l e h

pub copy_keyed : (d : Placed) → IsGood d → IsKeyed (kept_at d)
copy_keyed d g = good_keyed d (shown d.node) refl g.0 g.1

-- a block's number has 29 bits
number_fits : (l : Leaf) (s : Option Change) (ino number : ℕ) → HasKeyOf l s → l.key ≡ Block ino number → number < 2 ^ 29
number_fits l (Some (SetInode a x)) ino number h e = let no : Ino a ≡ Block ino number = sym h ∙ e in absurd cc
number_fits l (Some (SetBlock a n x)) ino number h e =
    let same : Block a n ≡ Block ino number = sym h.0 ∙ e in
    let is : n ≡ number = cc in
    subst (λ (z : ℕ). z < 2 ^ 29) is h.1
number_fits l (Some (SetEntry f)) ino number h e = let no : Dent f.dir _ ≡ Block ino number = sym h ∙ e in absurd cc
number_fits l s ino number h e = absurd h

stand_is : (l : Leaf) (k : Key) (m : LeafNode) → l.key ≡ k → ((ino number : ℕ) → k ≡ Block ino number → number < 2 ^ 29) → stand_in k ≡ Some m → HasKeyOf l (shown m)
stand_is l (Ino ino) m e fits s = let same : inode (inode_node ino gone_inode) ≡ m = cc in subst (λ z. HasKeyOf l (shown z)) same e
stand_is l (Block ino number) m e fits s = let same : block (record { ino = ino; block = number; bytes = [] }) ≡ m = cc in subst (λ z. HasKeyOf l (shown z)) same (e, fits ino number refl)
stand_is l (Dent dir hash) m e fits s = absurd cc
stand_is l (Xent dir hash) m e fits s = absurd cc

pub stand_keyed : (x : Kept) (c : Committed) (m : LeafNode) → c.leaf ≡ x.leaf → IsKeyed x → stand_in c.leaf.key ≡ Some m → IsKeyed (stand_leaf c m)
stand_keyed x c m l k s = stand_is c.leaf c.leaf.key m refl (λ ino number e. number_fits c.leaf (shown_by x) ino number (subst (λ l. HasKeyOf l (shown_by x)) (sym l) k) e) s

pub stand_plain : (k : Key) (m : LeafNode) → stand_in k ≡ Some m → is_entry (shown m) ≡ false
stand_plain (Ino ino) m s = let same : inode (inode_node ino gone_inode) ≡ m = cc in subst (λ z. is_entry (shown z) ≡ false) same refl
stand_plain (Block ino number) m s = let same : block (record { ino = ino; block = number; bytes = [] }) ≡ m = cc in subst (λ z. is_entry (shown z) ≡ false) same refl
stand_plain (Dent dir hash) m s = absurd cc
stand_plain (Xent dir hash) m s = absurd cc

-- whether what is shown is no inode with links
abbrev pub has_no_link : Option Change → Bool
has_no_link (Some (SetInode ino node)) = node.nlink == 0
has_no_link s = true

pub stand_linkless : (k : Key) (m : LeafNode) → stand_in k ≡ Some m → has_no_link (shown m) ≡ true
stand_linkless (Ino ino) m s = let same : inode (inode_node ino gone_inode) ≡ m = cc in subst (λ z. has_no_link (shown z) ≡ true) same refl
stand_linkless (Block ino number) m s = let same : block (record { ino = ino; block = number; bytes = [] }) ≡ m = cc in subst (λ z. has_no_link (shown z) ≡ true) same refl
stand_linkless (Dent dir hash) m s = absurd cc
stand_linkless (Xent dir hash) m s = absurd cc

-- where there is none to stand in, a name was shown
pub gone_entry : (l : Leaf) (s : Option Change) → HasKeyOf l s → stand_in l.key ≡ None → is_entry s ≡ true
gone_entry l (Some (SetInode a x)) h g = let no = rw h at g in absurd cc
gone_entry l (Some (SetBlock a n x)) h g = let no = rw h.0 at g in absurd cc
gone_entry l (Some (SetEntry e)) h g = refl
gone_entry l s h g = absurd h

-- the copy that is found has the leaf's place
pub copy_place : (l : Leaf) (copies : List Placed) (d : Placed) → copy_of_key l copies ≡ Some d → leaf_rank (kept_at d).leaf ≡ leaf_rank l
copy_place l copies d f = eqb-true (leaf_rank (kept_at d).leaf) (leaf_rank l) (find_passes (λ c. leaf_rank (kept_at c).leaf == leaf_rank l) copies d f)

-- ---- all of them
abbrev pub AreKeyed : List Placed → List Kept → List Committed → List Kept → Type 0
AreKeyed copies ks cs found = AllByRecursion IsKeyed ks → AllByRecursion IsGood copies → AllByRecursion IsKeyed found

pub keyed_walk : (parts : Parts) → Walk parts.named (IsReadLeaf parts) AreKeyed
keyed_walk parts = record {
  done = λ copies k g. tt;
  own = λ copies ks cs x c n pair e more k g. (own_keyed parts x c n pair e k.0, more k.1 g);
  copy = λ copies ks cs x c d pair e f more k g. (copy_keyed d (find_all IsGood (λ c'. leaf_rank (kept_at c').leaf == leaf_rank c.leaf) copies d g f), more k.1 (filter_all IsGood _ copies g));
  stand = λ copies ks cs x c m pair e f s more k g. (stand_keyed x c m pair.leaf k.0 s, more k.1 g);
  gone = λ copies ks cs x c pair e f s more k g. more k.1 g;
}

ordered_low : (low mark : ℕ) (xs : List Leaf) → low ≤ mark → ordered_from mark xs ≡ true → ordered_from low xs ≡ true
ordered_low low mark [] l o = refl
ordered_low low mark (x ∷ xs) l o =
    let p = and_parts (nat_le mark (leaf_rank x)) (ordered_from (leaf_rank x) xs) o in
    let here = leb-true mark (leaf_rank x) p.0 in
    and_from (nat_le low (leaf_rank x)) (ordered_from (leaf_rank x) xs) (le-leb low (leaf_rank x) (omega (arith, l, here))) p.1

abbrev pub AreOrdered : List Placed → List Kept → List Committed → List Kept → Type 0
AreOrdered copies ks cs found = (low : ℕ) → ordered_from low (leaves ks) ≡ true → ordered_from low (leaves found) ≡ true

order_step : (y x : Kept) (ks found : List Kept) → leaf_rank y.leaf ≡ leaf_rank x.leaf → ((low : ℕ) → ordered_from low (leaves ks) ≡ true → ordered_from low (leaves found) ≡ true)
    → (low : ℕ) → ordered_from low (leaves (x ∷ ks)) ≡ true → ordered_from low (leaves (y ∷ found)) ≡ true
order_step y x ks found r more low o = rw r (let p = and_parts (nat_le low (leaf_rank x.leaf)) (ordered_from (leaf_rank x.leaf) (leaves ks)) o in and_from (nat_le low (leaf_rank x.leaf)) (ordered_from (leaf_rank x.leaf) (leaves found)) p.0 (more (leaf_rank x.leaf) p.1))

pub ordered_walk : (parts : Parts) → Walk parts.named (IsReadLeaf parts) AreOrdered
ordered_walk parts = record {
  done = λ copies low o. refl;
  own = λ copies ks cs x c n pair e more. order_step (own_leaf c n) x ks (found_leaves parts.named copies cs) (ap leaf_rank pair.leaf) more;
  copy = λ copies ks cs x c d pair e f more. order_step (kept_at d) x ks (found_leaves parts.named (left d copies) cs) (copy_place c.leaf copies d f ∙ ap leaf_rank pair.leaf) more;
  stand = λ copies ks cs x c m pair e f s more. order_step (stand_leaf c m) x ks (found_leaves parts.named copies cs) (ap leaf_rank pair.leaf) more;
  gone = λ copies ks cs x c pair e f s more low o.
      let p = and_parts (nat_le low (leaf_rank x.leaf)) (ordered_from (leaf_rank x.leaf) (leaves ks)) o in
      more low (ordered_low low (leaf_rank x.leaf) (leaves ks) (leb-true low (leaf_rank x.leaf) p.0) p.1);
}
